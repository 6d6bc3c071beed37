-- In each direction of a conversation messages come once and in order, and endings last.
use Rattle.std.proofs.Common.{◌≡◌, ◌⊎◌, ℕ, ◌+◌, ◌-◌, ◌==◌, ◌&&◌, if◌then◌else◌, not, Bool, true, false, cond, List, [], ◌∷◌, ◌++◌, length, Option, Some, None, inl, inr, refl, sym, ◌∙◌, ap, subst, arith, eq-eqb, eqb-true, ltb-true, append_assoc}
use Rattle.std.specs.Prelude.{nat_lt, IsSomeAnd, ◌||◌, option_map}
use Rattle.std.specs.List.{cons_option}
use Rattle.std.proofs.lemmas.Bool.{cases_Bool, cond_both, and_parts, and_from, or_left, or_right}
use Rattle.std.proofs.lemmas.List.{length-append, append-nil}
use Rattle.xa_types.specs.declared.ids.RequestId.{RequestId}
use Rattle.xa_types.specs.declared.ids.CallerId.{CallerId}
use Rattle.xa_types.specs.declared.ids.Generation.{Generation}
use Rattle.xa_types.specs.declared.setup.Setup.{Setup}
use Rattle.xa_types.specs.declared.data.Data.{Data}
use Rattle.xa_types.specs.declared.call.Mode.{Mode}
use Rattle.xa_types.specs.declared.call.Mode.TheVariants.{Reply, NoReply, ConvReceives, ConvSends}
use Rattle.xa_events.specs.declared.event.Accepted.{Accepted}
use Rattle.xa_events.specs.declared.event.Forwarded.{Forwarded}
use Rattle.xa_events.specs.Caller.{is_conversational}
use Rattle.xa_events.specs.Request.{SentAs, sent_as, sent_after}
use Rattle.xa_events.specs.declared.event.Event.{Event}
use Rattle.xa_events.specs.declared.event.Event.TheVariants.{Accept, Take, Forward, Sweep, End, Send, Receive, Break}
use Rattle.xa_events.specs.declared.event.Item.{Item}
use Rattle.xa_events.specs.declared.event.Item.TheVariants.{Message as MessageItem, Ending}
use Rattle.xa_events.specs.declared.event.Doing.{Doing}
use Rattle.xa_events.specs.declared.event.Doing.TheVariants.{Busy}
use Rattle.xa_events.specs.Words.{same_request, has, from_each, AtEach, Was}
use Rattle.xa_events.specs.State.{State, opening, noted, caller_of}
use Rattle.xa_events.specs.Server.{doing, held_in, in_hand}
use Rattle.xa_events.specs.Cases.{Case, HasOpen, HasControl, BeganAt, StandsIn}
use Rattle.xa_events.specs.Conversation.{Side, other_side, same_side, broken, side_from, side_of, EndDone, end_done, after_send, after_item, IsSent, Told, IsClosing, Finds, break_in, is_begun, begins_with, gives_first, TurnIs}
use Rattle.xa_events.specs.Conversation.Side.{Originator, Service}
use Rattle.xa_events.specs.Laws.{Message, item_in}
use Rattle.xa_events.proofs.WordsLemmas.{if_some, same_request_is, same_request_of}
use Rattle.xa_events.proofs.Stages.{Stage, moves, stage_by, stage, Found, Agree, found, stays}
use Rattle.xa_events.proofs.Stages.Stage.{Unknown, Waits, Held, Over}

-- ---- the messages of an end, by the side that the cases name

-- the event is by that end of that conversation
abbrev pub is_by : Side → RequestId → ℕ → RequestId → List Event → Bool
is_by side request by named before = same_request named request && same_side side (side_of by request before)

abbrev pub sent_in : Side → RequestId → Event → List Event → List Message
sent_in side request (Send s) before = if is_by side request s.by.0 s.request before then (s.payload, s.passes) ∷ [] else []
sent_in side request _ before = []

abbrev pub heard_in : Side → RequestId → Event → List Event → List Message
heard_in side request (Receive r) before = if is_by side request r.by.0 r.request before then item_in r.item else []
heard_in side request _ before = []

unfoldable pub messages : Side → RequestId → List Event → List Message
messages side request past = from_each (sent_in side request) past

unfoldable pub heard : Side → RequestId → List Event → List Message
heard side request past = from_each (heard_in side request) past

abbrev pub InOrder : List Event → Type 0
InOrder past = (side : Side) (request : RequestId) → (rest : List Message) × (messages (other_side side) request past ≡ heard side request past ++ rest)

-- an end that receives an ending has received all that the other end sent
abbrev pub HeardAll : Event → List Event → Type 0
HeardAll (Receive r) before = item_in r.item ≡ [] → messages (other_side (side_of r.by.0 r.request before)) r.request before ≡ heard (side_of r.by.0 r.request before) r.request before
HeardAll _ before = Unit {0}

-- ---- lists

pub same_length : {X : Type 0} (xs ys us vs : List X) → length xs ≡ length us → xs ++ ys ≡ us ++ vs → ys ≡ vs
same_length [] ys [] vs l is = is
same_length [] ys (u ∷ us) vs l is = absurd (omega (arith, l))
same_length (x ∷ xs) ys [] vs l is = absurd (omega (arith, l))
same_length (x ∷ xs) ys (u ∷ us) vs l is = let rest : xs ++ ys ≡ us ++ vs = cc is in same_length xs ys us vs (omega (arith, l)) rest

none_left : {X : Type 0} (xs : List X) → length xs ≡ 0 → xs ≡ []
none_left [] h = refl
none_left (x ∷ xs) h = absurd (omega (arith, h))

if_length : {X : Type 0} (b : Bool) (x : X) → length (if b then x ∷ [] else []) ≡ (if b then 1 else 0)
if_length true x = refl
if_length false x = refl

-- ---- sides

pub same_side-is : (a b : Side) → same_side a b ≡ true → a ≡ b
same_side-is Originator Originator h = refl
same_side-is Service Service h = refl
same_side-is Originator Service h = absurd (cc h)
same_side-is Service Originator h = absurd (cc h)

pub same_side-self : (a : Side) → same_side a a ≡ true
same_side-self Originator = refl
same_side-self Service = refl

-- the originator's end is the request's caller's
pub its_caller : (c : ℕ) (request : RequestId) (breaks : List RequestId) → side_from c request breaks ≡ Originator → c ≡ request.caller.0
its_caller c request breaks h =
    elim (cases_Bool (c == request.caller.0)) [
      | inl y ↦ eqb-true c request.caller.0 y
      | inr n ↦ let is : side_from c request breaks ≡ Service = ap (λ b. if b && not (has request breaks) then Originator else Service) n in absurd (cc (h, is))
    ]

-- ---- one event more

-- what the event does at that end, the caller does
abbrev pub Acts : ℕ → Side → RequestId → Event → List Event → Type 0
Acts c side r (Send s) past = is_by side r s.by.0 s.request past ≡ true → s.by.0 ≡ c
Acts c side r (Receive q) past = is_by side r q.by.0 q.request past ≡ true → q.by.0 ≡ c
Acts c side r _ past = Unit {0}

-- the event does nothing at that end
abbrev pub Silent : Side → RequestId → Event → List Event → Type 0
Silent side r (Send s) past = is_by side r s.by.0 s.request past ≡ false
Silent side r (Receive q) past = is_by side r q.by.0 q.request past ≡ false
Silent side r _ past = Unit {0}

abbrev pub at_end : ℕ → Side → RequestId → ℕ → RequestId → List Event → Bool
at_end c side r by named past = (by == c) && (same_request named r && same_side side (side_of c r past))

pub same_condition : (c by : ℕ) (side : Side) (r named : RequestId) (past : List Event) → (is_by side r by named past ≡ true → by ≡ c) → at_end c side r by named past ≡ is_by side r by named past
same_condition c by side r named past acts =
    elim (cases_Bool (by == c)) [
      | inl y ↦ subst (λ (k : ℕ). at_end k side r by named past ≡ is_by side r by named past) (eqb-true by c y) (ap (λ b. b && is_by side r by named past) (eq-eqb by by refl))
      | inr n ↦
          let none : is_by side r by named past ≡ false = elim (cases_Bool (is_by side r by named past)) [ inl h ↦ let same = eq-eqb by c (acts h) in absurd (cc (same, n)) | inr f ↦ f ] in
          ap (λ b. b && (same_request named r && same_side side (side_of c r past))) n ∙ sym none
    ]

-- as many messages as the caller sent and received at that end
abbrev Tally : ℕ → Side → RequestId → List Event → Type 0
Tally c side r past = (length (messages side r past) ≡ (end_done c side r past).sent) × (length (heard side r past) ≡ (end_done c side r past).received)

sent_grows : (b : Bool) (xs : List Message) (m : Message) (passes : Bool) (d : EndDone) → length xs ≡ d.sent → length (xs ++ (if b then m ∷ [] else [])) ≡ (if b then after_send passes d else d).sent
sent_grows true xs m passes d h = length-append xs (m ∷ []) ∙ ap (λ n. n + 1) h
sent_grows false xs m passes d h = ap length (append-nil xs) ∙ h

sent_hears : (b : Bool) (xs : List Message) (passes : Bool) (d : EndDone) → length xs ≡ d.received → length (xs ++ []) ≡ (if b then after_send passes d else d).received
sent_hears true xs passes d h = ap length (append-nil xs) ∙ h
sent_hears false xs passes d h = ap length (append-nil xs) ∙ h

item_grows : (item : Item) (xs : List Message) (d : EndDone) → length xs ≡ d.received → length (xs ++ item_in item) ≡ (after_item item d).received
item_grows (MessageItem payload passes) xs d h = length-append xs ((payload, passes) ∷ []) ∙ ap (λ n. n + 1) h
item_grows (Ending event code payload) xs d h = ap length (append-nil xs) ∙ h

item_sends : (item : Item) (xs : List Message) (d : EndDone) → length xs ≡ d.sent → length (xs ++ []) ≡ (after_item item d).sent
item_sends (MessageItem payload passes) xs d h = ap length (append-nil xs) ∙ h
item_sends (Ending event code payload) xs d h = ap length (append-nil xs) ∙ h

heard_grows : (b : Bool) (xs : List Message) (item : Item) (d : EndDone) → length xs ≡ d.received → length (xs ++ (if b then item_in item else [])) ≡ (if b then after_item item d else d).received
heard_grows true xs item d h = item_grows item xs d h
heard_grows false xs item d h = ap length (append-nil xs) ∙ h

heard_sends : (b : Bool) (xs : List Message) (item : Item) (d : EndDone) → length xs ≡ d.sent → length (xs ++ []) ≡ (if b then after_item item d else d).sent
heard_sends true xs item d h = item_sends item xs d h
heard_sends false xs item d h = ap length (append-nil xs) ∙ h

tally_more : (c : ℕ) (side : Side) (r : RequestId) (e : Event) (past : List Event) → Acts c side r e past → Tally c side r past → Tally c side r (e ∷ past)
unfolding messages heard end_done
tally_more c side r (Send s) past acts t =
    let d = end_done c side r past in
    let same = same_condition c s.by.0 side r s.request past acts in (
      sent_grows (is_by side r s.by.0 s.request past) (messages side r past) (s.payload, s.passes) s.passes d t.0 ∙ ap (λ b. (if b then after_send s.passes d else d).sent) (sym same),
      sent_hears (at_end c side r s.by.0 s.request past) (heard side r past) s.passes d t.1,
    )
tally_more c side r (Receive q) past acts t =
    let d = end_done c side r past in
    let same = same_condition c q.by.0 side r q.request past acts in (
      heard_sends (at_end c side r q.by.0 q.request past) (messages side r past) q.item d t.0,
      heard_grows (is_by side r q.by.0 q.request past) (heard side r past) q.item d t.1 ∙ ap (λ b. (if b then after_item q.item d else d).received) (sym same),
    )
tally_more c side r _ past acts t = (ap length (append-nil (messages side r past)) ∙ t.0, ap length (append-nil (heard side r past)) ∙ t.1)

-- ---- a silent event

pub silent_messages : (side : Side) (r : RequestId) (e : Event) (past : List Event) → Silent side r e past → messages side r (e ∷ past) ≡ messages side r past
unfolding messages
silent_messages side r (Send s) past n = ap (λ b. messages side r past ++ (if b then (s.payload, s.passes) ∷ [] else [])) n ∙ append-nil (messages side r past)
silent_messages side r _ past n = append-nil (messages side r past)

pub silent_heard : (side : Side) (r : RequestId) (e : Event) (past : List Event) → Silent side r e past → heard side r (e ∷ past) ≡ heard side r past
unfolding heard
silent_heard side r (Receive q) past n = ap (λ b. heard side r past ++ (if b then item_in q.item else [])) n ∙ append-nil (heard side r past)
silent_heard side r _ past n = append-nil (heard side r past)

pub silent_done : (c : ℕ) (side : Side) (r : RequestId) (e : Event) (past : List Event) → Silent side r e past → end_done c side r (e ∷ past) ≡ end_done c side r past
unfolding end_done
silent_done c side r (Send s) past n =
    ap (λ b. if b then after_send s.passes (end_done c side r past) else end_done c side r past) (same_condition c s.by.0 side r s.request past (λ h. absurd (cc (h, n))) ∙ n)
silent_done c side r (Receive q) past n =
    ap (λ b. if b then after_item q.item (end_done c side r past) else end_done c side r past) (same_condition c q.by.0 side r q.request past (λ h. absurd (cc (h, n))) ∙ n)
silent_done c side r _ past n = refl

-- ---- who acts at an end

held_is : (d : Doing) (r : RequestId) → held_in d ≡ Some r → (generation : Generation) × (d ≡ Busy generation r)
held_is (Busy generation q) r h = let same : q ≡ r = cc h in (generation, ap (Busy generation) same)
held_is _ r h = absurd (cc h)

-- the server that is busy with the request
abbrev pub Serves : State → ℕ → RequestId → Type 0
Serves s by r = (server : ℕ) × (caller_of s.clients server ≡ by) × (stage r s.past ≡ Held server)

pub in_hand_serves : (s : State) (by : ℕ) (r : RequestId) → Agree s → in_hand s.clients by s.past ≡ Some r → Serves s by r
in_hand_serves s by r agree h =
    let i = if_some (nat_lt s.clients by) (held_in (doing (by - s.clients) s.past)) r h in
    let behind = ltb-true s.clients by i.0 in
    let busy = held_is (doing (by - s.clients) s.past) r i.1 in
    (by - s.clients, omega (arith, behind), agree.busy (by - s.clients) busy.0 r busy.1)

-- who acts at the service's end serves
pub serves : (s : State) (by : ℕ) (named r : RequestId) → Agree s → HasOpen s.clients by named s.past (side_of by named s.past) → is_by Service r by named s.past ≡ true → Serves s by r
serves s by named r agree is_open h =
    let parts = and_parts (same_request named r) (same_side Service (side_of by r s.past)) h in
    let same = same_request_is named r parts.0 in
    let service : side_of by r s.past ≡ Service = sym (same_side-is Service (side_of by r s.past) parts.1) in
    let here = subst (λ (q : RequestId). HasOpen s.clients by q s.past (side_of by q s.past)) same is_open in
    let its = subst (λ (side : Side). HasOpen s.clients by r s.past side) service here in
    in_hand_serves s by r agree its.0

pub acts_serve : (s : State) (e : Event) (r : RequestId) → Case s e → Agree s → Silent Service r e s.past ⊎ ((server : ℕ) × (stage r s.past ≡ Held server))
acts_serve s (Send q) r case agree =
    elim (cases_Bool (is_by Service r q.by.0 q.request s.past)) [
      | inl h ↦ let x = serves s q.by.0 q.request r agree case.worker.is_open h in inr (x.0, x.2)
      | inr n ↦ inl n
    ]
acts_serve s (Receive q) r case agree =
    elim (cases_Bool (is_by Service r q.by.0 q.request s.past)) [
      | inl h ↦ let x = serves s q.by.0 q.request r agree case.worker.is_open h in inr (x.0, x.2)
      | inr n ↦ inl n
    ]
acts_serve s _ r case agree = inl tt

pub service_acts : (s : State) (e : Event) (r : RequestId) (server : ℕ) → Case s e → Agree s → stage r s.past ≡ Held server → Acts (caller_of s.clients server) Service r e s.past
service_acts s (Send q) r server case agree is = λ h. let x = serves s q.by.0 q.request r agree case.worker.is_open h in let one : Held x.0 ≡ Held server = sym x.2 ∙ is in let same : x.0 ≡ server = cc one in sym x.1 ∙ ap (caller_of s.clients) same
service_acts s (Receive q) r server case agree is = λ h. let x = serves s q.by.0 q.request r agree case.worker.is_open h in let one : Held x.0 ≡ Held server = sym x.2 ∙ is in let same : x.0 ≡ server = cc one in sym x.1 ∙ ap (caller_of s.clients) same
service_acts s _ r server case agree is = tt

pub by_originator : (by : ℕ) (named r : RequestId) (past : List Event) → is_by Originator r by named past ≡ true → by ≡ r.caller.0
by_originator by named r past h =
    let parts = and_parts (same_request named r) (same_side Originator (side_of by r past)) h in
    its_caller by r (broken by past) (sym (same_side-is Originator (side_of by r past) parts.1))

pub originator_acts : (r : RequestId) (e : Event) (past : List Event) → Acts r.caller.0 Originator r e past
originator_acts r (Send q) past = by_originator q.by.0 q.request r past
originator_acts r (Receive q) past = by_originator q.by.0 q.request r past
originator_acts r _ past = tt

-- ---- a request that begins no conversation has no messages

abbrev pub NoneYet : RequestId → List Event → Type 0
NoneYet r past = (messages Service r past ≡ []) × (heard Service r past ≡ []) × ((c : ℕ) (side : Side) → end_done c side r past ≡ record { sent = 0; received = 0; turn = None })

abbrev pub IsPlain : SentAs → Type 0
IsPlain sent = is_conversational sent.mode ≡ false

pub record Plain (s : State) : Type 0 where
  pub fresh : (r : RequestId) → stage r s.past ≡ Unknown → (side : Side) → is_begun side r s.past ≡ false
  pub sent : (r : RequestId) → IsSomeAnd (sent_as r s.past) IsPlain → (side : Side) → is_begun side r s.past ≡ false
  pub quiet : (r : RequestId) → ((side : Side) → is_begun side r s.past ≡ false) → NoneYet r s.past

no_control : (control : Bool) (side : Side) (r : RequestId) (past : List Event) (turn : Option Bool) → turn ≡ None → ((x : Side) → is_begun x r past ≡ false) → TurnIs control side turn (BeganAt r past) → ⊥
no_control control side r past turn is none (inl h) = cc (is, h)
no_control true side r past turn is none (inr h) = let first = none side in cc (h.1, first)
no_control false side r past turn is none (inr h) = let first = none (other_side side) in cc (h.1, first)

has_none : (s : State) (control : Bool) (by : ℕ) (named r : RequestId) → same_request named r ≡ true → ((x : Side) → is_begun x r s.past ≡ false) → NoneYet r s.past → HasControl control by named s.past → ⊥
has_none s control by named r same none old has =
    let here = subst (λ (q : RequestId). HasControl control by q s.past) (same_request_is named r same) has in
    no_control control (side_of by r s.past) r s.past (end_done by (side_of by r s.past) r s.past).turn (ap (λ (d : EndDone). d.turn) (old.2 by (side_of by r s.past))) none here

mute : (s : State) (e : Event) (r : RequestId) (side : Side) → Case s e → ((x : Side) → is_begun x r s.past ≡ false) → NoneYet r s.past → Silent side r e s.past
mute s (Send q) r side case none old =
    elim (cases_Bool (same_request q.request r)) [
      | inl y ↦ absurd (has_none s true q.by.0 q.request r y none old case.before.named)
      | inr n ↦ ap (λ b. b && same_side side (side_of q.by.0 r s.past)) n
    ]
mute s (Receive q) r side case none old =
    elim (cases_Bool (same_request q.request r)) [
      | inl y ↦ absurd (has_none s false q.by.0 q.request r y none old case.before.named.control)
      | inr n ↦ ap (λ b. b && same_side side (side_of q.by.0 r s.past)) n
    ]
mute s _ r side case none old = tt

none_more : (s : State) (e : Event) (r : RequestId) → Case s e → ((x : Side) → is_begun x r s.past ≡ false) → NoneYet r s.past → NoneYet r (e ∷ s.past)
none_more s e r case none old = (
  silent_messages Service r e s.past (mute s e r Service case none old) ∙ old.0,
  silent_heard Service r e s.past (mute s e r Service case none old) ∙ old.1,
  λ c side. silent_done c side r e s.past (mute s e r side case none old) ∙ old.2 c side,
)

pub from_unknown : (setup : Setup) (a : Accepted) (x : Stage) → Found setup (Accept a) x → x ≡ Unknown
from_unknown setup a Unknown f = refl
from_unknown setup a _ f = absurd f

unmoved : (side : Side) (r : RequestId) (e : Event) → moves r e ≡ false → begins_with side r e ≡ false
unmoved side r (Accept a) n = ap (λ b. b && gives_first side a.mode) n
unmoved side r _ n = refl

pub known_by : (e : Event) → stage_by e ≡ Unknown → ⊥
known_by (Accept a) is = cc is
known_by (Take t) is = cc is
known_by (Forward f) is = cc is
known_by _ is = cc is

no_first : (side : Side) (mode : Mode) → is_conversational mode ≡ false → gives_first side mode ≡ false
no_first side Reply h = side_first side
  where
    side_first : (x : Side) → gives_first x Reply ≡ false
    side_first Originator = refl
    side_first Service = refl
no_first side NoReply h = side_first side
  where
    side_first : (x : Side) → gives_first x NoReply ≡ false
    side_first Originator = refl
    side_first Service = refl
no_first side ConvReceives h = absurd (cc h)
no_first side ConvSends h = absurd (cc h)

abbrev as_accepted : Accepted → SentAs
as_accepted a = record { service = a.service; queue = a.queue; routine = a.routine; priority = a.priority; mode = a.mode; payload = a.payload; hop = 0 }

abbrev as_forwarded : Forwarded → SentAs → SentAs
as_forwarded f sent = record { service = f.service; queue = f.queue; routine = f.routine; priority = f.priority; mode = sent.mode; payload = f.payload; hop = f.hop }

still_plain : (f : Forwarded) (o : Option SentAs) → IsSomeAnd (option_map (as_forwarded f) o) IsPlain → IsSomeAnd o IsPlain
still_plain f None h = absurd h
still_plain f (Some sent) h = h

plain_step : (s : State) (e : Event) (r : RequestId) (side : Side) → Case s e → Agree s → Plain s → IsSomeAnd (sent_after r e (sent_as r s.past)) IsPlain → (begins_with side r e || is_begun side r s.past) ≡ false
plain_step s (Accept a) r side case agree p h =
    elim (cases_Bool (same_request a.request r)) [
      | inl y ↦
          let mode : is_conversational a.mode ≡ false = subst (λ (b : Bool). IsSomeAnd (if b then Some (as_accepted a) else sent_as r s.past) IsPlain) y h in
          let first : begins_with side r (Accept a) ≡ false = ap (λ b. b && gives_first side a.mode) y ∙ no_first side a.mode mode in
          ap (λ b. b || is_begun side r s.past) first ∙ p.fresh r (from_unknown s.setup a (stage r s.past) (found s (Accept a) r case agree y)) side
      | inr n ↦ ap (λ b. (b && gives_first side a.mode) || is_begun side r s.past) n ∙ p.sent r (subst (λ (b : Bool). IsSomeAnd (if b then Some (as_accepted a) else sent_as r s.past) IsPlain) n h) side
    ]
plain_step s (Forward f) r side case agree p h =
    elim (cases_Bool (same_request f.request r)) [
      | inl y ↦ p.sent r (still_plain f (sent_as r s.past) (subst (λ (b : Bool). IsSomeAnd (if b then option_map (as_forwarded f) (sent_as r s.past) else sent_as r s.past) IsPlain) y h)) side
      | inr n ↦ p.sent r (subst (λ (b : Bool). IsSomeAnd (if b then option_map (as_forwarded f) (sent_as r s.past) else sent_as r s.past) IsPlain) n h) side
    ]
plain_step s _ r side case agree p h = p.sent r h side

or_none : (a b : Bool) → (a || b) ≡ false → b ≡ false
or_none false b h = h
or_none true b h = absurd (cc h)

plain_more : (s : State) (e : Event) → Case s e → Agree s → Plain s → Plain (noted s e)
unfolding stage is_begun sent_as
plain_more s e case agree p = record {
  fresh = λ r. cond_both (moves r e) (stage_by e) (stage r s.past) (λ x. x ≡ Unknown → (side : Side) → is_begun side r (e ∷ s.past) ≡ false)
      (λ m is. absurd (known_by e is)) (λ n is side. ap (λ b. b || is_begun side r s.past) (unmoved side r e n) ∙ p.fresh r is side);
  sent = λ r h side. plain_step s e r side case agree p h;
  quiet = λ r none.
      let old : (side : Side) → is_begun side r s.past ≡ false = λ side. or_none (begins_with side r e) (is_begun side r s.past) (none side) in
      none_more s e r case old (p.quiet r old);
}

plain_none : (setup : Setup) (clients : ℕ) → Plain (opening setup clients)
unfolding stage is_begun sent_as messages heard end_done
plain_none setup clients = record { fresh = λ r is side. refl; sent = λ r h side. absurd h; quiet = λ r none. (refl, refl, λ c side. refl) }

-- ---- what a run keeps

abbrev pub NotYet : Stage → Type 0
NotYet Unknown = Unit {0}
NotYet (Waits queue) = Unit {0}
NotYet _ = ⊥

-- an event by which an end counts its messages counts all that were sent
abbrev Counted : ℕ → Event → List Event → Type 0
Counted clients (Send s) before = (r : RequestId) → s.request ≡ r → length (messages (side_of s.by.0 r before) r before) ≡ (end_done s.by.0 (side_of s.by.0 r before) r before).sent
Counted clients (End e) before = (r : RequestId) → e.request ≡ r → length (messages Service r before) ≡ (end_done (caller_of clients e.server.0) Service r before).sent
Counted clients (Break b) before = (r : RequestId) → b.request ≡ r → length (messages Originator r before) ≡ (end_done b.by.0 Originator r before).sent
Counted clients _ before = Unit {0}

pub record Talking (s : State) : Type 0 where
  pub originates : (r : RequestId) → Tally r.caller.0 Originator r s.past
  pub served : (server : ℕ) (r : RequestId) → stage r s.past ≡ Held server → Tally (caller_of s.clients server) Service r s.past
  pub none : (r : RequestId) → NotYet (stage r s.past) → (messages Service r s.past ≡ []) × (heard Service r s.past ≡ []) × ((c : ℕ) → ((end_done c Service r s.past).sent ≡ 0) × ((end_done c Service r s.past).received ≡ 0))
  pub each : AtEach (Counted s.clients) s.past
  pub order : InOrder s.past
  pub plain : Plain s

pub by_take : (s : State) (e : Event) (r : RequestId) (server : ℕ) → Case s e → Agree s → moves r e ≡ true → stage_by e ≡ Held server → NotYet (stage r s.past) × Silent Service r e s.past
by_take s (Take t) r server case agree m is = (from_waits (stage r s.past) (found s (Take t) r case agree m), tt)
  where
    from_waits : (x : Stage) → Found s.setup (Take t) x → NotYet x
    from_waits (Waits queue) f = tt
    from_waits _ f = absurd f
by_take s _ r server case agree m is = absurd (cc is)

-- what leaves a request waiting finds that it had no messages yet, or leaves it with none
pub by_entry : (s : State) (e : Event) (r : RequestId) → Case s e → Agree s → Plain s → moves r e ≡ true → NotYet (stage_by e) → NotYet (stage r s.past) ⊎ NoneYet r (e ∷ s.past)
by_entry s (Accept a) r case agree p m yet = inl (from (stage r s.past) (found s (Accept a) r case agree m))
  where
    from : (x : Stage) → Found s.setup (Accept a) x → NotYet x
    from Unknown f = tt
    from _ f = absurd f
by_entry s (Forward f) r case agree p m yet =
    let mode = subst (λ (q : RequestId). IsSomeAnd (sent_as q s.past) IsPlain) (same_request_is f.request r m) case.before.named.mode in
    inr (none_more s (Forward f) r case (p.sent r mode) (p.quiet r (p.sent r mode)))
by_entry s (Take t) r case agree p m yet = absurd yet
by_entry s (End e) r case agree p m yet = absurd yet
by_entry s (Sweep x) r case agree p m yet = absurd yet
by_entry s _ r case agree p m yet = absurd (cc m)

-- ---- the message that is next

abbrev Nth : List Message → ℕ → Message → Type 0
Nth xs n m = (front : List Message) × (back : List Message) × (xs ≡ front ++ m ∷ back) × (length front ≡ n)

nth_more : (xs ys : List Message) (n : ℕ) (m : Message) → Nth xs n m → Nth (xs ++ ys) n m
nth_more xs ys n m h = (h.0, h.1 ++ ys, ap (λ zs. zs ++ ys) h.2 ∙ append_assoc h.0 (m ∷ h.1) ys, h.3)

pub messages_grow : (side : Side) (r : RequestId) (e : Event) (past : List Event) → messages side r (e ∷ past) ≡ messages side r past ++ sent_in side r e past
unfolding messages
messages_grow side r e past = refl

pub heard_grow : (side : Side) (r : RequestId) (e : Event) (past : List Event) → heard side r (e ∷ past) ≡ heard side r past ++ heard_in side r e past
unfolding heard
heard_grow side r e past = refl

-- what stands as the n-th message is the n-th of all
nth_sent : (clients : ℕ) (side : Side) (r : RequestId) (n : ℕ) (payload : Data) (passes : Bool) (past : List Event) → AtEach (Counted clients) past → Was (IsSent side r n payload passes) past → Nth (messages side r past) n (payload, passes)
nth_sent clients side r n payload passes [] each h = absurd h
nth_sent clients side r n payload passes (Send s ∷ past) each (inl h) =
    let same = same_request_is s.request r h.0 in
    let here : is_by side r s.by.0 s.request past ≡ true = and_from (same_request s.request r) (same_side side (side_of s.by.0 r past)) h.0 (subst (λ (x : Side). same_side side x ≡ true) (sym h.1) (same_side-self side)) in
    let counted : length (messages side r past) ≡ (end_done s.by.0 side r past).sent = subst (λ (x : Side). length (messages x r past) ≡ (end_done s.by.0 x r past).sent) h.1 (each.0 r same) in
    let message : (s.payload, s.passes) ≡ (payload, passes) = ap (λ d. (d, s.passes)) h.3 ∙ ap (λ b. (payload, b)) h.4 in
    (messages side r past, [], messages_grow side r (Send s) past ∙ (ap (λ b. messages side r past ++ (if b then (s.payload, s.passes) ∷ [] else [])) here ∙ ap (λ m. messages side r past ++ m ∷ []) message), counted ∙ h.2)
nth_sent clients side r n payload passes (Send s ∷ past) each (inr h) = subst (λ (xs : List Message). Nth xs n (payload, passes)) (sym (messages_grow side r (Send s) past)) (nth_more (messages side r past) (sent_in side r (Send s) past) n (payload, passes) (nth_sent clients side r n payload passes past each.1 h))
nth_sent clients side r n payload passes (e ∷ past) each (inl h) = absurd h
nth_sent clients side r n payload passes (e ∷ past) each (inr h) = subst (λ (xs : List Message). Nth xs n (payload, passes)) (sym (messages_grow side r e past)) (nth_more (messages side r past) (sent_in side r e past) n (payload, passes) (nth_sent clients side r n payload passes past each.1 h))

-- behind as many as were heard the n-th comes next
next_heard : (xs front rest : List Message) (n : ℕ) (m : Message) → xs ≡ front ++ rest → length front ≡ n → Nth xs n m → (more : List Message) × (rest ≡ m ∷ more)
next_heard xs front rest n m is l h = (h.1, same_length front rest h.0 (m ∷ h.1) (l ∙ sym h.3) (sym is ∙ h.2))

-- ---- an end's own counts, where it acts

own_tally : (s : State) (by : ℕ) (request : RequestId) → Agree s → Talking s → HasOpen s.clients by request s.past (side_of by request s.past) → Tally by (side_of by request s.past) request s.past
own_tally s by request agree t is_open = by_side (side_of by request s.past) refl is_open
  where
    by_side : (side : Side) → side_of by request s.past ≡ side → HasOpen s.clients by request s.past side → Tally by side request s.past
    by_side Originator is h = subst (λ (c : ℕ). Tally c Originator request s.past) (sym (its_caller by request (broken by s.past) is)) (t.originates request)
    by_side Service is h = let x = in_hand_serves s by request agree h.0 in subst (λ (c : ℕ). Tally c Service request s.past) x.1 (t.served x.0 request x.2)

counted : (s : State) (e : Event) → Case s e → Agree s → Talking s → Counted s.clients e s.past
counted s (Send q) case agree t = λ r is. subst (λ (x : RequestId). length (messages (side_of q.by.0 x s.past) x s.past) ≡ (end_done q.by.0 (side_of q.by.0 x s.past) x s.past).sent) is (own_tally s q.by.0 q.request agree t case.worker.is_open).0
counted s (End e) case agree t = λ r is. subst (λ (x : RequestId). length (messages Service x s.past) ≡ (end_done (caller_of s.clients e.server.0) Service x s.past).sent) is (t.served e.server.0 e.request (agree.busy e.server.0 e.generation e.request case.worker.busy)).0
counted s (Break b) case agree t = λ r is.
    let by : b.request.caller.0 ≡ b.by.0 = ap (λ (c : CallerId). c.0) case.worker.caller in
    subst (λ (x : RequestId). length (messages Originator x s.past) ≡ (end_done b.by.0 Originator x s.past).sent) is (subst (λ (c : ℕ). length (messages Originator b.request s.past) ≡ (end_done c Originator b.request s.past).sent) by (t.originates b.request).0)
counted s _ case agree t = tt

-- ---- the order

received_order : (s : State) (side : Side) (r : RequestId) (item : Item) (xs front rest : List Message) → xs ≡ front ++ rest → ((payload : Data) (passes : Bool) → item ≡ MessageItem payload passes → Nth xs (length front) (payload, passes))
    → (more : List Message) × (xs ≡ (front ++ item_in item) ++ more)
received_order s side r (MessageItem payload passes) xs front rest is nth =
    let n = next_heard xs front rest (length front) (payload, passes) is refl (nth payload passes refl) in
    (n.0, is ∙ (ap (λ zs. front ++ zs) n.1 ∙ sym (append_assoc front ((payload, passes) ∷ []) n.0)))
received_order s side r (Ending event code payload) xs front rest is nth = (rest, is ∙ ap (λ zs. zs ++ rest) (sym (append-nil front)))

pub order_more : (s : State) (e : Event) → Case s e → Agree s → Talking s → InOrder (e ∷ s.past)
unfolding messages heard
order_more s (Send q) case agree t side r =
    let old = t.order side r in
    let new = sent_in (other_side side) r (Send q) s.past in
    (old.0 ++ new, ap (λ zs. zs ++ new) old.1 ∙ (append_assoc (heard side r s.past) old.0 new ∙ ap (λ zs. zs ++ (old.0 ++ new)) (sym (append-nil (heard side r s.past)))))
order_more s (Receive q) case agree t side r =
    let old = t.order side r in
    let sent = messages (other_side side) r s.past in
    let got = heard side r s.past in
    elim (cases_Bool (is_by side r q.by.0 q.request s.past)) [
      | inl h ↦
          let parts = and_parts (same_request q.request r) (same_side side (side_of q.by.0 r s.past)) h in
          let same = same_request_is q.request r parts.0 in
          let its : side ≡ side_of q.by.0 r s.past = same_side-is side (side_of q.by.0 r s.past) parts.1 in
          let tally = own_tally s q.by.0 q.request agree t case.worker.is_open in
          let by_its : ((payload : Data) (passes : Bool) → q.item ≡ MessageItem payload passes → Nth (messages (other_side (side_of q.by.0 q.request s.past)) q.request s.past) (length (heard (side_of q.by.0 q.request s.past) q.request s.past)) (payload, passes)) =
          λ payload passes is.
          let found = subst (λ (item : Item). Finds s.clients (other_side (side_of q.by.0 q.request s.past)) q.request (end_done q.by.0 (side_of q.by.0 q.request s.past) q.request s.past).received (BeganAt q.request s.past) (StandsIn s.past) item) is case.before.named.item in
          let nth = nth_sent s.clients (other_side (side_of q.by.0 q.request s.past)) q.request (end_done q.by.0 (side_of q.by.0 q.request s.past) q.request s.past).received payload passes s.past t.each found in
          subst (λ (n : ℕ). Nth (messages (other_side (side_of q.by.0 q.request s.past)) q.request s.past) n (payload, passes)) (sym tally.1) nth in
          let of_r = subst (λ (x : RequestId). (payload : Data) (passes : Bool) → q.item ≡ MessageItem payload passes → Nth (messages (other_side (side_of q.by.0 x s.past)) x s.past) (length (heard (side_of q.by.0 x s.past) x s.past)) (payload, passes)) same by_its in
          let nths = subst (λ (x : Side). (payload : Data) (passes : Bool) → q.item ≡ MessageItem payload passes → Nth (messages (other_side x) r s.past) (length (heard x r s.past)) (payload, passes)) (sym its) of_r in
          let ro = received_order s side r q.item sent got old.0 old.1 nths in
          (ro.0, append-nil sent ∙ (ro.1 ∙ ap (λ b. (got ++ (if b then item_in q.item else [])) ++ ro.0) (sym h)))
      | inr n ↦ (old.0, append-nil sent ∙ (old.1 ∙ (ap (λ zs. zs ++ old.0) (sym (append-nil got)) ∙ ap (λ b. (got ++ (if b then item_in q.item else [])) ++ old.0) (sym n))))
    ]
order_more s _ case agree t side r =
    let old = t.order side r in
    (old.0, append-nil (messages (other_side side) r s.past) ∙ (old.1 ∙ ap (λ zs. zs ++ old.0) (sym (append-nil (heard side r s.past)))))

pub silent_acts : (c : ℕ) (side : Side) (r : RequestId) (e : Event) (past : List Event) → Silent side r e past → Acts c side r e past
silent_acts c side r (Send q) past n = λ h. absurd (cc (h, n))
silent_acts c side r (Receive q) past n = λ h. absurd (cc (h, n))
silent_acts c side r _ past n = tt

quiet : (s : State) (e : Event) (r : RequestId) → Case s e → Agree s → Talking s → NotYet (stage r s.past)
    → (messages Service r (e ∷ s.past) ≡ []) × (heard Service r (e ∷ s.past) ≡ []) × ((c : ℕ) → ((end_done c Service r (e ∷ s.past)).sent ≡ 0) × ((end_done c Service r (e ∷ s.past)).received ≡ 0))
quiet s e r case agree t yet =
    let none = t.none r yet in
    elim (acts_serve s e r case agree) [
      | inl silent ↦ (
        silent_messages Service r e s.past silent ∙ none.0,
        silent_heard Service r e s.past silent ∙ none.1,
        λ c. (ap (λ (d : EndDone). d.sent) (silent_done c Service r e s.past silent) ∙ (none.2 c).0, ap (λ (d : EndDone). d.received) (silent_done c Service r e s.past silent) ∙ (none.2 c).1),
      )
      | inr held ↦ absurd (subst NotYet held.1 yet)
    ]

pub talking_more : (s : State) (e : Event) → Case s e → Agree s → Talking s → Talking (noted s e)
unfolding stage
talking_more s e case agree t = record {
  originates = λ r. tally_more r.caller.0 Originator r e s.past (originator_acts r e s.past) (t.originates r);
  served = λ server r. cond_both (moves r e) (stage_by e) (stage r s.past) (λ x. x ≡ Held server → Tally (caller_of s.clients server) Service r (e ∷ s.past))
      (λ m is. let b = by_take s e r server case agree m is in
      let none = t.none r b.0 in
      let c = caller_of s.clients server in
      tally_more c Service r e s.past (silent_acts c Service r e s.past b.1) (ap length none.0 ∙ sym (none.2 c).0, ap length none.1 ∙ sym (none.2 c).1))
      (λ n is. tally_more (caller_of s.clients server) Service r e s.past (service_acts s e r server case agree is) (t.served server r is));
  none = λ r. cond_both (moves r e) (stage_by e) (stage r s.past) (λ x. NotYet x → (messages Service r (e ∷ s.past) ≡ []) × (heard Service r (e ∷ s.past) ≡ []) × ((c : ℕ) → ((end_done c Service r (e ∷ s.past)).sent ≡ 0) × ((end_done c Service r (e ∷ s.past)).received ≡ 0)))
      (λ m yet. elim (by_entry s e r case agree t.plain m yet) [
        | inl old ↦ quiet s e r case agree t old
        | inr none ↦ (none.0, none.1, λ c. (ap (λ (d : EndDone). d.sent) (none.2 c Service), ap (λ (d : EndDone). d.received) (none.2 c Service)))
      ]) (λ n yet. quiet s e r case agree t yet);
  each = (counted s e case agree t, t.each);
  order = order_more s e case agree t;
  plain = plain_more s e case agree t.plain;
}

pub talking_none : (setup : Setup) (clients : ℕ) → Talking (opening setup clients)
unfolding stage messages heard end_done
talking_none setup clients = record {
  originates = λ r. (refl, refl);
  served = λ server r is. absurd (cc is);
  none = λ r yet. (refl, refl, λ c. (refl, refl));
  each = tt;
  order = λ side r. ([], refl);
  plain = plain_none setup clients;
}

-- ---- endings

-- the event closes that end, which had sent n messages
abbrev Closes : ℕ → Side → RequestId → ℕ → Event → List Event → Type 0
Closes clients Service r n (End e) before = (same_request e.request r ≡ true) × ((end_done (caller_of clients e.server.0) Service r before).sent ≡ n)
Closes clients Service r n (Sweep x) before = (same_request x.request r ≡ true) × (n ≡ 0)
Closes clients Originator r n (Break b) before = (same_request b.request r ≡ true) × ((end_done b.by.0 Originator r before).sent ≡ n)
Closes clients side r n _ before = ⊥

closes : (clients : ℕ) (side : Side) (r : RequestId) (n : ℕ) (Began : Side → Type 0) (P : Told → Type 0) (e : Event) (before : List Event) → IsClosing clients side r n Began P e before → Closes clients side r n e before
closes clients Service r n Began P (End e) before h = (h.0, h.1)
closes clients Service r n Began P (Sweep x) before h = (h.0, h.1)
closes clients Originator r n Began P (Break b) before h = (h.0, h.1)
closes clients _ r n Began P _ before h = absurd h

was_weaker : (P Q : Event → List Event → Type 0) → ((e : Event) (before : List Event) → P e before → Q e before) → (past : List Event) → Was P past → Was Q past
was_weaker P Q weaker [] h = absurd h
was_weaker P Q weaker (e ∷ past) (inl h) = inl (weaker e past h)
was_weaker P Q weaker (e ∷ past) (inr h) = inr (was_weaker P Q weaker past h)

pub record Closed (s : State) : Type 0 where
  pub ended : (side : Side) (r : RequestId) (n : ℕ) → Was (Closes s.clients side r n) s.past → length (messages side r s.past) ≡ n
  pub over : (r : RequestId) (n : ℕ) → Was (Closes s.clients Service r n) s.past → stage r s.past ≡ Over
  pub gone : (r : RequestId) (n : ℕ) → Was (Closes s.clients Originator r n) s.past → has r (broken r.caller.0 s.past) ≡ true

pub closed_none : (setup : Setup) (clients : ℕ) → Closed (opening setup clients)
closed_none setup clients = record { ended = λ side r n h. absurd h; over = λ r n h. absurd h; gone = λ r n h. absurd h }

-- what closes an end counts all
closes_all : (s : State) (side : Side) (r : RequestId) (n : ℕ) (e : Event) → Case s e → Agree s → Talking s → Closes s.clients side r n e s.past → length (messages side r (e ∷ s.past)) ≡ n
closes_all s Service r n (End e) case agree t h = ap length (silent_messages Service r (End e) s.past tt) ∙ (counted s (End e) case agree t r (same_request_is e.request r h.0) ∙ h.1)
closes_all s Service r n (Sweep x) case agree t h = ap length (silent_messages Service r (Sweep x) s.past tt) ∙ (ap length (t.none r (swept (stage r s.past) (found s (Sweep x) r case agree h.0))).0 ∙ sym h.1)
  where
    swept : (y : Stage) → Found s.setup (Sweep x) y → NotYet y
    swept (Waits queue) f = tt
    swept _ f = absurd f
closes_all s Originator r n (Break b) case agree t h = ap length (silent_messages Originator r (Break b) s.past tt) ∙ (counted s (Break b) case agree t r (same_request_is b.request r h.0) ∙ h.1)
closes_all s _ r n _ case agree t h = absurd h

-- behind its break the originator's end does nothing
not_originator : (by : ℕ) (named r : RequestId) (past : List Event) → has r (broken r.caller.0 past) ≡ true → is_by Originator r by named past ≡ false
not_originator by named r past gone =
    elim (cases_Bool (is_by Originator r by named past)) [
      | inl h ↦
          let parts = and_parts (same_request named r) (same_side Originator (side_of by r past)) h in
          let its : side_of by r past ≡ Originator = sym (same_side-is Originator (side_of by r past) parts.1) in
          let of_caller : side_of r.caller.0 r past ≡ Originator = subst (λ (c : ℕ). side_of c r past ≡ Originator) (by_originator by named r past h) its in
          let service : side_of r.caller.0 r past ≡ Service = ap (λ b. if (r.caller.0 == r.caller.0) && not b then Originator else Service) gone ∙ ap (λ b. if b && false then Originator else Service) (eq-eqb r.caller.0 r.caller.0 refl) in
          absurd (cc (of_caller, service))
      | inr n ↦ n
    ]

silent_gone : (r : RequestId) (e : Event) (past : List Event) → has r (broken r.caller.0 past) ≡ true → Silent Originator r e past
silent_gone r (Send q) past gone = not_originator q.by.0 q.request r past gone
silent_gone r (Receive q) past gone = not_originator q.by.0 q.request r past gone
silent_gone r _ past gone = tt

silent_over : (s : State) (e : Event) (r : RequestId) → Case s e → Agree s → stage r s.past ≡ Over → Silent Service r e s.past
silent_over s e r case agree is = elim (acts_serve s e r case agree) [ inl silent ↦ silent | inr held ↦ let both = held.1 in absurd (cc (both, is)) ]

silent_closed : (s : State) (side : Side) (r : RequestId) (n : ℕ) (e : Event) → Case s e → Agree s → Closed s → Was (Closes s.clients side r n) s.past → Silent side r e s.past
silent_closed s Originator r n e case agree c h = silent_gone r e s.past (c.gone r n h)
silent_closed s Service r n e case agree c h = silent_over s e r case agree (c.over r n h)

not_over : (setup : Setup) (e : Event) → Found setup e Over → ⊥
not_over setup (Accept a) f = f
not_over setup (Take t) f = f
not_over setup (Forward f') f = f
not_over setup (Sweep x) f = f
not_over setup (End e) f = f
not_over setup _ f = f

over_here : (clients : ℕ) (r : RequestId) (n : ℕ) (e : Event) (past : List Event) → Closes clients Service r n e past → stage r (e ∷ past) ≡ Over
unfolding stage
over_here clients r n (End e) past h = ap (λ b. cond b Over (stage r past)) h.0
over_here clients r n (Sweep x) past h = ap (λ b. cond b Over (stage r past)) h.0
over_here clients r n _ past h = absurd h

gone_here : (s : State) (r : RequestId) (n : ℕ) (e : Event) → Case s e → Closes s.clients Originator r n e s.past → has r (broken r.caller.0 (e ∷ s.past)) ≡ true
unfolding broken
gone_here s r n (Break b) case h =
    let same = same_request_is b.request r h.0 in
    let by : b.by.0 ≡ r.caller.0 = sym (ap (λ (c : CallerId). c.0) case.worker.caller) ∙ ap (λ (q : RequestId). q.caller.0) same in
    ap (λ t. has r (cons_option (if t then Some b.request else None) (broken r.caller.0 s.past))) (eq-eqb b.by.0 r.caller.0 by) ∙ or_left (same_request r b.request) (has r (broken r.caller.0 s.past)) (same_request_of r b.request (sym same))
gone_here s r n _ case h = absurd h

has_more : (r : RequestId) (o : Option RequestId) (rs : List RequestId) → has r rs ≡ true → has r (cons_option o rs) ≡ true
has_more r None rs h = h
has_more r (Some x) rs h = or_right (same_request r x) (has r rs) h

broken_more : (r : RequestId) (e : Event) (past : List Event) → has r (broken r.caller.0 past) ≡ true → has r (broken r.caller.0 (e ∷ past)) ≡ true
unfolding broken
broken_more r e past h = has_more r (break_in r.caller.0 e) (broken r.caller.0 past) h

pub closed_more : (s : State) (e : Event) → Case s e → Agree s → Talking s → Closed s → Closed (noted s e)
closed_more s e case agree t c = record {
  ended = λ side r n h. elim h [
    | inl here ↦ closes_all s side r n e case agree t here
    | inr there ↦ ap length (silent_messages side r e s.past (silent_closed s side r n e case agree c there)) ∙ c.ended side r n there
  ];
  over = λ r n h. elim h [ inl here ↦ over_here s.clients r n e s.past here | inr there ↦ stays s e r Over case agree (c.over r n there) (λ m f. not_over s.setup e f) ];
  gone = λ r n h. elim h [ inl here ↦ gone_here s r n e case here | inr there ↦ broken_more r e s.past (c.gone r n there) ];
}

all_heard : (sent got rest : List Message) (n : ℕ) → sent ≡ got ++ rest → length sent ≡ n → length got ≡ n → sent ≡ got
all_heard sent got rest n is a b =
    let whole : length sent ≡ length got + length rest = ap length is ∙ length-append got rest in
    let none = none_left rest (omega (arith, whole, a, b)) in
    is ∙ (ap (λ zs. got ++ zs) none ∙ append-nil got)

pub heard_all : (s : State) (e : Event) → Case s e → Agree s → Talking s → Closed s → HeardAll e s.past
heard_all s (Receive q) case agree t c = by_item q.item case.before.named.item
  where
    by_item : (item : Item) → Finds s.clients (other_side (side_of q.by.0 q.request s.past)) q.request (end_done q.by.0 (side_of q.by.0 q.request s.past) q.request s.past).received (BeganAt q.request s.past) (StandsIn s.past) item
        → item_in item ≡ [] → messages (other_side (side_of q.by.0 q.request s.past)) q.request s.past ≡ heard (side_of q.by.0 q.request s.past) q.request s.past
    by_item (MessageItem payload passes) found none = absurd (cc none)
    by_item (Ending event code payload) found none =
        let side = side_of q.by.0 q.request s.past in
        let n = (end_done q.by.0 side q.request s.past).received in
        let was = was_weaker (IsClosing s.clients (other_side side) q.request n (BeganAt q.request s.past) (λ told. told ≡ (event, code, payload))) (Closes s.clients (other_side side) q.request n)
        (λ e before h. closes s.clients (other_side side) q.request n (BeganAt q.request s.past) (λ told. told ≡ (event, code, payload)) e before h) s.past found in
        let old = t.order side q.request in
        all_heard (messages (other_side side) q.request s.past) (heard side q.request s.past) old.0 n old.1 (c.ended (other_side side) q.request n was) (own_tally s q.by.0 q.request agree t case.worker.is_open).1
heard_all s _ case agree t c = tt
