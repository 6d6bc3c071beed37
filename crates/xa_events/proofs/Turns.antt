-- Control of a conversation goes from end to end in turn.
use Rattle.std.proofs.Common.{◌≡◌, ◌⊎◌, ℕ, ◌+◌, ◌≤◌, if◌then◌else◌, Bool, true, false, cond, List, [], ◌∷◌, ◌++◌, Option, Some, None, inl, inr, refl, sym, ◌∙◌, ap, subst, arith}
use Rattle.std.proofs.lemmas.Bool.{cases_Bool, cond_both, and_parts, or_right, or_cases}
use Rattle.std.proofs.lemmas.List.{append-nil}
use Rattle.xa_types.specs.declared.ids.RequestId.{RequestId}
use Rattle.xa_types.specs.declared.setup.Setup.{Setup}
use Rattle.xa_types.specs.declared.call.Mode.{Mode}
use Rattle.xa_types.specs.declared.call.Mode.TheVariants.{Reply, NoReply, ConvReceives, ConvSends}
use Rattle.xa_events.specs.declared.event.Event.{Event}
use Rattle.xa_events.specs.declared.event.Event.TheVariants.{Accept, Send, Receive}
use Rattle.xa_events.specs.declared.event.Item.{Item}
use Rattle.xa_events.specs.declared.event.Item.TheVariants.{Message as MessageItem, Ending}
use Rattle.xa_events.specs.Words.{same_request}
use Rattle.xa_events.specs.State.{State, opening, noted, caller_of}
use Rattle.xa_events.specs.Cases.{Case, HasOpen, BeganAt}
use Rattle.xa_events.specs.Conversation.{Side, other_side, same_side, gives_first, begins_with, is_begun, side_of, broken, EndDone, end_done, after_send, after_item, TurnIs, ControlIs}
use Rattle.xa_events.specs.Conversation.Side.{Originator, Service}
use Rattle.xa_events.specs.Laws.{Message, item_in, passing}
use Rattle.xa_events.proofs.WordsLemmas.{same_request_is}
use Rattle.xa_events.proofs.Stages.{moves, stage_by, stage, Agree, found}
use Rattle.xa_events.proofs.Stages.Stage.{Unknown, Held}
use Rattle.xa_events.proofs.Talks.{is_by, messages, heard, Acts, Silent, NotYet, same_condition, silent_messages, silent_heard, silent_done, acts_serve, service_acts, originator_acts, by_take, by_entry, from_unknown, same_side-is, its_caller, in_hand_serves, Talking}

passing-append : (xs ys : List Message) → passing (xs ++ ys) ≡ passing xs + passing ys
passing-append [] ys = omega arith
passing-append (x ∷ xs) ys =
    let rest = passing-append xs ys in
    elim (cases_Bool x.1) [
      | inl y ↦ ap (λ b. cond b (passing (xs ++ ys) + 1) (passing (xs ++ ys))) y ∙ (omega (arith, rest) ∙ sym (ap (λ b. cond b (passing xs + 1) (passing xs) + passing ys) y))
      | inr n ↦ ap (λ b. cond b (passing (xs ++ ys) + 1) (passing (xs ++ ys))) n ∙ (rest ∙ sym (ap (λ b. cond b (passing xs + 1) (passing xs) + passing ys) n))
    ]

-- how many messages that pass control an end sent, P, and received, G, by the last that it knows of, and by whether it had control first
abbrev ByTurn : Bool → Option Bool → ℕ → ℕ → Type 0
ByTurn first None p g = (p ≡ 0) × (g ≡ 0)
ByTurn true (Some true) p g = p ≡ g
ByTurn true (Some false) p g = p ≡ g + 1
ByTurn false (Some true) p g = g ≡ p + 1
ByTurn false (Some false) p g = g ≡ p

abbrev starts_at : Side → Bool → Side
starts_at side first = if first then side else other_side side

abbrev Turned : Side → RequestId → List Event → Option Bool → ℕ → ℕ → Type 0
Turned side r past turn p g = ((turn ≡ None) × (p ≡ 0) × (g ≡ 0)) ⊎ ((first : Bool) × (is_begun (starts_at side first) r past ≡ true) × ByTurn first turn p g)

begun_more : (side : Side) (r : RequestId) (e : Event) (past : List Event) → is_begun side r past ≡ true → is_begun side r (e ∷ past) ≡ true
unfolding is_begun
begun_more side r e past h = or_right (begins_with side r e) (is_begun side r past) h

turned_more : (side : Side) (r : RequestId) (e : Event) (past : List Event) (turn : Option Bool) (p g : ℕ) → Turned side r past turn p g → Turned side r (e ∷ past) turn p g
turned_more side r e past turn p g (inl h) = inl h
turned_more side r e past turn p g (inr h) = inr (h.0, begun_more (starts_at side h.0) r e past h.1, h.2)

-- an end with control passes it
given : (side : Side) (r : RequestId) (past : List Event) (turn : Option Bool) (p g : ℕ) → TurnIs true side turn (BeganAt r past) → Turned side r past turn p g → Turned side r past (Some false) (p + 1) g
given side r past turn p g (inl has) (inl h) = absurd (cc (has, h.0))
given side r past turn p g (inl has) (inr (true, b, h)) = let is : p ≡ g = subst (λ t. ByTurn true t p g) has h in inr (true, b, omega (arith, is))
given side r past turn p g (inl has) (inr (false, b, h)) = let is : g ≡ p + 1 = subst (λ t. ByTurn false t p g) has h in inr (false, b, is)
given side r past turn p g (inr has) (inl h) = inr (true, has.1, omega (arith, h.1, h.2))
given side r past turn p g (inr has) (inr (first, b, h)) = let is : (p ≡ 0) × (g ≡ 0) = subst (λ t. ByTurn first t p g) has.0 h in inr (true, has.1, omega (arith, is.0, is.1))

-- an end without control is given it
got : (side : Side) (r : RequestId) (past : List Event) (turn : Option Bool) (p g : ℕ) → TurnIs false side turn (BeganAt r past) → Turned side r past turn p g → Turned side r past (Some true) p (g + 1)
got side r past turn p g (inl has) (inl h) = absurd (cc (has, h.0))
got side r past turn p g (inl has) (inr (true, b, h)) = let is : p ≡ g + 1 = subst (λ t. ByTurn true t p g) has h in inr (true, b, is)
got side r past turn p g (inl has) (inr (false, b, h)) = let is : g ≡ p = subst (λ t. ByTurn false t p g) has h in inr (false, b, omega (arith, is))
got side r past turn p g (inr has) (inl h) = inr (false, has.1, omega (arith, h.1, h.2))
got side r past turn p g (inr has) (inr (first, b, h)) = let is : (p ≡ 0) × (g ≡ 0) = subst (λ t. ByTurn first t p g) has.0 h in inr (false, has.1, omega (arith, is.0, is.1))

-- ---- one event more

abbrev Kept : ℕ → Side → RequestId → List Event → Type 0
Kept c side r past = Turned side r past (end_done c side r past).turn (passing (messages side r past)) (passing (heard side r past))

-- what acts at the end acts with control, or without it
abbrev Fair : ℕ → Side → RequestId → Event → List Event → Type 0
Fair c side r (Send s) past = is_by side r s.by.0 s.request past ≡ true → TurnIs true side (end_done c side r past).turn (BeganAt r past)
Fair c side r (Receive q) past = is_by side r q.by.0 q.request past ≡ true → TurnIs false side (end_done c side r past).turn (BeganAt r past)
Fair c side r _ past = Unit {0}

send_kept : (side : Side) (r : RequestId) (past : List Event) (b passes : Bool) (m : Message) (xs : List Message) (d : EndDone) (g : ℕ) → m.1 ≡ passes → (b ≡ true → TurnIs true side d.turn (BeganAt r past))
    → Turned side r past d.turn (passing xs) g → Turned side r past (if b then after_send passes d else d).turn (passing (xs ++ (if b then m ∷ [] else []))) g
send_kept side r past false passes m xs d g is fair h = subst (λ (zs : List Message). Turned side r past d.turn (passing zs) g) (sym (append-nil xs)) h
send_kept side r past true false m xs d g is fair h =
    let same : passing (xs ++ m ∷ []) ≡ passing xs = passing-append xs (m ∷ []) ∙ (ap (λ b. passing xs + cond b 1 0) is ∙ omega arith) in
    subst (λ (n : ℕ). Turned side r past d.turn n g) (sym same) h
send_kept side r past true true m xs d g is fair h =
    let more : passing (xs ++ m ∷ []) ≡ passing xs + 1 = passing-append xs (m ∷ []) ∙ ap (λ b. passing xs + cond b 1 0) is in
    subst (λ (n : ℕ). Turned side r past (Some false) n g) (sym more) (given side r past d.turn (passing xs) g (fair refl) h)

item_kept : (side : Side) (r : RequestId) (past : List Event) (item : Item) (xs : List Message) (d : EndDone) (p : ℕ) → TurnIs false side d.turn (BeganAt r past) → Turned side r past d.turn p (passing xs)
    → Turned side r past (after_item item d).turn p (passing (xs ++ item_in item))
item_kept side r past (Ending event code payload) xs d p fair h = subst (λ (zs : List Message). Turned side r past d.turn p (passing zs)) (sym (append-nil xs)) h
item_kept side r past (MessageItem payload false) xs d p fair h =
    let same : passing (xs ++ (payload, false) ∷ []) ≡ passing xs = passing-append xs ((payload, false) ∷ []) ∙ omega arith in
    subst (λ (n : ℕ). Turned side r past d.turn p n) (sym same) h
item_kept side r past (MessageItem payload true) xs d p fair h =
    subst (λ (n : ℕ). Turned side r past (Some true) p n) (sym (passing-append xs ((payload, true) ∷ []))) (got side r past d.turn p (passing xs) fair h)

heard_kept : (side : Side) (r : RequestId) (past : List Event) (b : Bool) (item : Item) (xs : List Message) (d : EndDone) (p : ℕ) → (b ≡ true → TurnIs false side d.turn (BeganAt r past)) → Turned side r past d.turn p (passing xs)
    → Turned side r past (if b then after_item item d else d).turn p (passing (xs ++ (if b then item_in item else [])))
heard_kept side r past true item xs d p fair h = item_kept side r past item xs d p (fair refl) h
heard_kept side r past false item xs d p fair h = subst (λ (zs : List Message). Turned side r past d.turn p (passing zs)) (sym (append-nil xs)) h

kept_silent : (c : ℕ) (side : Side) (r : RequestId) (e : Event) (past : List Event) → Silent side r e past → Kept c side r past → Kept c side r (e ∷ past)
kept_silent c side r e past silent h =
    subst (λ (zs : List Message). Turned side r (e ∷ past) (end_done c side r (e ∷ past)).turn (passing zs) (passing (heard side r (e ∷ past)))) (sym (silent_messages side r e past silent))
    (subst (λ (zs : List Message). Turned side r (e ∷ past) (end_done c side r (e ∷ past)).turn (passing (messages side r past)) (passing zs)) (sym (silent_heard side r e past silent))
    (subst (λ (d : EndDone). Turned side r (e ∷ past) d.turn (passing (messages side r past)) (passing (heard side r past))) (sym (silent_done c side r e past silent))
    (turned_more side r e past (end_done c side r past).turn (passing (messages side r past)) (passing (heard side r past)) h)))

kept_more : (c : ℕ) (side : Side) (r : RequestId) (e : Event) (past : List Event) → Acts c side r e past → Fair c side r e past → Kept c side r past → Kept c side r (e ∷ past)
unfolding messages heard end_done
kept_more c side r (Send s) past acts fair h =
    let d = end_done c side r past in
    let b = is_by side r s.by.0 s.request past in
    let k = send_kept side r past b s.passes (s.payload, s.passes) (messages side r past) d (passing (heard side r past)) refl fair h in
    let turned = subst (λ (t : Bool). Turned side r past (if t then after_send s.passes d else d).turn (passing (messages side r past ++ (if b then (s.payload, s.passes) ∷ [] else []))) (passing (heard side r past))) (sym (same_condition c s.by.0 side r s.request past acts)) k in
    subst (λ (zs : List Message). Turned side r (Send s ∷ past) (end_done c side r (Send s ∷ past)).turn (passing (messages side r (Send s ∷ past))) (passing zs)) (sym (append-nil (heard side r past)))
    (turned_more side r (Send s) past (end_done c side r (Send s ∷ past)).turn (passing (messages side r (Send s ∷ past))) (passing (heard side r past)) turned)
kept_more c side r (Receive q) past acts fair h =
    let d = end_done c side r past in
    let b = is_by side r q.by.0 q.request past in
    let k = heard_kept side r past b q.item (heard side r past) d (passing (messages side r past)) fair h in
    let turned = subst (λ (t : Bool). Turned side r past (if t then after_item q.item d else d).turn (passing (messages side r past)) (passing (heard side r past ++ (if b then item_in q.item else [])))) (sym (same_condition c q.by.0 side r q.request past acts)) k in
    subst (λ (zs : List Message). Turned side r (Receive q ∷ past) (end_done c side r (Receive q ∷ past)).turn (passing zs) (passing (heard side r (Receive q ∷ past)))) (sym (append-nil (messages side r past)))
    (turned_more side r (Receive q) past (end_done c side r (Receive q ∷ past)).turn (passing (messages side r past)) (passing (heard side r (Receive q ∷ past))) turned)
kept_more c side r e past acts fair h = kept_silent c side r e past tt h

-- ---- what acts has control, or hasn't

fair_by : (control : Bool) (c : ℕ) (side : Side) (r : RequestId) (by : ℕ) (named : RequestId) (past : List Event) → is_by side r by named past ≡ true → by ≡ c → ControlIs control by named past (BeganAt named past)
    → TurnIs control side (end_done c side r past).turn (BeganAt r past)
fair_by control c side r by named past h is has =
    let parts = and_parts (same_request named r) (same_side side (side_of by r past)) h in
    let of_r = subst (λ (x : RequestId). ControlIs control by x past (BeganAt x past)) (same_request_is named r parts.0) has in
    let at = subst (λ (x : Side). TurnIs control x (end_done by x r past).turn (BeganAt r past)) (sym (same_side-is side (side_of by r past) parts.1)) of_r in
    subst (λ (k : ℕ). TurnIs control side (end_done k side r past).turn (BeganAt r past)) is at

fair : (s : State) (e : Event) (c : ℕ) (side : Side) (r : RequestId) → Case s e → Acts c side r e s.past → Fair c side r e s.past
fair s (Send q) c side r case acts = λ h. fair_by true c side r q.by.0 q.request s.past h (acts h) case.before.named
fair s (Receive q) c side r case acts = λ h. fair_by false c side r q.by.0 q.request s.past h (acts h) case.before.named.control
fair s _ c side r case acts = tt

-- ---- a conversation begins once

begins_unknown : (s : State) (e : Event) (side : Side) (r : RequestId) → Case s e → Agree s → begins_with side r e ≡ true → stage r s.past ≡ Unknown
begins_unknown s (Accept a) side r case agree h = from_unknown s.setup a (stage r s.past) (found s (Accept a) r case agree (and_parts (same_request a.request r) (gives_first side a.mode) h).0)
begins_unknown s _ side r case agree h = absurd (cc h)

one_first : (mode : Mode) → gives_first Originator mode ≡ true → gives_first Service mode ≡ true → ⊥
one_first Reply o v = cc o
one_first NoReply o v = cc o
one_first ConvReceives o v = cc v
one_first ConvSends o v = cc o

not_both : (r : RequestId) (e : Event) → begins_with Originator r e ≡ true → begins_with Service r e ≡ true → ⊥
not_both r (Accept a) o v = one_first a.mode (and_parts (same_request a.request r) (gives_first Originator a.mode) o).1 (and_parts (same_request a.request r) (gives_first Service a.mode) v).1
not_both r _ o v = cc o

-- ---- what a run keeps

pub record Turning (s : State) : Type 0 where
  pub originates : (r : RequestId) → Kept r.caller.0 Originator r s.past
  pub served : (server : ℕ) (r : RequestId) → stage r s.past ≡ Held server → Kept (caller_of s.clients server) Service r s.past
  pub none : (r : RequestId) → NotYet (stage r s.past) → (c : ℕ) → (end_done c Service r s.past).turn ≡ None
  pub balance : (r : RequestId) → (turn : Option Bool) × Turned Service r s.past turn (passing (messages Service r s.past)) (passing (heard Service r s.past))
  pub one : (r : RequestId) → is_begun Originator r s.past ≡ true → is_begun Service r s.past ≡ true → ⊥

still_none : (s : State) (e : Event) (r : RequestId) → Case s e → Agree s → Turning s → NotYet (stage r s.past) → (c : ℕ) → (end_done c Service r (e ∷ s.past)).turn ≡ None
still_none s e r case agree u yet c =
    elim (acts_serve s e r case agree) [
      | inl silent ↦ ap (λ (d : EndDone). d.turn) (silent_done c Service r e s.past silent) ∙ u.none r yet c
      | inr held ↦ absurd (subst NotYet held.1 yet)
    ]

pub turning_more : (s : State) (e : Event) → Case s e → Agree s → Talking s → Turning s → Turning (noted s e)
unfolding stage is_begun
turning_more s e case agree t u = record {
  originates = λ r. let acts = originator_acts r e s.past in kept_more r.caller.0 Originator r e s.past acts (fair s e r.caller.0 Originator r case acts) (u.originates r);
  served = λ server r. cond_both (moves r e) (stage_by e) (stage r s.past) (λ x. x ≡ Held server → Kept (caller_of s.clients server) Service r (e ∷ s.past))
      (λ m is. let b = by_take s e r server case agree m is in
      let none = t.none r b.0 in
      kept_silent (caller_of s.clients server) Service r e s.past b.1 (inl (u.none r b.0 (caller_of s.clients server), ap passing none.0, ap passing none.1)))
      (λ n is. let acts = service_acts s e r server case agree is in kept_more (caller_of s.clients server) Service r e s.past acts (fair s e (caller_of s.clients server) Service r case acts) (u.served server r is));
  none = λ r. cond_both (moves r e) (stage_by e) (stage r s.past) (λ x. NotYet x → (c : ℕ) → (end_done c Service r (e ∷ s.past)).turn ≡ None)
      (λ m yet. elim (by_entry s e r case agree t.plain m yet) [ inl old ↦ still_none s e r case agree u old | inr none ↦ λ c. ap (λ (d : EndDone). d.turn) (none.2 c Service) ]) (λ n yet. still_none s e r case agree u yet);
  balance = λ r. elim (acts_serve s e r case agree) [
    | inl silent ↦
        let old = u.balance r in (
          old.0,
          subst (λ (zs : List Message). Turned Service r (e ∷ s.past) old.0 (passing zs) (passing (heard Service r (e ∷ s.past)))) (sym (silent_messages Service r e s.past silent))
              (subst (λ (zs : List Message). Turned Service r (e ∷ s.past) old.0 (passing (messages Service r s.past)) (passing zs)) (sym (silent_heard Service r e s.past silent))
              (turned_more Service r e s.past old.0 (passing (messages Service r s.past)) (passing (heard Service r s.past)) old.1)),
        )
    | inr held ↦
        let c = caller_of s.clients held.0 in
        let acts = service_acts s e r held.0 case agree held.1 in
        ((end_done c Service r (e ∷ s.past)).turn, kept_more c Service r e s.past acts (fair s e c Service r case acts) (u.served held.0 r held.1))
  ];
  one = λ r o v. elim (or_cases (begins_with Originator r e) (is_begun Originator r s.past) o) [
    | inl o_now ↦ elim (or_cases (begins_with Service r e) (is_begun Service r s.past) v) [
      | inl v_now ↦ not_both r e o_now v_now
      | inr v_then ↦ let none = t.plain.fresh r (begins_unknown s e Originator r case agree o_now) Service in cc (none, v_then)
    ]
    | inr o_then ↦ elim (or_cases (begins_with Service r e) (is_begun Service r s.past) v) [
      | inl v_now ↦ let none = t.plain.fresh r (begins_unknown s e Service r case agree v_now) Originator in cc (none, o_then)
      | inr v_then ↦ u.one r o_then v_then
    ]
  ];
}

pub turning_none : (setup : Setup) (clients : ℕ) → Turning (opening setup clients)
unfolding stage is_begun messages heard end_done
turning_none setup clients = record {
  originates = λ r. inl (refl, refl, refl);
  served = λ server r is. absurd (cc is);
  none = λ r yet c. refl;
  balance = λ r. (None, inl (refl, refl, refl));
  one = λ r o v. cc o;
}

-- ---- the law

-- an end with control has been given it as often as it gave it away, or began with it
has_control : (side : Side) (r : RequestId) (past : List Event) (turn : Option Bool) (p g : ℕ) → TurnIs true side turn (BeganAt r past) → Turned side r past turn p g
    → ((is_begun side r past ≡ true) × (p ≡ g)) ⊎ ((is_begun (other_side side) r past ≡ true) × (g ≡ p + 1))
has_control side r past turn p g (inl has) (inl h) = absurd (cc (has, h.0))
has_control side r past turn p g (inl has) (inr (true, b, h)) = inl (b, subst (λ t. ByTurn true t p g) has h)
has_control side r past turn p g (inl has) (inr (false, b, h)) = inr (b, subst (λ t. ByTurn false t p g) has h)
has_control side r past turn p g (inr has) (inl h) = inl (has.1, omega (arith, h.1, h.2))
has_control side r past turn p g (inr has) (inr (first, b, h)) = let is : (p ≡ 0) × (g ≡ 0) = subst (λ t. ByTurn first t p g) has.0 h in inl (has.1, omega (arith, is.0, is.1))

-- the counts of the other end differ by one at most
balanced : (side : Side) (r : RequestId) (past : List Event) (turn : Option Bool) (p g : ℕ) → Turned side r past turn p g
    → ((p ≡ 0) × (g ≡ 0)) ⊎ (((is_begun side r past ≡ true) × (g ≤ p) × (p ≤ g + 1)) ⊎ ((is_begun (other_side side) r past ≡ true) × (p ≤ g) × (g ≤ p + 1)))
balanced side r past turn p g (inl h) = inl (h.1, h.2)
balanced side r past None p g (inr (first, b, h)) = inl (h.0, h.1)
balanced side r past (Some true) p g (inr (true, b, h)) = inr (inl (b, omega (arith, h), omega (arith, h)))
balanced side r past (Some false) p g (inr (true, b, h)) = inr (inl (b, omega (arith, h), omega (arith, h)))
balanced side r past (Some true) p g (inr (false, b, h)) = inr (inr (b, omega (arith, h), omega (arith, h)))
balanced side r past (Some false) p g (inr (false, b, h)) = inr (inr (b, omega (arith, h), omega (arith, h)))

heard_less : (sent got rest : List Message) → sent ≡ got ++ rest → passing got ≤ passing sent
heard_less sent got rest is = let whole = ap passing is ∙ passing-append got rest in omega (arith, whole)

abbrev pub TurnsAt : Side → RequestId → List Event → ℕ → ℕ → ℕ → Type 0
TurnsAt side r past p g other = ((is_begun side r past ≡ true) × (p ≡ other) × (g ≡ other)) ⊎ ((is_begun (other_side side) r past ≡ true) × (other ≡ p + 1) × (g ≡ other))

-- p and g are the end's own counts, q and h the other's
turns : (side : Side) (r : RequestId) (past : List Event) (p g q h : ℕ) → (is_begun side r past ≡ true → is_begun (other_side side) r past ≡ true → ⊥)
    → ((is_begun side r past ≡ true) × (p ≡ g)) ⊎ ((is_begun (other_side side) r past ≡ true) × (g ≡ p + 1))
    → ((q ≡ 0) × (h ≡ 0)) ⊎ (((is_begun (other_side side) r past ≡ true) × (h ≤ q) × (q ≤ h + 1)) ⊎ ((is_begun side r past ≡ true) × (q ≤ h) × (h ≤ q + 1)))
    → g ≤ q → h ≤ p → TurnsAt side r past p g q
turns side r past p g q h one (inl x) (inl y) low high = inl (x.0, omega (arith, x.1, y.0, low), omega (arith, y.0, low))
turns side r past p g q h one (inl x) (inr (inl y)) low high = absurd (one x.0 y.0)
turns side r past p g q h one (inl x) (inr (inr y)) low high = inl (x.0, omega (arith, x.1, y.1, low, high), omega (arith, x.1, y.1, low, high))
turns side r past p g q h one (inr x) (inl y) low high = absurd (omega (arith, x.1, y.0, low))
turns side r past p g q h one (inr x) (inr (inl y)) low high = inr (x.0, omega (arith, x.1, y.2, low, high), omega (arith, x.1, y.2, low, high))
turns side r past p g q h one (inr x) (inr (inr y)) low high = absurd (one y.0 x.0)

abbrev pub TakesTurns : Side → RequestId → List Event → Type 0
TakesTurns side r past = TurnsAt side r past (passing (messages side r past)) (passing (heard side r past)) (passing (messages (other_side side) r past))

abbrev pub InTurn : Event → List Event → Type 0
InTurn (Send s) before = s.passes ≡ true → TakesTurns (side_of s.by.0 s.request before) s.request before
InTurn _ before = Unit {0}

pub in_turn : (s : State) (e : Event) → Case s e → Agree s → Talking s → Turning s → InTurn e s.past
in_turn s (Send q) case agree t u = λ passes. by_side (side_of q.by.0 q.request s.past) refl case.worker.is_open case.before.named
  where
    by_side : (side : Side) → side_of q.by.0 q.request s.past ≡ side → HasOpen s.clients q.by.0 q.request s.past side → TurnIs true side (end_done q.by.0 side q.request s.past).turn (BeganAt q.request s.past) → TakesTurns side q.request s.past
    by_side Originator is open_end control =
        let own = subst (λ (c : ℕ). Kept c Originator q.request s.past) (sym (its_caller q.by.0 q.request (broken q.by.0 s.past) is)) (u.originates q.request) in
        let other = u.balance q.request in
        let mine = t.order Originator q.request in
        let theirs = t.order Service q.request in
        turns Originator q.request s.past _ _ _ (passing (heard Service q.request s.past)) (u.one q.request)
        (has_control Originator q.request s.past _ _ _ control own) (balanced Service q.request s.past other.0 _ _ other.1)
        (heard_less (messages Service q.request s.past) (heard Originator q.request s.past) mine.0 mine.1) (heard_less (messages Originator q.request s.past) (heard Service q.request s.past) theirs.0 theirs.1)
    by_side Service is open_end control =
        let x = in_hand_serves s q.by.0 q.request agree open_end.0 in
        let own = subst (λ (c : ℕ). Kept c Service q.request s.past) x.1 (u.served x.0 q.request x.2) in
        let mine = t.order Service q.request in
        let theirs = t.order Originator q.request in
        turns Service q.request s.past _ _ _ (passing (heard Originator q.request s.past)) (λ v o. u.one q.request o v)
        (has_control Service q.request s.past _ _ _ control own) (balanced Originator q.request s.past _ _ _ (u.originates q.request))
        (heard_less (messages Originator q.request s.past) (heard Service q.request s.past) mine.0 mine.1) (heard_less (messages Service q.request s.past) (heard Originator q.request s.past) theirs.0 theirs.1)
in_turn s _ case agree t u = tt
