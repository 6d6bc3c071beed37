-- The laws of conversations count by which end an event is, as no case does; of events that have a case both name the same end.
use Rattle.std.proofs.Common.{◌≡◌, ℕ, ◌+◌, ◌==◌, ◌&&◌, if◌then◌else◌, Bool, true, false, List, [], ◌∷◌, ◌++◌, Some, None, inl, inr, refl, sym, ◌∙◌, ap, subst, eq-eqb, eqb-true}
use Rattle.std.specs.Prelude.{IsSomeAnd}
use Rattle.std.specs.List.{list_any}
use Rattle.std.proofs.lemmas.Bool.{cases_Bool, cond_both, and_parts, and_from, or_left, or_right, or_cases}
use Rattle.std.proofs.lemmas.Option.{cond_some}
use Rattle.xa_types.specs.declared.ids.RequestId.{RequestId}
use Rattle.xa_types.specs.declared.setup.Setup.{Setup}
use Rattle.xa_types.specs.declared.call.Mode.{Mode}
use Rattle.xa_types.specs.declared.call.Mode.TheVariants.{Reply, NoReply, ConvReceives, ConvSends}
use Rattle.xa_events.specs.declared.event.Event.{Event}
use Rattle.xa_events.specs.declared.event.Event.TheVariants.{Accept, Take, Send, Receive}
use Rattle.xa_events.specs.Words.{same_request, has, count, Was}
use Rattle.xa_events.specs.State.{State, opening, noted, caller_of}
use Rattle.xa_events.specs.Request.{is_accept_of}
use Rattle.xa_events.specs.Cases.{Case, HasOpen, OpenEnd}
use Rattle.xa_events.specs.Run.{Run}
use Rattle.xa_events.specs.Conversation.{Side, other_side, same_side, gives_first, begins_with, is_begun, side_of, broken, opens_connection, closes_connection, connections}
use Rattle.xa_events.specs.Conversation.Side.{Originator, Service}
use Rattle.xa_events.specs.Laws.{is_taken_by, end_by, is_by as counts_by, item_in, messages as counted, heard as counted_heard, passing, mode_in, mode_giving, Began, IsOfEnd, ByAnEnd, TakesTurns as TakesCounted, InOrder as InCountedOrder, HeardAll as HeardCounted, InTurn as InCountedTurn, LawOfMessages, LawOfEndings, LawOfTurns}
use Rattle.xa_events.proofs.WordsLemmas.{same_request_is, same_request_of, one_from, kept_before}
use Rattle.xa_events.proofs.Stages.{along, moves, stage_by, stage, Agree, agree_none, agree_more, found, at_most_once}
use Rattle.xa_events.proofs.Stages.Stage.{Unknown, Held}
use Rattle.xa_events.proofs.Talks.{is_by, messages, heard, InOrder, from_unknown, known_by, its_caller, in_hand_serves, Talking, talking_none, talking_more, Closed, closed_none, closed_more, order_more, heard_all}
use Rattle.xa_events.proofs.Turns.{TakesTurns, Turning, turning_none, turning_more, in_turn}

-- ---- the end that a caller means

abbrev pub was_taken_by : State → ℕ → RequestId → Bool
was_taken_by s caller r = list_any (is_taken_by s.clients caller r) s.past

-- a request that its own caller's server was given is none of the caller's connections; what a server holds it was given
pub record Given (s : State) : Type 0 where
  pub known : (caller : ℕ) (r : RequestId) → was_taken_by s caller r ≡ true → stage r s.past ≡ Unknown → ⊥
  pub apart : (caller : ℕ) (r : RequestId) → was_taken_by s caller r ≡ true → has r (connections caller s.past) ≡ true → ⊥
  pub held : (server : ℕ) (r : RequestId) → stage r s.past ≡ Held server → was_taken_by s (caller_of s.clients server) r ≡ true

pub given_none : (setup : Setup) (clients : ℕ) → Given (opening setup clients)
unfolding stage
given_none setup clients = record { known = λ caller r h is. cc h; apart = λ caller r h there. cc h; held = λ server r is. cc is }

taken_moves : (clients caller : ℕ) (r : RequestId) (e : Event) → is_taken_by clients caller r e ≡ true → moves r e ≡ true
taken_moves clients caller r (Take t) h = (and_parts (caller_of clients t.server.0 == caller) (same_request t.request r) h).1
taken_moves clients caller r _ h = absurd (cc h)

taken_here : (clients server : ℕ) (r : RequestId) (e : Event) → moves r e ≡ true → stage_by e ≡ Held server → is_taken_by clients (caller_of clients server) r e ≡ true
taken_here clients server r (Take t) m is =
    let same : t.server.0 ≡ server = cc is in
    and_from (caller_of clients t.server.0 == caller_of clients server) (same_request t.request r) (eq-eqb (caller_of clients t.server.0) (caller_of clients server) (ap (caller_of clients) same)) m
taken_here clients server r _ m is = absurd (cc is)

-- a take finds no connection of its server's caller
none_connected : (s : State) (caller : ℕ) (r : RequestId) (e : Event) → Case s e → is_taken_by s.clients caller r e ≡ true → connections caller s.past ≡ []
none_connected s caller r (Take t) case h =
    subst (λ (c : ℕ). connections c s.past ≡ []) (eqb-true (caller_of s.clients t.server.0) caller (and_parts (caller_of s.clients t.server.0 == caller) (same_request t.request r) h).0) case.worker.unconnected
none_connected s caller r _ case h = absurd (cc h)

-- what opens a connection finds its request unknown, and takes nothing
opens_unknown : (s : State) (caller other : ℕ) (r : RequestId) (e : Event) → Case s e → Agree s → opens_connection caller e ≡ Some r → (stage r s.past ≡ Unknown) × (is_taken_by s.clients other r e ≡ false)
opens_unknown s caller other r (Accept a) case agree h =
    (from_unknown s.setup a (stage r s.past) (found s (Accept a) r case agree (same_request_of a.request r (cond_some _ a.request r h).1)), refl)
opens_unknown s caller other r _ case agree h = absurd (cc h)

pub given_more : (s : State) (e : Event) → Case s e → Agree s → Given s → Given (noted s e)
unfolding stage connections
given_more s e case agree t = record {
  known = λ caller r h. cond_both (moves r e) (stage_by e) (stage r s.past) (λ x. x ≡ Unknown → ⊥)
      (λ m is. known_by e is)
      (λ n is. elim (or_cases (is_taken_by s.clients caller r e) (was_taken_by s caller r) h) [ inl now ↦ let m = taken_moves s.clients caller r e now in cc (m, n) | inr old ↦ t.known caller r old is ]);
  apart = λ caller r h there. elim (kept_before (opens_connection caller e) (closes_connection caller e) (connections caller s.past) r there) [
    | inl opened ↦
        let new = opens_unknown s caller caller r e case agree opened in
        elim (or_cases (is_taken_by s.clients caller r e) (was_taken_by s caller r) h) [ inl now ↦ let none = new.1 in cc (now, none) | inr old ↦ t.known caller r old new.0 ]
    | inr kept ↦
        elim (or_cases (is_taken_by s.clients caller r e) (was_taken_by s caller r) h) [
          | inl now ↦ let none : has r (connections caller s.past) ≡ false = ap (has r) (none_connected s caller r e case now) in let some = kept.0 in cc (some, none)
          | inr old ↦ t.apart caller r old kept.0
        ]
  ];
  held = λ server r. cond_both (moves r e) (stage_by e) (stage r s.past) (λ x. x ≡ Held server → was_taken_by (noted s e) (caller_of s.clients server) r ≡ true)
      (λ m is. or_left (is_taken_by s.clients (caller_of s.clients server) r e) (was_taken_by s (caller_of s.clients server) r) (taken_here s.clients server r e m is))
      (λ n is. or_right (is_taken_by s.clients (caller_of s.clients server) r e) (was_taken_by s (caller_of s.clients server) r) (t.held server r is));
}

-- of an open end the cases and the counts name the same
same_end : (s : State) (by : ℕ) (r : RequestId) → Agree s → Given s → OpenEnd s.clients by r s.past → end_by s.clients by r s.past ≡ side_of by r s.past
same_end s by r agree t is_open = by_side (side_of by r s.past) is_open
  where
    by_side : (side : Side) → HasOpen s.clients by r s.past side → end_by s.clients by r s.past ≡ side
    by_side Originator h = elim (cases_Bool (was_taken_by s by r)) [ inl y ↦ absurd (t.apart by r y h) | inr n ↦ ap (λ b. if b then Service else Originator) n ]
    by_side Service h =
        let x = in_hand_serves s by r agree h.0 in
        let taken = subst (λ (c : ℕ). was_taken_by s c r ≡ true) x.1 (t.held x.0 r x.2) in
        ap (λ b. if b then Service else Originator) taken

of_end : (s : State) (by : ℕ) (r : RequestId) → Agree s → Given s → OpenEnd s.clients by r s.past → IsOfEnd s.clients by r s.past
of_end s by r agree t is_open = λ h. its_caller by r (broken by s.past) (sym (same_end s by r agree t is_open) ∙ h)

by_an_end : (s : State) (e : Event) → Case s e → Agree s → Given s → ByAnEnd s.clients e s.past
by_an_end s (Send q) case agree t = of_end s q.by.0 q.request agree t case.worker.is_open
by_an_end s (Receive q) case agree t = of_end s q.by.0 q.request agree t case.worker.is_open
by_an_end s _ case agree t = tt

same_by : (s : State) (by : ℕ) (named r : RequestId) (side : Side) → Agree s → Given s → OpenEnd s.clients by named s.past → counts_by s.clients side r by named s.past ≡ is_by side r by named s.past
same_by s by named r side agree t is_open = elim (cases_Bool (same_request named r)) [
  | inl y ↦ ap (λ x. same_request named r && same_side side x) (subst (λ (q : RequestId). end_by s.clients by q s.past ≡ side_of by q s.past) (same_request_is named r y) (same_end s by named agree t is_open))
  | inr n ↦ ap (λ b. b && same_side side (end_by s.clients by r s.past)) n ∙ sym (ap (λ b. b && same_side side (side_of by r s.past)) n)
]

-- ---- so both count the same messages

abbrev pub Alike : State → Type 0
Alike s = (side : Side) (r : RequestId) → (counted s.clients side r s.past ≡ messages side r s.past) × (counted_heard s.clients side r s.past ≡ heard side r s.past)

pub alike_more : (s : State) (e : Event) → Case s e → Agree s → Given s → Alike s → Alike (noted s e)
unfolding counted counted_heard messages heard
alike_more s (Send q) case agree t a side r =
    let same = same_by s q.by.0 q.request r side agree t case.worker.is_open in (
      ap (λ b. counted s.clients side r s.past ++ (if b then (q.payload, q.passes) ∷ [] else [])) same ∙ ap (λ xs. xs ++ (if is_by side r q.by.0 q.request s.past then (q.payload, q.passes) ∷ [] else [])) (a side r).0,
      ap (λ xs. xs ++ []) (a side r).1,
    )
alike_more s (Receive q) case agree t a side r =
    let same = same_by s q.by.0 q.request r side agree t case.worker.is_open in (
      ap (λ xs. xs ++ []) (a side r).0,
      ap (λ b. counted_heard s.clients side r s.past ++ (if b then item_in q.item else [])) same ∙ ap (λ xs. xs ++ (if is_by side r q.by.0 q.request s.past then item_in q.item else [])) (a side r).1,
    )
alike_more s _ case agree t a side r = (ap (λ xs. xs ++ []) (a side r).0, ap (λ xs. xs ++ []) (a side r).1)

-- ---- how the conversation began

began_now : (side : Side) (r : RequestId) (e : Event) → begins_with side r e ≡ true → (is_accept_of r e ≡ true) × IsSomeAnd (mode_in r e) (λ mode. mode ≡ mode_giving side)
began_now side r (Accept a) h =
    let parts = and_parts (same_request a.request r) (gives_first side a.mode) h in
    (parts.0, subst (λ (b : Bool). IsSomeAnd (if b then Some a.mode else None) (λ mode. mode ≡ mode_giving side)) (sym parts.0) (by_mode side a.mode parts.1))
  where
    by_mode : (x : Side) (mode : Mode) → gives_first x mode ≡ true → mode ≡ mode_giving x
    by_mode Originator ConvReceives g = refl
    by_mode Service ConvSends g = refl
    by_mode Originator Reply g = absurd (cc g)
    by_mode Originator NoReply g = absurd (cc g)
    by_mode Originator ConvSends g = absurd (cc g)
    by_mode Service Reply g = absurd (cc g)
    by_mode Service NoReply g = absurd (cc g)
    by_mode Service ConvReceives g = absurd (cc g)
began_now side r _ h = absurd (cc h)

was_begun : (side : Side) (r : RequestId) (past : List Event) → is_begun side r past ≡ true → Was (λ e before. (is_accept_of r e ≡ true) × IsSomeAnd (mode_in r e) (λ mode. mode ≡ mode_giving side)) past
unfolding is_begun
was_begun side r [] h = cc h
was_begun side r (e ∷ past) h = elim (or_cases (begins_with side r e) (is_begun side r past) h) [ inl now ↦ inl (began_now side r e now) | inr old ↦ inr (was_begun side r past old) ]

no_mode : (r : RequestId) (e : Event) → is_accept_of r e ≡ false → mode_in r e ≡ None
no_mode r (Accept a) n = ap (λ b. if b then Some a.mode else None) n
no_mode r _ n = refl

began : (s : State) (side : Side) (r : RequestId) → Agree s → is_begun side r s.past ≡ true → Began side r s.past
began s side r agree h =
    let one = one_from (mode_in r) (is_accept_of r) (λ mode. mode ≡ mode_giving side) (no_mode r) s.past (at_most_once r s.past (stage r s.past) (agree.counts r)).0 (was_begun side r s.past h) in
    one.1 ∙ ap (λ mode. mode ∷ []) one.2

-- ---- the laws

order_counted : (s : State) → Alike s → InOrder s.past → InCountedOrder s.clients s.past
order_counted s a order side r = let o = order side r in (o.0, (a (other_side side) r).0 ∙ (o.1 ∙ ap (λ xs. xs ++ o.0) (sym (a side r).1)))

heard_counted : (s : State) (e : Event) → Case s e → Agree s → Given s → Alike s → Talking s → Closed s → HeardCounted s.clients e s.past
heard_counted s (Receive q) case agree t a talking closed = λ none.
    let at = side_of q.by.0 q.request s.past in
    let all = heard_all s (Receive q) case agree talking closed none in
    subst (λ (side : Side). counted s.clients (other_side side) q.request s.past ≡ counted_heard s.clients side q.request s.past) (sym (same_end s q.by.0 q.request agree t case.worker.is_open))
    ((a (other_side at) q.request).0 ∙ (all ∙ sym (a at q.request).1))
heard_counted s _ case agree t a talking closed = tt

turns_counted : (s : State) (side : Side) (r : RequestId) → Agree s → Alike s → TakesTurns side r s.past → TakesCounted s.clients side r s.past
turns_counted s side r agree a h =
    let sent = ap passing (a side r).0 in
    let got = ap passing (a side r).1 in
    let other = ap passing (a (other_side side) r).0 in
    elim h [
      | inl x ↦ inl (began s side r agree x.0, sent ∙ (x.1 ∙ sym other), got ∙ (x.2 ∙ sym other))
      | inr x ↦ inr (began s (other_side side) r agree x.0, other ∙ (x.1 ∙ ap (λ n. n + 1) (sym sent)), got ∙ (x.2 ∙ sym other))
    ]

turn_counted : (s : State) (e : Event) → Case s e → Agree s → Given s → Alike s → Talking s → Turning s → InCountedTurn s.clients e s.past
turn_counted s (Send q) case agree t a talking turning = λ passes.
    subst (λ (side : Side). TakesCounted s.clients side q.request s.past) (sym (same_end s q.by.0 q.request agree t case.worker.is_open))
    (turns_counted s (side_of q.by.0 q.request s.past) q.request agree a (in_turn s (Send q) case agree talking turning passes))
turn_counted s _ case agree t a talking turning = tt

-- what a run keeps of its conversations
pub record Conversing (clients : ℕ) (s : State) : Type 0 where
  pub clients_are : s.clients ≡ clients
  pub agree : Agree s
  pub given : Given s
  pub alike : Alike s
  pub talking : Talking s
  pub closed : Closed s
  pub turning : Turning s
  pub messages_law : LawOfMessages s.clients s.past
  pub endings_law : LawOfEndings s.clients s.past
  pub turns_law : LawOfTurns s.clients s.past

conversing_more : (clients : ℕ) (s : State) (e : Event) → Case s e → Conversing clients s → Conversing clients (noted s e)
conversing_more clients s e case c =
    let alike = alike_more s e case c.agree c.given c.alike in
    record {
      clients_are = c.clients_are;
      agree = agree_more s e case c.agree;
      given = given_more s e case c.agree c.given;
      alike = alike;
      talking = talking_more s e case c.agree c.talking;
      closed = closed_more s e case c.agree c.talking c.closed;
      turning = turning_more s e case c.agree c.talking c.turning;
      messages_law = ((by_an_end s e case c.agree c.given, order_counted (noted s e) alike (order_more s e case c.agree c.talking)), c.messages_law);
      endings_law = (heard_counted s e case c.agree c.given c.alike c.talking c.closed, c.endings_law);
      turns_law = (turn_counted s e case c.agree c.given c.alike c.talking c.turning, c.turns_law);
    }

conversing_none : (setup : Setup) (clients : ℕ) → Conversing clients (opening setup clients)
unfolding counted counted_heard messages heard
conversing_none setup clients = record {
  clients_are = refl;
  agree = agree_none setup clients;
  given = given_none setup clients;
  alike = λ side r. (refl, refl);
  talking = talking_none setup clients;
  closed = closed_none setup clients;
  turning = turning_none setup clients;
  messages_law = tt;
  endings_law = tt;
  turns_law = tt;
}

pub laws_of_conversations : (setup : Setup) (clients : ℕ) (events : List Event) (new : State) → Run (opening setup clients) events new → LawOfMessages clients new.past × LawOfEndings clients new.past × LawOfTurns clients new.past
laws_of_conversations setup clients events new run =
    let c = along (Conversing clients) (conversing_more clients) events (opening setup clients) new (conversing_none setup clients) run in
    subst (λ (n : ℕ). LawOfMessages n new.past × LawOfEndings n new.past × LawOfTurns n new.past) c.clients_are (c.messages_law, c.endings_law, c.turns_law)
