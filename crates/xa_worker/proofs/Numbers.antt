-- The numbers of a caller's calls never fall, so that no event of it has the number of a call that is still to come.
use Rattle.std.proofs.Common.{◌≡◌, ℕ, ◌+◌, ◌<◌, ◌≤◌, ◌==◌, ◌&&◌, Bool, true, false, List, [], ◌∷◌, inl, inr, refl, ◌∙◌, ap, arith, eqb-true}
use Rattle.std.specs.Prelude.{nat_lt}
use Rattle.std.proofs.lemmas.Bool.{cases_Bool, and_parts, ltb-true}
use Rattle.xa_types.specs.declared.setup.Setup.{Setup}
use Rattle.xa_events.specs.declared.event.Event.{Event}
use Rattle.xa_events.specs.declared.event.Event.TheVariants.{Advertise, Withdraw, Accept, Tick, Answer, Cancel, Lapse, Refuse, NotYet, Send, Receive, Break, Priority}
use Rattle.xa_events.specs.Words.{count, AtEach}
use Rattle.xa_events.specs.Caller.{is_call_of, op_in, newest_call, last_op}
use Rattle.xa_events.specs.Cases.{IsNextCall, WorkerPart}
use Rattle.xa_events.specs.Local.{worker_events}
use Rattle.xa_events.specs.Said.{is_op}
use Rattle.xa_events.proofs.WordsLemmas.{count_no}
use Rattle.xa_stamp.specs.declared.home.Stamped.{Stamped}
use Rattle.xa_worker.specs.Seen.{past_in}
use Rattle.xa_worker.specs.Work.{IsWorkOf}

-- the number of the newest event of a call is that of the last call
last_here : (caller : ℕ) (e : Event) (past : List Event) → is_call_of caller e ≡ true → last_op caller (e ∷ past) ≡ op_in e
unfolding newest_call
last_here caller e past is = rw is refl

last_kept : (caller : ℕ) (e : Event) (past : List Event) → is_call_of caller e ≡ false → last_op caller (e ∷ past) ≡ last_op caller past
unfolding newest_call
last_kept caller e past not = rw not refl

-- ---- an event of a call has no smaller number than the last

its_caller : (by caller op : ℕ) → ((by == caller) && nat_lt 0 op) ≡ true → by ≡ caller
its_caller by caller op is = eqb-true by caller (and_parts (by == caller) (nat_lt 0 op) is).0

some_number : (by caller op : ℕ) → ((by == caller) && nat_lt 0 op) ≡ true → op ≡ 0 → ⊥
some_number by caller op is none = let some = ltb-true 0 op (and_parts (by == caller) (nat_lt 0 op) is).1 in omega (arith, some, none)

next_above : (clients by caller op : ℕ) (past : List Event) → by ≡ caller → IsNextCall clients by op past → last_op caller past ≤ op
next_above clients by caller op past same call = let next = call.next ∙ ap (λ (k : ℕ). last_op k past + 1) same in omega (arith, next)

no_less : (setup : Setup) (clients caller : ℕ) (e : Event) (past : List Event) → WorkerPart setup clients e past → is_call_of caller e ≡ true → last_op caller past ≤ op_in e
no_less setup clients caller (Advertise a) past part is = elim part [
  | inl domain ↦ absurd (some_number a.by.0 caller a.op is domain.none)
  | inr server ↦ next_above clients a.by.0 caller a.op past (its_caller a.by.0 caller a.op is) server.call
]
no_less setup clients caller (Withdraw w) past part is = elim part [
  | inl domain ↦ absurd (some_number w.by.0 caller w.op is domain.none)
  | inr server ↦ next_above clients w.by.0 caller w.op past (its_caller w.by.0 caller w.op is) server.call
]
no_less setup clients caller (Accept a) past part is = next_above clients a.by.0 caller a.op past (its_caller a.by.0 caller a.op is) part.call
no_less setup clients caller (Tick t) past part is = next_above clients t.by.0 caller t.op past (its_caller t.by.0 caller t.op is) part.call
no_less setup clients caller (Answer a) past part is =
    let same = ap (λ (k : ℕ). last_op k past) (its_caller a.by.0 caller a.op is) in
    elim part.op [
      | inl next ↦ omega (arith, same, next)
      | inr its ↦ let last = its.0 in omega (arith, same, last)
    ]
no_less setup clients caller (Cancel c) past part is = elim part.call [
  | inl call ↦ next_above clients c.by.0 caller c.op past (its_caller c.by.0 caller c.op is) call
  | inr none ↦ absurd (some_number c.by.0 caller c.op is none.0)
]
no_less setup clients caller (Lapse l) past part is =
    let same = ap (λ (k : ℕ). last_op k past) (its_caller l.by.0 caller l.op is) in
    elim part.call [
      | inl next ↦ let one = next.1 in omega (arith, same, one)
      | inr its ↦ let last = its.1 in omega (arith, same, last)
    ]
no_less setup clients caller (Refuse r) past part is = next_above clients r.by.0 caller r.op past (its_caller r.by.0 caller r.op is) part.call
no_less setup clients caller (NotYet n) past part is = next_above clients n.by.0 caller n.op past (its_caller n.by.0 caller n.op is) part.call
no_less setup clients caller (Send s) past part is = next_above clients s.by.0 caller s.op past (its_caller s.by.0 caller s.op is) part.call
no_less setup clients caller (Receive r) past part is = next_above clients r.by.0 caller r.op past (its_caller r.by.0 caller r.op is) part.call
no_less setup clients caller (Break b) past part is = elim part.op [
  | inl call ↦ next_above clients b.by.0 caller b.op past (its_caller b.by.0 caller b.op is) call
  | inr none ↦ absurd (some_number b.by.0 caller b.op is none.0)
]
no_less setup clients caller (Priority p) past part is = next_above clients p.by.0 caller p.op past (its_caller p.by.0 caller p.op is) part.call
no_less setup clients caller _ past part is = cc is

-- ---- above the last number there is none

another : (caller n : ℕ) (e : Event) → op_in e < n → is_op caller n e ≡ false
another caller n e below = elim (cases_Bool (is_op caller n e)) [
  | inl its ↦ let same = eqb-true (op_in e) n (and_parts (is_call_of caller e) (op_in e == n) its).1 in absurd (omega (arith, below, same))
  | inr none ↦ none
]

no_call : (caller n : ℕ) (e : Event) → is_call_of caller e ≡ false → is_op caller n e ≡ false
no_call caller n e not = ap (λ (b : Bool). b && (op_in e == n)) not

pub none_above : (setup : Setup) (clients caller n : ℕ) (past : List Event) → AtEach (WorkerPart setup clients) past → last_op caller past < n → count (is_op caller n) past ≡ 0
none_above setup clients caller n [] met below = refl
none_above setup clients caller n (e ∷ past) met below = elim (cases_Bool (is_call_of caller e)) [
  | inl is ↦
      let number = last_here caller e past is in
      let low = no_less setup clients caller e past met.0 is in
      count_no (is_op caller n) e past (another caller n e (omega (arith, number, below))) ∙ none_above setup clients caller n past met.1 (omega (arith, number, low, below))
  | inr not ↦
      let number = last_kept caller e past not in
      count_no (is_op caller n) e past (no_call caller n e not) ∙ none_above setup clients caller n past met.1 (omega (arith, number, below))
]

-- so it is with all that a worker noted
pub none_yet : (setup : Setup) (clients worker : ℕ) (own : List Stamped) → IsWorkOf setup clients worker own → (n : ℕ) → last_op worker (worker_events clients worker (past_in own)) < n
    → count (is_op worker n) (worker_events clients worker (past_in own)) ≡ 0
none_yet setup clients worker own work n below = none_above setup clients worker n (worker_events clients worker (past_in own)) work.met below
