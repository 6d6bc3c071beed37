-- In every run each caller's calls are numbered one by one.
use Rattle.std.proofs.Common.{◌≡◌, ◌⊎◌, ℕ, ◌+◌, ◌==◌, ◌&&◌, Bool, true, false, List, inl, inr, refl, nat_lt, eqb-true}
use Rattle.xa_types.specs.declared.setup.Setup.{Setup}
use Rattle.xa_events.specs.declared.event.Event.{Event}
use Rattle.xa_events.specs.declared.event.Event.TheVariants.{Advertise, Withdraw, Accept, Tick, Answer, Cancel, Lapse, Refuse, NotYet, Send, Receive, Break, Priority}
use Rattle.xa_events.specs.State.{State, opening}
use Rattle.xa_events.specs.Run.{Run}
use Rattle.xa_events.specs.Caller.{last_op}
use Rattle.xa_events.specs.Cases.{Case}
use Rattle.xa_events.proofs.Stages.{along}
use Rattle.xa_text.specs.InTurn.{IsInTurn, CallsInTurn}

pub both : (a b : Bool) → (a && b) ≡ true → (a ≡ true) × (b ≡ true)
both true b h = (refl, h)
both false b h = absurd (cc h)

abbrev Fits : ℕ → ℕ → List Event → Type 0
Fits caller op past = (op ≡ last_op caller past) ⊎ (op ≡ last_op caller past + 1)

moved : (by caller op : ℕ) (past : List Event) → ((by == caller) && nat_lt 0 op) ≡ true → Fits by op past → Fits caller op past
moved by caller op past h fits = rw (← eqb-true by caller (both (by == caller) (nat_lt 0 op) h).0) fits

-- what was made by no call is of no caller
uncalled : (by caller op : ℕ) (past : List Event) → ((by == caller) && nat_lt 0 op) ≡ true → op ≡ 0 → Fits caller op past
uncalled by caller op past h none = absurd (cc (rw none at (both (by == caller) (nat_lt 0 op) h).1))

in_turn : (s : State) (e : Event) (client : ℕ) → Case s e → IsInTurn client e s.past
in_turn s (Advertise a) caller case = λ h. elim case.worker [ inl domain ↦ uncalled a.by.0 caller a.op s.past h domain.none | inr server ↦ moved a.by.0 caller a.op s.past h (inr server.call.next) ]
in_turn s (Withdraw w) caller case = λ h. elim case.worker [ inl domain ↦ uncalled w.by.0 caller w.op s.past h domain.none | inr server ↦ moved w.by.0 caller w.op s.past h (inr server.call.next) ]
in_turn s (Accept a) caller case = λ h. moved a.by.0 caller a.op s.past h (inr case.worker.call.next)
in_turn s (Tick t) caller case = λ h. moved t.by.0 caller t.op s.past h (inr case.worker.call.next)
in_turn s (Answer a) caller case = λ h. moved a.by.0 caller a.op s.past h (elim case.worker.op [ inl next ↦ inr next | inr again ↦ inl again.0 ])
in_turn s (Cancel c) caller case = λ h. elim case.worker.call [ inl call ↦ moved c.by.0 caller c.op s.past h (inr call.next) | inr none ↦ uncalled c.by.0 caller c.op s.past h none.0 ]
in_turn s (Lapse l) caller case = λ h. moved l.by.0 caller l.op s.past h (elim case.worker.call [ inl next ↦ inr next.1 | inr again ↦ inl again.1 ])
in_turn s (Refuse r) caller case = λ h. moved r.by.0 caller r.op s.past h (inr case.worker.call.next)
in_turn s (NotYet n) caller case = λ h. moved n.by.0 caller n.op s.past h (inr case.worker.call.next)
in_turn s (Send d) caller case = λ h. moved d.by.0 caller d.op s.past h (inr case.worker.call.next)
in_turn s (Receive r) caller case = λ h. moved r.by.0 caller r.op s.past h (inr case.worker.call.next)
in_turn s (Break b) caller case = λ h. elim case.worker.op [ inl call ↦ moved b.by.0 caller b.op s.past h (inr call.next) | inr none ↦ uncalled b.by.0 caller b.op s.past h none.0 ]
in_turn s (Priority p) caller case = λ h. moved p.by.0 caller p.op s.past h (inr case.worker.call.next)
in_turn s _ caller case = λ h. cc h

pub run_in_turn : (setup : Setup) (clients : ℕ) (events : List Event) (new : State) → Run (opening setup clients) events new → (client : ℕ) → CallsInTurn client new.past
run_in_turn setup clients events new run client = along (λ (s : State). CallsInTurn client s.past) (λ s e case h. (in_turn s e client case, h)) events (opening setup clients) new tt run
