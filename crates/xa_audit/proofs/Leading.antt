-- Events that lead to a state, one more, and what they come to.
use Rattle.std.proofs.Common.{◌≡◌, ℕ, ◌+◌, ◌<◌, List, [], ◌∷◌, length, take, Some, get_or, sym, ◌∙◌, ap, subst}
use Rattle.std.proofs.lemmas.Option.{slice_get-get_or}
use Rattle.xa_types.specs.declared.setup.Setup.{Setup}
use Rattle.xa_events.specs.declared.event.Event.{Event}
use Rattle.xa_events.specs.State.{State, opening, noted}
use Rattle.xa_events.specs.Cases.{Case}
use Rattle.xa_events.specs.Order.{TakesNext, TakesInOrder}
use Rattle.xa_events.specs.Run.{Run}
use Rattle.xa_machine.proofs.Running.{run_more}
use Rattle.xa_audit.specs.Verdict.{Leads, IsRefused}

-- a run keeps the setup
run_setup : (es : List Event) (old new : State) → Run old es new → new.setup ≡ old.setup
run_setup [] old new run = ap (λ (s : State). s.setup) run
run_setup (e ∷ es) old new run = run_setup es (noted old e) new run.1

pub leads_none : (setup : Setup) (clients : ℕ) (s : State) → s ≡ opening setup clients → Leads setup clients [] s
leads_none setup clients s is = record { runs = is; in_order = subst (λ (t : State). TakesInOrder setup t.past) (sym is) tt }

-- what the machine says of a take, of the setup that was given
pub same_setup : {setup : Setup} {clients : ℕ} {es : List Event} (s : State) (x : Event) → Leads setup clients es s → TakesNext s.setup x s.past → TakesNext setup x s.past
same_setup {setup} {clients} {es} s x leads takes = subst (λ (t : Setup). TakesNext t x s.past) (run_setup es (opening setup clients) s leads.runs) takes

pub own_setup : {setup : Setup} {clients : ℕ} {es : List Event} (s : State) (x : Event) → Leads setup clients es s → TakesNext setup x s.past → TakesNext s.setup x s.past
own_setup {setup} {clients} {es} s x leads takes = subst (λ (t : Setup). TakesNext t x s.past) (sym (run_setup es (opening setup clients) s leads.runs)) takes

pub leads_more : (setup : Setup) (clients : ℕ) (es : List Event) (i : ℕ) (x : Event) (mid : State) → i < length es → x ≡ get_or es i x → Leads setup clients (take i es) mid → TakesNext mid.setup x mid.past → Case mid x
    → Leads setup clients (take (i + 1) es) (noted mid x)
leads_more setup clients es i x mid within read leads takes case = record {
  runs = run_more es i x (opening setup clients) mid within read leads.runs case;
  in_order = (same_setup mid x leads takes, leads.in_order);
}

pub refused_at : (setup : Setup) (clients : ℕ) (es : List Event) (i : ℕ) (x : Event) (mid : State) → i < length es → x ≡ get_or es i x → Leads setup clients (take i es) mid → (Case mid x → TakesNext mid.setup x mid.past → ⊥)
    → IsRefused setup clients es i
refused_at setup clients es i x mid within read leads never = record {
  within = within;
  mid = mid;
  before = leads;
  refused = λ e stands case takes.
      let is : Some (get_or es i x) ≡ Some e = sym (slice_get-get_or es i x within) ∙ stands in
      let same : get_or es i x ≡ e = cc is in
      let here : x ≡ e = read ∙ same in
      subst (λ (y : Event). Case mid y → TakesNext mid.setup y mid.past → ⊥) here never case (own_setup mid e leads takes);
}
