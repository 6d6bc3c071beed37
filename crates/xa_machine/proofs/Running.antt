-- A run goes on by one event.
use Rattle.std.proofs.Common.{◌≡◌, ℕ, ◌+◌, ◌<◌, List, [], ◌∷◌, ◌++◌, length, take, Some, get_or, sym, ◌∙◌, ap, subst}
use Rattle.std.proofs.lemmas.List.{take_more}
use Rattle.std.proofs.lemmas.Option.{slice_get-get_or}
use Rattle.xa_events.specs.declared.event.Event.{Event}
use Rattle.xa_events.specs.State.{State, noted}
use Rattle.xa_events.specs.Cases.{Case}
use Rattle.xa_events.specs.Run.{Run}
use Rattle.xa_machine.specs.Runs.{IsRefusedAt}

pub run_push : (es : List Event) (old mid : State) (e : Event) → Run old es mid → Case mid e → Run old (es ++ e ∷ []) (noted mid e)
run_push [] old mid e run case = (subst (λ (s : State). Case s e) run case, ap (λ s. noted s e) run)
run_push (x ∷ es) old mid e run case = (run.0, run_push es (noted old x) mid e run.1 case)

pub run_more : (es : List Event) (i : ℕ) (x : Event) (old mid : State) → i < length es → x ≡ get_or es i x → Run old (take i es) mid → Case mid x → Run old (take (i + 1) es) (noted mid x)
run_more es i x old mid within read run case =
    subst (λ (xs : List Event). Run old xs (noted mid x)) (ap (λ (y : Event). take i es ++ y ∷ []) read ∙ sym (take_more es i x within)) (run_push (take i es) old mid x run case)

pub refused_here : (es : List Event) (i : ℕ) (x : Event) (old mid : State) → i < length es → x ≡ get_or es i x → Run old (take i es) mid → (Case mid x → ⊥) → IsRefusedAt old es i
refused_here es i x old mid within read run never = (
  mid,
  run,
  λ e stands case.
      let is : Some (get_or es i x) ≡ Some e = sym (slice_get-get_or es i x within) ∙ stands in
      let same : get_or es i x ≡ e = cc is in
      let here : x ≡ e = read ∙ same in
      never (subst (λ (y : Event). Case mid y) (sym here) case),
)
