-- What a list of events comes to.
use Rattle.std.specs.Prelude.{ℕ, ◌≡◌, ◌<◌, List, ◌++◌, length, take, slice_get, Some, codes, decimal}
use Rattle.xa_types.specs.declared.setup.Setup.{Setup}
use Rattle.xa_events.specs.declared.event.Event.{Event}
use Rattle.xa_events.specs.State.{State, opening}
use Rattle.xa_events.specs.Cases.{Case}
use Rattle.xa_events.specs.Order.{TakesNext, TakesInOrder}
use Rattle.xa_events.specs.Run.{Run, IsFinal}
use Rattle.xa_audit.specs.declared.judging.Verdict.{Verdict}
use Rattle.xa_audit.specs.declared.judging.Verdict.TheVariants as verdicts

-- the events lead to that state, and each take gives the request that is next
pub record Leads (setup : Setup) (clients : ℕ) (events : List Event) (new : State) : Type 0 where
  pub runs : Run (opening setup clients) events new
  pub in_order : TakesInOrder setup new.past

-- the events before that place lead to a state in which the one there may not come next, or takes what isn't next
pub record IsRefused (setup : Setup) (clients : ℕ) (events : List Event) (place : ℕ) : Type 0 where
  pub within : place < length events
  pub mid : State
  pub before : Leads setup clients (take place events) mid
  pub refused : (e : Event) → slice_get events place ≡ Some e → Case mid e → TakesNext setup e mid.past → ⊥

abbrev pub IsVerdict : Setup → ℕ → List Event → Verdict → Type 0
IsVerdict setup clients events (verdicts.Run many) = (many ≡ length events) × ((new : State) × Leads setup clients events new × IsFinal new)
IsVerdict setup clients events (verdicts.At place) = IsRefused setup clients events place
IsVerdict setup clients events (verdicts.Unfinished many) = (many ≡ length events) × ((new : State) × Leads setup clients events new × (IsFinal new → ⊥))

-- the line that says it
abbrev pub verdict_line : Verdict → List ℕ
verdict_line (verdicts.Run many) = codes "run of " ++ decimal many ++ codes " events\n"
verdict_line (verdicts.At place) = codes "refused at " ++ decimal place ++ codes "\n"
verdict_line (verdicts.Unfinished many) = codes "unfinished after " ++ decimal many ++ codes " events\n"
