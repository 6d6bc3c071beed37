-- What holds of each event of a caller's calls, as more are noted (this project's own).
use Rattle.std.specs.Prelude.{◌≡◌, ℕ, true, List, map, reverse}
use Rattle.xa_types.specs.declared.call.Op.{Op}
use Rattle.xa_types.specs.declared.setup.Setup.{Setup}
use Rattle.xa_events.specs.Caller.{is_call_of}
use Rattle.xa_events.specs.Homes.{Home}
use Rattle.xa_events.specs.Local.{worker_events}
use Rattle.xa_events.specs.Words.{AtEach}
use Rattle.xa_stamp.specs.declared.home.Stamped.{Stamped}
use Rattle.xa_worker.specs.Calls.{FitsTurn}

-- each event of a call fits the call of its number, of all that the caller makes: what `MadeOwn` asks of each
abbrev pub FitEach : Setup → ℕ → (Home → List Stamped) → ℕ → List Op → List Stamped → Type 0
FitEach setup clients entries caller ops own =
    AtEach (λ (x : Stamped) older. is_call_of caller x.event ≡ true → FitsTurn setup clients entries x.stamp caller ops x.event (worker_events clients caller (map (λ (y : Stamped). y.event) older))) (reverse own)
