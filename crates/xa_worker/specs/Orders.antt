-- What the queues' own reading asks, and what it gives (this project's own).
use Rattle.std.specs.Prelude.{ℕ, List, ◌∷◌}
use Rattle.xa_types.specs.declared.setup.Setup.{Setup}
use Rattle.xa_events.specs.declared.event.Event.{Event}
use Rattle.xa_events.specs.Words.{AtEach}
use Rattle.xa_events.specs.Order.{TakesNext}
use Rattle.xa_events.specs.Cases.{HomePart}
use Rattle.xa_events.specs.Homes.{Home}
use Rattle.xa_events.specs.Homes.Home.{QueueHome}
use Rattle.xa_lock.specs.declared.makers.Made.{Made}
use Rattle.xa_lock.specs.Makers.{noted_in}
use Rattle.xa_worker.specs.Seen.{past_in, IsNew}

-- no request is sent to a queue while it waits there
abbrev pub AllNew : Setup → (Home → List Made) → Type 0
AllNew setup kept = (queue : ℕ) → AtEach (IsNew setup queue) (past_in (noted_in (kept (QueueHome queue))))

-- the event met what is asked of its home, if each request was new that was sent there until now
abbrev pub MetIfNew : Setup → ℕ → Event → List Event → Type 0
MetIfNew setup queue e before = AtEach (IsNew setup queue) (e ∷ before) → HomePart setup e before

-- each event of a queue did
abbrev pub AllMetIfNew : Setup → (Home → List Made) → Type 0
AllMetIfNew setup kept = (queue : ℕ) → AtEach (MetIfNew setup queue) (past_in (noted_in (kept (QueueHome queue))))

-- each take of a queue gave the next request, by the queue's own events
abbrev pub AllNext : Setup → (Home → List Made) → Type 0
AllNext setup kept = (queue : ℕ) → AtEach (TakesNext setup) (past_in (noted_in (kept (QueueHome queue))))
