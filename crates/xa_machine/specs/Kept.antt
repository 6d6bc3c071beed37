-- The state that a machine is seen as, and what its tables show of it.
use Rattle.std.specs.Prelude.{◌≡◌, ℕ, ◌+◌, ◌<◌, length, Option, Some, None, List, reverse, true}
use Rattle.xa_types.specs.declared.setup.Setup.{Setup}
use Rattle.xa_types.specs.Configured.{is_configured}
use Rattle.xa_events.specs.declared.event.Event.{Event}
use Rattle.xa_events.specs.Words.{AtEach}
use Rattle.xa_events.specs.State.{State}
use Rattle.xa_events.specs.Cases.{Case}
use Rattle.xa_machine.specs.declared.machine.Machine.TheInside.{Inside}
use Rattle.xa_events.specs.Homes.{worker_of}
use Rattle.xa_machine.specs.declared.tables.Place.{Place}
use Rattle.xa_machine.specs.Shown.{queue_home}
use Rattle.xa_machine.specs.Whole.{TablesShow}

abbrev pub state_of : Inside → State
state_of m = record { setup = m.setup; clients = m.clients; past = reverse m.events.items }

-- the state of that setup after these events
abbrev pub after : Setup → ℕ → List Event → State
after setup clients past = record { setup = setup; clients = clients; past = past }

-- each event might come next
abbrev pub Reached : Setup → ℕ → List Event → Type 0
Reached setup clients past = AtEach (λ e before. Case (after setup clients before) e) past

-- the number, where there is one, is less than n
abbrev pub FitsIn : Option ℕ → ℕ → Type 0
FitsIn None n = Unit {0}
FitsIn (Some k) n = k < n

pub record IsKept (m : Inside) : Type 0 where
  pub sound : is_configured m.setup ≡ true
  pub shaped : m.shapes ≡ m.setup.shapes
  pub tabled : TablesShow m.setup m.clients (reverse m.events.items) m.tables
  pub reached : Reached m.setup m.clients (reverse m.events.items)

-- the event's worker and its queue are of the setup
pub record IsPlaced (s : State) (e : Event) : Type 0 where
  pub worker : worker_of s.clients e < s.clients + (length s.setup.servers + 1)
  pub queue : FitsIn (queue_home s.setup e) (length s.setup.queues + 1)

-- the place is of the setup
pub record IsWithin (s : State) (place : Place) : Type 0 where
  pub worker : place.worker < s.clients + (length s.setup.servers + 1)
  pub server : place.server < length s.setup.servers + 1
  pub queue : FitsIn place.queue (length s.setup.queues + 1)
