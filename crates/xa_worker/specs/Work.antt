-- The work of one worker: its events at all homes, and what is asked of them (this project's own).
use Rattle.std.specs.Prelude.{◌≡◌, ℕ, ◌-◌, ◌^◌, max, List, [], ◌∷◌, ◌++◌}
use Rattle.std.specs.List.{All}
use Rattle.xa_types.specs.declared.ids.CallerId.{CallerId}
use Rattle.xa_types.specs.declared.stamp.Stamp.{Stamp}
use Rattle.xa_types.specs.declared.setup.Setup.{Setup}
use Rattle.xa_events.specs.declared.event.Event.{Event}
use Rattle.xa_events.specs.Words.{AtEach}
use Rattle.xa_events.specs.Homes.{worker_of}
use Rattle.xa_events.specs.Cases.{WorkerPart}
use Rattle.xa_events.specs.Local.{worker_events}
use Rattle.xa_stamp.specs.declared.home.Stamped.{Stamped}
use Rattle.xa_stamp.specs.Home.{Rises}
use Rattle.xa_worker.specs.Seen.{past_in}
use Rattle.xa_worker.specs.Crew.{no_stamp, MayNote}
use Rattle.xa_worker.specs.declared.work.Halt.{Halt}
use Rattle.xa_worker.specs.declared.work.Halt.TheVariants.{NoMemory, Worn}

-- what a worker's work is: the setup and the number of clients, the worker's number, the greatest stamp that it noted or saw, all that it noted,
-- oldest first, and for how many more events its own home has room
pub record WorkState : Type 0 where
  pub setup : Setup
  pub clients : ℕ
  pub id : CallerId
  pub stamp : Stamp
  pub own : List Stamped
  pub room : ℕ

-- the worker's events, the newest first; what it noted for the domain isn't among them
abbrev pub theirs : WorkState → List Event
theirs w = worker_events w.clients w.id.0 (past_in w.own)

-- the work with one event more
abbrev pub noted : Stamped → WorkState → WorkState
noted x w = record w { stamp = x.stamp; own = w.own ++ x ∷ [] }

-- the work with one event more at the worker's own home, where it takes room
abbrev pub noted_here : Stamped → WorkState → WorkState
noted_here x w = record w { stamp = x.stamp; own = w.own ++ x ∷ []; room = w.room - 1 }

-- what holds of all that a worker noted
pub record IsWorkOf (setup : Setup) (clients worker : ℕ) (own : List Stamped) : Type 0 where
  pub rises : Rises no_stamp own
  pub may : All (λ x. MayNote clients worker x.event) own
  pub met : AtEach (WorkerPart setup clients) (worker_events clients worker (past_in own))

abbrev pub IsSound : WorkState → Type 0
IsSound w = IsWorkOf w.setup w.clients w.id.0 w.own

-- the event is the worker's, and meets what is asked of it
pub record IsNext (w : WorkState) (e : Event) : Type 0 where
  pub its : worker_of w.clients e ≡ w.id.0
  pub met : WorkerPart w.setup w.clients e (theirs w)

-- a greater stamp was seen, or none
abbrev pub seeing : Stamp → WorkState → WorkState
seeing stamp w = record w { stamp = record { 0 = max w.stamp.0 stamp.0 } }

-- memory ran out, or the worker's stamp is the last
abbrev pub HaltsAt : Stamp → Halt → Type 0
HaltsAt stamp NoMemory = Unit {0}
HaltsAt stamp (Worn last) = (stamp.0 ≡ 2 ^ 63) × (last.0 ≡ 2 ^ 63)
