-- What each table shows of all events.
use Rattle.std.specs.Prelude.{◌≡◌, ℕ, ◌+◌, ◌++◌, ◌∷◌, [], List, Option, Some, None}
use Rattle.xa_types.specs.declared.setup.Setup.{Setup}
use Rattle.xa_types.specs.Rows.{Change, Put, Remove}
use Rattle.xa_types.specs.Setup.{queue_of}
use Rattle.xa_events.specs.declared.event.Event.{Event}
use Rattle.xa_events.specs.declared.event.Event.TheVariants.{Accept, Take, Forward, Sweep, Gone, Down, Close, Tick}
use Rattle.xa_events.specs.Board.{boot}
use Rattle.xa_events.specs.Queue.{takes}
use Rattle.xa_events.specs.Caller.{accepted}
use Rattle.xa_events.specs.Views.{server_view, queue_view, caller_view}
use Rattle.xa_machine.specs.declared.served.ServerRow.{ServerRow}
use Rattle.xa_machine.specs.declared.queued.QueueRow.{QueueRow}
use Rattle.xa_machine.specs.declared.caller.CallerRow.{CallerRow}
use Rattle.xa_machine.specs.declared.tables.BoardChange.{BoardChange}
use Rattle.xa_machine.specs.declared.tables.BoardChange.TheVariants as boards
use Rattle.xa_machine.specs.Tables.{RowsShow, ServerShows, no_server, QueueShows, no_queue, CallerShows, no_caller}

-- the queue at which the event stands
abbrev pub queue_home : Setup → Event → Option ℕ
queue_home setup (Accept a) = Some a.queue.0
queue_home setup (Take t) = Some (queue_of setup t.server.0)
queue_home setup (Forward f) = Some f.queue.0
queue_home setup (Sweep x) = Some x.queue.0
queue_home setup (Gone server) = Some (queue_of setup server.0)
queue_home setup (Down queue) = Some queue.0
queue_home setup (Close queue) = Some queue.0
queue_home setup _ = None

abbrev pub change_of : BoardChange → Change
change_of (boards.Put service queue routine) = Put service queue.0 routine
change_of (boards.Remove service queue) = Remove service queue.0

abbrev pub result_change : Option BoardChange → Option Change
result_change None = None
result_change (Some change) = Some (change_of change)

abbrev pub clock_after : ℕ → Event → ℕ
clock_after now (Tick t) = t.now
clock_after now _ = now

abbrev pub ticks_after : Event → List ℕ → List ℕ
ticks_after (Tick t) ticks = ticks ++ t.now ∷ []
ticks_after _ ticks = ticks

abbrev pub ServersShow : List Event → List ServerRow → Type 0
ServersShow past rows = RowsShow ServerShows (λ k. server_view k past) no_server rows

abbrev pub QueuesShow : Setup → List Event → List QueueRow → Type 0
QueuesShow setup past rows = RowsShow QueueShows (λ k. queue_view setup k past) no_queue rows

abbrev pub CallersShow : Setup → ℕ → List Event → List CallerRow → Type 0
CallersShow setup clients past rows = RowsShow (CallerShows (boot setup)) (λ k. caller_view clients k past) no_caller rows

-- a take has the next number at its queue, an accept at its caller
abbrev pub CountsTakeAt : Setup → Event → List Event → Type 0
CountsTakeAt setup (Take t) past = t.k ≡ takes setup (queue_of setup t.server.0) past + 1
CountsTakeAt setup _ past = Unit {0}

abbrev pub CountsAcceptAt : ℕ → Event → List Event → Type 0
CountsAcceptAt clients (Accept a) past = a.request.number ≡ accepted a.by.0 past + 1
CountsAcceptAt clients _ past = Unit {0}
