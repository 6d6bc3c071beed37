-- What all tables show together.
use Rattle.std.specs.Prelude.{◌≡◌, ℕ, ◌+◌, ◌-◌, ◌<◌, ◌==◌, List, length, map, reverse, Option, Some, None, slice_index_or, vec_len, vec_capacity}
use Rattle.std.specs.List.{list_any}
use Rattle.xa_types.specs.declared.setup.Setup.{Setup}
use Rattle.xa_types.specs.Rows.{configured}
use Rattle.xa_events.specs.declared.event.Event.{Event}
use Rattle.xa_events.specs.Homes.{worker_of}
use Rattle.xa_events.specs.Board.{boot, changes}
use Rattle.xa_events.specs.Clock.{now, is_tick_to}
use Rattle.xa_machine.specs.declared.served.ServerRow.{ServerRow}
use Rattle.xa_machine.specs.declared.queued.QueueRow.{QueueRow}
use Rattle.xa_machine.specs.declared.caller.CallerRow.{CallerRow}
use Rattle.xa_machine.specs.declared.tables.Tables.{Tables}
use Rattle.xa_machine.specs.declared.tables.Place.{Place}
use Rattle.xa_machine.specs.Tables.{HasRoom, ServerShows, no_server, QueueShows, no_queue, CallerShows, no_caller}
use Rattle.xa_machine.specs.Holds.{log_of}
use Rattle.xa_machine.specs.Versions.{VersionsShow}
use Rattle.xa_machine.specs.Shown.{queue_home, change_of, ServersShow, QueuesShow, CallersShow}

abbrev pub FitsQueue : Option ℕ → List QueueRow → Type 0
FitsQueue None rows = Unit {0}
FitsQueue (Some queue) rows = queue < length rows

abbrev pub HasQueueRoom : Option ℕ → List QueueRow → Type 0
HasQueueRoom None rows = Unit {0}
HasQueueRoom (Some queue) rows = (d : QueueRow) → vec_len (slice_index_or rows queue d).waiting < vec_capacity (slice_index_or rows queue d).waiting

-- the rows at that place are there
pub record Fits (place : Place) (t : Tables) : Type 0 where
  pub worker : place.worker < length t.callers.items
  pub server : place.server < length t.servers.items
  pub queue : FitsQueue place.queue t.queues.items

-- there is room for one more event
pub record IsReady (place : Place) (t : Tables) : Type 0 where
  pub caller : (d : CallerRow) → HasRoom (slice_index_or t.callers.items place.worker d)
  pub server : (d : ServerRow) → vec_len (slice_index_or t.servers.items place.server d).starts < vec_capacity (slice_index_or t.servers.items place.server d).starts
  pub queue : HasQueueRoom place.queue t.queues.items
  pub board : vec_len t.board < vec_capacity t.board
  pub versions : vec_len t.versions < vec_capacity t.versions
  pub log : vec_len t.log < vec_capacity t.log
  pub ticks : vec_len t.ticks < vec_capacity t.ticks

-- the event's rows stand there
pub record IsPlaceOf (setup : Setup) (clients : ℕ) (e : Event) (place : Place) : Type 0 where
  pub worker : worker_of clients e ≡ place.worker
  pub server : place.server ≡ worker_of clients e - clients
  pub queue : queue_home setup e ≡ place.queue

-- what the tables show in a state
pub record TablesShow (setup : Setup) (clients : ℕ) (past : List Event) (t : Tables) : Type 0 where
  pub many_servers : length t.servers.items ≡ length setup.servers + 1
  pub many_queues : length t.queues.items ≡ length setup.queues + 1
  pub many_callers : length t.callers.items ≡ clients + (length setup.servers + 1)
  pub servers : ServersShow past t.servers.items
  pub queues : QueuesShow setup past t.queues.items
  pub callers : CallersShow setup clients past t.callers.items
  pub logged : t.log.items ≡ reverse (log_of setup clients past)
  pub changed : map change_of t.board.items ≡ reverse (changes past)
  pub versions : VersionsShow setup past t.versions.items
  pub boots : map change_of t.booting.items ≡ configured setup
  pub time : t.clock ≡ now past
  pub shown : (tick : ℕ) → list_any (λ n. n == tick) t.ticks.items ≡ list_any (is_tick_to tick) past
  pub none_served : ServerShows t.no_server no_server
  pub none_queued : QueueShows t.no_queue no_queue
  pub none_called : CallerShows (boot setup) t.no_caller no_caller
