-- A domain that was booted, and its workers (this project's own).
use Rattle.std.specs.Prelude.{◌≡◌, ℕ, ◌+◌, ◌<◌, ◌≤◌, ◌^◌, List, [], length, map, None, slice_index_or}
use Rattle.std.specs.List.{All}
use Rattle.xa_client_worker.specs.xa_types.declared.setup.Setup.{Setup}
use Rattle.xa_client_worker.specs.xa_types.declared.setup.ServerSetup.{ServerSetup}
use Rattle.xa_client_worker.specs.xa_events.declared.event.Event.{Event}
use Rattle.xa_client_worker.specs.xa_events.declared.event.Event.TheVariants.{Advertise}
use Rattle.xa_client_worker.specs.xa_events.Words.{EachNumbered}
use Rattle.xa_client_worker.specs.xa_stamp.declared.home.Stamped.{Stamped}
use Rattle.xa_client_worker.specs.xa_lock.declared.guarded.Guarded.{Guarded}
use Rattle.xa_client_worker.specs.xa_lock.declared.makers.Made.{Made}
use Rattle.xa_client_worker.specs.xa_lock.declared.pass.LockPass.{LockPass}
use Rattle.xa_client_worker.specs.xa_lock.Known.{known as page_of, IsPassOf, passes_of}
use Rattle.xa_client_worker.specs.xa_lock.Pages.{StartsWith, first_page}
use Rattle.xa_client_worker.specs.xa_ticks.Clock.{ClockState}
use Rattle.xa_client_worker.specs.xa_worker.Ending.{workers_of}
use Rattle.xa_client_worker.specs.xa_cell.Known.{known, IsSeatOf, IsNew, callers_of}
use Rattle.xa_client_worker.specs.xa_held.declared.kept_queue.KeptQueue.{KeptQueue}
use Rattle.xa_client_worker.specs.xa_held.declared.kept_queue.QueueNote.{QueueNote}
use Rattle.xa_client_worker.specs.xa_held.Board.{IsSoundBoard}
use Rattle.xa_client_worker.specs.xa_worker.Work.{WorkState, IsWorkOf}
use Rattle.xa_client_worker.specs.xa_caller.declared.cargo.Filling.{Filling}
use Rattle.xa_client_worker.specs.xa_server.Served.{StarterShows}
use Rattle.xa_client_worker.specs.xa_desk.declared.domain.Domain.{Domain}
use Rattle.xa_client_worker.specs.xa_desk.Whole.{Whole, IsKnown}
use Rattle.xa_client_worker.specs.xa_desk.Desks.{IsDomain, IsBoardPass, IsQueuePass, IsThere, Shows, page_in}
use Rattle.xa_client_worker.specs.declared.working.ClientWorker.{ClientWorker}
use Rattle.xa_client_worker.specs.declared.working.ClientWorker.TheVariants.{Ready}
use Rattle.xa_client_worker.specs.Going.{IsReady}
use Rattle.xa_server_worker.specs.declared.working.ServerWorker.{ServerWorker}
use Rattle.xa_server_worker.specs.Working.{MayServe}
use Rattle.xa_boot.specs.declared.closer.Closer.{Closer}
use Rattle.xa_boot.specs.declared.booting.Booted.{Booted}

-- the work of the domain itself
abbrev pub work_of : Domain → Closer → WorkState
work_of d closer = record { setup = d.setup; clients = d.clients; id = record { 0 = 0 }; stamp = closer.seen; own = closer.own; room = 0 }

-- the event is one of the boot's
abbrev pub IsBoots : Event → Type 0
IsBoots (Advertise a) = (a.by.0 ≡ 0) × (a.op ≡ 0)
IsBoots _ = ⊥

-- the maker's pass of a clock that wasn't moved
pub record IsClockFor (lock : Guarded ClockState Made) (maker : ℕ) (pass : LockPass Made) : Type 0 where
  pub lock_is : IsPassOf lock pass
  pub page : page_of pass ≡ first_page maker []

-- the domain itself behind the boot: it noted the boot's events on the board, up to its stamp, and nothing at any queue, nor did it see the clock
pub record IsNewCloser (d : Domain) (closer : Closer) : Type 0 where
  pub seat : IsSeatOf d.cells closer.seat
  pub fresh : IsNew closer.seat.first closer.seat.count (known closer.seat)
  pub board : IsThere (IsBoardPass d (work_of d closer)) closer.board
  pub first : (page_in closer.board).seen ≡ (page_in closer.board).own
  pub count : length closer.queues.items ≡ length d.queues.items
  pub queues : (k : ℕ) → k < length d.queues.items → IsThere (IsQueuePass d (work_of d closer) k) (slice_index_or closer.queues.items k None)
  pub clock : IsThere (IsClockFor d.clock 0) closer.clock
  pub work : IsWorkOf d.setup d.clients 0 closer.own
  pub boots : All (λ (x : Stamped). IsBoots x.event) closer.own
  pub reached : All (λ (x : Stamped). x.stamp.0 ≤ closer.seen.0) closer.own
  pub seen : closer.seen ≡ d.booted
  pub bound : closer.seen.0 ≤ 2 ^ 63
  pub known : (whole : Whole) → IsSoundBoard whole.board → StartsWith whole.board.notes (page_in closer.board).seen → IsKnown whole closer.seen
  pub shows : (whole : Whole) → IsSoundBoard whole.board → StartsWith whole.board.notes (page_in closer.board).seen → Shows d whole (work_of d closer)
  pub halt : closer.halt ≡ None

-- a client before its first call, which noted nothing
abbrev pub IsNewClient : Domain → ℕ → ClientWorker → Type 0
IsNewClient d client (Ready desk) = IsReady d 0 desk × (desk.caller.work.id.0 ≡ client) × (desk.caller.work.clients ≡ d.clients) × (desk.caller.work.own ≡ [])
IsNewClient d client worker = ⊥

-- the worker of the server with that number
pub record IsNewServer {L T : Type 0} (d : Domain) (shows : T → StarterShows) (server : ℕ) (worker : ServerWorker L T) : Type 0 where
  pub may : MayServe d shows worker
  pub number : worker.served.slot.server.0 ≡ server
  pub id : worker.desk.caller.work.id.0 ≡ d.clients + server
  pub clients : worker.desk.caller.work.clients ≡ d.clients

-- so many passes and seats were dealt as there are workers, the domain among them
pub record IsDealt (d : Domain) : Type 0 where
  pub board : passes_of d.board ≡ workers_of d.setup d.clients
  pub queues : All (λ (queue : Guarded (KeptQueue Filling) (QueueNote Filling)). passes_of queue ≡ workers_of d.setup d.clients) d.queues.items
  pub clock : passes_of d.clock ≡ workers_of d.setup d.clients
  pub cells : callers_of d.cells ≡ workers_of d.setup d.clients

-- the domain was booted by that setup, with so many clients, and each server has its starter
pub record HasBooted {L T : Type 0} (shows : T → StarterShows) (setup : Setup) (clients : ℕ) (starters : List T) (b : Booted L T) : Type 0 where
  pub domain : IsDomain b.domain
  pub setup_is : b.domain.setup ≡ setup
  pub clients_are : b.domain.clients ≡ clients
  pub dealt : IsDealt b.domain
  pub all_clients : length b.clients.items ≡ clients
  pub each_client : EachNumbered (IsNewClient b.domain) 1 b.clients.items
  pub starters_are : map (λ (w : ServerWorker L T). w.served.starter) b.servers.items ≡ starters
  pub names : map (λ (w : ServerWorker L T). w.name) b.servers.items ≡ map (λ (server : ServerSetup). server.name) setup.servers
  pub each_server : EachNumbered (IsNewServer b.domain shows) 1 b.servers.items
  pub closer : IsNewCloser b.domain b.closer
