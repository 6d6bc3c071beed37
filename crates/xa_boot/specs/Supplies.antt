-- What is made for the workers before any of them stands (this project's own).
use Rattle.std.specs.Prelude.{◌≡◌, ℕ, zero, suc, List, [], length, map, Option, vec_capacity}
use Rattle.std.specs.List.{All}
use Rattle.std.specs.declared.vec.Vec.{Vec}
use Rattle.std.specs.declared.alloc.Global.{Global}
use Rattle.xa_client_worker.specs.xa_types.declared.setup.Setup.{Setup}
use Rattle.xa_client_worker.specs.xa_types.declared.setup.ServerSetup.{ServerSetup}
use Rattle.xa_client_worker.specs.xa_events.Caller.{descriptor_limit}
use Rattle.xa_client_worker.specs.xa_events.Words.{EachNumbered}
use Rattle.xa_client_worker.specs.xa_worker.Ending.{workers_of}
use Rattle.xa_client_worker.specs.xa_lock.declared.guarded.Guarded.{Guarded}
use Rattle.xa_client_worker.specs.xa_lock.declared.pass.LockPass.{LockPass}
use Rattle.xa_client_worker.specs.xa_lock.Known.{known as page_of, IsPassOf, passes_of}
use Rattle.xa_client_worker.specs.xa_lock.Pages.{first_page}
use Rattle.xa_client_worker.specs.xa_held.Board.{Held}
use Rattle.xa_client_worker.specs.xa_held.declared.kept_board.BoardNote.{BoardNote}
use Rattle.xa_client_worker.specs.xa_held.declared.kept_queue.QueueNote.{QueueNote}
use Rattle.xa_client_worker.specs.xa_caller.declared.cargo.Filling.{Filling}
use Rattle.xa_client_worker.specs.xa_restart.Rule.{RestartState}
use Rattle.xa_boot.specs.declared.boards.OpenBoard.{OpenBoard}
use Rattle.xa_boot.specs.declared.clocks.OpenClock.{OpenClock}
use Rattle.xa_boot.specs.declared.rooms.Supplies.{Supplies}
use Rattle.xa_boot.specs.Booting.{IsClockFor}
use Rattle.xa_boot.specs.Opening.{IsBoot, opening}

-- how many cells a worker has: one the domain itself, which makes no call, and the others one for each descriptor
abbrev pub limit_of : ℕ → ℕ → ℕ
limit_of clients zero = 1
limit_of clients (suc k) = descriptor_limit clients (suc k)

-- a server that was never started, by its configured rule
abbrev pub restarts_of : ServerSetup → RestartState
restarts_of server = record { restart = server.restart; maxgen = server.maxgen; grace = server.grace; starts = [] }

-- the maker's pass of a board on which the domain noted these
pub record IsBoardFor (lock : Guarded Held BoardNote) (notes : List BoardNote) (maker : ℕ) (pass : LockPass BoardNote) : Type 0 where
  pub lock_is : IsPassOf lock pass
  pub page : page_of pass ≡ first_page maker notes

-- the board behind the boot, with a pass and a reader for each of so many workers
pub record IsOpenBoard (setup : Setup) (workers : ℕ) (b : OpenBoard) : Type 0 where
  pub boot : IsBoot setup b.own
  pub booted : b.booted.0 ≡ length b.own
  pub version : b.version ≡ length b.own
  pub all : passes_of b.lock ≡ workers
  pub count : length b.passes.items ≡ workers
  pub readers : length b.readers.items ≡ workers
  pub passes : EachNumbered (IsBoardFor b.lock (opening setup b.own)) 0 b.passes.items

-- the clock that wasn't moved, with a pass for each of so many workers
pub record IsOpenClock (workers : ℕ) (c : OpenClock) : Type 0 where
  pub all : passes_of c.lock ≡ workers
  pub count : length c.passes.items ≡ workers
  pub passes : EachNumbered (IsClockFor c.lock) 0 c.passes.items

-- a worker's pass of a queue, where it is
abbrev pub QueuePass : Type 0
QueuePass = Option (LockPass (QueueNote Filling))

-- there is room for so many passes, and none
pub record IsRoom (queues : ℕ) (room : Vec QueuePass Global) : Type 0 where
  pub none : room.items ≡ []
  pub capacity : vec_capacity room ≡ queues

-- what a domain with so many clients takes
pub record AreSupplies (setup : Setup) (clients : ℕ) (s : Supplies) : Type 0 where
  pub shapes : s.shapes ≡ setup.shapes
  pub limits : EachNumbered (λ worker limit. limit ≡ limit_of clients worker) 0 s.limits.items
  pub each_limit : length s.limits.items ≡ workers_of setup clients
  pub lives : s.lives.items ≡ map restarts_of setup.servers
  pub clock : IsOpenClock (workers_of setup clients) s.clock
  pub count : length s.rooms.items ≡ workers_of setup clients
  pub rooms : All (IsRoom (length setup.queues)) s.rooms.items
