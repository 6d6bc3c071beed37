-- What one worker leaves of a domain, and what all of them leave together (this project's own).
use Rattle.std.specs.Prelude.{◌≡◌, ℕ, ◌+◌, ◌<◌, List, ◌∷◌, length, map, Option, Some, None, slice_index_or}
use Rattle.std.specs.List.{All}
use Rattle.std.specs.declared.vec.Vec.{Vec}
use Rattle.std.specs.declared.alloc.Global.{Global}
use Rattle.xa_boot.specs.xa_lock.declared.makers.Made.{Made}
use Rattle.xa_boot.specs.xa_lock.declared.pass.LockPass.{LockPass}
use Rattle.xa_boot.specs.xa_lock.Known.{IsPassOf}
use Rattle.xa_boot.specs.xa_cell.declared.tokens.Seat.{Seat}
use Rattle.xa_boot.specs.xa_cell.Known.{known, IsSeatOf, IsNew}
use Rattle.xa_boot.specs.xa_cell.Places.{IsShut}
use Rattle.xa_boot.specs.xa_held.declared.kept_board.BoardNote.{BoardNote}
use Rattle.xa_boot.specs.xa_held.declared.kept_queue.QueueNote.{QueueNote}
use Rattle.xa_boot.specs.xa_worker.Ending.{workers_of}
use Rattle.xa_boot.specs.xa_worker.Work.{WorkState}
use Rattle.xa_boot.specs.xa_caller.declared.cargo.Filling.{Filling}
use Rattle.xa_boot.specs.xa_desk.declared.domain.Domain.{Domain}
use Rattle.xa_boot.specs.xa_desk.declared.desk.Desk.{Desk}
use Rattle.xa_boot.specs.xa_desk.Desks.{IsBoardPass, IsQueuePass, IsThere}
use Rattle.xa_boot.specs.declared.closer.Closer.{Closer}
use Rattle.xa_boot.specs.Booting.{work_of}
use Rattle.xa_domain.specs.declared.tokens.Tokens.{Tokens}

-- a worker's work, its seat, and its passes
pub record Leaving : Type 0 where
  pub work : WorkState
  pub seat : Seat Filling
  pub board : Option (LockPass BoardNote)
  pub queues : List (Option (LockPass (QueueNote Filling)))
  pub clock : Option (LockPass Made)

abbrev pub leaving_of : Desk → Leaving
leaving_of desk = record { work = desk.caller.work; seat = desk.caller.seat; board = desk.board; queues = desk.queues.items; clock = desk.clock }

abbrev pub itself_of : Domain → Closer → Leaving
itself_of d closer = record { work = work_of d closer; seat = closer.seat; board = closer.board; queues = closer.queues.items; clock = closer.clock }

-- it is a worker's of the domain: its passes are of the domain's locks, and no place of its seat is open
pub record IsLeaving (d : Domain) (l : Leaving) : Type 0 where
  pub seat_of : IsSeatOf d.cells l.seat
  pub shut : IsShut l.seat
  pub board_pass : IsThere (IsBoardPass d l.work) l.board
  pub queue_passes : (k : ℕ) → k < length d.queues.items → IsThere (IsQueuePass d l.work k) (slice_index_or l.queues k None)
  pub clock_pass : IsThere (IsPassOf d.clock) l.clock

-- the seats and passes of these workers, in their order, and of so many queues
pub record AreTokens (queues : ℕ) (all : List Leaving) (t : Tokens) : Type 0 where
  pub seats_are : t.seats.items ≡ map (λ (l : Leaving). l.seat) all
  pub boards_are : map Some t.boards.items ≡ map (λ (l : Leaving). l.board) all
  pub clocks_are : map Some t.clocks.items ≡ map (λ (l : Leaving). l.clock) all
  pub count : length t.queues.items ≡ queues
  pub each : (k : ℕ) (default : Vec (LockPass (QueueNote Filling)) Global) → k < queues → map Some (slice_index_or t.queues.items k default).items ≡ map (λ (l : Leaving). slice_index_or l.queues k None) all

-- these are all seats and passes of the domain: those of the domain itself, whose seat has done nothing, and of the other workers
pub record AreAllTokens (d : Domain) (itself : Leaving) (others : List Leaving) (t : Tokens) : Type 0 where
  pub tokens_are : AreTokens (length d.queues.items) (itself ∷ others) t
  pub all : length others + 1 ≡ workers_of d.setup d.clients
  pub itself_is : IsLeaving d itself
  pub fresh : IsNew itself.seat.first itself.seat.count (known itself.seat)
  pub others_are : All (IsLeaving d) others
