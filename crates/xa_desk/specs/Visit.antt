-- A worker's visit of a queue or of the board: what it finds there, and what it leaves (this project's own).
use Rattle.std.specs.Prelude.{◌≡◌, ℕ, ◌+◌, ◌<◌, List, length, Option, Some, None, slice_index_or, slice_set}
use Rattle.std.specs.List.{All}
use Rattle.xa_server.specs.xa_types.declared.stamp.Stamp.{Stamp}
use Rattle.xa_server.specs.xa_lock.declared.guarded.Guarded.{Guarded}
use Rattle.xa_server.specs.xa_lock.declared.makers.Made.{Made}
use Rattle.xa_server.specs.xa_lock.declared.pass.LockPass.{LockPass}
use Rattle.xa_server.specs.xa_lock.declared.pass.Page.{Page}
use Rattle.xa_server.specs.xa_lock.Known.{known as page_of, IsPassOf}
use Rattle.xa_server.specs.xa_lock.Pages.{Knows, page_seeing}
use Rattle.xa_board.specs.Board.{ReadsAsNoted}
use Rattle.xa_server.specs.xa_held.declared.kept_board.BoardNote.{BoardNote}
use Rattle.xa_server.specs.xa_held.declared.kept_queue.KeptQueue.{KeptQueue}
use Rattle.xa_server.specs.xa_held.declared.kept_queue.QueueNote.{QueueNote}
use Rattle.xa_server.specs.xa_held.Board.{Held as Board, IsSoundBoard, Turns, maker_of as board_maker}
use Rattle.xa_server.specs.xa_held.BoardVisits.{BoardVisits, ReachesBoard}
use Rattle.xa_server.specs.xa_held.Kept.{Kept, Becomes, notes_of}
use Rattle.xa_server.specs.xa_held.Notes.{maker_of}
use Rattle.xa_server.specs.xa_held.Visits.{Visits, Reaches}
use Rattle.xa_server.specs.xa_caller.declared.cargo.Filling.{Filling}
use Rattle.xa_desk.specs.declared.domain.Domain.{Domain}
use Rattle.xa_desk.specs.declared.desk.Desk.{Desk}
use Rattle.xa_desk.specs.Desks.{IsDesk}

-- ---- a queue

abbrev pub QueuePass : Type 0
QueuePass = LockPass (QueueNote Filling)

abbrev pub QueueLock : Type 0
QueueLock = Guarded (KeptQueue Filling) (QueueNote Filling)

-- the desk has that pass of the queue with that number, which is the k-th
pub record HasPass (d : Domain) (queue k : ℕ) (desk : Desk) (pass : QueuePass) : Type 0 where
  pub at : queue ≡ k + 1
  pub low : k < length d.queues.items
  pub there : slice_index_or desk.queues.items k None ≡ Some pass

-- a worker with these passes left is at that queue, and found it so; its pass of it then saw all that stands there
pub record IsAt (d : Domain) (queue k : ℕ) (old : Desk) (there : Kept Filling) (page : Page (QueueNote Filling)) (passes : List (Option QueuePass)) : Type 0 where
  pub is : IsDesk d old
  pub pass : QueuePass
  pub has : HasPass d queue k old pass
  pub taken : passes ≡ slice_set old.queues.items k None
  pub sees : page ≡ page_seeing (page_of pass) (notes_of there)
  pub knows : Knows maker_of (page_of pass) (notes_of there)

-- the queue is what it was, and these events of the desk's worker were added
pub record Adds (old : Desk) (there now : Kept Filling) (more : List Made) : Type 0 where
  pub becomes : Becomes there now more (λ o n. (o ≡ there) × (n ≡ now))
  pub ours : All (λ (m : Made). m.maker.0 ≡ old.caller.work.id.0) more

-- the worker left the queue as it is now, with these passes; whatever was added there, its pass visited it so
pub record Leaves (d : Domain) (queue k : ℕ) (old : Desk) (there now : Kept Filling) (put : List (Option QueuePass)) (last : Stamp) : Type 0 where
  pub is : IsDesk d old
  pub pass : QueuePass
  pub has : HasPass d queue k old pass
  pub back : QueuePass
  pub passes : put ≡ slice_set (slice_set old.queues.items k None) k (Some back)
  pub lock : (default : QueueLock) → IsPassOf (slice_index_or d.queues.items k default) back
  pub reaches : Reaches (page_of back) last
  pub visits : (more : List Made) → Adds old there now more → Visits (page_of pass) (page_of back) more (λ o n. (o ≡ there) × (n ≡ now))

-- ---- the board

abbrev pub BoardPass : Type 0
BoardPass = LockPass BoardNote

-- a worker whose desk has no pass of the board left is there, and found it so; its pass then saw all that stands there
pub record IsAtBoard (d : Domain) (old : Desk) (there : Board) (page : Page BoardNote) (left : Option BoardPass) : Type 0 where
  pub is : IsDesk d old
  pub pass : BoardPass
  pub has : old.board ≡ Some pass
  pub taken : left ≡ None
  pub sees : page ≡ page_seeing (page_of pass) there.notes
  pub knows : Knows board_maker (page_of pass) there.notes
  pub sound : IsSoundBoard there
  pub reads : ReadsAsNoted there.board

-- the board has these changes and looks of the desk's worker more
pub record AddsToBoard (old : Desk) (there now : Board) (more : List BoardNote) : Type 0 where
  pub turns : Turns there now more (λ o n. (o ≡ there) × (n ≡ now))
  pub ours : All (λ (z : BoardNote). board_maker z ≡ old.caller.work.id.0) more

-- the worker left the board as it is now, with that pass; whatever was added there, its pass visited it so
pub record LeavesBoard (d : Domain) (old : Desk) (there now : Board) (put : Option BoardPass) (last : Stamp) : Type 0 where
  pub is : IsDesk d old
  pub pass : BoardPass
  pub has : old.board ≡ Some pass
  pub back : BoardPass
  pub kept : put ≡ Some back
  pub lock : IsPassOf d.board back
  pub reaches : ReachesBoard (page_of back) last
  pub visits : (more : List BoardNote) → AddsToBoard old there now more → BoardVisits (page_of pass) (page_of back) more (λ o n. (o ≡ there) × (n ≡ now))
