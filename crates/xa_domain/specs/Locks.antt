-- How the locks are closed one after another, and what still waits is let go of (this project's own).
use Rattle.std.specs.Prelude.{◌≡◌, ℕ, ◌<◌, ◌++◌, List, length, map, None, slice_index_or, vec_capacity}
use Rattle.std.specs.List.{All, Contains}
use Rattle.std.specs.declared.vec.Vec.{Vec}
use Rattle.std.specs.declared.alloc.Global.{Global}
use Rattle.xa_boot.specs.xa_stamp.declared.home.Stamped.{Stamped}
use Rattle.xa_boot.specs.xa_stamp.Home.{Notes}
use Rattle.xa_boot.specs.xa_lock.declared.guarded.Guarded.{Guarded}
use Rattle.xa_boot.specs.xa_lock.declared.pass.LockPass.{LockPass}
use Rattle.xa_boot.specs.xa_lock.Known.{known as page_of, IsPassOf, passes_of}
use Rattle.xa_boot.specs.xa_lock.Makers.{noted_in}
use Rattle.xa_boot.specs.xa_lock.Pages.{Knows}
use Rattle.xa_boot.specs.xa_cell.declared.cells.Cells.{Cells}
use Rattle.xa_boot.specs.xa_cell.declared.tokens.Seat.{Seat}
use Rattle.xa_boot.specs.xa_cell.Known.{known, IsSeatOf}
use Rattle.xa_boot.specs.xa_cell.Places.{IsShut}
use Rattle.xa_boot.specs.xa_cell.Views.{at}
use Rattle.xa_boot.specs.xa_queue.Queue.{IsSound as IsSoundQueue}
use Rattle.xa_boot.specs.xa_queue.Reading.{ReadsAsNoted as QueueReads}
use Rattle.xa_boot.specs.xa_held.declared.kept_queue.KeptQueue.{KeptQueue}
use Rattle.xa_boot.specs.xa_held.declared.kept_queue.QueueNote.{QueueNote}
use Rattle.xa_boot.specs.xa_held.declared.kept_queue.Setting.{Setting}
use Rattle.xa_boot.specs.xa_held.Kept.{Kept, notes_of}
use Rattle.xa_boot.specs.xa_held.Notes.{maker_of}
use Rattle.xa_boot.specs.xa_held.Visits.{Sees}
use Rattle.xa_boot.specs.xa_caller.declared.cargo.Filling.{Filling}

abbrev pub Locked : Type 0
Locked = Guarded (KeptQueue Filling) (QueueNote Filling)

abbrev pub Passes : Type 0
Passes = Vec (LockPass (QueueNote Filling)) Global

-- the seat is of these cells, none of its places is open, and nothing that it filled has an answer
pub record IsSilent (cells : Cells Filling) (seat : Seat Filling) : Type 0 where
  pub is : IsSeatOf cells seat
  pub shut : IsShut seat
  pub silent : (k : ℕ) → All (λ fill. fill.answer.answer ≡ None) (at k (known seat)).filled

-- these are all passes of a queue whose entries have tickets of these cells, as one of them saw
pub record AreAllOf (cells : Cells Filling) (queue : Locked) (passes : List (LockPass (QueueNote Filling))) : Type 0 where
  pub all : length passes ≡ passes_of queue
  pub lock : All (IsPassOf queue) passes
  pub pass : LockPass (QueueNote Filling)
  pub stands : Contains passes pass
  pub its : Setting Filling
  pub sees : Sees its (page_of pass)
  pub cells_are : its.cells ≡ cells

-- the queue was closed with these passes, as it stood then
pub record ClosesAs (queue : Locked) (passes : List (LockPass (QueueNote Filling))) (kept : Kept Filling) : Type 0 where
  pub known : All (λ pass. Knows maker_of (page_of pass) (notes_of kept)) passes
  pub makers : All (λ note. maker_of note < passes_of queue) (notes_of kept)
  pub sound : IsSoundQueue kept.queue
  pub reads : QueueReads kept.queue

-- these queues were closed, each with its passes; some may be left
abbrev pub Close : List Locked → List Passes → List (Kept Filling) → Type 0
Close queues passes kepts = (k : ℕ) (queue : Locked) (its : Passes) (kept : Kept Filling) → k < length kepts → ClosesAs (slice_index_or queues k queue) (slice_index_or passes k its).items (slice_index_or kepts k kept)

-- what was noted at these homes, and at these queues
abbrev pub notes_in : List Notes → List (List Stamped)
notes_in homes = map (λ (notes : Notes). notes.entries) homes

abbrev pub noted_at : List (Kept Filling) → List (List Stamped)
noted_at kepts = map (λ (kept : Kept Filling). noted_in kept.queue.entries) kepts

-- all of them were closed, and their homes came behind the others
pub record ClosesAll (queues : List Locked) (passes : List Passes) (before after : Vec Notes Global) : Type 0 where
  pub kepts : List (Kept Filling)
  pub count : length kepts ≡ length queues
  pub close : Close queues passes kepts
  pub homes : notes_in after.items ≡ notes_in before.items ++ noted_at kepts
  pub room : vec_capacity after ≡ vec_capacity before
