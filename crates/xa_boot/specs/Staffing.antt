-- What each worker gets, and what is left for the others (this project's own).
use Rattle.std.specs.Prelude.{◌≡◌, ℕ, ◌+◌, ◌<◌, ◌≤◌, List, [], ◌∷◌, ◌++◌, length, None, slice_index_or}
use Rattle.std.specs.List.{All}
use Rattle.std.specs.declared.vec.Vec.{Vec}
use Rattle.std.specs.declared.alloc.Global.{Global}
use Rattle.xa_client_worker.specs.xa_events.Words.{EachNumbered}
use Rattle.xa_client_worker.specs.xa_stamp.declared.home.Stamped.{Stamped}
use Rattle.xa_client_worker.specs.xa_lock.declared.guarded.Guarded.{Guarded}
use Rattle.xa_client_worker.specs.xa_lock.declared.pass.LockPass.{LockPass}
use Rattle.xa_client_worker.specs.xa_lock.Known.{known as page_of, IsPassOf}
use Rattle.xa_client_worker.specs.xa_lock.Pages.{first_page}
use Rattle.xa_client_worker.specs.xa_cell.declared.tokens.Seat.{Seat}
use Rattle.xa_client_worker.specs.xa_cell.Known.{known, IsSeatOf, IsNew}
use Rattle.xa_client_worker.specs.xa_held.declared.kept_queue.KeptQueue.{KeptQueue}
use Rattle.xa_client_worker.specs.xa_held.declared.kept_queue.QueueNote.{QueueNote}
use Rattle.xa_client_worker.specs.xa_held.declared.kept_queue.QueueNote.TheVariants.{Opened}
use Rattle.xa_client_worker.specs.xa_held.declared.kept_queue.Setting.{Setting}
use Rattle.xa_client_worker.specs.xa_caller.declared.cargo.Filling.{Filling}
use Rattle.xa_client_worker.specs.xa_caller.declared.phase.Phase.TheVariants.{Idle}
use Rattle.xa_client_worker.specs.xa_desk.declared.domain.Domain.{Domain}
use Rattle.xa_client_worker.specs.xa_desk.declared.desk.Desk.{Desk}
use Rattle.xa_client_worker.specs.xa_desk.Desks.{IsDesk, IsSettingOf, IsThere, queue_page}
use Rattle.xa_boot.specs.declared.staff.Staff.{Staff}
use Rattle.xa_boot.specs.declared.staff.Post.{Post}
use Rattle.xa_boot.specs.Booting.{IsClockFor}
use Rattle.xa_boot.specs.Opening.{IsBoot, opening}
use Rattle.xa_boot.specs.Supplies.{limit_of, IsBoardFor, IsRoom, QueuePass}

-- the worker's seat, which has done nothing
pub record IsSeatFor (d : Domain) (worker : ℕ) (seat : Seat Filling) : Type 0 where
  pub is : IsSeatOf d.cells seat
  pub fresh : IsNew seat.first seat.count (known seat)
  pub count : seat.count ≡ limit_of d.clients worker

-- the worker's pass of the queue at that place, to which nothing came
pub record IsQueueFor (d : Domain) (place worker : ℕ) (pass : LockPass (QueueNote Filling)) : Type 0 where
  pub its : Setting Filling
  pub is : IsSettingOf d (place + 1) its
  pub lock : (default : Guarded (KeptQueue Filling) (QueueNote Filling)) → IsPassOf (slice_index_or d.queues.items place default) pass
  pub page : page_of pass ≡ first_page worker (Opened its ∷ [])

-- what the worker with that number gets, where the domain noted these at the boot
pub record IsPost (d : Domain) (own : List Stamped) (worker : ℕ) (post : Post) : Type 0 where
  pub seat : IsSeatFor d worker post.seat
  pub board : IsBoardFor d.board (opening d.setup own) worker post.board
  pub count : length post.queues.items ≡ length d.queues.items
  pub queues : (k : ℕ) → k < length d.queues.items → IsThere (IsQueueFor d k worker) (slice_index_or post.queues.items k None)
  pub clock : IsClockFor d.clock worker post.clock

-- of each there is one for each worker that is left
pub record IsFull (s : Staff) : Type 0 where
  pub seats : length s.seats.items ≡ s.left
  pub readers : length s.readers.items ≡ s.left
  pub boards : length s.boards.items ≡ s.left
  pub queues : All (λ (passes : Vec (LockPass (QueueNote Filling)) Global). length passes.items ≡ s.left) s.queues.items
  pub clocks : length s.clocks.items ≡ s.left
  pub rooms : length s.rooms.items ≡ s.left
  pub each_room : All (IsRoom (length s.queues.items)) s.rooms.items

-- it is for the first workers of the domain behind its boot
pub record IsStaff (d : Domain) (s : Staff) : Type 0 where
  pub boot : IsBoot d.setup s.own
  pub booted : d.booted.0 ≡ length s.own
  pub version : s.version ≡ length s.own
  pub seats : EachNumbered (IsSeatFor d) 0 s.seats.items
  pub boards : EachNumbered (IsBoardFor d.board (opening d.setup s.own)) 0 s.boards.items
  pub count : length s.queues.items ≡ length d.queues.items
  pub queues : (k : ℕ) (default : Vec (LockPass (QueueNote Filling)) Global) → k < length d.queues.items → EachNumbered (IsQueueFor d k) 0 (slice_index_or s.queues.items k default).items
  pub clocks : EachNumbered (IsClockFor d.clock) 0 s.clocks.items

-- the last of each of the first n of these was taken
pub record AreTaken (n : ℕ) (old new : List (Vec (LockPass (QueueNote Filling)) Global)) (taken : List QueuePass) : Type 0 where
  pub count : length new ≡ length old
  pub each_taken : length taken ≡ n
  pub each : (k : ℕ) (default : Vec (LockPass (QueueNote Filling)) Global) → k < n → IsThere (λ pass. (slice_index_or old k default).items ≡ (slice_index_or new k default).items ++ pass ∷ []) (slice_index_or taken k None)
  pub rest : (k : ℕ) (default : Vec (LockPass (QueueNote Filling)) Global) → n ≤ k → slice_index_or new k default ≡ slice_index_or old k default

-- the last worker that was left got that
pub record Hires (old new : Staff) (post : Post) : Type 0 where
  pub left : new.left + 1 ≡ old.left
  pub own : new.own ≡ old.own
  pub full : IsFull new
  pub is_post : (d : Domain) → IsStaff d old → IsPost d old.own new.left post
  pub staff : (d : Domain) → IsStaff d old → IsStaff d new

-- the desk of the worker with that number, which has done nothing
pub record IsNewDesk (d : Domain) (worker : ℕ) (desk : Desk) : Type 0 where
  pub is : IsDesk d desk
  pub id : desk.caller.work.id.0 ≡ worker
  pub clients : desk.caller.work.clients ≡ d.clients
  pub none : desk.caller.work.own ≡ []
  pub idle : desk.caller.phase ≡ Idle
  pub made : desk.caller.op ≡ 0
  pub queues : (k : ℕ) → k < length d.queues.items → (queue_page desk (k + 1)).own ≡ []

-- the last worker that was left has its desk
pub record Seats (d : Domain) (old new : Staff) (desk : Desk) : Type 0 where
  pub left : new.left + 1 ≡ old.left
  pub own : new.own ≡ old.own
  pub full : IsFull new
  pub staff : IsStaff d new
  pub desk_is : IsNewDesk d new.left desk
