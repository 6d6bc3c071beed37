-- The queues under their locks, before anything came there (this project's own).
use Rattle.std.specs.Prelude.{◌≡◌, ℕ, ◌+◌, ◌<◌, ◌==◌, cond, List, [], ◌∷◌, length, slice_index_or}
use Rattle.std.specs.List.{All}
use Rattle.std.specs.declared.vec.Vec.{Vec}
use Rattle.std.specs.declared.alloc.Global.{Global}
use Rattle.xa_client_worker.specs.xa_types.declared.ids.ServerId.{ServerId}
use Rattle.xa_client_worker.specs.xa_types.declared.setup.Setup.{Setup}
use Rattle.xa_client_worker.specs.xa_types.declared.setup.ServerSetup.{ServerSetup}
use Rattle.xa_client_worker.specs.xa_types.declared.stamp.Stamp.{Stamp}
use Rattle.xa_client_worker.specs.xa_types.Setup.{queue_named, capacity_of}
use Rattle.xa_client_worker.specs.xa_lock.declared.guarded.Guarded.{Guarded}
use Rattle.xa_client_worker.specs.xa_lock.declared.pass.LockPass.{LockPass}
use Rattle.xa_client_worker.specs.xa_lock.Known.{known as page_of, IsPassOf, passes_of}
use Rattle.xa_client_worker.specs.xa_lock.Pages.{first_page}
use Rattle.xa_client_worker.specs.xa_cell.declared.cells.Cells.{Cells}
use Rattle.xa_client_worker.specs.xa_queue.Queue.{QueueState}
use Rattle.xa_client_worker.specs.xa_queue.Changes.{opened}
use Rattle.xa_client_worker.specs.xa_held.declared.cargo.Cargo.{Cargo}
use Rattle.xa_client_worker.specs.xa_held.declared.kept_queue.KeptQueue.{KeptQueue}
use Rattle.xa_client_worker.specs.xa_held.declared.kept_queue.QueueNote.{QueueNote}
use Rattle.xa_client_worker.specs.xa_held.declared.kept_queue.QueueNote.TheVariants.{Opened}
use Rattle.xa_client_worker.specs.xa_held.declared.kept_queue.Setting.{Setting}
use Rattle.xa_client_worker.specs.xa_held.Joins.{HasServers}
use Rattle.xa_client_worker.specs.xa_caller.declared.cargo.Filling.{Filling}
use Rattle.xa_boot.specs.declared.locking.Locked.{Locked}

-- P holds of the entries of two lists with their number; the first has number n
abbrev pub EachPair : {X Y : Type 0} → (ℕ → X → Y → Type 0) → ℕ → List X → List Y → Type 0
EachPair P n [] [] = Unit {0}
EachPair P n (x ∷ xs) (y ∷ ys) = P n x y × EachPair P (n + 1) xs ys
EachPair P n _ _ = ⊥

-- the numbers of these servers, of which the first has number n, that take from that queue
abbrev pub servers_at : Setup → ℕ → ℕ → List ServerSetup → List ServerId
servers_at setup queue n [] = []
servers_at setup queue n (server ∷ rest) = cond (queue_named setup server.queue == queue) ((record { 0 = n }) ∷ servers_at setup queue (n + 1) rest) (servers_at setup queue (n + 1) rest)

-- the queue at that place, where nothing came yet
pub record IsPlain (setup : Setup) (first : Stamp) (place : ℕ) (queue : QueueState (Cargo Filling)) : Type 0 where
  pub servers : List ServerId
  pub is : queue ≡ opened (record { 0 = place + 1 }) (capacity_of setup (place + 1)) servers first
  pub has : HasServers setup (place + 1) servers

-- these are all passes of a queue, each of which saw what the queue is, and nothing else
pub record IsFresh (its : Setting Filling) (queue : Guarded (KeptQueue Filling) (QueueNote Filling)) (passes : List (LockPass (QueueNote Filling))) : Type 0 where
  pub all : length passes ≡ passes_of queue
  pub lock : All (IsPassOf queue) passes
  pub page : (k : ℕ) (d : LockPass (QueueNote Filling)) → k < length passes → page_of (slice_index_or passes k d) ≡ first_page k (Opened its ∷ [])

module _ (setup : Setup) (clients : ℕ) (cells : Cells Filling) (first : Stamp) where
  -- what the queue at that place is
  pub record IsSettingAt (place : ℕ) (its : Setting Filling) : Type 0 where
    pub id : its.id.0 ≡ place + 1
    pub capacity : its.capacity ≡ capacity_of setup (place + 1)
    pub servers : HasServers setup (place + 1) its.servers
    pub first_is : its.first ≡ first
    pub clients_are : its.clients ≡ clients
    pub cells_are : its.cells ≡ cells

  -- the queue at that place under its lock, with the passes of so many workers
  pub record IsLocked (workers : ℕ) (place : ℕ) (queue : Guarded (KeptQueue Filling) (QueueNote Filling)) (passes : Vec (LockPass (QueueNote Filling)) Global) : Type 0 where
    pub its : Setting Filling
    pub is : IsSettingAt place its
    pub fresh : IsFresh its queue passes.items
    pub count : length passes.items ≡ workers

  -- the first queues of the setup, so many
  pub record AreLocked (workers n : ℕ) (l : Locked) : Type 0 where
    pub count : length l.queues.items ≡ n
    pub each : EachPair (IsLocked workers) 0 l.queues.items l.passes.items

-- of each of these queues all passes are there, and nothing came there yet
abbrev pub AreFresh : Locked → Type 0
AreFresh l = EachPair (λ place queue (passes : Vec (LockPass (QueueNote Filling)) Global). (its : Setting Filling) × IsFresh its queue passes.items × (0 < length passes.items)) 0 l.queues.items l.passes.items
