-- A queue under its lock, before anything came there.
use Rattle.std.proofs.Common.{◌≡◌, ℕ, ◌+◌, ◌<◌, [], ◌∷◌, length, get_or, refl, sym, ◌∙◌, ap, arith, add-one}
use Rattle.std.proofs.lemmas.Option.{slice_get_read}
use Rattle.std.specs.List.{All}
use Rattle.std.specs.declared.vec.Vec.{Vec}
use Rattle.std.specs.declared.alloc.Global.{Global}
use Rattle.xa_client_worker.specs.xa_types.declared.setup.Setup.{Setup}
use Rattle.xa_client_worker.specs.xa_types.declared.setup.QueueSetup.{QueueSetup}
use Rattle.xa_client_worker.specs.xa_types.declared.stamp.Stamp.{Stamp}
use Rattle.xa_client_worker.specs.xa_types.Setup.{capacity_in, capacity_of}
use Rattle.xa_client_worker.specs.xa_lock.declared.guarded.Guarded.{Guarded}
use Rattle.xa_client_worker.specs.xa_lock.declared.pass.LockPass.{LockPass}
use Rattle.xa_client_worker.specs.xa_lock.Known.{known as page_of, IsPassOf, passes_of}
use Rattle.xa_client_worker.specs.xa_lock.Pages.{first_page}
use Rattle.xa_client_worker.specs.xa_cell.declared.cells.Cells.{Cells}
use Rattle.xa_client_worker.specs.xa_queue.Queue.{QueueState}
use Rattle.xa_client_worker.specs.xa_held.declared.cargo.Cargo.{Cargo}
use Rattle.xa_client_worker.specs.xa_held.declared.kept_queue.KeptQueue.{KeptQueue}
use Rattle.xa_client_worker.specs.xa_held.declared.kept_queue.QueueNote.{QueueNote}
use Rattle.xa_client_worker.specs.xa_held.declared.kept_queue.QueueNote.TheVariants.{Opened}
use Rattle.xa_client_worker.specs.xa_held.declared.kept_queue.Setting.{Setting}
use Rattle.xa_client_worker.specs.xa_held.Kept.{Kept, notes_of}
use Rattle.xa_client_worker.specs.xa_caller.declared.cargo.Filling.{Filling}
use Rattle.xa_boot.specs.Locking.{IsPlain, IsLocked}

pub capacity-at : (setup : Setup) (place : ℕ) (queue : QueueSetup) → place < length setup.queues → queue ≡ get_or setup.queues place queue → capacity_of setup (place + 1) ≡ queue.capacity
capacity-at setup place queue within is = ap (capacity_of setup) (add-one place) ∙ ap capacity_in (slice_get_read setup.queues (length setup.queues) place queue refl within is)

module _ (setup : Setup) (clients : ℕ) (cells : Cells Filling) (first : Stamp) (workers place : ℕ) (queue : Guarded (KeptQueue Filling) (QueueNote Filling)) (passes : Vec (LockPass (QueueNote Filling)) Global) where
  -- of a plain queue that is put under its lock
  pub locked : (plain : QueueState (Cargo Filling)) (kept : Kept Filling) → IsPlain setup first place plain → kept ≡ record { queue = plain; clients = clients; cells = cells } → length passes.items ≡ workers → passes_of queue ≡ workers → All (IsPassOf queue) passes.items
      → ((k : ℕ) (d : LockPass (QueueNote Filling)) → k < workers → page_of (get_or passes.items k d) ≡ first_page k (notes_of kept)) → IsLocked setup clients cells first workers place queue passes
  locked plain kept its is count all lock page =
      let setting : Setting Filling = record { id = record { 0 = place + 1 }; capacity = capacity_of setup (place + 1); servers = its.servers; first = first; clients = clients; cells = cells } in
      let notes : notes_of kept ≡ Opened setting ∷ [] = ap notes_of (is ∙ ap (λ (q : QueueState (Cargo Filling)). record { queue = q; clients = clients; cells = cells }) its.is) in
      record {
        its = setting;
        is = record { id = refl; capacity = refl; servers = its.has; first_is = refl; clients_are = refl; cells_are = refl };
        fresh = record { all = count ∙ sym all; lock = lock; page = λ k d within. page k d (omega (arith, within, count)) ∙ ap (first_page k) notes };
        count = count;
      }
