use Rattle.std.proofs.Common.{◌≡◌, ◌<◌, ℕ, List, ◌∷◌, ◌++◌, [], length, subst}
use Rattle.std.specs.declared.vec.Vec.{Vec}
use Rattle.std.specs.declared.alloc.Global.{Global}
use Rattle.xa_client_worker.specs.xa_lock.declared.guarded.Guarded.{Guarded}
use Rattle.xa_client_worker.specs.xa_lock.declared.pass.LockPass.{LockPass}
use Rattle.xa_client_worker.specs.xa_held.declared.kept_queue.KeptQueue.{KeptQueue}
use Rattle.xa_client_worker.specs.xa_held.declared.kept_queue.QueueNote.{QueueNote}
use Rattle.xa_client_worker.specs.xa_held.declared.kept_queue.Setting.{Setting}
use Rattle.xa_client_worker.specs.xa_caller.declared.cargo.Filling.{Filling}
use Rattle.xa_boot.specs.Locking.{EachPair, IsFresh}
use Rattle.xa_boot.proofs.Pairs.{pair-pop}
use Rattle.xa_boot.proofs.locking.Locked.close.Goals as goal

abbrev Fresh : ℕ → Guarded (KeptQueue Filling) (QueueNote Filling) → Vec (LockPass (QueueNote Filling)) Global → Type 0
Fresh place queue passes = (its : Setting Filling) × IsFresh its queue passes.items × (0 < length passes.items)

popped : (queues queues' : List (Guarded (KeptQueue Filling) (QueueNote Filling))) (passes passes' : List (Vec (LockPass (QueueNote Filling)) Global)) (queue : Guarded (KeptQueue Filling) (QueueNote Filling)) (its : Vec (LockPass (QueueNote Filling)) Global)
    → queues ≡ queues' ++ queue ∷ [] → passes ≡ passes' ++ its ∷ [] → EachPair Fresh 0 queues passes → EachPair Fresh 0 queues' passes' × Fresh 0 queue its
popped queues queues' passes passes' queue its q p each = pair-pop Fresh 0 queues' passes' queue its (subst (λ l. EachPair Fresh 0 (queues' ++ queue ∷ []) l) p (subst (λ l. EachPair Fresh 0 l passes) q each))

pub close_queue-requires : goal.close_queue-requires
close_queue-requires c = let its = (popped c.loop-queue.queues.items c.pop.new.self.items c.loop-queue.passes.items c.pop-in-Some.new.self.items c.in-Some.queue c.in-Some-pop.passes c.in-Some.ensures.items c.in-Some-pop.ensures.items c.loop-queue.invariant).1 in record { fresh = (its.0, its.1); some = its.2 }

pub loop-queue-preserved : goal.loop-queue-preserved
loop-queue-preserved c = (popped c.loop-queue.queues.items c.pop.new.self.items c.loop-queue.passes.items c.pop-in-Some.new.self.items c.in-Some.queue c.in-Some-pop.passes c.in-Some.ensures.items c.in-Some-pop.ensures.items c.loop-queue.invariant).0
