use Rattle.std.proofs.Common.{◌≡◌, ◌+◌, ◌<◌, ◌∷◌, ◌++◌, [], ℕ, length, sym, ◌∙◌, ap, subst, arith, length-append}
use Rattle.std.specs.declared.vec.Vec.{Vec}
use Rattle.std.specs.declared.alloc.Global.{Global}
use Rattle.xa_client_worker.specs.xa_lock.declared.guarded.Guarded.{Guarded}
use Rattle.xa_client_worker.specs.xa_lock.declared.pass.LockPass.{LockPass}
use Rattle.xa_client_worker.specs.xa_held.declared.kept_queue.KeptQueue.{KeptQueue}
use Rattle.xa_client_worker.specs.xa_held.declared.kept_queue.QueueNote.{QueueNote}
use Rattle.xa_client_worker.specs.xa_held.declared.kept_queue.Setting.{Setting}
use Rattle.xa_client_worker.specs.xa_caller.declared.cargo.Filling.{Filling}
use Rattle.xa_boot.specs.Locking.{EachPair, IsFresh, IsLocked}
use Rattle.xa_boot.proofs.Pairs.{pair-length, pair-push, pair-weaker}
use Rattle.xa_boot.proofs.locking.lock_queues.Goals as goal

abbrev Fresh : ℕ → Guarded (KeptQueue Filling) (QueueNote Filling) → Vec (LockPass (QueueNote Filling)) Global → Type 0
Fresh place queue passes = (its : Setting Filling) × IsFresh its queue passes.items × (0 < length passes.items)

pub push_reserved-requires-in-Ok : goal.push_reserved-requires-in-Ok
push_reserved-requires-in-Ok c =
    let setup = c.args.setup.now in
    let inv = c.loop-place.invariant in
    let same = pair-length (IsLocked setup c.args.clients c.args.cells.now c.args.first c.args.workers) 0 c.loop-place.locked.queues.items c.loop-place.locked.passes.items inv.locked.each in
    let count = inv.locked.count in
    let room = inv.passes in
    let len = c.loop-place.locked.passes.ok.0 in
    omega (arith, same, count, room, len)

pub close-requires : goal.close-requires
close-requires c =
    let some = c.requires.some in
    pair-weaker (IsLocked c.args.setup.now c.args.clients c.args.cells.now c.args.first c.args.workers) Fresh (λ k queue passes is. let count = is.count in (is.its, is.fresh, omega (arith, count, some)))
    0 c.loop-place.locked.queues.items c.loop-place.locked.passes.items c.loop-place.invariant.locked.each

pub loop-place-preserved : goal.loop-place-preserved
loop-place-preserved c =
    let P = IsLocked c.args.setup.now c.args.clients c.args.cells.now c.args.first c.args.workers in
    let inv = c.loop-place.invariant in
    let count = inv.locked.count in
    let queues = c.loop-place.locked.queues.items in
    let passes = c.loop-place.locked.passes.items in
    let place : c.loop-place.place ≡ 0 + length queues = omega (arith, count) in
    let more = length-append queues (c.in-Ok.queue ∷ []) in
    let now = ap length c.push_reserved.ensures.items in
    let pushed = pair-push P 0 queues passes c.in-Ok.queue c.in-Ok.passes inv.locked.each (subst (λ n. P n c.in-Ok.queue c.in-Ok.passes) place c.in-Ok.ensures) in
    record {
      locked = record { count = omega (arith, now, more, count); each = subst (λ l. EachPair P 0 l c.push_reserved-in-Ok.new.self.items) (sym c.push_reserved.ensures.items) (subst (EachPair P 0 (queues ++ c.in-Ok.queue ∷ [])) (sym c.push_reserved-in-Ok.ensures.items) pushed) };
      queues = c.push_reserved.ensures.capacity ∙ inv.queues;
      passes = c.push_reserved-in-Ok.ensures.capacity ∙ inv.passes;
    }
