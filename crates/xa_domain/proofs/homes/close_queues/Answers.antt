use Rattle.std.proofs.Common.{◌<◌, length, vec_capacity, arith}
use Rattle.xa_domain.specs.Locks.{AreAllOf}
use Rattle.xa_domain.proofs.Queues.{place, room_left, one_more}
use Rattle.xa_domain.proofs.homes.close_queues.Goals as goal

pub close_queue-requires-clause-all : goal.close_queue-requires-clause-all
close_queue-requires-clause-all c =
    place c.args.queues.items c.args.passes.items c.args.homes.now c.loop-queue.rest.rest.items c.loop-queue.back.rest.items c.loop-queue.homes c.loop-queue.invariant.closes c.next.new.self.rest.items c.next-in-Some.new.self.rest.items
    c.in-Some.queue c.in-Some-next.passes c.in-Some.ensures.items c.in-Some-next.ensures.items (AreAllOf c.args.cells.now) c.requires.each

pub push_reserved-requires : goal.push_reserved-requires
push_reserved-requires c =
    let low : length c.loop-queue.homes.items < vec_capacity c.loop-queue.homes
    = room_left c.args.queues.items c.args.passes.items c.args.homes.now c.loop-queue.rest.rest.items c.loop-queue.back.rest.items c.loop-queue.homes c.loop-queue.invariant.closes c.next.new.self.rest.items c.next-in-Some.new.self.rest.items
    c.in-Some.queue c.in-Some-next.passes c.in-Some.ensures.items c.in-Some-next.ensures.items c.requires.room in
    omega (arith, low, c.loop-queue.homes.ok.0)

pub loop-queue-preserved : goal.loop-queue-preserved
loop-queue-preserved c = record {
  silent = c.close_queue.ensures.silent;
  closes = one_more c.args.queues.items c.args.passes.items c.args.homes.now c.loop-queue.rest.rest.items c.loop-queue.back.rest.items c.loop-queue.homes c.loop-queue.invariant.closes c.next.new.self.rest.items c.next-in-Some.new.self.rest.items
      c.in-Some.queue c.in-Some-next.passes c.in-Some.ensures.items c.in-Some-next.ensures.items c.close_queue.ensures.closes.0 c.close_queue.ensures.closes.1
      c.close_queue.result c.push_reserved.new.self c.close_queue.ensures.closes.2 c.push_reserved.ensures.items c.push_reserved.ensures.capacity;
}
