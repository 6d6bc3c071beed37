use Rattle.std.proofs.Common.{◌+◌, ◌<◌, length, ap, arith}
use Rattle.xa_trials_objects.proofs.AtBoard.{is_placed}
use Rattle.xa_trials_objects.proofs.held_board.row_on.Goals as goal

pub returns : goal.returns
returns c =
    let queues = ap length c.slice.ensures in
    let some : 0 < c.args.queue.0 = omega (arith, c.if-queue-eq0.false) in
    let least : c.args.queue.0 < length c.args.setup.now.queues + 1 = omega (arith, c.if-from-slice.false, c.from.ensures, queues) in
    is_placed c.args.setup.now c.args.service c.in_ok-routine.routine c.args.queue.0 some least c.row_for.result c.row_for.ensures
