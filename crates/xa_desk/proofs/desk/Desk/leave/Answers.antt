use Rattle.std.proofs.Common.{refl}
use Rattle.xa_desk.specs.declared.desk.Desk.{Desk}
use Rattle.xa_desk.proofs.Parting.{with_work, parted_goes}
use Rattle.xa_desk.proofs.Telling.{reseated}
use Rattle.xa_desk.proofs.desk.Desk.leave.Goals as goal

pub returns : goal.returns
returns c =
    let desk = c.args.self in
    let left = c.leave-left.result in
    let ended : Desk = reseated (with_work desk left.work) left.seat in
    let goes = parted_goes c.args.domain.now desk left.halt left.work left.seat c.requires.desk c.leave-left.ensures.work c.leave-left.ensures.cells.0 c.leave-left.ensures.filled in
    record {
      left = (
        ended,
        record { work = refl; seat = refl; shut = c.leave-left.ensures.shut; board = refl; queues = refl; clock = refl; reader = refl },
        goes.0,
        c.leave-left.ensures.work,
        goes.1,
        c.requires.idle,
      );
    }
