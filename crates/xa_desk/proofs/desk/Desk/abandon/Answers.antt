use Rattle.std.proofs.Common.{refl}
use Rattle.xa_desk.specs.declared.desk.Desk.{Desk}
use Rattle.xa_desk.proofs.Parting.{given_up_leads}
use Rattle.xa_desk.proofs.Telling.{reseated}
use Rattle.xa_desk.proofs.desk.Desk.abandon.Goals as goal

pub returns : goal.returns
returns c =
    let d = c.args.domain.now in
    let desk = c.args.self in
    let left = c.abandon-left.result in
    let ended : Desk = reseated desk left.seat in
    record {
      left = (
        ended,
        record { work = c.abandon-left.ensures.work.0; seat = refl; shut = c.abandon-left.ensures.shut; board = refl; queues = refl; clock = refl; reader = refl },
        given_up_leads d desk left.seat c.requires.desk c.abandon-left.ensures.cells.0 c.abandon-left.ensures.filled,
        refl,
        c.abandon-left.ensures.work.1,
        c.abandon-left.ensures.filled,
        refl,
      );
    }
