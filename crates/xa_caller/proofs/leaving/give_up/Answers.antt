use Rattle.std.proofs.Common.{sym, subst}
use Rattle.xa_cell.specs.declared.tokens.Seat.{Seat}
use Rattle.xa_cell.specs.Known.{known}
use Rattle.xa_caller.specs.declared.cargo.Filling.{Filling}
use Rattle.xa_caller.specs.Changes.{FillsNoMore}
use Rattle.xa_caller.proofs.Departing.{fills_trans}
use Rattle.xa_caller.proofs.leaving.give_up.Goals.{in-Sent, in-Idle, in-Lost}
use Rattle.xa_caller.proofs.leaving.give_up.Goals as goal

pub returns-clause-filled : goal.returns-clause-filled
returns-clause-filled c = elim c.match-phase.branch [
  | in-Sent w ↦ fills_trans (known c.args.seat.now) (known c.match-phase.seat) (known c.drop_all.new.seat) (subst (λ (t : Seat Filling). FillsNoMore (known c.args.seat.now) (known t)) (sym w.seat-is) w.drop_place.ensures.filled) c.drop_all.ensures.filled
  | in-Idle w ↦ subst (λ (t : Seat Filling). FillsNoMore (known t) (known c.drop_all.new.seat)) w.seat-is c.drop_all.ensures.filled
  | in-Lost w ↦ subst (λ (t : Seat Filling). FillsNoMore (known t) (known c.drop_all.new.seat)) w.seat-is c.drop_all.ensures.filled
]
