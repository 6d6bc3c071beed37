use Rattle.std.proofs.Common.{List, ℕ, subst, arith}
use Rattle.xa_domain.specs.xa_link.Told.{GrewByPart}
use Rattle.xa_program.proofs.Pieces.{joined, part_of_all, on_any}
use Rattle.xa_program.proofs.telling.put_all.Goals as goal

pub returns-in_err-put-clause-part : goal.returns-in_err-put-clause-part
returns-in_err-put-clause-part g c =
    let before = (g.O.Sink.shows c.loop-piece.out).took in
    let after = (g.O.Sink.shows c.put.new.sink).took in
    on_any (GrewByPart (g.O.Sink.shows c.args.out.now).took after (joined c.args.pieces.now)) c.from_residual.result
    (part_of_all (g.O.Sink.shows c.args.out.now).took before after c.args.pieces.now c.loop-piece.piece-index c.piece-item.result (omega arith) c.piece-item.is c.loop-piece.invariant.took
    (subst (λ (piece : List ℕ). GrewByPart before after piece) c.slice.ensures c.in_err-put.ensures.part))
