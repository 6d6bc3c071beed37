use Rattle.std.proofs.Common.{◌≡◌, take}
use Rattle.xa_domain.specs.xa_link.Told.{Grew}
use Rattle.xa_program.proofs.Pieces.{joined}
use Rattle.xa_program.proofs.telling.put_all.Given as goal

abbrev pub invariant-loop-piece : goal.invariant-loop-piece
invariant-loop-piece g l = record {
  took : Grew (g.O.Sink.shows l.initial.out).took (g.O.Sink.shows l.out).took (joined (take l.piece-index l.pieces));
  writes : (g.O.Sink.shows l.out).faults ≡ (g.O.Sink.shows l.initial.out).faults;
}
