-- The child goes on, and nothing failed so far.
use Rattle.std.proofs.Common.{◌≡◌, length}
use Rattle.xa_child.specs.Turns.{SoFar}
use Rattle.xa_child.proofs.working.work.Given as goal

abbrev pub invariant-loop : goal.invariant-loop
invariant-loop g l = record {
  so_far : SoFar l.name (g.I.Source.shows l.fn.input).left (g.I.Source.shows l.input).left (g.I.Source.shows l.fn.input).gave (g.I.Source.shows l.input).gave (g.O.Sink.shows l.fn.out).took (g.O.Sink.shows l.out).took l.serving;
  reads : (g.I.Source.shows l.input).faults ≡ (g.I.Source.shows l.fn.input).faults;
  writes : (g.O.Sink.shows l.out).faults ≡ (g.O.Sink.shows l.fn.out).faults;
  piece : length l.piece ≡ 8192;
}
