-- The first `at` octets were taken.
use Rattle.std.proofs.Common.{length, ◌-◌, ◌≤◌, ◌≡◌, take}
use Rattle.xa_link.specs.Told.{Grew}
use Rattle.xa_link.proofs.sink.put.Given as goal

abbrev pub invariant-loop-at : goal.invariant-loop-at
invariant-loop-at g l = record {
  within : l.at ≤ length l.piece;
  grew : Grew (g.K.Sink.shows l.initial.sink).took (g.K.Sink.shows l.sink).took (take l.at l.piece);
  quiet : (g.K.Sink.shows l.sink).faults ≡ (g.K.Sink.shows l.initial.sink).faults;
  alone : (g.K.Sink.shows l.sink).beside ≡ (g.K.Sink.shows l.initial.sink).beside;
}

abbrev pub decreases-loop-at : goal.decreases-loop-at
decreases-loop-at g l = length l.piece - l.at
