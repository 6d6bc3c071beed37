-- What came so far came off the front of what the source held.
use Rattle.std.proofs.Common.{◌≤◌, ◌-◌, ◌≡◌, length}
use Rattle.xa_link.specs.Told.{Shrank, Grew}
use Rattle.xa_link.proofs.file.read_all.Given as goal

abbrev pub invariant-loop-n : goal.invariant-loop-n
invariant-loop-n g l = record {
  short : length l.all.items ≤ l.limit;
  shrank : Shrank (g.S.Source.shows l.initial.source).left (g.S.Source.shows l.source).left l.all.items;
  grew : Grew (g.S.Source.shows l.initial.source).gave (g.S.Source.shows l.source).gave l.all.items;
  alone : (g.S.Source.shows l.source).beside ≡ (g.S.Source.shows l.initial.source).beside;
  quiet : (g.S.Source.shows l.source).faults ≡ (g.S.Source.shows l.initial.source).faults;
}

abbrev pub decreases-loop-n : goal.decreases-loop-n
decreases-loop-n g l = l.limit - length l.all.items
