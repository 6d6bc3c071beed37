use Rattle.std.proofs.Common.{◌≡◌, ◌+◌, ◌≤◌, length, take, reverse}
use Rattle.xa_events.specs.Words.{count}
use Rattle.xa_events.specs.Laws.{LawOfEnds}
use Rattle.xa_events.specs.Request.{is_forward_of}
use Rattle.xa_machine.proofs.sending.forwards_of.Given as goal

abbrev pub invariant-loop-i : goal.invariant-loop-i
invariant-loop-i l = record {
  same : l.n + count (is_forward_of l.request) (reverse (take l.i l.events)) ≡ count (is_forward_of l.request) (reverse l.events);
  law : LawOfEnds (reverse l.events) → LawOfEnds (reverse (take l.i l.events));
  few : l.n + l.i ≤ length l.events;
}
