use Rattle.std.proofs.Common.{◌≡◌, ◌≤◌, take, reverse}
use Rattle.xa_events.specs.Words.{count}
use Rattle.xa_machine.specs.Here.{is_recent}
use Rattle.xa_machine.proofs.setups.recent.Given as goal

abbrev pub invariant-loop-start : goal.invariant-loop-start
invariant-loop-start l = record {
  same : l.n ≡ count (is_recent l.now l.grace) (reverse (take l.start-index l.starts));
  few : l.n ≤ l.start-index;
}
