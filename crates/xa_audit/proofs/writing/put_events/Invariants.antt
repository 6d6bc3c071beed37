use Rattle.std.proofs.Common.{◌≡◌, ◌++◌, drop, map}
use Rattle.std.specs.List.{AllWithin, flat_map}
use Rattle.xa_lines.specs.Line.{line_of, IsEvent}
use Rattle.xa_audit.specs.Record.{line}
use Rattle.xa_audit.proofs.writing.put_events.Given as goal

abbrev pub invariant-loop-event : goal.invariant-loop-event
invariant-loop-event l = AllWithin IsEvent l.events 0 l.event-index × (l.out.items ++ flat_map line (map line_of (drop l.event-index l.events)) ≡ l.fn.out.items ++ flat_map line (map line_of l.events))
