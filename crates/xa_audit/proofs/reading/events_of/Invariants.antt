use Rattle.std.proofs.Common.{◌≡◌, ◌++◌, length, map}
use Rattle.std.specs.List.{All, flat_map}
use Rattle.xa_lines.specs.Line.{line_of, IsEvent}
use Rattle.xa_audit.specs.Record.{line}
use Rattle.xa_audit.proofs.reading.events_of.Given as goal

abbrev pub invariant-loop-i : goal.invariant-loop-i
invariant-loop-i l = (l.octets ≡ flat_map line (map line_of l.history.items) ++ l.rest) × (length l.history.items ≡ l.i) × All IsEvent l.history.items
