use Rattle.std.proofs.Common.{◌≡◌, ◌++◌, length}
use Rattle.std.specs.List.{All, flat_map}
use Rattle.xa_types.specs.Name.{IsName}
use Rattle.xa_audit.specs.Record.{line}
use Rattle.xa_audit.proofs.reading.names_of.Given as goal

abbrev pub invariant-loop-i : goal.invariant-loop-i
invariant-loop-i l = (l.octets ≡ flat_map line l.names.items ++ l.rest) × (length l.names.items ≡ l.i) × All IsName l.names.items
