use Rattle.std.proofs.Common.{◌≡◌, ◌++◌, drop}
use Rattle.std.specs.List.{AllWithin, flat_map}
use Rattle.xa_types.specs.Name.{IsName}
use Rattle.xa_audit.specs.Record.{line}
use Rattle.xa_audit.proofs.writing.put_names.Given as goal

abbrev pub invariant-loop-name : goal.invariant-loop-name
invariant-loop-name l = AllWithin IsName l.names 0 l.name-index × (l.out.items ++ flat_map line (drop l.name-index l.names) ≡ l.fn.out.items ++ flat_map line l.names)
