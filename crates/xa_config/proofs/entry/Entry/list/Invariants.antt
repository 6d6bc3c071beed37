use Rattle.std.proofs.Common.{◌≡◌, ◌≤◌, length, vec_capacity, map}
use Rattle.toml.specs.View.{view}
use Rattle.xa_config.specs.Faults.{dotted, in_order}
use Rattle.xa_config.specs.Keys.{needed_array}
use Rattle.xa_config.proofs.Loops.{seen, unseen, at_element}
use Rattle.xa_config.proofs.entry.Entry.list.Given as goal

abbrev pub invariant-loop-value : goal.invariant-loop-value
invariant-loop-value g l =
    let E = g.E.Elements in
    record {
      kept : l.elements.items ≡ map (E.says l.of) (seen l.value-index l.values);
      room : length l.values ≤ vec_capacity l.elements;
      left : needed_array l.self.place.now l.key 1 64 (E.faults l.of) (view l.self.table.now)
          ≡ in_order (at_element (dotted l.self.place.now l.key) (E.faults l.of)) (seen l.value-index l.values) (unseen l.value-index l.values);
    }
