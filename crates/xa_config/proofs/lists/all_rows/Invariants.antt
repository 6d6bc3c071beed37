use Rattle.std.proofs.Common.{◌≡◌, ◌≤◌, length, vec_capacity, [], map}
use Rattle.toml.specs.View.{view}
use Rattle.xa_config.specs.Faults.{in_order}
use Rattle.xa_config.specs.Meaning.{names_of}
use Rattle.xa_config.specs.Tables.{at_entry}
use Rattle.xa_config.proofs.Loops.{seen, unseen}
use Rattle.xa_config.proofs.lists.all_rows.Given as goal

abbrev pub invariant-loop-value : goal.invariant-loop-value
invariant-loop-value g l =
    let R = g.R.Rows in
    record {
      kept : l.kept.items ≡ map (R.says l.rows) (seen l.value-index l.values);
      named : l.names.items ≡ names_of (seen l.value-index l.values);
      room : length l.values ≤ vec_capacity l.kept;
      named_room : length l.values ≤ vec_capacity l.names;
      left : in_order (at_entry l.key (R.faults l.rows)) [] (map view l.values)
          ≡ in_order (at_entry l.key (R.faults l.rows)) (seen l.value-index l.values) (unseen l.value-index l.values);
    }
