use Rattle.std.proofs.Common.{◌≡◌, drop}
use Rattle.std.specs.List.{list_all}
use Rattle.toml.specs.View.{view}
use Rattle.xa_config.specs.Kinds.{is_table}
use Rattle.xa_config.proofs.lists.all_tables.Given as goal

abbrev pub invariant-loop-value : goal.invariant-loop-value
invariant-loop-value l = list_all (λ value. is_table (view value)) (drop l.value-index l.values) ≡ list_all (λ value. is_table (view value)) l.values
