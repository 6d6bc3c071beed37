use Rattle.std.proofs.Common.{◌≡◌, codes, ◌++◌, drop}
use Rattle.std.specs.List.{list_any}
use Rattle.std.specs.Str.{bytes_eq}
use Rattle.toml.specs.View.{view}
use Rattle.xa_config.specs.Kinds.{text_in}
use Rattle.xa_config.proofs.accepts.is_shape_listed.Given as goal

abbrev pub invariant-loop-value : goal.invariant-loop-value
invariant-loop-value l = list_any (λ value. bytes_eq (text_in (view value)) (codes "c:" ++ l.shape)) (drop l.value-index l.values) ≡ list_any (λ value. bytes_eq (text_in (view value)) (codes "c:" ++ l.shape)) l.values
