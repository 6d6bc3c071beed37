use Rattle.std.proofs.Common.{◌≡◌, codes, ◌++◌, drop}
use Rattle.std.specs.List.{list_any}
use Rattle.std.specs.Str.{bytes_eq}
use Rattle.xa_config.proofs.accepts.is_text_of_any.Given as goal

abbrev pub invariant-loop-shape : goal.invariant-loop-shape
invariant-loop-shape l = list_any (λ shape. bytes_eq l.octets (codes "c:" ++ shape)) (drop l.shape-index l.shapes) ≡ list_any (λ shape. bytes_eq l.octets (codes "c:" ++ shape)) l.shapes
