use Rattle.std.proofs.Common.{◌≡◌, string_bytes, drop}
use Rattle.std.specs.List.{list_any}
use Rattle.std.specs.Str.{bytes_eq}
use Rattle.xa_config.proofs.document.is_known.Given as goal

abbrev pub invariant-loop-k : goal.invariant-loop-k
invariant-loop-k l = list_any (λ k. bytes_eq (string_bytes l.key) k.now) (drop l.k-index l.known) ≡ list_any (λ k. bytes_eq (string_bytes l.key) k.now) l.known
