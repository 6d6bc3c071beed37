use Rattle.std.proofs.Common.{◌≡◌}
use Rattle.std.specs.List.{find}
use Rattle.xa_config.proofs.Unknown.{is_other}
use Rattle.xa_config.proofs.document.unknown_key.Given as goal

abbrev pub invariant-loop-key : goal.invariant-loop-key
invariant-loop-key l = find (is_other l.known) l.key-iterator ≡ find (is_other l.known) l.initial.key-iterator
