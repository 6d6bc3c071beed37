use Rattle.std.proofs.Common.{◌≡◌, ◌+◌, drop}
use Rattle.std.specs.List.{position_or_len}
use Rattle.xa_config.specs.Field.{is_space}
use Rattle.xa_config.proofs.field.parts.Given as goal

abbrev pub invariant-loop-place : goal.invariant-loop-place
invariant-loop-place l = position_or_len is_space l.octets ≡ l.place + position_or_len is_space (drop l.place l.octets)
