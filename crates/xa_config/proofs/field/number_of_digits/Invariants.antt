use Rattle.std.proofs.Common.{◌≡◌, min, take}
use Rattle.xa_config.specs.Field.{number_of_digits}
use Rattle.xa_config.proofs.field.number_of_digits.Given as goal

abbrev pub invariant-loop-digit : goal.invariant-loop-digit
invariant-loop-digit l = l.n ≡ min 4294967295 (number_of_digits (take l.digit-index l.digits))
