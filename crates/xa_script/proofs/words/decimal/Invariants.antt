use Rattle.std.proofs.Common.{◌≡◌, ◌<◌, drop}
use Rattle.xa_script.specs.Words.{decimal_from}
use Rattle.xa_script.proofs.words.decimal.Given as goal

abbrev pub invariant-loop-digit : goal.invariant-loop-digit
invariant-loop-digit l = (decimal_from l.number (drop l.digit-index l.digits) ≡ decimal_from 0 l.digits) × (l.number < 18446744073709551616)
