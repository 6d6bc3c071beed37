use Rattle.std.proofs.Common.{◌∙◌}
use Rattle.xa_script.proofs.Numbers.{too_large}
use Rattle.xa_script.proofs.words.decimal.Goals as goal

pub returns-in_err-number : goal.returns-in_err-number
returns-in_err-number c =
    c.from_residual.ensures ∙ too_large 18446744073709551616 c.loop-digit.number c.loop-digit.digit-index c.args.digits.now c.loop-digit-test.true c.loop-digit.invariant.0 c.in_err-number.ensures
