use Rattle.std.proofs.Common.{◌≡◌, sym}
use Rattle.xa_lines.proofs.Leaves.{number_takes}
use Rattle.xa_audit.specs.Record.{counted}
use Rattle.xa_audit.specs.Reading.{IsNotCounted}
use Rattle.xa_audit.proofs.Lines.{counted_by, none_is}
use Rattle.xa_audit.proofs.Records.{not_by_word, not_by_space, not_by_number}
use Rattle.xa_audit.proofs.reading.counted_of.Goals as goal

pub returns : goal.returns
returns c =
    counted_by c.args.text.now c.args.word.now c.in_ok-behind.behind.now c.as_slice.result.now c.in_ok-digits.digits.now c.in_ok-number.number c.in_ok-behind.ensures.cases.0 c.in_ok-behind.ensures.cases.1 c.as_slice.ensures
    c.in_ok-digits.ensures.cases.0 c.in_ok-digits.ensures.cases.1 (number_takes 18446744073709551615 c.in_ok-digits.digits.now c.in_ok-number.number (sym c.in_ok-number.ensures)).0

pub returns-in_err-behind : goal.returns-in_err-behind
returns-in_err-behind c = none_is c.from_residual.result (IsNotCounted c.args.text.now c.args.word.now) (λ number. c.args.text.now ≡ counted c.args.word.now number) c.from_residual.ensures (not_by_word c.args.text.now c.args.word.now c.in_err-behind.ensures.cases)

pub returns-in_err-digits : goal.returns-in_err-digits
returns-in_err-digits c =
    none_is c.from_residual-in_err-digits.result (IsNotCounted c.args.text.now c.args.word.now) (λ number. c.args.text.now ≡ counted c.args.word.now number) c.from_residual-in_err-digits.ensures
    (not_by_space c.args.text.now c.args.word.now c.in_ok-behind.behind.now c.as_slice.result.now c.in_ok-behind.ensures.cases.1 c.as_slice.ensures c.in_err-digits.ensures.cases)

pub returns-in_err-number : goal.returns-in_err-number
returns-in_err-number c =
    none_is c.from_residual-in_err-number.result (IsNotCounted c.args.text.now c.args.word.now) (λ number. c.args.text.now ≡ counted c.args.word.now number) c.from_residual-in_err-number.ensures
    (not_by_number c.args.text.now c.args.word.now c.in_ok-behind.behind.now c.as_slice.result.now c.in_ok-digits.digits.now c.in_ok-behind.ensures.cases.1 c.as_slice.ensures c.in_ok-digits.ensures.cases.1 (sym c.in_err-number.ensures))
