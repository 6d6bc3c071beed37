use Rattle.std.proofs.Common.{ap, sym, ◌∙◌, arith, ◌<◌, ◌^◌, decimal, ◌≡◌, true, lit<}
use Rattle.std.specs.Str.{bytes_eq}
use Rattle.xa_lines.specs.Reading.{number_of}
use Rattle.xa_lines.proofs.Combining.{same_bytes, bytes_refl}
use Rattle.xa_lines.proofs.Leaves.{number_again, number_none, number_no_text}
use Rattle.xa_audit.proofs.reading.number_of.Goals as goal

most_fits : 18446744073709551615 < 2 ^ 64
most_fits = lit< tt

pub returns-in_default : goal.returns-in_default
returns-in_default c = sym (number_no_text 18446744073709551615 c.args.digits.now most_fits c.in_default.ensures.cases.0)

pub returns-in_default-parse : goal.returns-in_default-parse
returns-in_default-parse c =
    sym (ap (number_of 18446744073709551615) (sym c.in-Ok.ensures.cases.0)
    ∙ number_none 18446744073709551615 c.in-Ok.text.now c.parse.result most_fits c.parse.ensures.value.0 (λ n is spelled within. c.in_default-parse.not-Ok n is))

pub returns-then-not-is_decimal : goal.returns-then-not-is_decimal
returns-then-not-is_decimal c =
    sym (ap (number_of 18446744073709551615) (sym c.in-Ok.ensures.cases.0)
    ∙ number_none 18446744073709551615 c.in-Ok.text.now c.parse.result most_fits c.parse.ensures.value.0
    (λ n is spelled within.
    let same : c.in-Ok-parse.number ≡ n = cc (sym c.in-Ok-parse.is ∙ is) in
    let word : c.args.digits.now ≡ decimal c.in-Ok-parse.number = sym c.in-Ok.ensures.cases.0 ∙ spelled ∙ ap decimal (sym same) in
    let yes : bytes_eq (decimal c.in-Ok-parse.number) c.args.digits.now ≡ true = ap (bytes_eq (decimal c.in-Ok-parse.number)) word ∙ bytes_refl (decimal c.in-Ok-parse.number) in
    cc (c.if-not-is_decimal.ensures ∙ yes)))

pub returns : goal.returns
returns c =
    sym (ap (number_of 18446744073709551615) (sym (same_bytes _ _ (sym c.if-not-is_decimal.ensures)))
    ∙ number_again 18446744073709551615 c.in-Ok-parse.number (omega arith) (omega arith))
