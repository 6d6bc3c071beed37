use Rattle.std.proofs.Common.{ap, sym, ◌∙◌, arith, decimal, ◌≡◌, true}
use Rattle.std.specs.Str.{bytes_eq}
use Rattle.xa_lines.specs.Reading.{number_of}
use Rattle.xa_lines.proofs.Combining.{same_bytes, bytes_refl}
use Rattle.xa_lines.proofs.Leaves.{number_again, number_none, number_no_text}
use Rattle.xa_lines.proofs.words.number_of.Goals as goal

pub returns-in_default-clause-number : goal.returns-in_default-clause-number
returns-in_default-clause-number c = number_no_text c.args.most c.args.word.now c.ranges.most.fits c.in_default.ensures.cases.0

pub returns-in_default-parse-clause-number : goal.returns-in_default-parse-clause-number
returns-in_default-parse-clause-number c =
    ap (number_of c.args.most) (sym c.in-Ok.ensures.cases.0)
    ∙ number_none c.args.most c.in-Ok.text.now c.parse.result c.ranges.most.fits c.parse.ensures.value.0 (λ n is spelled within. c.in_default-parse.not-Ok n is)

pub returns-then-number-most-clause-number : goal.returns-then-number-most-clause-number
returns-then-number-most-clause-number c =
    ap (number_of c.args.most) (sym c.in-Ok.ensures.cases.0)
    ∙ number_none c.args.most c.in-Ok.text.now c.parse.result c.ranges.most.fits c.parse.ensures.value.0
    (λ n is spelled within. let same : c.in-Ok-parse.number ≡ n = cc (sym c.in-Ok-parse.is ∙ is) in let over = c.if-number-most.true in absurd (omega (arith, same, over, within)))

pub returns-then-not-is_decimal-clause-number : goal.returns-then-not-is_decimal-clause-number
returns-then-not-is_decimal-clause-number c =
    ap (number_of c.args.most) (sym c.in-Ok.ensures.cases.0)
    ∙ number_none c.args.most c.in-Ok.text.now c.parse.result c.ranges.most.fits c.parse.ensures.value.0
    (λ n is spelled within.
    let same : c.in-Ok-parse.number ≡ n = cc (sym c.in-Ok-parse.is ∙ is) in
    let word : c.args.word.now ≡ decimal c.in-Ok-parse.number = sym c.in-Ok.ensures.cases.0 ∙ spelled ∙ ap decimal (sym same) in
    let yes : bytes_eq (decimal c.in-Ok-parse.number) c.args.word.now ≡ true = ap (bytes_eq (decimal c.in-Ok-parse.number)) word ∙ bytes_refl (decimal c.in-Ok-parse.number) in
    cc (c.if-not-is_decimal.ensures ∙ yes))

pub returns-clause-number : goal.returns-clause-number
returns-clause-number c =
    let small = c.ranges.most.fits in
    let within = c.if-number-most.false in
    ap (number_of c.args.most) (sym (same_bytes _ _ (sym c.if-not-is_decimal.ensures)))
    ∙ number_again c.args.most c.in-Ok-parse.number within (omega (arith, small, within))
