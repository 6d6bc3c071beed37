use Rattle.std.proofs.Common.{◌∷◌, ◌+◌, length, drop, ap, sym, ◌∙◌, arith}
use Rattle.std.proofs.lemmas.Bool.{eqb-false}
use Rattle.std.proofs.lemmas.List.{take_rest}
use Rattle.std.specs.Str.Lines.{lines}
use Rattle.xa_script.proofs.ScriptCut.{lines_at, lines_last, nothing_left}
use Rattle.xa_script.proofs.script.next_line.Goals as goal

pub returns-in-Some-clause-line : goal.returns-in-Some-clause-line
returns-in-Some-clause-line c =
    let octets = c.args.octets.now in
    let line = c.without_return.result.now in
    let end = c.in-Some.end in
    lines_at octets end (sym c.in-Some.ensures) ∙ ap (λ x. x ∷ lines (drop (end + 1) octets)) (sym c.without_return.ensures)
    ∙ ap (λ behind. line ∷ lines behind) (sym (take_rest octets (end + 1)))

pub returns-in-None-clause-line : goal.returns-in-None-clause-line
returns-in-None-clause-line c =
    let octets = c.args.octets.now in
    let some = eqb-false (length octets) 0 (sym c.if-is_empty.ensures) in
    lines_last octets (omega (arith, some)) (sym c.in-None.ensures) ∙ ap (λ behind. octets ∷ lines behind) (sym (nothing_left octets))
