use Rattle.std.proofs.Common.{◌+◌, ap, sym, ◌∙◌, subst, arith}
use Rattle.std.specs.Str.Lines.{lines}
use Rattle.xa_script.specs.Draft.{kept}
use Rattle.xa_script.specs.Script.{IsFirstFault}
use Rattle.xa_script.proofs.ReadLines.{IsReadTo, goes_on, first_fault, nothing_read, all_read}
use Rattle.xa_script.proofs.script.read_lines.Goals as goal

pub loop-text-init : goal.loop-text-init
loop-text-init c =
    let all = lines c.args.octets.now in
    (subst (λ draft. IsReadTo c.args.setup.now c.args.most all 0 draft all) (sym c.new-draft.ensures) (nothing_read c.args.setup.now c.args.most all), omega arith)

pub returns-in-Some-2-clause-refused : goal.returns-in-Some-2-clause-refused
returns-in-Some-2-clause-refused c =
    let most = c.args.most in
    let n = c.loop-text.line in
    let draft = c.loop-text.draft in
    let reached = subst (IsReadTo c.args.setup.now most (lines c.args.octets.now) n draft) c.in-Some.ensures.line c.loop-text.invariant.0 in
    let stops = sym c.in_ok-cause.ensures ∙ ap (λ cause. kept cause c.take_line.new.self) c.in-Some-2.is in
    subst (IsFirstFault c.args.setup.now most c.args.octets.now (n + 1)) (sym c.number-cause.ensures)
    (first_fault c.args.setup.now most c.args.octets.now (lines c.in-Some.behind.now) n draft c.in-Some.text.now c.in-Some-2.cause reached stops)

pub loop-text-preserved : goal.loop-text-preserved
loop-text-preserved c =
    let most = c.args.most in
    let n = c.loop-text.line in
    let draft = c.loop-text.draft in
    let reached = subst (IsReadTo c.args.setup.now most (lines c.args.octets.now) n draft) c.in-Some.ensures.line c.loop-text.invariant.0 in
    let next = sym c.in_ok-cause.ensures ∙ ap (λ cause. kept cause c.take_line.new.self) c.in_default-2.is in
    let room = c.loop-text.invariant.1 in
    let shorter = c.in-Some.ensures.shorter in (
      goes_on c.args.setup.now most (lines c.args.octets.now) (lines c.in-Some.behind.now) n draft c.take_line.new.self c.in-Some.text.now reached next,
      omega (arith, room, shorter),
    )

pub returns-clause-found : goal.returns-clause-found
returns-clause-found c =
    let all = lines c.args.octets.now in
    all_read c.args.setup.now c.args.most all c.loop-text.line c.loop-text.draft
    (subst (IsReadTo c.args.setup.now c.args.most all c.loop-text.line c.loop-text.draft) c.in_default.ensures.line c.loop-text.invariant.0)
