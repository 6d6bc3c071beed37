use Rattle.std.proofs.Common.{◌<◌, [], true, List, map, refl, sym, ◌∙◌, ap, subst, arith}
use Rattle.std.specs.Prelude.{IfSome}
use Rattle.xa_types.specs.declared.ids.RequestId.{RequestId}
use Rattle.xa_cell.specs.Known.{known}
use Rattle.xa_cell.specs.Views.{at}
use Rattle.xa_worker.specs.declared.work.Halt.TheVariants.{NoMemory}
use Rattle.xa_caller.specs.declared.phase.Open.{Open}
use Rattle.xa_caller.specs.declared.outcomes.Step.TheVariants as steps
use Rattle.xa_caller.specs.Phases.{request_of}
use Rattle.xa_caller.specs.Caller.{CallerState}
use Rattle.xa_caller.specs.Getting.{PendsAs, AnyAs}
use Rattle.xa_caller.specs.Kept.{standing_of}
use Rattle.xa_caller.proofs.Keeping.{kept-looked}
use Rattle.xa_caller.proofs.Fetching.{among_self}
use Rattle.xa_caller.proofs.Replying.{stood_get, any_comes, any_pends}
use Rattle.xa_caller.proofs.caller.Caller.any.Goals as goal

pub invariant_of-self : goal.invariant_of-self
invariant_of-self c = kept-looked c.args.cells.now c.self.inside c.first_come.new.seat c.self.invariant (ap (λ (t : CallerState). t.phase) c.self.view_is ∙ c.requires.idle) c.first_come.ensures.cells c.first_come.ensures.stand

pub invariant_of-self-then-not-no_block : goal.invariant_of-self-then-not-no_block
invariant_of-self-then-not-no_block c = kept-looked c.args.cells.now c.self.inside c.first_come.new.seat c.self.invariant (ap (λ (t : CallerState). t.phase) c.self.view_is ∙ c.requires.idle) c.first_come.ensures.cells c.first_come.ensures.stand

pub invariant_of-self-in-Ok : goal.invariant_of-self-in-Ok
invariant_of-self-in-Ok c = kept-looked c.args.cells.now c.self.inside c.first_come.new.seat c.self.invariant (ap (λ (t : CallerState). t.phase) c.self.view_is ∙ c.requires.idle) c.first_come.ensures.cells c.first_come.ensures.stand

pub invariant_of-self-in-Err : goal.invariant_of-self-in-Err
invariant_of-self-in-Err c = kept-looked c.args.cells.now c.self.inside c.first_come.new.seat c.self.invariant (ap (λ (t : CallerState). t.phase) c.self.view_is ∙ c.requires.idle) c.first_come.ensures.cells c.first_come.ensures.stand

pub fetch-requires-clause-come : goal.fetch-requires-clause-come
fetch-requires-clause-come c =
    let comes = c.in-Some.ensures.looks in
    subst (λ o. IfSome o (λ (z : Open). 0 < (at z.place.cell (known c.first_come.new.seat)).settled)) (sym (stood_get c.self.inside.out.all c.in-Some.place comes.sent comes.stood)) comes.settled

pub not_yet-requires-clause-looks : goal.not_yet-requires-clause-looks
not_yet-requires-clause-looks c =
    let some = c.if-len-eq0.false in
    let count = c.len.ensures in
    (c.self.inside.out.all, c.in-Ok.ensures, omega (arith, some, count), among_self [] c.self.inside.out.all)

pub returns-in-Some-clause-step : goal.returns-in-Some-clause-step
returns-in-Some-clause-step c =
    subst (λ (old : CallerState). AnyAs c.args.op c.args.expect.now c.args.no_block c.fetch.result c.fetch.new.self old) c.self.view_is
    (any_comes c.args.op c.args.expect.now c.args.no_block (standing_of c.self.inside) c.first_come.new.seat c.in-Some.place c.in-Some.ensures.looks c.fetch.result c.fetch.new.self c.fetch.ensures.step)

pub returns-then-not-no_block-clause-step : goal.returns-then-not-no_block-clause-step
returns-then-not-no_block-clause-step c =
    let s : CallerState = standing_of c.self.inside in
    let some = c.if-len-eq0.false in
    let count = c.len.ensures in
    let mid : CallerState = record s { seat = c.first_come.new.seat } in
    subst (λ (old : CallerState). AnyAs c.args.op c.args.expect.now c.args.no_block steps.Wait mid old) c.self.view_is
    (any_pends c.args.op c.args.expect.now c.args.no_block s c.first_come.new.seat (omega (arith, some, count)) c.in-None.ensures.looks steps.Wait mid
    (subst (λ b. PendsAs c.args.op b (map request_of s.out) steps.Wait mid mid) (sym c.if-not-no_block.true) refl))

pub returns-in-Ok-clause-step : goal.returns-in-Ok-clause-step
returns-in-Ok-clause-step c =
    let s : CallerState = standing_of c.self.inside in
    let some = c.if-len-eq0.false in
    let count = c.len.ensures in
    let mid : CallerState = record s { seat = c.first_come.new.seat } in
    subst (λ (old : CallerState). AnyAs c.args.op c.args.expect.now c.args.no_block c.not_yet.result c.not_yet.new.self old) c.self.view_is
    (any_pends c.args.op c.args.expect.now c.args.no_block s c.first_come.new.seat (omega (arith, some, count)) c.in-None.ensures.looks c.not_yet.result c.not_yet.new.self
    (subst (λ b. PendsAs c.args.op b (map request_of s.out) c.not_yet.result c.not_yet.new.self mid) (sym c.if-not-no_block.false) (subst (λ (l : List RequestId). PendsAs c.args.op true l c.not_yet.result c.not_yet.new.self mid) c.in-Ok.ensures c.not_yet.ensures.step)))

pub returns-in-Err-clause-step : goal.returns-in-Err-clause-step
returns-in-Err-clause-step c =
    let s : CallerState = standing_of c.self.inside in
    let some = c.if-len-eq0.false in
    let count = c.len.ensures in
    let mid : CallerState = record s { seat = c.first_come.new.seat } in
    subst (λ (old : CallerState). AnyAs c.args.op c.args.expect.now c.args.no_block (steps.Halt NoMemory) mid old) c.self.view_is
    (any_pends c.args.op c.args.expect.now c.args.no_block s c.first_come.new.seat (omega (arith, some, count)) c.in-None.ensures.looks (steps.Halt NoMemory) mid
    (subst (λ b. PendsAs c.args.op b (map request_of s.out) (steps.Halt NoMemory) mid mid) (sym c.if-not-no_block.false) (tt, refl)))
