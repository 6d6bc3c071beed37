use Rattle.std.proofs.Common.{◌≡◌, ◌∷◌, [], true, List, inl, refl, sym, ◌∙◌, ap, subst, arith}
use Rattle.std.specs.List.{position}
use Rattle.xa_types.specs.declared.ids.RequestId.{RequestId}
use Rattle.xa_worker.specs.declared.work.Halt.TheVariants.{NoMemory}
use Rattle.xa_caller.specs.declared.phase.Open.{Open}
use Rattle.xa_caller.specs.declared.outcomes.Step.TheVariants as steps
use Rattle.xa_caller.specs.Descriptors.{is_at}
use Rattle.xa_caller.specs.Caller.{CallerState}
use Rattle.xa_caller.specs.Getting.{PendsAs, RepliesAs, BadDescriptor}
use Rattle.xa_caller.specs.Kept.{standing_of}
use Rattle.xa_caller.proofs.Keeping.{kept-looked}
use Rattle.xa_caller.proofs.Standing.{parts_at, same_at, not_numbered}
use Rattle.xa_caller.proofs.Fetching.{fetch-open, bad_descriptor}
use Rattle.xa_caller.proofs.Replying.{replies_come, replies_pending}
use Rattle.xa_caller.proofs.caller.Caller.reply.Goals as goal

pub returns-in_default-clause-step : goal.returns-in_default-clause-step
returns-in_default-clause-step c =
    let at = ap (λ (t : CallerState). position (is_at c.args.descriptor) t.out) (sym c.self.view_is) in
    let none = not_numbered c.args.self.now.out c.args.descriptor (at ∙ sym c.find.ensures ∙ c.in_default.is) in
    inl (none, subst (λ r. BadDescriptor c.args.op c.args.descriptor r c.refuse.new.self c.args.self.now) (sym c.step.ensures) (bad_descriptor c.args.op c.args.descriptor c.refuse.result c.refuse.new.self c.args.self.now c.refuse.ensures.ok c.refuse.ensures.halted c.refuse.ensures.kept))

pub look-requires-clause-place : goal.look-requires-clause-place
look-requires-clause-place c =
    let idle = ap (λ (t : CallerState). t.phase) c.self.view_is ∙ c.requires.idle in
    let o : Open = c.get-2.result.now in
    let stood = parts_at c.self.inside.out.all c.in-Some.place o c.get-2.ensures in
    fetch-open c.self.inside c.self.invariant idle stood.front stood.back o stood.is

pub invariant_of-self : goal.invariant_of-self
invariant_of-self c = kept-looked c.args.cells.now c.self.inside c.look.new.seat c.self.invariant (ap (λ (t : CallerState). t.phase) c.self.view_is ∙ c.requires.idle) c.look.ensures.seat c.look.ensures.open

pub invariant_of-self-then-not-no_block : goal.invariant_of-self-then-not-no_block
invariant_of-self-then-not-no_block c = kept-looked c.args.cells.now c.self.inside c.look.new.seat c.self.invariant (ap (λ (t : CallerState). t.phase) c.self.view_is ∙ c.requires.idle) c.look.ensures.seat c.look.ensures.open

pub invariant_of-self-in-Ok : goal.invariant_of-self-in-Ok
invariant_of-self-in-Ok c = kept-looked c.args.cells.now c.self.inside c.look.new.seat c.self.invariant (ap (λ (t : CallerState). t.phase) c.self.view_is ∙ c.requires.idle) c.look.ensures.seat c.look.ensures.open

pub invariant_of-self-in-Err : goal.invariant_of-self-in-Err
invariant_of-self-in-Err c = kept-looked c.args.cells.now c.self.inside c.look.new.seat c.self.invariant (ap (λ (t : CallerState). t.phase) c.self.view_is ∙ c.requires.idle) c.look.ensures.seat c.look.ensures.open

pub not_yet-requires-clause-looks : goal.not_yet-requires-clause-looks
not_yet-requires-clause-looks c =
    let o : Open = c.get.result.now in
    let stood = parts_at c.self.inside.out.all c.in-Some.place o c.get.ensures in
    (o ∷ [], c.in-Ok.ensures.items, omega arith, ((stood.front, stood.back, stood.is), tt))

pub returns-in-Come-clause-step : goal.returns-in-Come-clause-step
returns-in-Come-clause-step c =
    let s : CallerState = standing_of c.self.inside in
    subst (λ (old : CallerState). RepliesAs c.args.op c.args.descriptor c.args.expect.now c.args.no_block c.fetch.result c.fetch.new.self old) c.self.view_is
    (replies_come c.args.op c.args.descriptor c.args.expect.now c.args.no_block s c.look.new.seat c.in-Some.place (sym c.find.ensures ∙ c.in-Some.is) c.get-2.result.now c.get-2.ensures c.in-Come.ensures.known.0 c.fetch.result c.fetch.new.self c.fetch.ensures.step)

pub returns-then-not-no_block-clause-step : goal.returns-then-not-no_block-clause-step
returns-then-not-no_block-clause-step c =
    let s : CallerState = standing_of c.self.inside in
    let o : Open = c.get-2.result.now in
    let mid : CallerState = record s { seat = c.look.new.seat } in
    let waits = c.if-not-no_block.true in
    subst (λ (old : CallerState). RepliesAs c.args.op c.args.descriptor c.args.expect.now c.args.no_block steps.Wait mid old) c.self.view_is
    (replies_pending c.args.op c.args.descriptor c.args.expect.now c.args.no_block s c.look.new.seat c.in-Some.place (sym c.find.ensures ∙ c.in-Some.is) o c.get-2.ensures c.in-Pending.ensures.known steps.Wait mid
    (subst (λ b. PendsAs c.args.op b (o.request ∷ []) steps.Wait mid mid) (sym waits) refl))

pub returns-in-Ok-clause-step : goal.returns-in-Ok-clause-step
returns-in-Ok-clause-step c =
    let s : CallerState = standing_of c.self.inside in
    let o : Open = c.get-2.result.now in
    let mid : CallerState = record s { seat = c.look.new.seat } in
    let told = c.if-not-no_block.false in
    let same : c.get.result.now ≡ o = same_at s.out c.in-Some.place c.get.result.now o c.get.ensures c.get-2.ensures in
    let are : c.in-Ok.requests.items ≡ o.request ∷ [] = c.in-Ok.ensures.items ∙ ap (λ (z : Open). z.request ∷ []) same in
    subst (λ (old : CallerState). RepliesAs c.args.op c.args.descriptor c.args.expect.now c.args.no_block c.not_yet.result c.not_yet.new.self old) c.self.view_is
    (replies_pending c.args.op c.args.descriptor c.args.expect.now c.args.no_block s c.look.new.seat c.in-Some.place (sym c.find.ensures ∙ c.in-Some.is) o c.get-2.ensures c.in-Pending.ensures.known c.not_yet.result c.not_yet.new.self
    (subst (λ b. PendsAs c.args.op b (o.request ∷ []) c.not_yet.result c.not_yet.new.self mid) (sym told) (subst (λ (l : List RequestId). PendsAs c.args.op true l c.not_yet.result c.not_yet.new.self mid) are c.not_yet.ensures.step)))

pub returns-in-Err-clause-step : goal.returns-in-Err-clause-step
returns-in-Err-clause-step c =
    let s : CallerState = standing_of c.self.inside in
    let o : Open = c.get-2.result.now in
    let mid : CallerState = record s { seat = c.look.new.seat } in
    let told = c.if-not-no_block.false in
    subst (λ (old : CallerState). RepliesAs c.args.op c.args.descriptor c.args.expect.now c.args.no_block (steps.Halt NoMemory) mid old) c.self.view_is
    (replies_pending c.args.op c.args.descriptor c.args.expect.now c.args.no_block s c.look.new.seat c.in-Some.place (sym c.find.ensures ∙ c.in-Some.is) o c.get-2.ensures c.in-Pending.ensures.known (steps.Halt NoMemory) mid
    (subst (λ b. PendsAs c.args.op b (o.request ∷ []) (steps.Halt NoMemory) mid mid) (sym told) (tt, refl)))
