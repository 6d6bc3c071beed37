use Rattle.std.proofs.Common.{Some, refl, sym, ◌∙◌, ap, arith}
use Rattle.xa_types.specs.declared.fault.Fault.TheVariants.{System, Block}
use Rattle.xa_events.specs.declared.event.Evidence.TheVariants.{AllDown, Queue}
use Rattle.xa_caller.specs.declared.asking.GivenBack.{GivenBack}
use Rattle.xa_caller.specs.declared.outcomes.Why.TheVariants.{Full}
use Rattle.xa_caller.specs.Caller.{CallerState}
use Rattle.xa_caller.specs.Unsent.{refused_for, other_step}
use Rattle.xa_caller.proofs.Unsent.{unsent_refused, unsent_other}
use Rattle.xa_caller.proofs.caller.Caller.unsent.Goals as goal

pub refuse-requires-clause-shows : goal.refuse-requires-clause-shows
refuse-requires-clause-shows c =
    let floor = c.id-itself.ensures.sound.reads.floor in
    let least = ap (λ (t : CallerState). t.least) c.give_back-op.ensures.made in
    omega (arith, floor, c.give_back-op.ensures.recent, least)

pub returns-in-AllShut-default-clause-unsent : goal.returns-in-AllShut-default-clause-unsent
returns-in-AllShut-default-clause-unsent c =
    let g = c.give_back-op.ensures in
    let d = g.draft in
    let op = ap (λ (b : GivenBack). b.op) d.2 in
    let version = ap (λ (b : GivenBack). b.version) d.2 in
    unsent_refused c.args.entry.cargo.ticket.cell c.args.why c.args.no_block d.0 c.give_back-op.new.self.seat c.refuse.new.self c.give_back-op.new.self c.args.self.now d.1 g.seat g.made System (AllDown c.give_back-op.result.version)
    (ap (λ w. refused_for d.0 w c.args.no_block) c.in-AllShut-default.is-0 ∙ ap (λ v. Some (System, AllDown v)) (sym version)) c.give_back-op.result.op op c.refuse.result c.step.result c.step.ensures c.refuse.ensures.ok c.refuse.ensures.halted c.refuse.ensures.kept

pub returns-in-Full-true-clause-unsent : goal.returns-in-Full-true-clause-unsent
returns-in-Full-true-clause-unsent c =
    let g = c.give_back-op.ensures in
    let d = g.draft in
    let op = ap (λ (b : GivenBack). b.op) d.2 in
    unsent_refused c.args.entry.cargo.ticket.cell c.args.why c.args.no_block d.0 c.give_back-op.new.self.seat c.refuse-in-Full-true.new.self c.give_back-op.new.self c.args.self.now d.1 g.seat g.made Block (Queue c.in-Full-true.queue c.in-Full-true.waiting)
    (ap (λ w. refused_for d.0 w c.args.no_block) c.in-Full-true.is-0 ∙ ap (refused_for d.0 (Full c.in-Full-true.queue c.in-Full-true.waiting)) c.in-Full-true.is-1) c.give_back-op.result.op op c.refuse-in-Full-true.result c.step-in-Full-true.result c.step-in-Full-true.ensures c.refuse-in-Full-true.ensures.ok c.refuse-in-Full-true.ensures.halted c.refuse-in-Full-true.ensures.kept

pub returns-in-Full-false-clause-unsent : goal.returns-in-Full-false-clause-unsent
returns-in-Full-false-clause-unsent c =
    let g = c.give_back-op.ensures in
    let d = g.draft in
    unsent_other c.args.entry.cargo.ticket.cell c.args.why c.args.no_block d.0 c.give_back-op.new.self.seat c.give_back-op.new.self c.give_back-op.new.self c.args.self.now d.1 g.seat g.made
    (ap (λ w. refused_for d.0 w c.args.no_block) c.in-Full-false.is-0 ∙ ap (refused_for d.0 (Full c.in-Full-false.field-0-0 c.in-Full-false.field-1-0)) c.in-Full-false.is-1) _ (sym (ap other_step c.in-Full-false.is-0)) refl

pub returns-in-Halt-default-clause-unsent : goal.returns-in-Halt-default-clause-unsent
returns-in-Halt-default-clause-unsent c =
    let g = c.give_back-op.ensures in
    let d = g.draft in
    unsent_other c.args.entry.cargo.ticket.cell c.args.why c.args.no_block d.0 c.give_back-op.new.self.seat c.give_back-op.new.self c.give_back-op.new.self c.args.self.now d.1 g.seat g.made
    (ap (λ w. refused_for d.0 w c.args.no_block) c.in-Halt-default.is-0) _ (sym (ap other_step c.in-Halt-default.is-0)) refl
