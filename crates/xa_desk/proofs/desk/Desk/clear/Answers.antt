use Rattle.std.proofs.Common.{◌∙◌}
use Rattle.xa_desk.proofs.Falling.{of_both}
use Rattle.xa_desk.proofs.Leading.{leads_trans}
use Rattle.xa_desk.proofs.desk.Desk.clear.Goals as goal

pub returns-in_err-clear_one-clause-noted : goal.returns-in_err-clear_one-clause-noted
returns-in_err-clear_one-clause-noted g c = of_both c.args.self.now c.loop.self c.clear_one.new.self c.loop.invariant.noted c.clear_one.ensures.noted

pub returns-then-not-branch-clause-leads : goal.returns-then-not-branch-clause-leads
returns-then-not-branch-clause-leads g c = leads_trans c.args.domain.now c.args.self.now c.loop.self c.clear_one.new.self c.loop.invariant.leads c.clear_one.ensures.leads

pub returns-then-not-branch-clause-noted : goal.returns-then-not-branch-clause-noted
returns-then-not-branch-clause-noted g c = of_both c.args.self.now c.loop.self c.clear_one.new.self c.loop.invariant.noted c.clear_one.ensures.noted

pub loop-preserved : goal.loop-preserved
loop-preserved g c = record {
  leads = leads_trans c.args.domain.now c.args.self.now c.loop.self c.clear_one.new.self c.loop.invariant.leads c.clear_one.ensures.leads;
  deserted = c.clear_one.ensures.deserted;
  noted = of_both c.args.self.now c.loop.self c.clear_one.new.self c.loop.invariant.noted c.clear_one.ensures.noted;
  same = (c.clear_one.ensures.same.0 ∙ c.loop.invariant.same.0, c.clear_one.ensures.same.1 ∙ c.loop.invariant.same.1);
  latest = c.in_ok-clear_one.ensures.latest c.if-not-branch.false;
}

pub returns-in_err-clear_one-clause-leads : goal.returns-in_err-clear_one-clause-leads
returns-in_err-clear_one-clause-leads g c = leads_trans c.args.domain.now c.args.self.now c.loop.self c.clear_one.new.self c.loop.invariant.leads c.clear_one.ensures.leads
