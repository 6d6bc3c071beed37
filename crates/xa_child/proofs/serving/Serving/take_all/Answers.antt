use Rattle.std.proofs.Common.{subst}
use Rattle.xa_child.specs.Serving.{StepsTo}
use Rattle.xa_child.proofs.ServingSteps.{taken_none, taken_more, taken_all}
use Rattle.xa_child.proofs.serving.Serving.take_all.Goals as goal

pub loop-due-init : goal.loop-due-init
loop-due-init c = taken_none c.args.self.now c.in_ok-due.due.items c.in_ok-due.ensures.items

pub loop-due-preserved : goal.loop-due-preserved
loop-due-preserved c = taken_more c.args.self.now c.loop-due.self c.take_one.new.self c.loop-due.due.items c.take_one.new.due.items c.loop-due.invariant (subst (StepsTo c.loop-due.self c.take_one.new.self c.loop-due.due.items c.take_one.new.due.items) c.in-None.is c.in_ok-halt.ensures.step)

pub returns-in-Some : goal.returns-in-Some
returns-in-Some c = taken_all c.args.self.now c.loop-due.self c.take_one.new.self c.loop-due.due.items c.take_one.new.due.items c.in-Some.halt c.loop-due.invariant (subst (StepsTo c.loop-due.self c.take_one.new.self c.loop-due.due.items c.take_one.new.due.items) c.in-Some.is c.in_ok-halt.ensures.step) c.take_one.ensures.place
