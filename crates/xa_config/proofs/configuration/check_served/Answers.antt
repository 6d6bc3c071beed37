use Rattle.std.proofs.Common.{map, sym, ◌∙◌}
use Rattle.xa_types.specs.declared.setup.ServerSetup.{ServerSetup}
use Rattle.xa_config.proofs.Reading.{next_served, next_unserved, all_served}
use Rattle.xa_config.proofs.configuration.check_served.Goals as goal

pub returns-then-not-is_served : goal.returns-then-not-is_served
returns-then-not-is_served c =
    next_unserved c.args.servers.now c.args.queues.now c.loop-place.place c.index-queues-place.result _ _ c.loop-place-test.true c.index-queues-place.is c.loop-place.invariant
    (sym c.is_served.ensures ∙ c.if-not-is_served.true) c.refuse_indexed.ensures

pub loop-place-preserved : goal.loop-place-preserved
loop-place-preserved c =
    next_served c.args.servers.now c.args.queues.now c.loop-place.place c.index-queues-place.result _ c.loop-place-test.true c.index-queues-place.is c.loop-place.invariant
    (sym c.is_served.ensures ∙ c.if-not-is_served.false)

pub returns : goal.returns
returns c =
    all_served (map (λ (s : ServerSetup). s.queue) c.args.servers.now) c.args.queues.now c.loop-place.place _ c.loop-place-test.false c.loop-place.invariant
