use Rattle.std.proofs.Common.{◌<◌, ◌≤◌, sym, subst}
use Rattle.std.specs.List.{All}
use Rattle.xa_boot.proofs.Begun.{limits_fit}
use Rattle.xa_boot.proofs.founding.found.Goals as goal

pub new-requires-2-clause-each : goal.new-requires-2-clause-each
new-requires-2-clause-each c = subst (All (λ n. (0 < n) × (n ≤ 50))) (sym c.as_slice.ensures.value) (limits_fit c.args.clients c.in_ok-supplies.supplies.limits.items c.in_ok-supplies.ensures.limits)
