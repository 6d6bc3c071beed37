use Rattle.std.proofs.Common.{◌≡◌, length, min, take}
use Rattle.std.specs.List.{sum_by}
use Rattle.xa_types.specs.declared.setup.ServiceSetup.{ServiceSetup}
use Rattle.xa_config.proofs.configuration.has_few_rows.Given as goal

abbrev pub invariant-loop-service : goal.invariant-loop-service
invariant-loop-service l = l.rows ≡ min 18446744073709551615 (sum_by (λ (service : ServiceSetup). length service.queues) (take l.service-index l.services))
