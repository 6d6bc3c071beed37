use Rattle.std.proofs.Common.{◌≡◌, drop}
use Rattle.std.specs.List.{find}
use Rattle.std.specs.Str.{bytes_eq}
use Rattle.xa_types.specs.declared.setup.ServiceSetup.{ServiceSetup}
use Rattle.xa_types.specs.Setup.{service_named}
use Rattle.xa_route.proofs.rows.service_named.Given as goal

abbrev pub invariant-loop-service : goal.invariant-loop-service
invariant-loop-service l = find (λ (service : ServiceSetup). bytes_eq service.name l.name) (drop l.service-index l.services) ≡ service_named l.setup l.name
