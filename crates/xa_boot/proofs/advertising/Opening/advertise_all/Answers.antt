use Rattle.std.proofs.Common.{◌≡◌, ◌+◌, true, List, drop, sym, subst, arith}
use Rattle.std.specs.List.{All, flat_map}
use Rattle.xa_client_worker.specs.xa_types.declared.setup.ServiceSetup.{ServiceSetup}
use Rattle.xa_client_worker.specs.xa_types.Configured.{is_among, queue_names}
use Rattle.xa_client_worker.specs.xa_types.Rows.{changes_of}
use Rattle.xa_boot.specs.Opening.{Remain}
use Rattle.xa_boot.proofs.Settings.{good}
use Rattle.xa_boot.proofs.Noting.{drop_all, first_service}
use Rattle.xa_boot.proofs.advertising.Opening.advertise_all.Goals as goal

pub advertise_service-requires : goal.advertise_service-requires
advertise_service-requires c =
    let setup = c.args.setup.now in
    let services : List ServiceSetup = c.slice-services.result.now in
    let Known : ServiceSetup → Type 0 = λ service. All (λ name. is_among (queue_names setup) name ≡ true) service.queues in
    let known : All Known services = subst (All Known) (sym c.slice-services.ensures) (good setup c.requires.configured).services in
    record {
      configured = c.requires.configured;
      known = subst Known (sym c.service-item.is) (known c.loop-service.service-index c.service-item.result c.loop-service-test.true);
      next = (flat_map (changes_of setup) (drop (c.loop-service.service-index + 1) services), first_service setup services c.loop-service.service-index c.service-item.result c.loop-service.self c.loop-service-test.true c.service-item.is c.loop-service.invariant);
    }

pub loop-service-init : goal.loop-service-init
loop-service-init c = subst (λ services. Remain c.args.setup.now (flat_map (changes_of c.args.setup.now) services) c.args.self.now) (sym c.slice-services.ensures) c.requires.none

pub loop-service-preserved : goal.loop-service-preserved
loop-service-preserved c =
    let services : List ServiceSetup = c.slice-services.result.now in
    c.in_ok-advertise_service.ensures (flat_map (changes_of c.args.setup.now) (drop (c.loop-service.service-index + 1) services))
    (first_service c.args.setup.now services c.loop-service.service-index c.service-item.result c.loop-service.self c.loop-service-test.true c.service-item.is c.loop-service.invariant)

pub returns : goal.returns
returns c =
    let services : List ServiceSetup = c.slice-services.result.now in
    subst (λ left. Remain c.args.setup.now (flat_map (changes_of c.args.setup.now) left) c.loop-service.self) (drop_all c.loop-service.service-index services (omega arith)) c.loop-service.invariant
