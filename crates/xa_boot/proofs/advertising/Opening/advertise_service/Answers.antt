use Rattle.std.proofs.Common.{◌≡◌, ◌+◌, ◌<◌, ℕ, true, List, ◌++◌, length, drop, sym, subst, arith}
use Rattle.std.specs.List.{All}
use Rattle.xa_client_worker.specs.xa_types.Configured.{is_among, queue_names}
use Rattle.xa_boot.specs.Opening.{Remain, puts}
use Rattle.xa_boot.proofs.Settings.{placed}
use Rattle.xa_boot.proofs.Noting.{drop_all, first_put}
use Rattle.xa_boot.proofs.advertising.Opening.advertise_service.Goals as goal

pub advertise-requires : goal.advertise-requires
advertise-requires c =
    let setup = c.args.setup.now in
    let names : List (List ℕ) = c.slice-names.result.now in
    let rest = c.requires.next.0 in
    let known : All (λ name. is_among (queue_names setup) name ≡ true) names = subst (All (λ name. is_among (queue_names setup) name ≡ true)) (sym c.slice-names.ensures) c.requires.known in
    let here : is_among (queue_names setup) c.name-item.result ≡ true = subst (λ name. is_among (queue_names setup) name ≡ true) (sym c.name-item.is) (known c.loop-name.name-index c.name-item.result c.loop-name-test.true) in
    record {
      configured = c.requires.configured;
      placed = subst (λ n. (0 < n) × (n < length setup.queues + 1)) (sym c.queue_named.ensures) (placed setup c.name-item.result here);
      next = (
        puts setup c.args.service.now (drop (c.loop-name.name-index + 1) names) ++ rest,
        first_put setup c.args.service.now names c.loop-name.name-index c.name-item.result c.queue_named.result.0 rest c.loop-name.self c.loop-name-test.true c.name-item.is c.queue_named.ensures (c.loop-name.invariant rest c.requires.next.1),
      );
    }

pub loop-name-init : goal.loop-name-init
loop-name-init c = λ rest is. subst (λ names. Remain c.args.setup.now (puts c.args.setup.now c.args.service.now names ++ rest) c.args.self.now) (sym c.slice-names.ensures) is

pub loop-name-preserved : goal.loop-name-preserved
loop-name-preserved c = λ rest is.
    let names : List (List ℕ) = c.slice-names.result.now in
    c.in_ok-advertise.ensures (puts c.args.setup.now c.args.service.now (drop (c.loop-name.name-index + 1) names) ++ rest)
    (first_put c.args.setup.now c.args.service.now names c.loop-name.name-index c.name-item.result c.queue_named.result.0 rest c.loop-name.self c.loop-name-test.true c.name-item.is c.queue_named.ensures (c.loop-name.invariant rest is))

pub returns : goal.returns
returns c = λ rest is.
    let names : List (List ℕ) = c.slice-names.result.now in
    subst (λ left. Remain c.args.setup.now (puts c.args.setup.now c.args.service.now left ++ rest) c.loop-name.self) (drop_all c.loop-name.name-index names (omega arith)) (c.loop-name.invariant rest is)
