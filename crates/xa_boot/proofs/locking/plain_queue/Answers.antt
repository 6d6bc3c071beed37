use Rattle.std.proofs.Common.{◌≡◌, ◌≤◌, ◌∙◌, List, length, get_or, ◌+◌, sym, ap, ap₂, subst, arith}
use Rattle.std.specs.List.{All}
use Rattle.std.proofs.lemmas.Result.{IfOk-weaker}
use Rattle.xa_client_worker.specs.xa_types.declared.setup.QueueSetup.{QueueSetup}
use Rattle.xa_client_worker.specs.xa_types.declared.ids.ServerId.{ServerId}
use Rattle.xa_client_worker.specs.xa_types.Setup.{capacity_of}
use Rattle.xa_client_worker.specs.xa_queue.Changes.{opened}
use Rattle.xa_boot.specs.Locking.{IsPlain}
use Rattle.xa_boot.proofs.Settings.{good}
use Rattle.xa_boot.proofs.Locks.{capacity-at}
use Rattle.xa_boot.proofs.locking.plain_queue.Goals as goal

pub new-requires-clause-capacity : goal.new-requires-clause-capacity
new-requires-clause-capacity c =
    let fits : QueueSetup → Type 0 = λ queue. (1 ≤ queue.capacity) × (queue.capacity ≤ 10000) in
    let all : All fits c.slice.result.now = subst (All fits) (sym c.slice.ensures) (good c.args.setup.now c.requires.configured).capacities in
    let count = ap length c.slice.ensures in
    let place = c.from.ensures in
    let asked = c.requires.place in
    all c.from.result c.index-slice-from.result (omega (arith, count, place, asked))

pub returns : goal.returns
returns c =
    let queue : QueueSetup = c.index-slice-from.result in
    let is : queue ≡ get_or c.args.setup.now.queues c.args.place queue = c.index-slice-from.is ∙ ap (λ l. get_or l c.from.result queue) c.slice.ensures ∙ ap (λ n. get_or c.args.setup.now.queues n queue) c.from.ensures in
    let asked = c.requires.place in
    let capacity : (get_or c.slice.result.now c.from.result queue).capacity ≡ capacity_of c.args.setup.now (c.args.place + 1) = ap (λ (q : QueueSetup). q.capacity) (sym c.index-slice-from.is) ∙ sym (capacity-at c.args.setup.now c.args.place queue asked is) in
    IfOk-weaker c.new.result _ (IsPlain c.args.setup.now c.args.first c.args.place) (λ made same. record {
      servers = c.in_ok-servers.servers.items;
      is = same ∙ ap₂ (λ n (servers : List ServerId). opened (record { 0 = c.args.place + 1 }) n servers c.args.first) capacity c.as_slice.ensures.value;
      has = c.in_ok-servers.ensures.has;
    }) c.new.ensures
