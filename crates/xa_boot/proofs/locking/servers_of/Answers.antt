use Rattle.std.proofs.Common.{◌≡◌, ◌+◌, ◌++◌, ℕ, List, [], ◌∷◌, length, drop, refl, sym, ◌∙◌, ap, subst, arith, append-nil, length-append, vec_capacity}
use Rattle.xa_client_worker.specs.xa_types.declared.ids.ServerId.{ServerId}
use Rattle.xa_client_worker.specs.xa_types.declared.setup.ServerSetup.{ServerSetup}
use Rattle.xa_client_worker.specs.xa_held.Joins.{HasServers}
use Rattle.xa_boot.specs.Locking.{servers_at}
use Rattle.xa_boot.proofs.Noting.{drop_all}
use Rattle.xa_boot.proofs.Settings.{good}
use Rattle.xa_boot.proofs.Serving.{has_servers, taken, passed_over}
use Rattle.xa_boot.proofs.locking.servers_of.Goals as goal
use Rattle.xa_boot.proofs.locking.servers_of.Goals.{then-queue_named-queue, else-queue_named-queue}

pub overflow_add-number : goal.overflow_add-number
overflow_add-number c =
    let few = (good c.args.setup.now c.requires.configured).few_servers in
    let all = ap length c.slice-all.ensures in
    let number = c.loop-server.invariant.number in
    omega (arith, few, all, number)

pub loop-server-preserved : goal.loop-server-preserved
loop-server-preserved c =
    let setup = c.args.setup.now in
    let queue : ℕ = c.args.queue.0 in
    let servers : List ServerSetup = c.slice-all.result.now in
    let own : List ServerId = c.loop-server.servers.items in
    let i = c.loop-server.server-index in
    let inv = c.loop-server.invariant in
    let count = inv.number in
    let most = inv.few in
    let named = c.queue_named.ensures in
    let rest = servers_at setup queue (i + 1 + 1) (drop (i + 1) servers) in
    let all = servers_at setup queue 1 servers in
    elim c.if-queue_named-queue.branch [
      | then-queue_named-queue w ↦
          let now : c.if-queue_named-queue.servers.items ≡ own ++ (record { 0 = i + 1 }) ∷ [] = ap (λ v. v.items) w.servers-is ∙ w.push_reserved.ensures.items ∙ ap (λ n. own ++ (record { 0 = n + 1 }) ∷ []) count in
          let more = ap length now in
          let longer = length-append {A = ServerId} own ((record { 0 = i + 1 }) ∷ []) in
          record {
            number = ap (λ n. n + 1) count;
            items = ap (λ (l : List ServerId). l ++ rest) now ∙ taken setup queue c.requires.some own servers all i c.server-item.result c.loop-server-test.true c.server-item.is inv.items (sym named ∙ w.if-queue_named-queue.true);
            few = omega (arith, more, longer, most);
            room = ap vec_capacity w.servers-is ∙ w.push_reserved.ensures.capacity ∙ inv.room;
          }
      | else-queue_named-queue w ↦
          let now : c.if-queue_named-queue.servers.items ≡ own = ap (λ v. v.items) w.servers-is in
          let same = ap length now in
          record {
            number = ap (λ n. n + 1) count;
            items = ap (λ (l : List ServerId). l ++ rest) now ∙ passed_over setup queue c.requires.some own servers all i c.server-item.result c.loop-server-test.true c.server-item.is inv.items (λ is. w.if-queue_named-queue.false (named ∙ is));
            few = omega (arith, same, most);
            room = ap vec_capacity w.servers-is ∙ inv.room;
          }
    ]

pub loop-server-init : goal.loop-server-init
loop-server-init c =
    let none = c.in_ok-servers.ensures.items in
    record {
      number = refl;
      items = ap (λ (l : List ServerId). l ++ servers_at c.args.setup.now c.args.queue.0 1 c.slice-all.result.now) none;
      few = omega (arith, ap length none);
      room = c.in_ok-servers.ensures.exact;
    }

pub returns : goal.returns
returns c =
    let servers : List ServerSetup = c.slice-all.result.now in
    let setup = c.args.setup.now in
    let few = (good setup c.requires.configured).few_servers in
    let all = ap length c.slice-all.ensures in
    let inv = c.loop-server.invariant in
    let most = inv.few in
    let items : c.loop-server.servers.items ≡ servers_at setup c.args.queue.0 1 setup.servers =
    sym (append-nil c.loop-server.servers.items) ∙ ap (λ left. c.loop-server.servers.items ++ servers_at setup c.args.queue.0 (c.loop-server.server-index + 1) left) (sym (drop_all c.loop-server.server-index servers (omega arith)))
    ∙ inv.items ∙ ap (servers_at setup c.args.queue.0 1) c.slice-all.ensures in
    record { few = omega (arith, few, all, most); has = subst (HasServers setup c.args.queue.0) (sym items) (has_servers setup c.args.queue.0 c.requires.some) }
