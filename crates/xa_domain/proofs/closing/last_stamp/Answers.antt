use Rattle.std.proofs.Common.{◌≡◌, ◌+◌, ◌∷◌, ◌++◌, [], ℕ, List, max, take, sym, ◌∙◌, ap, subst}
use Rattle.std.proofs.lemmas.List.{take_all, take_more}
use Rattle.xa_boot.specs.xa_types.declared.stamp.Stamp.{Stamp}
use Rattle.xa_boot.specs.xa_client_worker.declared.working.ClientWorker.{ClientWorker}
use Rattle.xa_boot.specs.xa_client_worker.declared.working.ClientWorker.TheVariants.{Left}
use Rattle.xa_domain.proofs.Leaving.{IsGreatest, none_by, greatest_more, behind_all}
use Rattle.xa_domain.proofs.closing.last_stamp.Goals as goal

pub loop-client-preserved : goal.loop-client-preserved
loop-client-preserved c =
    let ended = c.in-Left.ended in
    let front : List ClientWorker = take c.loop-client.client-index c.args.clients.now in
    let more : take (c.loop-client.client-index + 1) c.args.clients.now ≡ front ++ Left ended ∷ [] = take_more c.args.clients.now c.loop-client.client-index c.client-item.result c.loop-client-test.true ∙ ap (λ (x : ClientWorker). front ++ x ∷ []) (sym c.client-item.is ∙ c.in-Left.is) in
    let next : c.max.result ≡ max c.loop-client.last.0 ended.done.left.work.stamp.0 = c.max.ensures ∙ ap (λ (s : Stamp). max c.loop-client.last.0 s.0) c.stamp-stamp.ensures.value in
    subst (λ (l : List ClientWorker). IsGreatest c.args.seen l (record { 0 = c.max.result })) (sym {A = List ClientWorker} more)
    (subst (λ (n : ℕ). IsGreatest c.args.seen (front ++ Left ended ∷ []) (record { 0 = n })) (sym next)
    (greatest_more c.args.seen c.loop-client.last front ended (none_by ended.stopped c.if-is_none.ensures) c.stamp-stamp.ensures.bound c.loop-client.invariant))

pub returns : goal.returns
returns c = behind_all c.args.seen c.loop-client.last c.args.clients.now
    (subst (λ (l : List ClientWorker). IsGreatest c.args.seen l c.loop-client.last) (take_all c.loop-client.client-index c.args.clients.now c.loop-client-test.false) c.loop-client.invariant)
