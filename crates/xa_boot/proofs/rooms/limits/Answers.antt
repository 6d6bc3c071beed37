use Rattle.std.proofs.Common.{◌≡◌, ◌+◌, [], ◌∷◌, length, ◌∙◌, sym, ap, subst, arith, length-append}
use Rattle.xa_client_worker.specs.xa_events.Words.{EachNumbered}
use Rattle.xa_boot.specs.Supplies.{limit_of}
use Rattle.xa_boot.proofs.Numbered.{numbered-push}
use Rattle.xa_boot.proofs.rooms.limits.Goals as goal

pub loop-worker-preserved : goal.loop-worker-preserved
loop-worker-preserved c =
    let own = c.loop-worker.invariant.count in
    let place : c.loop-worker.worker ≡ 0 + length c.loop-worker.limits.items = omega (arith, own) in
    let more = length-append c.loop-worker.limits.items (c.limit_of.result ∷ []) in
    let now = ap length c.push_reserved.ensures.items in
    record {
      each = subst (EachNumbered (λ worker limit. limit ≡ limit_of c.args.clients worker) 0) (sym c.push_reserved.ensures.items) (numbered-push (λ worker limit. limit ≡ limit_of c.args.clients worker) 0 c.loop-worker.limits.items c.limit_of.result c.loop-worker.invariant.each (c.limit_of.ensures ∙ ap (limit_of c.args.clients) place));
      count = omega (arith, now, more, own);
      room = c.push_reserved.ensures.capacity ∙ c.loop-worker.invariant.room;
    }
