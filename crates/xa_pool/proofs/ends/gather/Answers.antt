use Rattle.std.proofs.Common.{◌∷◌, [], Some, length, length-append, arith, ap, ◌∙◌}
use Rattle.std.proofs.lemmas.List.Elements.{All-pop}
use Rattle.xa_gauge.specs.Known.{IsPassOf as IsGaugePassOf}
use Rattle.xa_pool.specs.declared.pool.BlockPass.{BlockPass}
use Rattle.xa_pool.specs.Known.{taken, given}
use Rattle.xa_pool.proofs.Sums.{taken_last, given_last}
use Rattle.xa_pool.proofs.ends.gather.Goals as goal

pub loop-next-init : goal.loop-next-init
loop-next-init c = let p = c.in-Some.last in let items = c.in-Some.ensures.items in let rest = c.pop.new.self.items in let one = p.one in
    let tables = All-pop (λ (q : BlockPass). IsGaugePassOf c.args.home.now q.pass) _ _ (Some p) items c.requires.table in
    let count = ap length items ∙ length-append rest (p ∷ []) in let downs = ap taken items ∙ taken_last rest p in let ups = ap given items ∙ given_last rest p in record {
      pass = tables.1;
      parts = omega (arith, one, count);
      downs = omega (arith, downs);
      ups = omega (arith, ups);
      tables = tables.0;
    }

pub loop-next-preserved : goal.loop-next-preserved
loop-next-preserved c = let i = c.loop-next.invariant in let p = c.in-Some-pop.next in let items = c.in-Some-pop.ensures.items in let rest = c.pop-in-loop-next.new.self.items in let one = p.one in let now = c.absorb.ensures.known in
    let tables = All-pop (λ (q : BlockPass). IsGaugePassOf c.args.home.now q.pass) _ _ (Some p) items i.tables in
    let count = ap length items ∙ length-append rest (p ∷ []) in let downs = ap taken items ∙ taken_last rest p in let ups = ap given items ∙ given_last rest p in
    let parts_now = ap (λ v. v.parts) now in let downs_now = ap (λ v. v.downs) now in let ups_now = ap (λ v. v.ups) now in
    let parts_were = i.parts in let downs_were = i.downs in let ups_were = i.ups in record {
      pass = c.absorb.ensures.pass;
      parts = omega (arith, one, count, parts_now, parts_were);
      downs = omega (arith, downs, downs_now, downs_were);
      ups = omega (arith, ups, ups_now, ups_were);
      tables = tables.0;
    }
