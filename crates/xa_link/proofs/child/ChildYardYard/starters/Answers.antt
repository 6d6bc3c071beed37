use Rattle.std.proofs.Common.{rules, ◌≡◌}
use Rattle.std.proofs.lemmas.List.Elements.{All-push}
use Rattle.xa_link.proofs.Starters.{one_more}
use Rattle.xa_link.proofs.child.ChildYardYard.starters.Goals as goal

pub loop-server-preserved : goal.loop-server-preserved
loop-server-preserved g c = record {
  each = search rules;
  names = one_more (λ s. s.server) c.slice-servers.result.now c.loop-server.all.items c.push_reserved.new.self.items c.loop-server.server-index c.server-item.result c.in-Ok-starter.starter c.loop-server-test.true c.server-item.is
      c.in-Ok-starter.ensures.name c.push_reserved.ensures.items c.loop-server.invariant.names;
  counts = rw c.push_reserved.ensures.items (All-push (λ s. s.faults ≡ 0) c.loop-server.all.items c.in-Ok-starter.starter c.loop-server.invariant.counts c.in-Ok-starter.ensures.count);
  room = search rules;
}
