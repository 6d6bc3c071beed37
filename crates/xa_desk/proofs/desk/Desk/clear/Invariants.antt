use Rattle.std.proofs.Common.{◌≡◌}
use Rattle.xa_server.specs.Told.{HasStamp}
use Rattle.xa_desk.specs.Desks.{Leads}
use Rattle.xa_desk.specs.Serving.{IsDeserted, OfDomain}
use Rattle.xa_desk.proofs.desk.Desk.clear.Given as goal

-- so far rows of the queue were withdrawn
abbrev pub invariant-loop : goal.invariant-loop
invariant-loop g l = record {
  leads : Leads l.domain l.fn.self l.self;
  deserted : IsDeserted l.domain l.queue.0 l.self;
  noted : OfDomain l.fn.self l.self;
  same : (l.self.queues ≡ l.fn.self.queues) × (l.self.reader ≡ l.fn.self.reader);
  latest : HasStamp l.self.caller.work.own l.self.caller.work.stamp;
}
