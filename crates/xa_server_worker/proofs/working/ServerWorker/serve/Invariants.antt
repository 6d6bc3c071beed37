use Rattle.xa_server_worker.specs.Standing.{Goes, IsFree}
use Rattle.xa_server_worker.proofs.working.ServerWorker.serve.Given as goal

-- the life goes on, and waits for a request
abbrev pub invariant-loop : goal.invariant-loop
invariant-loop g l = record {
  goes : Goes l.monitor.domain.now l.fn.self l.self;
  free : IsFree l.monitor.domain.now g.T.Starter.shows l.life l.self;
}
