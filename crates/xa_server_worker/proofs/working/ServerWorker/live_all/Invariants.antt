use Rattle.xa_server_worker.specs.Standing.{Goes, MayGoOn}
use Rattle.xa_server_worker.proofs.working.ServerWorker.live_all.Given as goal

-- the server is off, and may be started at that tick
abbrev pub invariant-loop : goal.invariant-loop
invariant-loop g l = record {
  goes : Goes l.monitor.domain.now l.fn.self l.self;
  off : MayGoOn l.monitor.domain.now g.T.Starter.shows l.tick l.self;
}
