use Rattle.xa_desk.specs.xa_events.declared.event.Taken.{Taken}
use Rattle.xa_desk.specs.xa_pipe.declared.turn.Turn.TheVariants.{Serving}
use Rattle.xa_server_worker.specs.Standing.{Goes, IsServed}
use Rattle.xa_server_worker.proofs.working.ServerWorker.attend.Given as goal

-- the life goes on, and its service is to go on with its request
abbrev pub invariant-loop : goal.invariant-loop
invariant-loop g l = record {
  goes : Goes l.monitor.domain.now l.fn.self l.self;
  served : (t : Taken) × IsServed l.monitor.domain.now g.T.Starter.shows Serving t l.life l.self;
}
