use Rattle.xa_desk.specs.Serving.{IsFallen}
use Rattle.xa_server_worker.specs.Behind.{TellsLast}
use Rattle.xa_server_worker.specs.Steps.{OfDomainAt}
use Rattle.xa_server_worker.proofs.retiring.sweep.Given as goal

-- each that was swept so far was told
abbrev pub invariant-loop : goal.invariant-loop
invariant-loop g l = record {
  goes : OfDomainAt l.monitor.domain.now l.fn.desk l.desk;
  fallen : IsFallen l.monitor.domain.now l.queue.0 l.desk;
  told : TellsLast l.fn.desk → TellsLast l.desk;
}
