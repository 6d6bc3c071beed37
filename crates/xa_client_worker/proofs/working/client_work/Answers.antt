use Rattle.std.proofs.Common.{length}
use Rattle.xa_client_worker.proofs.Ending.{ended_through}
use Rattle.xa_client_worker.proofs.working.client_work.Goals as goal

pub returns : goal.returns
returns g c = record {
  ended = ended_through c.args.monitor.now.domain.now c.perform_all-made.new.desk c.args.desk c.args.ops.now (length c.args.ops.now) c.perform_all-made.result c.leave-ended.result c.perform_all-made.ensures.goes c.perform_all-made.ensures.made c.leave-ended.ensures.stopped c.leave-ended.ensures.ended;
}
