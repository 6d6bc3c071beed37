use Rattle.std.proofs.Common.{Ok, Err, subst}
use Rattle.xa_desk.proofs.Stopping.{same_leads}
use Rattle.xa_server_worker.specs.Steps.{LooksFrom}
use Rattle.xa_server_worker.proofs.Stepping.{waits_none, waits_trans, waits_next}
use Rattle.xa_server_worker.proofs.taking.next.Goals as goal

pub loop-init : goal.loop-init
loop-init g c = record { waits = waits_none (same_leads c.args.monitor.now.domain.now c.args.desk.now c.requires.desk) c.requires.serving }

pub loop-preserved : goal.loop-preserved
loop-preserved g c = record { waits = waits_trans c.loop.invariant.waits (subst (λ o. LooksFrom c.args.monitor.now.domain.now c.args.queue.0 (Ok o) c.loop.slot c.look.new.slot c.loop.desk c.look.new.desk) c.in-Ok-None.field-0-is c.in-Ok-None.ensures).0 }

pub returns-in-Ok-Some : goal.returns-in-Ok-Some
returns-in-Ok-Some g c = waits_next c.look.new.slot c.look.new.desk (Ok c.in-Ok-Some.took) c.loop.invariant.waits (subst (λ o. LooksFrom c.args.monitor.now.domain.now c.args.queue.0 (Ok o) c.loop.slot c.look.new.slot c.loop.desk c.look.new.desk) c.in-Ok-Some.field-0-is c.in-Ok-Some.ensures)

pub returns-in-Err : goal.returns-in-Err
returns-in-Err g c = waits_next c.look.new.slot c.look.new.desk (Err c.in-Err.stopped) c.loop.invariant.waits c.in-Err.ensures
