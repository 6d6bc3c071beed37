use Rattle.std.specs.Prelude.{List}
use Rattle.xa_events.specs.declared.event.Event.{Event}
use Rattle.xa_events.specs.Local.{worker_events}
use Rattle.xa_stamp.specs.declared.home.Stamped.{Stamped}
use Rattle.xa_worker.specs.Seen.{WasTold}
use Rattle.xa_worker.proofs.Noting.{each-more}
use Rattle.xa_worker.proofs.going.told_goes_on.Goals as goal

pub returns : goal.returns
returns c setup clients entries worker own x each told = each-more (λ (y : Stamped) (past : List Event). WasTold setup clients entries y.stamp (worker_events clients worker past) y.event) own x each told
