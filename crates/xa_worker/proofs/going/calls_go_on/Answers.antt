use Rattle.std.specs.Prelude.{◌≡◌, true, List}
use Rattle.xa_events.specs.declared.event.Event.{Event}
use Rattle.xa_events.specs.Caller.{is_call_of}
use Rattle.xa_events.specs.Local.{worker_events}
use Rattle.xa_stamp.specs.declared.home.Stamped.{Stamped}
use Rattle.xa_worker.specs.Calls.{FitsTurn}
use Rattle.xa_worker.proofs.Noting.{each-more}
use Rattle.xa_worker.proofs.going.calls_go_on.Goals as goal

pub returns : goal.returns
returns c setup clients entries caller ops own x each fits =
    each-more (λ (y : Stamped) (past : List Event). is_call_of caller y.event ≡ true → FitsTurn setup clients entries y.stamp caller ops y.event (worker_events clients caller past)) own x each fits
