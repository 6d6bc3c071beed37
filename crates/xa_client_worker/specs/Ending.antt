-- What a client's worker leaves behind (this project's own).
use Rattle.std.specs.Prelude.{◌≡◌, ℕ, List, Option, Some, None, IfSome}
use Rattle.std.specs.List.{Contains}
use Rattle.xa_desk.specs.xa_types.declared.call.Op.{Op}
use Rattle.xa_desk.specs.xa_types.declared.stamp.Stamp.{Stamp}
use Rattle.xa_desk.specs.xa_events.declared.event.Event.TheVariants.{Leave}
use Rattle.xa_desk.specs.xa_events.Caller.{last_op}
use Rattle.xa_desk.specs.xa_worker.declared.work.Halt.{Halt}
use Rattle.xa_desk.specs.xa_worker.Work.{theirs}
use Rattle.xa_desk.specs.xa_caller.declared.phase.Phase.TheVariants.{Idle}
use Rattle.xa_desk.specs.declared.domain.Domain.{Domain}
use Rattle.xa_desk.specs.declared.desk.Desk.{Desk}
use Rattle.xa_desk.specs.declared.stopped.Stopped.{Stopped}
use Rattle.xa_desk.specs.declared.stopped.Stopped.TheVariants.{Here, Elsewhere}
use Rattle.xa_desk.specs.Desks.{IsDesk, Leads, FitsCalls}
use Rattle.xa_desk.specs.Halting.{IsStopAt}
use Rattle.xa_desk.specs.Parting.{IsLeft, FitsStill}
use Rattle.xa_calls.specs.Going.{IsOut, IsSame}
use Rattle.xa_client_worker.specs.Going.{IsReady}
use Rattle.xa_client_worker.specs.declared.working.Ended.{Ended}
use Rattle.xa_client_worker.specs.declared.working.ClientWorker.{ClientWorker}
use Rattle.xa_client_worker.specs.declared.working.ClientWorker.TheVariants as workers

-- each event of a call that the worker noted is one of these calls still
abbrev pub FitsBy : Domain → List Op → Desk → Desk → Type 0
FitsBy d ops old new = FitsCalls d ops old → FitsCalls d ops new

-- the worker went on by these calls
pub record GoesThrough (d : Domain) (ops : List Op) (old new : Desk) : Type 0 where
  pub leads : Leads d old new
  pub fits : FitsBy d ops old new
  pub same : IsSame old new

-- so many calls were made, none is under way, and the client has left, which came last
pub record HasMade (made : ℕ) (desk : Desk) : Type 0 where
  pub last : last_op desk.caller.work.id.0 (theirs desk.caller.work) ≡ made
  pub idle : desk.caller.phase ≡ Idle
  pub left : Contains desk.caller.work.own (record { stamp = desk.caller.work.stamp; event = Leave desk.caller.work.id })

-- what the worker leaves behind is what a desk has left to which the old one led; where it didn't stop before, all of its calls were made
pub record HasEnded (d : Domain) (Fits : Desk → Desk → Type 0) (made : ℕ) (old : Desk) (result : Ended) : Type 0 where
  pub ended : Desk
  pub left : IsLeft result.done ended
  pub leads : Leads d old ended
  pub fits : Fits old ended
  pub same : IsSame old ended
  pub all : result.stopped ≡ None → HasMade made ended
  pub halts : IfSome result.stopped (IsStopAt ended)

-- why it stopped, where its caller came to a halt as it left
abbrev pub here_by : Option Halt → Option Stopped
here_by None = None
here_by (Some halt) = Some (Here halt)

-- it stopped there, and noted nothing more
pub record HasStopped (stopped : Stopped) (old : Desk) (result : Ended) : Type 0 where
  pub why : result.stopped ≡ Some stopped
  pub work : result.done.left.work ≡ old.caller.work

-- ---- the worker

abbrev pub MayWork : Domain → ClientWorker → Type 0
MayWork d (workers.Ready desk) = IsReady d 0 desk
MayWork d worker = ⊥

abbrev pub HasWorked : Domain → List Op → ℕ → ClientWorker → ClientWorker → Type 0
HasWorked d ops made (workers.Ready desk) (workers.Left ended) = HasEnded d (FitsBy d ops) made desk ended
HasWorked d ops made worker other = ⊥

abbrev pub MayEnd : Domain → ClientWorker → Type 0
MayEnd d (workers.Ready desk) = IsDesk d desk × IsOut desk
MayEnd d (workers.Left ended) = Unit {0}
MayEnd d workers.Working = ⊥

abbrev pub EndsAs : Domain → ClientWorker → Ended → Type 0
EndsAs d (workers.Ready desk) result = HasEnded d (FitsStill d) desk.caller.op desk result × HasStopped Elsewhere desk result
EndsAs d (workers.Left ended) result = result ≡ ended
EndsAs d workers.Working result = ⊥

abbrev pub IsStampOf : ClientWorker → Stamp → Type 0
IsStampOf (workers.Left ended) stamp = stamp ≡ ended.done.left.work.stamp
IsStampOf worker stamp = ⊥

abbrev pub IsBehind : ClientWorker → Type 0
IsBehind (workers.Left ended) = Unit {0}
IsBehind worker = ⊥
