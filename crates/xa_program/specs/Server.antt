-- What a run of `server` comes to.
use Rattle.std.specs.Prelude.{ℕ, ◌≡◌, List, Result, Ok, Err}
use Rattle.xa_child.specs.declared.working.WorkRefused.{WorkRefused}
use Rattle.xa_child.specs.declared.working.WorkRefused.TheVariants as refusals
use Rattle.xa_child.specs.Work.{Worked, Counts}
use Rattle.xa_program.specs.declared.status.Status.{Status}
use Rattle.xa_program.specs.declared.status.Status.TheVariants as statuses
use Rattle.xa_program.specs.Headline.{Streams}

-- the status that stands for how the work of a server's program ended
abbrev pub status_of : Result (Unit {0}) WorkRefused → Status
status_of (Ok x) = statuses.Done
status_of (Err refusals.ReadFault) = statuses.ScriptRead
status_of (Err refusals.WriteFault) = statuses.WriteFault
status_of (Err (refusals.BadFrame place)) = statuses.BadFrame place
status_of (Err refusals.NoMemory) = statuses.NoMemory

-- the status stands for how the work of the server's program ended, and that work read, wrote and counted what the streams show
pub record ServerEnds (name : List ℕ) (streams : Streams) (status : Status) : Type 0 where
  pub result : Result (Unit {0}) WorkRefused
  pub stands : status ≡ status_of result
  pub worked : Worked name streams.input.left streams.input.left_after streams.input.gave streams.input.gave_after streams.took_before streams.took_after result
  pub counts : Counts result streams.reads_before streams.reads_after streams.writes_before streams.writes_after
