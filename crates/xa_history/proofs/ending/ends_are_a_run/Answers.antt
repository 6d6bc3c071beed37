use Rattle.xa_history.proofs.Merged.{merged_run, merged_made}
use Rattle.xa_history.proofs.ending.ends_are_a_run.Goals as goal

pub returns : goal.returns
returns c = record { run = merged_run; made = merged_made }
