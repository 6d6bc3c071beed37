use Rattle.xa_events.specs.State.{opening}
use Rattle.xa_events.proofs.Stages.{along}
use Rattle.xa_events.proofs.LastEntry.{IsKnown, known_none, known_more}
use Rattle.xa_events.proofs.Localities.{entries_tell}
use Rattle.xa_events.proofs.laws.last_entry_tells.Goals as goal

pub returns : goal.returns
returns c setup clients events new run = entries_tell new (along IsKnown known_more events (opening setup clients) new (known_none setup clients) run)
