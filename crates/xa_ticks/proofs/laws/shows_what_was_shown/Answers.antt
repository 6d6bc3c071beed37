use Rattle.xa_ticks.proofs.Ticking.{shown_now, now_grows}
use Rattle.xa_ticks.proofs.laws.shows_what_was_shown.Goals as goal

pub returns-clause-shown : goal.returns-clause-shown
returns-clause-shown c = shown_now

pub returns-clause-onward : goal.returns-clause-onward
returns-clause-onward c = now_grows
