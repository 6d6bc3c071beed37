use Rattle.std.proofs.Common.{◌≡◌, true, List}
use Rattle.xa_events.specs.declared.event.Event.{Event}
use Rattle.xa_events.specs.Clock.{is_shown}
use Rattle.xa_events.specs.Cases.{WereShown}
use Rattle.xa_ticks.proofs.Showing.{read_shown, ticked_shown, ticked_behind, seen_grows, ticked_grows, shown_after, read_least, clock_stands}
use Rattle.xa_ticks.proofs.laws.a_shown_tick_stands.Goals as goal

pub returns-clause-read : goal.returns-clause-read
returns-clause-read c = read_shown

pub returns-clause-ticked : goal.returns-clause-ticked
returns-clause-ticked c = ticked_shown

pub returns-clause-grows : goal.returns-clause-grows
returns-clause-grows c = λ p p' tick v. seen_grows p p' _ _ v

pub returns-clause-onward : goal.returns-clause-onward
returns-clause-onward c = ticked_grows

pub returns-clause-stays : goal.returns-clause-stays
returns-clause-stays c = shown_after

pub returns-clause-least : goal.returns-clause-least
returns-clause-least c = read_least

pub returns-clause-stands : goal.returns-clause-stands
returns-clause-stands c = λ p last stamp now tick reach later starts shown. clock_stands p last stamp now (λ (past : List Event). is_shown tick past ≡ true) reach later starts shown

pub returns-clause-due : goal.returns-clause-due
returns-clause-due c = λ setup p last stamp now tick deadline reach later starts shown began. clock_stands p last stamp now (WereShown setup tick deadline) reach later starts (shown, began)

pub returns-clause-behind : goal.returns-clause-behind
returns-clause-behind c = λ p p' seen by op n moment now v starts. ticked_behind p p' seen by op n moment v now starts
