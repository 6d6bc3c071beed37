-- A call gives up at a tick that the clock had shown, and not before its deadline.
use Rattle.std.proofs.Common.{◌≡◌, ℕ, ◌≤◌, List, true}
use Rattle.xa_types.specs.declared.setup.Setup.{Setup}
use Rattle.xa_types.specs.declared.fault.Fault.{Fault}
use Rattle.xa_types.specs.declared.fault.Fault.TheVariants.{Time}
use Rattle.xa_events.specs.declared.event.Event.{Event}
use Rattle.xa_events.specs.declared.event.Event.TheVariants.{Lapse, Refuse}
use Rattle.xa_events.specs.declared.event.Evidence.{Evidence}
use Rattle.xa_events.specs.declared.event.Evidence.TheVariants.{Deadline}
use Rattle.xa_events.specs.State.{State}
use Rattle.xa_events.specs.Clock.{is_shown}
use Rattle.xa_events.specs.Cases.{Case, ShowsItself, WasSeen}
use Rattle.xa_events.specs.Laws.{GaveUpAt, IsTimely}

gave_up : (now deadline : ℕ) (past : List Event) → deadline ≤ now → is_shown now past ≡ true → GaveUpAt now deadline past
unfolding is_shown
gave_up now deadline past due shown = (due, shown)

refused_at : (setup : Setup) (clients caller : ℕ) (past : List Event) (fault : Fault) (evidence : Evidence) → ShowsItself setup clients caller fault evidence past → WasSeen setup clients caller evidence past
    → (now deadline : ℕ) → evidence ≡ Deadline now deadline → GaveUpAt now deadline past
refused_at setup clients caller past Time (Deadline tick limit) shows seen now deadline is =
    let same : tick ≡ now = cc is in
    let same_limit : limit ≡ deadline = cc is in
    rw (← same, ← same_limit) (gave_up tick limit past shows.due seen.0)
refused_at setup clients caller past _ (Deadline tick limit) shows seen now deadline is = absurd shows
refused_at setup clients caller past _ _ shows seen now deadline is = absurd (cc is)

pub time_law : (s : State) (e : Event) → Case s e → IsTimely e s.past
time_law s (Lapse l) case = gave_up l.now l.deadline s.past case.worker.due.due case.before.named.0
time_law s (Refuse r) case = refused_at s.setup s.clients r.by.0 s.past r.fault r.evidence case.worker.shows case.before.named.seen
time_law s _ case = tt
