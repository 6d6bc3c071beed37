-- What the events of a call rest on (this project's own).
use Rattle.std.specs.Prelude.{◌≡◌, ℕ, List, ◌++◌, length, Option, Some, None, IfSome}
use Rattle.std.specs.List.{All}
use Rattle.xa_desk.specs.xa_types.declared.ids.QueueId.{QueueId}
use Rattle.xa_desk.specs.xa_events.declared.event.Event.{Event}
use Rattle.xa_desk.specs.xa_events.declared.event.Event.TheVariants.{Accept, Refuse}
use Rattle.xa_desk.specs.xa_events.declared.event.Evidence.{Evidence}
use Rattle.xa_desk.specs.xa_events.declared.event.Evidence.TheVariants.{Queue}
use Rattle.xa_desk.specs.xa_events.Caller.{version_in}
use Rattle.xa_desk.specs.xa_events.Queue.{waiting}
use Rattle.xa_desk.specs.xa_stamp.declared.home.Stamped.{Stamped}
use Rattle.xa_desk.specs.declared.domain.Domain.{Domain}
use Rattle.xa_desk.specs.declared.desk.Desk.{Desk}
use Rattle.xa_desk.specs.Looks.{SawQueueSince}

-- the version of the board that an event of a call names, if it names one
abbrev pub version_named : Event → Option ℕ
version_named (Accept a) = Some a.version
version_named (Refuse r) = version_in r.evidence
version_named e = None

-- the queue that was full, and how many waited there, if that is the evidence
abbrev pub full_shown : Evidence → Option (QueueId × ℕ)
full_shown (Queue queue n) = Some (queue, n)
full_shown evidence = None

abbrev pub full_named : Event → Option (QueueId × ℕ)
full_named (Refuse r) = full_shown r.evidence
full_named e = None

-- so many waited at the queue, as the desk's pass saw it since the old desk
abbrev pub SawFull : Domain → Desk → Desk → QueueId × ℕ → Type 0
SawFull d old new one = SawQueueSince d one.0.0 old new (λ past. length (waiting d.setup one.0.0 past) ≡ one.1)

-- the version that an event names was shown, and the queue that it names was full
abbrev pub RestsOn : (ℕ → Type 0) → (QueueId × ℕ → Type 0) → Event → Type 0
RestsOn Shown Full e = IfSome (version_named e) Shown × IfSome (full_named e) Full

-- what a worker noted behind these entries rests so
pub record NotedOn (Shown : ℕ → Type 0) (Full : QueueId × ℕ → Type 0) (old new : List Stamped) : Type 0 where
  pub more : List Stamped
  pub own : new ≡ old ++ more
  pub each : All (λ (x : Stamped). RestsOn Shown Full x.event) more
