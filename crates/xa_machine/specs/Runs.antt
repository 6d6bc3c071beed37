-- Where a list of events stops being a run, what holds of a run, and when nothing is left to do.
use Rattle.std.specs.Prelude.{◌≡◌, ◌⊎◌, ℕ, ◌+◌, ◌<◌, Bool, true, false, List, length, take, slice_get, Some}
use Rattle.xa_types.specs.declared.ids.RequestId.{RequestId}
use Rattle.xa_types.specs.declared.setup.Setup.{Setup}
use Rattle.xa_events.specs.declared.event.Event.{Event}
use Rattle.xa_events.specs.declared.event.Event.TheVariants.{Accept, End, Sweep}
use Rattle.xa_events.specs.Laws.{LawOfEnds, LawOfAnswers, LawOfVersions, LawOfTimes, LawOfServers, LawOfMessages, LawOfEndings, LawOfTurns, LawOfGone, LawOfClosed, LawOfEntries}
use Rattle.xa_events.specs.State.{State}
use Rattle.xa_events.specs.Words.{count}
use Rattle.xa_events.specs.Request.{is_accept_of, is_settled_by}
use Rattle.xa_events.specs.Queue.{is_closed, is_down}
use Rattle.xa_events.specs.Server.{AllGone, is_gone, was_shut_down}
use Rattle.xa_events.specs.Cases.{Case}
use Rattle.xa_events.specs.Run.{Run}

-- the events before place k are a run, and the one there may not come next
abbrev pub IsRefusedAt : State → List Event → ℕ → Type 0
IsRefusedAt old events k = (mid : State) × Run old (take k events) mid × ((e : Event) → slice_get events k ≡ Some e → Case mid e → ⊥)

-- every law of a run holds of the events
pub record IsLawful (clients : ℕ) (past : List Event) : Type 0 where
  pub ends_once : LawOfEnds past
  pub answers_once : LawOfAnswers past
  pub reads_forward : LawOfVersions clients past
  pub gives_up_in_time : LawOfTimes past
  pub ended_servers_are_off : LawOfServers past
  pub messages_in_order : LawOfMessages clients past
  pub control_takes_turns : LawOfTurns clients past
  pub endings_come_last : LawOfEndings clients past
  pub gone_servers_advertise_nothing : LawOfGone clients past
  pub closed_queues_get_nothing : LawOfClosed past
  pub last_entry_tells : LawOfEntries past

-- the event accepts a request
abbrev pub accepts : Event → Bool
accepts (Accept a) = true
accepts _ = false

-- the event settles a request
abbrev pub settles : Event → Bool
settles (End e) = true
settles (Sweep x) = true
settles _ = false

-- ---- the parts of `IsFinal`

-- every request was settled as often as it was accepted
abbrev pub AllSettled : List Event → Type 0
AllSettled past = (request : RequestId) → count (is_settled_by request) past ≡ count (is_accept_of request) past

-- every server was shut down or is given up
abbrev pub AllOver : Setup → List Event → Type 0
AllOver setup past = (server : ℕ) → 0 < server → server < length setup.servers + 1 → (was_shut_down server past ≡ true) ⊎ (is_gone server past ≡ true)

-- every queue is closed
abbrev pub AllClosed : Setup → List Event → Type 0
AllClosed setup past = (queue : ℕ) → 0 < queue → queue < length setup.queues + 1 → is_closed queue past ≡ true

-- every queue of which no server is left is down
abbrev pub AllDown : Setup → List Event → Type 0
AllDown setup past = (queue : ℕ) → 0 < queue → queue < length setup.queues + 1 → AllGone setup queue past → is_down queue past ≡ true
