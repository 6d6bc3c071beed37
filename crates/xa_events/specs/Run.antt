-- A run of the machine (this project's own).
use Rattle.std.specs.Prelude.{◌≡◌, ◌⊎◌, ℕ, true, List, [], ◌∷◌, ◌+◌, ◌<◌, length}
use Rattle.xa_types.specs.declared.ids.RequestId.{RequestId}
use Rattle.xa_events.specs.declared.event.Event.{Event}
use Rattle.xa_events.specs.State.{State, noted}
use Rattle.xa_events.specs.Cases.{Case}
use Rattle.xa_events.specs.Queue.{is_down, is_closed}
use Rattle.xa_events.specs.Server.{is_gone, was_shut_down, AllGone}
use Rattle.xa_events.specs.Caller.{AllLeft}
use Rattle.xa_events.specs.Request.{is_accept_of, is_settled_by}
use Rattle.xa_events.specs.Words.{count}

-- from old these events, the oldest first, lead to new, each of them one that may come next
abbrev pub Run : State → List Event → State → Type 0
Run old [] new = new ≡ old
Run old (e ∷ es) new = Case old e × Run (noted old e) es new

-- nothing is left to do: every client has left, every request was settled, every server was shut down or given up, and every queue is closed,
-- and down where no server of it is left
pub record IsFinal (s : State) : Type 0 where
  pub left : AllLeft s.clients s.past
  pub settled : (request : RequestId) → count (is_settled_by request) s.past ≡ count (is_accept_of request) s.past
  pub over : (server : ℕ) → 0 < server → server < length s.setup.servers + 1 → (was_shut_down server s.past ≡ true) ⊎ (is_gone server s.past ≡ true)
  pub closed : (queue : ℕ) → 0 < queue → queue < length s.setup.queues + 1 → is_closed queue s.past ≡ true
  pub down : (queue : ℕ) → 0 < queue → queue < length s.setup.queues + 1 → AllGone s.setup queue s.past → is_down queue s.past ≡ true
