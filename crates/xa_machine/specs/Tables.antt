-- What the tables of the machine show of the events (this project's own).
use Rattle.std.specs.Prelude.{◌≡◌, ℕ, ◌+◌, ◌<◌, ◌≤◌, ◌++◌, ◌∷◌, [], true, false, cond, max, List, length, reverse, Option, Some, None, slice_index_or, vec_len, vec_capacity}
use Rattle.xa_types.specs.declared.ids.RequestId.{RequestId}
use Rattle.xa_events.specs.declared.event.Event.{Event}
use Rattle.xa_events.specs.declared.event.Event.TheVariants.{Accept, Take, End}
use Rattle.xa_events.specs.declared.event.Outcome.{Outcome}
use Rattle.xa_events.specs.declared.event.Outcome.TheVariants.{Returned, Failed, BadReturn, BadForward, Died, Starved}
use Rattle.std.specs.Prelude.{if◌then◌else◌, ◌==◌, ◌||◌}
use Rattle.xa_events.specs.Words.{greatest, has, added, without}
use Rattle.xa_events.specs.Conversation.{opens_connection, closes_connection, break_in, hand_after}
use Rattle.xa_events.specs.Server.{doing_after, moves_server, start_in, is_gone_of, stops_server, is_shutdown_stop}
use Rattle.xa_events.specs.Caller.{op_of, op_in, is_call_of, accepted_in, priority_asked, accepts_for, reads, tick_in, is_leave_of, gives_up, changes_priority, opens_descriptor, closes_descriptor, answers_request}
use Rattle.xa_events.specs.Views.{ServerView, QueueView, CallerView}
use Rattle.xa_machine.specs.Here.{enters_here, leaves_here, takes_here, is_down_here, is_closed_here}
use Rattle.xa_machine.specs.declared.served.Last.{Last}
use Rattle.xa_machine.specs.declared.served.Last.TheVariants as lasts
use Rattle.xa_machine.specs.declared.served.ServerRow.{ServerRow}
use Rattle.xa_machine.specs.declared.queued.QueueRow.{QueueRow}
use Rattle.xa_machine.specs.declared.caller.CallerRow.{CallerRow}

-- the greater of both, where there is a second
abbrev pub raised : Option ℕ → ℕ → ℕ
raised None least = least
raised (Some n) least = max n least

-- ---- servers

abbrev pub last_of : Outcome → Last
last_of (Returned code payload) = lasts.Well
last_of (Failed code payload) = lasts.Badly
last_of BadReturn = lasts.Badly
last_of (BadForward version) = lasts.Well
last_of Died = lasts.Died
last_of Starved = lasts.Starved

abbrev pub last_by : Option Event → Last
last_by (Some (End e)) = last_of e.outcome
last_by _ = lasts.Nothing

abbrev pub with_start : Option ℕ → List ℕ → List ℕ
with_start None starts = starts
with_start (Some tick) starts = starts ++ tick ∷ []

pub record ServerShows (row : ServerRow) (view : ServerView) : Type 0 where
  pub doing : row.doing ≡ doing_after view.moved
  pub last : row.last ≡ last_by view.moved
  pub starts : row.starts.items ≡ reverse view.starts
  pub gone : row.gone ≡ view.gone
  pub shut : row.shut ≡ is_shutdown_stop view.stopped

abbrev pub no_server : ServerView
no_server = record { moved = None; starts = []; gone = false; stopped = None }

-- ---- queues

pub record QueueShows (row : QueueRow) (view : QueueView) : Type 0 where
  pub waiting : row.waiting.items ≡ view.waiting
  pub takes : row.takes ≡ view.takes
  pub down : row.down ≡ view.down
  pub closed : row.closed ≡ view.closed

abbrev pub no_queue : QueueView
no_queue = record { waiting = []; takes = 0; down = false; closed = false; gone = [] }

-- the event counts the take
abbrev pub CountsTake : Event → QueueView → Type 0
CountsTake (Take t) view = t.k ≡ view.takes + 1
CountsTake _ view = Unit {0}

-- ---- callers

pub record CallerShows (boot : ℕ) (row : CallerRow) (view : CallerView) : Type 0 where
  pub op : row.op ≡ op_of view.called
  pub just : row.just ≡ accepted_in view.called
  pub accepted : row.accepted ≡ view.accepted
  pub descriptors : row.descriptors.items ≡ view.descriptors
  pub unanswered : row.unanswered.items ≡ view.unanswered
  pub version : row.version ≡ greatest boot view.versions
  pub tick : row.tick ≡ greatest 0 view.ticks
  pub left : row.left ≡ view.left
  pub leaving : row.leaving ≡ view.leaving
  pub asked : row.asked ≡ priority_asked view.set
  pub connections : row.connections.items ≡ view.connections
  pub broken : (request : RequestId) → has request row.broken.items ≡ has request view.broken
  pub hand_closed : row.hand_closed ≡ view.hand_closed

abbrev pub no_caller : CallerView
no_caller = record { called = None; accepted = 0; descriptors = []; unanswered = []; versions = []; ticks = []; left = false; leaving = false; set = None; connections = []; broken = []; hand_closed = false }

-- the event counts the caller's request
abbrev pub CountsAccept : ℕ → Event → CallerView → Type 0
CountsAccept caller (Accept a) view = accepts_for caller (Accept a) ≡ true → a.request.number ≡ view.accepted + 1
CountsAccept caller _ view = Unit {0}

-- there is room for one more in each list of the row
pub record HasRoom (row : CallerRow) : Type 0 where
  pub descriptors : vec_len row.descriptors < vec_capacity row.descriptors
  pub unanswered : vec_len row.unanswered < vec_capacity row.unanswered
  pub connections : vec_len row.connections < vec_capacity row.connections
  pub broken : vec_len row.broken < vec_capacity row.broken

abbrev pub accepted_after : ℕ → Event → ℕ → ℕ
accepted_after caller (Accept a) before = if a.by.0 == caller then a.request.number else before
accepted_after caller _ before = before

-- the row's lists are as they were
pub record SameLists (old new : CallerRow) : Type 0 where
  pub descriptors : new.descriptors ≡ old.descriptors
  pub unanswered : new.unanswered ≡ old.unanswered
  pub connections : new.connections ≡ old.connections
  pub broken : new.broken ≡ old.broken
  pub hand_closed : new.hand_closed ≡ old.hand_closed

-- the first half of a note: all but the lists
pub record NotesCalls (clients caller : ℕ) (e : Event) (old new : CallerRow) : Type 0 where
  pub op : new.op ≡ cond (is_call_of caller e) (op_in e) old.op
  pub just : new.just ≡ cond (is_call_of caller e) (accepted_in (Some e)) old.just
  pub accepted : new.accepted ≡ accepted_after caller e old.accepted
  pub version : new.version ≡ raised (reads clients caller e) old.version
  pub tick : new.tick ≡ raised (tick_in clients caller e) old.tick
  pub left : new.left ≡ is_leave_of caller e || old.left
  pub leaving : new.leaving ≡ gives_up caller e || old.leaving
  pub asked : new.asked ≡ cond (changes_priority clients caller e) (priority_asked (Some e)) old.asked
  pub lists : SameLists old new

pub record SameCalls (old new : CallerRow) : Type 0 where
  pub op : new.op ≡ old.op
  pub just : new.just ≡ old.just
  pub accepted : new.accepted ≡ old.accepted
  pub version : new.version ≡ old.version
  pub tick : new.tick ≡ old.tick
  pub left : new.left ≡ old.left
  pub leaving : new.leaving ≡ old.leaving
  pub asked : new.asked ≡ old.asked

-- the second half
pub record NotesRequests (clients caller : ℕ) (e : Event) (old new : CallerRow) : Type 0 where
  pub calls : SameCalls old new
  pub descriptors : new.descriptors.items ≡ added (opens_descriptor caller e) (without (closes_descriptor caller e) old.descriptors.items)
  pub unanswered : new.unanswered.items ≡ added (opens_descriptor caller e) (without (answers_request caller e) old.unanswered.items)
  pub connections : new.connections.items ≡ added (opens_connection caller e) (without (closes_connection caller e) old.connections.items)
  pub broken : new.broken.items ≡ added (break_in caller e) old.broken.items
  pub hand_closed : new.hand_closed ≡ hand_after clients caller e old.broken.items old.hand_closed

pub record NotesServer (server : ℕ) (e : Event) (old new : ServerRow) : Type 0 where
  pub doing : new.doing ≡ cond (moves_server server e) (doing_after (Some e)) old.doing
  pub last : new.last ≡ cond (moves_server server e) (last_by (Some e)) old.last
  pub starts : new.starts.items ≡ with_start (start_in server e) old.starts.items
  pub gone : new.gone ≡ is_gone_of server e || old.gone
  pub shut : new.shut ≡ cond (stops_server server e) (is_shutdown_stop (Some e)) old.shut

pub record NotesQueue (e : Event) (old new : QueueRow) : Type 0 where
  pub waiting : new.waiting.items ≡ added (enters_here e) (without (leaves_here e) old.waiting.items)
  pub takes : new.takes ≡ takes_here e old.takes
  pub down : new.down ≡ is_down_here e || old.down
  pub closed : new.closed ≡ is_closed_here e || old.closed

-- the row with each number shows the view of it, and a number without a row has none
pub record RowsShow {X V : Type 0} (Shows : X → V → Type 0) (view : ℕ → V) (none : V) (rows : List X) : Type 0 where
  pub each : (k : ℕ) (d : X) → k < length rows → Shows (slice_index_or rows k d) (view k)
  pub beyond : (k : ℕ) → length rows ≤ k → view k ≡ none

-- the row reads as before
pub record SameRow (old new : CallerRow) : Type 0 where
  pub calls : SameCalls old new
  pub descriptors : new.descriptors.items ≡ old.descriptors.items
  pub unanswered : new.unanswered.items ≡ old.unanswered.items
  pub connections : new.connections.items ≡ old.connections.items
  pub broken : new.broken.items ≡ old.broken.items
  pub hand_closed : new.hand_closed ≡ old.hand_closed

pub record SameServer (old new : ServerRow) : Type 0 where
  pub doing : new.doing ≡ old.doing
  pub last : new.last ≡ old.last
  pub starts : new.starts.items ≡ old.starts.items
  pub gone : new.gone ≡ old.gone
  pub shut : new.shut ≡ old.shut

pub record SameQueue (old new : QueueRow) : Type 0 where
  pub waiting : new.waiting.items ≡ old.waiting.items
  pub takes : new.takes ≡ old.takes
  pub down : new.down ≡ old.down
  pub closed : new.closed ≡ old.closed

-- each row shows that
abbrev pub AllShow : {X V : Type 0} → (X → V → Type 0) → V → List X → Type 0
AllShow {X} Shows none rows = (k : ℕ) (d : X) → k < length rows → Shows (slice_index_or rows k d) none
