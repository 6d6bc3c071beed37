-- What a worker saw of homes when it noted an event (this project's own): the entries that stood first there, or one entry that it was told of,
-- each with a smaller stamp. Nothing here speaks of a merge.
use Rattle.std.specs.Prelude.{◌≡◌, ℕ, ◌+◌, ◌<◌, ◌≤◌, true, List, ◌∷◌, ◌++◌, length, map, reverse, Some, IfSome, IsSomeAnd, false, []}
use Rattle.std.specs.List.{All, Contains}
use Rattle.xa_types.specs.declared.stamp.Stamp.{Stamp}
use Rattle.xa_types.specs.declared.setup.Setup.{Setup}
use Rattle.xa_types.specs.Setup.{queue_of}
use Rattle.xa_types.specs.declared.row.Row.{Row}
use Rattle.xa_events.specs.declared.event.Event.{Event}
use Rattle.xa_events.specs.declared.event.Event.TheVariants.{Advertise, Withdraw, Accept, Take, Forward, Sweep, Gone, Down, Close, Tick, Start, StartFailed, End, Stop, Answer, Cancel, Lapse, NotYet, Refuse, Leave, Priority, Send, Receive, Break}
use Rattle.xa_events.specs.declared.event.Evidence.{Evidence}
use Rattle.xa_events.specs.declared.event.Evidence.TheVariants.{Version, AllDown, Clock as ClockShown, Queue, Deadline, Rows, Routine, NoRow, Conversation, Ended}
use Rattle.xa_events.specs.Queue.{comes_in, waiting}
use Rattle.xa_events.specs.declared.event.Forwarded.{Forwarded}
use Rattle.xa_types.specs.declared.ids.CallerId.{CallerId}
use Rattle.xa_types.specs.declared.ids.RequestId.{RequestId}
use Rattle.xa_events.specs.Conversation.{Side, begins_with, ControlIs, NextIs, EndedIs}
use Rattle.xa_events.specs.declared.event.StopCause.TheVariants.{Shutdown}
use Rattle.xa_events.specs.Words.{AtEach, latest, count, has}
use Rattle.xa_events.specs.Homes.{Home, is_own_at, is_take_by}
use Rattle.xa_events.specs.Homes.Home.{BoardHome, QueueHome, ClockHome, CallerHome}
use Rattle.xa_events.specs.Board.{boot, published, rows_of_version}
use Rattle.xa_events.specs.Server.{AllGone}
use Rattle.xa_events.specs.Caller.{is_leave_of, version_of, least_version}
use Rattle.xa_events.specs.Request.{settlement_in, is_entry_of}
use Rattle.xa_events.specs.Clock.{is_shown}
use Rattle.xa_events.specs.Answers.{IsAnswerTo}
use Rattle.xa_events.specs.Local.{Forwardable}
use Rattle.xa_events.specs.Cases.{RowStands, RowAdmits, AcceptBefore, NoRows, IsShut, WereShown, named_by, queue_by, Shows, Began}
use Rattle.xa_stamp.specs.declared.home.Stamped.{Stamped}
use Rattle.xa_lock.specs.Pages.{StartsWith}

-- the events of these entries, the newest first
abbrev pub past_in : List Stamped → List Event
past_in entries = reverse (map (λ noted. noted.event) entries)

-- P held of a front of these entries, all with smaller stamps
pub record SawFront (entries : List Stamped) (stamp : Stamp) (P : List Event → Type 0) : Type 0 where
  pub front : List Stamped
  pub stands : StartsWith entries front
  pub before : All (λ noted. noted.stamp.0 < stamp.0) front
  pub shows : P (past_in front)

-- the request of an event that sends one to the queue doesn't wait there yet
abbrev pub IsNew : Setup → ℕ → Event → List Event → Type 0
IsNew setup queue e before = IfSome (comes_in queue e) (λ request. has request (waiting setup queue before) ≡ false)

-- P holds of these events of the queue, if no request was sent there while it waited there
abbrev pub IfNew : Setup → ℕ → (List Event → Type 0) → List Event → Type 0
IfNew setup queue P past = AtEach (IsNew setup queue) past → P past

-- P held of a front of these entries of the queue, if no request had been sent there while it waited there
abbrev pub SawQueue : Setup → ℕ → List Stamped → Stamp → (List Event → Type 0) → Type 0
SawQueue setup queue entries stamp P = SawFront entries stamp (IfNew setup queue P)

-- one of these entries, with a smaller stamp, is of an event of which P holds
pub record SawEntry (entries : List Stamped) (stamp : Stamp) (P : Event → Type 0) : Type 0 where
  pub entry : Stamped
  pub stands : Contains entries entry
  pub before : entry.stamp.0 < stamp.0
  pub shows : P entry.event

-- the entry stands among these, and P held of the events of those before it
pub record StandsBehind (entries : List Stamped) (x : Stamped) (P : List Event → Type 0) : Type 0 where
  pub before : List Stamped
  pub after : List Stamped
  pub stands : entries ≡ before ++ x ∷ after
  pub shows : P (past_in before)

-- P held of the last of a front of these entries, all with smaller stamps, with those before it
pub record SawLast (entries : List Stamped) (stamp : Stamp) (P : Event → List Event → Type 0) : Type 0 where
  pub front : List Stamped
  pub entry : Stamped
  pub stands : StartsWith entries (front ++ entry ∷ [])
  pub before : All (λ noted. noted.stamp.0 < stamp.0) (front ++ entry ∷ [])
  pub shows : P entry.event (past_in front)

-- up to some stamp the board was seen, behind the boot, with no row of the queue, and the queue with each of its servers gone; what stands behind that
-- on the board came later
pub record SawDeserted (setup : Setup) (queue : ℕ) (board at_queue : List Stamped) (stamp : Stamp) : Type 0 where
  pub reach : Stamp
  pub earlier : reach.0 < stamp.0
  pub front : List Stamped
  pub rest : List Stamped
  pub stands : board ≡ front ++ rest
  pub reached : All (λ noted. noted.stamp.0 ≤ reach.0) front
  pub later : All (λ noted. reach.0 < noted.stamp.0) rest
  pub booted : boot setup ≤ published (past_in front)
  pub none : NoRows setup queue (past_in front)
  pub gone : List Stamped
  pub left : StartsWith at_queue gone
  pub in_reach : All (λ noted. noted.stamp.0 ≤ reach.0) gone
  pub all : AllGone setup queue (past_in gone)

-- the conversation was seen to begin with control at that end
abbrev pub SawBegan : (Home → List Stamped) → Stamp → RequestId → Side → Type 0
SawBegan entries stamp request side = (home : Home) × SawEntry (entries home) stamp (λ e. begins_with side request e ≡ true)

-- an event of some home was seen there with those before it
abbrev pub SawSome : (Home → List Stamped) → Stamp → (Event → List Event → Type 0) → Type 0
SawSome entries stamp P = (home : Home) × SawLast (entries home) stamp P

-- an event that is noted with that stamp, where the homes have these entries
module _ (setup : Setup) (clients : ℕ) (entries : Home → List Stamped) (stamp : Stamp) where
  -- P held so of a front of the queue that has all that the worker had noted there, of which own are all events
  abbrev pub SawSince : ℕ → ℕ → (List Event → Type 0) → List Event → Type 0
  SawSince worker queue P own = SawFront (entries (QueueHome queue)) stamp (λ past. IfNew setup queue P past × (count (is_own_at setup clients worker queue) past ≡ count (is_own_at setup clients worker queue) own))

  -- P held so of a front of the server's queue that has its last take of a request; own are all events that its worker had noted
  abbrev pub SawInHand : ℕ → (List Event → Type 0) → List Event → Type 0
  SawInHand server P own = SawFront (entries (QueueHome (queue_of setup server))) stamp (λ past. IfNew setup (queue_of setup server) P past × (count (is_take_by server) past ≡ count (is_take_by server) own))

  -- the row stood, and the server had seen its own queue up to its take, and there how the request was sent last
  pub record SawEntryOf (f : Forwarded) (own : List Event) : Type 0 where
    pub row : SawFront (entries BoardHome) stamp (RowStands setup f.version f.service f.queue.0 (RowAdmits setup false f.routine f.payload))
    pub sent : SawInHand f.server.0 (λ past. IsSomeAnd (latest (is_entry_of f.request) past) (Forwardable f.hop)) own

  -- a version that is no older than what the caller has seen was seen on the board, and its rows show it
  abbrev pub SawRows : CallerId → (List Row → Type 0) → List Event → Type 0
  SawRows caller P own = (version : ℕ) × (least_version setup clients caller.0 own ≤ version) × SawFront (entries BoardHome) stamp (λ past. (version ≤ published past) × P (rows_of_version setup past version))

  -- what shows that a refusal is right was seen
  abbrev pub SawEvidence : CallerId → Evidence → List Event → Type 0
  SawEvidence caller (Version v) own = SawFront (entries BoardHome) stamp (λ past. v ≤ published past)
  SawEvidence caller (AllDown v) own = SawFront (entries BoardHome) stamp (λ past. v ≤ published past)
  SawEvidence caller (ClockShown tick) own = SawFront (entries ClockHome) stamp (λ past. is_shown tick past ≡ true)
  SawEvidence caller (Queue queue n) own = SawSince caller.0 queue.0 (λ past. length (waiting setup queue.0 past) ≡ n) own
  SawEvidence caller (Deadline tick deadline) own = SawFront (entries ClockHome) stamp (WereShown setup tick deadline)
  SawEvidence caller (Rows n) own = SawRows caller (Shows (queue_by setup clients caller.0) (Rows n)) own
  SawEvidence caller (Routine routine) own = SawRows caller (Shows (queue_by setup clients caller.0) (Routine routine)) own
  SawEvidence caller NoRow own = SawRows caller (Shows (queue_by setup clients caller.0) NoRow) own
  SawEvidence caller evidence own = Unit {0}

  -- the fronts that the event rests on were seen when it was noted, behind these events of its worker
  abbrev pub SawFronts : Event → List Event → Type 0
  SawFronts (Advertise a) own = Unit {0}
  SawFronts (Withdraw w) own = w.by.0 ≡ 0 → SawFront (entries (QueueHome w.queue.0)) stamp (AllGone setup w.queue.0)
  SawFronts (Accept a) own = SawFront (entries BoardHome) stamp (AcceptBefore setup a)
  SawFronts (Take t) own = Unit {0}
  SawFronts (Forward f) own = SawEntryOf f own
  SawFronts (Sweep x) own = Unit {0}
  SawFronts (Gone server) own = Unit {0}
  SawFronts (Down queue) own = Unit {0}
  SawFronts (Close queue) own = Unit {0}
  SawFronts (Start b) own = SawFront (entries ClockHome) stamp (λ past. is_shown b.tick past ≡ true)
  SawFronts (StartFailed b) own = SawFront (entries ClockHome) stamp (λ past. is_shown b.tick past ≡ true)
  SawFronts (End e) own = (version : ℕ) → version_of e.outcome ≡ Some version → SawFront (entries BoardHome) stamp (λ past. version ≤ published past)
  SawFronts (Stop x) own = x.cause ≡ Shutdown → SawQueue setup (queue_of setup x.server.0) (entries (QueueHome (queue_of setup x.server.0))) stamp (IsShut setup (queue_of setup x.server.0))
  SawFronts (Answer a) own = Unit {0}
  SawFronts (Tick t) own = Unit {0}
  SawFronts (Cancel c) own = Unit {0}
  SawFronts (Lapse l) own = SawFront (entries ClockHome) stamp (WereShown setup l.now l.deadline)
  SawFronts (NotYet n) own = Unit {0}
  SawFronts (Refuse r) own = SawEvidence r.by r.evidence own
  SawFronts (Leave client) own = Unit {0}
  SawFronts (Priority p) own = Unit {0}
  SawFronts (Send s) own = Unit {0}
  SawFronts (Receive r) own = Unit {0}
  SawFronts (Break b) own = Unit {0}

  -- of a conversation, what a refused call was told by the caller's own events: how it began, and that its other end closed
  abbrev pub ToldEvidence : CallerId → Evidence → List Event → Type 0
  ToldEvidence caller (Conversation descriptor) own = IsSomeAnd (named_by clients caller descriptor own) (λ request. Began (SawBegan entries stamp request))
  ToldEvidence caller (Ended descriptor event code) own = IsSomeAnd (named_by clients caller descriptor own) (λ request. EndedIs clients caller.0 request event own (SawBegan entries stamp request) (SawSome entries stamp))
  ToldEvidence caller evidence own = Unit {0}

  -- the entries of other callers' own homes that the event rests on stand there: an answer's end of the request, at a close each client's leave, and of
  -- a conversation what the stubs of its ends tell when they meet; and of a queue that goes down, that the board had no row of it; own is what its
  -- worker had noted
  abbrev pub WasTold : List Event → Event → Type 0
  WasTold own (Down queue) = SawDeserted setup queue.0 (entries BoardHome) (entries (QueueHome queue.0)) stamp
  WasTold own (Close queue) = (client : ℕ) → 0 < client → client < clients + 1 → SawEntry (entries (CallerHome client)) stamp (λ e. is_leave_of client e ≡ true)
  WasTold own (Answer a) = (home : Home) × SawEntry (entries home) stamp (λ e. IsSomeAnd (settlement_in a.request e) (IsAnswerTo a.answer))
  WasTold own (Send s) = ControlIs true s.by.0 s.request own (SawBegan entries stamp s.request)
  WasTold own (Receive r) = ControlIs false r.by.0 r.request own (SawBegan entries stamp r.request) × NextIs clients r.by.0 r.request own (SawBegan entries stamp r.request) (SawSome entries stamp) r.item
  WasTold own (Refuse r) = ToldEvidence r.by r.evidence own
  WasTold own _ = Unit {0}

-- an event with that stamp came behind the boot, whose last stamp is that, or is one of the boot's
abbrev pub IsBehind : Stamp → Stamp → Event → Type 0
IsBehind last stamp (Advertise a) = Unit {0}
IsBehind last stamp e = last.0 < stamp.0
