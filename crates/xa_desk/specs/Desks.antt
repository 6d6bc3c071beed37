-- A worker's desk: what its passes know of the homes, and what it has shown of all that it noted (this project's own).
use Rattle.std.specs.Prelude.{◌≡◌, ◌⊎◌, ℕ, zero, suc, ◌+◌, ◌<◌, ◌≤◌, true, false, List, [], reverse, length, Option, Some, None, slice_index_or}
use Rattle.std.specs.List.{All, filter}
use Rattle.xa_server.specs.xa_types.Configured.{is_configured}
use Rattle.xa_server.specs.xa_types.Setup.{capacity_of}
use Rattle.xa_server.specs.xa_types.declared.call.Op.{Op}
use Rattle.xa_server.specs.xa_types.declared.stamp.Stamp.{Stamp}
use Rattle.xa_server.specs.xa_events.declared.event.Event.{Event}
use Rattle.xa_server.specs.xa_events.Board.{boot, published}
use Rattle.xa_server.specs.xa_events.Homes.{Home, home_of}
use Rattle.xa_server.specs.xa_events.Homes.Home.{BoardHome, QueueHome, ClockHome}
use Rattle.xa_server.specs.xa_events.Caller.{tick_floor, newest_call}
use Rattle.xa_server.specs.xa_events.Calls.{awaits_answer}
use Rattle.xa_server.specs.xa_events.Clock.{now}
use Rattle.xa_server.specs.xa_events.Local.{worker_events}
use Rattle.xa_server.specs.xa_events.Words.{AtEach}
use Rattle.xa_server.specs.xa_stamp.declared.home.Stamped.{Stamped}
use Rattle.xa_server.specs.xa_lock.declared.makers.Made.{Made}
use Rattle.xa_server.specs.xa_lock.declared.guarded.Guarded.{Guarded}
use Rattle.xa_server.specs.xa_lock.declared.pass.LockPass.{LockPass}
use Rattle.xa_server.specs.xa_lock.declared.pass.Page.{Page}
use Rattle.xa_server.specs.xa_lock.Known.{known as page_of, IsPassOf}
use Rattle.xa_server.specs.xa_lock.Pages.{StartsWith, page}
use Rattle.xa_server.specs.xa_lock.Makers.{noted_in}
use Rattle.xa_server.specs.xa_worker.Crew.{MayNote, MetAmong, stands_at}
use Rattle.xa_server.specs.xa_worker.Seen.{past_in, IsBehind, SawFronts, WasTold}
use Rattle.xa_server.specs.xa_cell.Known.{known, IsSeatOf}
use Rattle.xa_server.specs.xa_cell.Views.{at}
use Rattle.xa_server.specs.xa_held.declared.kept_board.BoardNote.{BoardNote}
use Rattle.xa_server.specs.xa_held.declared.kept_board.BoardNote.TheVariants.{Looked}
use Rattle.xa_server.specs.xa_held.declared.kept_queue.KeptQueue.{KeptQueue}
use Rattle.xa_server.specs.xa_held.declared.kept_queue.QueueNote.{QueueNote}
use Rattle.xa_server.specs.xa_held.declared.kept_queue.Setting.{Setting}
use Rattle.xa_server.specs.xa_held.Board.{IsSoundBoard}
use Rattle.xa_server.specs.xa_held.BoardVisits.{SeesBoard}
use Rattle.xa_server.specs.xa_held.Joins.{HasServers, changes_page, changes_at, events_at}
use Rattle.xa_server.specs.xa_held.Kept.{notes_of}
use Rattle.xa_server.specs.xa_held.Notes.{made_page}
use Rattle.xa_server.specs.xa_held.Visits.{Sees}
use Rattle.xa_server.specs.xa_worker.Work.{WorkState, theirs}
use Rattle.xa_server.specs.xa_worker.Going.{FitEach}
use Rattle.xa_server.specs.xa_caller.declared.cargo.Filling.{Filling}
use Rattle.xa_server.specs.xa_caller.declared.phase.Phase.{Phase}
use Rattle.xa_server.specs.xa_caller.declared.phase.Phase.TheVariants.{Sent, Lost}
use Rattle.xa_server.specs.Told.{HasStamp, FilledByEnds}
use Rattle.xa_server.specs.Fillings.{AnswersTaken, HasEnd, StandAt}
use Rattle.xa_desk.specs.declared.domain.Domain.{Domain}
use Rattle.xa_desk.specs.declared.desk.Desk.{Desk}
use Rattle.xa_desk.specs.Deserted.{ClearsBehind}
use Rattle.xa_desk.specs.Made.{IsMade}
use Rattle.xa_desk.specs.Whole.{Whole, entries_of, IsKnown}

-- the domain is of a setup that a configuration may describe, with its shapes, and a queue for each that is configured
pub record IsDomain (d : Domain) : Type 0 where
  pub configured : is_configured d.setup ≡ true
  pub shapes : d.shapes ≡ d.setup.shapes
  pub queues : length d.queues.items ≡ length d.setup.queues

-- ---- what passes know

abbrev pub page_in : {E : Type 0} → Option (LockPass E) → Page E
page_in None = page 0 [] []
page_in (Some pass) = page_of pass

-- what the desk knows of the board, and of the queue with that number
abbrev pub board_page : Desk → Page BoardNote
board_page desk = page_in desk.board

abbrev pub page_at : List (Option (LockPass (QueueNote Filling))) → ℕ → Page (QueueNote Filling)
page_at passes zero = page 0 [] []
page_at passes (suc k) = page_in (slice_index_or passes k None)

abbrev pub queue_page : Desk → ℕ → Page (QueueNote Filling)
queue_page desk queue = page_at desk.queues.items queue

-- and what it knows of the clock
abbrev pub clock_page : Desk → Page Made
clock_page desk = page_in desk.clock

-- the tick that the clock showed as the desk's pass saw it last
abbrev pub shown_to : Desk → ℕ
shown_to desk = now (past_in (noted_in (clock_page desk).seen))

-- a look of the worker left the last stamp, or has that of an event that the worker noted
abbrev pub IsGrounded : List Stamped → BoardNote → Type 0
IsGrounded own (Looked look) = (look.stamp.0 ≡ look.before.0) ⊎ HasStamp own look.stamp
IsGrounded own note = Unit {0}

-- a worker's pass of the board: it saw the boot, its own entries are what the worker noted there, and the worker's stamp is behind none that it saw
pub record IsBoardPass (d : Domain) (w : WorkState) (pass : LockPass BoardNote) : Type 0 where
  pub lock : IsPassOf d.board pass
  pub maker : (page_of pass).maker ≡ w.id.0
  pub sees : SeesBoard d.setup (page_of pass)
  pub booted : boot d.setup ≤ published (past_in (changes_at (page_of pass).seen))
  pub own : noted_in (changes_page (page_of pass)).own ≡ filter (stands_at d.setup d.clients BoardHome) w.own
  pub grounded : All (IsGrounded w.own) (page_of pass).own
  pub reached : All (λ noted. noted.stamp.0 ≤ w.stamp.0) (changes_at (page_of pass).seen)

-- what a queue with that number is
pub record IsSettingOf (d : Domain) (queue : ℕ) (its : Setting Filling) : Type 0 where
  pub id : its.id.0 ≡ queue
  pub capacity : its.capacity ≡ capacity_of d.setup queue
  pub servers : HasServers d.setup queue its.servers
  pub first : its.first.0 ≤ d.booted.0
  pub clients : its.clients ≡ d.clients
  pub cells : its.cells ≡ d.cells

-- and of a queue, where they are counted from 0
pub record IsQueuePass (d : Domain) (w : WorkState) (k : ℕ) (pass : LockPass (QueueNote Filling)) : Type 0 where
  pub lock : (default : Guarded (KeptQueue Filling) (QueueNote Filling)) → IsPassOf (slice_index_or d.queues.items k default) pass
  pub maker : (page_of pass).maker ≡ w.id.0
  pub its : Setting Filling
  pub sees : Sees its (page_of pass)
  pub is : IsSettingOf d (k + 1) its
  pub own : noted_in (made_page (page_of pass)).own ≡ filter (stands_at d.setup d.clients (QueueHome (k + 1))) w.own
  pub reached : All (λ noted. noted.stamp.0 ≤ w.stamp.0) (events_at (page_of pass).seen)

-- and of the clock: no tick that the worker read or made is greater than what the clock showed it last
pub record IsClockPass (d : Domain) (w : WorkState) (pass : LockPass Made) : Type 0 where
  pub lock : IsPassOf d.clock pass
  pub maker : (page_of pass).maker ≡ w.id.0
  pub own : noted_in (page_of pass).own ≡ filter (stands_at d.setup d.clients ClockHome) w.own
  pub reached : All (λ noted. noted.stamp.0 ≤ w.stamp.0) (noted_in (page_of pass).seen)
  pub floor : tick_floor w.clients w.id.0 (theirs w) ≤ now (past_in (noted_in (page_of pass).seen))

abbrev pub IsThere : {E : Type 0} → (LockPass E → Type 0) → Option (LockPass E) → Type 0
IsThere P None = ⊥
IsThere P (Some pass) = P pass

-- ---- what a worker shows in the end

-- these may be the homes in the end: they go on from what the desk's passes saw, each worker noted there what it may, all that the desk's own worker
-- noted stands there, and what its seat took had ended
pub record GoesOn (d : Domain) (whole : Whole) (desk : Desk) : Type 0 where
  pub sound : IsSoundBoard whole.board
  pub board : StartsWith whole.board.notes (board_page desk).seen
  pub queues : (queue : ℕ) → StartsWith (notes_of (whole.queues queue)) (queue_page desk queue).seen
  pub clock : StartsWith whole.clock (clock_page desk).seen
  pub may : (queue : ℕ) → All (λ (made : Made). MayNote d.clients made.maker.0 made.noted.event) (whole.queues queue).queue.entries
  pub stand : StandAt d.setup d.clients (entries_of whole) desk.caller.work.own
  pub ended : (k : ℕ) → All (HasEnd (entries_of whole)) (at k (known desk.caller.seat)).taken

-- what an event rests on, where its worker had noted these: the fronts that it asks for were seen, the worker was told what it asks for, and what clears a
-- queue came behind the last server there
pub record HasGrounds (d : Domain) (whole : Whole) (worker : ℕ) (own : List Stamped) (stamp : Stamp) (e : Event) : Type 0 where
  pub saw : SawFronts d.setup d.clients (entries_of whole) stamp e (past_in own)
  pub told : WasTold d.setup d.clients (entries_of whole) stamp (worker_events d.clients worker (past_in own)) e
  pub clears : ClearsBehind d.setup (entries_of whole) own stamp e

-- what a worker that had noted these shows of its next event: what that rests on, that it came behind the boot, that a change of the board met what is asked
-- of the changes before it, and that its stamp is one more than one that is known
pub record IsShown (d : Domain) (whole : Whole) (worker : ℕ) (own : List Stamped) (x : Stamped) : Type 0 where
  pub grounds : HasGrounds d whole worker own x.stamp x.event
  pub behind : IsBehind d.booted x.stamp x.event
  pub met : stands_at d.setup d.clients BoardHome x ≡ true → MetAmong d.setup (entries_of whole BoardHome) x
  pub before : Stamp
  pub next : x.stamp.0 ≡ before.0 + 1
  pub known_before : IsKnown whole before

-- the worker shows each event that it noted, by what it had noted before
abbrev pub Shows : Domain → Whole → WorkState → Type 0
Shows d whole w = AtEach (λ (x : Stamped) older. IsShown d whole w.id.0 (reverse older) x) (reverse w.own)

-- ---- the desk

-- an event of a queue stands at one of so many queues, which are counted from 1
abbrev pub IsAmong : ℕ → Home → Type 0
IsAmong n (QueueHome queue) = (0 < queue) × (queue < n + 1)
IsAmong n home = Unit {0}

-- a desk of the domain: its passes are of the domain's locks, its worker made events of tpcall, tpsprio and lives, each filling of its seat has its end among
-- them, each answer that it noted was taken by its seat, and in the end the worker shows all that it noted
pub record IsDesk (d : Domain) (desk : Desk) : Type 0 where
  pub setup : desk.caller.work.setup ≡ d.setup
  pub clients : desk.caller.work.clients ≡ d.clients
  pub booted : d.booted.0 ≤ desk.caller.work.stamp.0
  pub seat : IsSeatOf d.cells desk.caller.seat
  pub board : IsThere (IsBoardPass d desk.caller.work) desk.board
  pub least : desk.caller.least ≤ published (past_in (changes_at (board_page desk).seen))
  pub count : length desk.queues.items ≡ length d.queues.items
  pub queues : (k : ℕ) → k < length d.queues.items → IsThere (IsQueuePass d desk.caller.work k) (slice_index_or desk.queues.items k None)
  pub clock : IsThere (IsClockPass d desk.caller.work) desk.clock
  pub made : All (λ (x : Stamped). IsMade x.event) desk.caller.work.own
  pub among : All (λ (x : Stamped). IsAmong (length d.queues.items) (home_of d.setup d.clients x.event)) desk.caller.work.own
  pub filled : FilledByEnds desk.caller.work.own (known desk.caller.seat)
  pub took : AnswersTaken (known desk.caller.seat) desk.caller.work.own
  pub known_stamp : (whole : Whole) → GoesOn d whole desk → IsKnown whole desk.caller.work.stamp
  pub shows : (whole : Whole) → GoesOn d whole desk → Shows d whole desk.caller.work

-- it is a desk still, with all that its worker noted before, and all that its passes saw at queues; what may be in the end behind it may be behind the
-- old one, and its stamp is no smaller
pub record Leads (d : Domain) (old new : Desk) : Type 0 where
  pub desk : IsDesk d new
  pub own : StartsWith new.caller.work.own old.caller.work.own
  pub pages : (queue : ℕ) → StartsWith (queue_page new queue).seen (queue_page old queue).seen
  pub before : (whole : Whole) → GoesOn d whole new → GoesOn d whole old
  pub stamp : old.caller.work.stamp.0 ≤ new.caller.work.stamp.0

-- between its calls the worker awaits the answer of none, of these that it makes; while it awaits one, or where one was lost, nothing is said
abbrev pub IsOver : Phase → List Op → Option Event → Type 0
IsOver (Sent sent) ops newest = Unit {0}
IsOver (Lost request) ops newest = Unit {0}
IsOver phase ops newest = awaits_answer ops newest ≡ false

-- each event of a call that the worker noted is one of the call with its number, of these that it makes, and between its calls the last is over
pub record FitsCalls (d : Domain) (ops : List Op) (desk : Desk) : Type 0 where
  pub each : (whole : Whole) → GoesOn d whole desk → FitEach d.setup d.clients (entries_of whole) desk.caller.work.id.0 ops desk.caller.work.own
  pub over : IsOver desk.caller.phase ops (newest_call desk.caller.work.id.0 (worker_events d.clients desk.caller.work.id.0 (past_in desk.caller.work.own)))
