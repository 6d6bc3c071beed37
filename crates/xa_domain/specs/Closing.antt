-- How the domain itself closes its queues, once the clients have left (this project's own).
use Rattle.std.specs.Prelude.{◌≡◌, ℕ, ◌+◌, ◌<◌, ◌≤◌, ◌^◌, true, List, length, None, IfSome, slice_index_or}
use Rattle.std.specs.List.{All, Contains, filter}
use Rattle.xa_boot.specs.xa_types.declared.stamp.Stamp.{Stamp}
use Rattle.xa_boot.specs.xa_types.declared.stamp.Worn.{Worn}
use Rattle.xa_boot.specs.xa_events.declared.event.Event.TheVariants.{Leave}
use Rattle.xa_boot.specs.xa_events.Homes.{home_of}
use Rattle.xa_boot.specs.xa_events.Homes.Home.{CallerHome}
use Rattle.xa_boot.specs.xa_events.Queue.{is_closed}
use Rattle.xa_boot.specs.xa_events.Words.{EachNumbered}
use Rattle.xa_boot.specs.xa_stamp.declared.home.Stamped.{Stamped}
use Rattle.xa_boot.specs.xa_lock.Pages.{StartsWith}
use Rattle.xa_boot.specs.xa_worker.Crew.{stands_at}
use Rattle.xa_boot.specs.xa_worker.Seen.{past_in}
use Rattle.xa_boot.specs.xa_cell.Known.{known, IsSeatOf, IsNew}
use Rattle.xa_boot.specs.xa_held.Board.{IsSoundBoard}
use Rattle.xa_boot.specs.xa_held.Joins.{changes_at, events_at}
use Rattle.xa_boot.specs.xa_held.Kept.{notes_of}
use Rattle.xa_boot.specs.xa_worker.declared.work.Halt.{Halt}
use Rattle.xa_boot.specs.xa_worker.declared.work.Halt.TheVariants as halts
use Rattle.xa_boot.specs.xa_worker.Work.{IsWorkOf}
use Rattle.xa_boot.specs.xa_desk.declared.domain.Domain.{Domain}
use Rattle.xa_boot.specs.xa_desk.Desks.{IsAmong, IsBoardPass, IsQueuePass, IsThere, Shows, page_in, page_at}
use Rattle.xa_boot.specs.xa_desk.Made.{IsMade}
use Rattle.xa_boot.specs.xa_desk.Whole.{Whole, IsKnown}
use Rattle.xa_boot.specs.xa_client_worker.declared.working.ClientWorker.{ClientWorker}
use Rattle.xa_boot.specs.xa_client_worker.declared.working.ClientWorker.TheVariants.{Left}
use Rattle.xa_boot.specs.declared.closer.Closer.{Closer}
use Rattle.xa_boot.specs.Booting.{IsClockFor, work_of}
use Rattle.xa_history.specs.xa_script.declared.script.Client.{Client}
use Rattle.xa_domain.specs.Working.{EachDone}

-- the domain itself: its passes are of the domain's locks, that of the board saw the boot and nothing else, and that of the clock nothing, its seat has done
-- nothing, and what it noted are its own events, up to its stamp
pub record IsCloser (d : Domain) (closer : Closer) : Type 0 where
  pub seat : IsSeatOf d.cells closer.seat
  pub fresh : IsNew closer.seat.first closer.seat.count (known closer.seat)
  pub board : IsThere (IsBoardPass d (work_of d closer)) closer.board
  pub until : All (λ (x : Stamped). x.stamp.0 ≤ d.booted.0) (changes_at (page_in closer.board).seen)
  pub count : length closer.queues.items ≡ length d.queues.items
  pub queues : (k : ℕ) → k < length d.queues.items → IsThere (IsQueuePass d (work_of d closer) k) (slice_index_or closer.queues.items k None)
  pub clock : IsThere (IsClockFor d.clock 0) closer.clock
  pub work : IsWorkOf d.setup d.clients 0 closer.own
  pub made : All (λ (x : Stamped). IsMade x.event) closer.own
  pub among : All (λ (x : Stamped). IsAmong (length d.queues.items) (home_of d.setup d.clients x.event)) closer.own
  pub reached : All (λ (x : Stamped). x.stamp.0 ≤ closer.seen.0) closer.own
  pub booted : d.booted.0 ≤ closer.seen.0
  pub bound : closer.seen.0 ≤ 2 ^ 63

-- ---- clients that left

-- what the client noted at its own home stands there
abbrev pub KeepsItsOwn : Domain → Whole → ClientWorker → Type 0
KeepsItsOwn d whole (Left ended) = All (Contains (whole.callers ended.done.left.work.id.0)) (filter (stands_at d.setup d.clients (CallerHome ended.done.left.work.id.0)) ended.done.left.work.own)
KeepsItsOwn d whole worker = Unit {0}

-- the client stopped before its work was done
abbrev pub HasStopped : ClientWorker → Type 0
HasStopped (Left ended) = ended.stopped ≡ None → ⊥
HasStopped worker = Unit {0}

-- the client with that number made its calls and left, with no greater stamp
abbrev pub HasLeftBy : Stamp → ℕ → ClientWorker → Type 0
HasLeftBy seen client (Left ended) = (ended.stopped ≡ None) × (ended.done.left.work.id.0 ≡ client) × (ended.done.left.work.stamp.0 ≤ seen.0)
    × Contains ended.done.left.work.own (record { stamp = ended.done.left.work.stamp; event = Leave (record { 0 = client }) })
HasLeftBy seen client worker = ⊥

-- the stamp is behind that one and behind each of these clients, which made their calls and left; it is known where theirs are
pub record IsBehindAll (seen : Stamp) (clients : List ClientWorker) (last : Stamp) : Type 0 where
  pub least : seen.0 ≤ last.0
  pub bound : last.0 ≤ 2 ^ 63
  pub left : (d : Domain) (n : ℕ) (scripts : List Client) → EachDone d n scripts clients → EachNumbered (HasLeftBy last) n clients
  pub known_last : (d : Domain) (n : ℕ) (scripts : List Client) (whole : Whole) → EachDone d n scripts clients → All (KeepsItsOwn d whole) clients → IsKnown whole seen → IsKnown whole last

-- ---- what it shows in the end

-- these may be the homes in the end: they go on from what the domain's own passes saw, and hold what these clients noted at their own
pub record GoesOnFor (d : Domain) (clients : List ClientWorker) (whole : Whole) (closer : Closer) : Type 0 where
  pub sound : IsSoundBoard whole.board
  pub board : StartsWith whole.board.notes (page_in closer.board).seen
  pub queues : (queue : ℕ) → StartsWith (notes_of (whole.queues queue)) (page_at closer.queues.items queue).seen
  pub own : All (KeepsItsOwn d whole) clients

-- then its stamp is known, and it shows all that it noted
abbrev pub ShowsFor : Domain → List ClientWorker → Closer → Type 0
ShowsFor d clients closer = (whole : Whole) → GoesOnFor d clients whole closer → IsKnown whole closer.seen × Shows d whole (work_of d closer)

-- ---- the closing

-- each of the first n queues was seen closed
abbrev pub AreClosed : Domain → ℕ → Closer → Type 0
AreClosed d n closer = (k : ℕ) → k < n → is_closed (k + 1) (past_in (events_at (page_at closer.queues.items (k + 1)).seen)) ≡ true

-- the domain went on by closing a queue: its stamp is no smaller, what was closed is still, and behind clients that left it shows what it noted
pub record Closes (d : Domain) (old new : Closer) : Type 0 where
  pub is : IsCloser d new
  pub later : old.seen.0 ≤ new.seen.0
  pub shows : (clients : List ClientWorker) → length clients ≡ d.clients → EachNumbered (HasLeftBy old.seen) 1 clients → ShowsFor d clients old → ShowsFor d clients new
  pub still : (n : ℕ) → AreClosed d n old → AreClosed d n new
  pub halt : new.halt ≡ old.halt

-- stamps would pass their end
abbrev pub IsWornOut : Closer → Worn → Type 0
IsWornOut closer worn = (worn.0.0 ≡ 2 ^ 63) × (closer.seen.0 ≡ 2 ^ 63)

-- a client stopped before its work was done, or stamps would pass their end
abbrev pub IsHaltBy : List ClientWorker → Closer → Halt → Type 0
IsHaltBy clients closer halts.NoMemory = (worker : ClientWorker) × Contains clients worker × HasStopped worker
IsHaltBy clients closer (halts.Worn stamp) = (stamp.0 ≡ 2 ^ 63) × (closer.seen.0 ≡ 2 ^ 63)

-- the domain itself behind its work: where it didn't halt each queue was closed
pub record HasClosed (d : Domain) (clients : List ClientWorker) (closer : Closer) : Type 0 where
  pub is : IsCloser d closer
  pub shows : ShowsFor d clients closer
  pub closed : closer.halt ≡ None → AreClosed d (length d.queues.items) closer
  pub halts : IfSome closer.halt (IsHaltBy clients closer)
