-- How a server forwards the request that it has in hand (after Tuxedo, tpforward; that 32 forwards are the most, and which version of the board a failed
-- one names, is this project's own).
use Rattle.std.specs.Prelude.{◌≡◌, ℕ, ℤ, ◌+◌, ◌≤◌, nat_lt, ◌&&◌, Bool, true, List, Option, Some, None, Result, Ok, Err, slice_get, if◌then◌else◌}
use Rattle.std.specs.List.{find}
use Rattle.xa_caller.specs.xa_types.declared.data.Data.{Data}
use Rattle.xa_caller.specs.xa_types.declared.ids.RequestId.{RequestId}
use Rattle.xa_caller.specs.xa_types.declared.row.Row.{Row}
use Rattle.xa_caller.specs.xa_types.declared.setup.Setup.{Setup}
use Rattle.xa_caller.specs.xa_types.declared.stamp.Stamp.{Stamp}
use Rattle.xa_caller.specs.xa_types.Found.{FoundRows}
use Rattle.xa_caller.specs.xa_types.Kind.{is_accepted, kind_of, is_sound}
use Rattle.xa_caller.specs.xa_types.Name.{is_name}
use Rattle.xa_caller.specs.xa_types.Priority.{priority_of}
use Rattle.xa_caller.specs.xa_events.declared.event.Doing.TheVariants.{Busy, Idle}
use Rattle.xa_caller.specs.xa_events.declared.event.Event.{Event}
use Rattle.xa_caller.specs.xa_events.declared.event.Event.TheVariants.{Forward}
use Rattle.xa_caller.specs.xa_events.declared.event.Forwarded.{Forwarded}
use Rattle.xa_caller.specs.xa_events.declared.event.Outcome.TheVariants.{BadForward}
use Rattle.xa_caller.specs.xa_events.Caller.{version_of}
use Rattle.xa_caller.specs.xa_events.Cases.{priority_by}
use Rattle.xa_caller.specs.xa_held.Kept.{Brings}
use Rattle.xa_caller.specs.xa_queue.declared.entry.Entry.{Entry}
use Rattle.xa_caller.specs.xa_worker.declared.work.Halt.{Halt}
use Rattle.xa_caller.specs.declared.outcomes.Aimed.{Aimed}
use Rattle.xa_caller.specs.declared.outcomes.Aimed.TheVariants as aims
use Rattle.xa_caller.specs.Caller.{CallerState}
use Rattle.xa_caller.specs.Drafts.{Cargo, entry_behind}
use Rattle.xa_caller.specs.Serving.{raised, forwarded_off}
use Rattle.xa_server.specs.declared.closing.Closing.{Closing}
use Rattle.xa_server.specs.declared.forwarding.Forwarding.{Forwarding as Forwards}
use Rattle.xa_server.specs.declared.forwarding.Forwarding.TheVariants.{On, Failed}
use Rattle.xa_server.specs.declared.slot.ServerSlot.{ServerSlot}
use Rattle.xa_server.specs.declared.slot.Last.TheVariants as lasts
use Rattle.xa_server.specs.Changes.{Finishes}
use Rattle.xa_server.specs.Doings.{life_in}
use Rattle.xa_server.specs.Slot.{Tables, Stands}

-- ---- which way a forward goes

-- the service has a name, the data is sound, and the request was forwarded fewer than 32 times
abbrev pub may_forward : Setup → List ℕ → Data → ℕ → Bool
may_forward setup service payload hop = is_name service && is_sound setup payload && nat_lt hop 32

abbrev pub row_or : ℕ → Option Row → Result Row ℕ
row_or version (Some row) = Ok row
row_or version None = Err version

-- by which row a request goes on that was forwarded so often, or with which version of the board its forward fails: with 0 if the name, the data or the
-- request decides, or else the one that was looked up, if none of its rows accepts the kind of the data
abbrev pub way_of : Setup → List ℕ → Data → ℕ → FoundRows → Result Row ℕ
way_of setup service payload hop found = if may_forward setup service payload hop then row_or found.version (find (λ (row : Row). is_accepted setup row.accepts (kind_of payload)) found.rows) else Err 0

-- ---- what goes on

-- the event that the slot's server forwards the request by that row
abbrev pub forwarded_by : ServerSlot → RequestId → ℕ → ℕ → Row → Option (Bool × ℤ) → Data → Forwarded
forwarded_by slot request hop version row asked payload = record {
  request = request;
  generation = life_in slot.doing;
  version = version;
  server = slot.server;
  queue = row.queue;
  hop = hop;
  priority = priority_of row.priority asked;
  service = row.service;
  routine = row.routine;
  payload = payload;
}

-- what waits for it at the queue of that row, and the event that brings it there
pub record GoesBy (version : ℕ) (row : Row) (asked : Option (Bool × ℤ)) (hop : ℕ) (payload : Data) (was entry : Entry Cargo) (event : Event) (slot : ServerSlot) : Type 0 where
  pub entered : entry ≡ entry_behind hop was.request row asked payload was.cargo.ticket
  pub forwards : event ≡ Forward (forwarded_by slot was.request hop version row asked payload)

-- the request in hand is out to go on by that row, once more than before, with the priority that was set for it; nothing is noted
pub record Passes (version : ℕ) (row : Row) (payload : Data) (entry : Entry Cargo) (event : Event) (slot' slot : ServerSlot) (new old : CallerState) : Type 0 where
  pub held : Entry Cargo
  pub in_hand : slot.hand ≡ Some held
  pub goes : GoesBy version row old.priority (held.cargo.invocation.hop + 1) payload held entry event slot
  pub left : slot' ≡ record slot { hand = None }
  pub same : new ≡ old

-- the request in hand ended as a forward that failed, and its caller is to be told; the worker read that version of the board, if it isn't 0
pub record Fails (version : ℕ) (closing : Closing) (slot' slot : ServerSlot) (new old : CallerState) : Type 0 where
  pub finishes : Finishes (BadForward version) closing slot' slot new.work old.work
  pub rest : new ≡ record old { work = new.work; least = raised (version_of (BadForward version)) old.least }

-- what a forward comes to, by the way that it goes
abbrev pub ForwardsAs : ℕ → Data → Result Row ℕ → Forwards → ServerSlot → ServerSlot → CallerState → CallerState → Type 0
ForwardsAs version payload (Ok row) (On entry event) slot' slot new old = Passes version row payload entry event slot' slot new old
ForwardsAs version payload (Err named) (Failed closing) slot' slot new old = Fails named closing slot' slot new old
ForwardsAs version payload way forwards slot' slot new old = ⊥

-- how often the request in hand was forwarded
abbrev pub hop_in : Option (Entry Cargo) → ℕ
hop_in (Some entry) = entry.cargo.invocation.hop
hop_in None = 0

-- ---- on its way

-- the slot's request is out, as that entry, and that event may be noted of it
pub record IsOnWay (entry : Entry Cargo) (event : Event) (slot : ServerSlot) (c : CallerState) : Type 0 where
  pub tables : Tables slot c.work
  pub busy : slot.doing ≡ Busy (life_in slot.doing) entry.request
  pub out : slot.hand ≡ None
  pub f : Forwarded
  pub is : event ≡ Forward f
  pub brings : Brings entry.request entry.cargo.invocation (Forward f)
  pub server : f.server ≡ slot.server
  pub generation : f.generation ≡ life_in slot.doing
  pub few : f.hop ≤ 32
  pub sound : is_sound c.work.setup f.payload ≡ true
  pub recent : c.least ≤ f.version
  pub priority : f.priority ≡ priority_by c.work.setup f.service c.priority

-- what holds behind a forward: the request is on its way, or else the slot stands
abbrev pub LeftBy : Result Forwards Halt → ServerSlot → CallerState → Type 0
LeftBy (Ok (On entry event)) slot c = IsOnWay entry event slot c
LeftBy (Ok (Failed closing)) slot c = Stands slot c.work
LeftBy (Err halt) slot c = Stands slot c.work

-- it is aimed by the row at that attempt, or there is none
abbrev pub AimsOn : ℕ → Option (Bool × ℤ) → Entry Cargo → List Row → ℕ → ServerSlot → Aimed → Type 0
AimsOn version asked entry rows attempt slot (aims.At aimed event) = (row : Row) × (slice_get rows attempt ≡ Some row) × GoesBy version row asked entry.cargo.invocation.hop entry.cargo.invocation.payload entry aimed event slot
AimsOn version asked entry rows attempt slot (aims.Past back) = (slice_get rows attempt ≡ None) × (back ≡ entry)
AimsOn version asked entry rows attempt slot (aims.NoMemory back) = back ≡ entry

-- it is on its way still, by the event that was made anew, or else by the one before
abbrev pub StaysOnWay : Event → ServerSlot → CallerState → Aimed → Type 0
StaysOnWay event slot c (aims.At aimed anew) = IsOnWay aimed anew slot c
StaysOnWay event slot c (aims.Past back) = IsOnWay back event slot c
StaysOnWay event slot c (aims.NoMemory back) = IsOnWay back event slot c

-- it went on, by an event with that stamp
pub record GoesOn (stamp : Stamp) (version : ℕ) (event : Event) (slot' slot : ServerSlot) (new old : CallerState) : Type 0 where
  pub left : slot' ≡ record slot { doing = Idle (life_in slot.doing); last = lasts.Nothing }
  pub noted : new ≡ forwarded_off stamp version event old
