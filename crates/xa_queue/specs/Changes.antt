-- Changes of a queue: what each leaves, and why it is refused (this project's own; the order of takes is that of `IsNext`).
use Rattle.std.specs.Prelude.{◌≡◌, ℕ, ◌+◌, ◌<◌, ◌^◌, ◌==◌, Bool, true, false, if◌then◌else◌, List, [], ◌∷◌, ◌++◌, length, Option, Some, None}
use Rattle.xa_types.specs.declared.ids.QueueId.{QueueId}
use Rattle.xa_types.specs.declared.ids.ServerId.{ServerId}
use Rattle.xa_types.specs.declared.ids.CallerId.{CallerId}
use Rattle.xa_types.specs.declared.ids.Generation.{Generation}
use Rattle.xa_types.specs.declared.stamp.Stamp.{Stamp}
use Rattle.xa_types.specs.declared.stamp.Worn.{Worn}
use Rattle.xa_events.specs.declared.event.Event.{Event}
use Rattle.xa_events.specs.declared.event.Event.TheVariants.{Accept, Take, Forward, Sweep}
use Rattle.xa_stamp.specs.declared.home.Stamped.{Stamped}
use Rattle.xa_stamp.specs.Home.{larger_of}
use Rattle.xa_lock.specs.Makers.{noted_in}
use Rattle.xa_queue.specs.declared.entry.Entry.{Entry}
use Rattle.xa_stamp.specs.declared.told.Noted.{Noted}
use Rattle.xa_queue.specs.declared.told.Outgoing.{Outgoing}
use Rattle.xa_queue.specs.declared.queue.Refusal.{Refusal}
use Rattle.xa_queue.specs.declared.queue.Refusal.TheVariants as refusals
use Rattle.xa_queue.specs.declared.queue.Taken.{Taken}
use Rattle.xa_queue.specs.declared.queue.Taken.TheVariants as takes
use Rattle.xa_queue.specs.Line.{IsNext}
use Rattle.xa_queue.specs.Queue.{QueueState}

module _ {C : Type 0} where
  -- a queue as it is made
  abbrev pub opened : QueueId → ℕ → List ServerId → Stamp → QueueState C
  opened id capacity servers first = record { id = id; capacity = capacity; servers = servers; first = first; entries = []; waiting = []; takes = 0; down = false; closed = false; gone = [] }

  -- the event sends the entry's request to the queue, with the entry's priority
  abbrev pub IsEntry : QueueId → Entry C → Event → Type 0
  IsEntry id entry (Accept a) = (a.request ≡ entry.request) × (a.queue ≡ id) × (a.priority ≡ entry.priority)
  IsEntry id entry (Forward f) = (f.request ≡ entry.request) × (f.queue ≡ id) × (f.priority ≡ entry.priority)
  IsEntry id entry _ = ⊥

  -- the larger of a stamp that was seen and of the last one
  abbrev pub larger : Stamp → QueueState C → ℕ
  larger seen queue = larger_of seen queue.first (noted_in queue.entries)

  -- the stamp of the next event
  abbrev pub next_stamp : Stamp → QueueState C → Stamp
  next_stamp seen queue = record { 0 = larger seen queue + 1 }

  -- the queue with one more event, in the work of that maker
  abbrev pub noted : Stamp → CallerId → Event → QueueState C → QueueState C
  noted stamp maker event queue = record queue { entries = queue.entries ++ record { maker = maker; noted = record { stamp = stamp; event = event } } ∷ [] }

  -- the event is noted with the next stamp, which is at most 2^63, and the queue is else as `left`
  pub record Notes (seen : Stamp) (maker : CallerId) (stamp : Stamp) (event : Event) (left new old : QueueState C) : Type 0 where
    pub fresh : larger seen old < 2 ^ 63
    pub next : stamp ≡ next_stamp seen old
    pub made : new ≡ noted stamp maker event left

  -- it is, and what is handed out is that event with its stamp
  pub record NotesAs (seen : Stamp) (maker : CallerId) (told : Noted) (event : Event) (left new old : QueueState C) : Type 0 where
    pub event_is : told.event.value ≡ event
    pub notes : Notes seen maker told.stamp event left new old

  -- nothing changes: stamps would pass their end, 2^63
  pub record IsWorn (seen : Stamp) (worn : Worn) (new old : QueueState C) : Type 0 where
    pub larger : larger seen old ≡ 2 ^ 63
    pub told : worn.0.0 ≡ 2 ^ 63
    pub same : new ≡ old

  -- ---- put

  -- why the queue doesn't take an entry, by the first that bars it
  abbrev pub put_refused : Stamp → QueueState C → Option Refusal
  put_refused seen queue =
      if queue.down then Some refusals.Down
      else (if queue.closed then Some refusals.Closed
      else (if length queue.waiting == queue.capacity then Some (refusals.Full (length queue.waiting))
      else (if larger seen queue == 2 ^ 63 then Some (refusals.Worn (record { 0 = 2 ^ 63 }))
      else None)))

  -- the entry waits behind the others
  abbrev pub with_entry : Entry C → QueueState C → QueueState C
  with_entry entry queue = record queue { waiting = queue.waiting ++ entry ∷ [] }

  -- ---- take

  -- a take of this entry, by that server
  abbrev pub taken : Entry C → ServerId → Generation → QueueState C → Event
  taken entry server generation queue = Take (record { request = entry.request; server = server; generation = generation; k = queue.takes + 1 })

  -- an entry is taken out, which is the next by the order of takes
  pub record Takes (seen : Stamp) (maker : CallerId) (server : ServerId) (generation : Generation) (out : Outgoing C) (new old : QueueState C) : Type 0 where
    pub front : List (Entry C)
    pub back : List (Entry C)
    pub waited : old.waiting ≡ front ++ out.entry ∷ back
    pub next : IsNext (old.takes + 1) front out.entry back
    pub noted : NotesAs seen maker out.noted (taken out.entry server generation old) (record old { waiting = front ++ back; takes = old.takes + 1 }) new old

  -- nothing waits, so nothing changes; the queue is closed, or isn't
  pub record IsIdle (shut : Bool) (new old : QueueState C) : Type 0 where
    pub none : old.waiting ≡ []
    pub closed : old.closed ≡ shut
    pub same : new ≡ old

  -- what a take answers
  abbrev pub TakesAs : Stamp → CallerId → ServerId → Generation → Taken C → QueueState C → QueueState C → Type 0
  TakesAs seen maker server generation (takes.Request out) new old = Takes seen maker server generation out new old
  TakesAs seen maker server generation takes.Empty new old = IsIdle false new old
  TakesAs seen maker server generation takes.Closed new old = IsIdle true new old

  -- ---- sweep

  -- the oldest entry is swept
  pub record Sweeps (seen : Stamp) (maker : CallerId) (out : Outgoing C) (new old : QueueState C) : Type 0 where
    pub rest : List (Entry C)
    pub waited : old.waiting ≡ out.entry ∷ rest
    pub noted : NotesAs seen maker out.noted (Sweep (record { request = out.entry.request; queue = old.id })) (record old { waiting = rest }) new old

  -- none waits, and nothing changes
  pub record IsSwept (new old : QueueState C) : Type 0 where
    pub none : old.waiting ≡ []
    pub same : new ≡ old

  -- ---- servers, and the ends

  abbrev pub with_gone : ServerId → QueueState C → QueueState C
  with_gone server queue = record queue { gone = queue.gone ++ server ∷ [] }

-- what is left of a queue that is ended: the stamp with which it began, its events, and the entries that still wait, the oldest first
pub record Remains (C : Type 0) : Type 0 where
  pub first : Stamp
  pub entries : List Stamped
  pub waiting : List (Entry C)
