-- A queue under a lock, as it stands (this project's own).
use Rattle.std.specs.Prelude.{◌≡◌, ℕ, List, [], ◌∷◌, ◌++◌, map, IsSomeAnd}
use Rattle.xa_cell.specs.declared.cells.Cells.{Cells}
use Rattle.xa_cell.specs.declared.view.Opening.{Opening}
use Rattle.xa_cell.specs.Known.{named, IsTicketOf}
use Rattle.std.specs.List.{Contains}
use Rattle.xa_types.specs.declared.call.Mode.TheVariants.{Reply}
use Rattle.xa_types.specs.declared.ids.RequestId.{RequestId}
use Rattle.xa_types.specs.declared.setup.Setup.{Setup}
use Rattle.xa_events.specs.declared.event.Event.{Event}
use Rattle.xa_events.specs.declared.event.Event.TheVariants.{Accept, Forward}
use Rattle.xa_events.specs.Words.{latest}
use Rattle.xa_events.specs.Request.{is_entry_of}
use Rattle.xa_frame.specs.Spelling.{IsData}
use Rattle.xa_lock.specs.declared.makers.Made.{Made}
use Rattle.xa_queue.specs.declared.entry.Entry.{Entry}
use Rattle.xa_queue.specs.Queue.{QueueState, past_of}
use Rattle.xa_queue.specs.Reading.{AllNew, Fits}
use Rattle.xa_held.specs.declared.cargo.Cargo.{Cargo}
use Rattle.xa_held.specs.declared.cargo.Invocation.{Invocation}
use Rattle.xa_held.specs.declared.kept_queue.Setting.{Setting}
use Rattle.xa_held.specs.declared.kept_queue.QueueNote.{QueueNote}
use Rattle.xa_held.specs.declared.kept_queue.QueueNote.TheVariants.{Opened, By}

-- what it is: the queue, how many clients there are, and the cells of which its entries have tickets
pub record Kept (A : Type 0) : Type 0 where
  pub queue : QueueState (Cargo A)
  pub clients : ℕ
  pub cells : Cells A

-- the event sends the request to be answered, for that service, routine and data, behind so many forwards
abbrev pub Brings : RequestId → Invocation → Event → Type 0
Brings request asked (Accept a) = (a.request ≡ request) × (a.service ≡ asked.service) × (a.routine ≡ asked.routine) × (a.mode ≡ Reply) × (a.payload ≡ asked.payload) × (asked.hop ≡ 0)
Brings request asked (Forward f) = (f.request ≡ request) × (f.service ≡ asked.service) × (f.routine ≡ asked.routine) × (f.payload ≡ asked.payload) × (asked.hop ≡ f.hop)
Brings request asked _ = ⊥

module _ {A : Type 0} where
  -- the entry's ticket is of these cells, and names an opening for the entry's request; and what its server is handed has a spelling
  pub record IsRight (cells : Cells A) (entry : Entry (Cargo A)) : Type 0 where
    pub table : IsTicketOf cells entry.cargo.ticket
    pub opening : Opening
    pub names : named entry.cargo.ticket ≡ opening ∷ []
    pub request : opening.request ≡ entry.request
    pub spelled : IsData entry.cargo.invocation.payload

  -- one of these entries of the queue brought that entry, with what its server is asked for
  pub record IsBrought (entries : List Made) (entry : Entry (Cargo A)) : Type 0 where
    pub entry_is : Made
    pub stands : Contains entries entry_is
    pub brings : Brings entry.request entry.cargo.invocation entry_is.noted.event

  -- if no request was sent there while it waited there, the entry is how its request was sent there last
  abbrev pub IsSentLast : QueueState (Cargo A) → Entry (Cargo A) → Type 0
  IsSentLast q entry = (setup : Setup) → Fits setup q → AllNew setup q.id.0 (past_of q) → IsSomeAnd (latest (is_entry_of entry.request) (past_of q)) (Brings entry.request entry.cargo.invocation)

  -- what it is from its beginning to its end
  abbrev pub setting_of : Kept A → Setting A
  setting_of k = record { id = k.queue.id; capacity = k.queue.capacity; servers = k.queue.servers; first = k.queue.first; clients = k.clients; cells = k.cells }

  -- its home as its lock knows it
  abbrev pub notes_of : Kept A → List (QueueNote A)
  notes_of k = Opened (setting_of k) ∷ map By k.queue.entries

  -- it is what it was but for its queue, at which these events were noted, and which changed so
  pub record Becomes (old new : Kept A) (more : List Made) (How : Kept A → Kept A → Type 0) : Type 0 where
    pub setting : setting_of new ≡ setting_of old
    pub entries : new.queue.entries ≡ old.queue.entries ++ more
    pub how : How old new
