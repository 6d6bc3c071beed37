-- What a call of a queue under a lock answers, by how the queue changes: at the queue itself, or for a worker's pass (this project's own).
use Rattle.std.specs.Prelude.{◌≡◌, ◌⊎◌, ◌<◌, true, false, List, [], length, Option, Some, None, Result, Ok, Err}
use Rattle.xa_types.specs.declared.ids.CallerId.{CallerId}
use Rattle.xa_types.specs.declared.ids.ServerId.{ServerId}
use Rattle.xa_types.specs.declared.ids.Generation.{Generation}
use Rattle.xa_types.specs.declared.stamp.Stamp.{Stamp}
use Rattle.xa_types.specs.declared.stamp.Worn.{Worn}
use Rattle.xa_events.specs.declared.event.Event.{Event}
use Rattle.xa_events.specs.declared.event.Event.TheVariants.{Gone, Down, Close}
use Rattle.xa_lock.specs.declared.makers.Made.{Made}
use Rattle.xa_queue.specs.declared.entry.Entry.{Entry}
use Rattle.xa_stamp.specs.declared.told.Noted.{Noted}
use Rattle.xa_queue.specs.declared.told.GivenUp.{GivenUp}
use Rattle.xa_queue.specs.declared.told.Outgoing.{Outgoing}
use Rattle.xa_queue.specs.declared.queue.PutRefused.{PutRefused}
use Rattle.xa_queue.specs.declared.queue.Refusal.TheVariants as refusals
use Rattle.xa_queue.specs.declared.queue.Taken.{Taken}
use Rattle.xa_queue.specs.declared.queue.Taken.TheVariants as takes
use Rattle.xa_queue.specs.Queue.{none_left}
use Rattle.xa_queue.specs.Changes.{Notes, NotesAs, IsWorn, put_refused, with_entry, with_gone, Takes, Sweeps}
use Rattle.xa_held.specs.declared.cargo.Cargo.{Cargo}
use Rattle.xa_held.specs.Notes.{one, told}
use Rattle.xa_held.specs.Kept.{Kept, IsRight, IsBrought, IsSentLast}

module _ {A : Type 0} (Change : List Made → (Kept A → Kept A → Type 0) → Type 0) where
  -- nothing is noted and nothing changes: of the queue this holds
  abbrev pub Stays : (Kept A → Type 0) → Type 0
  Stays Holds = Change [] (λ old new. (new ≡ old) × Holds old)

  -- stamps would pass their end
  abbrev pub WornOut : Stamp → Worn → Type 0
  WornOut seen worn = Stays (λ old. IsWorn seen worn old.queue old.queue)

  -- they would with the event of an entry that waits
  abbrev pub WornAtEntry : Stamp → Worn → Type 0
  WornAtEntry seen worn = Stays (λ old. IsWorn seen worn old.queue old.queue × (0 < length old.queue.waiting))

  abbrev pub PutAs : Stamp → CallerId → Event → Entry (Cargo A) → Result Stamp (PutRefused (Cargo A)) → Type 0
  PutAs seen maker event entry (Ok stamp) = Change (one maker stamp event) (λ old new. (put_refused seen old.queue ≡ None) × Notes seen maker stamp event (with_entry entry old.queue) new.queue old.queue)
  PutAs seen maker event entry (Err back) = (back.entry ≡ entry) × Stays (λ old. (put_refused seen old.queue ≡ Some back.why) ⊎ (back.why ≡ refusals.NoMemory))

  abbrev pub TookAs : Stamp → CallerId → ServerId → Generation → Result (Taken (Cargo A)) Worn → Type 0
  TookAs seen maker server generation (Ok (takes.Request out)) = Change (told maker out.noted) (λ old new. Takes seen maker server generation out new.queue old.queue × IsRight old.cells out.entry × IsBrought old.queue.entries out.entry × IsSentLast old.queue out.entry)
  TookAs seen maker server generation (Ok takes.Empty) = Stays (λ old. (old.queue.waiting ≡ []) × (old.queue.closed ≡ false))
  TookAs seen maker server generation (Ok takes.Closed) = Stays (λ old. (old.queue.waiting ≡ []) × (old.queue.closed ≡ true))
  TookAs seen maker server generation (Err worn) = WornAtEntry seen worn

  abbrev pub GaveUpAs : Stamp → CallerId → ServerId → Result GivenUp Worn → Type 0
  GaveUpAs seen maker server (Ok done) = Change (told maker done.noted) (λ old new. NotesAs seen maker done.noted (Gone server) (with_gone server old.queue) new.queue old.queue × (done.last ≡ none_left new.queue))
  GaveUpAs seen maker server (Err worn) = WornOut seen worn

  abbrev pub WentDownAs : Stamp → CallerId → Result (Option Noted) Worn → Type 0
  WentDownAs seen maker (Ok None) = Stays (λ old. old.queue.down ≡ true)
  WentDownAs seen maker (Ok (Some noted)) = Change (told maker noted) (λ old new. (old.queue.down ≡ false) × NotesAs seen maker noted (Down old.queue.id) (record old.queue { down = true }) new.queue old.queue)
  WentDownAs seen maker (Err worn) = WornOut seen worn

  abbrev pub SweptAs : Stamp → CallerId → Result (Option (Outgoing (Cargo A))) Worn → Type 0
  SweptAs seen maker (Ok None) = Stays (λ old. old.queue.waiting ≡ [])
  SweptAs seen maker (Ok (Some out)) = Change (told maker out.noted) (λ old new. Sweeps seen maker out new.queue old.queue × IsRight old.cells out.entry × IsBrought old.queue.entries out.entry)
  SweptAs seen maker (Err worn) = WornAtEntry seen worn

  abbrev pub ClosedAs : Stamp → CallerId → Result (Option Noted) Worn → Type 0
  ClosedAs seen maker (Ok None) = Stays (λ old. old.queue.closed ≡ true)
  ClosedAs seen maker (Ok (Some noted)) = Change (told maker noted) (λ old new. (old.queue.closed ≡ false) × NotesAs seen maker noted (Close old.queue.id) (record old.queue { closed = true }) new.queue old.queue)
  ClosedAs seen maker (Err worn) = WornOut seen worn
