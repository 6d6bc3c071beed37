-- What each call of a caller leaves (this project's own).
use Rattle.std.specs.Prelude.{◌≡◌, ◌≢◌, ◌⊎◌, ℕ, ℤ, Bool, ◌+◌, ◌-◌, ◌≤◌, ◌^◌, max, true, false, List, length, map, slice_get, ◌++◌, Option, Some, None, IsSome, Result, Ok, Err, [], ◌∷◌}
use Rattle.std.specs.List.{find, Contains}
use Rattle.xa_types.specs.declared.ids.CallerId.{CallerId}
use Rattle.xa_types.specs.declared.ids.QueueId.{QueueId}
use Rattle.xa_types.specs.declared.stamp.Stamp.{Stamp}
use Rattle.xa_types.specs.declared.data.Data.{Data}
use Rattle.xa_types.specs.declared.data.Kind.{Kind}
use Rattle.xa_types.specs.declared.fault.Fault.{Fault}
use Rattle.xa_types.specs.declared.reply.Answer.{Answer as Reply}
use Rattle.xa_types.specs.declared.row.Row.{Row}
use Rattle.xa_types.specs.Found.{FoundRows}
use Rattle.xa_types.specs.Kind.{kind_of, is_accepted}
use Rattle.xa_events.specs.declared.event.Event.{Event}
use Rattle.xa_events.specs.declared.event.Event.TheVariants.{Advertise, Withdraw, Accept, Answer, Cancel, Refuse, Leave, Priority, Tick}
use Rattle.xa_events.specs.declared.event.Evidence.{Evidence}
use Rattle.xa_events.specs.declared.event.Evidence.TheVariants.{Version, Cells, Descriptor}
use Rattle.xa_types.specs.declared.setup.Setup.{Setup}
use Rattle.xa_types.specs.declared.fault.Fault.TheVariants.{NoEnt, IType, Limit, BadDesc}
use Rattle.xa_events.specs.Answers.{answer_to}
use Rattle.xa_frame.specs.Spelling.{IsAnswer}
use Rattle.xa_events.specs.Cases.{queue_by}
use Rattle.xa_events.specs.Caller.{version_in, is_client}
use Rattle.xa_cell.specs.Views.{at}
use Rattle.xa_cell.specs.Known.{known}
use Rattle.xa_cell.specs.Calls.{TookAs, CancelledAs}
use Rattle.xa_cell.specs.declared.owner.Cancelled.{Cancelled}
use Rattle.xa_events.specs.Cases.{is_numbered}
use Rattle.xa_cell.specs.Changes.{looked}
use Rattle.xa_cell.specs.declared.cells.Cells.{Cells as CellsOf}
use Rattle.xa_cell.specs.declared.tokens.Seat.{Seat}
use Rattle.xa_cell.specs.declared.view.Fill.{Fill}
use Rattle.xa_cell.specs.declared.view.View.{View}
use Rattle.xa_cell.specs.Calls.{Began, AllTaken}
use Rattle.xa_worker.specs.declared.work.Halt.{Halt}
use Rattle.xa_worker.specs.declared.work.Halt.TheVariants.{Worn}
use Rattle.xa_worker.specs.Work.{WorkState, noted, noted_here, seeing, HaltsAt}
use Rattle.xa_caller.specs.declared.cargo.Filling.{Filling}
use Rattle.xa_caller.specs.declared.phase.Open.{Open}
use Rattle.xa_caller.specs.declared.phase.Draft.{Draft}
use Rattle.xa_caller.specs.declared.phase.Phase.TheVariants.{Idle, Prepared, Sent, Lost}
use Rattle.xa_caller.specs.declared.outcomes.Prepared.{Prepared as Made}
use Rattle.xa_caller.specs.declared.outcomes.Stop.{Stop}
use Rattle.xa_caller.specs.declared.outcomes.Stop.TheVariants as stops
use Rattle.xa_caller.specs.declared.outcomes.Step.{Step}
use Rattle.xa_caller.specs.declared.outcomes.Step.TheVariants as steps
use Rattle.xa_caller.specs.Phases.{least_by, request_of}
use Rattle.xa_caller.specs.Drafts.{accepted_by, entry_by}
use Rattle.xa_caller.specs.Caller.{CallerState, room_to_send}

-- the event is noted with the next stamp of the caller as it stood then, and the caller is else as `left`
pub record Notes (stamp : Stamp) (event : Event) (left new : CallerState) : Type 0 where
  pub next : stamp.0 ≡ left.work.stamp.0 + 1
  pub bound : stamp.0 ≤ 2 ^ 63
  pub made : new ≡ record left { work = noted (record { stamp = stamp; event = event }) left.work }

-- ---- refuse

abbrev pub refused : ℕ → Fault → Evidence → CallerState → Event
refused op fault evidence c = Refuse (record { by = c.work.id; op = op; fault = fault; evidence = evidence })

-- the call is refused
abbrev pub Refuses : ℕ → Fault → Evidence → Stamp → CallerState → CallerState → Type 0
Refuses op fault evidence stamp new old = Notes stamp (refused op fault evidence old) (record old { op = op; least = least_by (version_in evidence) old.least }) new

-- ---- set_priority

-- the caller set the priority of its next request, absolute or to be added to the service's own
abbrev pub SetsPriority : ℕ → Bool → ℤ → Stamp → CallerState → CallerState → Type 0
SetsPriority op absolute amount stamp new old = Notes stamp (Priority (record { by = old.work.id; op = op; absolute = absolute; amount = amount })) (record old { op = op; priority = Some (absolute, amount) }) new

-- ---- leave

-- descriptors are given up, one after the other, and no call asks for it
abbrev pub GivesUp : List Open → WorkState → WorkState → Type 0
GivesUp [] new old = new ≡ old
GivesUp (o ∷ os) new old = (stamp : Stamp) × (stamp.0 ≡ old.stamp.0 + 1) × GivesUp os new (noted_here (record { stamp = stamp; event = Cancel (record { by = old.id; op = 0; request = o.request }) }) old)

-- a client gives up what is out, in ascending order, and leaves with the next stamp, or, where memory or stamps came to their end, without that event, and
-- maybe some of those before; the caller of a server leaves without one
abbrev pub LeavesAs : List Open → Option Halt → WorkState → WorkState → Type 0
LeavesAs out None new old = ((is_client old.clients old.id.0 ≡ true) × ((left : WorkState) × GivesUp out left old × ((stamp : Stamp) × (stamp.0 ≡ left.stamp.0 + 1) × (new ≡ noted (record { stamp = stamp; event = Leave old.id }) left))))
    ⊎ ((is_client old.clients old.id.0 ≡ false) × (new ≡ old))
LeavesAs out (Some halt) new old = (is_client old.clients old.id.0 ≡ true) × ((given : List Open) × (rest : List Open) × (out ≡ given ++ rest) × GivesUp given new old × HaltsAt new.stamp halt)

-- what the seat took and filled stands, and it filled no more
pub record FillsNoMore (v w : View Filling) : Type 0 where
  pub taken : (k : ℕ) (f : Fill Filling) → Contains (at k v).taken f → Contains (at k w).taken f
  pub filled : (k : ℕ) → (at k w).filled ≡ (at k v).filled

-- ---- prepare

-- the cell of the caller that the request got, and what it is put on a queue with
pub record Prepares (setup : Setup) (cells : CellsOf Filling) (op : ℕ) (payload : Data) (found : FoundRows) (prepared : Made) (new old : CallerState) : Type 0 where
  pub row : Row
  pub chosen : find (λ (row : Row). is_accepted setup row.accepts (kind_of payload)) found.rows ≡ Some row
  pub draft : Draft
  pub drawn : draft ≡ record { asked = record { request = record { caller = old.work.id; number = old.sent + 1 }; place = draft.asked.place }; op = op; version = found.version; event = draft.event }
  pub event : prepared.event ≡ Accept (accepted_by op (record { caller = old.work.id; number = old.sent + 1 }) found.version row old.priority payload)
  pub drafted : draft.event.value ≡ prepared.event
  pub entry : prepared.entry ≡ entry_by (record { caller = old.work.id; number = old.sent + 1 }) row old.priority payload prepared.entry.cargo.ticket
  pub began : Began cells (record { caller = old.work.id; number = old.sent + 1 }) old.seat new.seat draft.asked.place prepared.entry.cargo.ticket
  pub made : new ≡ record old { work = record old.work { room = max old.work.room (length old.out + room_to_send) }; seat = new.seat; phase = Prepared draft }

abbrev pub stop : Result Stamp Halt → Stop
stop (Ok stamp) = stops.Refused stamp
stop (Err halt) = stops.Halt halt

-- no row was found, or none that takes the kind of the data; where memory or stamps came to their end nothing changes
abbrev pub TurnsDown : ℕ → FoundRows → Stop → CallerState → CallerState → Type 0
TurnsDown op found (stops.Refused stamp) new old = ((found.rows ≡ []) × Refuses op NoEnt (Version found.version) stamp new old)
    ⊎ ((found.rows ≢ []) × Refuses op IType (Version found.version) stamp new old)
TurnsDown op found (stops.Halt halt) new old = HaltsAt old.work.stamp halt × (new ≡ old)

-- all cells were looked at, and none was free
pub record Limits (op : ℕ) (stamp : Stamp) (new old : CallerState) : Type 0 where
  pub seat : Seat Filling
  pub taken : AllTaken old.seat seat
  pub refuses : Refuses op Limit (Cells old.seat.count) stamp new (record old { work = record old.work { room = max old.work.room (length old.out + room_to_send) }; seat = seat })

-- nothing changes but that all cells were looked at
pub record LooksOver (new old : CallerState) : Type 0 where
  pub seat : Seat Filling
  pub taken : AllTaken old.seat seat
  pub made : new ≡ record old { work = record old.work { room = max old.work.room (length old.out + room_to_send) }; seat = seat }

-- why no request is made: no row that was found takes the kind of the data, or else all cells are in use, or memory or stamps came to their end
abbrev pub StopsAs : Setup → ℕ → Data → FoundRows → Stop → CallerState → CallerState → Type 0
StopsAs setup op payload found (stops.Refused stamp) new old =
    ((find (λ (row : Row). is_accepted setup row.accepts (kind_of payload)) found.rows ≡ None) × TurnsDown op found (stops.Refused stamp) new old)
    ⊎ (IsSome (find (λ (row : Row). is_accepted setup row.accepts (kind_of payload)) found.rows) × Limits op stamp new old)
StopsAs setup op payload found (stops.Halt halt) new old = HaltsAt old.work.stamp halt × ((new ≡ old) ⊎ LooksOver new old)

-- ---- changed

-- the caller changes a row of its server's queue by the call with that number, and makes that version
abbrev pub IsChangeOf : CallerState → ℕ → ℕ → CallerId → ℕ → QueueId → ℕ → Type 0
IsChangeOf c op version by number queue made = (by ≡ c.work.id) × (number ≡ op) × (queue_by c.work.setup c.work.clients c.work.id.0 ≡ queue.0) × (made ≡ version)

abbrev pub IsChangeBy : CallerState → ℕ → ℕ → Event → Type 0
IsChangeBy c op version (Advertise a) = IsChangeOf c op version a.by a.op a.queue a.version
IsChangeBy c op version (Withdraw w) = IsChangeOf c op version w.by w.op w.queue w.version
IsChangeBy c op version e = ⊥

-- its call changed the board
abbrev pub changed_by : Stamp → ℕ → ℕ → Event → CallerState → CallerState
changed_by stamp op version event c = record c { work = noted (record { stamp = stamp; event = event }) c.work; op = op; least = version }

-- its call moved the clock on to that tick
abbrev pub tick_of : CallerId → ℕ → ℕ → Event
tick_of by op tick = Tick (record { by = by; op = op; now = tick })

abbrev pub ticked_by : Stamp → ℕ → ℕ → CallerState → CallerState
ticked_by stamp op tick c = record c { work = noted (record { stamp = stamp; event = tick_of c.work.id op tick }) c.work; op = op }

-- ---- sent

-- the request was accepted as it was drafted, with that stamp, and what was set for its priority is set no more
pub record Sends (stamp : Stamp) (new old : CallerState) : Type 0 where
  pub draft : Draft
  pub was : old.phase ≡ Prepared draft
  pub made : new ≡ record old { work = noted (record { stamp = stamp; event = draft.event.value }) old.work; op = draft.op; sent = old.sent + 1; least = draft.version; priority = None; phase = Sent draft.asked }

-- the same of a tpacall: the request is out
pub record SendsApart (stamp : Stamp) (new old : CallerState) : Type 0 where
  pub draft : Draft
  pub was : old.phase ≡ Prepared draft
  pub made : new ≡ record old { work = noted (record { stamp = stamp; event = draft.event.value }) old.work; op = draft.op; sent = old.sent + 1; least = draft.version; priority = None; out = old.out ++ draft.asked ∷ []; phase = Idle }

-- ---- reply

-- the answer was taken from the cell, and the caller is told it, in room that was made when the request was sent; it has a spelling
pub record Answers (expect : Option Kind) (stamp : Stamp) (new old : CallerState) : Type 0 where
  pub sent : Open
  pub was : old.phase ≡ Sent sent
  pub room : length old.out + room_to_send ≤ old.work.room
  pub asked : (at sent.place.cell (known old.seat)).asked ≡ sent.request ∷ []
  pub filling : Filling
  pub reply : Reply
  pub says : filling.answer ≡ Some reply
  pub sound : IsAnswer (answer_to expect reply)
  pub took : TookAs sent.place.cell filling (looked sent.place.cell 0 (known old.seat)) (known new.seat)
  pub noted : Notes stamp (Answer (record { by = old.work.id; op = old.op; request = sent.request; answer = answer_to expect reply }))
      (record old { work = record (seeing filling.stamp old.work) { room = old.work.room - 1 }; seat = new.seat; phase = Idle }) new

-- the answer was taken from the cell, and stamps had come to their end: nothing was noted, and it is lost
pub record Loses (halt : Halt) (new old : CallerState) : Type 0 where
  pub sent : Open
  pub was : old.phase ≡ Sent sent
  pub filling : Filling
  pub reply : Reply
  pub says : filling.answer ≡ Some reply
  pub took : TookAs sent.place.cell filling (looked sent.place.cell 0 (known old.seat)) (known new.seat)
  pub worn : (seeing filling.stamp old.work).stamp.0 ≡ 2 ^ 63
  pub last : halt ≡ Worn (seeing filling.stamp old.work).stamp
  pub made : new ≡ record old { work = seeing filling.stamp old.work; seat = new.seat; phase = Lost sent.request }

-- the cell was filled without an answer, since the run halts: nothing was noted
pub record Abandons (new old : CallerState) : Type 0 where
  pub sent : Open
  pub was : old.phase ≡ Sent sent
  pub filling : Filling
  pub none : filling.answer ≡ None
  pub took : TookAs sent.place.cell filling (looked sent.place.cell 0 (known old.seat)) (known new.seat)
  pub made : new ≡ record old { seat = new.seat; phase = Lost sent.request }

-- what a look at the reply comes to; at the last stamp the answer is lost
abbrev pub StepsAs : Option Kind → Step → CallerState → CallerState → Type 0
StepsAs expect (steps.Told stamp) new old = Answers expect stamp new old
StepsAs expect steps.Wait new old = (sent : Open) × (old.phase ≡ Sent sent) × (known new.seat ≡ looked sent.place.cell 1 (known old.seat)) × (new ≡ record old { seat = new.seat })
StepsAs expect (steps.Halt halt) new old = Loses halt new old
StepsAs expect steps.Halted new old = Abandons new old

-- ---- reply, cancel

-- the answer of a request that is out was taken from its cell, and the caller is told it by that call, in room that was made for it; it has a spelling
pub record Fetches (op : ℕ) (expect : Option Kind) (front : List Open) (sent : Open) (back : List Open) (stamp : Stamp) (new old : CallerState) : Type 0 where
  pub was : old.out ≡ front ++ sent ∷ back
  pub asked : (at sent.place.cell (known old.seat)).asked ≡ sent.request ∷ []
  pub filling : Filling
  pub reply : Reply
  pub says : filling.answer ≡ Some reply
  pub sound : IsAnswer (answer_to expect reply)
  pub took : TookAs sent.place.cell filling (known old.seat) (known new.seat)
  pub noted : Notes stamp (Answer (record { by = old.work.id; op = op; request = sent.request; answer = answer_to expect reply }))
      (record old { work = record (seeing filling.stamp old.work) { room = old.work.room - 1 }; seat = new.seat; op = op; out = front ++ back }) new

-- a descriptor is given up, by that call
pub record Cancels (op : ℕ) (front : List Open) (sent : Open) (back : List Open) (stamp : Stamp) (new old : CallerState) : Type 0 where
  pub was : old.out ≡ front ++ sent ∷ back
  pub noted : Notes stamp (Cancel (record { by = old.work.id; op = op; request = sent.request })) (record old { work = record old.work { room = old.work.room - 1 }; seat = new.seat; op = op; out = front ++ back }) new
  pub cancelled : (answer : Cancelled Filling) × CancelledAs sent.place.cell (known old.seat) (known new.seat) answer

-- that of the request at that place, counted from 0
abbrev pub CancelsAt : ℕ → ℕ → Stamp → CallerState → CallerState → Type 0
CancelsAt op place stamp new old = (front : List Open) × (sent : Open) × (back : List Open) × (slice_get old.out place ≡ Some sent) × Cancels op front sent back stamp new old

-- the descriptor isn't open
abbrev pub NotOpen : ℕ → ℕ → CallerState → Type 0
NotOpen op descriptor old = is_numbered descriptor (map request_of old.out) ≡ false

-- what a tpcancel comes to
abbrev pub CancelsAs : ℕ → ℕ → Result Stamp Halt → CallerState → CallerState → Type 0
CancelsAs op descriptor (Ok stamp) new old = (NotOpen op descriptor old × Refuses op BadDesc (Descriptor descriptor) stamp new old)
    ⊎ ((front : List Open) × (sent : Open) × (back : List Open) × (sent.request.number ≡ descriptor) × Cancels op front sent back stamp new old)
CancelsAs op descriptor (Err halt) new old = HaltsAt old.work.stamp halt × (new ≡ old)
