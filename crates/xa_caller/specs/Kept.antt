-- How a caller is kept. No public contract rests on this file.
use Rattle.std.specs.Prelude.{◌≡◌, ℕ, zero, suc, ℤ, ◌+◌, ◌<◌, ◌≤◌, Bool, true, false, List, [], ◌∷◌, ◌++◌, length, map, Option}
use Rattle.xa_types.specs.declared.ids.RequestId.{RequestId}
use Rattle.xa_cell.specs.declared.view.View.{View}
use Rattle.xa_caller.specs.declared.phase.Open.{Open}
use Rattle.xa_caller.specs.Descriptors.{InOrder}
use Rattle.xa_types.specs.declared.ids.CallerId.{CallerId}
use Rattle.xa_types.specs.declared.setup.Setup.{Setup}
use Rattle.xa_types.specs.declared.call.Mode.TheVariants.{Reply}
use Rattle.xa_types.specs.Kind.{is_sound}
use Rattle.xa_events.specs.declared.event.Event.TheVariants.{Accept}
use Rattle.xa_events.specs.declared.event.Accepted.{Accepted}
use Rattle.xa_events.specs.Cases.{priority_by}
use Rattle.xa_events.specs.Caller.{descriptor_limit, is_client}
use Rattle.xa_cell.specs.declared.tokens.Seat.{Seat}
use Rattle.xa_cell.specs.Views.{at}
use Rattle.xa_cell.specs.Known.{known}
use Rattle.xa_caller.specs.declared.cargo.Filling.{Filling}
use Rattle.xa_cell.specs.Places.{OpenAre}
use Rattle.xa_worker.specs.Work.{WorkState}
use Rattle.xa_caller.specs.declared.caller.Caller.TheInside.{Inside}
use Rattle.xa_caller.specs.declared.phase.Draft.{Draft}
use Rattle.xa_caller.specs.declared.phase.Phase.{Phase}
use Rattle.xa_caller.specs.declared.phase.Phase.TheVariants.{Idle, Prepared, Sent, Lost}
use Rattle.xa_caller.specs.Phases.{request_of, place_of, places_in, drafted}
use Rattle.xa_caller.specs.Caller.{CallerState, IsSound, Ascends, view_of, room_to_send}

abbrev pub standing_of : Inside → CallerState
standing_of c = record { work = c.work; seat = c.seat; op = c.op; sent = c.sent; least = c.least; priority = c.priority; out = c.out.all; phase = c.phase }

-- the draft is of the caller's next request
pub record IsDraft (setup : Setup) (id : CallerId) (op sent least : ℕ) (priority : Option (Bool × ℤ)) (draft : Draft) : Type 0 where
  pub accepted : Accepted
  pub is : draft.event.value ≡ Accept accepted
  pub by : accepted.by ≡ id
  pub next : accepted.op ≡ op + 1
  pub of_draft : accepted.op ≡ draft.op
  pub request : accepted.request ≡ draft.asked.request
  pub mine : accepted.request ≡ record { caller = id; number = sent + 1 }
  pub mode : accepted.mode ≡ Reply
  pub sound : is_sound setup accepted.payload ≡ true
  pub version : accepted.version ≡ draft.version
  pub recent : least ≤ draft.version
  pub priority_is : accepted.priority ≡ priority_by setup accepted.service priority

-- the sum over so many numbers from the first one on
abbrev pub sum_over : (ℕ → ℕ) → ℕ → ℕ → ℕ
sum_over f first zero = 0
sum_over f first (suc n) = f first + sum_over f (suc first) n

-- whether a cell is in use as far as its owner knows: a place is open there, or its ticket isn't known to be spent
abbrev pub used : List RequestId → ℕ → ℕ
used [] zero = 1
used [] (suc n) = 0
used (q ∷ qs) n = 1

abbrev pub open_at : View Filling → ℕ → ℕ
open_at v k = length (at k v).asked

abbrev pub used_at : View Filling → ℕ → ℕ
used_at v k = used (at k v).asked (at k v).settled

-- the caller has as many cells as it may have descriptors; of so many a place is open, at most one each; and at most so many are in use
pub record IsSeated (clients : ℕ) (id : CallerId) (seat : Seat Filling) (opens owed : ℕ) : Type 0 where
  pub limit : seat.count ≡ descriptor_limit clients id.0
  pub single : (k : ℕ) → open_at (known seat) k ≤ 1
  pub places : opens ≤ sum_over (open_at (known seat)) seat.first seat.count
  pub cells : sum_over (used_at (known seat)) seat.first seat.count ≤ owed

-- the requests are the caller's, with places at its own cells
abbrev pub AreMine : CallerId → ℕ → ℕ → List Open → Type 0
AreMine id first last [] = Unit {0}
AreMine id first last (o ∷ os) = (o.request.caller ≡ id) × (first ≤ o.place.cell) × (o.place.cell < last) × AreMine id first last os

-- they are out, in ascending order
pub record AreOut (id : CallerId) (seat : Seat Filling) (out : List Open) (sent : ℕ) : Type 0 where
  pub mine : AreMine id seat.first (seat.first + seat.count) out
  pub rise : Ascends 0 (map request_of out) sent

-- what holds of the requests that are out, by where the call stands: for each there is room for its answer. A draft is of the next request, and there
-- is room for one more that is out. Beside those that are out there is the room that is made to send one
abbrev pub Holds : Setup → CallerId → Seat Filling → ℕ → ℕ → ℕ → ℕ → Option (Bool × ℤ) → InOrder → Phase → Type 0
Holds setup id seat room op sent least priority out Idle = (length out.all ≤ room) × AreOut id seat out.all sent
Holds setup id seat room op sent least priority out (Prepared draft) = (length out.all + room_to_send ≤ room) × AreOut id seat out.all sent × (0 < out.room) × (seat.first ≤ draft.asked.place.cell) × (draft.asked.place.cell < seat.first + seat.count)
    × IsDraft setup id op sent least priority draft
Holds setup id seat room op sent least priority out (Sent sent') = (length out.all + room_to_send ≤ room) × AreOut id seat (out.all ++ sent' ∷ []) sent × (1 ≤ op)
Holds setup id seat room op sent least priority out (Lost request) = Unit {0}

pub record IsKept (c : Inside) : Type 0 where
  pub sound : IsSound (standing_of c)
  pub holds : Holds c.work.setup c.work.id c.seat c.work.room c.op c.sent c.least c.priority c.out c.phase
  pub places : OpenAre (places_in c.out.all c.phase) (known c.seat)
  pub seated : IsSeated c.work.clients c.work.id c.seat (length (places_in c.out.all c.phase)) (length (view_of c.work).unanswered + drafted c.phase)
  pub few : c.sent ≤ c.work.stamp.0

-- ---- a client that leaves

-- it has these descriptors open, with room to give each up, and no connection; it hasn't left
pub record IsLeaving (w : WorkState) (seat : Seat Filling) (out : List Open) : Type 0 where
  pub client : is_client w.clients w.id.0 ≡ true
  pub stands : (view_of w).left ≡ false
  pub descriptors : (view_of w).descriptors ≡ map request_of out
  pub unconnected : (view_of w).connections ≡ []
  pub high : ℕ
  pub rise : Ascends 0 (map request_of out) high
  pub mine : AreMine w.id seat.first (seat.first + seat.count) out
  pub places : OpenAre (map place_of out) (known seat)
  pub room : length out ≤ w.room
