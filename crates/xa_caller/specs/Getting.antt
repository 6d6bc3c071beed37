-- What a look for the answers of requests that are out comes to (XATMI, tpgetrply; that looks go in ascending order is this project's own).
use Rattle.std.specs.Prelude.{◌≡◌, ◌⊎◌, ℕ, ◌<◌, ◌^◌, Bool, true, false, List, [], ◌∷◌, ◌++◌, length, map, Option, Some, None}
use Rattle.xa_types.specs.declared.ids.RequestId.{RequestId}
use Rattle.xa_types.specs.declared.data.Kind.{Kind}
use Rattle.xa_types.specs.declared.fault.Fault.TheVariants.{BadDesc}
use Rattle.xa_types.specs.declared.reply.Answer.{Answer as Reply}
use Rattle.xa_events.specs.declared.event.Event.TheVariants.{NotYet}
use Rattle.xa_events.specs.declared.event.Evidence.TheVariants.{Descriptor}
use Rattle.xa_cell.specs.declared.tokens.Seat.{Seat}
use Rattle.xa_cell.specs.declared.view.View.{View}
use Rattle.xa_cell.specs.Views.{at}
use Rattle.xa_cell.specs.Known.{known}
use Rattle.xa_cell.specs.Calls.{TookAs}
use Rattle.xa_cell.specs.Changes.{looked}
use Rattle.xa_worker.specs.declared.work.Halt.{Halt}
use Rattle.xa_worker.specs.declared.work.Halt.TheVariants.{Worn}
use Rattle.xa_worker.specs.Work.{HaltsAt, seeing}
use Rattle.xa_caller.specs.declared.cargo.Filling.{Filling}
use Rattle.xa_caller.specs.declared.phase.Open.{Open}
use Rattle.xa_caller.specs.declared.phase.Phase.TheVariants.{Lost}
use Rattle.xa_caller.specs.declared.outcomes.Step.{Step}
use Rattle.xa_caller.specs.declared.outcomes.Step.TheVariants as steps
use Rattle.xa_caller.specs.Phases.{request_of}
use Rattle.xa_caller.specs.Descriptors.{StandsAt}
use Rattle.xa_caller.specs.Caller.{CallerState}
use Rattle.xa_caller.specs.Changes.{Notes, Fetches, NotOpen}
use Rattle.xa_caller.specs.Unsent.{EndsAs}

-- ---- looks

-- the looks at the cells of these requests, in order, where no answer had come
abbrev pub after_pending : List Open → View Filling → View Filling
after_pending [] v = v
after_pending (o ∷ os) v = after_pending os (looked o.place.cell 1 v)

-- the answer of the one at this place had come, and of none before
pub record ComesAt (place : ℕ) (out : List Open) (v w : View Filling) : Type 0 where
  pub sent : Open
  pub stood : StandsAt place sent out
  pub view : w ≡ looked sent.place.cell 0 (after_pending stood.front v)
  pub settled : 0 < (at sent.place.cell w).settled

-- the place of the first whose answer had come, if there is one
abbrev pub LooksAs : List Open → View Filling → View Filling → Option ℕ → Type 0
LooksAs out v w None = w ≡ after_pending out v
LooksAs out v w (Some place) = ComesAt place out v w

-- these are among those
abbrev pub AreAmong : List Open → List Open → Type 0
AreAmong [] out = Unit {0}
AreAmong (o ∷ os) out = ((front : List Open) × (back : List Open) × (out ≡ front ++ o ∷ back)) × AreAmong os out

-- ---- an answer that has come

-- the answer was taken from the cell, and stamps had come to their end: nothing was noted, and it is lost
pub record LosesOut (front : List Open) (sent : Open) (back : List Open) (halt : Halt) (new old : CallerState) : Type 0 where
  pub filling : Filling
  pub reply : Reply
  pub says : filling.answer ≡ Some reply
  pub took : TookAs sent.place.cell filling (known old.seat) (known new.seat)
  pub worn : (seeing filling.stamp old.work).stamp.0 ≡ 2 ^ 63
  pub last : halt ≡ Worn (seeing filling.stamp old.work).stamp
  pub made : new ≡ record old { work = seeing filling.stamp old.work; seat = new.seat; out = front ++ back; phase = Lost sent.request }

-- the cell was filled without an answer, since the run halts: nothing was noted
pub record AbandonsOut (front : List Open) (sent : Open) (back : List Open) (new old : CallerState) : Type 0 where
  pub filling : Filling
  pub none : filling.answer ≡ None
  pub took : TookAs sent.place.cell filling (known old.seat) (known new.seat)
  pub made : new ≡ record old { seat = new.seat; out = front ++ back; phase = Lost sent.request }

-- what the answer of a request that is out comes to, where a look found that it has come
abbrev pub FetchesAs : ℕ → Option Kind → List Open → Open → List Open → Step → CallerState → CallerState → Type 0
FetchesAs op expect front sent back (steps.Told stamp) new old = Fetches op expect front sent back stamp new old
FetchesAs op expect front sent back (steps.Halt halt) new old = LosesOut front sent back halt new old
FetchesAs op expect front sent back steps.Halted new old = AbandonsOut front sent back new old
FetchesAs op expect front sent back steps.Wait new old = ⊥

-- that of the request at that place, counted from 0
abbrev pub FetchesAt : ℕ → Option Kind → ℕ → Step → CallerState → CallerState → Type 0
FetchesAt op expect place step new old = (sent : Open) × (stood : StandsAt place sent old.out) × FetchesAs op expect stood.front sent stood.back step new old

-- behind looks at those before, a look found that the answer of this one has come
pub record Finds (op : ℕ) (expect : Option Kind) (before front : List Open) (sent : Open) (back : List Open) (step : Step) (new old : CallerState) : Type 0 where
  pub was : old.out ≡ front ++ sent ∷ back
  pub seat : Seat Filling
  pub view : known seat ≡ looked sent.place.cell 0 (after_pending before (known old.seat))
  pub fetches : FetchesAs op expect front sent back step new (record old { seat = seat })

-- ---- none has come

-- a call that doesn't wait is told so, and else it has to wait
abbrev pub PendsAs : ℕ → Bool → List RequestId → Step → CallerState → CallerState → Type 0
PendsAs op true requests (steps.Told stamp) new old = Notes stamp (NotYet (record { by = old.work.id; op = op; requests = requests })) (record old { op = op }) new
PendsAs op true requests (steps.Halt halt) new old = HaltsAt old.work.stamp halt × (new ≡ old)
PendsAs op true requests step new old = ⊥
PendsAs op false requests steps.Wait new old = new ≡ old
PendsAs op false requests step new old = ⊥

-- looks at each of these found that no answer has come
pub record Pends (op : ℕ) (no_block : Bool) (looks : List Open) (step : Step) (new old : CallerState) : Type 0 where
  pub seat : Seat Filling
  pub view : known seat ≡ after_pending looks (known old.seat)
  pub pends : PendsAs op no_block (map request_of looks) step new (record old { seat = seat })

-- ---- a tpgetrply of one descriptor, or of any

abbrev pub BadDescriptor : ℕ → ℕ → Step → CallerState → CallerState → Type 0
BadDescriptor op descriptor step new old = EndsAs op (Some (BadDesc, Descriptor descriptor)) steps.Wait step new old

-- the descriptor isn't open; or it is, and its answer has come or hasn't
abbrev pub RepliesAs : ℕ → ℕ → Option Kind → Bool → Step → CallerState → CallerState → Type 0
RepliesAs op descriptor expect no_block step new old = (NotOpen op descriptor old × BadDescriptor op descriptor step new old)
    ⊎ ((front : List Open) × (sent : Open) × (back : List Open) × (old.out ≡ front ++ sent ∷ back) × (sent.request.number ≡ descriptor)
    × (Finds op expect [] front sent back step new old ⊎ Pends op no_block (sent ∷ []) step new old))

-- no descriptor is open; or the answer of one has come, and of none before it; or none has come
abbrev pub AnyAs : ℕ → Option Kind → Bool → Step → CallerState → CallerState → Type 0
AnyAs op expect no_block step new old = ((old.out ≡ []) × BadDescriptor op 0 step new old)
    ⊎ (((front : List Open) × (sent : Open) × (back : List Open) × Finds op expect front front sent back step new old)
    ⊎ ((0 < length old.out) × Pends op no_block old.out step new old))
