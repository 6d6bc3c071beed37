-- What a check leaves, and what becomes of a request that a queue did not take (XATMI, TPEINVAL, TPESYSTEM and TPEBLOCK of tpcall; their order is
-- this project's own).
use Rattle.std.specs.Prelude.{◌≡◌, ℕ, ℤ, ◌<◌, Bool, true, false, List, Option, Some, None, Result, Ok, Err, slice_get}
use Rattle.xa_types.specs.declared.fault.Fault.{Fault}
use Rattle.xa_types.specs.declared.fault.Fault.TheVariants.{Inval, System, Block}
use Rattle.xa_types.specs.declared.row.Row.{Row}
use Rattle.xa_types.specs.declared.setup.Setup.{Setup}
use Rattle.xa_types.specs.declared.stamp.Stamp.{Stamp}
use Rattle.xa_types.specs.Setup.{capacity_of}
use Rattle.xa_events.specs.declared.event.Event.{Event}
use Rattle.xa_events.specs.declared.event.Event.TheVariants.{Accept}
use Rattle.xa_events.specs.declared.event.Evidence.{Evidence}
use Rattle.xa_events.specs.declared.event.Evidence.TheVariants.{Argument, AllDown, Queue}
use Rattle.xa_queue.specs.declared.entry.Entry.{Entry}
use Rattle.xa_cell.specs.declared.tokens.Seat.{Seat}
use Rattle.xa_cell.specs.Known.{known}
use Rattle.xa_cell.specs.Changes.{withdrawn}
use Rattle.xa_worker.specs.declared.work.Halt.{Halt}
use Rattle.xa_worker.specs.Work.{HaltsAt}
use Rattle.xa_caller.specs.declared.cargo.Filling.{Filling}
use Rattle.xa_caller.specs.declared.phase.Draft.{Draft}
use Rattle.xa_caller.specs.declared.phase.Phase.TheVariants.{Idle, Prepared}
use Rattle.xa_caller.specs.declared.outcomes.Stop.{Stop}
use Rattle.xa_caller.specs.declared.outcomes.Stop.TheVariants as stops
use Rattle.xa_caller.specs.declared.outcomes.Step.{Step}
use Rattle.xa_caller.specs.declared.outcomes.Step.TheVariants as steps
use Rattle.xa_caller.specs.declared.outcomes.Why.{Why}
use Rattle.xa_caller.specs.declared.outcomes.Why.TheVariants as reasons
use Rattle.xa_caller.specs.declared.outcomes.Aimed.{Aimed}
use Rattle.xa_caller.specs.declared.outcomes.Aimed.TheVariants as aims
use Rattle.xa_caller.specs.Drafts.{Cargo, accepted_by, entry_by}
use Rattle.xa_caller.specs.Caller.{CallerState}
use Rattle.xa_caller.specs.Changes.{Refuses}

abbrev pub step : Result Stamp Halt → Step
step (Ok stamp) = steps.Told stamp
step (Err halt) = steps.Halt halt

-- the call is refused by itself; where memory or stamps came to their end nothing changes
abbrev pub ChecksAs : ℕ → Stop → CallerState → CallerState → Type 0
ChecksAs op (stops.Refused stamp) new old = Refuses op Inval Argument stamp new old
ChecksAs op (stops.Halt halt) new old = HaltsAt old.work.stamp halt × (new ≡ old)

-- ---- aim

-- the entry by another row
abbrev pub aimed_at : Entry Cargo → Row → Option (Bool × ℤ) → Entry Cargo
aimed_at entry row asked = entry_by entry.request row asked entry.cargo.invocation.payload entry.cargo.ticket

-- the request is aimed by that row
pub record AimsAt (row : Row) (entry aimed : Entry Cargo) (event : Event) (new old : CallerState) : Type 0 where
  pub draft : Draft
  pub was : old.phase ≡ Prepared draft
  pub entered : aimed ≡ aimed_at entry row old.priority
  pub accepted : event ≡ Accept (accepted_by draft.op draft.asked.request draft.version row old.priority entry.cargo.invocation.payload)
  pub redrawn : Draft
  pub same : redrawn ≡ record draft { event = redrawn.event }
  pub drafted : redrawn.event.value ≡ event
  pub made : new ≡ record old { phase = Prepared redrawn }

-- it is aimed by the row at that attempt, or there is none; where it isn't aimed nothing changes
abbrev pub AimsAs : Entry Cargo → List Row → ℕ → Aimed → CallerState → CallerState → Type 0
AimsAs entry rows attempt (aims.At aimed event) new old = (row : Row) × (slice_get rows attempt ≡ Some row) × AimsAt row entry aimed event new old
AimsAs entry rows attempt (aims.Past back) new old = (slice_get rows attempt ≡ None) × (back ≡ entry) × (new ≡ old)
AimsAs entry rows attempt (aims.NoMemory back) new old = (back ≡ entry) × (new ≡ old)

-- what comes back of it
abbrev pub entry_in : Aimed → Entry Cargo
entry_in (aims.At aimed event) = aimed
entry_in (aims.Past back) = back
entry_in (aims.NoMemory back) = back

-- ---- unsent

-- a full queue is one of the setup, in which as many wait as may
abbrev pub MayBe : Setup → Why → Type 0
MayBe setup (reasons.Full queue n) = (0 < n) × (n ≡ capacity_of setup queue.0)
MayBe setup why = Unit {0}

-- by which fault and what evidence a request of that draft is refused, if it is
abbrev pub refused_for : Draft → Why → Bool → Option (Fault × Evidence)
refused_for draft reasons.AllShut no_block = Some (System, AllDown draft.version)
refused_for draft (reasons.Full queue n) true = Some (Block, Queue queue n)
refused_for draft (reasons.Full queue n) false = None
refused_for draft (reasons.Halt halt) no_block = None

-- where it isn't refused it has to wait, or the Halt is handed on
abbrev pub other_step : Why → Step
other_step (reasons.Halt halt) = steps.Halt halt
other_step why = steps.Wait

abbrev pub EndsAs : ℕ → Option (Fault × Evidence) → Step → Step → CallerState → CallerState → Type 0
EndsAs op (Some (fault, evidence)) other (steps.Told stamp) new left = Refuses op fault evidence stamp new left
EndsAs op (Some (fault, evidence)) other (steps.Halt halt) new left = HaltsAt left.work.stamp halt × (new ≡ left)
EndsAs op (Some (fault, evidence)) other steps.Wait new left = ⊥
EndsAs op (Some (fault, evidence)) other steps.Halted new left = ⊥
EndsAs op None other step new left = (step ≡ other) × (new ≡ left)

-- its place was given back in any case
pub record UnsentAs (cell : ℕ) (why : Why) (no_block : Bool) (step : Step) (new old : CallerState) : Type 0 where
  pub draft : Draft
  pub was : old.phase ≡ Prepared draft
  pub seat : Seat Filling
  pub back : known seat ≡ withdrawn cell (known old.seat)
  pub ends : EndsAs draft.op (refused_for draft why no_block) (other_step why) step new (record old { seat = seat; phase = Idle })
