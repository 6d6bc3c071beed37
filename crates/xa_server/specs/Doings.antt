-- What a server does, and with which cause its life may end (this project's own).
use Rattle.std.specs.Prelude.{◌≡◌, ℕ, Bool, true, cond, Option, Some, None}
use Rattle.xa_caller.specs.xa_types.declared.ids.Generation.{Generation}
use Rattle.xa_caller.specs.xa_events.declared.event.Doing.{Doing}
use Rattle.xa_caller.specs.xa_events.declared.event.Doing.TheVariants.{Off, Idle, Busy, Dying}
use Rattle.xa_caller.specs.xa_events.declared.event.Outcome.{Outcome}
use Rattle.xa_caller.specs.xa_events.declared.event.Outcome.TheVariants as outcomes
use Rattle.xa_caller.specs.xa_events.declared.event.StopCause.{StopCause}
use Rattle.xa_caller.specs.xa_events.declared.event.StopCause.TheVariants.{Exit}
use Rattle.xa_caller.specs.xa_events.Cases.{is_failure, is_starved}
use Rattle.xa_caller.specs.xa_queue.declared.entry.Entry.{Entry}
use Rattle.xa_caller.specs.Drafts.{Cargo}
use Rattle.xa_server.specs.declared.slot.Last.{Last}
use Rattle.xa_server.specs.declared.slot.Last.TheVariants.{Nothing, Well, Badly, Died, Starved}

-- the life that the server is in; 0 where it is off
abbrev pub life_in : Doing → Generation
life_in Off = record { 0 = 0 }
life_in (Idle generation) = generation
life_in (Busy generation request) = generation
life_in (Dying generation) = generation

abbrev pub IsBusy : Doing → Type 0
IsBusy (Busy generation request) = Unit {0}
IsBusy _ = ⊥

abbrev pub IsIdle : Doing → Type 0
IsIdle (Idle generation) = Unit {0}
IsIdle _ = ⊥

-- how many events the worker must have room for, so that the life can end
abbrev pub room_for : Doing → ℕ
room_for Off = 0
room_for (Idle generation) = 2
room_for (Busy generation request) = 2
room_for (Dying generation) = 1

-- the request that the server is busy with is in hand, and none where it is off or idle
abbrev pub InHand : Doing → Option (Entry Cargo) → Type 0
InHand (Busy generation request) (Some entry) = entry.request ≡ request
InHand (Busy generation request) None = ⊥
InHand (Dying generation) hand = Unit {0}
InHand doing hand = hand ≡ None

abbrev pub last_by : Outcome → Last
last_by (outcomes.Returned code payload) = Well
last_by (outcomes.Failed code payload) = Badly
last_by outcomes.BadReturn = Badly
last_by (outcomes.BadForward version) = Well
last_by outcomes.Died = Died
last_by outcomes.Starved = Starved

abbrev pub last_of : Option Outcome → Last
last_of None = Nothing
last_of (Some outcome) = last_by outcome

-- with which cause a life ends that isn't told to, and how the request in hand ends then
abbrev pub is_death : StopCause → Bool
is_death cause = cond (is_starved cause) true (is_failure cause)

abbrev pub outcome_of : StopCause → Outcome
outcome_of cause = cond (is_starved cause) outcomes.Starved outcomes.Died

-- with which cause a server that dies may stop
abbrev pub DyingStops : StopCause → Last → Type 0
DyingStops cause Died = is_failure cause ≡ true
DyingStops cause Starved = is_starved cause ≡ true
DyingStops cause _ = ⊥

-- with which cause a life may end, by how its last request ended
abbrev pub MayStop : StopCause → Doing → Last → Type 0
MayStop cause (Idle generation) last = cause ≡ Exit → last ≡ Badly
MayStop cause (Dying generation) last = DyingStops cause last
MayStop cause _ last = ⊥

abbrev pub IsAlive : Doing → Type 0
IsAlive (Idle generation) = Unit {0}
IsAlive (Busy generation request) = Unit {0}
IsAlive _ = ⊥
