-- Parts of the cases that a function decides by itself.
use Rattle.std.specs.Prelude.{◌≡◌, ◌⊎◌, ℕ, ◌+◌, ◌≤◌, Bool, true, false, List, length, Option, Some, None, slice_get}
use Rattle.std.specs.Str.{bytes_eq}
use Rattle.xa_types.specs.declared.row.Row.{Row}
use Rattle.xa_events.specs.declared.event.Event.{Event}
use Rattle.xa_events.specs.declared.event.Started.{Started}
use Rattle.xa_events.specs.declared.event.Stopped.{Stopped}
use Rattle.xa_events.specs.declared.event.Lapsed.{Lapsed}
use Rattle.xa_events.specs.declared.event.Doing.TheVariants.{Idle, Dying}
use Rattle.xa_events.specs.State.{caller_of}
use Rattle.xa_events.specs.Server.{doing, starts, last_outcome}
use Rattle.xa_events.specs.Caller.{last_op, just_accepted, tick_floor}
use Rattle.xa_events.specs.Cases.{idle_stops, dying_stops}

-- the start has the next number, at a tick that the server may read
abbrev pub IsNextStart : ℕ → Started → List Event → Type 0
IsNextStart clients b past = (b.generation.0 ≡ length (starts b.server.0 past) + 1) × (tick_floor clients (caller_of clients b.server.0) past ≤ b.tick)

abbrev pub IsAlive : Stopped → List Event → Type 0
IsAlive x past = ((doing x.server.0 past ≡ Idle x.generation) × (idle_stops x.cause (last_outcome x.server.0 past) ≡ true))
    ⊎ ((doing x.server.0 past ≡ Dying x.generation) × (dying_stops x.cause (last_outcome x.server.0 past) ≡ true))

abbrev pub IsLapseOp : Lapsed → List Event → Type 0
IsLapseOp l past = ((l.of_call ≡ false) × (l.op ≡ last_op l.by.0 past + 1))
    ⊎ ((l.of_call ≡ true) × (l.op ≡ last_op l.by.0 past) × (length l.requests ≡ 1) × (just_accepted l.by.0 past ≡ slice_get l.requests 0))

-- there is a row, with that routine
abbrev pub is_routine : List ℕ → Option Row → Bool
is_routine routine None = false
is_routine routine (Some row) = bytes_eq row.routine routine
