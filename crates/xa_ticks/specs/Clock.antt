-- The clock as it stands, how it reads, and what moves it on (this project's own).
use Rattle.std.specs.Prelude.{◌≡◌, ℕ, ◌+◌, ◌<◌, ◌≤◌, ◌^◌, ◌==◌, nat_lt, true, if◌then◌else◌, List, map, reverse, Option, Some, None}
use Rattle.std.specs.List.{All}
use Rattle.xa_types.specs.declared.ids.CallerId.{CallerId}
use Rattle.xa_types.specs.declared.stamp.Stamp.{Stamp}
use Rattle.xa_types.specs.declared.setup.Setup.{Setup}
use Rattle.xa_events.specs.declared.event.Event.{Event}
use Rattle.xa_events.specs.declared.event.Event.TheVariants.{Tick}
use Rattle.xa_events.specs.Words.{AtEach}
use Rattle.xa_events.specs.Clock.{is_tick, now}
use Rattle.xa_events.specs.Cases.{HomePart}
use Rattle.xa_stamp.specs.declared.home.Stamped.{Stamped}
use Rattle.xa_stamp.specs.Home.{Rises, last_stamp, larger_of, with_event}
use Rattle.xa_worker.specs.Crew.{no_stamp}
use Rattle.xa_worker.specs.Seen.{past_in}
use Rattle.xa_lock.specs.declared.makers.Made.{Made}
use Rattle.xa_ticks.specs.declared.clock.Moment.{Moment}
use Rattle.xa_ticks.specs.declared.clock.TickRefused.{TickRefused}
use Rattle.xa_ticks.specs.declared.clock.TickRefused.TheVariants.{Past, Worn}

-- what a clock is: its events, in order
pub record ClockState : Type 0 where
  pub entries : List Stamped

-- what a clock with these entries shows
abbrev pub shown_in : List Stamped → ℕ
shown_in entries = now (past_in entries)

abbrev pub now_of : ClockState → ℕ
now_of clock = shown_in clock.entries

-- the stamp of the last tick; 0 where there was none
abbrev pub stamp_of : ClockState → ℕ
stamp_of clock = last_stamp no_stamp clock.entries

-- the larger of a stamp that was seen and of the last one
abbrev pub larger : Stamp → ClockState → ℕ
larger seen clock = larger_of seen no_stamp clock.entries

-- who moved the clock
abbrev pub mover : Event → CallerId
mover (Tick t) = t.by
mover _ = record { 0 = 0 }

-- the entries with their makers: each tick is of the caller that moved the clock
abbrev pub made_of : Stamped → Made
made_of x = record { maker = mover x.event; noted = x }

abbrev pub made_in : List Stamped → List Made
made_in entries = map made_of entries

-- each event is a tick and met what is asked of the clock's events, stamps rise, and the clock shows at most 2^62
pub record ReadsAsNoted (clock : ClockState) : Type 0 where
  pub ticks : All (λ x. is_tick x.event ≡ true) clock.entries
  pub met : (setup : Setup) → AtEach (HomePart setup) (past_in clock.entries)
  pub rises : Rises no_stamp clock.entries
  pub bound : now_of clock ≤ 2 ^ 62

-- that caller moved the clock on to that tick
abbrev pub tick_by : CallerId → ℕ → ℕ → Event
tick_by by op tick = Tick (record { by = by; op = op; now = tick })

-- why the clock isn't moved on so far, by the first that bars it: it would pass 2^62, or stamps would pass their end
abbrev pub tick_refused : Stamp → ℕ → ClockState → Option TickRefused
tick_refused seen n clock = if nat_lt (2 ^ 62) (now_of clock + n) then Some (Past (now_of clock)) else (if larger seen clock == 2 ^ 63 then Some (Worn (record { 0 = 2 ^ 63 })) else None)

-- the clock moved on by n, with the next stamp, which is at most 2^63
pub record Advances (seen : Stamp) (by : CallerId) (op n : ℕ) (moment : Moment) (new old : ClockState) : Type 0 where
  pub sum : moment.now ≡ now_of old + n
  pub least : now_of old + n ≤ 2 ^ 62
  pub fresh : larger seen old < 2 ^ 63
  pub next : moment.stamp.0 ≡ larger seen old + 1
  pub made : new ≡ record { entries = with_event moment.stamp (tick_by by op moment.now) old.entries }
