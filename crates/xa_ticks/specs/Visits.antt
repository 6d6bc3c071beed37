-- What a worker's pass knows of the clock, and what a step there makes of it (this project's own).
use Rattle.std.specs.Prelude.{◌≡◌, ◌⊎◌, ℕ, ◌≤◌, ◌^◌, true, List, [], ◌∷◌, ◌++◌, Some, None, Result, Ok, Err}
use Rattle.std.specs.List.{All}
use Rattle.xa_types.specs.declared.ids.CallerId.{CallerId}
use Rattle.xa_types.specs.declared.stamp.Stamp.{Stamp}
use Rattle.xa_stamp.specs.declared.home.Stamped.{Stamped}
use Rattle.xa_stamp.specs.Home.{last_stamp}
use Rattle.xa_lock.specs.declared.makers.Made.{Made}
use Rattle.xa_lock.specs.declared.pass.Page.{Page}
use Rattle.xa_lock.specs.Makers.{maker_of, noted_in}
use Rattle.xa_lock.specs.Pages.{Knows}
use Rattle.xa_ticks.specs.declared.clock.Moment.{Moment}
use Rattle.xa_ticks.specs.declared.clock.TickRefused.{TickRefused}
use Rattle.xa_ticks.specs.declared.clock.TickRefused.TheVariants.{NoMemory}
use Rattle.xa_events.specs.Clock.{is_shown}
use Rattle.xa_worker.specs.Crew.{no_stamp}
use Rattle.xa_worker.specs.Seen.{past_in}
use Rattle.xa_ticks.specs.Clock.{ClockState, ReadsAsNoted, Advances, now_of, made_in, tick_by, tick_refused}

-- the pass found the clock as `old`, of which it knew this much, noted these events behind all that stood there, and left it as `new`, which it has
-- seen
pub record ClockVisits (p p' : Page Made) (more : List Stamped) (How : ClockState → ClockState → Type 0) : Type 0 where
  pub old : ClockState
  pub new : ClockState
  pub knew : Knows maker_of p (made_in old.entries)
  pub grew : new.entries ≡ old.entries ++ more
  pub maker : p'.maker ≡ p.maker
  pub own : p'.own ≡ p.own ++ made_in more
  pub saw : p'.seen ≡ made_in new.entries
  pub reads : ReadsAsNoted new
  pub how : How old new

-- no event that the pass has seen has a greater stamp than that, which is at most 2^63, and is that of the last of them, or 0 where it saw none
pub record ReachesClock (p : Page Made) (last : Stamp) : Type 0 where
  pub each : All (λ noted. noted.stamp.0 ≤ last.0) (noted_in p.seen)
  pub bound : last.0 ≤ 2 ^ 63
  pub is : last.0 ≡ last_stamp no_stamp (noted_in p.seen)

-- the clock was looked at, and shows this
abbrev pub ReadAs : Page Made → Page Made → ℕ → Type 0
ReadAs p p' tick = ClockVisits p p' [] (λ old new. (new ≡ old) × (tick ≡ now_of old))

-- the caller moved the clock on, or nothing changes
abbrev pub TickedAs : Page Made → Page Made → Stamp → CallerId → ℕ → ℕ → Result Moment TickRefused → Type 0
TickedAs p p' seen by op n (Ok moment) = ClockVisits p p' (record { stamp = moment.stamp; event = tick_by by op moment.now } ∷ []) (λ old new. (tick_refused seen n old ≡ None) × Advances seen by op n moment new old)
TickedAs p p' seen by op n (Err why) = ClockVisits p p' [] (λ old new. (new ≡ old) × ((tick_refused seen n old ≡ Some why) ⊎ (why ≡ NoMemory)))

-- the pass saw the clock show this tick
abbrev pub HasShown : ℕ → Page Made → Type 0
HasShown tick p = is_shown tick (past_in (noted_in p.seen)) ≡ true
