-- The clock, read off the events (this project's own).
use Rattle.std.specs.Prelude.{ℕ, ◌==◌, ◌||◌, Bool, true, false, List, Option, Some}
use Rattle.std.specs.List.{list_any}
use Rattle.xa_events.specs.declared.event.Event.{Event}
use Rattle.xa_events.specs.declared.event.Event.TheVariants.{Tick}
use Rattle.xa_events.specs.Words.{latest}

abbrev pub is_tick_to : ℕ → Event → Bool
is_tick_to tick (Tick t) = t.now == tick
is_tick_to tick _ = false

-- whether the clock has shown that tick; it begins with 0
unfoldable pub is_shown : ℕ → List Event → Bool
is_shown tick past = (tick == 0) || list_any (is_tick_to tick) past

abbrev pub is_tick : Event → Bool
is_tick (Tick t) = true
is_tick _ = false

abbrev pub tick_to : Option Event → ℕ
tick_to (Some (Tick t)) = t.now
tick_to _ = 0

-- what the clock shows; it begins with 0
unfoldable pub now : List Event → ℕ
now past = tick_to (latest is_tick past)
