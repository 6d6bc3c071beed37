-- How a clock is kept. No public contract rests on this file.
use Rattle.std.specs.Prelude.{◌≡◌}
use Rattle.xa_worker.specs.Crew.{no_stamp}
use Rattle.xa_ticks.specs.declared.clock.Clock.TheInside.{Inside}
use Rattle.xa_ticks.specs.Clock.{ClockState, ReadsAsNoted, now_of, stamp_of}

abbrev pub standing_of : Inside → ClockState
standing_of c = record { entries = c.home.entries }

pub record IsKept (c : Inside) : Type 0 where
  pub begins : c.home.first ≡ no_stamp
  pub reads : ReadsAsNoted (standing_of c)
  pub shows : c.moment.now ≡ now_of (standing_of c)
  pub last : c.moment.stamp.0 ≡ stamp_of (standing_of c)
