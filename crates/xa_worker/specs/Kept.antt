-- How the work of a worker is kept. No public contract rests on this file.
use Rattle.std.specs.Prelude.{◌≡◌, ◌<◌, ◌≤◌, ◌^◌}
use Rattle.std.specs.List.{filter}
use Rattle.xa_events.specs.Homes.Home.{CallerHome}
use Rattle.xa_stamp.specs.Home.{last_stamp}
use Rattle.xa_worker.specs.Crew.{no_stamp, stands_at}
use Rattle.xa_worker.specs.declared.work.Work.TheInside.{Inside}
use Rattle.xa_worker.specs.Work.{WorkState, IsSound}

abbrev pub standing_of : Inside → WorkState
standing_of w = record { setup = w.setup.value; clients = w.clients; id = w.id; stamp = w.stamp; own = w.own; room = w.room }

pub record IsKept (w : Inside) : Type 0 where
  pub sound : IsSound (standing_of w)
  pub some : 0 < w.id.0
  pub latest : w.latest.0 ≡ last_stamp no_stamp w.own
  pub reached : w.latest.0 ≤ w.stamp.0
  pub bound : w.stamp.0 ≤ 2 ^ 63
  pub home_latest : last_stamp w.home.first w.home.entries ≤ w.stamp.0
  pub here : w.home.entries ≡ filter (stands_at w.setup.value w.clients (CallerHome w.id.0)) w.own
  pub room : w.room ≤ w.home.room
