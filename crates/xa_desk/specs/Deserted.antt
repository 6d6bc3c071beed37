-- Which event of its own a worker that clears a queue without servers stands behind (after Tuxedo, where a server is given up; that the worker of the
-- queue's last server does so is this project's own).
use Rattle.std.specs.Prelude.{◌≡◌, ℕ, ◌<◌, ◌≤◌, List}
use Rattle.std.specs.List.{All, Contains}
use Rattle.xa_server.specs.xa_types.declared.ids.ServerId.{ServerId}
use Rattle.xa_server.specs.xa_types.declared.setup.Setup.{Setup}
use Rattle.xa_server.specs.xa_types.declared.stamp.Stamp.{Stamp}
use Rattle.xa_server.specs.xa_types.Setup.{queue_of}
use Rattle.xa_server.specs.xa_events.declared.event.Event.{Event}
use Rattle.xa_server.specs.xa_events.declared.event.Event.TheVariants.{Withdraw, Sweep, Gone, Down}
use Rattle.xa_server.specs.xa_events.Homes.{Home}
use Rattle.xa_server.specs.xa_events.Homes.Home.{QueueHome}
use Rattle.xa_server.specs.xa_events.Server.{AllGone}
use Rattle.xa_server.specs.xa_stamp.declared.home.Stamped.{Stamped}
use Rattle.xa_server.specs.xa_lock.Pages.{StartsWith}
use Rattle.xa_server.specs.xa_worker.Seen.{past_in}

-- before that stamp the worker, which noted these, gave a server of the queue up, and as that was noted each server of the queue had been given up there
pub record GaveUpLast (setup : Setup) (queue : ℕ) (entries own : List Stamped) (stamp : Stamp) : Type 0 where
  pub server : ServerId
  pub its : queue_of setup server.0 ≡ queue
  pub reach : Stamp
  pub stands : Contains own (record { stamp = reach; event = Gone server })
  pub before : reach.0 < stamp.0
  pub front : List Stamped
  pub begins : StartsWith entries front
  pub until : All (λ (x : Stamped). x.stamp.0 ≤ reach.0) front
  pub all : AllGone setup queue (past_in front)

-- where the homes have these entries, the worker withdraws a row of a queue for the domain, takes it down or sweeps a request there only behind that
abbrev pub ClearsBehind : Setup → (Home → List Stamped) → List Stamped → Stamp → Event → Type 0
ClearsBehind setup entries own stamp (Withdraw w) = w.by.0 ≡ 0 → GaveUpLast setup w.queue.0 (entries (QueueHome w.queue.0)) own stamp
ClearsBehind setup entries own stamp (Sweep x) = GaveUpLast setup x.queue.0 (entries (QueueHome x.queue.0)) own stamp
ClearsBehind setup entries own stamp (Down queue) = GaveUpLast setup queue.0 (entries (QueueHome queue.0)) own stamp
ClearsBehind setup entries own stamp e = Unit {0}
