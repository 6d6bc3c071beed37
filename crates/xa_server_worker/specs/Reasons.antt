-- Why a forward failed, as a server's worker shows it (after Tuxedo, tpforward; this project's own).
use Rattle.std.specs.Prelude.{◌≡◌, ℕ, List, ◌∷◌, ◌++◌}
use Rattle.xa_desk.specs.xa_types.declared.data.Data.{Data}
use Rattle.xa_desk.specs.xa_types.declared.stamp.Stamp.{Stamp}
use Rattle.xa_desk.specs.xa_events.declared.event.Event.{Event}
use Rattle.xa_desk.specs.xa_events.declared.event.Event.TheVariants.{End}
use Rattle.xa_desk.specs.xa_events.declared.event.Ended.{Ended}
use Rattle.xa_desk.specs.xa_events.Local.{worker_events}
use Rattle.xa_desk.specs.xa_events.State.{caller_of}
use Rattle.xa_desk.specs.xa_stamp.declared.home.Stamped.{Stamped}
use Rattle.xa_desk.specs.xa_worker.Seen.{past_in}
use Rattle.xa_desk.specs.xa_worker.Finishing.{ForwardEndsOwn}
use Rattle.xa_desk.specs.declared.domain.Domain.{Domain}
use Rattle.xa_desk.specs.declared.desk.Desk.{Desk}
use Rattle.xa_desk.specs.Whole.{Whole, entries_of}
use Rattle.xa_desk.specs.Desks.{GoesOn}

-- the worker noted the end of a request behind these events of its own, where it had seen why a forward to that service with that data fails
pub record ShowsReason (d : Domain) (desk : Desk) (service : List ℕ) (payload : Data) (e : Ended) (own : List Event) : Type 0 where
  pub front : List Stamped
  pub stamp : Stamp
  pub rest : List Stamped
  pub noted : desk.caller.work.own ≡ front ++ record { stamp = stamp; event = End e } ∷ rest
  pub before : own ≡ worker_events d.clients (caller_of d.clients e.server.0) (past_in front)
  pub shows : (whole : Whole) → GoesOn d whole desk → ForwardEndsOwn d.setup d.clients (entries_of whole) stamp service payload e e.outcome own
