-- What a server's worker asks, and what it leaves (this project's own).
use Rattle.std.specs.Prelude.{◌≡◌, true, List, [], ◌∷◌, Option, Some, None, IfSome}
use Rattle.xa_desk.specs.xa_pipe.Standing.{LifeState}
use Rattle.xa_desk.specs.xa_restart.Rule.{RestartState}
use Rattle.xa_desk.specs.xa_caller.declared.phase.Phase.TheVariants.{Idle}
use Rattle.xa_desk.specs.xa_server.Changes.{new_slot}
use Rattle.xa_desk.specs.xa_server.Served.{StarterShows}
use Rattle.xa_desk.specs.declared.domain.Domain.{Domain}
use Rattle.xa_desk.specs.Desks.{IsDesk, Leads}
use Rattle.xa_desk.specs.Halting.{IsStopAt}
use Rattle.xa_desk.specs.Serving.{IsServing}
use Rattle.xa_calls.specs.Going.{IsOut}
use Rattle.xa_server_worker.specs.declared.working.ServerWorker.{ServerWorker}
use Rattle.xa_server_worker.specs.Lives.{HasStarted, ServerShows}

abbrev pub cut_in : Option LifeState → List LifeState
cut_in None = []
cut_in (Some life) = life ∷ []

module _ {L T : Type 0} (d : Domain) (shows : T → StarterShows) where
  -- a worker that has done nothing, of a server that was never started
  pub record MayServe (worker : ServerWorker L T) : Type 0 where
    pub is : IsDesk d worker.desk
    pub serving : IsServing d worker.queue.0 worker.served.slot worker.desk
    pub restarts : RestartState
    pub fresh : worker.served.slot ≡ new_slot worker.served.slot.server restarts
    pub none : restarts.starts ≡ []
    pub own : worker.desk.caller.work.own ≡ []
    pub lives : worker.served.lives.items ≡ []
    pub cut : worker.cut ≡ None
    pub stopped : worker.stopped ≡ None
    pub name_is : (shows worker.served.starter).name ≡ worker.name
    pub unasked : HasStarted worker.name 0 0 (shows worker.served.starter)

  -- behind its work: its desk went on and may be left, or given up where it stopped before, nothing is in hand, its first start is counted, and it shows how its
  -- server lived
  pub record HasServed (old new : ServerWorker L T) : Type 0 where
    pub leads : Leads d old.desk new.desk
    pub id : new.desk.caller.work.id ≡ old.desk.caller.work.id
    pub clients : new.desk.caller.work.clients ≡ old.desk.caller.work.clients
    pub idle : new.stopped ≡ None → new.desk.caller.phase ≡ Idle
    pub out : IsOut new.desk
    pub hand : new.served.slot.hand ≡ None
    pub counted : new.counted ≡ true
    pub server : new.served.slot.server ≡ old.served.slot.server
    pub starter : (shows new.served.starter).name ≡ old.name
    pub shown : ServerShows d old.name old.queue.0 old.served.slot.server.0 new.desk new.served.lives.items (cut_in new.cut) (shows new.served.starter) (new.stopped ≡ None)
    pub halts : IfSome new.stopped (IsStopAt new.desk)
