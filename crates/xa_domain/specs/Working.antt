-- The workers of a domain behind their work (this project's own).
use Rattle.std.specs.Prelude.{◌≡◌, ◌<◌, ◌^◌, ℕ, ◌+◌, List, [], ◌∷◌, length, None, IfSome}
use Rattle.xa_boot.specs.xa_types.declared.call.Op.{Op}
use Rattle.xa_boot.specs.xa_types.Setup.{queue_of}
use Rattle.xa_history.specs.xa_script.declared.script.Client.{Client}
use Rattle.xa_boot.specs.xa_server.Served.{StarterShows}
use Rattle.xa_boot.specs.xa_desk.declared.domain.Domain.{Domain}
use Rattle.xa_boot.specs.xa_desk.declared.desk.Desk.{Desk}
use Rattle.xa_boot.specs.xa_desk.Desks.{IsDesk}
use Rattle.xa_boot.specs.xa_desk.Halting.{IsStopAt}
use Rattle.xa_boot.specs.xa_desk.Parting.{IsLeft}
use Rattle.xa_boot.specs.xa_calls.Going.{IsOut}
use Rattle.xa_boot.specs.xa_client_worker.declared.working.ClientWorker.{ClientWorker}
use Rattle.xa_boot.specs.xa_client_worker.declared.working.ClientWorker.TheVariants.{Left}
use Rattle.xa_boot.specs.xa_client_worker.declared.working.Ended.{Ended}
use Rattle.xa_boot.specs.xa_client_worker.Going.{AllCalls}
use Rattle.xa_boot.specs.xa_server_worker.declared.working.ServerWorker.{ServerWorker}
use Rattle.xa_boot.specs.xa_server_worker.Lives.{ServerShows}
use Rattle.xa_boot.specs.xa_server_worker.Working.{cut_in}
use Rattle.xa_history.specs.Ended.{HasMadeAll}

-- a client whose calls are built, and there are fewer than 2^32
pub record IsBuiltClient (client : Client) : Type 0 where
  pub calls : AllCalls client.ops
  pub few : length client.ops < 2 ^ 32

-- the client with that number left by a desk of the domain; where it didn't stop before, it made all of these calls
pub record IsGone (d : Domain) (client : ℕ) (ops : List Op) (ended : Ended) : Type 0 where
  pub desk : Desk
  pub left : IsLeft ended.done desk
  pub is : IsDesk d desk
  pub id : desk.caller.work.id.0 ≡ client
  pub clients : desk.caller.work.clients ≡ d.clients
  pub all : ended.stopped ≡ None → HasMadeAll d ops desk
  pub halts : IfSome ended.stopped (IsStopAt desk)

abbrev pub IsDone : Domain → ℕ → List Op → ClientWorker → Type 0
IsDone d client ops (Left ended) = IsGone d client ops ended
IsDone d client ops worker = ⊥

-- each of these clients, of which the first has that number, is done by its script
abbrev pub EachDone : Domain → ℕ → List Client → List ClientWorker → Type 0
EachDone d n [] [] = Unit {0}
EachDone d n (script ∷ scripts) (worker ∷ workers) = IsDone d n script.ops worker × EachDone d (n + 1) scripts workers
EachDone d n scripts workers = ⊥

-- the worker of the server with that number behind its work: its desk may be given up, nothing is in hand, and it shows how its server lived
pub record IsOver {L T : Type 0} (d : Domain) (shows : T → StarterShows) (server : ℕ) (worker : ServerWorker L T) : Type 0 where
  pub is : IsDesk d worker.desk
  pub id : worker.desk.caller.work.id.0 ≡ d.clients + server
  pub clients : worker.desk.caller.work.clients ≡ d.clients
  pub out : IsOut worker.desk
  pub hand : worker.served.slot.hand ≡ None
  pub shown : ServerShows d ((shows worker.served.starter).name) (queue_of d.setup server) server worker.desk worker.served.lives.items (cut_in worker.cut) (shows worker.served.starter) (worker.stopped ≡ None)
  pub halts : IfSome worker.stopped (IsStopAt worker.desk)
