-- What is handed back of a domain whose workers are done (this project's own).
use Rattle.std.specs.Prelude.{◌≡◌, ℕ, List, map, Option, Some, None, IfSome}
use Rattle.std.specs.declared.vec.Vec.{Vec}
use Rattle.std.specs.declared.alloc.Global.{Global}
use Rattle.xa_boot.specs.xa_worker.declared.work.Halt.{Halt}
use Rattle.xa_boot.specs.xa_worker.declared.work.Halt.TheVariants.{NoMemory}
use Rattle.xa_boot.specs.xa_worker.Work.{WorkState}
use Rattle.xa_boot.specs.xa_pipe.Standing.{Ending}
use Rattle.xa_history.specs.xa_script.declared.script.Client.{Client}
use Rattle.xa_boot.specs.xa_server.Served.{StarterShows}
use Rattle.xa_boot.specs.xa_server_worker.declared.working.ServerWorker.{ServerWorker}
use Rattle.xa_boot.specs.xa_server_worker.Working.{cut_in}
use Rattle.xa_boot.specs.xa_desk.declared.desk.Desk.{Desk}
use Rattle.xa_boot.specs.xa_desk.declared.stopped.Stopped.{Stopped}
use Rattle.xa_boot.specs.xa_desk.declared.stopped.Stopped.TheVariants.{Here, Elsewhere}
use Rattle.xa_boot.specs.xa_desk.Whole.{IsKnown}
use Rattle.xa_boot.specs.declared.booting.Booted.{Booted}
use Rattle.xa_history.specs.Joined.{Back, whole_of}
use Rattle.xa_history.specs.Ended.{Ends, EndsWhole}
use Rattle.xa_domain.specs.declared.handing.Served.{Served}
use Rattle.xa_domain.specs.Gathered.{IsHaltAmong}
use Rattle.xa_domain.specs.Stops.{first_among, stops_of}
use Rattle.xa_domain.specs.Joined.{end_of}

-- why the run halted, by why its workers stopped
abbrev pub halt_of : Option Stopped → Option Halt
halt_of None = None
halt_of (Some (Here halt)) = Some halt
halt_of (Some Elsewhere) = Some NoMemory

-- all workers left, and these are all homes, lives and starters; where there was no halt the run came to its end, and else the first halt that a worker came
-- to itself is told
pub record HandsBack {L T : Type 0} (shows : T → StarterShows) (scripts : List Client) (booted : Booted L T) (h : Served L T) : Type 0 where
  pub b : Back
  pub domain : WorkState
  pub desks : List Desk
  pub ends : Ends booted.domain b domain desks (map (end_of shows) booted.servers.items) h.homes.homes (h.halt ≡ None)
  pub whole : h.halt ≡ None → EndsWhole booted.domain b desks (map (λ (c : Client). c.ops) scripts)
  pub halted : h.halt ≡ halt_of (first_among None (stops_of booted.clients.items booted.servers.items booted.closer))
  pub worn : IfSome h.halt (IsHaltAmong domain desks)
  pub known : IsKnown (whole_of booted.domain b) domain.stamp
  pub lives_are : map (λ (v : Vec Ending Global). v.items) h.lives.items ≡ map (λ (w : ServerWorker L T). w.served.lives.items) booted.servers.items
  pub cut_are : map cut_in h.cut.items ≡ map (λ (w : ServerWorker L T). cut_in w.cut) booted.servers.items
  pub starters_are : h.starters.items ≡ map (λ (w : ServerWorker L T). w.served.starter) booted.servers.items
