use Rattle.std.proofs.Common.{ℕ, ◌+◌, List, length}
use Rattle.xa_history.specs.xa_script.declared.script.Client.{Client}
use Rattle.xa_domain.specs.Leaving.{Leaving}
use Rattle.xa_domain.specs.Gathering.{HasWorkerSpace, IsBeforeClients, HasClientsSo, KeepsServers}
use Rattle.xa_domain.proofs.gathering.add_clients.Given as goal

abbrev pub invariant-loop-client : goal.invariant-loop-client
invariant-loop-client g l = record {
  so_far : (itself : Leaving) (scripts : List Client) → IsBeforeClients l.domain itself scripts l.fn.clients.items l.initial.all → HasClientsSo l.domain itself scripts l.fn.clients.items l.rest.rest.items l.initial.all l.all;
  space : (more : ℕ) → HasWorkerSpace (length l.fn.clients.items + more) l.initial.all → HasWorkerSpace (length l.rest.rest.items + more) l.all;
  kept : KeepsServers l.initial.all l.all;
}

abbrev pub decreases-loop-client : goal.decreases-loop-client
decreases-loop-client g l = length l.rest.rest.items
