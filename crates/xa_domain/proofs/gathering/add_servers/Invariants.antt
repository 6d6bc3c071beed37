use Rattle.std.proofs.Common.{List, length}
use Rattle.xa_boot.specs.xa_desk.declared.desk.Desk.{Desk}
use Rattle.xa_domain.specs.Leaving.{Leaving}
use Rattle.xa_domain.specs.Gathering.{HasServerSpace, IsBeforeServers, HasServersSo}
use Rattle.xa_domain.proofs.gathering.add_servers.Given as goal

abbrev pub invariant-loop-server : goal.invariant-loop-server
invariant-loop-server g l = record {
  so_far : (itself : Leaving) (desks : List Desk) → IsBeforeServers l.domain g.T.Starter.shows itself desks l.fn.servers.items l.initial.all
      → HasServersSo l.domain g.T.Starter.shows itself desks l.fn.servers.items l.rest.rest.items l.initial.all l.all;
  space : HasServerSpace (length l.rest.rest.items) l.all;
}

abbrev pub decreases-loop-server : goal.decreases-loop-server
decreases-loop-server g l = length l.rest.rest.items
