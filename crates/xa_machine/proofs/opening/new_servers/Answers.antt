use Rattle.std.proofs.Common.{ap, length, arith, length-append}
use Rattle.xa_machine.specs.declared.served.ServerRow.{ServerRow}
use Rattle.xa_machine.specs.Tables.{ServerShows, no_server}
use Rattle.xa_machine.proofs.First.{all_push}
use Rattle.xa_machine.proofs.opening.new_servers.Goals as goal

pub loop-preserved : goal.loop-preserved
loop-preserved c = record {
  many = omega (arith, ap length c.in_ok-push.ensures.items, length-append {A = ServerRow}, c.loop.invariant.many);
  shows = rw c.in_ok-push.ensures.items (all_push ServerShows no_server _ _ c.loop.invariant.shows c.new.ensures);
}
