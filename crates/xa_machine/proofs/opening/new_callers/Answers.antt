use Rattle.std.proofs.Common.{ap, length, arith, length-append}
use Rattle.xa_machine.specs.declared.caller.CallerRow.{CallerRow}
use Rattle.xa_machine.specs.Tables.{CallerShows, no_caller}
use Rattle.xa_machine.proofs.First.{all_push}
use Rattle.xa_machine.proofs.opening.new_callers.Goals as goal

pub loop-preserved : goal.loop-preserved
loop-preserved c = record {
  many = omega (arith, ap length c.in_ok-push.ensures.items, length-append {A = CallerRow}, c.loop.invariant.many);
  shows = rw c.in_ok-push.ensures.items (all_push (CallerShows c.args.boot) no_caller _ _ c.loop.invariant.shows c.new.ensures);
}
