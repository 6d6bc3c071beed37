use Rattle.std.proofs.Common.{refl, sym, ◌∙◌, ap, subst}
use Rattle.xa_caller.specs.xa_stamp.Home.{last_stamp}
use Rattle.xa_caller.specs.xa_worker.Crew.{no_stamp}
use Rattle.xa_caller.specs.xa_cell.Known.{known}
use Rattle.xa_server.specs.Told.{GivenTo, given_by}
use Rattle.xa_server.proofs.closing.Closing.give.Goals as goal
use Rattle.xa_server.proofs.closing.Closing.give.Goals.{in-Delivered, in-Dropped}

pub returns-clause-given : goal.returns-clause-given
returns-clause-given c =
    subst (λ o. GivenTo o c.args.self.answer (record { 0 = last_stamp no_stamp c.args.caller.now.work.own }) (known c.args.caller.now.seat) (known c.fill.new.self.seat) c.match-fill.result) (sym c.in-Some.is)
    (record {
      filling = _;
      says = refl;
      stamped = ap (λ n. record { 0 = n }) c.latest-stamp.ensures.value;
      outcome = c.fill.result;
      filled = c.fill.ensures.filled;
      told = elim c.match-fill.branch [ in-Delivered b ↦ b.result-is ∙ sym (ap given_by b.in-Delivered.is) | in-Dropped b ↦ b.result-is ∙ sym (ap given_by b.in-Dropped.is) ];
    })
