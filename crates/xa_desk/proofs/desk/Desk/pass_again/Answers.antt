use Rattle.std.proofs.Common.{◌≤◌, sym, subst}
use Rattle.xa_server.specs.xa_types.Found.{FoundRows}
use Rattle.xa_server.specs.xa_caller.Caller.{AreRowsOf}
use Rattle.xa_server.specs.Forwarding.{AimsOn}
use Rattle.xa_desk.proofs.Passes.{rows_are, again}
use Rattle.xa_desk.proofs.desk.Desk.pass_again.Goals as goal

pub returns-clause-passing : goal.returns-clause-passing
returns-clause-passing c =
    let desk = c.args.self.now in
    let set = desk.caller.priority in
    let aims = subst (λ (found : FoundRows). AimsOn found.version set c.args.entry found.rows c.args.attempt c.args.slot.now c.forward_again.result) c.found.ensures c.forward_again.ensures.aims in
    λ queue event passing.
    again passing c.requires.desk c.args.attempt c.forward_again.result aims
    (c.forward_again.ensures.on_way event passing.service passing.way (subst (λ (found : FoundRows). AreRowsOf desk.caller.work.setup passing.service found.rows) (sym c.found.ensures) (rows_are passing c.requires.desk)) (subst (λ (found : FoundRows). desk.caller.least ≤ found.version) (sym c.found.ensures) passing.found.recent))
