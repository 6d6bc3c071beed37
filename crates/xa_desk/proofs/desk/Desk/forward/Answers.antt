use Rattle.std.proofs.Common.{refl, subst}
use Rattle.std.specs.Prelude.{IfOk}
use Rattle.xa_server.specs.xa_types.Found.{FoundRows}
use Rattle.xa_server.specs.Forwarding.{way_of, hop_in, ForwardsAs}
use Rattle.xa_desk.proofs.Passes.{forward_leads, forward_leaves, forward_seat}
use Rattle.xa_desk.proofs.desk.Desk.forward.Goals as goal

abbrev DidBy : goal.After-finish_forward → FoundRows → Type 0
DidBy c found = IfOk c.finish_forward.result (λ forwarding.
    ForwardsAs found.version c.args.payload (way_of c.args.domain.now.setup c.args.service.now c.args.payload (hop_in c.args.slot.now.hand) found) forwarding c.finish_forward.new.self c.args.slot.now c.finish_forward.new.caller c.args.self.now.caller)

did : (c : goal.After-finish_forward) → DidBy c c.args.self.now.reader.found
did c = subst (DidBy c) c.found.ensures c.finish_forward.ensures.ok

pub returns-clause-leads : goal.returns-clause-leads
returns-clause-leads c =
    forward_leads c.args.domain.now c.requires.domain c.args.self.now c.requires.desk c.args.service.now c.args.payload c.requires.found c.args.slot.now c.finish_forward.new.self c.finish_forward.new.caller c.requires.serving.0 c.requires.serving.2 c.finish_forward.result (did c) c.finish_forward.ensures.halted c.finish_forward.ensures.kept

pub returns-clause-leaves : goal.returns-clause-leaves
returns-clause-leaves c = λ queue serving t taken.
    forward_leaves c.args.domain.now c.requires.domain c.args.self.now c.requires.desk c.args.service.now c.args.payload c.requires.found c.args.slot.now c.finish_forward.new.self c.finish_forward.new.caller queue serving t taken c.finish_forward.result (did c) c.finish_forward.ensures.left

pub returns-clause-rest : goal.returns-clause-rest
returns-clause-rest c = (
  refl,
  forward_seat c.args.domain.now c.requires.domain c.args.self.now c.requires.desk c.args.service.now c.args.payload c.requires.found c.args.slot.now c.finish_forward.new.self c.finish_forward.new.caller c.finish_forward.result (did c) c.finish_forward.ensures.kept,
)
