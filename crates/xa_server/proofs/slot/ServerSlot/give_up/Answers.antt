use Rattle.std.proofs.Common.{sym, ◌∙◌}
use Rattle.xa_server.proofs.slot.ServerSlot.give_up.Goals as goal

pub returns-in-Some-clause-closing : goal.returns-in-Some-clause-closing
returns-in-Some-clause-closing c = record { entry = c.in-Some.entry; in_hand = sym c.replace.ensures.value ∙ c.in-Some.is; is = c.close.ensures tt }
