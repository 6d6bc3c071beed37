use Rattle.xa_server.proofs.slot.ServerSlot.abandon.Goals as goal

pub returns : goal.returns
returns c = c.close.ensures tt
