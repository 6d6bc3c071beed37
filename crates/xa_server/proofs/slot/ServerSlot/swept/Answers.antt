use Rattle.xa_server.proofs.slot.ServerSlot.swept.Goals as goal

pub returns : goal.returns
returns c = c.close.ensures tt
