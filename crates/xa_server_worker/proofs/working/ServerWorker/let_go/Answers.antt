use Rattle.std.proofs.Common.{inl, ap}
use Rattle.xa_desk.specs.xa_server.declared.slot.ServerSlot.{ServerSlot}
use Rattle.xa_server_worker.proofs.Lasting.{ended_tells}
use Rattle.xa_server_worker.proofs.working.ServerWorker.let_go.Goals as goal

pub returns-in-Some-clause-ended : goal.returns-in-Some-clause-ended
returns-in-Some-clause-ended g c =
    ended_tells c.args.self.now c.give_up.new.self c.tell.new.desk c.args.self.now.stopped (ap (λ (s : ServerSlot). s.server) c.give_up.ensures.slot) (inl (ap (λ (s : ServerSlot). s.hand) c.give_up.ensures.slot)) c.tell.ensures c.requires.ended
