use Rattle.xa_machine.proofs.machine.Machine.no_servers_left.Goals as goal

pub returns-then-all_over : goal.returns-then-all_over
returns-then-all_over c = (
  λ h. let queues = c.no_queues_left.ensures.0 h in (c.all_over.ensures.0 c.if-all_over.true, queues.0, queues.1),
  λ h. c.no_queues_left.ensures.1 (h.1, h.2),
)
