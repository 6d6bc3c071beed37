use Rattle.xa_machine.proofs.machine.Machine.no_calls_left.Goals as goal

pub returns-then-all_left : goal.returns-then-all_left
returns-then-all_left c =
    (λ h. (c.all_left.ensures.0 c.if-all_left.true, c.all_settled.ensures.0 h), λ h. c.all_settled.ensures.1 h.1)
