use Rattle.xa_machine.proofs.machine.Machine.is_final.Goals as goal

pub returns-then-no_calls_left : goal.returns-then-no_calls_left
returns-then-no_calls_left c =
    let calls = c.no_calls_left.ensures.0 c.if-no_calls_left.true in (
      λ h. let rest = c.no_servers_left.ensures.0 h in record { left = calls.0; settled = calls.1; over = rest.0; closed = rest.1; down = rest.2 },
      λ h. c.no_servers_left.ensures.1 (h.over, h.closed, h.down),
    )
