use Rattle.std.proofs.Common.{inl, ◌∙◌}
use Rattle.xa_server_worker.proofs.Leaves.{server_some, domain_seat, left_seat, left_retires, worn_retires, left_latest, left_gone, retires_swept, retires_domain, swept_retires}
use Rattle.xa_server_worker.proofs.retiring.retire.Goals as goal

pub returns-then-not-branch-clause-retires : goal.returns-then-not-branch-clause-retires
returns-then-not-branch-clause-retires g c = left_retires c.leave_queue.ensures.leads c.requires.serving c.in_ok-leave_queue.field-0 c.in_ok-leave_queue.ensures.gone

pub returns-then-not-branch-clause-result : goal.returns-then-not-branch-clause-result
returns-then-not-branch-clause-result g c = (left_gone c.leave_queue.ensures.leads c.requires.serving c.in_ok-leave_queue.field-0 c.in_ok-leave_queue.ensures.gone, inl (c.in_ok-leave_queue.ensures.gone.3 c.if-not-branch.true))

pub returns-in_err-leave_queue-clause-retires : goal.returns-in_err-leave_queue-clause-retires
returns-in_err-leave_queue-clause-retires g c = worn_retires c.leave_queue.ensures.leads c.requires.serving c.in_err-leave_queue.field-0.0 c.in_err-leave_queue.ensures.gone

pub clear-requires-clause-deserted : goal.clear-requires-clause-deserted
clear-requires-clause-deserted g c = c.in_ok-leave_queue.ensures.gone.2 c.if-not-branch.false

pub clear-requires-clause-latest : goal.clear-requires-clause-latest
clear-requires-clause-latest g c = left_latest c.leave_queue.ensures.leads c.requires.serving c.in_ok-leave_queue.field-0 c.in_ok-leave_queue.ensures.gone

pub returns-in_err-clear-clause-retires : goal.returns-in_err-clear-clause-retires
returns-in_err-clear-clause-retires g c =
    let left = left_retires c.leave_queue.ensures.leads c.requires.serving c.in_ok-leave_queue.field-0 c.in_ok-leave_queue.ensures.gone in
    retires_domain (server_some c.requires.serving) left c.clear.ensures.leads c.clear.ensures.noted (domain_seat c.clear.ensures.noted ∙ left_seat c.leave_queue.ensures.leads c.requires.serving c.in_ok-leave_queue.field-0 c.in_ok-leave_queue.ensures.gone)

pub returns-in_err-take_down-clause-retires : goal.returns-in_err-take_down-clause-retires
returns-in_err-take_down-clause-retires g c =
    let some = server_some c.requires.serving in
    let left = left_retires c.leave_queue.ensures.leads c.requires.serving c.in_ok-leave_queue.field-0 c.in_ok-leave_queue.ensures.gone in
    let cleared = domain_seat c.clear.ensures.noted ∙ left_seat c.leave_queue.ensures.leads c.requires.serving c.in_ok-leave_queue.field-0 c.in_ok-leave_queue.ensures.gone in
    retires_domain some (retires_domain some left c.clear.ensures.leads c.clear.ensures.noted cleared) c.take_down.ensures.leads c.take_down.ensures.noted (domain_seat c.take_down.ensures.noted ∙ cleared)

pub returns-clause-retires : goal.returns-clause-retires
returns-clause-retires g c =
    let some = server_some c.requires.serving in
    let left = left_retires c.leave_queue.ensures.leads c.requires.serving c.in_ok-leave_queue.field-0 c.in_ok-leave_queue.ensures.gone in
    let cleared = domain_seat c.clear.ensures.noted ∙ left_seat c.leave_queue.ensures.leads c.requires.serving c.in_ok-leave_queue.field-0 c.in_ok-leave_queue.ensures.gone in
    let fell = domain_seat c.take_down.ensures.noted ∙ cleared in
    retires_swept (retires_domain some (retires_domain some left c.clear.ensures.leads c.clear.ensures.noted cleared) c.take_down.ensures.leads c.take_down.ensures.noted fell) fell c.sweep.ensures.goes c.sweep.ensures.told

pub returns-clause-result : goal.returns-clause-result
returns-clause-result g c =
    let left = left_retires c.leave_queue.ensures.leads c.requires.serving c.in_ok-leave_queue.field-0 c.in_ok-leave_queue.ensures.gone in
    swept_retires c.args.queue.0 (server_some c.requires.serving) left (left_gone c.leave_queue.ensures.leads c.requires.serving c.in_ok-leave_queue.field-0 c.in_ok-leave_queue.ensures.gone) c.clear.ensures.leads c.clear.ensures.noted c.take_down.ensures.leads c.take_down.ensures.noted c.sweep.ensures.goes
    c.sweep.result c.sweep.ensures.swept c.sweep.ensures.stopped
