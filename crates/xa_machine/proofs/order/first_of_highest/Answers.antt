use Rattle.std.proofs.Common.{◌∙◌, Bool, ap, sym, get_or, reverse}
use Rattle.std.proofs.lemmas.Bool.{le-leb, lt-leb}
use Rattle.std.specs.Prelude.{nat_le}
use Rattle.std.specs.List.{list_all}
use Rattle.xa_types.specs.declared.ids.RequestId.{RequestId}
use Rattle.xa_events.specs.Request.{priority_at}
use Rattle.xa_machine.proofs.Scans.{find_here, find_on}
use Rattle.xa_machine.proofs.order.first_of_highest.Goals as goal

pub returns-then-highest-priority_at : goal.returns-then-highest-priority_at
returns-then-highest-priority_at c =
    let none : RequestId = record { caller = record { 0 = 0 }; number = 0 } in
    let p : RequestId → Bool = λ request. list_all (λ other. nat_le (priority_at (reverse c.args.events.now) other) (priority_at (reverse c.args.events.now) request)) c.args.waiting.now in
    sym (c.loop-request.invariant ∙ find_here p c.args.waiting.now c.loop-request.request-index none c.loop-request-test.true
    (c.highest-highest.ensures (priority_at (reverse c.args.events.now) (get_or c.args.waiting.now c.loop-request.request-index none))
    ∙ (ap (λ n. nat_le c.highest-highest.result n) (sym c.priority_at.ensures) ∙ le-leb c.highest-highest.result c.priority_at.result c.if-highest-priority_at.true)))

pub loop-request-preserved : goal.loop-request-preserved
loop-request-preserved c =
    let none : RequestId = record { caller = record { 0 = 0 }; number = 0 } in
    let p : RequestId → Bool = λ request. list_all (λ other. nat_le (priority_at (reverse c.args.events.now) other) (priority_at (reverse c.args.events.now) request)) c.args.waiting.now in
    c.loop-request.invariant ∙ find_on p c.args.waiting.now c.loop-request.request-index none c.loop-request-test.true
    (c.highest-highest.ensures (priority_at (reverse c.args.events.now) (get_or c.args.waiting.now c.loop-request.request-index none))
    ∙ (ap (λ n. nat_le c.highest-highest.result n) (sym c.priority_at.ensures) ∙ lt-leb c.highest-highest.result c.priority_at.result c.if-highest-priority_at.false))
