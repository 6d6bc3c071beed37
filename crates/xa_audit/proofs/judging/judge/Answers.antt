use Rattle.std.proofs.Common.{◌+◌, take, refl, sym, subst, arith}
use Rattle.xa_audit.specs.Verdict.{Leads}
use Rattle.xa_audit.proofs.Leading.{leads_more, refused_at}
use Rattle.xa_audit.proofs.judging.judge.Goals as goal

pub returns-then-not-takes_next : goal.returns-then-not-takes_next
returns-then-not-takes_next c =
    refused_at c.args.setup.now c.args.clients c.args.events.now c.loop-i.i c.index-events-i.result c.loop-i.machine (omega arith) c.index-events-i.is c.loop-i.invariant
    (λ case takes. cc (c.if-not-takes_next.ensures.1 takes))

pub returns-in-Err-Refused : goal.returns-in-Err-Refused
returns-in-Err-Refused c =
    refused_at c.args.setup.now c.args.clients c.args.events.now c.loop-i.i c.index-events-i.result c.loop-i.machine (omega arith) c.index-events-i.is c.loop-i.invariant
    (λ case takes. c.in-Err-Refused.ensures.no.0 c.in-Err-Refused.field-0-is case)

pub loop-i-preserved : goal.loop-i-preserved
loop-i-preserved c =
    subst (λ s. Leads c.args.setup.now c.args.clients (take (c.loop-i.i + 1) c.args.events.now) s) (sym c.in-Ok.ensures.yes.1)
    (leads_more c.args.setup.now c.args.clients c.args.events.now c.loop-i.i c.index-events-i.result c.loop-i.machine (omega arith) c.index-events-i.is c.loop-i.invariant (c.if-not-takes_next.ensures.0 refl) c.in-Ok.ensures.yes.0)
