use Rattle.std.proofs.Common.{Ok, ◌∙◌, ap, subst}
use Rattle.xa_desk.specs.Serving.{SweepsAs}
use Rattle.xa_desk.proofs.Stopping.{same_leads}
use Rattle.xa_server_worker.proofs.Behind.{tells_last}
use Rattle.xa_server_worker.proofs.Leaves.{swept_last, seen_last}
use Rattle.xa_server_worker.proofs.Stepping.{domain_steps, domain_trans, domain_tells, fallen_told, domain_seen, domain_none, id_kept}
use Rattle.xa_server_worker.proofs.retiring.sweep.Goals as goal

pub loop-init : goal.loop-init
loop-init g c = record { goes = domain_none (same_leads c.args.monitor.now.domain.now c.args.desk.now c.requires.desk); fallen = c.requires.fallen.0; told = λ told. told }

pub loop-preserved : goal.loop-preserved
loop-preserved g c =
    let swept = subst (λ r. SweepsAs c.args.monitor.now.domain.now c.args.queue.0 r c.loop.desk c.sweep.new.self) (c.in_ok-closing.was ∙ ap Ok c.in-Some-2.is) c.sweep.ensures.swept in
    let noted = domain_steps c.sweep.ensures.leads (id_kept c.loop.invariant.goes c.requires.server) swept.0 in
    record {
      goes = domain_trans (domain_trans c.loop.invariant.goes noted) (domain_tells c.tell.ensures);
      fallen = fallen_told c.args.queue.0 c.tell.ensures c.sweep.ensures.fallen;
      told = λ told. tells_last c.sweep.new.self c.tell.new.desk c.tell.ensures (swept_last swept.3 (c.loop.invariant.told told));
    }

pub returns-in-None-2-clause-goes : goal.returns-in-None-2-clause-goes
returns-in-None-2-clause-goes g c =
    let swept = subst (λ r. SweepsAs c.args.monitor.now.domain.now c.args.queue.0 r c.loop.desk c.sweep.new.self) (c.in_ok-closing.was ∙ ap Ok c.in-None-2.is) c.sweep.ensures.swept in
    domain_trans c.loop.invariant.goes (domain_seen c.sweep.ensures.leads swept.0)

pub returns-in_err-closing-clause-goes : goal.returns-in_err-closing-clause-goes
returns-in_err-closing-clause-goes g c = domain_trans c.loop.invariant.goes (domain_seen c.sweep.ensures.leads c.in_err-closing.ensures.swept.caller)

pub returns-in-None-2-clause-told : goal.returns-in-None-2-clause-told
returns-in-None-2-clause-told g c =
    let swept = subst (λ r. SweepsAs c.args.monitor.now.domain.now c.args.queue.0 r c.loop.desk c.sweep.new.self) (c.in_ok-closing.was ∙ ap Ok c.in-None-2.is) c.sweep.ensures.swept in
    λ told. seen_last c.loop.desk c.sweep.new.self swept.0 (c.loop.invariant.told told)

pub returns-in_err-closing-clause-told : goal.returns-in_err-closing-clause-told
returns-in_err-closing-clause-told g c = λ told. seen_last c.loop.desk c.sweep.new.self c.in_err-closing.ensures.swept.caller (c.loop.invariant.told told)
