use Rattle.std.proofs.Common.{Ok, refl, ◌∙◌, ap, subst}
use Rattle.xa_boot.specs.xa_lock.Known.{known as page_of}
use Rattle.xa_boot.specs.xa_caller.declared.cargo.Filling.{Filling}
use Rattle.xa_boot.specs.xa_held.Kept.{Kept}
use Rattle.xa_boot.specs.xa_held.Steps.{ClosedAs}
use Rattle.xa_boot.specs.xa_held.Visits.{Visits}
use Rattle.xa_domain.proofs.Stepping.{stepped, passed_on, now_closed, looked_closes, looked_worn, noted_closes}
use Rattle.xa_domain.proofs.closing.close.Goals as goal

pub returns-in_err-noted-clause-closes : goal.returns-in_err-noted-clause-closes
returns-in_err-noted-clause-closes g c =
    let step = stepped {p' = c.close_at-pass.result.pass} {last = c.close_at-pass.result.last} c.args.closer.now.own c.max.result c.index_mut.result.now c.replace.result c.replace.new.dest c.requires.closer c.requires.place c.index_mut.ensures.value c.replace.ensures.value c.in-Some.is c.max.ensures c.index.result.now c.index.ensures c.close_at-pass.ensures.lock c.close_at-pass.ensures.reached in
    let did = subst (ClosedAs (Visits (page_of c.in-Some.pass) (page_of c.close_at-pass.result.pass)) c.args.closer.now.seen (record { 0 = 0 })) c.in_err-noted.was c.close_at-pass.ensures.closed in
    looked_closes step did refl

pub returns-in_err-noted-clause-worn : goal.returns-in_err-noted-clause-worn
returns-in_err-noted-clause-worn g c =
    let step = stepped {p' = c.close_at-pass.result.pass} {last = c.close_at-pass.result.last} c.args.closer.now.own c.max.result c.index_mut.result.now c.replace.result c.replace.new.dest c.requires.closer c.requires.place c.index_mut.ensures.value c.replace.ensures.value c.in-Some.is c.max.ensures c.index.result.now c.index.ensures c.close_at-pass.ensures.lock c.close_at-pass.ensures.reached in
    let did = subst (ClosedAs (Visits (page_of c.in-Some.pass) (page_of c.close_at-pass.result.pass)) c.args.closer.now.seen (record { 0 = 0 })) c.in_err-noted.was c.close_at-pass.ensures.closed in
    passed_on c.from_residual.result c.in_err-noted.field-0.0 _ c.from_residual.ensures.1 (looked_worn step did refl c.in_err-noted.field-0.0 did.how.1)

pub returns-in-Some-2 : goal.returns-in-Some-2
returns-in-Some-2 g c =
    let step = stepped {p' = c.close_at-pass.result.pass} {last = c.close_at-pass.result.last} c.add.new.self c.max.result c.index_mut.result.now c.replace.result c.replace.new.dest c.requires.closer c.requires.place c.index_mut.ensures.value c.replace.ensures.value c.in-Some.is c.max.ensures c.index.result.now c.index.ensures c.close_at-pass.ensures.lock c.close_at-pass.ensures.reached in
    let did = subst (ClosedAs (Visits (page_of c.in-Some.pass) (page_of c.close_at-pass.result.pass)) c.args.closer.now.seen (record { 0 = 0 })) (c.in_ok-noted.was ∙ ap Ok c.in-Some-2.is) c.close_at-pass.ensures.closed in
    record { closes = noted_closes step (record { 0 = 0 }) c.in-Some-2.noted did c.add.ensures; closed = now_closed step did (ap (λ q. q.closed) did.how.1.notes.made); worn = tt }

pub returns-in_default-2 : goal.returns-in_default-2
returns-in_default-2 g c =
    let step = stepped {p' = c.close_at-pass.result.pass} {last = c.close_at-pass.result.last} c.args.closer.now.own c.max.result c.index_mut.result.now c.replace.result c.replace.new.dest c.requires.closer c.requires.place c.index_mut.ensures.value c.replace.ensures.value c.in-Some.is c.max.ensures c.index.result.now c.index.ensures c.close_at-pass.ensures.lock c.close_at-pass.ensures.reached in
    let did = subst (ClosedAs (Visits (page_of c.in-Some.pass) (page_of c.close_at-pass.result.pass)) c.args.closer.now.seen (record { 0 = 0 })) (c.in_ok-noted.was ∙ ap Ok c.in_default-2.is) c.close_at-pass.ensures.closed in
    record { closes = looked_closes step did refl; closed = now_closed step did (ap (λ (kept : Kept Filling). kept.queue.closed) did.how.0 ∙ did.how.1); worn = tt }
