use Rattle.std.proofs.Common.{◌∙◌, ◌-◌, ap, sym}
use Rattle.xa_lines.specs.Reading.{requests_from, words_in}
use Rattle.xa_lines.proofs.Leaves.{one_request}
use Rattle.xa_lines.proofs.fields.requests_upto.Goals as goal

pub loop-left-preserved : goal.loop-left-preserved
loop-left-preserved c =
    ap (λ items. requests_from items (c.loop-left.left - 1) (words_in c.in_ok-request.behind.now)) c.in_ok-push.ensures.items
    ∙ sym (one_request c.loop-left.requests.items c.loop-left.left (words_in c.loop-left.rest.now) c.in_ok-request.request (words_in c.in_ok-request.behind.now) c.loop-left-test.true c.in_ok-request.ensures)
    ∙ c.loop-left.invariant
