use Rattle.std.proofs.Common.{◌++◌, ◌∙◌, ap, arith}
use Rattle.xa_events.specs.Said.{reply_shown_by}
use Rattle.xa_text.specs.Line.{line_text}
use Rattle.xa_text.proofs.Passing.{passed_over, told_next}
use Rattle.xa_text.proofs.transcribing.tell.Goals as goal

pub returns-in_default : goal.returns-in_default
returns-in_default c front past old turn = passed_over front c.args.name.now c.args.client past c.args.place.op c.args.place.start c.args.out.now.items c.args.event.now c.in_default.ensures old

pub returns : goal.returns
returns c front past old turn =
    told_next front c.args.name.now c.args.client past c.args.place.op c.args.place.start c.args.out.now.items c.args.event.now c.in-Some.op c.start_of-start.result c.push_shown_line.new.out.items
    old turn c.in-Some.ensures.0 c.in-Some.ensures.1 c.start_of-start.ensures.same (λ other. omega (arith, c.start_of-start.ensures.next other, c.len.ensures, c.args.out.now.ok.0))
    (c.in_ok-push_shown_line.ensures c.args.client past c.in-Some.ensures.0 old.last ∙ ap (λ text. text ++ line_text c.args.name.now c.in-Some.op (reply_shown_by c.args.event.now past)) c.truncate.ensures.items)
