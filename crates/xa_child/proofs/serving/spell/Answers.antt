use Rattle.std.proofs.Common.{◌∙◌, ap, sym, append_assoc, ◌++◌, take}
use Rattle.xa_frame.specs.Spelling.{spelled, all_spelled}
use Rattle.xa_child.proofs.Frames.{spelled-more}
use Rattle.xa_child.proofs.serving.spell.Goals as goal

pub loop-frame-preserved : goal.loop-frame-preserved
loop-frame-preserved c =
    let front = all_spelled (take c.loop-frame.frame-index c.args.frames.now) in
    let more = spelled-more c.args.frames.now c.loop-frame.frame-index c.frame-item.result c.loop-frame-test.true c.frame-item.is in
    c.in_ok-append.ensures ∙ ap (λ z. z ++ spelled c.frame-item.result) c.loop-frame.invariant
    ∙ append_assoc c.args.due.now.items front (spelled c.frame-item.result) ∙ ap (λ z. c.args.due.now.items ++ z) (sym more)
