use Rattle.std.proofs.Common.{rules, ◌≡◌, sym, subst, ap, Ok, Err}
use Rattle.xa_child.specs.Work.{Worked}
use Rattle.xa_child.specs.Turns.{Turns, Unanswered}
use Rattle.xa_child.proofs.Turned.{joined, so_far_more, worked_done, worked_refused, worked_spent, worked_unbegun}
use Rattle.xa_child.proofs.working.work.Goals as goal

pub returns-in_err-serving-clause-worked : goal.returns-in_err-serving-clause-worked
returns-in_err-serving-clause-worked g c =
    let same : c.from_residual.result ≡ Err c.in_err-serving.field-0.0 = search rules in
    let cause : Unanswered c.in_err-serving.field-0.0 = c.in_err-serving.ensures.causes in
    subst (λ r. Worked c.args.name.now (g.I.Source.shows c.args.input.now).left (g.I.Source.shows c.args.input.now).left (g.I.Source.shows c.args.input.now).gave (g.I.Source.shows c.args.input.now).gave (g.O.Sink.shows c.args.out.now).took (g.O.Sink.shows c.greet.new.out).took r) (sym same)
    (worked_unbegun c.args.name.now (g.I.Source.shows c.args.input.now).left (g.I.Source.shows c.args.input.now).gave (g.O.Sink.shows c.args.out.now).took (g.O.Sink.shows c.greet.new.out).took c.in_err-serving.field-0.0 cause (λ is. c.in_err-serving.ensures.part (ap Err is)) (λ is. c.in_err-serving.ensures.starved (ap Err is)))

pub returns-in_err-turn-clause-worked : goal.returns-in_err-turn-clause-worked
returns-in_err-turn-clause-worked g c =
    let same : c.from_residual-in_err-turn.result ≡ Err c.in_err-turn.field-0.0 = search rules in
    subst (λ r. Worked c.args.name.now (g.I.Source.shows c.args.input.now).left (g.I.Source.shows c.turn.new.input).left (g.I.Source.shows c.args.input.now).gave (g.I.Source.shows c.turn.new.input).gave (g.O.Sink.shows c.args.out.now).took (g.O.Sink.shows c.turn.new.out).took r) (sym same)
    (worked_refused _ _ _ _ _ _ _ c.turn.new.serving c.in_err-turn.field-0.0 (joined _ _ _ _ _ _ _ _ _ _ c.loop.serving c.turn.new.serving (Err c.in_err-turn.field-0.0) c.loop.invariant.so_far c.in_err-turn.ensures.turns))

pub returns-then-not-branch-clause-worked : goal.returns-then-not-branch-clause-worked
returns-then-not-branch-clause-worked g c =
    let t = subst (λ b. Turns c.loop.serving c.turn.new.serving (g.I.Source.shows c.loop.input).left (g.I.Source.shows c.turn.new.input).left (g.I.Source.shows c.loop.input).gave (g.I.Source.shows c.turn.new.input).gave (g.O.Sink.shows c.loop.out).took (g.O.Sink.shows c.turn.new.out).took (Ok b)) c.if-not-branch.true c.in_ok-turn.ensures.turns in
    worked_done _ _ _ _ _ _ _ c.turn.new.serving (joined _ _ _ _ _ _ _ _ _ _ c.loop.serving c.turn.new.serving _ c.loop.invariant.so_far t)

pub loop-preserved : goal.loop-preserved
loop-preserved g c =
    let t = subst (λ b. Turns c.loop.serving c.turn.new.serving (g.I.Source.shows c.loop.input).left (g.I.Source.shows c.turn.new.input).left (g.I.Source.shows c.loop.input).gave (g.I.Source.shows c.turn.new.input).gave (g.O.Sink.shows c.loop.out).took (g.O.Sink.shows c.turn.new.out).took (Ok b)) c.if-not-branch.false c.in_ok-turn.ensures.turns in
    record {
      so_far = so_far_more _ _ _ _ _ _ _ c.turn.new.serving (joined _ _ _ _ _ _ _ _ _ _ c.loop.serving c.turn.new.serving _ c.loop.invariant.so_far t);
      reads = search rules;
      writes = search rules;
      piece = search rules;
    }

pub returns-clause-worked : goal.returns-clause-worked
returns-clause-worked g c = worked_spent _ _ _ _ _ _ _ c.loop.serving c.loop.invariant.so_far
