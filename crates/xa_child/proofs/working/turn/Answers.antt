use Rattle.std.proofs.Common.{rules, ◌≡◌, ◌∙◌, ap, subst, [], take, Ok, IfOk}
use Rattle.xa_link.specs.Told.{Grew, Shrank, Empty}
use Rattle.xa_child.proofs.Turned.{turns_of, turns_failed, turns_ended}
use Rattle.xa_child.proofs.working.turn.Goals as goal

pub returns-in_default-clause-turns : goal.returns-in_default-clause-turns
returns-in_default-clause-turns g c = turns_failed c.args.serving.now _ _ _ _ _ _ c.requires.going c.requires.partial (search rules) (search rules) (search rules)

pub returns-then-n-eq0-clause-turns : goal.returns-then-n-eq0-clause-turns
returns-then-n-eq0-clause-turns g c =
    let ok : c.read.result ≡ Ok c.in-Ok.n = search rules in
    let zero : c.read.result ≡ Ok 0 = ok ∙ ap Ok c.if-n-eq0.true in
    let off : Shrank (g.I.Source.shows c.args.input.now).left (g.I.Source.shows c.read.new.self).left [] =
    subst (λ r. IfOk r (λ n. Shrank (g.I.Source.shows c.args.input.now).left (g.I.Source.shows c.read.new.self).left (take n c.read.new.into))) zero c.read.ensures.told in
    let given : Grew (g.I.Source.shows c.args.input.now).gave (g.I.Source.shows c.read.new.self).gave [] =
    subst (λ r. IfOk r (λ n. Grew (g.I.Source.shows c.args.input.now).gave (g.I.Source.shows c.read.new.self).gave (take n c.read.new.into))) zero c.read.ensures.given in
    let none : Empty (g.I.Source.shows c.args.input.now).left = c.read.ensures.end zero (search rules) in
    turns_ended c.args.serving.now _ _ _ _ _ _ c.requires.going c.requires.partial c.end.ensures.place off given none c.end.ensures.comes

pub returns-clause-turns : goal.returns-clause-turns
returns-clause-turns g c = turns_of c.args.serving.now c.hear.new.serving _ _ _ _ _ _ (take c.in-Ok.n c.read.new.into) _ (search rules) (search rules) c.hear.ensures.hears
