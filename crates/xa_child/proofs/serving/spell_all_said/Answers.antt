use Rattle.std.proofs.Common.{◌≡◌, ◌++◌, ap, sym, ◌∙◌, subst}
use Rattle.std.proofs.lemmas.Result.{on_ok_weaker}
use Rattle.std.specs.List.{All}
use Rattle.xa_frame.specs.Spelling.{spelled, all_spelled, HasSpelling}
use Rattle.xa_child.specs.Child.{followed}
use Rattle.xa_child.specs.Said.{all_said, frame_of}
use Rattle.xa_child.proofs.Frames.{said_spelling, spelled-said}
use Rattle.xa_child.proofs.serving.spell_all_said.Goals as goal

pub spell_said-requires : goal.spell_said-requires
spell_said-requires c = said_spelling c.in-Some.said (subst (λ z. All HasSpelling (all_said z)) c.in-Some.is c.requires)

pub returns : goal.returns
returns c =
    let first : c.spell_said.new.due.items ≡ c.args.due.now.items ++ spelled (frame_of c.in-Some.said) = c.in_ok-spell_said.ensures in
    on_ok_weaker c.spell_followed.result
    (λ (rest : c.spell_followed.new.due.items ≡ c.spell_said.new.due.items ++ all_spelled (followed c.in-Some.said.last)).
    rest ∙ ap (λ z. z ++ all_spelled (followed c.in-Some.said.last)) first ∙ spelled-said c.args.due.now.items c.in-Some.said ∙ ap (λ z. c.args.due.now.items ++ all_spelled (all_said z)) (sym c.in-Some.is))
    c.spell_followed.ensures
