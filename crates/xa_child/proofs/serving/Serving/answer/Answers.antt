use Rattle.std.proofs.Common.{sym, subst}
use Rattle.std.specs.List.{All}
use Rattle.xa_frame.specs.Spelling.{HasSpelling}
use Rattle.xa_child.proofs.Frames.{spelling-answer}
use Rattle.xa_child.proofs.serving.Serving.answer.Goals as goal

pub spell_all_said-requires : goal.spell_all_said-requires
spell_all_said-requires c =
    subst (All HasSpelling) (sym c.in_ok-said.ensures.said) (spelling-answer c.args.self.now.child c.args.frame.now c.turn.ensures.kept c.requires)
