use Rattle.std.proofs.Common.{ap, is_none, ◌∙◌}
use Rattle.xa_lines.proofs.Cutting.{done}
use Rattle.xa_lines.proofs.words.is_done.Goals as goal

pub returns-in-Some : goal.returns-in-Some
returns-in-Some c = ap is_none c.in-Some.ensures ∙ done c.args.words.now

pub returns-in-None : goal.returns-in-None
returns-in-None c = ap is_none c.in-None.ensures ∙ done c.args.words.now
