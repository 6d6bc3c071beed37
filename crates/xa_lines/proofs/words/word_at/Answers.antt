use Rattle.std.proofs.Common.{ap, sym}
use Rattle.xa_lines.specs.Reading.{word_at}
use Rattle.xa_lines.proofs.Cutting.{next_word, no_word}
use Rattle.xa_lines.proofs.words.word_at.Goals as goal

pub returns : goal.returns
returns c = ap word_at (next_word _ _ _ _ (sym c.in-Some.ensures) c.cut_word.ensures)

pub returns-in_default : goal.returns-in_default
returns-in_default c = ap word_at (no_word _ (sym c.in_default.ensures))
