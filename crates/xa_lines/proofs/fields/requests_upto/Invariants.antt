use Rattle.std.proofs.Common.{◌≡◌, []}
use Rattle.xa_lines.specs.Reading.{requests_from, words_in}
use Rattle.xa_lines.proofs.fields.requests_upto.Given as goal

abbrev pub invariant-loop-left : goal.invariant-loop-left
invariant-loop-left l = requests_from l.requests.items l.left (words_in l.rest) ≡ requests_from [] l.many (words_in l.words)

abbrev pub decreases-loop-left : goal.decreases-loop-left
decreases-loop-left l = l.left
