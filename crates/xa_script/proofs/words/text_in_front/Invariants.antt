use Rattle.std.proofs.Common.{◌≡◌, length}
use Rattle.xa_script.specs.Words.{text_in_front, put}
use Rattle.xa_script.proofs.words.text_in_front.Given as goal

abbrev pub invariant-loop-octet : goal.invariant-loop-octet
invariant-loop-octet l = put l.text.items (text_in_front l.rest) ≡ text_in_front l.octets

abbrev pub decreases-loop-octet : goal.decreases-loop-octet
decreases-loop-octet l = length l.rest
