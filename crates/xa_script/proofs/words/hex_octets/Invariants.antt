use Rattle.std.proofs.Common.{◌≡◌, [], length}
use Rattle.xa_script.specs.Words.{hex_from}
use Rattle.xa_script.proofs.words.hex_octets.Given as goal

abbrev pub invariant-loop-rest : goal.invariant-loop-rest
invariant-loop-rest l = hex_from l.octets.items l.rest ≡ hex_from [] l.word

abbrev pub decreases-loop-rest : goal.decreases-loop-rest
decreases-loop-rest l = length l.rest
