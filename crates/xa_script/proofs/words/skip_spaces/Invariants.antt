use Rattle.std.proofs.Common.{◌≡◌, length}
use Rattle.xa_script.specs.Words.{skip_spaces}
use Rattle.xa_script.proofs.words.skip_spaces.Given as goal

abbrev pub invariant-loop-rest : goal.invariant-loop-rest
invariant-loop-rest l = skip_spaces l.rest ≡ skip_spaces l.octets

abbrev pub decreases-loop-rest : goal.decreases-loop-rest
decreases-loop-rest l = length l.rest
