use Rattle.std.proofs.Common.{length}
use Rattle.std.specs.Prelude.{IsSome}
use Rattle.std.specs.List.{All}
use Rattle.xa_domain.proofs.Adding.{AreAddedSo}
use Rattle.xa_domain.proofs.tokens.add_passes.Given as goal

abbrev pub invariant-loop-pass : goal.invariant-loop-pass
invariant-loop-pass l = record { added : AreAddedSo l.fn.passes.items l.passes.items l.initial.all.items l.all.items; there : All IsSome l.passes.items }

abbrev pub decreases-loop-pass : goal.decreases-loop-pass
decreases-loop-pass l = length l.passes.items
