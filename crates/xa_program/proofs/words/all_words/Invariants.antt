-- The first words, as many as were asked for.
use Rattle.std.proofs.Common.{◌≡◌, take}
use Rattle.std.specs.Prelude.{IfSome}
use Rattle.xa_program.proofs.words.all_words.Given as goal

abbrev pub invariant-loop-place : goal.invariant-loop-place
invariant-loop-place g l = IfSome (g.A.Arguments.words l.given) (λ told. l.all.items ≡ take l.place told)
