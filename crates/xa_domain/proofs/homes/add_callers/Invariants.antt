use Rattle.std.proofs.Common.{◌≡◌, ◌++◌, vec_capacity}
use Rattle.xa_domain.proofs.homes.add_callers.Given as goal

abbrev pub invariant-loop-home : goal.invariant-loop-home
invariant-loop-home l = record {
  homes : l.homes.items ≡ l.initial.homes.items ++ l.yielded;
  room : vec_capacity l.homes ≡ vec_capacity l.initial.homes;
}
