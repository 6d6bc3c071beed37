use Rattle.std.proofs.Common.{◌≡◌, ◌+◌, ◌++◌, replicate, vec_len, vec_capacity}
use Rattle.xa_lock.proofs.makers.add_each.Given as goal

-- so many were added
abbrev pub invariant-loop : goal.invariant-loop
invariant-loop l = record {
  all : l.makers.items ≡ l.initial.makers.items ++ replicate l.counter l.maker;
  len : vec_len l.makers ≡ vec_len l.initial.makers + l.counter;
  capacity : vec_capacity l.makers ≡ vec_capacity l.initial.makers;
}
