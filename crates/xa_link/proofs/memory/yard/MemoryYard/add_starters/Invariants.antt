-- There is one starter for each server so far, and room for the others.
use Rattle.std.proofs.Common.{All, ◌≡◌, ◌≤◌, [], length, vec_capacity}
use Rattle.xa_link.proofs.Starters.{AreOf}
use Rattle.xa_link.proofs.memory.yard.MemoryYard.add_starters.Given as goal

abbrev pub invariant-loop-i : goal.invariant-loop-i
invariant-loop-i l = record {
  each : length l.all.items ≡ l.i;
  room : length l.servers ≤ vec_capacity l.all;
  names : AreOf (λ s. s.server) l.all.items l.servers l.i;
  counts : All (λ s. s.faults ≡ 0) l.all.items;
  none : All (λ s. s.asked.items ≡ []) l.all.items;
  asked : l.self.asked ≡ l.initial.self.asked;
}
