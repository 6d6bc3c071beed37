use Rattle.std.proofs.Common.{◌≡◌, ◌+◌, ◌-◌, ◌≤◌, [], vec_len, vec_capacity}
use Rattle.std.specs.List.{All}
use Rattle.xa_gauge.specs.Gauge.{knows, single}
use Rattle.xa_gauge.specs.Known.{known as gauged, IsPassOf as IsGaugePassOf}
use Rattle.xa_pool.proofs.ends.deal.Given as goal

-- the workers so far have their passes, and the others are to be cut from this one
abbrev pub invariant-loop : goal.invariant-loop
invariant-loop l = record {
  pass : IsGaugePassOf l.home l.whole;
  whole : gauged l.whole ≡ knows l.home.table.shared.key (l.count - vec_len l.passes) [] 0 0;
  dealt : vec_len l.passes + 1 ≡ l.counter;
  room : l.count ≤ vec_capacity l.passes;
  tables : All (λ p. IsGaugePassOf l.home p.pass) l.passes.items;
  news : All (λ p. gauged p.pass ≡ single l.home.table.shared.key) l.passes.items;
}
