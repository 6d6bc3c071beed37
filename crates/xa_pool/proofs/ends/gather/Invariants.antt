use Rattle.std.proofs.Common.{◌≡◌, ◌+◌, length, vec_len}
use Rattle.std.specs.List.{All}
use Rattle.xa_gauge.specs.Known.{known as gauged, IsPassOf as IsGaugePassOf}
use Rattle.xa_pool.specs.Known.{taken, given}
use Rattle.xa_pool.proofs.ends.gather.Given as goal

-- the passes that are gone are in this one
abbrev pub invariant-loop-next : goal.invariant-loop-next
invariant-loop-next l = record {
  pass : IsGaugePassOf l.home l.all;
  parts : (gauged l.all).parts + length l.passes.items ≡ length l.fn.passes.items;
  downs : (gauged l.all).downs + taken l.passes.items ≡ taken l.fn.passes.items;
  ups : (gauged l.all).ups + given l.passes.items ≡ given l.fn.passes.items;
  tables : All (λ p. IsGaugePassOf l.home p.pass) l.passes.items;
}

abbrev pub decreases-loop-next : goal.decreases-loop-next
decreases-loop-next l = vec_len l.passes
