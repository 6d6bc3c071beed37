use Rattle.std.proofs.Common.{◌≡◌, ◌≤◌, take, vec_len, vec_capacity}
use Rattle.xa_pool.proofs.block.Block.fill.Given as goal

-- the octets so far are in the block, which has room for all
abbrev pub invariant-loop-octet : goal.invariant-loop-octet
invariant-loop-octet l = record {
  items : l.self-inside.octets.items ≡ take l.octet-index l.octets;
  count : vec_len l.self-inside.octets ≡ l.octet-index;
  room : 65536 ≤ vec_capacity l.self-inside.octets;
}
