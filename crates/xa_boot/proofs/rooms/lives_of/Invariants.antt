use Rattle.std.proofs.Common.{◌≡◌, length, map, take, vec_capacity}
use Rattle.xa_boot.specs.Supplies.{restarts_of}
use Rattle.xa_boot.proofs.rooms.lives_of.Given as goal

abbrev pub invariant-loop-server : goal.invariant-loop-server
invariant-loop-server l = record { items : l.all.items ≡ map restarts_of (take l.server-index l.servers); room : vec_capacity l.all ≡ length l.servers }
