use Rattle.std.proofs.Common.{◌≡◌, length, map, take, vec_capacity}
use Rattle.xa_caller.specs.Phases.{request_of}
use Rattle.xa_caller.proofs.descriptors.Descriptors.requests.Given as goal

abbrev pub invariant-loop-asked : goal.invariant-loop-asked
invariant-loop-asked l = record { items : l.requests.items ≡ map request_of (take l.asked-index l.self.all); room : vec_capacity l.requests ≡ length l.self.all }
