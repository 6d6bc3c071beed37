use Rattle.std.proofs.Common.{◌≡◌, ◌-◌, length}
use Rattle.xa_script.specs.Calls.{flags_from, flags_of}
use Rattle.xa_script.proofs.flags.flags_of.Given as goal

abbrev pub invariant-loop-turn : goal.invariant-loop-turn
invariant-loop-turn l = flags_from (length l.octets - l._turn) l.setup l.buffered l.flags l.rest ≡ flags_of l.setup l.buffered l.octets
