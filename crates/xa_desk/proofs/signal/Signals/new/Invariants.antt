use Rattle.std.proofs.Common.{◌≡◌, length, vec_capacity}
use Rattle.xa_desk.proofs.signal.Signals.new.Given as goal

abbrev pub invariant-loop : goal.invariant-loop
invariant-loop l = record { count : length l.signals.items ≡ l.counter; room : vec_capacity l.signals ≡ l.count }
