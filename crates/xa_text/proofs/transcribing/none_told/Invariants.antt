use Rattle.std.proofs.Common.{◌≡◌, length, vec_capacity}
use Rattle.std.specs.List.{All}
use Rattle.xa_text.specs.Telling.{IsFresh}
use Rattle.xa_text.proofs.transcribing.none_told.Given as goal

abbrev pub invariant-loop : goal.invariant-loop
invariant-loop l = record { count : length l.all.items ≡ l.counter; room : vec_capacity l.all ≡ l.clients; fresh : All IsFresh l.all.items }
