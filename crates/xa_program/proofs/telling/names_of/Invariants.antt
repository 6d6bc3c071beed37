use Rattle.std.proofs.Common.{◌≡◌, take}
use Rattle.xa_program.specs.Headline.{names_of}
use Rattle.xa_program.proofs.telling.names_of.Given as goal

abbrev pub invariant-loop-client : goal.invariant-loop-client
invariant-loop-client l = l.names.items ≡ names_of (take l.client-index l.clients)
