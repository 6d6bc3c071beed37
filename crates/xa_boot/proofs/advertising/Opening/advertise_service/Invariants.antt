use Rattle.std.proofs.Common.{List, ◌++◌, drop}
use Rattle.xa_client_worker.specs.xa_types.Rows.{Change, changes_of}
use Rattle.xa_boot.specs.Opening.{Remain, puts}
use Rattle.xa_boot.proofs.advertising.Opening.advertise_service.Given as goal

abbrev pub invariant-loop-name : goal.invariant-loop-name
invariant-loop-name l = (rest : List Change) → Remain l.setup (changes_of l.setup l.service ++ rest) l.initial.self → Remain l.setup (puts l.setup l.service (drop l.name-index l.names) ++ rest) l.self
