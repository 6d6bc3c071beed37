use Rattle.std.proofs.Common.{drop}
use Rattle.std.specs.List.{flat_map}
use Rattle.xa_client_worker.specs.xa_types.Rows.{changes_of}
use Rattle.xa_boot.specs.Opening.{Remain}
use Rattle.xa_boot.proofs.advertising.Opening.advertise_all.Given as goal

abbrev pub invariant-loop-service : goal.invariant-loop-service
invariant-loop-service l = Remain l.setup (flat_map (changes_of l.setup) (drop l.service-index l.services)) l.self
