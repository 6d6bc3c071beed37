use Rattle.std.proofs.Common.{ℕ, List, [], ◌∷◌, map, subst, ap}
use Rattle.xa_config.specs.Document.{TellsFirst}
use Rattle.xa_config.specs.Faults.{Fault, fault}
use Rattle.xa_config.specs.Tables.{unknown_tables}
use Rattle.xa_config.proofs.Tells.{tells_map}
use Rattle.xa_config.proofs.configuration.check_tables.Goals as goal

abbrev made : List ℕ → Fault
made key = record { number = 2; key = key }

pub returns-in-Some : goal.returns-in-Some
unfolding unknown_tables
returns-in-Some c =
    tells_map made _ c.in-Some.key.now c.refuse.result c.in-Some.ensures
    (subst (λ key. TellsFirst (fault key 2 ∷ []) c.refuse.result) c.as_bytes.ensures.value c.refuse.ensures)

pub returns-in-None : goal.returns-in-None
unfolding unknown_tables
returns-in-None c = ap (map made) c.in-None.ensures
