use Rattle.std.proofs.Common.{◌≡◌, [], map}
use Rattle.toml.specs.View.{view}
use Rattle.xa_config.specs.Faults.{dotted, in_order}
use Rattle.xa_config.specs.Keys.{elements}
use Rattle.xa_config.specs.Kinds.{kind}
use Rattle.xa_config.proofs.Loops.{seen, unseen, at_element}
use Rattle.xa_config.proofs.entry.Entry.check_kinds.Given as goal

abbrev pub invariant-loop-place : goal.invariant-loop-place
invariant-loop-place l =
    elements (dotted l.self.place.now l.key) (kind l.shapes) [] (map view l.values)
    ≡ in_order (at_element (dotted l.self.place.now l.key) (kind l.shapes)) (seen l.place l.values) (unseen l.place l.values)
