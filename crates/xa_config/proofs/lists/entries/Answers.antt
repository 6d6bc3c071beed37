use Rattle.std.proofs.Common.{[], ◌∷◌, subst}
use Rattle.toml.specs.View.{view}
use Rattle.xa_config.specs.Faults.{fault}
use Rattle.xa_config.specs.Document.{TellsFirst}
use Rattle.xa_config.proofs.Whole.{table_wrong, table_empty, table_full, table_left}
use Rattle.xa_config.proofs.lists.entries.Goals as goal

pub returns-in_default-clause-refused : goal.returns-in_default-clause-refused
returns-in_default-clause-refused c entry =
    table_wrong c.args.key.now c.args.least c.args.most entry (view c.args.document.now) _ c.in_default.ensures
    (subst (λ key. TellsFirst (fault key 4 ∷ []) c.refuse.result) c.as_bytes.ensures.value c.refuse.ensures)

pub returns-then-values-least-clause-refused : goal.returns-then-values-least-clause-refused
returns-then-values-least-clause-refused c entry =
    let there = c.in-Some.ensures in
    table_empty c.args.key.now c.args.least c.args.most entry (view c.args.document.now) c.in-Some.values.now _ there.0 there.1 c.if-values-least.true
    (subst (λ key. TellsFirst (fault key 3 ∷ []) c.refuse-then-values-least.result) c.as_bytes-then-values-least.ensures.value c.refuse-then-values-least.ensures)

pub returns-then-values-most-clause-refused : goal.returns-then-values-most-clause-refused
returns-then-values-most-clause-refused c entry =
    let there = c.in-Some.ensures in
    table_full c.args.key.now c.args.least c.args.most entry (view c.args.document.now) c.in-Some.values.now _ there.0 there.1 c.if-values-least.false c.if-values-most.true
    (subst (λ key. TellsFirst (fault key 10 ∷ []) c.refuse-then-values-most.result) c.as_bytes-then-values-most.ensures.value c.refuse-then-values-most.ensures)

pub returns-clause-left : goal.returns-clause-left
returns-clause-left c entry =
    let there = c.in-Some.ensures in
    table_left c.args.key.now c.args.least c.args.most entry (view c.args.document.now) c.in-Some.values.now there.0 there.1 c.if-values-least.false c.if-values-most.false
