use Rattle.std.proofs.Common.{sym, ◌∙◌}
use Rattle.toml.specs.View.{view}
use Rattle.xa_config.proofs.Whole.{tables_absent, tables_there, tables_found}
use Rattle.xa_config.proofs.lists.entries_at.Goals as goal

pub returns-in_default : goal.returns-in_default
returns-in_default c = tables_absent c.args.key.now (view c.args.document.now) c.in_default.ensures

pub returns-then-not-all_tables : goal.returns-then-not-all_tables
returns-then-not-all_tables c =
    tables_there c.args.key.now (view c.args.document.now) (view c.in-Some.value.now) c.in_ok-values.values.now _ c.in-Some.ensures c.in_ok-values.ensures
    (sym c.all_tables.ensures ∙ c.if-not-all_tables.true)

pub returns : goal.returns
returns c = (
  tables_there c.args.key.now (view c.args.document.now) (view c.in-Some.value.now) c.in_ok-values.values.now _ c.in-Some.ensures c.in_ok-values.ensures
      (sym c.all_tables.ensures ∙ c.if-not-all_tables.false),
  tables_found c.args.key.now (view c.args.document.now) (view c.in-Some.value.now) c.in_ok-values.values.now c.in-Some.ensures c.in_ok-values.ensures,
)
