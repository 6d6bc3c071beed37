use Rattle.std.proofs.Common.{◌∙◌}
use Rattle.std.proofs.lemmas.Result.{err_from_is_err_and}
use Rattle.toml.specs.View.{view}
use Rattle.xa_config.specs.Kinds.{kind}
use Rattle.xa_config.proofs.Bits.{accepts_there}
use Rattle.xa_config.proofs.Entries.{tells_optional, optional_there}
use Rattle.xa_config.proofs.entry.Entry.accepts.Goals as goal

pub returns-in_err-values : goal.returns-in_err-values
returns-in_err-values c =
    let p = err_from_is_err_and c.from_residual.result c.from_residual.ensures.1 in
    rw (p.1, p.2)
    (tells_optional c.args.self.now.place.now c.args.key.now 0 65 (kind c.args.shapes.now) (view c.args.self.now.table.now) (view c.in-Some.value.now) _ c.in-Some.ensures
    (c.in_err-values.ensures.refused (kind c.args.shapes.now)))

pub returns : goal.returns
returns c = (
  optional_there c.args.self.now.place.now c.args.key.now 0 65 (kind c.args.shapes.now) (view c.args.self.now.table.now) (view c.in-Some.value.now) c.in-Some.ensures
      ∙ c.in_ok-values.ensures.left (kind c.args.shapes.now) ∙ c.in_ok-check_kinds.ensures,
  accepts_there c.args.shapes.now (view c.args.self.now.table.now) c.args.key.now (view c.in-Some.value.now) c.in_ok-values.values.now _ _ c.in-Some.ensures c.in_ok-values.ensures.found
      c.is_listed.ensures c.bits_of.ensures.bits,
)
