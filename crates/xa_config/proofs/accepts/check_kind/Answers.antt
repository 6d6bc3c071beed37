use Rattle.std.proofs.Common.{refl, sym, ap, ◌∙◌}
use Rattle.toml.specs.View.{view}
use Rattle.xa_config.specs.Document.{first}
use Rattle.xa_config.proofs.Arrays.{kind_is}
use Rattle.xa_config.proofs.accepts.check_kind.Goals as goal

pub returns-then-is_listed : goal.returns-then-is_listed
returns-then-is_listed c =
    ap first (kind_is c.args.shapes.now c.args.earlier.now (view c.args.value.now) c.in_ok-octets.octets.now _ _ c.in_ok-octets.ensures.ok
    (sym c.is_listed.ensures ∙ c.if-is_listed.true) refl)

pub returns-then-not-is_kind : goal.returns-then-not-is_kind
returns-then-not-is_kind c =
    ap first (kind_is c.args.shapes.now c.args.earlier.now (view c.args.value.now) c.in_ok-octets.octets.now _ _ c.in_ok-octets.ensures.ok
    (sym c.is_listed.ensures ∙ c.if-is_listed.false) (sym c.is_kind.ensures ∙ c.if-not-is_kind.true))

pub returns : goal.returns
returns c =
    kind_is c.args.shapes.now c.args.earlier.now (view c.args.value.now) c.in_ok-octets.octets.now _ _ c.in_ok-octets.ensures.ok
    (sym c.is_listed.ensures ∙ c.if-is_listed.false) (sym c.is_kind.ensures ∙ c.if-not-is_kind.false)
