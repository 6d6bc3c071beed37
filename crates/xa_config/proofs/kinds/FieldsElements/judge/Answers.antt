use Rattle.std.proofs.Common.{sym, ap, ◌∙◌}
use Rattle.std.specs.List.{list_any}
use Rattle.std.specs.Str.{bytes_eq}
use Rattle.toml.specs.View.{view}
use Rattle.xa_types.specs.declared.setup.FieldSetup.{FieldSetup}
use Rattle.xa_config.proofs.Arrays.{field_doubled, field_good}
use Rattle.xa_config.proofs.kinds.FieldsElements.judge.Goals as goal

pub returns-then-has_name : goal.returns-then-has_name
returns-then-has_name c before same =
    let is = c.in-Some.ensures in
    field_doubled before (view c.args.value.now) c.in_ok-octets.octets.now c.args.earlier.now c.in-Some.field c.in_ok-octets.ensures.ok is.0 is.1
    (ap (λ name. list_any (λ (f : FieldSetup). bytes_eq name f.name) c.args.earlier.now) (sym c.octets.ensures.value) ∙ sym c.has_name.ensures ∙ c.if-has_name.true)
    same

pub returns : goal.returns
returns c before same =
    let is = c.in-Some.ensures in
    field_good before (view c.args.value.now) c.in_ok-octets.octets.now c.args.earlier.now c.in-Some.field c.in_ok-octets.ensures.ok is.0 is.1
    (ap (λ name. list_any (λ (f : FieldSetup). bytes_eq name f.name) c.args.earlier.now) (sym c.octets.ensures.value) ∙ sym c.has_name.ensures ∙ c.if-has_name.false)
    same
