use Rattle.std.proofs.Common.{◌≡◌, drop}
use Rattle.std.specs.List.{list_any}
use Rattle.std.specs.Str.{bytes_eq}
use Rattle.xa_types.specs.declared.setup.FieldSetup.{FieldSetup}
use Rattle.xa_config.proofs.kinds.has_name.Given as goal

abbrev pub invariant-loop-field : goal.invariant-loop-field
invariant-loop-field l = list_any (λ (field : FieldSetup). bytes_eq l.octets field.name) (drop l.field-index l.fields) ≡ list_any (λ (field : FieldSetup). bytes_eq l.octets field.name) l.fields
