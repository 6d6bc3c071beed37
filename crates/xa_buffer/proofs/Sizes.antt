-- A configured shape has at most 65,536 octets.
use Rattle.std.proofs.Common.{◌≡◌, ℕ, ◌*◌, ◌≤◌, ◌<◌, Bool, true, List, [], ◌∷◌, length, get_or, arith, leb-true}
use Rattle.std.specs.Prelude.{nat_le}
use Rattle.std.specs.List.{list_all}
use Rattle.std.proofs.lemmas.Bool.{and_parts}
use Rattle.std.proofs.lemmas.List.Folds.{list_all_at}
use Rattle.xa_types.specs.declared.setup.Setup.{Setup}
use Rattle.xa_types.specs.declared.setup.ShapeSetup.{ShapeSetup}
use Rattle.xa_types.specs.declared.setup.FieldSetup.{FieldSetup}
use Rattle.xa_types.specs.declared.setup.FieldKind.{FieldKind}
use Rattle.xa_types.specs.declared.setup.FieldKind.TheVariants.{Short, Int, Long, Char, Text}
use Rattle.xa_types.specs.Configured.{is_configured, is_valid_kind, is_valid_field, is_valid_shape, are_valid_shapes}
use Rattle.xa_types.specs.Kind.{field_size}
use Rattle.xa_types.specs.Name.{is_identifier}
use Rattle.xa_buffer.specs.Layout.{size_of_fields}
use Rattle.xa_buffer.proofs.Laid.{size_of_fields-cons}

small_kind : (kind : FieldKind) → is_valid_kind kind ≡ true → field_size kind ≤ 1024
small_kind Short valid = omega arith
small_kind Int valid = omega arith
small_kind Long valid = omega arith
small_kind Char valid = omega arith
small_kind (Text n) valid = leb-true n 1024 (and_parts (nat_le 1 n) (nat_le n 1024) valid).1

small_fields : (fields : List FieldSetup) → list_all is_valid_field fields ≡ true → size_of_fields fields ≤ length fields * 1024
small_fields [] valid = omega arith
small_fields (field ∷ fields) valid =
    let parts = and_parts (is_valid_field field) (list_all is_valid_field fields) valid in
    let here = small_kind field.kind (and_parts (is_identifier field.name) (is_valid_kind field.kind) parts.0).1 in
    let rest = small_fields fields parts.1 in
    let size = size_of_fields-cons field fields in
    omega arith

within_64 : (n size : ℕ) → n ≤ 64 → size ≤ n * 1024 → size ≤ 65536
within_64 n size few all = omega arith

small_shape : (shape : ShapeSetup) → is_valid_shape shape ≡ true → size_of_fields shape.fields ≤ 65536
small_shape shape valid =
    let fields = and_parts _ _ (and_parts _ _ valid).0 in
    let few = leb-true (length shape.fields) 64 (and_parts _ _ (and_parts _ _ fields.0).1).1 in
    within_64 (length shape.fields) (size_of_fields shape.fields) few (small_fields shape.fields fields.1)

passes_at : {X : Type 0} (p : X → Bool) (xs : List X) (i : ℕ) (d : X) → i < length xs → list_all p xs ≡ true → p (get_or xs i d) ≡ true
passes_at p xs i d within all =
    let never = list_all_at p xs i d within in grind arith

pub small_shapes : (setup : Setup) (i : ℕ) (d : ShapeSetup) → is_configured setup ≡ true → i < length setup.shapes → size_of_fields (get_or setup.shapes i d).fields ≤ 65536
small_shapes setup i d configured within =
    let shapes : are_valid_shapes setup ≡ true = (and_parts _ _ (and_parts _ _ (and_parts _ _ (and_parts _ _ (and_parts _ _ configured).0).0).0).0).1 in
    let all = (and_parts _ _ (and_parts _ _ shapes).0).1 in
    small_shape (get_or setup.shapes i d) (passes_at is_valid_shape setup.shapes i d within all)
