use Rattle.std.proofs.Common.{◌≡◌, ◌≢◌, ◌∙◌, List, ℕ, Ok, ap, sym}
use Rattle.xa_buffer.specs.declared.buffer.Content.{Content}
use Rattle.xa_buffer.specs.declared.buffer.Content.TheVariants.{Octet, Struct}
use Rattle.xa_buffer.specs.declared.value.FieldValue.{FieldValue}
use Rattle.xa_buffer.specs.Contents.{with_field, field_of}
use Rattle.xa_buffer.specs.Layout.{Piece, value_in, with_value}
use Rattle.xa_buffer.proofs.Fields.{came, value_given, others_stay}
use Rattle.xa_buffer.proofs.laws.fields_lie_apart.Goals as goal

has_given : (old new : Content) (field : List ℕ) (value : FieldValue) → with_field old field value ≡ Ok new → field_of new field ≡ Ok value
has_given (Octet octets) new field value made = cc
has_given (Struct subtype parts) new field value made =
    let got = came (λ (p : List Piece). Struct subtype p) (with_value field value parts) new made in
    ap (λ (content : Content). field_of content field) (sym got.1.1) ∙ value_given field value parts got.0 got.1.0

pub returns-clause-given : goal.returns-clause-given
returns-clause-given c = has_given

others_have : (old new : Content) (field other : List ℕ) (value : FieldValue) → with_field old field value ≡ Ok new → other ≢ field → field_of new other ≡ field_of old other
others_have (Octet octets) new field other value made differ = cc
others_have (Struct subtype parts) new field other value made differ =
    let got = came (λ (p : List Piece). Struct subtype p) (with_value field value parts) new made in
    ap (λ (content : Content). field_of content other) (sym got.1.1) ∙ ap value_in (others_stay field other value parts got.0 got.1.0 differ)

pub returns-clause-others : goal.returns-clause-others
returns-clause-others c = others_have
