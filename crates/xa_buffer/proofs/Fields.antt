-- What giving a field a value does.
use Rattle.std.proofs.Common.{◌≡◌, ◌≢◌, ℕ, ◌+◌, ◌-◌, ◌≤◌, Bool, true, false, cond, ℤ, List, [], ◌∷◌, ◌++◌, length, replicate, Option, Some, Result, Ok, Err, refl, sym, ap, ◌∙◌, subst, arith, inl, inr, leb-true}
use Rattle.std.specs.Prelude.{nat_le}
use Rattle.std.specs.List.{find, list_any}
use Rattle.std.specs.Str.{bytes_eq}
use Rattle.std.proofs.lemmas.Bool.{cases_Bool}
use Rattle.std.proofs.lemmas.List.{length-append, length-replicate}
use Rattle.std.proofs.lemmas.Slice.Eq.{bytes_eq-Decides}
use Rattle.byteorder.specs.Numbers.{length-bytes_high_first}
use Rattle.xa_types.specs.declared.setup.FieldSetup.{FieldSetup}
use Rattle.xa_types.specs.declared.setup.FieldKind.{FieldKind}
use Rattle.xa_types.specs.declared.setup.FieldKind.TheVariants.{Short, Int, Long, Char, Text as TextKind}
use Rattle.xa_types.specs.Kind.{field_size}
use Rattle.xa_buffer.specs.declared.refusal.BufferRefused.{BufferRefused}
use Rattle.xa_buffer.specs.declared.refusal.BufferRefused.TheVariants.{TooLong, WrongKind}
use Rattle.xa_buffer.specs.declared.value.FieldValue.{FieldValue}
use Rattle.xa_buffer.specs.declared.value.FieldValue.TheVariants.{Whole, Text}
use Rattle.xa_buffer.specs.Layout.{Piece, holds, number_octets, text_octets, encoded, decoded, value_in, value_named, then_as, with_value}
use Rattle.xa_buffer.specs.Laws.{IsLaidOut}
use Rattle.xa_buffer.proofs.Numbers.{number_read}
use Rattle.xa_buffer.proofs.Texts.{is_zero, before_first-text}

-- ---- one field

abbrev answer : {X : Type 0} → X → Result X BufferRefused
answer x = Ok x

-- a good answer of a test is what it gives where it passes
pub passed : {X : Type 0} (b : Bool) (x y : X) (why : BufferRefused) → cond b (answer x) (Err why) ≡ Ok y → (b ≡ true) × (x ≡ y)
passed true x y why made = (refl, cc)
passed false x y why made = cc

failed : {X : Type 0} (b : Bool) (r : Result X BufferRefused) (y : X) (why : BufferRefused) → cond b (Err why) r ≡ Ok y → (b ≡ false) × (r ≡ Ok y)
failed true r y why made = cc
failed false r y why made = (refl, made)

text_parts : (n : ℕ) (text octets : List ℕ) → text_octets n text ≡ Ok octets → (list_any is_zero text ≡ false) × (length text ≤ n) × (text ++ replicate (n - length text) 0 ≡ octets)
text_parts n text octets made =
    let nonzero = failed (list_any is_zero text) _ octets WrongKind made in
    let fits = passed (nat_le (length text) n) (text ++ replicate (n - length text) 0) octets TooLong nonzero.1 in
    (nonzero.0, leb-true (length text) n fits.0, fits.1)

-- a value is read back from its octets
decoded-encoded : (kind : FieldKind) (value : FieldValue) (octets : List ℕ) → encoded kind value ≡ Ok octets → decoded kind octets ≡ value
decoded-encoded (TextKind n) (Text text) octets made =
    let parts = text_parts n text octets made in
    ap (decoded (TextKind n)) (sym parts.2) ∙ ap Text (before_first-text text (n - length text) parts.0)
decoded-encoded (TextKind n) (Whole z) octets made = cc
decoded-encoded Short (Text text) octets made = cc
decoded-encoded Int (Text text) octets made = cc
decoded-encoded Long (Text text) octets made = cc
decoded-encoded Char (Text text) octets made = cc
decoded-encoded Short (Whole z) octets made = number_read Short z octets made
decoded-encoded Int (Whole z) octets made = number_read Int z octets made
decoded-encoded Long (Whole z) octets made = number_read Long z octets made
decoded-encoded Char (Whole z) octets made = number_read Char z octets made

length_number : (kind : FieldKind) (z : ℤ) (octets : List ℕ) → number_octets kind z ≡ Ok octets → length octets ≡ field_size kind
length_number kind z octets made =
    ap length (sym (passed (holds kind z) _ octets TooLong made).1) ∙ length-bytes_high_first (field_size kind) _

-- a value has as many octets as its field
length-encoded : (kind : FieldKind) (value : FieldValue) (octets : List ℕ) → encoded kind value ≡ Ok octets → length octets ≡ field_size kind
length-encoded (TextKind n) (Text text) octets made =
    let parts = text_parts n text octets made in
    let short = parts.1 in
    ap length (sym parts.2) ∙ (length-append text (replicate (n - length text) 0) ∙ (ap (λ (k : ℕ). length text + k) (length-replicate (n - length text) 0) ∙ omega arith))
length-encoded (TextKind n) (Whole z) octets made = cc
length-encoded Short (Text text) octets made = cc
length-encoded Int (Text text) octets made = cc
length-encoded Long (Text text) octets made = cc
length-encoded Char (Text text) octets made = cc
length-encoded Short (Whole z) octets made = length_number Short z octets made
length-encoded Int (Whole z) octets made = length_number Int z octets made
length-encoded Long (Whole z) octets made = length_number Long z octets made
length-encoded Char (Whole z) octets made = length_number Char z octets made

-- ---- among the others

-- what came of a good answer
pub came : {X Y : Type 0} (f : X → Y) (r : Result X BufferRefused) (y : Y) → then_as f r ≡ Ok y → (x : X) × ((r ≡ Ok x) × (f x ≡ y))
came f (Ok x) y made = (x, (refl, cc))
came f (Err why) y made = cc

abbrev is_named : List ℕ → Piece → Bool
is_named name piece = bytes_eq piece.field.name name

abbrev holding : Piece → List ℕ → Piece
holding piece octets = record piece { octets = octets }

-- the pieces after a field was given a value: the first is the field and has the octets, or it isn't, and is as it was
data Given (name : List ℕ) (value : FieldValue) (piece : Piece) (parts new : List Piece) : Type 0 where
  here : (octets : List ℕ) → is_named name piece ≡ true → encoded piece.field.kind value ≡ Ok octets → new ≡ holding piece octets ∷ parts → Given name value piece parts new
  behind : (rest : List Piece) → is_named name piece ≡ false → with_value name value parts ≡ Ok rest → new ≡ piece ∷ rest → Given name value piece parts new

given : (name : List ℕ) (value : FieldValue) (piece : Piece) (parts new : List Piece) → with_value name value (piece ∷ parts) ≡ Ok new → Given name value piece parts new
given name value piece parts new made =
    elim (cases_Bool (is_named name piece)) [
      | inl named ↦
          let put : then_as (λ (octets : List ℕ). holding piece octets ∷ parts) (encoded piece.field.kind value) ≡ Ok new = rw named at made in
          let parts = came _ (encoded piece.field.kind value) new put in
          here parts.0 named parts.1.0 (sym parts.1.1)
      | inr other ↦
          let put : then_as (λ (rest : List Piece). piece ∷ rest) (with_value name value parts) ≡ Ok new = rw other at made in
          let parts = came _ (with_value name value parts) new put in
          behind parts.0 other parts.1.0 (sym parts.1.1)
    ]

pub value_given : (name : List ℕ) (value : FieldValue) (parts new : List Piece) → with_value name value parts ≡ Ok new → value_named name new ≡ Ok value
value_given name value [] new made = cc
value_given name value (piece ∷ parts) new made =
    elim (given name value piece parts new made) [
      | here octets named put is ↦
          ap (value_named name) is
          ∙ (ap (λ (b : Bool). value_in (cond b (Some (holding piece octets)) (find (is_named name) parts))) named
          ∙ ap (λ (v : FieldValue). answer v) (decoded-encoded piece.field.kind value octets put))
      | behind rest other put is ↦
          ap (value_named name) is
          ∙ (ap (λ (b : Bool). value_in (cond b (Some piece) (find (is_named name) rest))) other
          ∙ value_given name value parts rest put)
    ]

pub others_stay : (name other : List ℕ) (value : FieldValue) (parts new : List Piece) → with_value name value parts ≡ Ok new → other ≢ name → find (is_named other) new ≡ find (is_named other) parts
others_stay name other value [] new made differ = cc
others_stay name other value (piece ∷ parts) new made differ =
    elim (given name value piece parts new made) [
      | here octets named put is ↦
          let same : piece.field.name ≡ name = (bytes_eq-Decides piece.field.name name).0 named in
          let skips : is_named other piece ≡ false = elim (cases_Bool (is_named other piece)) [
            | inl named ↦ absurd (differ (sym ((bytes_eq-Decides piece.field.name other).0 named) ∙ same))
            | inr skipped ↦ skipped
          ] in
          ap (find (is_named other)) is
          ∙ (ap (λ (b : Bool). cond b (Some (holding piece octets)) (find (is_named other) parts)) skips
          ∙ sym (ap (λ (b : Bool). cond b (Some piece) (find (is_named other) parts)) skips))
      | behind rest named put is ↦
          ap (find (is_named other)) is
          ∙ ap (λ (o : Option Piece). cond (is_named other piece) (Some piece) o) (others_stay name other value parts rest put differ)
    ]

pub stays_laid : (name : List ℕ) (value : FieldValue) (fields : List FieldSetup) (parts new : List Piece) → with_value name value parts ≡ Ok new → IsLaidOut fields parts → IsLaidOut fields new
stays_laid name value fields [] new made laid = cc
stays_laid name value [] (piece ∷ parts) new made laid = absurd laid
stays_laid name value (field ∷ fields) (piece ∷ parts) new made laid =
    elim (given name value piece parts new made) [
      | here octets named put is ↦
          subst (IsLaidOut (field ∷ fields)) (sym is)
          (laid.0, length-encoded piece.field.kind value octets put ∙ ap (λ (f : FieldSetup). field_size f.kind) laid.0, laid.2)
      | behind rest named put is ↦
          subst (IsLaidOut (field ∷ fields)) (sym is) (laid.0, laid.1, stays_laid name value fields parts rest put laid.2)
    ]
