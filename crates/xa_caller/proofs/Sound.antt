-- Sound data by the configured shapes has a spelling.
use Rattle.std.proofs.Common.{◌≡◌, ℕ, ◌≤◌, ◌==◌, true, false, List, [], length, Option, Some, None, inl, inr, refl, sym, ◌∙◌, ap, subst, arith, add-one, eqb-true, leb-true, Bool, zero, suc, ◌∷◌}
use Rattle.std.specs.Prelude.{slice_get}
use Rattle.std.specs.List.{list_all, position}
use Rattle.std.specs.Str.{bytes_eq}
use Rattle.std.proofs.lemmas.Bool.{and_parts}
use Rattle.std.proofs.lemmas.List.Quantifiers.{position-Some}
use Rattle.std.proofs.lemmas.Option.{slice_get_cases}
use Rattle.std.proofs.lemmas.Slice.Eq.{bytes_eq-Decides}
use Rattle.xa_types.specs.declared.data.Data.{Data}
use Rattle.xa_types.specs.declared.data.Data.TheVariants.{Absent, Octet, Struct}
use Rattle.xa_types.specs.declared.setup.Setup.{Setup}
use Rattle.xa_types.specs.declared.setup.ShapeSetup.{ShapeSetup}
use Rattle.xa_types.specs.Configured.{is_configured, is_valid_shape, are_valid_shapes}
use Rattle.xa_types.specs.Kind.{has_size, shape_named, is_sound}
use Rattle.xa_types.specs.Name.{IsName}
use Rattle.xa_types.specs.Setup.{numbered, counted_from_1}
use Rattle.xa_buffer.specs.Layout.{size_of_fields}
use Rattle.xa_frame.specs.Spelling.{IsData}
use Rattle.xa_buffer.proofs.Sizes.{small_shapes}

-- where all pass, each does
passes_at : {X : Type 0} (p : X → Bool) (xs : List X) → list_all p xs ≡ true → (i : ℕ) (x : X) → slice_get xs i ≡ Some x → p x ≡ true
passes_at p [] all i x is = absurd (cc is)
passes_at p (y ∷ xs) all zero x is = subst (λ z. p z ≡ true) (cc is) (and_parts (p y) (list_all p xs) all).0
passes_at p (y ∷ xs) all (suc i) x is = passes_at p xs (and_parts (p y) (list_all p xs) all).1 i x is

-- the place of the shape with that name
abbrev place_in : Setup → List ℕ → Option ℕ
place_in setup subtype = position (λ (shape : ShapeSetup). bytes_eq shape.name subtype) setup.shapes

-- data of a shape that stands at that place is sound where it has the size of the shape
size_at : (setup : Setup) (subtype : List ℕ) (n place : ℕ) (shape : ShapeSetup) → place_in setup subtype ≡ Some place → slice_get setup.shapes place ≡ Some shape
    → has_size (numbered (shape_named setup subtype) setup.shapes) n ≡ (size_of_fields shape.fields == n)
size_at setup subtype n place shape found stood =
    ap (λ (o : Option ℕ). has_size (numbered (counted_from_1 o) setup.shapes) n) found
    ∙ (ap (λ (k : ℕ). has_size (numbered k setup.shapes) n) (add-one place) ∙ ap (λ (o : Option ShapeSetup). has_size o n) stood)

-- and of no shape it isn't
no_size : (setup : Setup) (subtype : List ℕ) (n : ℕ) → place_in setup subtype ≡ None → has_size (numbered (shape_named setup subtype) setup.shapes) n ≡ false
no_size setup subtype n none = ap (λ (o : Option ℕ). has_size (numbered (counted_from_1 o) setup.shapes) n) none

-- a configured shape is named by a name
named_shape : (shape : ShapeSetup) → is_valid_shape shape ≡ true → IsName shape.name
named_shape shape valid =
    let identifier = (and_parts _ _ (and_parts _ _ (and_parts _ _ valid).0).0).0 in
    (and_parts _ _ (and_parts _ _ identifier).0).0

sound_struct : (setup : Setup) (subtype octets : List ℕ) (o : Option ℕ) → place_in setup subtype ≡ o → is_configured setup ≡ true → is_sound setup (Struct subtype octets) ≡ true → IsName subtype × (length octets ≤ 65536)
sound_struct setup subtype octets None found configured sound = let none = no_size setup subtype (length octets) found in cc (none, sound)
sound_struct setup subtype octets (Some place) found configured sound =
    elim (slice_get_cases setup.shapes place).1 [
      | inl here ↦
          let shapes : are_valid_shapes setup ≡ true = (and_parts _ _ (and_parts _ _ (and_parts _ _ (and_parts _ _ (and_parts _ _ configured).0).0).0).0).1 in
          let all : list_all is_valid_shape setup.shapes ≡ true = (and_parts _ _ (and_parts _ _ shapes).0).1 in
          let named = named_shape here.0 (passes_at is_valid_shape setup.shapes all place here.0 here.2) in
          let small : size_of_fields here.0.fields ≤ 65536 = subst (λ (shape : ShapeSetup). size_of_fields shape.fields ≤ 65536) here.3 (small_shapes setup place here.0 configured here.1) in
          let passes = (position-Some (λ (shape : ShapeSetup). bytes_eq shape.name subtype) setup.shapes place here.0 found).1 in
          let same : here.0.name ≡ subtype = (bytes_eq-Decides here.0.name subtype).0 (subst (λ (shape : ShapeSetup). bytes_eq shape.name subtype ≡ true) here.3 passes) in
          let size : size_of_fields here.0.fields ≡ length octets = eqb-true (size_of_fields here.0.fields) (length octets) (sym (size_at setup subtype (length octets) place here.0 found here.2) ∙ sound) in
          (subst IsName same named, omega (arith, size, small))
      | inr beyond ↦ absurd (let within = (position-Some (λ (shape : ShapeSetup). bytes_eq shape.name subtype) setup.shapes place (record { name = []; fields = [] }) found).0 in omega (arith, within, beyond.0))
    ]

pub sound_is_data : (setup : Setup) (payload : Data) → is_configured setup ≡ true → is_sound setup payload ≡ true → IsData payload
sound_is_data setup Absent configured sound = tt
sound_is_data setup (Octet octets) configured sound = leb-true (length octets) 65536 sound
sound_is_data setup (Struct subtype octets) configured sound = sound_struct setup subtype octets (place_in setup subtype) refl configured sound
