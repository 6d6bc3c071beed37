-- The shape of a subtype, and soundness.
use Rattle.std.proofs.Common.{◌≡◌, ℕ, Bool, cond, List, length, Option, Some, None, sym, ap, ◌∙◌, add-one, inl, inr}
use Rattle.std.specs.List.{find, position_or_len}
use Rattle.std.specs.Str.{bytes_eq}
use Rattle.std.proofs.lemmas.Bool.{cases_lt, lt-ltb, le-ltb}
use Rattle.std.proofs.lemmas.List.Folds.{find_at}
use Rattle.std.proofs.lemmas.Option.{slice_get_past}
use Rattle.xa_types.specs.declared.data.Data.TheVariants.{Struct}
use Rattle.xa_types.specs.declared.setup.Setup.{Setup}
use Rattle.xa_types.specs.declared.setup.ShapeSetup.{ShapeSetup}
use Rattle.xa_types.specs.Kind.{has_size, is_sound}
use Rattle.xa_types.specs.Setup.{numbered, number_of, counted_from_1}
use Rattle.xa_buffer.specs.Contents.{shape_of}

-- the entry that has the number of the first that passes is the first that passes
numbered-number_of : {X : Type 0} (p : X → Bool) (xs : List X) → numbered (number_of p xs) xs ≡ find p xs
numbered-number_of {X} p xs =
    let place = position_or_len p xs in
    elim (cases_lt place (length xs)) [
      | inl within ↦
          ap (λ (b : Bool). numbered (counted_from_1 (cond b (Some place) None)) xs) (lt-ltb place (length xs) within)
          ∙ (ap (λ (k : ℕ). numbered k xs) (add-one place) ∙ sym (find_at p xs))
      | inr past ↦
          ap (λ (b : Bool). numbered (counted_from_1 (cond b (Some place) None)) xs) (le-ltb place (length xs) past)
          ∙ sym (find_at p xs ∙ slice_get_past xs place past)
    ]

pub sound_struct : (setup : Setup) (subtype octets : List ℕ) → is_sound setup (Struct subtype octets) ≡ has_size (shape_of setup.shapes subtype) (length octets)
sound_struct setup subtype octets =
    ap (λ (shape : Option ShapeSetup). has_size shape (length octets)) (numbered-number_of (λ (shape : ShapeSetup). bytes_eq shape.name subtype) setup.shapes)
