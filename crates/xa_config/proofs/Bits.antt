-- One bit for each shape.
use Rattle.std.proofs.Common.{◌≡◌, ℕ, suc, ◌+◌, ◌-◌, ◌*◌, ◌≤◌, Bool, true, false, cond, List, [], ◌∷◌, ◌++◌, length, get_or, take, drop, codes, map, Some, refl, sym, ap, ◌∙◌, arith}
use mir.Val.{bool_byte}
use Rattle.std.specs.List.{list_any}
use Rattle.std.specs.Str.{bytes_eq}
use Rattle.toml.specs.Data.{Data, get}
use Rattle.toml.specs.View.{view}
use Rattle.toml.specs.declared.value.Value.{Value}
use Rattle.xa_types.specs.Configured.{is_among}
use Rattle.xa_types.specs.declared.row.Accepts.{Accepts}
use Rattle.xa_config.specs.Kinds.{text_in, list_in}
use Rattle.xa_config.specs.Meaning.{bits_of, accepts_of}
use Rattle.xa_config.proofs.Arrays.{told_text}

abbrev pub accepts : Bool → ℕ → Accepts
accepts octet structs = record { octet = octet; structs = structs }

pub all_taken : {A : Type 0} (xs : List A) (n : ℕ) → n ≡ length xs → take n xs ≡ xs
all_taken [] n h = ap (λ m. take m []) h
all_taken (x ∷ xs) n h = ap (λ m. take m (x ∷ xs)) h ∙ ap (λ ys. x ∷ ys) (all_taken xs (length xs) refl)

pub bits_next : (accepted shapes : List (List ℕ)) (shape : List ℕ) (bit n : ℕ) → 1 ≤ length shapes → shape ≡ get_or shapes 0 shape
    → bit ≡ cond (is_among accepted (codes "c:" ++ shape)) 1 0 → n ≡ bits_of accepted (take (length shapes - 1) (drop 1 shapes)) → bit + 2 * n ≡ bits_of accepted shapes
unfolding bits_of
bits_next accepted [] shape bit n some is b rest = absurd (omega (arith, some))
bits_next accepted (s ∷ shapes) shape bit n some is b rest =
    let less : suc (length shapes) - 1 ≡ length shapes = omega arith in
    ap (λ m. m + 2 * n) (b ∙ ap (λ name. cond (is_among accepted (codes "c:" ++ name)) 1 0) is)
    ∙ ap (λ m. cond (is_among accepted (codes "c:" ++ s)) 1 0 + 2 * m) (rest ∙ ap (bits_of accepted) (all_taken shapes (suc (length shapes) - 1) less))

pub byte_is : (b c : Bool) → b ≡ c → bool_byte b ≡ cond c 1 0
byte_is true c h = ap (λ x. cond x 1 0) h
byte_is false c h = ap (λ x. cond x 1 0) h

-- the kinds that are read off the elements of `accepts`
pub accepts_there : (shapes : List (List ℕ)) (entry : Data) (key : List ℕ) (d : Data) (vs : List Value) (octet : Bool) (structs : ℕ)
    → Some d ≡ get key entry → list_in d ≡ map view vs
    → octet ≡ list_any (λ value. bytes_eq (codes "octet") (text_in (view value))) vs → structs ≡ bits_of (map text_in (map view vs)) shapes
    → accepts octet structs ≡ accepts_of shapes (get key entry)
unfolding accepts_of
accepts_there shapes entry key d vs octet structs h found listed bits =
    ap (λ o. accepts o structs) (listed ∙ sym (told_text (codes "octet") vs))
    ∙ ap (accepts (is_among (map text_in (map view vs)) (codes "octet"))) bits
    ∙ ap (λ ds. accepts (is_among (map text_in ds) (codes "octet")) (bits_of (map text_in ds) shapes)) (sym found)
    ∙ ap (accepts_of shapes) h
