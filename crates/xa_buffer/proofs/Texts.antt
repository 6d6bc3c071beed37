-- Texts in their fields.
use Rattle.std.proofs.Common.{◌≡◌, ℕ, ◌+◌, ◌≤◌, ◌==◌, Bool, false, cond, suc, zero, not, List, [], ◌∷◌, ◌++◌, length, replicate, Some, None, refl, sym, ap, ◌∙◌, arith, inl, inr}
use Rattle.std.specs.Option.{unwrap_or}
use Rattle.std.specs.List.{position, position_or_len, before_first, list_any}
use Rattle.std.proofs.lemmas.Bool.{cases_lt, lt-ltb, le-ltb, or_parts}
use Rattle.std.proofs.lemmas.List.{take_at}
use Rattle.std.proofs.lemmas.List.Sums.{prefix_len-le-length}

abbrev pub is_zero : ℕ → Bool
is_zero octet = octet == 0

-- the place of the first zero octet, or the length
pub unwrap_or-position : (octets : List ℕ) → unwrap_or (position is_zero octets) (length octets) ≡ position_or_len is_zero octets
unwrap_or-position octets =
    let place = position_or_len is_zero octets in
    let most : place ≤ length octets = prefix_len-le-length (λ (octet : ℕ). not (is_zero octet)) octets in
    let at : Bool → ℕ = λ b. unwrap_or (cond b (Some place) None) (length octets) in
    elim (cases_lt place (length octets)) [
      | inl within ↦ ap at (lt-ltb place (length octets) within)
      | inr past ↦ ap at (le-ltb place (length octets) past) ∙ omega arith
    ]

position_or_len-zeros : (n : ℕ) → position_or_len is_zero (replicate n 0) ≡ 0
position_or_len-zeros zero = refl
position_or_len-zeros (suc n) = refl

position_or_len-text : (text : List ℕ) (n : ℕ) → list_any is_zero text ≡ false → position_or_len is_zero (text ++ replicate n 0) ≡ length text
position_or_len-text [] n none = position_or_len-zeros n
position_or_len-text (octet ∷ text) n none =
    let parts = or_parts (is_zero octet) (list_any is_zero text) none in
    let rest = position_or_len-text text n parts.1 in
    ap (λ (b : Bool). cond (not b) (1 + position_or_len is_zero (text ++ replicate n 0)) 0) parts.0 ∙ omega (arith, rest)

-- zeros behind a text without one don't belong to it
pub before_first-text : (text : List ℕ) (n : ℕ) → list_any is_zero text ≡ false → before_first is_zero (text ++ replicate n 0) ≡ text
before_first-text text n none = take_at text (replicate n 0) _ (sym (position_or_len-text text n none))
