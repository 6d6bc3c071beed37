-- Where the first line of a script ends.
use Rattle.std.proofs.Common.{◌≡◌, ℕ, suc, ◌+◌, ◌-◌, ◌<◌, nat_lt, not, Bool, ◌⊎◌, true, false, cond, length, List, [], ◌∷◌, take, drop, Some, None, inl, inr, refl, ap, sym, ◌∙◌, arith}
use Rattle.std.proofs.lemmas.Bool.{ltb-true, ltb-false, ne_eqb}
use Rattle.std.proofs.lemmas.List.Sums.{prefix_len-le-length}
use Rattle.std.proofs.lemmas.List.Splits.{slice_split_first, length-slice_split}
use Rattle.std.specs.List.{position, position_or_len, slice_split, onto_first, before_first, after_first}
use Rattle.std.specs.Str.Lines.{lines, lines_of_parts, strip_carriage_return}
use Rattle.xa_script.specs.Draft.{is_line_end}
use Rattle.xa_script.proofs.Texts.{some_is}

chosen : {A : Type 0} (b : Bool) (x y z : A) → cond b x y ≡ z → ((b ≡ true) × (x ≡ z)) ⊎ ((b ≡ false) × (y ≡ z))
chosen true x y z h = inl (refl, h)
chosen false x y z h = inr (refl, h)

some_of_none : {A : Type 0} (x : A) → None ≡ Some x → ⊥
some_of_none x h = cc

parts_again : (x : List ℕ) (parts : List (List ℕ)) → 0 < length parts → lines_of_parts (x ∷ parts) ≡ strip_carriage_return x ∷ lines_of_parts parts
parts_again x [] h = absurd (omega (arith, h))
parts_again x (y ∷ more) h = refl

found_place : (octets : List ℕ) (end : ℕ) → position is_line_end octets ≡ Some end → (end ≡ position_or_len is_line_end octets) × (position_or_len is_line_end octets < length octets)
found_place octets end h = elim (chosen (nat_lt (position_or_len is_line_end octets) (length octets)) (Some (position_or_len is_line_end octets)) None (Some end) h) [
  | inl p ↦ (sym (some_is (position_or_len is_line_end octets) end p.1), ltb-true (position_or_len is_line_end octets) (length octets) p.0)
  | inr p ↦ absurd (some_of_none end p.1)
]

-- a line that has its end
pub lines_at : (octets : List ℕ) (end : ℕ) → position is_line_end octets ≡ Some end → lines octets ≡ strip_carriage_return (take end octets) ∷ lines (drop (end + 1) octets)
lines_at octets end h =
    let found = found_place octets end h in
    let behind = after_first is_line_end octets in
    let sized = length-slice_split is_line_end behind in
    ap lines_of_parts (slice_split_first is_line_end octets 0 found.1)
    ∙ parts_again (before_first is_line_end octets) (slice_split is_line_end behind) (omega (arith, sized))
    ∙ ap (λ n. strip_carriage_return (take n octets) ∷ lines (drop (n + 1) octets)) (sym found.0)

one_part : (octets : List ℕ) → position_or_len is_line_end octets ≡ length octets → slice_split is_line_end octets ≡ octets ∷ []
one_part [] h = refl
one_part (x ∷ octets) h = elim (is_line_end x) as (λ b. cond (not b) (1 + position_or_len is_line_end octets) 0 ≡ suc (length octets)
    → cond b ([] ∷ slice_split is_line_end octets) (onto_first x (slice_split is_line_end octets)) ≡ (x ∷ octets) ∷ []) [
      | true ↦ λ e. absurd (omega (arith, e))
      | false ↦ λ e. ap (onto_first x) (one_part octets (omega (arith, e)))
    ] h

no_place : (octets : List ℕ) → position is_line_end octets ≡ None → position_or_len is_line_end octets ≡ length octets
no_place octets h = elim (chosen (nat_lt (position_or_len is_line_end octets) (length octets)) (Some (position_or_len is_line_end octets)) None None h) [
  | inl p ↦ absurd (some_of_none (position_or_len is_line_end octets) (sym p.1))
  | inr p ↦
      let high = ltb-false (position_or_len is_line_end octets) (length octets) p.0 in
      let low = prefix_len-le-length (λ octet. not (is_line_end octet)) octets in
      omega (arith, high, low)
]

-- a last line that lacks its end
pub lines_last : (octets : List ℕ) → 0 < length octets → position is_line_end octets ≡ None → lines octets ≡ octets ∷ []
lines_last octets some h =
    ap lines_of_parts (one_part octets (no_place octets h)) ∙ ap (λ b. cond b [] (octets ∷ [])) (ne_eqb (length octets) 0 (λ e. absurd (omega (arith, e, some))))

pub nothing_left : (octets : List ℕ) → take (length octets - length octets) (drop (length octets) octets) ≡ []
nothing_left octets = let none : length octets - length octets ≡ 0 = omega arith in ap (λ n. take n (drop (length octets) octets)) none
