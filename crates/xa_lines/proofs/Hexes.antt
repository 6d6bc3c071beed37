-- Octets in lower-case digits.
use Rattle.std.proofs.Common.{◌≡◌, ℕ, suc, ◌+◌, ◌*◌, ◌/◌, ◌%◌, ◌<◌, Bool, true, false, cond, not, ◌==◌, nat_lt, nat_le, ◌&&◌, ◌||◌, List, [], ◌∷◌, length, Option, Some, None, Result, Ok, Err, slice_index, refl, sym, ap, subst, ◌∙◌, arith, codes}
use Rattle.std.specs.List.{list_all}
use Rattle.std.specs.Str.{bytes_eq}
use Rattle.std.proofs.lemmas.Bool.{eqb-true, ltb-true, leb-true, and_parts, and_from, agree_below_at}
use Rattle.std.proofs.lemmas.Option.{same_Some}
use Rattle.hex.specs.Hex.{◌>>=◌, IsBytes, lower_digits, encode_with, encode_lower, hex_digit_value, digit_or_error, value_at, pair_value, decode_pairs, decode_of}
use Rattle.hex.specs.declared.error.FromHexError.{FromHexError}
use Rattle.hex.proofs.HexLemmas.{decode_of-ok, decode_of-even, decode_of-encode_lower}
use Rattle.xa_lines.specs.Line.{hex_word}
use Rattle.xa_lines.specs.Reading.{is_lower, some_of, hex_of}
use Rattle.xa_lines.proofs.Cutting.{is_inner, is_word}
use Rattle.xa_lines.proofs.Combining.{same_bytes, IsWordOf}

bind_ok : {A B : Type 0} (r : Result A FromHexError) (f : A → Result B FromHexError) (y : B) → (r >>= f) ≡ Ok y → (x : A) × (r ≡ Ok x) × (f x ≡ Ok y)
bind_ok (Ok x) f y h = (x, refl, h)
bind_ok (Err e) f y h = absurd (cc h)

digit_read : (c i : ℕ) (o : Option ℕ) (v : ℕ) → digit_or_error c i o ≡ Ok v → o ≡ Some v
digit_read c i (Some w) v h = cc h
digit_read c i None v h = absurd (cc h)

-- a lower-case digit is the digit of its value
abbrev pub is_digit_of : ℕ → Option ℕ → Bool
is_digit_of c None = false
is_digit_of c (Some v) = nat_lt v 16 && (slice_index lower_digits v == c)

lower_small : (c : ℕ) → is_lower c ≡ true → c < 103
lower_small c h = by (nat_le 48 c && nat_le c 57) refl where
  by : (b : Bool) → (nat_le 48 c && nat_le c 57) ≡ b → c < 103
  by true e = let high = leb-true c 57 (and_parts (nat_le 48 c) (nat_le c 57) e).1 in omega (arith, high)
  by false e =
      let other : (nat_le 97 c && nat_le c 102) ≡ true = ap (λ b. b || (nat_le 97 c && nat_le c 102)) (sym e) ∙ h in
      let high = leb-true c 102 (and_parts (nat_le 97 c) (nat_le c 102) other).1 in omega (arith, high)

digit_of : (c v : ℕ) → is_lower c ≡ true → hex_digit_value c ≡ Some v → (v < 16) × (slice_index lower_digits v ≡ c)
digit_of c v h e =
    let table : (not (is_lower c) || is_digit_of c (hex_digit_value c)) ≡ true = agree_below_at (λ k. not (is_lower k) || is_digit_of k (hex_digit_value k)) (λ k. true) 103 c refl (lower_small c h) in
    let one : is_digit_of c (Some v) ≡ true = ap (is_digit_of c) (sym e) ∙ ap (λ b. not b || is_digit_of c (hex_digit_value c)) (sym h) ∙ table in
    let parts = and_parts (nat_lt v 16) (slice_index lower_digits v == c) one in
    (ltb-true v 16 parts.0, eqb-true (slice_index lower_digits v) c parts.1)

-- pairs of lower-case digits are spelled again
lower_again : (i : ℕ) (s bytes : List ℕ) → decode_pairs i s ≡ Ok bytes → list_all is_lower s ≡ true → encode_lower bytes ≡ s
unfolding decode_pairs encode_with
lower_again i [] bytes h low = let none : bytes ≡ [] = cc (sym h) in ap encode_lower none
lower_again i (a ∷ []) bytes h low = absurd (cc h)
lower_again i (a ∷ b ∷ rest) bytes h low =
    let p = bind_ok (pair_value a b i) _ bytes h in
    let high = bind_ok (value_at a i) _ p.0 p.1 in
    let back = bind_ok (value_at b (i + 1)) _ p.0 high.2 in
    let more = bind_ok (decode_pairs (i + 2) rest) _ bytes p.2 in
    let lows = and_parts (is_lower a) (list_all is_lower (b ∷ rest)) low in
    let others = and_parts (is_lower b) (list_all is_lower rest) lows.1 in
    let da = digit_of a high.0 lows.0 (digit_read a i (hex_digit_value a) high.0 high.1) in
    let db = digit_of b back.0 others.0 (digit_read b (i + 1) (hex_digit_value b) back.0 back.1) in
    let ha = da.0 in
    let hb = db.0 in
    let byte : high.0 * 16 + back.0 ≡ p.0 = cc back.2 in
    let quotient : p.0 / 16 ≡ high.0 = omega (arith, byte, ha, hb) in
    let remainder : p.0 % 16 ≡ back.0 = omega (arith, byte, ha, hb) in
    let whole : p.0 ∷ more.0 ≡ bytes = cc more.2 in
    ap encode_lower (sym whole)
    ∙ ap (λ k. slice_index lower_digits k ∷ slice_index lower_digits (p.0 % 16) ∷ encode_lower more.0) quotient
    ∙ ap (λ k. slice_index lower_digits high.0 ∷ slice_index lower_digits k ∷ encode_lower more.0) remainder
    ∙ ap (λ c. c ∷ slice_index lower_digits back.0 ∷ encode_lower more.0) da.1
    ∙ ap (λ c. a ∷ c ∷ encode_lower more.0) db.1
    ∙ ap (λ (xs : List ℕ). a ∷ b ∷ xs) (lower_again (i + 2) rest more.0 more.1 others.1)

lower_digit : (k : ℕ) → k < 16 → is_lower (slice_index lower_digits k) ≡ true
lower_digit k small = agree_below_at (λ k. is_lower (slice_index lower_digits k)) (λ k. true) 16 k refl small

encoded_lower : (bytes : List ℕ) → IsBytes bytes → list_all is_lower (encode_lower bytes) ≡ true
unfolding encode_with
encoded_lower [] h = refl
encoded_lower (b ∷ bytes) h =
    let small : b < 256 = h 0 in
    and_from (is_lower (slice_index lower_digits (b / 16))) _ (lower_digit (b / 16) (omega (arith, small)))
    (and_from (is_lower (slice_index lower_digits (b % 16))) _ (lower_digit (b % 16) (omega arith)) (encoded_lower bytes (λ i. h (suc i))))

lower_inner : (word : List ℕ) → list_all is_lower word ≡ true → is_word word ≡ true
lower_inner [] h = refl
lower_inner (c ∷ cs) h =
    let parts = and_parts (is_lower c) (list_all is_lower cs) h in
    and_from (is_inner c) (is_word cs) (inner_of c (lower_small c parts.0) parts.0) (lower_inner cs parts.1)
  where
    inner_of : (c : ℕ) → c < 103 → is_lower c ≡ true → is_inner c ≡ true
    inner_of c small h =
        let table : (not (is_lower c) || is_inner c) ≡ true = agree_below_at (λ k. not (is_lower k) || is_inner k) (λ k. true) 103 c refl small in
        ap (λ b. not b || is_inner c) (sym h) ∙ table

-- ---- the word

some_takes : (r : Result (List ℕ) FromHexError) (v : List ℕ) → some_of r ≡ Some v → (r ≡ Ok v) × (0 < length v)
some_takes (Ok []) v e = absurd cc
some_takes (Ok (b ∷ bytes)) v e = let same = same_Some (b ∷ bytes) v e in (ap Ok same, subst (λ (xs : List ℕ). 0 < length xs) same (omega arith))
some_takes (Err why) v e = absurd cc

word_of_some : (v : List ℕ) → 0 < length v → hex_word v ≡ encode_lower v
word_of_some [] some = absurd (omega (arith, some))
word_of_some (b ∷ bytes) some = refl

hex_takes : (word v : List ℕ) → hex_of word ≡ Some v → (word ≡ hex_word v) × IsBytes v
unfolding hex_of
hex_takes word v e = by (bytes_eq word (codes "-")) refl e where
  by : (b : Bool) → bytes_eq word (codes "-") ≡ b → ◌≡◌ {A = Option (List ℕ)} (cond b (Some []) (cond (list_all is_lower word) (some_of (decode_of word)) None)) (Some v) → (word ≡ hex_word v) × IsBytes v
  by true t h = subst (λ (xs : List ℕ). (word ≡ hex_word xs) × IsBytes xs) (same_Some [] v h) (same_bytes word (codes "-") t, λ i. omega arith)
  by false t h = lower (list_all is_lower word) refl h where
    lower : (b : Bool) → list_all is_lower word ≡ b → cond b (some_of (decode_of word)) None ≡ Some v → (word ≡ hex_word v) × IsBytes v
    lower true low g =
        let s = some_takes (decode_of word) v g in
        let ok = decode_of-ok word v s.0 in
        let pairs = sym (decode_of-even word ok.0) ∙ s.0 in
        (sym (lower_again 0 word v pairs low) ∙ sym (word_of_some v s.1), ok.3)
    lower false low g = absurd cc

dash_by : (x : ℕ) (y : ℕ) (ys : List ℕ) → bytes_eq (x ∷ y ∷ ys) (codes "-") ≡ false
dash_by x y ys = by (bytes_eq (x ∷ y ∷ ys) (codes "-")) refl where
  by : (b : Bool) → bytes_eq (x ∷ y ∷ ys) (codes "-") ≡ b → b ≡ false
  by true e = let same = ap length (same_bytes (x ∷ y ∷ ys) (codes "-") e) in absurd (omega (arith, same))
  by false e = refl

hex_again : (v : List ℕ) → IsBytes v → hex_of (hex_word v) ≡ Some v
unfolding hex_of encode_with
hex_again [] h = refl
hex_again (b ∷ bytes) h =
    let word = encode_lower (b ∷ bytes) in
    ap (λ t. cond t (Some []) (cond (list_all is_lower word) (some_of (decode_of word)) None)) (dash_by (slice_index lower_digits (b / 16)) (slice_index lower_digits (b % 16)) (encode_lower bytes))
    ∙ ap (λ t. cond t (some_of (decode_of word)) None) (encoded_lower (b ∷ bytes) h)
    ∙ ap some_of (decode_of-encode_lower (b ∷ bytes) h)

hex_inner : (v : List ℕ) → IsBytes v → is_word (hex_word v) ≡ true
hex_inner [] h = refl
hex_inner (b ∷ bytes) h = lower_inner (encode_lower (b ∷ bytes)) (encoded_lower (b ∷ bytes) h)

pub hex_is : IsWordOf hex_of hex_word IsBytes
hex_is = record { takes = hex_takes; again = hex_again; inner = hex_inner }
