-- The digits of octets, as the crate `hex` writes them.
use Rattle.std.proofs.Common.{◌≡◌, ◌==◌, ◌/◌, ◌%◌, ◌+◌, ◌<◌, ℕ, suc, ◌-◌, ◌≤◌, true, List, [], ◌∷◌, ◌++◌, length, take, drop, slice_index, get_or, refl, sym, ◌∙◌, arith}
use Rattle.std.specs.List.{flat_map}
use Rattle.std.proofs.lemmas.Bool.{agree_below_at, eqb-true}
use Rattle.std.proofs.lemmas.List.{append-nil, length-append, drop_all, length-drop, take_all}
use Rattle.std.proofs.Math.Seq.{take-append_seam}
use Rattle.hex.specs.Hex.{encode_with, lower_digits}
use Rattle.xa_text.specs.Line.{hex_digit, hex_pair}

digit : (n : ℕ) → n < 16 → slice_index lower_digits n ≡ hex_digit n
digit n small = eqb-true _ _ (agree_below_at (λ k. slice_index lower_digits k == hex_digit k) (λ k. true) 16 n refl small)

pub pairs : (octets : List ℕ) → ((i : ℕ) → get_or octets i 0 < 256) → encode_with lower_digits octets ≡ flat_map hex_pair octets
unfolding encode_with
pairs [] small = refl
pairs (octet ∷ octets) small =
    let first : octet < 256 = small 0 in
    let high : octet / 16 < 16 = omega arith in
    let low : octet % 16 < 16 = omega arith in
    rw (digit (octet / 16) high, digit (octet % 16) low, pairs octets (λ i. small (suc i))) refl

-- a list whose end was filled
pub filled : (at n : ℕ) (old now filling post behind : List ℕ) → take at now ≡ old → post ≡ [] → length old + length filling ≡ n
    → take n ((take at now ++ (filling ++ post)) ++ behind) ≡ old ++ filling
filled at n old now filling post behind front none many =
    let whole : length (old ++ filling) ≡ n = length-append old filling ∙ many in
    rw (front, none, append-nil filling, sym whole) (take-append_seam (old ++ filling) behind)

-- what stood there before the list was made longer
pub front_kept : (at n : ℕ) (old now more : List ℕ) → length old ≡ at → at ≤ n → now ≡ take n old ++ more → take at now ≡ old
front_kept at n old now more size fits is =
    let all : take n old ≡ old = take_all n old (omega (arith, size)) in
    rw (is, all, sym size) (take-append_seam old more)

pub none_behind : (at : ℕ) (xs : List ℕ) → at ≤ length xs → drop (length xs - at) (drop at xs) ≡ []
none_behind at xs within = drop_all (length xs - at) (drop at xs) (omega (arith, length-drop at xs))
