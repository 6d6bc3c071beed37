-- Words: numbers, names, requests and the names of values.
use Rattle.std.proofs.Common.{◌≡◌, ℕ, zero, suc, ℤ, pos, negsuc, ◌+◌, ◌-◌, ◌^◌, ◌<◌, ◌≤◌, Bool, true, false, cond, not, eqb, ltb, leb, nat_lt, nat_le, ◌&&◌, List, [], ◌∷◌, ◌++◌, length, take, drop, drop-cons, get_or, Option, Some, None, Result, Ok, refl, sym, ap, subst, ◌∙◌, arith, decimal}
use Rattle.std.specs.Prelude.{FitsSigned}
use Rattle.std.specs.Fmt.{signed_decimal}
use Rattle.std.specs.Int.{w32}
use Rattle.std.specs.List.{list_all, position, position_or_len}
use Rattle.std.specs.Str.{bytes_eq, IsUtf8}
use Rattle.std.specs.Str.Parse.{digits_value, ParsesUnsigned, AllDigits, IsNumeral}
use Rattle.std.specs.Char.{digit_value}
use Rattle.std.proofs.lemmas.Bool.{eqb-true, ne_eqb, ltb-true, ltb-false, lt-ltb, leb-true, le-leb, and_parts, and_from, agree_below_at}
use Rattle.std.proofs.lemmas.Option.{cond_some, same_Some}
use Rattle.std.proofs.lemmas.Fmt.{parse-decimal, decimal_is_IsNumeral, IsAscii-decimal}
use Rattle.std.proofs.lemmas.Str.{IsUtf8-from_ascii}
use Rattle.std.proofs.Math.Seq.{take-append_seam}
use Rattle.std.proofs.lemmas.List.{take-append-drop, length-append}
use Rattle.std.proofs.lemmas.List.Folds.{list_all-append}
use Rattle.std.proofs.lemmas.List.Quantifiers.{position-Some}
use Rattle.xa_types.specs.Name.{IsName, is_name, is_graphic, begins_with_dot}
use Rattle.xa_types.specs.declared.ids.RequestId.{RequestId}
use Rattle.xa_lines.specs.Line.{IsRequest, request_word}
use Rattle.xa_lines.specs.Reading.{◌>>=◌, is_dot, number_of, below_of, signed_of, name_of, request_of, request_at, requests_from}
use Rattle.xa_lines.proofs.Cutting.{is_inner, is_word}
use Rattle.xa_lines.proofs.Combining.{same_bytes, bytes_refl, none_if, bind_some, IsWordOf}

-- ---- digits

-- each digit stands above the space, and is no dot
digit_high : (c : ℕ) → digit_value c < 10 → 32 < c
digit_high c h = by (ltb 32 c) refl where
  by : (b : Bool) → ltb 32 c ≡ b → 32 < c
  by true e = ltb-true 32 c e
  by false e =
      let low = ltb-false 32 c e in
      let none : nat_lt (digit_value c) 10 ≡ false = agree_below_at (λ k. nat_lt (digit_value k) 10) (λ k. false) 33 c refl (omega (arith, low)) in
      absurd (cc (sym none ∙ lt-ltb (digit_value c) 10 h))

digit_is_not : (c other : ℕ) → digit_value c < 10 → (digit_value other < 10 → ⊥) → eqb c other ≡ false
digit_is_not c other h none = ne_eqb c other (λ e. none (subst (λ k. digit_value k < 10) e h))

digits_inner : (ds : List ℕ) → AllDigits 10 ds → is_word ds ≡ true
digits_inner [] h = refl
digits_inner (c ∷ cs) h = and_from (is_inner c) (is_word cs) (lt-ltb 32 c (digit_high c h.0)) (digits_inner cs h.1)

decimal_digits : (n : ℕ) → n < 2 ^ 64 → AllDigits 10 (decimal n)
decimal_digits n small = (decimal_is_IsNumeral n small).0.1

pub decimal_inner : (n : ℕ) → n < 2 ^ 64 → is_word (decimal n) ≡ true
decimal_inner n small = digits_inner (decimal n) (decimal_digits n small)

-- ---- numbers

pub number_takes : (most : ℕ) (word : List ℕ) (v : ℕ) → number_of most word ≡ Some v → (word ≡ decimal v) × (v ≤ most)
unfolding number_of
number_takes most word v e =
    let n = digits_value 10 word in
    let g = cond_some (bytes_eq (decimal n) word && nat_le n most) n v e in
    let parts = and_parts (bytes_eq (decimal n) word) (nat_le n most) g.0 in
    subst (λ m. (word ≡ decimal m) × (m ≤ most)) g.1 (sym (same_bytes (decimal n) word parts.0), leb-true n most parts.1)

pub number_again : (most v : ℕ) → v ≤ most → v < 2 ^ 64 → number_of most (decimal v) ≡ Some v
unfolding number_of
number_again most v within small =
    let same = (decimal_is_IsNumeral v small).1 in
    ap (λ n. cond (bytes_eq (decimal n) (decimal v) && nat_le n most) (Some n) None) same
    ∙ ap (λ b. cond (b && nat_le v most) (Some v) None) (bytes_refl (decimal v))
    ∙ ap (λ b. cond b (Some v) None) (le-leb v most within)

-- no number is read where parsing gives none that is spelled so
pub number_none : {E : Type 0} (most : ℕ) (word : List ℕ) (r : Result ℕ E) → most < 2 ^ 64 → ParsesUnsigned 64 10 word r
    → ((n : ℕ) → r ≡ Ok n → word ≡ decimal n → n ≤ most → ⊥) → number_of most word ≡ None
number_none most word r small parsed none = none_if (number_of most word) (λ v e.
    let t = number_takes most word v e in
    let within = t.1 in
    let fits : v < 2 ^ 64 = omega (arith, within, small) in
    none v (parse-decimal 64 v word r fits fits t.0 parsed) t.0 within)

-- nor where the word is no text
pub number_no_text : (most : ℕ) (word : List ℕ) → most < 2 ^ 64 → (IsUtf8 word → ⊥) → number_of most word ≡ None
number_no_text most word small none = none_if (number_of most word) (λ v e.
    let t = number_takes most word v e in
    let within = t.1 in
    let fits : v < 2 ^ 64 = omega (arith, within, small) in
    none (subst IsUtf8 (sym t.0) (IsUtf8-from_ascii (decimal v) (IsAscii-decimal v fits))))

-- numbers below a limit
pub number_is : (most limit : ℕ) → most + 1 ≡ limit → limit ≤ 2 ^ 64 → IsWordOf (number_of most) decimal (λ n. n < limit)
number_is most limit next small = record {
  takes = λ word v e. let t = number_takes most word v e in let within = t.1 in (t.0, omega (arith, next, within));
  again = λ v h. number_again most v (omega (arith, next, h)) (omega (arith, small, h));
  inner = λ v h. decimal_inner v (omega (arith, small, h));
}

-- ---- signed numbers

below_takes : (n : ℕ) (v : ℤ) → below_of n ≡ Some v → n ≤ 2147483648 → (45 ∷ decimal n ≡ signed_decimal v) × FitsSigned w32 v
below_takes n v e within = by (eqb n 0) refl e where
  by : (b : Bool) → eqb n 0 ≡ b → ◌≡◌ {A = Option ℤ} (cond b None (Some (negsuc (n - 1)))) (Some v) → (45 ∷ decimal n ≡ signed_decimal v) × FitsSigned w32 v
  by true t h = absurd cc
  by false t h =
      let some : 0 < n = grind (arith, t) in
      let next : n ≡ suc (n - 1) = omega (arith, some) in
      subst (λ (z : ℤ). (45 ∷ decimal n ≡ signed_decimal z) × FitsSigned w32 z) (same_Some (negsuc (n - 1)) v h)
      (ap (λ m. 45 ∷ decimal m) next, record { sfits = omega (arith, some, within) })

signed_takes : (word : List ℕ) (v : ℤ) → signed_of word ≡ Some v → (word ≡ signed_decimal v) × FitsSigned w32 v
unfolding signed_of
signed_takes [] v e = absurd cc
signed_takes (octet ∷ octets) v e = by (eqb octet 45) refl e where
  by : (b : Bool) → eqb octet 45 ≡ b → cond b (number_of 2147483648 octets >>= below_of) (number_of 2147483647 (octet ∷ octets) >>= λ n. Some (pos n)) ≡ Some v → (octet ∷ octets ≡ signed_decimal v) × FitsSigned w32 v
  by true t h =
      let n = bind_some (number_of 2147483648 octets) below_of v h in
      let spelled = number_takes 2147483648 octets n.0 n.1 in
      let below = below_takes n.0 v n.2 spelled.1 in
      (ap (λ o. o ∷ octets) (eqb-true octet 45 t) ∙ ap (λ (ds : List ℕ). 45 ∷ ds) spelled.0 ∙ below.0, below.1)
  by false t h =
      let n = bind_some (number_of 2147483647 (octet ∷ octets)) (λ n. Some (pos n)) v h in
      let spelled = number_takes 2147483647 (octet ∷ octets) n.0 n.1 in
      let within = spelled.1 in
      subst (λ (z : ℤ). (octet ∷ octets ≡ signed_decimal z) × FitsSigned w32 z) (same_Some (pos n.0) v n.2) (spelled.0, record { sfits = omega (arith, within) })

unsigned_by : (ds : List ℕ) → IsNumeral 10 ds → signed_of ds ≡ (number_of 2147483647 ds >>= λ n. Some (pos n))
unfolding signed_of
unsigned_by [] h = absurd (omega (arith, h.0))
unsigned_by (c ∷ cs) h =
    ap (λ b. cond b (number_of 2147483648 cs >>= below_of) (number_of 2147483647 (c ∷ cs) >>= λ n. Some (pos n))) (digit_is_not c 45 h.1.0 (λ k. absurd (omega (arith, k))))

signed_again : (v : ℤ) → FitsSigned w32 v → signed_of (signed_decimal v) ≡ Some v
unfolding signed_of
signed_again (pos n) h =
    let fits = h.sfits in
    let small : n < 2 ^ 64 = omega (arith, fits) in
    unsigned_by (decimal n) (decimal_is_IsNumeral n small).0
    ∙ ap (λ (r : Option ℕ). r >>= λ n. Some (pos n)) (number_again 2147483647 n (omega (arith, fits)) small)
signed_again (negsuc n) h =
    let fits = h.sfits in
    let some : eqb (suc n) 0 ≡ false = ne_eqb (suc n) 0 (λ e. absurd (omega (arith, e))) in
    let less : suc n - 1 ≡ n = omega arith in
    ap (λ (r : Option ℕ). r >>= below_of) (number_again 2147483648 (suc n) (omega (arith, fits)) (omega (arith, fits)))
    ∙ ap (λ b. cond b None (Some (negsuc (suc n - 1)))) some ∙ ap (λ m. Some (negsuc m)) less

signed_inner : (v : ℤ) → FitsSigned w32 v → is_word (signed_decimal v) ≡ true
signed_inner (pos n) h = let fits = h.sfits in decimal_inner n (omega (arith, fits))
signed_inner (negsuc n) h = let fits = h.sfits in decimal_inner (suc n) (omega (arith, fits))

pub signed_is : IsWordOf signed_of signed_decimal (FitsSigned w32)
signed_is = record { takes = signed_takes; again = signed_again; inner = signed_inner }

-- ---- names

graphic_inner : (octets : List ℕ) → list_all is_graphic octets ≡ true → is_word octets ≡ true
graphic_inner [] h = refl
graphic_inner (octet ∷ octets) h =
    let parts = and_parts (is_graphic octet) (list_all is_graphic octets) h in
    let low : 33 ≤ octet = leb-true 33 octet (and_parts (leb 33 octet) (leb octet 126) parts.0).0 in
    and_from (is_inner octet) (is_word octets) (lt-ltb 32 octet (omega (arith, low))) (graphic_inner octets parts.1)

name_inner : (name : List ℕ) → IsName name → is_word name ≡ true
name_inner name h =
    let parts = and_parts (nat_le 1 (length name) && nat_le (length name) 31) (list_all is_graphic name && not (begins_with_dot name)) h in
    graphic_inner name (and_parts (list_all is_graphic name) (not (begins_with_dot name)) parts.1).0

pub name_is : IsWordOf name_of (λ name. name) IsName
name_is = record {
  takes = λ word v e. let g = cond_some (is_name word) word v e in (g.1, subst IsName g.1 g.0);
  again = λ v h. ap (λ b. cond b (Some v) None) h;
  inner = name_inner;
}

-- ---- requests

-- the first dot stands behind the digits
dot_behind : (ds more : List ℕ) → AllDigits 10 ds → position_or_len is_dot (ds ++ 46 ∷ more) ≡ length ds
dot_behind [] more h = refl
dot_behind (c ∷ cs) more h =
    let other = digit_is_not c 46 h.0 (λ k. absurd (omega (arith, k))) in
    ap (λ b. cond (not b) (1 + position_or_len is_dot (cs ++ 46 ∷ more)) 0) other
    ∙ ap (λ n. 1 + n) (dot_behind cs more h.1) ∙ omega arith

-- ---- requests, one after another

-- one request more is read
pub one_request : (front : List RequestId) (n : ℕ) (words : List (List ℕ)) (request : RequestId) (rest : List (List ℕ)) → 0 < n → request_at words ≡ Some (request, rest)
    → requests_from front n words ≡ requests_from (front ++ request ∷ []) (n - 1) rest
one_request front zero words request rest some is = absurd (omega (arith, some))
one_request front (suc n) words request rest some is =
    let less : n ≡ suc n - 1 = omega arith in
    ap (λ (r : Option (RequestId × List (List ℕ))). r >>= λ x. requests_from (front ++ x.0 ∷ []) n x.1) is
    ∙ ap (λ m. requests_from (front ++ request ∷ []) m rest) less

-- ---- `CALLER.NUMBER`

abbrev pub id_of : ℕ → ℕ → RequestId
id_of caller number = record { caller = record { 0 = caller }; number = number }

after_dot : (ds more : List ℕ) → drop (length ds + 1) (ds ++ 46 ∷ more) ≡ more
after_dot [] more = refl
after_dot (c ∷ cs) more =
    let next : length (c ∷ cs) + 1 ≡ suc (length cs + 1) = omega arith in
    ap (λ n. drop n (c ∷ (cs ++ 46 ∷ more))) next ∙ after_dot cs more

-- a word is what stands before the dot, the dot, and what stands behind it
at_dot : (word : List ℕ) (place : ℕ) → position is_dot word ≡ Some place → word ≡ take place word ++ 46 ∷ drop (place + 1) word
at_dot word place e =
    let found = position-Some is_dot word place 0 e in
    let within = found.0 in
    let next : suc place ≡ place + 1 = omega arith in
    sym (take-append-drop place word)
    ∙ ap (λ (more : List ℕ). take place word ++ more) (drop-cons word place 0 within ∙ ap (λ o. o ∷ drop (suc place) word) (eqb-true (get_or word place 0) 46 found.1) ∙ ap (λ n. 46 ∷ drop n word) next)

request_takes : (word : List ℕ) (v : RequestId) → request_of word ≡ Some v → (word ≡ request_word v) × IsRequest v
unfolding request_of
request_takes word v e =
    let place = bind_some (position is_dot word) (λ place. number_of 65535 (take place word) >>= λ caller. number_of 18446744073709551615 (drop (place + 1) word) >>= λ number. Some (id_of caller number)) v e in
    let caller = bind_some (number_of 65535 (take place.0 word)) (λ caller. number_of 18446744073709551615 (drop (place.0 + 1) word) >>= λ number. Some (id_of caller number)) v place.2 in
    let number = bind_some (number_of 18446744073709551615 (drop (place.0 + 1) word)) (λ number. Some (id_of caller.0 number)) v caller.2 in
    let front = number_takes 65535 (take place.0 word) caller.0 caller.1 in
    let back = number_takes 18446744073709551615 (drop (place.0 + 1) word) number.0 number.1 in
    let low = front.1 in
    let high = back.1 in
    let whole : word ≡ request_word (id_of caller.0 number.0) = at_dot word place.0 place.1 ∙ ap (λ (xs : List ℕ). xs ++ 46 ∷ drop (place.0 + 1) word) front.0 ∙ ap (λ (xs : List ℕ). decimal caller.0 ++ 46 ∷ xs) back.0 in
    subst (λ (r : RequestId). (word ≡ request_word r) × IsRequest r) (same_Some (id_of caller.0 number.0) v number.2) (whole, (omega (arith, low), omega (arith, high)))

request_again : (v : RequestId) → IsRequest v → request_of (request_word v) ≡ Some v
unfolding request_of
request_again v h =
    let c = decimal v.caller.0 in
    let n = decimal v.number in
    let low = h.0 in
    let high = h.1 in
    let small : v.caller.0 < 2 ^ 64 = omega (arith, low) in
    let place = dot_behind c n (decimal_digits v.caller.0 small) in
    let within : length c < length (c ++ 46 ∷ n) = omega (arith, length-append c (46 ∷ n)) in
    let found : position is_dot (c ++ 46 ∷ n) ≡ Some (length c) = ap (λ p. cond (nat_lt p (length (c ++ 46 ∷ n))) (Some p) None) place ∙ ap (λ b. cond b (Some (length c)) None) (lt-ltb (length c) (length (c ++ 46 ∷ n)) within) in
    ap (λ (r : Option ℕ). r >>= λ place. number_of 65535 (take place (c ++ 46 ∷ n)) >>= λ caller. number_of 18446744073709551615 (drop (place + 1) (c ++ 46 ∷ n)) >>= λ number. Some (id_of caller number)) found
    ∙ ap (λ (xs : List ℕ). number_of 65535 xs >>= λ caller. number_of 18446744073709551615 (drop (length c + 1) (c ++ 46 ∷ n)) >>= λ number. Some (id_of caller number)) (take-append_seam c (46 ∷ n))
    ∙ ap (λ (xs : List ℕ). number_of 65535 c >>= λ caller. number_of 18446744073709551615 xs >>= λ number. Some (id_of caller number)) (after_dot c n)
    ∙ ap (λ (r : Option ℕ). r >>= λ caller. number_of 18446744073709551615 n >>= λ number. Some (id_of caller number)) (number_again 65535 v.caller.0 (omega (arith, low)) small)
    ∙ ap (λ (r : Option ℕ). r >>= λ number. Some (id_of v.caller.0 number)) (number_again 18446744073709551615 v.number (omega (arith, high)) high)

request_inner : (v : RequestId) → IsRequest v → is_word (request_word v) ≡ true
request_inner v h =
    let low = h.0 in
    list_all-append is_inner (decimal v.caller.0) (46 ∷ decimal v.number)
    ∙ and_from (is_word (decimal v.caller.0)) (is_word (46 ∷ decimal v.number)) (decimal_inner v.caller.0 (omega (arith, low))) (decimal_inner v.number h.1)

pub request_is : IsWordOf request_of request_word IsRequest
request_is = record { takes = request_takes; again = request_again; inner = request_inner }
