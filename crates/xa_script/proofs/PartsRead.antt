-- What the parts of a line say, and that it is read so.
use Rattle.std.proofs.Common.{◌≡◌, ℕ, ◌+◌, ◌*◌, ◌<◌, ◌==◌, ◌&&◌, ◌||◌, nat_le, not, Bool, true, false, cond, List, [], ◌∷◌, ◌++◌, length, ℤ, Option, Some, None, refl, ap, ap₂, sym, ◌∙◌, subst, arith, append_assoc, append-nil}
use Rattle.std.specs.List.{list_all}
use Rattle.std.proofs.lemmas.Bool.{and_parts, and_from}
use Rattle.std.proofs.lemmas.Bool.Decides.{nat_tests}
use Rattle.std.specs.Str.{bytes_eq}
use Rattle.std.proofs.lemmas.Slice.Eq.{bytes_eq-Decides}
use Rattle.xa_types.specs.Configured.{is_among}
use Rattle.xa_types.specs.Name.{is_digit}
use Rattle.xa_script.specs.Parts.{is_space, is_inner, is_end, is_marked, IsWord, IsInFront, IsSpaced, escaped, quoted, decimal, is_decimal, number_of, hex_digit, AreHex}
use Rattle.xa_script.specs.Words.{◌>>=◌, is_blank, no_more, skip_spaces, next_octet, put, text_in_front, ended, is_quoted, quoted_at, hex_octet, hex_from}
use Rattle.xa_script.specs.Sent.{signed_of}
use Rattle.xa_script.specs.Payload.{one_octet as one_octet_of}
use Rattle.xa_script.proofs.Texts.{some_is, parted, one_octet, no_octet, unmarked}
use Rattle.xa_script.proofs.Fronts.{Cut, cut_at, blank_is, skip_gap, skipped}

-- ---- parts one after another

pub record Then {A B : Type 0} (first : Option A) (next : A → Option B) (y : B) : Type 0 where
  pub at : A
  pub is : first ≡ Some at
  pub then : next at ≡ Some y

-- what is read in two steps
pub bound : {A B : Type 0} (first : Option A) (next : A → Option B) (y : B) → (first >>= next) ≡ Some y → Then first next y
bound None next y h = absurd cc
bound (Some x) next y h = record { at = x; is = refl; then = h }

pub both : {A B : Type 0} (first : Option A) (next : A → Option B) (x : A) (y : Option B) → first ≡ Some x → next x ≡ y → (first >>= next) ≡ y
both first next x y e h = ap (λ o. o >>= next) e ∙ h

abbrev pub AreInFront : List (List ℕ) → List ℕ → List ℕ → Type 0
AreInFront [] rest octets = octets ≡ rest
AreInFront (part ∷ parts) rest octets = (more : List ℕ) × IsInFront part more octets × AreInFront parts rest more

pub spaced_join : (parts tail : List (List ℕ)) (rest octets : List ℕ) → AreInFront parts rest octets → IsSpaced tail rest → IsSpaced (parts ++ tail) octets
spaced_join [] tail rest octets h s = subst (IsSpaced tail) (sym h) s
spaced_join (part ∷ parts) tail rest octets h s = (h.0, h.1, spaced_join parts tail rest h.0 h.2 s)

pub spaced_split : (parts tail : List (List ℕ)) (octets : List ℕ) → IsSpaced (parts ++ tail) octets → (rest : List ℕ) × AreInFront parts rest octets × IsSpaced tail rest
spaced_split [] tail octets s = (octets, refl, s)
spaced_split (part ∷ parts) tail octets s = let more = spaced_split parts tail s.0 s.2 in (more.0, (s.0, s.1, more.1), more.2)

-- a part behind the spaces
pub front_of : (part rest octets : List ℕ) → skip_spaces octets ≡ part ++ rest → is_end rest ≡ true → IsInFront part rest octets
front_of part rest octets h e =
    let s = skipped octets in
    record { gap = s.gap; cut = s.cut ∙ ap (λ more. s.gap ++ more) h; spaces = s.spaces; ends = e }

pub behind_spaces : (octet : ℕ) (part rest octets : List ℕ) → IsInFront (octet ∷ part) rest octets → (octet == 32) ≡ false → skip_spaces octets ≡ (octet ∷ part) ++ rest
behind_spaces octet part rest octets front e =
    ap skip_spaces front.cut ∙ skip_gap front.gap ((octet ∷ part) ++ rest) front.spaces ∙ ap (λ b. cond b (skip_spaces (part ++ rest)) (octet ∷ (part ++ rest))) e

pub no_more_read : {A : Type 0} (x y : A) (octets : List ℕ) → no_more x octets ≡ Some y → (x ≡ y) × (list_all is_space octets ≡ true)
no_more_read x y octets h = elim (is_blank octets) as (λ b. is_blank octets ≡ b → cond b (Some x) None ≡ Some y → (x ≡ y) × (list_all is_space octets ≡ true)) [
  | true ↦ λ e k. (some_is x y k, sym (blank_is octets) ∙ e)
  | false ↦ λ e k. absurd cc
] refl h

pub no_more_again : {A : Type 0} (x : A) (octets : List ℕ) → list_all is_space octets ≡ true → no_more x octets ≡ Some x
no_more_again x octets h = ap (λ b. cond b (Some x) None) (blank_is octets ∙ h)

-- ---- one of several words

abbrev pub Each : (List ℕ → Type 0) → List (List ℕ) → Type 0
Each P [] = Unit {0}
Each P (word ∷ words) = P word × Each P words

pub by_among : (P : List ℕ → Type 0) (words : List (List ℕ)) (word : List ℕ) → Each P words → is_among words word ≡ true → P word
by_among P [] word each h = absurd cc
by_among P (x ∷ words) word each h = elim (bytes_eq word x) as (λ b. bytes_eq word x ≡ b → (b || is_among words word) ≡ true → P word) [
  | true ↦ λ e k. subst P (sym ((bytes_eq-Decides word x).0 e)) each.0
  | false ↦ λ e k. by_among P words word each.1 k
] refl h

-- by one of several tests
pub one_of : {A : Type 0} (b : Bool) (x rest : Option A) (y : A) (more : Bool) → cond b x rest ≡ Some y → (rest ≡ Some y → more ≡ true) → (b || more) ≡ true
one_of true x rest y more h next = refl
one_of false x rest y more h next = next h

pub none_of : {A : Type 0} (y : A) → None ≡ Some y → false ≡ true
none_of y h = absurd cc

-- ---- texts in quotes

abbrev spelled : List ℕ → List ℕ
spelled octets = escaped (text_in_front octets).0 ++ (text_in_front octets).1

abbrev spelled_by : Cut → List ℕ
spelled_by c = escaped c.0 ++ c.1

one_by : (m : Bool) (x : ℕ) → is_marked x ≡ m → spelled_by (cond m (parted [] (x ∷ [])) (parted (x ∷ []) [])) ≡ x ∷ []
one_by true x e = refl
one_by false x e = ap (λ b. cond b (92 ∷ x ∷ []) (x ∷ []) ++ []) e

escaped_put : (x : ℕ) (c : Cut) → is_marked x ≡ false → spelled_by (put (x ∷ []) c) ≡ x ∷ spelled_by c
escaped_put x c e = ap (λ b. cond b (92 ∷ x ∷ escaped c.0) (x ∷ escaped c.0) ++ c.1) e

escaped_mark : (x : ℕ) (c : Cut) → is_marked x ≡ true → spelled_by (put (x ∷ []) c) ≡ 92 ∷ x ∷ spelled_by c
escaped_mark x c e = ap (λ b. cond b (92 ∷ x ∷ escaped c.0) (x ∷ escaped c.0) ++ c.1) e

two_by : (a b c : Bool) (x y : ℕ) (rest : List ℕ) → (x == 34) ≡ a → (x == 92) ≡ b → is_marked y ≡ c → spelled rest ≡ rest → spelled (y ∷ rest) ≡ y ∷ rest
    → spelled_by (cond a (parted [] (x ∷ y ∷ rest)) (cond b (cond c (put (y ∷ []) (text_in_front rest)) (parted [] (x ∷ y ∷ rest))) (put (x ∷ []) (text_in_front (y ∷ rest))))) ≡ x ∷ y ∷ rest
two_by true b c x y rest e f g h k = refl
two_by false true true x y rest e f g h k =
    let is : 92 ≡ x = grind (arith, nat_tests, f) in
    escaped_mark y (text_in_front rest) g ∙ ap (λ more. 92 ∷ y ∷ more) h ∙ ap (λ z. z ∷ y ∷ rest) is
two_by false true false x y rest e f g h k = refl
two_by false false c x y rest e f g h k = escaped_put x (text_in_front (y ∷ rest)) (ap₂ (λ p q. p || q) e f) ∙ ap (λ more. x ∷ more) k

-- the octets spell the text that is read
text_spelled : (octets : List ℕ) → spelled octets ≡ octets
unfolding text_in_front
text_spelled [] = refl
text_spelled (x ∷ []) = one_by (is_marked x) x refl
text_spelled (x ∷ y ∷ rest) = two_by (x == 34) (x == 92) (is_marked y) x y rest refl refl refl (text_spelled rest) (text_spelled (y ∷ rest))

quote_ends : (rest : List ℕ) → next_octet (34 ∷ rest) ≡ None
quote_ends [] = refl
quote_ends (x ∷ rest) = refl

abbrev one_and : ℕ → List ℕ → ℕ × List ℕ
one_and octet rest = (octet, rest)

mark_next : (x : ℕ) (rest : List ℕ) → is_marked x ≡ true → next_octet (92 ∷ x ∷ rest) ≡ Some (x, rest)
mark_next x rest e = ap (λ b. cond b (Some (one_and x rest)) None) e

-- what spells a text is read as it
text_again : (text rest : List ℕ) → text_in_front (escaped text ++ 34 ∷ rest) ≡ cut_at text (34 ∷ rest)
text_again [] rest = no_octet (34 ∷ rest) (quote_ends rest)
text_again (x ∷ text) rest =
    let more = text_again text rest in
    let tail = escaped text ++ 34 ∷ rest in
    elim (is_marked x) as (λ b. is_marked x ≡ b → text_in_front (cond b (92 ∷ x ∷ escaped text) (x ∷ escaped text) ++ 34 ∷ rest) ≡ cut_at (x ∷ text) (34 ∷ rest)) [
      | true ↦ λ e. one_octet (92 ∷ x ∷ tail) x tail (mark_next x tail e) ∙ ap (put (x ∷ [])) more
      | false ↦ λ e. one_octet (x ∷ tail) x tail (unmarked x tail e) ∙ ap (put (x ∷ [])) more
    ] refl

pub record IsQuoted (octets text rest : List ℕ) : Type 0 where
  pub cut : octets ≡ quoted text ++ rest
  pub ends : is_end rest ≡ true

quoted_as : (text rest : List ℕ) → 34 ∷ (escaped text ++ 34 ∷ rest) ≡ quoted text ++ rest
quoted_as text rest = ap (λ more. 34 ∷ more) (sym (append_assoc (escaped text) (34 ∷ []) rest))

ended_read : (t b text rest : List ℕ) → ended t b ≡ Some (cut_at text rest) → (t ≡ text) × (b ≡ 34 ∷ rest) × (is_end rest ≡ true)
ended_read t [] text rest h = absurd cc
ended_read t (q ∷ b) text rest h = elim (q == 34 && is_end b) as (λ c. (q == 34 && is_end b) ≡ c → ◌≡◌ {A = Option Cut} (cond c (Some (t, b)) None) (Some (cut_at text rest))
    → (t ≡ text) × (q ∷ b ≡ 34 ∷ rest) × (is_end rest ≡ true)) [
      | true ↦ λ e k.
          let parts = and_parts (q == 34) (is_end b) e in
          let same = some_is (cut_at t b) (cut_at text rest) k in
          let is : q ≡ 34 = let p = parts.0 in grind (arith, nat_tests, p) in
          let tail = ap (λ (c : Cut). c.1) same in
          (ap (λ (c : Cut). c.0) same, ap₂ (λ x y. x ∷ y) is tail, ap is_end (sym tail) ∙ parts.1)
      | false ↦ λ e k. absurd cc
    ] refl h

pub quoted_read : (octets text rest : List ℕ) → quoted_at octets ≡ Some (cut_at text rest) → IsQuoted octets text rest
unfolding quoted_at
quoted_read [] text rest h = absurd cc
quoted_read (q ∷ octets) text rest h = elim (q == 34) as (λ c. (q == 34) ≡ c → ◌≡◌ {A = Option Cut} (cond c (ended (text_in_front octets).0 (text_in_front octets).1) None) (Some (cut_at text rest))
    → IsQuoted (q ∷ octets) text rest) [
      | true ↦ λ e k.
          let read = ended_read (text_in_front octets).0 (text_in_front octets).1 text rest k in
          let is : q ≡ 34 = grind (arith, nat_tests, e) in record {
            cut = ap₂ (λ x y. x ∷ y) is (sym (text_spelled octets) ∙ ap₂ (λ x y. escaped x ++ y) read.0 read.1) ∙ quoted_as text rest;
            ends = read.2;
          }
      | false ↦ λ e k. absurd cc
    ] refl h

pub quoted_again : (text rest : List ℕ) → is_end rest ≡ true → quoted_at (quoted text ++ rest) ≡ Some (cut_at text rest)
unfolding quoted_at
quoted_again text rest e =
    let all = append_assoc (escaped text) (34 ∷ []) rest in
    let here = ap text_in_front all ∙ text_again text rest in
    ap (λ (c : Cut). ended c.0 c.1) here ∙ ap (λ b. cond b (Some (cut_at text rest)) None) e

-- ---- numbers

digit_inner : (octet : ℕ) → is_digit octet ≡ true → is_inner octet ≡ true
digit_inner octet h = grind (arith, nat_tests, h)

digits_inner : (digits : List ℕ) → list_all is_digit digits ≡ true → list_all is_inner digits ≡ true
digits_inner [] h = refl
digits_inner (digit ∷ digits) h =
    let parts = and_parts (is_digit digit) (list_all is_digit digits) h in
    and_from (is_inner digit) (list_all is_inner digits) (digit_inner digit parts.0) (digits_inner digits parts.1)

all_digits : (digits : List ℕ) → is_decimal digits ≡ true → list_all is_digit digits ≡ true
all_digits [] h = refl
all_digits (digit ∷ []) h = and_from (is_digit digit) true h refl
all_digits (digit ∷ other ∷ digits) h = (and_parts (not (digit == 48)) (list_all is_digit (digit ∷ other ∷ digits)) h).1

some_digits : (digits : List ℕ) → is_decimal digits ≡ true → 0 < length digits
some_digits [] h = absurd cc
some_digits (digit ∷ digits) h = omega arith

pub decimal_word : (digits : List ℕ) → is_decimal digits ≡ true → IsWord digits
decimal_word digits h = record { some = some_digits digits h; inner = digits_inner digits (all_digits digits h) }

guarded : {A : Type 0} (b : Bool) (x : Option A) (y : A) → cond b x None ≡ Some y → b ≡ true
guarded true x y h = refl
guarded false x y h = absurd cc

pub number_word : (least most : ℕ) (word : List ℕ) (number : ℕ) → number_of least most word ≡ Some number → IsWord word
unfolding number_of
number_word least most word number h =
    let tests = guarded (is_decimal word && (nat_le least (decimal word) && nat_le (decimal word) most)) (Some (decimal word)) number h in
    decimal_word word (and_parts (is_decimal word) (nat_le least (decimal word) && nat_le (decimal word) most) tests).0

signed_by : {A : Type 0} (b : Bool) (sign : ℕ) (digits : List ℕ) (x y : Option A) (z : A) → (sign == 45) ≡ b
    → cond b (cond (is_decimal digits && not (decimal digits == 0)) x None) (cond (is_decimal (sign ∷ digits)) y None) ≡ Some z
    → (list_all is_inner (sign ∷ digits) ≡ true) × ((sign == 34) ≡ false)
signed_by true sign digits x y z e h =
    let tests = guarded (is_decimal digits && not (decimal digits == 0)) x z h in
    let minus : is_inner sign ≡ true = grind (arith, nat_tests, e) in
    let word = decimal_word digits (and_parts (is_decimal digits) (not (decimal digits == 0)) tests).0 in
    (and_from (is_inner sign) (list_all is_inner digits) minus word.inner, grind (arith, nat_tests, e))
signed_by false sign digits x y z e h =
    let test = guarded (is_decimal (sign ∷ digits)) y z h in
    let first = (and_parts (is_digit sign) (list_all is_digit digits) (all_digits (sign ∷ digits) test)).0 in
    ((decimal_word (sign ∷ digits) test).inner, grind (arith, nat_tests, first))

pub record IsSigned (word : List ℕ) : Type 0 where
  pub is_word : IsWord word
  pub bare : (rest : List ℕ) → is_quoted (word ++ rest) ≡ false

pub signed_word : (word : List ℕ) (value : Option ℤ) → signed_of word ≡ Some value → IsSigned word
unfolding signed_of
signed_word [] value h = absurd cc
signed_word (sign ∷ digits) value h =
    let is = signed_by (sign == 45) sign digits _ _ value refl h in
    record { is_word = record { some = omega arith; inner = is.0 }; bare = λ rest. is.1 }

-- ---- octets in digits

hex_front : (front word octets : List ℕ) → hex_from front word ≡ Some octets → (more : List ℕ) × AreHex word more × (octets ≡ front ++ more)
unfolding hex_octet
hex_front front [] octets h = ([], refl, sym (some_is front octets h) ∙ sym (append-nil front))
hex_front front (high ∷ []) octets h = absurd cc
hex_front front (high ∷ low ∷ word) octets h =
    let one = bound (hex_octet high low) (λ octet. hex_from (front ++ octet ∷ []) word) octets h in
    let a = bound (hex_digit high) (λ high. hex_digit low >>= λ low. Some (high * 16 + low)) one.at one.is in
    let b = bound (hex_digit low) (λ low. Some (a.at * 16 + low)) one.at a.then in
    let rest = hex_front (front ++ one.at ∷ []) word octets one.then in
    let is : one.at ≡ a.at * 16 + b.at = sym (some_is (a.at * 16 + b.at) one.at b.then) in
    (one.at ∷ rest.0, (a.at, b.at, rest.0, a.is, b.is, rest.1, ap (λ x. x ∷ rest.0) is), rest.2 ∙ append_assoc front (one.at ∷ []) rest.0)

pub hex_read : (word octets : List ℕ) → hex_from [] word ≡ Some octets → AreHex word octets
hex_read word octets h = let read = hex_front [] word octets h in subst (AreHex word) (sym read.2) read.1

hex_both : (high low a b : ℕ) → hex_digit high ≡ Some a → hex_digit low ≡ Some b → hex_octet high low ≡ Some (a * 16 + b)
unfolding hex_octet
hex_both high low a b e f = both (hex_digit high) (λ high. hex_digit low >>= λ low. Some (high * 16 + low)) a _ e (both (hex_digit low) (λ low. Some (a * 16 + low)) b _ f refl)

hex_onto : (front word octets : List ℕ) → AreHex word octets → hex_from front word ≡ Some (front ++ octets)
hex_onto front [] octets h = ap (λ o. Some o) (sym (ap (λ more. front ++ more) h ∙ append-nil front))
hex_onto front (high ∷ []) octets h = absurd h
hex_onto front (high ∷ low ∷ word) octets h =
    let octet = h.0 * 16 + h.1 in
    both (hex_octet high low) (λ octet. hex_from (front ++ octet ∷ []) word) octet _ (hex_both high low h.0 h.1 h.3 h.4)
    (hex_onto (front ++ octet ∷ []) word h.2 h.5 ∙ ap (λ o. Some o) (append_assoc front (octet ∷ []) h.2 ∙ ap (λ more. front ++ more) (sym h.6)))

pub hex_again : (word octets : List ℕ) → AreHex word octets → hex_from [] word ≡ Some octets
hex_again word octets h = hex_onto [] word octets h

pub one_hex_read : (word : List ℕ) (octet : ℕ) → one_octet_of word ≡ Some octet → AreHex word (octet ∷ [])
unfolding hex_octet
one_hex_read [] octet h = absurd cc
one_hex_read (high ∷ []) octet h = absurd cc
one_hex_read (high ∷ low ∷ []) octet h =
    let a = bound (hex_digit high) (λ high. hex_digit low >>= λ low. Some (high * 16 + low)) octet h in
    let b = bound (hex_digit low) (λ low. Some (a.at * 16 + low)) octet a.then in
    (a.at, b.at, [], a.is, b.is, refl, ap (λ x. x ∷ []) (sym (some_is (a.at * 16 + b.at) octet b.then)))
one_hex_read (high ∷ low ∷ x ∷ word) octet h = absurd cc

head_is : (x y : ℕ) (xs ys : List ℕ) → x ∷ xs ≡ y ∷ ys → (x ≡ y) × (xs ≡ ys)
head_is x y xs ys h = (cc, cc)

pub one_hex_again : (word : List ℕ) (octet : ℕ) → AreHex word (octet ∷ []) → one_octet_of word ≡ Some octet
one_hex_again [] octet h = absurd cc
one_hex_again (high ∷ []) octet h = absurd h
one_hex_again (high ∷ low ∷ []) octet h = hex_both high low h.0 h.1 h.3 h.4 ∙ ap (λ o. Some o) (sym (head_is octet (h.0 * 16 + h.1) [] h.2 h.6).0)
one_hex_again (high ∷ low ∷ x ∷ word) octet h = absurd (more_hex x word h.2 h.5 (sym (head_is octet (h.0 * 16 + h.1) [] h.2 h.6).1))
  where
    more_hex : (x : ℕ) (word more : List ℕ) → AreHex (x ∷ word) more → more ≡ [] → ⊥
    more_hex x [] more h none = h
    more_hex x (y ∷ word) more h none = let some = sym h.6 ∙ none in cc

hex_inner : (octet value : ℕ) → hex_digit octet ≡ Some value → is_inner octet ≡ true
hex_inner octet value h = elim (octet == 32) as (λ b. (octet == 32) ≡ b → not b ≡ true) [
  | true ↦ λ e. absurd (let is : octet ≡ 32 = grind (arith, nat_tests, e) in let none : ◌≡◌ {A = Option ℕ} None (Some value) = ap hex_digit (sym is) ∙ h in cc)
  | false ↦ λ e. refl
] refl

pub hex_word : (word octets : List ℕ) → AreHex word octets → list_all is_inner word ≡ true
hex_word [] octets h = refl
hex_word (high ∷ []) octets h = absurd h
hex_word (high ∷ low ∷ word) octets h = and_from (is_inner high) (list_all is_inner (low ∷ word)) (hex_inner high h.0 h.3) (and_from (is_inner low) (list_all is_inner word) (hex_inner low h.1 h.4) (hex_word word h.2 h.5))
