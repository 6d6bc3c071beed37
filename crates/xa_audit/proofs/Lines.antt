-- Octets cut into lines, and lines put together.
use Rattle.std.proofs.Common.{◌≡◌, ◌⊎◌, inl, inr, ℕ, zero, suc, ◌+◌, ◌<◌, ◌≤◌, Bool, true, false, cond, not, List, [], ◌∷◌, ◌++◌, length, map, take, drop, drop-cons, get_or, Option, Some, None, refl, sym, ap, subst, ◌∙◌, arith, decimal, append_assoc}
use Rattle.std.specs.Prelude.{MatchOption}
use Rattle.std.specs.List.{position, position_or_len, flat_map}
use Rattle.std.specs.Str.{bytes_eq}
use Rattle.std.proofs.lemmas.Bool.{eqb-true, lt-ltb, ltb-true, and_parts}
use Rattle.std.proofs.lemmas.List.{take-append-drop, map-append, append-nil, length-append, nil_from_length}
use Rattle.std.proofs.lemmas.List.Quantifiers.{position-Some}
use Rattle.std.proofs.lemmas.Grind.{flat_map-append}
use Rattle.xa_events.specs.declared.event.Event.{Event}
use Rattle.xa_lines.specs.Line.{line_of}
use Rattle.xa_lines.proofs.Combining.{same_bytes}
use Rattle.xa_lines.proofs.Cutting.{is_inner, is_word}
use Rattle.xa_audit.specs.Record.{line, counted, is_feed}
use Rattle.xa_audit.specs.Reading.{IsPlain, NoLine}

-- the first line, and what follows
pub at_feed : (octets : List ℕ) (place : ℕ) → position is_feed octets ≡ Some place → octets ≡ line (take place octets) ++ drop (place + 1) octets
at_feed octets place e =
    let found = position-Some is_feed octets place 0 e in
    let next : suc place ≡ place + 1 = omega arith in
    sym (take-append-drop place octets)
    ∙ ap (λ (more : List ℕ). take place octets ++ more) (drop-cons octets place 0 found.0 ∙ ap (λ o. o ∷ drop (suc place) octets) (eqb-true (get_or octets place 0) 10 found.1) ∙ ap (λ n. 10 ∷ drop n octets) next)
    ∙ sym (append_assoc (take place octets) (10 ∷ []) (drop (place + 1) octets))

stripped : (text word rest : List ℕ) → bytes_eq (take (length word) text) word ≡ true → rest ≡ drop (length word) text → text ≡ word ++ rest
stripped text word rest e is =
    sym (take-append-drop (length word) text)
    ∙ ap (λ (w : List ℕ). w ++ drop (length word) text) (same_bytes (take (length word) text) word e)
    ∙ ap (λ (r : List ℕ). word ++ r) (sym is)

-- a word, a space and a number
pub counted_by : (text word behind space digits : List ℕ) (n : ℕ) → bytes_eq (take (length word) text) word ≡ true → behind ≡ drop (length word) text → space ≡ 32 ∷ []
    → bytes_eq (take (length space) behind) space ≡ true → digits ≡ drop (length space) behind → digits ≡ decimal n → text ≡ counted word n
counted_by text word behind space digits n first is one second more spelled =
    stripped text word behind first is
    ∙ ap (λ (r : List ℕ). word ++ r) (stripped behind space digits second more ∙ ap (λ (s : List ℕ). s ++ digits) one ∙ ap (λ (ds : List ℕ). 32 ∷ ds) spelled)

one_more : (lines : List (List ℕ)) (text behind : List ℕ) → flat_map line lines ++ (line text ++ behind) ≡ flat_map line (lines ++ text ∷ []) ++ behind
one_more lines text behind =
    sym (append_assoc (flat_map line lines) (line text) behind)
    ∙ ap (λ (xs : List ℕ). (flat_map line lines ++ xs) ++ behind) (sym (append-nil (line text)))
    ∙ ap (λ (xs : List ℕ). xs ++ behind) (sym (flat_map-append line lines (text ∷ [])))

-- a name more
pub names_more : (octets : List ℕ) (names : List (List ℕ)) (name rest behind : List ℕ) → octets ≡ flat_map line names ++ rest → rest ≡ line name ++ behind
    → octets ≡ flat_map line (names ++ name ∷ []) ++ behind
names_more octets names name rest behind all first = all ∙ ap (λ (r : List ℕ). flat_map line names ++ r) first ∙ one_more names name behind

-- an event more
pub events_more : (octets : List ℕ) (history : List Event) (event : Event) (text rest behind : List ℕ) → octets ≡ flat_map line (map line_of history) ++ rest → rest ≡ line text ++ behind → line_of event ≡ text
    → octets ≡ flat_map line (map line_of (history ++ event ∷ [])) ++ behind
events_more octets history event text rest behind all first is =
    names_more octets (map line_of history) text rest behind all first
    ∙ ap (λ (t : List ℕ). flat_map line (map line_of history ++ t ∷ []) ++ behind) (sym is)
    ∙ ap (λ (ls : List (List ℕ)). flat_map line ls ++ behind) (sym (map-append line_of history (event ∷ [])))

-- ---- lines without a feed

-- what stands before the first feed has none
plain_take : (octets : List ℕ) (n : ℕ) → ((k : ℕ) → k < n → is_feed (get_or octets k 0) ≡ false) → IsPlain (take n octets)
plain_take [] zero before = tt
plain_take [] (suc n) before = tt
plain_take (octet ∷ octets) zero before = tt
plain_take (octet ∷ octets) (suc n) before = (
  λ e. cc (sym (before 0 (omega arith)) ∙ ap is_feed e),
  plain_take octets n (λ k h. before (suc k) (omega (arith, h))),
)

pub plain_front : (octets : List ℕ) (place : ℕ) → position is_feed octets ≡ Some place → IsPlain (take place octets)
plain_front octets place e = plain_take octets place (position-Some is_feed octets place 0 e).2

feed_by : (b : Bool) (n m : ℕ) → n < m → cond (not b) (1 + n) 0 < suc m
feed_by true n m h = omega arith
feed_by false n m h = omega (arith, h)

feed_within : (text rest : List ℕ) → position_or_len is_feed (line text ++ rest) < length (line text ++ rest)
feed_within [] rest = omega arith
feed_within (octet ∷ text) rest = feed_by (is_feed octet) (position_or_len is_feed (line text ++ rest)) (length (line text ++ rest)) (feed_within text rest)

-- no line without a feed
pub none_without_feed : (octets : List ℕ) → position is_feed octets ≡ None → NoLine octets
none_without_feed octets none text rest is =
    let within = subst (λ (xs : List ℕ). position_or_len is_feed xs < length xs) (sym is) (feed_within text rest) in
    let found = lt-ltb (position_or_len is_feed octets) (length octets) within in
    let some : cond true (Some (position_or_len is_feed octets)) None ≡ None = ap (λ b. cond b (Some (position_or_len is_feed octets)) None) (sym found) ∙ none in
    absurd cc

pub plain_append : (xs ys : List ℕ) → IsPlain xs → IsPlain ys → IsPlain (xs ++ ys)
plain_append [] ys h k = k
plain_append (x ∷ xs) ys h k = (h.0, plain_append xs ys h.1 k)

pub plain_word : (word : List ℕ) → is_word word ≡ true → IsPlain word
plain_word [] h = tt
plain_word (octet ∷ word) h =
    let parts = and_parts (is_inner octet) (is_word word) h in
    let high : 32 < octet = ltb-true 32 octet parts.0 in
    (λ e. absurd (omega (arith, high, e)), plain_word word parts.1)

-- the same line stands in front, where neither has a feed
pub same_line : (one other r s : List ℕ) → IsPlain one → IsPlain other → line one ++ r ≡ line other ++ s → (one ≡ other) × (r ≡ s)
same_line [] [] r s h k e = (refl, ap (λ (xs : List ℕ). drop 1 xs) e)
same_line [] (p ∷ other) r s h k e = absurd (k.0 (sym (ap (λ (xs : List ℕ). get_or xs 0 0) e)))
same_line (o ∷ one) [] r s h k e = absurd (h.0 (ap (λ (xs : List ℕ). get_or xs 0 0) e))
same_line (o ∷ one) (p ∷ other) r s h k e =
    let head : o ≡ p = ap (λ (xs : List ℕ). get_or xs 0 0) e in
    let rest = same_line one other r s h.1 k.1 (ap (λ (xs : List ℕ). drop 1 xs) e) in
    let tail = rest.0 in
    (cc, rest.1)

-- ---- lists of lines

abbrev pub ArePlain : List (List ℕ) → Type 0
ArePlain [] = Unit {0}
ArePlain (text ∷ lines) = IsPlain text × ArePlain lines

pub plain_both : (xs ys : List (List ℕ)) → ArePlain xs → ArePlain ys → ArePlain (xs ++ ys)
plain_both [] ys h k = k
plain_both (x ∷ xs) ys h k = (h.0, plain_both xs ys h.1 k)

pub plain_left : (xs ys : List (List ℕ)) → ArePlain (xs ++ ys) → ArePlain xs
plain_left [] ys h = tt
plain_left (x ∷ xs) ys h = (h.0, plain_left xs ys h.1)

-- one list of lines stands in front of the other
abbrev pub Front : List (List ℕ) → List (List ℕ) → List ℕ → List ℕ → Type 0
Front xs ys r s = (more : List (List ℕ)) × (ys ≡ xs ++ more) × (r ≡ flat_map line more ++ s)

abbrev pub Longer : List (List ℕ) → List (List ℕ) → List ℕ → List ℕ → Type 0
Longer xs ys r s = (text : List ℕ) × (more : List (List ℕ)) × (xs ≡ ys ++ text ∷ more) × (s ≡ line text ++ (flat_map line more ++ r))

pub one_cut : (xs ys : List (List ℕ)) (r s : List ℕ) → ArePlain xs → ArePlain ys → flat_map line xs ++ r ≡ flat_map line ys ++ s → Front xs ys r s ⊎ Longer xs ys r s
one_cut [] ys r s h k e = inl (ys, refl, e)
one_cut (x ∷ xs) [] r s h k e = inr (x, xs, refl, sym e ∙ append_assoc (line x) (flat_map line xs) r)
one_cut (x ∷ xs) (y ∷ ys) r s h k e = elim (one_cut xs ys r s h.1 k.1 same.1) [ inl f ↦ inl (front f) | inr l ↦ inr (longer l) ] where
  same : (x ≡ y) × (flat_map line xs ++ r ≡ flat_map line ys ++ s)
  same = same_line x y (flat_map line xs ++ r) (flat_map line ys ++ s) h.0 k.0 (sym (append_assoc (line x) (flat_map line xs) r) ∙ e ∙ append_assoc (line y) (flat_map line ys) s)

  front : Front xs ys r s → Front (x ∷ xs) (y ∷ ys) r s
  front f = let head = same.0 in let tail = f.1 in (f.0, cc, f.2)

  longer : Longer xs ys r s → Longer (x ∷ xs) (y ∷ ys) r s
  longer l = let head = same.0 in let tail = l.2 in (l.0, l.1, cc, l.3)

-- ---- what a function answers

-- where nothing was found
pub none_is : {A : Type 0} (r : Option A) (P : Type 0) (Q : A → Type 0) → r ≡ None → P → MatchOption r P Q
none_is {A} r P Q e p = subst (λ (o : Option A). MatchOption o P Q) (sym e) p

-- ---- how many

-- so many lines have as many octets, or more
lines_long : (lines : List (List ℕ)) → length lines ≤ length (flat_map line lines)
lines_long [] = omega arith
lines_long (text ∷ lines) =
    let more = lines_long lines in
    let outer = length-append (line text) (flat_map line lines) in
    let inner = length-append text (10 ∷ []) in
    omega (arith, more, outer, inner)

-- nothing stands behind as many lines as there are octets
pub no_rest : (octets : List ℕ) (lines : List (List ℕ)) (rest : List ℕ) → octets ≡ flat_map line lines ++ rest → length octets ≤ length lines → rest ≡ []
no_rest octets lines rest e many =
    let long = lines_long lines in
    let all = ap length e in
    let sum = length-append (flat_map line lines) rest in
    nil_from_length rest (omega (arith, long, all, sum, many))
