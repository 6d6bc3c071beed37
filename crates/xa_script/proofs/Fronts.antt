-- The word in front of a line.
use Rattle.std.proofs.Common.{◌≡◌, ℕ, suc, ◌+◌, ◌<◌, ◌==◌, ◌⊎◌, ◌&&◌, not, Bool, true, false, cond, List, [], ◌∷◌, ◌++◌, length, take, drop, Option, Some, None, inl, inr, refl, ap, ap₂, sym, ◌∙◌, subst, arith, take-append-drop}
use Rattle.std.specs.List.{list_all, position_or_len}
use Rattle.std.proofs.lemmas.Bool.{ne_eqb, and_parts, and_from}
use Rattle.std.proofs.lemmas.List.{take_at, drop_at}
use Rattle.xa_script.specs.Parts.{is_space, is_inner, is_end, IsWord, IsInFront}
use Rattle.xa_script.specs.Words.{skip_spaces, is_blank, cut_word, next_word, word_at}

abbrev pub Cut : Type 0
Cut = List ℕ × List ℕ

abbrev pub cut_at : List ℕ → List ℕ → Cut
cut_at word rest = (word, rest)

some_octets : (octet : ℕ) (rest : List ℕ) → (length (octet ∷ rest) == 0) ≡ false
some_octets octet rest = ne_eqb (length (octet ∷ rest)) 0 (λ e. absurd (omega (arith, e)))

-- ---- spaces in front

blank_by : (b : Bool) (octet : ℕ) (rest : List ℕ) → (length (skip_spaces rest) == 0) ≡ list_all is_space rest
    → (length (cond b (skip_spaces rest) (octet ∷ rest)) == 0) ≡ (b && list_all is_space rest)
blank_by true octet rest h = h
blank_by false octet rest h = some_octets octet rest

pub blank_is : (octets : List ℕ) → is_blank octets ≡ list_all is_space octets
blank_is [] = refl
blank_is (octet ∷ rest) = blank_by (octet == 32) octet rest (blank_is rest)

pub skip_gap : (gap octets : List ℕ) → list_all is_space gap ≡ true → skip_spaces (gap ++ octets) ≡ skip_spaces octets
skip_gap [] octets h = refl
skip_gap (octet ∷ gap) octets h =
    let parts = and_parts (is_space octet) (list_all is_space gap) h in
    ap (λ b. cond b (skip_spaces (gap ++ octets)) (octet ∷ gap ++ octets)) parts.0 ∙ skip_gap gap octets parts.1

not_true : (b : Bool) → not b ≡ true → b ≡ false
not_true true h = absurd cc
not_true false h = refl

pub skip_word : (word rest : List ℕ) → IsWord word → skip_spaces (word ++ rest) ≡ word ++ rest
skip_word [] rest is = absurd (let h = is.some in omega (arith, h))
skip_word (octet ∷ word) rest is =
    ap (λ b. cond b (skip_spaces (word ++ rest)) (octet ∷ word ++ rest)) (not_true (octet == 32) (and_parts (is_inner octet) (list_all is_inner word) is.inner).0)

-- ---- a word up to a space

pub word_long : (word rest : List ℕ) → list_all is_inner word ≡ true → is_end rest ≡ true → position_or_len is_space (word ++ rest) ≡ length word
word_long [] [] h e = refl
word_long [] (octet ∷ rest) h e = ap (λ b. cond (not b) (1 + position_or_len is_space rest) 0) e
word_long (octet ∷ word) rest h e =
    let parts = and_parts (is_inner octet) (list_all is_inner word) h in
    let more = word_long word rest parts.1 e in
    ap (λ b. cond b (1 + position_or_len is_space (word ++ rest)) 0) parts.0 ∙ omega (arith, more)

pub cut_is : (word rest : List ℕ) → list_all is_inner word ≡ true → is_end rest ≡ true → cut_word (word ++ rest) ≡ cut_at word rest
unfolding cut_word
cut_is word rest h e =
    let long = word_long word rest h e in
    ap₂ cut_at (take_at word rest _ (sym long)) (drop_at word rest _ (sym long))

abbrev pub inner_of : List ℕ → List ℕ
inner_of octets = take (position_or_len is_space octets) octets

abbrev rest_of : List ℕ → List ℕ
rest_of octets = drop (position_or_len is_space octets) octets

inner_by : (b : Bool) (octet : ℕ) (octets : List ℕ) → (octet == 32) ≡ b → list_all is_inner (inner_of octets) ≡ true
    → list_all is_inner (take (cond (not b) (1 + position_or_len is_space octets) 0) (octet ∷ octets)) ≡ true
inner_by true octet octets e h = refl
inner_by false octet octets e h =
    let one : 1 + position_or_len is_space octets ≡ suc (position_or_len is_space octets) = omega arith in
    ap (λ n. list_all is_inner (take n (octet ∷ octets))) one ∙ and_from (is_inner octet) (list_all is_inner (inner_of octets)) (ap not e) h

pub cut_inner : (octets : List ℕ) → list_all is_inner (inner_of octets) ≡ true
cut_inner [] = refl
cut_inner (octet ∷ octets) = inner_by (octet == 32) octet octets refl (cut_inner octets)

ends_by : (b : Bool) (octet : ℕ) (octets : List ℕ) → (octet == 32) ≡ b → is_end (rest_of octets) ≡ true
    → is_end (drop (cond (not b) (1 + position_or_len is_space octets) 0) (octet ∷ octets)) ≡ true
ends_by true octet octets e h = e
ends_by false octet octets e h =
    let one : 1 + position_or_len is_space octets ≡ suc (position_or_len is_space octets) = omega arith in
    ap (λ n. is_end (drop n (octet ∷ octets))) one ∙ h

pub cut_ends : (octets : List ℕ) → is_end (rest_of octets) ≡ true
cut_ends [] = refl
cut_ends (octet ∷ octets) = ends_by (octet == 32) octet octets refl (cut_ends octets)

-- ---- the next word

-- the spaces in front
pub record Skipped (octets behind : List ℕ) : Type 0 where
  pub gap : List ℕ
  pub cut : octets ≡ gap ++ behind
  pub spaces : list_all is_space gap ≡ true

skipped_by : (b : Bool) (octet : ℕ) (rest : List ℕ) → (octet == 32) ≡ b → Skipped rest (skip_spaces rest) → Skipped (octet ∷ rest) (cond b (skip_spaces rest) (octet ∷ rest))
skipped_by true octet rest e s = record { gap = octet ∷ s.gap; cut = ap (λ more. octet ∷ more) s.cut; spaces = and_from (is_space octet) (list_all is_space s.gap) e s.spaces }
skipped_by false octet rest e s = record { gap = []; cut = refl; spaces = refl }

pub skipped : (octets : List ℕ) → Skipped octets (skip_spaces octets)
skipped [] = record { gap = []; cut = refl; spaces = refl }
skipped (octet ∷ rest) = skipped_by (octet == 32) octet rest refl (skipped rest)

-- what the next word is, be it empty
pub next_front : (octets : List ℕ) → IsInFront (next_word octets).0 (next_word octets).1 octets
unfolding cut_word
next_front octets =
    let s = skipped octets in
    let behind = skip_spaces octets in record {
      gap = s.gap;
      cut = s.cut ∙ ap (λ more. s.gap ++ more) (sym (take-append-drop (position_or_len is_space behind) behind));
      spaces = s.spaces;
      ends = cut_ends behind;
    }

pub next_inner : (octets : List ℕ) → list_all is_inner (next_word octets).0 ≡ true
unfolding cut_word
next_inner octets = cut_inner (skip_spaces octets)

-- a word in front is the next one
pub next_is : (word rest octets : List ℕ) → IsWord word → IsInFront word rest octets → next_word octets ≡ cut_at word rest
next_is word rest octets is front =
    ap next_word front.cut ∙ ap cut_word (skip_gap front.gap (word ++ rest) front.spaces ∙ skip_word word rest is) ∙ cut_is word rest is.inner front.ends

long_by : (b : Bool) (octet : ℕ) (rest : List ℕ) → (octet == 32) ≡ b → (0 < length (next_word rest).0) ⊎ (list_all is_space rest ≡ true)
    → (0 < length (cut_word (cond b (skip_spaces rest) (octet ∷ rest))).0) ⊎ ((b && list_all is_space rest) ≡ true)
unfolding cut_word
long_by true octet rest e more = more
long_by false octet rest e more =
    let one : 1 + position_or_len is_space rest ≡ suc (position_or_len is_space rest) = omega arith in
    let here : position_or_len is_space (octet ∷ rest) ≡ suc (position_or_len is_space rest) = ap (λ b. cond (not b) (1 + position_or_len is_space rest) 0) e ∙ one in
    let word : take (position_or_len is_space (octet ∷ rest)) (octet ∷ rest) ≡ octet ∷ inner_of rest = ap (λ n. take n (octet ∷ rest)) here in
    let some : 0 < length (octet ∷ inner_of rest) = omega arith in
    inl (subst (λ w. 0 < length w) (sym word) some)

next_some : (octets : List ℕ) → (0 < length (next_word octets).0) ⊎ (list_all is_space octets ≡ true)
next_some [] = inr refl
next_some (octet ∷ rest) = long_by (octet == 32) octet rest refl (next_some rest)

-- there is a next word, or nothing but spaces
pub word_or_blank : (octets : List ℕ) → IsWord (next_word octets).0 ⊎ (list_all is_space octets ≡ true)
word_or_blank octets = elim (next_some octets) [ inl some ↦ inl (record { some = some; inner = next_inner octets }) | inr blank ↦ inr blank ]

-- ---- a word that is read

pub word_read : (octets word rest : List ℕ) → word_at octets ≡ Some (cut_at word rest) → IsWord word × IsInFront word rest octets
unfolding word_at
word_read octets word rest h = elim (length (next_word octets).0 == 0) as (λ b. (length (next_word octets).0 == 0) ≡ b
    → ◌≡◌ {A = Option Cut} (cond b None (Some (next_word octets))) (Some (cut_at word rest)) → IsWord word × IsInFront word rest octets) [
      | true ↦ λ e k. absurd cc
      | false ↦ λ e k.
          let same : next_word octets ≡ cut_at word rest = cc in
          let some : 0 < length (next_word octets).0 = grind (arith, e) in
          let is : IsWord (next_word octets).0 = record { some = some; inner = next_inner octets } in
          subst (λ (c : Cut). IsWord c.0 × IsInFront c.0 c.1 octets) same (is, next_front octets)
    ] refl h

pub word_again : (octets word rest : List ℕ) → IsWord word → IsInFront word rest octets → word_at octets ≡ Some (cut_at word rest)
unfolding word_at
word_again octets word rest is front =
    let same = next_is word rest octets is front in
    let some : (length word == 0) ≡ false = let s = is.some in ne_eqb (length word) 0 (λ e. absurd (omega (arith, e, s))) in
    ap (λ (c : Cut). cond (length c.0 == 0) None (Some c)) same ∙ ap (λ b. cond b None (Some (cut_at word rest))) some

pub spaces_word : (octets : List ℕ) → list_all is_space octets ≡ true → (next_word octets).0 ≡ []
unfolding cut_word
spaces_word [] h = refl
spaces_word (octet ∷ rest) h = elim (octet == 32) as (λ b. (b && list_all is_space rest) ≡ true → (cut_word (cond b (skip_spaces rest) (octet ∷ rest))).0 ≡ []) [
  | true ↦ λ e. spaces_word rest e
  | false ↦ λ e. absurd cc
] h

pub front_some : (word rest octets : List ℕ) → IsWord word → IsInFront word rest octets → list_all is_space octets ≡ false
front_some word rest octets is front = elim (list_all is_space octets) as (λ s. list_all is_space octets ≡ s → s ≡ false) [
  | true ↦ λ e. absurd (let same = ap (λ (c : Cut). length c.0) (next_is word rest octets is front) in let none = ap length (spaces_word octets e) in let some = is.some in omega (arith, same, none, some))
  | false ↦ λ e. refl
] refl

-- a word goes on with what has no space
inner_cons : (octet : ℕ) (octets : List ℕ) → is_inner octet ≡ true → inner_of (octet ∷ octets) ≡ octet ∷ inner_of octets
inner_cons octet octets h =
    let one : 1 + position_or_len is_space octets ≡ suc (position_or_len is_space octets) = omega arith in
    ap (λ b. take (cond b (1 + position_or_len is_space octets) 0) (octet ∷ octets)) h ∙ ap (λ n. take n (octet ∷ octets)) one

pub cut_prefix : (front more : List ℕ) → list_all is_inner front ≡ true → (cut_word (front ++ more)).0 ≡ front ++ (cut_word more).0
unfolding cut_word
cut_prefix [] more h = refl
cut_prefix (octet ∷ front) more h =
    let parts = and_parts (is_inner octet) (list_all is_inner front) h in
    inner_cons octet (front ++ more) parts.0 ∙ ap (λ rest. octet ∷ rest) (cut_prefix front more parts.1)
