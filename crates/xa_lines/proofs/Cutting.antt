-- A line and its words: joined words are cut into the same words, and the words of a line are joined to the same line.
use Rattle.std.proofs.Common.{◌≡◌, ℕ, suc, ◌+◌, ◌<◌, ◌≤◌, Bool, true, false, cond, not, eqb, nat_lt, Option, Some, None, is_none, length, unwrap_or, List, [], ◌∷◌, ◌++◌, take, drop, refl, sym, ap, ◌∙◌, arith}
use Rattle.std.specs.List.{list_all, flat_map, position_or_len}
use Rattle.std.proofs.lemmas.Bool.{eqb-true, ne_eqb, ltb-true, and_parts}
use Rattle.std.proofs.lemmas.Bool.Decides.{nat_tests}
use Rattle.std.proofs.lemmas.Option.{same_Some}
use Rattle.xa_lines.specs.Line.{spaced, joined}
use Rattle.xa_lines.specs.Reading.{is_space, after_space, put_first, split, words_in}

-- an octet that may stand in a word: none of those up to the space
abbrev pub is_inner : ℕ → Bool
is_inner octet = nat_lt 32 octet

abbrev pub is_word : List ℕ → Bool
is_word word = list_all is_inner word

cut_by : (b : Bool) (octet : ℕ) (octets : List ℕ) (n : ℕ) → eqb octet 32 ≡ b → split octets ≡ take n octets ∷ words_in (drop n octets)
    → cond b ([] ∷ split octets) (put_first octet (split octets)) ≡ take (cond (not b) (1 + n) 0) (octet ∷ octets) ∷ words_in (drop (cond (not b) (1 + n) 0) (octet ∷ octets))
unfolding words_in
cut_by true octet octets n e more = ap (λ b. [] ∷ cond b (split octets) []) (sym e)
cut_by false octet octets n e more =
    let one : 1 + n ≡ suc n = omega arith in
    ap (put_first octet) more ∙ ap (λ n. take n (octet ∷ octets) ∷ words_in (drop n (octet ∷ octets))) (sym one)

-- the first word is what stands before the first space
pub cut : (octets : List ℕ) → split octets ≡ take (position_or_len is_space octets) octets ∷ words_in (drop (position_or_len is_space octets) octets)
unfolding split words_in
cut [] = refl
cut (octet ∷ octets) = cut_by (eqb octet 32) octet octets (position_or_len is_space octets) refl (cut octets)

put_joined : (octet : ℕ) (words : List (List ℕ)) (octets : List ℕ) → flat_map spaced words ≡ 32 ∷ octets → flat_map spaced (put_first octet words) ≡ 32 ∷ octet ∷ octets
put_joined octet [] octets h = absurd cc
put_joined octet (word ∷ words) octets h = ap (λ (xs : List ℕ). 32 ∷ octet ∷ drop 1 xs) h

spaced_by : (b : Bool) (octet : ℕ) (octets : List ℕ) → eqb octet 32 ≡ b → flat_map spaced (split octets) ≡ 32 ∷ octets
    → flat_map spaced (cond b ([] ∷ split octets) (put_first octet (split octets))) ≡ 32 ∷ octet ∷ octets
spaced_by true octet octets e more = ap (λ (xs : List ℕ). 32 ∷ xs) more ∙ ap (λ o. 32 ∷ o ∷ octets) (sym (eqb-true octet 32 e))
spaced_by false octet octets e more = put_joined octet (split octets) octets more

all_spaced : (octets : List ℕ) → flat_map spaced (split octets) ≡ 32 ∷ octets
unfolding split
all_spaced [] = refl
all_spaced (octet ∷ octets) = spaced_by (eqb octet 32) octet octets refl (all_spaced octets)

joined_by : (words : List (List ℕ)) (line : List ℕ) → flat_map spaced words ≡ 32 ∷ line → joined words ≡ line
joined_by [] line h = absurd cc
joined_by (word ∷ words) line h = ap (λ (xs : List ℕ). drop 1 xs) h

-- the words of a line make the line
pub joined_split : (line : List ℕ) → joined (split line) ≡ line
joined_split line = joined_by (split line) line (all_spaced line)

split_word : (word : List ℕ) (words : List (List ℕ)) → is_word word ≡ true → words_in (flat_map spaced words) ≡ words → split (word ++ flat_map spaced words) ≡ word ∷ words
unfolding split words_in
split_word [] [] h behind = refl
split_word [] (other ∷ words) h behind = ap (λ (ws : List (List ℕ)). [] ∷ ws) behind
split_word (octet ∷ word) words h behind =
    let parts = and_parts (is_inner octet) (is_word word) h in
    let high : 32 < octet = ltb-true 32 octet parts.0 in
    let other : eqb octet 32 ≡ false = ne_eqb octet 32 (λ e. absurd (omega (arith, e, high))) in
    ap (λ b. cond b ([] ∷ split (word ++ flat_map spaced words)) (put_first octet (split (word ++ flat_map spaced words)))) other
    ∙ ap (put_first octet) (split_word word words parts.1 behind)

words_again : (words : List (List ℕ)) → list_all is_word words ≡ true → words_in (flat_map spaced words) ≡ words
unfolding words_in
words_again [] h = refl
words_again (word ∷ words) h =
    let parts = and_parts (is_word word) (list_all is_word words) h in
    split_word word words parts.0 (words_again words parts.1)

-- joined words are cut into the same words
pub split_joined : (word : List ℕ) (words : List (List ℕ)) → list_all is_word (word ∷ words) ≡ true → split (joined (word ∷ words)) ≡ word ∷ words
split_joined word words h =
    let parts = and_parts (is_word word) (list_all is_word words) h in
    split_word word words parts.0 (words_again words parts.1)

-- a place that is found, or else the end
pub unwrapped : (place n : ℕ) → place ≤ n → unwrap_or (cond (nat_lt place n) (Some place) None) n ≡ place
unwrapped place n within = elim (nat_lt place n) as (λ b. nat_lt place n ≡ b → unwrap_or (cond b (Some place) None) n ≡ place) [ true ↦ λ e. refl | false ↦ λ e. grind (arith, nat_tests) ] refl

next_by : (b : Bool) (octet : ℕ) (octets line word rest : List ℕ) → eqb octet 32 ≡ b → ◌≡◌ {A = Option (List ℕ)} (cond b (Some octets) None) (Some line) → split line ≡ word ∷ words_in rest
    → words_in (octet ∷ octets) ≡ word ∷ words_in rest
unfolding words_in
next_by true octet octets line word rest e h more = ap (λ b. cond b (split octets) []) e ∙ ap split (same_Some octets line h) ∙ more
next_by false octet octets line word rest e h more = absurd cc

-- the word behind a space
pub next_word : (words line word rest : List ℕ) → after_space words ≡ Some line → split line ≡ word ∷ words_in rest → words_in words ≡ word ∷ words_in rest
next_word [] line word rest h more = absurd cc
next_word (octet ∷ octets) line word rest h more = next_by (eqb octet 32) octet octets line word rest refl h more

no_word_by : (b : Bool) (octet : ℕ) (octets : List ℕ) → eqb octet 32 ≡ b → ◌≡◌ {A = Option (List ℕ)} (cond b (Some octets) None) None → words_in (octet ∷ octets) ≡ []
unfolding words_in
no_word_by true octet octets e h = absurd cc
no_word_by false octet octets e h = ap (λ b. cond b (split octets) []) e

-- no space, no word
pub no_word : (words : List ℕ) → after_space words ≡ None → words_in words ≡ []
unfolding words_in
no_word [] h = refl
no_word (octet ∷ octets) h = no_word_by (eqb octet 32) octet octets refl h

done_by : (b : Bool) (octet : ℕ) (octets : List ℕ) → eqb octet 32 ≡ b → is_none (cond b (Some octets) None) ≡ eqb (length (words_in (octet ∷ octets))) 0
unfolding words_in
done_by true octet octets e = sym (ap (λ b. eqb (length (cond b (split octets) [])) 0) e ∙ ap (λ (ws : List (List ℕ)). eqb (length ws) 0) (cut octets) ∙ ne_eqb (suc _) 0 (λ h. absurd (omega (arith, h))))
done_by false octet octets e = sym (ap (λ b. eqb (length (cond b (split octets) [])) 0) e)

-- no word follows where no space stands in front
pub done : (words : List ℕ) → is_none (after_space words) ≡ eqb (length (words_in words)) 0
unfolding words_in
done [] = refl
done (octet ∷ octets) = done_by (eqb octet 32) octet octets refl
