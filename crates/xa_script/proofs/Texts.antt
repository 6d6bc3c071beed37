-- Quoted texts: what reading them gives.
use Rattle.std.proofs.Common.{◌≡◌, ℕ, suc, ◌==◌, not, Bool, true, false, cond, List, [], ◌∷◌, ◌++◌, ◌+◌, ◌≤◌, nat_lt, take, drop, arith, Some, None, unwrap_or, refl, ap, sym, ◌∙◌, append_assoc}
use Rattle.std.specs.List.{position_or_len}
use Rattle.std.proofs.lemmas.Bool.Decides.{nat_tests}
use Rattle.xa_script.specs.Words.{next_octet, is_marked, put, text_in_front}

abbrev spelled : ℕ → List ℕ → ℕ × List ℕ
spelled octet rest = (octet, rest)

abbrev pub parted : List ℕ → List ℕ → List ℕ × List ℕ
parted text rest = (text, rest)

pub some_is : {A : Type 0} (x y : A) → Some x ≡ Some y → x ≡ y
some_is x y h = ap (λ o. unwrap_or o x) h

pub put-put : (front more : List ℕ) (x : List ℕ × List ℕ) → put front (put more x) ≡ put (front ++ more) x
put-put front more x = ap (λ text. (text, x.1)) (sym (append_assoc front more x.0))

put_next : (x octet : ℕ) (more rest : List ℕ) → Some (spelled x more) ≡ Some (spelled octet rest) → put (x ∷ []) (text_in_front more) ≡ put (octet ∷ []) (text_in_front rest)
put_next x octet more rest h = ap (λ (p : ℕ × List ℕ). put (p.0 ∷ []) (text_in_front p.1)) (some_is (spelled x more) (spelled octet rest) h)

one_last : (m : Bool) (x octet : ℕ) (rest : List ℕ) → cond m None (Some (spelled x [])) ≡ Some (spelled octet rest) → cond m (parted [] (x ∷ [])) (parted (x ∷ []) []) ≡ put (octet ∷ []) (text_in_front rest)
unfolding text_in_front
one_last true x octet rest h = absurd cc
one_last false x octet rest h = put_next x octet [] rest h

one_of_two : (a b c : Bool) (x y octet : ℕ) (more rest : List ℕ)
    → cond a None (cond b (cond c (Some (spelled y more)) None) (Some (spelled x (y ∷ more)))) ≡ Some (spelled octet rest)
    → cond a (parted [] (x ∷ y ∷ more)) (cond b (cond c (put (y ∷ []) (text_in_front more)) (parted [] (x ∷ y ∷ more))) (put (x ∷ []) (text_in_front (y ∷ more)))) ≡ put (octet ∷ []) (text_in_front rest)
one_of_two true b c x y octet more rest h = absurd cc
one_of_two false true true x y octet more rest h = put_next y octet more rest h
one_of_two false true false x y octet more rest h = absurd cc
one_of_two false false c x y octet more rest h = put_next x octet (y ∷ more) rest h

-- one octet more
pub one_octet : (xs : List ℕ) (octet : ℕ) (rest : List ℕ) → next_octet xs ≡ Some (spelled octet rest) → text_in_front xs ≡ put (octet ∷ []) (text_in_front rest)
unfolding text_in_front
one_octet [] octet rest h = absurd cc
one_octet (x ∷ []) octet rest h = one_last (is_marked x) x octet rest h
one_octet (x ∷ y ∷ more) octet rest h = one_of_two (x == 34) (x == 92) (is_marked y) x y octet more rest h

none_last : (m : Bool) (x : ℕ) → cond m None (Some (spelled x [])) ≡ None → cond m (parted [] (x ∷ [])) (parted (x ∷ []) []) ≡ (parted [] (x ∷ []))
none_last true x h = refl
none_last false x h = absurd cc

none_of_two : (a b c : Bool) (x y : ℕ) (more : List ℕ)
    → cond a None (cond b (cond c (Some (spelled y more)) None) (Some (spelled x (y ∷ more)))) ≡ None
    → cond a (parted [] (x ∷ y ∷ more)) (cond b (cond c (put (y ∷ []) (text_in_front more)) (parted [] (x ∷ y ∷ more))) (put (x ∷ []) (text_in_front (y ∷ more)))) ≡ (parted [] (x ∷ y ∷ more))
none_of_two true b c x y more h = refl
none_of_two false true true x y more h = absurd cc
none_of_two false true false x y more h = refl
none_of_two false false c x y more h = absurd cc

-- the text goes no further
pub no_octet : (xs : List ℕ) → next_octet xs ≡ None → text_in_front xs ≡ parted [] xs
unfolding text_in_front
no_octet [] h = refl
no_octet (x ∷ []) h = none_last (is_marked x) x h
no_octet (x ∷ y ∷ more) h = none_of_two (x == 34) (x == 92) (is_marked y) x y more h

pub unmarked : (x : ℕ) (more : List ℕ) → is_marked x ≡ false → next_octet (x ∷ more) ≡ Some (spelled x more)
unmarked x [] h = ap (λ m. cond m None (Some (spelled x []))) h
unmarked x (y ∷ more) h = grind arith

at_mark : (x : ℕ) (more : List ℕ) → is_marked x ≡ true → position_or_len is_marked (x ∷ more) ≡ 0
at_mark x more h = ap (λ m. cond (not m) (1 + position_or_len is_marked more) 0) h

one_more : (n : ℕ) → 1 + n ≡ suc n
one_more n = grind arith

past_plain : (x : ℕ) (more : List ℕ) → is_marked x ≡ false → position_or_len is_marked (x ∷ more) ≡ suc (position_or_len is_marked more)
past_plain x more h = ap (λ m. cond (not m) (1 + position_or_len is_marked more) 0) h ∙ one_more (position_or_len is_marked more)

abbrev pub split : ℕ → List ℕ → List ℕ × List ℕ
split n xs = put (take n xs) (text_in_front (drop n xs))

abbrev split_here : List ℕ → List ℕ × List ℕ
split_here xs = split (position_or_len is_marked xs) xs

by_mark : (x : ℕ) (more : List ℕ) (m : Bool) → is_marked x ≡ m → split_here more ≡ text_in_front more → split_here (x ∷ more) ≡ text_in_front (x ∷ more)
by_mark x more true h rest = ap (λ n. split n (x ∷ more)) (at_mark x more h)
by_mark x more false h rest =
    ap (λ n. split n (x ∷ more)) (past_plain x more h)
    ∙ sym (put-put (x ∷ []) (take (position_or_len is_marked more) more) (text_in_front (drop (position_or_len is_marked more) more)))
    ∙ ap (λ found. put (x ∷ []) found) rest
    ∙ sym (one_octet (x ∷ more) x more (unmarked x more h))

-- the octets before the first mark are the text's first
pub plain_octets : (xs : List ℕ) → split_here xs ≡ text_in_front xs
plain_octets [] = refl
plain_octets (x ∷ more) = by_mark x more (is_marked x) refl (plain_octets more)

-- a place that is found, or else the end
pub unwrapped : (place n : ℕ) → place ≤ n → unwrap_or (cond (nat_lt place n) (Some place) None) n ≡ place
unwrapped place n within = elim (nat_lt place n) as (λ b. nat_lt place n ≡ b → unwrap_or (cond b (Some place) None) n ≡ place) [ true ↦ λ e. refl | false ↦ λ e. grind (arith, nat_tests) ] refl
