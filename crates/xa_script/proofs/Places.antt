-- The place that a search of the crate `memchr` finds.
use Rattle.std.proofs.Common.{◌≡◌, ℕ, Bool, true, false, cond, nat_lt, List, length, get_or, Option, Some, None, refl, sym, ap, ◌∙◌, arith}
use Rattle.std.specs.List.{position, position_or_len}
use Rattle.std.proofs.lemmas.List.Sums.{position_or_len_is}
use Rattle.std.proofs.lemmas.Bool.Decides.{nat_tests}
use Rattle.memchr.specs.Find.{IsFirstByte}

fails : (b : Bool) → (b ≡ true → ⊥) → b ≡ false
fails true none = absurd (none refl)
fails false none = refl

at_place : (test : ℕ → Bool) (xs : List ℕ) (n : ℕ) (b : Bool) → position_or_len test xs ≡ n → nat_lt n (length xs) ≡ b → cond b (Some n) None ≡ position test xs
at_place test xs n b place within = ap (λ c. cond c (Some n) None) (sym within) ∙ ap (λ m. cond (nat_lt m (length xs)) (Some m) None) (sym place)

pub first_place : (test : ℕ → Bool) (xs : List ℕ) (found : Option ℕ) → IsFirstByte test xs found → found ≡ position test xs
first_place test xs None nowhere =
    at_place test xs (length xs) false
    (position_or_len_is test xs (length xs) 0 (omega arith) (λ k within. fails (test (get_or xs k 0)) (nowhere k (omega arith) within)) (λ within. absurd (omega (arith, within))))
    (grind (arith, nat_tests))
first_place test xs (Some k) found =
    at_place test xs k true
    (position_or_len_is test xs k 0 (omega (arith, found.0.high)) (λ j before. fails (test (get_or xs j 0)) (found.0.before j (omega arith) before)) (λ within. found.1))
    (grind (arith, nat_tests, found.0.high))
