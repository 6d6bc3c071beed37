-- What the digits of a number come to.
use Rattle.std.proofs.Common.{◌≡◌, ℕ, suc, ◌+◌, ◌-◌, ◌*◌, ◌≤◌, ◌<◌, nat_lt, true, false, cond, List, [], ◌∷◌, ◌++◌, length, take, drop, get_or, Some, None, refl, ap, sym, ◌∙◌, subst, arith, drop-cons}
use Rattle.std.proofs.lemmas.Bool.{ltb-false}
use Rattle.std.proofs.lemmas.Bool.Decides.{nat_tests}
use Rattle.std.proofs.lemmas.List.{take_rest}
use Rattle.xa_script.specs.Words.{◌>>=◌, decimal, decimal_from, hex_octet, hex_from}

at_least : (n : ℕ) (digits : List ℕ) → n ≤ decimal_from n digits
at_least n [] = omega arith
at_least n (digit ∷ digits) = let more = at_least (n * 10 + (digit - 48)) digits in omega (arith, more)

no_less : (n k most : ℕ) → None ≡ cond (nat_lt n most) (Some n) None → n ≤ k → None ≡ cond (nat_lt k most) (Some k) None
no_less n k most none low = elim (nat_lt n most) as (λ b. nat_lt n most ≡ b → None ≡ cond b (Some n) None → None ≡ cond (nat_lt k most) (Some k) None) [
  | true ↦ λ e h. absurd cc
  | false ↦ λ e h. let above = ltb-false n most e in let not : nat_lt k most ≡ false = grind (arith, nat_tests) in ap (λ b. cond b (Some k) None) (sym not)
] refl none

-- a number is too large with its digits so far
pub too_large : (most n i : ℕ) (digits : List ℕ) → i < length digits → decimal_from n (drop i digits) ≡ decimal digits
    → None ≡ cond (nat_lt (n * 10 + (get_or digits i 0 - 48)) most) (Some (n * 10 + (get_or digits i 0 - 48))) None
    → None ≡ cond (nat_lt (decimal digits) most) (Some (decimal digits)) None
too_large most n i digits low is none =
    let more = n * 10 + (get_or digits i 0 - 48) in
    let all : decimal_from more (drop (suc i) digits) ≡ decimal digits = ap (decimal_from n) (sym (drop-cons digits i 0 low)) ∙ is in
    no_less more (decimal digits) most none (subst (λ k. more ≤ k) all (at_least more (drop (suc i) digits)))

-- two digits more
pub one_pair : (front digits : List ℕ) (octet : ℕ) → 2 ≤ length digits → hex_octet (get_or digits 0 0) (get_or digits 1 0) ≡ Some octet
    → hex_from (front ++ octet ∷ []) (take (length digits - 2) (drop 2 digits)) ≡ hex_from front digits
one_pair front [] octet some is = absurd (omega (arith, some))
one_pair front (a ∷ []) octet some is = absurd (omega (arith, some))
one_pair front (a ∷ b ∷ more) octet some is =
    ap (hex_from (front ++ octet ∷ [])) (take_rest (a ∷ b ∷ more) 2) ∙ ap (λ said. said >>= λ one. hex_from (front ++ one ∷ []) more) (sym is)
