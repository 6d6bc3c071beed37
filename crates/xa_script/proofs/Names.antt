-- Names that differ.
use Rattle.std.proofs.Common.{◌≡◌, ℕ, ◌||◌, not, Bool, true, false, List, [], ◌∷◌, ◌++◌, refl, ap, sym, ◌∙◌}
use Rattle.std.specs.Str.{bytes_eq}
use Rattle.std.proofs.lemmas.Bool.{and_parts, and_from}
use Rattle.std.proofs.lemmas.Slice.Eq.{bytes_eq-Decides}
use Rattle.xa_types.specs.Configured.{is_among, are_distinct}

same_self : (name : List ℕ) → bytes_eq name name ≡ true
same_self name = (bytes_eq-Decides name name).1 refl

pub among_append : (a b : List (List ℕ)) (name : List ℕ) → is_among (a ++ b) name ≡ (is_among a name || is_among b name)
among_append [] b name = refl
among_append (x ∷ a) b name = elim (bytes_eq name x) as (λ c. (c || is_among (a ++ b) name) ≡ ((c || is_among a name) || is_among b name)) [ true ↦ refl | false ↦ among_append a b name ]

or_false : (a b : Bool) → (a || b) ≡ false → (a ≡ false) × (b ≡ false)
or_false true b h = absurd cc
or_false false b h = (refl, h)

not_false : (a : Bool) → not a ≡ true → a ≡ false
not_false true h = absurd cc
not_false false h = refl

bytes_apart : (a b : List ℕ) → bytes_eq a b ≡ false → bytes_eq b a ≡ false
bytes_apart a b h = elim (bytes_eq b a) as (λ c. bytes_eq b a ≡ c → c ≡ false) [
  | true ↦ λ e. absurd (let same = (bytes_eq-Decides b a).0 e in let self = (bytes_eq-Decides a b).1 (sym same) in let both : true ≡ false = sym self ∙ h in cc)
  | false ↦ λ e. refl
] refl

pub distinct_push : (a : List (List ℕ)) (name : List ℕ) → are_distinct a ≡ true → is_among a name ≡ false → are_distinct (a ++ name ∷ []) ≡ true
distinct_push [] name h new = refl
distinct_push (x ∷ a) name h new =
    let parts = and_parts (not (is_among a x)) (are_distinct a) h in
    let apart = or_false (bytes_eq name x) (is_among a name) new in
    and_from (not (is_among (a ++ name ∷ []) x)) (are_distinct (a ++ name ∷ []))
    (ap not (among_append a (name ∷ []) x ∙ ap (λ b. b || (bytes_eq x name || false)) (not_false (is_among a x) parts.0) ∙ ap (λ b. b || false) (bytes_apart name x apart.0)))
    (distinct_push a name parts.1 apart.1)

pub distinct_apart : (a b : List (List ℕ)) (name : List ℕ) → are_distinct (a ++ name ∷ b) ≡ true → is_among a name ≡ false
distinct_apart [] b name h = refl
distinct_apart (x ∷ a) b name h =
    let parts = and_parts (not (is_among (a ++ name ∷ b) x)) (are_distinct (a ++ name ∷ b)) h in
    let apart = or_false (is_among a x) (is_among (name ∷ b) x) (sym (among_append a (name ∷ b) x) ∙ not_false _ parts.0) in
    let here = or_false (bytes_eq x name) (is_among b x) apart.1 in
    ap (λ c. c || is_among a name) (bytes_apart x name here.0) ∙ distinct_apart a b name parts.1
