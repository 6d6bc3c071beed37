-- What becomes of each entry of a list with its number, by places.
use Rattle.std.proofs.Common.{◌≡◌, ℕ, zero, suc, ◌+◌, ◌<◌, List, [], ◌∷◌, length, map, get_or, refl, ap₂, subst, arith}
use Rattle.xa_boot.specs.xa_events.Words.{EachNumbered}

pub numbered-at : {X : Type 0} (P : ℕ → X → Type 0) (n : ℕ) (xs : List X) → EachNumbered P n xs → (k : ℕ) (d : X) → k < length xs → P (n + k) (get_or xs k d)
numbered-at P n [] each k d within = absurd (omega (arith, within))
numbered-at P n (x ∷ xs) each zero d within = subst (λ j. P j x) (omega arith) each.0
numbered-at P n (x ∷ xs) each (suc k) d within = let same : n + 1 + k ≡ n + suc k = omega arith in subst (λ j. P j (get_or xs k d)) same (numbered-at P (n + 1) xs each.1 k d (omega (arith, within)))

-- R holds of each and of what stands at its place behind the change
abbrev pub Went : {X : Type 0} → (X → X → Type 0) → List X → List X → Type 0
Went {X} R xs ys = (k : ℕ) (d : X) → k < length xs → R (get_or xs k d) (get_or ys k d)

module _ {X : Type 0} (R : X → X → Type 0) where
  pub numbered-went : (P Q : ℕ → X → Type 0) → ((k : ℕ) (x y : X) → P k x → R x y → Q k y) → (n : ℕ) (xs ys : List X) → length ys ≡ length xs → EachNumbered P n xs → Went R xs ys → EachNumbered Q n ys
  numbered-went P Q step n [] [] same each went = tt
  numbered-went P Q step n [] (y ∷ ys) same each went = absurd (omega (arith, same))
  numbered-went P Q step n (x ∷ xs) [] same each went = absurd (omega (arith, same))
  numbered-went P Q step n (x ∷ xs) (y ∷ ys) same each went =
      (step n x y each.0 (went 0 x (omega arith)), numbered-went P Q step (n + 1) xs ys (omega (arith, same)) each.1 (λ k d within. went (suc k) d (omega (arith, within))))

  pub map-went : {B : Type 0} (f g : X → B) → ((x y : X) → R x y → f y ≡ g x) → (xs ys : List X) → length ys ≡ length xs → Went R xs ys → map f ys ≡ map g xs
  map-went f g step [] [] same went = refl
  map-went f g step [] (y ∷ ys) same went = absurd (omega (arith, same))
  map-went f g step (x ∷ xs) [] same went = absurd (omega (arith, same))
  map-went f g step (x ∷ xs) (y ∷ ys) same went = ap₂ ◌∷◌ (step x y (went 0 x (omega arith))) (map-went f g step xs ys (omega (arith, same)) (λ k d within. went (suc k) d (omega (arith, within))))
