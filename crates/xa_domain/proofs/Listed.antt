-- Lists that go together, place by place.
use Rattle.std.proofs.Common.{◌≡◌, ℕ, zero, suc, ◌+◌, ◌<◌, List, [], ◌∷◌, Option, Some, None, length, drop, get_or, map, refl, sym, ◌∙◌, ap, subst, arith, add-one}
use Rattle.std.specs.List.{All, Contains}
use Rattle.std.proofs.lemmas.Option.{slice_get_within, get_or_from_slice_get, slice_get-get_or}
use Rattle.std.proofs.lemmas.List.Elements.{All-nil, All-cons, All-head, All-tail}
use Rattle.xa_boot.specs.xa_types.Setup.{numbered}
use Rattle.xa_boot.specs.xa_lock.declared.pass.LockPass.{LockPass}
use Rattle.xa_boot.specs.xa_desk.Desks.{IsThere}

-- ---- passes, and what each worker leaves

module _ {E X : Type 0} (P : LockPass E → Type 0) (its : X → Option (LockPass E)) where
  -- what holds of each worker's pass holds of all passes
  pub all_passes : (passes : List (LockPass E)) (all : List X) → map Some passes ≡ map its all → All (λ x. IsThere P (its x)) all → All P passes
  all_passes [] all same each = All-nil P
  all_passes (p ∷ ps) [] same each = absurd (cc same)
  all_passes (p ∷ ps) (x ∷ xs) same each =
      let first : Some p ≡ its x = cc same in
      let rest : map Some ps ≡ map its xs = cc same in
      All-cons P p ps (subst (IsThere P) (sym first) (All-head (λ y. IsThere P (its y)) x xs each)) (all_passes ps xs rest (All-tail (λ y. IsThere P (its y)) x xs each))

  -- and the other way round
  pub each_pass : (passes : List (LockPass E)) (all : List X) → map Some passes ≡ map its all → All P passes → All (λ x. IsThere P (its x)) all
  each_pass passes [] same each = All-nil (λ x. IsThere P (its x))
  each_pass [] (x ∷ xs) same each = absurd (cc same)
  each_pass (p ∷ ps) (x ∷ xs) same each =
      let first : Some p ≡ its x = cc same in
      let rest : map Some ps ≡ map its xs = cc same in
      All-cons (λ y. IsThere P (its y)) x xs (subst (IsThere P) first (All-head P p ps each)) (each_pass ps xs rest (All-tail P p ps each))

-- there are as many
pub same_count : {E X : Type 0} (its : X → Option (LockPass E)) (passes : List (LockPass E)) (all : List X) → map Some passes ≡ map its all → length passes ≡ length all
same_count its [] [] same = refl
same_count its [] (x ∷ xs) same = absurd (cc same)
same_count its (p ∷ ps) [] same = absurd (cc same)
same_count its (p ∷ ps) (x ∷ xs) same = let rest : map Some ps ≡ map its xs = cc same in ap suc (same_count its ps xs rest)

-- a pass that is there
pub one_there : {E : Type 0} (P : LockPass E → Type 0) (o : Option (LockPass E)) → IsThere P o → (pass : LockPass E) × (o ≡ Some pass) × P pass
one_there P None is = absurd is
one_there P (Some pass) is = (pass, refl, is)

pub there-weaker : {E : Type 0} (P Q : LockPass E → Type 0) → ((pass : LockPass E) → P pass → Q pass) → (o : Option (LockPass E)) → IsThere P o → IsThere Q o
there-weaker P Q from None is = is
there-weaker P Q from (Some pass) is = from pass is

pub first_stands : {E : Type 0} (passes : List (LockPass E)) (o : Option (LockPass E)) (os : List (Option (LockPass E))) (pass : LockPass E) → map Some passes ≡ o ∷ os → o ≡ Some pass → Contains passes pass
first_stands [] o os pass same is = absurd (cc same)
first_stands (p ∷ ps) o os pass same is = let here : p ≡ pass = cc (same, is) in (0, omega arith, here)

-- ---- the one with a number

pub numbered_at : {X : Type 0} (xs : List X) (k : ℕ) (d : X) → k < length xs → numbered (k + 1) xs ≡ Some (get_or xs k d)
numbered_at xs k d within = ap (λ n. numbered n xs) (add-one k) ∙ slice_get-get_or xs k d within

pub number_of : {X : Type 0} (xs : List X) (n : ℕ) (x : X) → numbered n xs ≡ Some x → (k : ℕ) × (n ≡ k + 1) × (k < length xs) × (get_or xs k x ≡ x)
number_of xs zero x there = absurd (cc there)
number_of xs (suc k) x there = (k, sym (add-one k), slice_get_within xs k x there, get_or_from_slice_get xs k x x there)

-- ---- what is left of a list

-- the next of what is left behind the first n
pub next_left : {X : Type 0} (xs rest left : List X) (n : ℕ) (x : X) → rest ≡ drop n xs → rest ≡ x ∷ left → (n < length xs) × ((d : X) → get_or xs n d ≡ x) × (left ≡ drop (suc n) xs)
next_left [] rest left zero x is next = absurd (cc (is, next))
next_left [] rest left (suc n) x is next = absurd (cc (is, next))
next_left (y ∷ ys) rest left zero x is next =
    let here : y ≡ x = cc (is, next) in
    let behind : left ≡ ys = cc (is, next) in
    (omega arith, λ d. here, behind)
next_left (y ∷ ys) rest left (suc n) x is next =
    let further = next_left ys rest left n x is next in
    let low = further.0 in
    (omega (arith, low), further.1, further.2)
