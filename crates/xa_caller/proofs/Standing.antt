-- A request that is out stands at its place.
use Rattle.std.proofs.Common.{◌≡◌, ℕ, zero, suc, ◌<◌, ◌≤◌, ◌||◌, Bool, true, false, List, [], ◌∷◌, ◌++◌, length, map, Some, None, refl, sym, ◌∙◌, ap, subst, arith, slice_index_or, drop, eqb-true}
use Rattle.std.specs.Prelude.{take, slice_get}
use Rattle.std.specs.List.{All, position, position_or_len}
use Rattle.std.proofs.lemmas.List.Elements.{All-head, All-tail}
use Rattle.std.proofs.lemmas.Grind.{common_steps}
use Rattle.std.proofs.lemmas.List.Sums.{fails_before_first}
use Rattle.std.proofs.lemmas.List.Quantifiers.{position-Some}
use Rattle.xa_events.specs.Cases.{is_numbered}
use Rattle.xa_caller.specs.declared.phase.Open.{Open}
use Rattle.xa_caller.specs.Phases.{request_of}
use Rattle.xa_caller.specs.Descriptors.{StandsAt, is_at}

abbrev behind : (x y : Open) (ys : List Open) (i : ℕ) → StandsAt i x ys → StandsAt (suc i) x (y ∷ ys)
behind x y ys i s = record { front = y ∷ s.front; back = s.back; is = ap (λ (l : List Open). y ∷ l) s.is; before = ap suc s.before }

pub stands : (all : List Open) (i : ℕ) (x : Open) → i < length all → x ≡ slice_index_or all i x → StandsAt i x all
stands [] i x within is = absurd (omega (arith, within))
stands (y ∷ ys) zero x within is = record { front = []; back = ys; is = ap (λ (z : Open). z ∷ ys) (sym is); before = refl }
stands (y ∷ ys) (suc i) x within is = behind x y ys i (stands ys i x (omega (arith, within)) is)

pub removed : (all : List Open) (i : ℕ) (x : Open) → i < length all → x ≡ slice_index_or all i x → (s : StandsAt i x all) × (take i all ++ drop (suc i) all ≡ s.front ++ s.back)
removed [] i x within is = absurd (omega (arith, within))
removed (y ∷ ys) zero x within is = (record { front = []; back = ys; is = ap (λ (z : Open). z ∷ ys) (sym is); before = refl }, refl)
removed (y ∷ ys) (suc i) x within is = let rest = removed ys i x (omega (arith, within)) is in (behind x y ys i rest.0, ap (λ (l : List Open). y ∷ l) rest.1)

pub found-at : (all : List Open) (i : ℕ) (x : Open) → i < length all → x ≡ slice_index_or all i x → slice_get all i ≡ Some x
found-at [] i x within is = absurd (omega (arith, within))
found-at (y ∷ ys) zero x within is = ap Some (sym is)
found-at (y ∷ ys) (suc i) x within is = found-at ys i x (omega (arith, within)) is

-- where it is found it stands, and it is one
pub same_at : (all : List Open) (i : ℕ) (x y : Open) → slice_get all i ≡ Some x → slice_get all i ≡ Some y → x ≡ y
same_at all i x y one other = cc (sym one ∙ other)

at_or : (all : List Open) (i : ℕ) (x : Open) → slice_get all i ≡ Some x → slice_index_or all i x ≡ x
at_or [] i x found = absurd (cc found)
at_or (y ∷ ys) zero x found = cc found
at_or (y ∷ ys) (suc i) x found = at_or ys i x found

-- who stands where a descriptor was found has it
pub numbered_so : (all : List Open) (descriptor place : ℕ) (x : Open) → position (is_at descriptor) all ≡ Some place → slice_get all place ≡ Some x → x.request.number ≡ descriptor
numbered_so all descriptor place x found is =
    let so = (position-Some (is_at descriptor) all place x found).1 in
    eqb-true x.request.number descriptor (subst (λ (y : Open). is_at descriptor y ≡ true) (at_or all place x is) so)

none_of : (all : List Open) (descriptor : ℕ) → All (λ y. is_at descriptor y ≡ false) all → is_numbered descriptor (map request_of all) ≡ false
none_of [] descriptor each = refl
none_of (y ∷ ys) descriptor each =
    ap (λ b. b || is_numbered descriptor (map request_of ys)) (All-head (λ z. is_at descriptor z ≡ false) y ys each) ∙ none_of ys descriptor (All-tail (λ z. is_at descriptor z ≡ false) y ys each)

-- a descriptor that stands nowhere is none of theirs
pub not_numbered : (all : List Open) (descriptor : ℕ) → position (is_at descriptor) all ≡ None → is_numbered descriptor (map request_of all) ≡ false
not_numbered all descriptor none =
    let p : Open → Bool = is_at descriptor in
    let long : length all ≤ position_or_len p all = grind (arith, common_steps) in
    none_of all descriptor (λ k d within. fails_before_first p all k d (omega (arith, within, long)))

-- what is found stands between others
pub parts_at : (all : List Open) (i : ℕ) (x : Open) → slice_get all i ≡ Some x → StandsAt i x all
parts_at [] i x found = absurd (cc found)
parts_at (y ∷ ys) zero x found = record { front = []; back = ys; is = ap (λ (z : Open). z ∷ ys) (cc found); before = refl }
parts_at (y ∷ ys) (suc i) x found = behind x y ys i (parts_at ys i x found)
