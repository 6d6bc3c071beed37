-- Places of events: each is one of the homes, and they compare in one order.
use Rattle.std.proofs.Common.{◌≡◌, ℕ, ◌+◌, ◌<◌, false, List, [], ◌∷◌, suc, refl, sym, ◌∙◌, ap, arith, Some, IsSome, slice_get, map}
use Rattle.std.specs.List.{All}
use Rattle.std.specs.Ordering.{nat_cmp, ordering_then, is_lt, MatchOrdering}
use Rattle.std.specs.declared.cmp.Ordering.{Ordering}
use Rattle.std.specs.declared.cmp.Ordering.TheVariants.{Less, Equal, Greater}
use Rattle.std.proofs.lemmas.Bool.{false≢true}
use Rattle.std.specs.Cmp.{IsTotalOrder}
use Rattle.std.proofs.lemmas.Cmp.{then_total, on_total, nat_cmp_total, ranked}
use Rattle.std.proofs.lemmas.List.Elements.{All-nil, All-cons, All-append}
use Rattle.xa_stamp.specs.declared.home.Stamped.{Stamped}
use Rattle.xa_stamp.specs.declared.merging.Place.{Place}
use Rattle.xa_stamp.specs.Home.{Notes}
use Rattle.xa_stamp.specs.Merge.{places_in, places_from, event_at, place_cmp, IsMerged}
use Rattle.xa_stamp.proofs.Sorted.{same_from_permutations}
use Rattle.std.proofs.lemmas.List.Sorted.{ranks_by}
use Rattle.xa_events.specs.declared.event.Event.{Event}

-- an event stands there
abbrev pub IsThere : List Notes → Place → Type 0
IsThere homes place = IsSome (event_at homes place)

-- the rest of a list, from that number on
abbrev pub From : {X : Type 0} → List X → ℕ → List X → Type 0
From all n rest = (k : ℕ) → slice_get all (n + k) ≡ slice_get rest k

pub From-next : {X : Type 0} (all : List X) (n : ℕ) (x : X) (rest : List X) → From all n (x ∷ rest) → From all (n + 1) rest
From-next all n x rest at k =
    let moved : n + 1 + k ≡ n + suc k = omega arith in
    ap (slice_get all) moved ∙ at (suc k)

pub From-here : {X : Type 0} (all : List X) (n : ℕ) (x : X) (rest : List X) → From all n (x ∷ rest) → slice_get all n ≡ Some x
From-here all n x rest at =
    let here : n ≡ n + 0 = omega arith in
    ap (slice_get all) here ∙ at 0

there : (homes : List Notes) (h : Notes) (e : Stamped) (number index : ℕ) → slice_get homes number ≡ Some h → slice_get h.entries index ≡ Some e → IsThere homes (record { stamp = e.stamp; home = number; index = index })
there homes h e number index home entry = rw home (rw entry refl)

places_in-there : (homes : List Notes) (h : Notes) (number : ℕ) → slice_get homes number ≡ Some h → (index : ℕ) (rest : List Stamped) → From h.entries index rest → All (IsThere homes) (places_in number index rest)
places_in-there homes h number is index [] at = All-nil (IsThere homes)
places_in-there homes h number is index (e ∷ rest) at =
    All-cons (IsThere homes) _ _ (there homes h e number index is (From-here h.entries index e rest at)) (places_in-there homes h number is (index + 1) rest (From-next h.entries index e rest at))

places_from-there : (homes : List Notes) (number : ℕ) (rest : List Notes) → From homes number rest → All (IsThere homes) (places_from number rest)
places_from-there homes number [] at = All-nil (IsThere homes)
places_from-there homes number (h ∷ rest) at =
    All-append (IsThere homes) _ _ (places_in-there homes h number (From-here homes number h rest at) 0 h.entries (λ k. ap (slice_get h.entries) (omega arith))) (places_from-there homes (number + 1) rest (From-next homes number h rest at))

-- at each place of the homes an event stands
pub all_there : (homes : List Notes) → All (IsThere homes) (places_from 0 homes)
all_there homes = places_from-there homes 0 homes (λ k. ap (slice_get homes) (omega arith))

pub place_cmp-total : IsTotalOrder place_cmp
place_cmp-total = then_total (on_total (λ p. p.stamp.0) nat_cmp_total) (then_total (on_total (λ p. p.home) nat_cmp_total) (on_total (λ p. p.index) nat_cmp_total))

first_same : (a b : ℕ) (r s o p : Ordering) → MatchOrdering r (a < b) (a ≡ b) (b < a) → MatchOrdering s (b < a) (b ≡ a) (a < b) → is_lt (ordering_then r o) ≡ false → is_lt (ordering_then s p) ≡ false → (a ≡ b) × (is_lt o ≡ false) × (is_lt p ≡ false)
first_same a b Less s o p m n x y = absurd (false≢true (sym x))
first_same a b Equal Less o p m n x y = absurd (false≢true (sym y))
first_same a b Equal Equal o p m n x y = (m, x, y)
first_same a b Equal Greater o p m n x y = absurd (omega (arith, m, n))
first_same a b Greater Less o p m n x y = absurd (false≢true (sym y))
first_same a b Greater Equal o p m n x y = absurd (omega (arith, m, n))
first_same a b Greater Greater o p m n x y = absurd (omega (arith, m, n))

first_same_number : (a b : ℕ) (o p : Ordering) → is_lt (ordering_then (nat_cmp a b) o) ≡ false → is_lt (ordering_then (nat_cmp b a) p) ≡ false → (a ≡ b) × (is_lt o ≡ false) × (is_lt p ≡ false)
first_same_number a b o p x y = first_same a b (nat_cmp a b) (nat_cmp b a) o p (ranked a b _ refl) (ranked b a _ refl) x y

same_number : (a b : ℕ) → is_lt (nat_cmp a b) ≡ false → is_lt (nat_cmp b a) ≡ false → a ≡ b
same_number a b x y = grind arith

-- places of which neither is before the other are the same
pub same_place : (a b : Place) → is_lt (place_cmp a b) ≡ false → is_lt (place_cmp b a) ≡ false → a ≡ b
same_place a b x y =
    let stamps = first_same_number a.stamp.0 b.stamp.0 _ _ x y in
    let homes = first_same_number a.home b.home _ _ stamps.1 stamps.2 in
    let indexes = same_number a.index b.index homes.1 homes.2 in
    let at : ℕ → ℕ → ℕ → Place = λ stamp home index. record { stamp = record { 0 = stamp }; home = home; index = index } in
    ap (λ stamp. at stamp a.home a.index) stamps.0 ∙ ap (λ home. at b.stamp.0 home a.index) homes.0 ∙ ap (λ index. at b.stamp.0 b.home index) indexes

somes : {X : Type 0} (xs ys : List X) → map Some xs ≡ map Some ys → xs ≡ ys
somes [] [] same = refl
somes [] (y ∷ ys) same = absurd cc
somes (x ∷ xs) [] same = absurd cc
somes (x ∷ xs) (y ∷ ys) same =
    let first : x ≡ y = cc in
    let rest : map Some xs ≡ map Some ys = cc in
    ap (λ z. z ∷ xs) first ∙ ap (λ zs. y ∷ zs) (somes xs ys rest)

-- homes have one merge at most
pub one_merge : (homes : List Notes) (one other : List Event) → IsMerged homes one → IsMerged homes other → one ≡ other
one_merge homes one other merged merged' =
    let places = same_from_permutations (λ a b. is_lt (place_cmp a b)) (ranks_by place_cmp-total (λ p. p)) same_place (places_from 0 homes) merged.places merged'.places merged.all merged'.all merged.ordered merged'.ordered in
    somes one other (sym merged.theirs ∙ ap (map (event_at homes)) places ∙ merged'.theirs)
