-- What holds of each element of lists.
use Rattle.std.proofs.Common.{◌≡◌, ℕ, zero, suc, ◌<◌, ◌≤◌, ◌==◌, List, [], ◌∷◌, map, reverse, length, Some, inl, inr, refl, sym, ap, subst, arith, eq-eqb}
use Rattle.std.specs.Prelude.{slice_get, slice_index_or, option_map}
use Rattle.std.specs.List.{All}
use Rattle.std.proofs.lemmas.Bool.{cases_Bool}
use Rattle.std.proofs.lemmas.Option.{slice_get-map, slice_get_past, slice_get_within, get_or_from_slice_get}
use Rattle.std.proofs.lemmas.List.{reverse-append, reverse-reverse}
use Rattle.std.proofs.lemmas.List.Elements.{All-nil, All-cons, All-head, All-tail, All-push}
use Rattle.xa_client_worker.specs.xa_types.Setup.{numbered}
use Rattle.xa_client_worker.specs.xa_events.declared.event.Event.{Event}
use Rattle.xa_client_worker.specs.xa_stamp.declared.home.Stamped.{Stamped}
use Rattle.xa_client_worker.specs.xa_lock.Pages.{entries_by}
use Rattle.xa_client_worker.specs.xa_worker.Ending.{list_in}
use Rattle.xa_client_worker.specs.xa_worker.Seen.{past_in}
use Rattle.xa_client_worker.proofs.xa_worker.Lists.{filter-yes, filter-no}

module _ {X : Type 0} (P : X → Type 0) where
  pub all_reversed : (xs : List X) → All P xs → All P (reverse xs)
  all_reversed [] all = all
  all_reversed (x ∷ xs) all = subst (All P) (sym (reverse-append (x ∷ []) xs)) (All-push P (reverse xs) x (all_reversed xs (All-tail P x xs all)) (All-head P x xs all))

  pub all_mapped : {Y : Type 0} (f : Y → X) (ys : List Y) → All P (map f ys) → All (λ y. P (f y)) ys
  all_mapped f [] all = All-nil (λ y. P (f y))
  all_mapped f (y ∷ ys) all = All-cons (λ z. P (f z)) y ys (All-head P (f y) (map f ys) all) (all_mapped f ys (All-tail P (f y) (map f ys) all))

  pub all_both : (Q R : X → Type 0) (xs : List X) → ((x : X) → P x → Q x → R x) → All P xs → All Q xs → All R xs
  all_both Q R [] f ps qs = All-nil R
  all_both Q R (x ∷ xs) f ps qs = All-cons R x xs (f x (All-head P x xs ps) (All-head Q x xs qs)) (all_both Q R xs f (All-tail P x xs ps) (All-tail Q x xs qs))

  -- what holds of the one with a number
  pub all_numbered : (n : ℕ) (xs : List X) (x : X) → All P xs → numbered n xs ≡ Some x → P x
  all_numbered zero xs x all there = absurd (cc there)
  all_numbered (suc k) xs x all there = subst P (get_or_from_slice_get xs k x x there) (all k x (slice_get_within xs k x there))

  -- what holds of each maker's entries, for each of so many
  pub all_makers : (maker : X → ℕ) (workers : ℕ) (xs : List X) → ((worker : ℕ) → worker < workers → All P (entries_by maker worker xs)) → All (λ x. maker x < workers) xs → All P xs
  all_makers maker workers [] each low = All-nil P
  all_makers maker workers (x ∷ xs) each low =
      let here : All P (x ∷ entries_by maker (maker x) xs) = subst (All P) (filter-yes (λ e. maker e == maker x) x xs (eq-eqb (maker x) (maker x) refl)) (each (maker x) (All-head (λ e. maker e < workers) x xs low)) in
      All-cons P x xs (All-head P x (entries_by maker (maker x) xs) here) (all_makers maker workers xs (λ worker less. later worker (each worker less)) (All-tail (λ e. maker e < workers) x xs low))
    where
      later : (worker : ℕ) → All P (entries_by maker worker (x ∷ xs)) → All P (entries_by maker worker xs)
      later worker all = elim (cases_Bool (maker x == worker)) [
        | inl y ↦ All-tail P x (entries_by maker worker xs) (subst (All P) (filter-yes (λ e. maker e == worker) x xs y) all)
        | inr n ↦ subst (All P) (filter-no (λ e. maker e == worker) x xs n) all
      ]

-- of events, the newest first, as of the entries
pub past_all : (P : Event → Type 0) (xs : List Stamped) → All P (past_in xs) → All (λ (x : Stamped). P x.event) xs
past_all P xs all = all_mapped P (λ (x : Stamped). x.event) xs (subst (All P) (reverse-reverse (map (λ (x : Stamped). x.event) xs)) (all_reversed P (past_in xs) all))

-- ---- numbered ones

pub numbered_map : {X Y : Type 0} (f : X → Y) (n : ℕ) (xs : List X) → numbered n (map f xs) ≡ option_map f (numbered n xs)
numbered_map f zero xs = refl
numbered_map f (suc k) xs = slice_get-map f xs k

pub one_there : {X : Type 0} (xs : List X) (k : ℕ) → k < length xs → (x : X) × (slice_get xs k ≡ Some x)
one_there [] k low = absurd (omega (arith, low))
one_there (x ∷ xs) zero low = (x, refl)
one_there (x ∷ xs) (suc k) low = one_there xs k (omega (arith, low))

pub none_past : {X : Type 0} (xs : List X) (k : ℕ) (default : X) → length xs ≤ k → slice_index_or xs k default ≡ default
none_past [] k default high = refl
none_past (x ∷ xs) zero default high = absurd (omega (arith, high))
none_past (x ∷ xs) (suc k) default high = none_past xs k default (omega (arith, high))

pub nothing_past : {X : Type 0} (n : ℕ) (xs : List (List X)) → length xs < n → list_in (numbered n xs) ≡ []
nothing_past zero xs high = refl
nothing_past (suc k) xs high = ap list_in (slice_get_past xs k (omega (arith, high)))
