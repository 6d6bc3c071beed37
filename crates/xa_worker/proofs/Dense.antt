-- Dense stamps: each is one more than 0 or than that of another event.
use Rattle.std.proofs.Common.{◌≡◌, ℕ, ◌+◌, ◌<◌, ◌≤◌, List, [], ◌∷◌, map, Contains, inl, inr, refl, sym, ◌∙◌, ap, subst, arith}
use Rattle.std.specs.List.{All}
use Rattle.std.proofs.lemmas.Bool.{cases_Bool, cases_eq}
use Rattle.std.proofs.lemmas.List.Elements.{All-nil, All-cons, All-append, All-map, All-weaker, All-contains, Contains-append_left, Contains-append_right}
use Rattle.xa_types.specs.declared.setup.Setup.{Setup}
use Rattle.xa_events.specs.Words.{count}
use Rattle.xa_events.specs.Homes.{Home, same_home}
use Rattle.xa_events.proofs.WordsLemmas.{count_no}
use Rattle.xa_stamp.specs.declared.home.Stamped.{Stamped}
use Rattle.xa_stamp.specs.Home.{Notes}
use Rattle.xa_stamp.specs.Merge.{stamps_of, IsDense}
use Rattle.xa_lock.specs.declared.makers.Made.{Made}
use Rattle.xa_lock.specs.Makers.{noted_in}
use Rattle.xa_worker.specs.Crew.{IsCrew, AreHomes, IsNextStamp, no_stamp}
use Rattle.xa_worker.proofs.Lists.{All-makers, same_home-is}
use Rattle.std.proofs.lemmas.List.Elements.{All-filter}
use Rattle.xa_worker.specs.Crew.{stands_at}

abbrev stamp_of : Stamped → ℕ
stamp_of x = x.stamp.0

contains_stamp : (xs : List Stamped) (x : Stamped) → Contains xs x → Contains (map stamp_of xs) x.stamp.0
contains_stamp xs x at = All-contains (λ (y : Stamped). Contains (map stamp_of xs) y.stamp.0) xs x (each xs) at
  where
    each : (ys : List Stamped) → All (λ (y : Stamped). Contains (map stamp_of ys) y.stamp.0) ys
    each [] = All-nil (λ (y : Stamped). Contains (map stamp_of []) y.stamp.0)
    each (y ∷ ys) =
        All-cons (λ (z : Stamped). Contains (map stamp_of (y ∷ ys)) z.stamp.0) y ys (0, omega arith, refl)
        (λ k d within. Contains-append_right (y.stamp.0 ∷ []) (map stamp_of ys) _ (each ys k d within))

module _ (held : Home → List Stamped) where
  abbrev Are : List Notes → List Home → Type 0
  Are hs ns = map (λ (h : Notes). h.entries) hs ≡ map held ns

  -- a stamp of a home that is there is among all
  there : (hs : List Notes) (ns : List Home) → Are hs ns → (home : Home) → 1 ≤ count (same_home home) ns → (x : Stamped) → Contains (held home) x → Contains (stamps_of hs) x.stamp.0
  there hs [] are home some x at = absurd (omega (arith, some))
  there [] (n ∷ ns) are home some x at = absurd (cc are)
  there (h ∷ hs) (n ∷ ns) are home some x at =
      let same : h.entries ≡ held n = cc are in
      let rest : Are hs ns = cc are in
      elim (cases_Bool (same_home home n)) [
        | inl here ↦
            let own : Contains h.entries x = subst (λ (xs : List Stamped). Contains xs x) (ap held (same_home-is home n here) ∙ sym same) at in
            Contains-append_left (map stamp_of h.entries) (stamps_of hs) x.stamp.0 (contains_stamp h.entries x own)
        | inr apart ↦ Contains-append_right (map stamp_of h.entries) (stamps_of hs) x.stamp.0 (there hs ns rest home (subst (λ n. 1 ≤ n) (count_no (same_home home) n ns apart) some) x at)
      ]

  -- what holds of the stamps of each home holds of all
  all_stamps : (P : ℕ → Type 0) (hs : List Notes) (ns : List Home) → Are hs ns → ((home : Home) → All (λ (x : Stamped). P x.stamp.0) (held home)) → All P (stamps_of hs)
  all_stamps P [] ns are each = All-nil P
  all_stamps P (h ∷ hs) [] are each = absurd (cc are)
  all_stamps P (h ∷ hs) (n ∷ ns) are each =
      let same : h.entries ≡ held n = cc are in
      let rest : Are hs ns = cc are in
      All-append P (map stamp_of h.entries) (stamps_of hs) (All-map P stamp_of h.entries (subst (All (λ (x : Stamped). P x.stamp.0)) (sym same) (each n))) (all_stamps P hs ns rest each)

module _ (setup : Setup) (clients workers : ℕ) (kept : Home → List Made) (noted : ℕ → List Stamped) (crew : IsCrew setup clients workers kept noted) (names : List Home) (homes : List Notes) (are : AreHomes names kept homes) where
  abbrev all_kept : Home → List Stamped
  all_kept home = noted_in (kept home)

  -- a home that holds an entry is among all
  is_there : (home : Home) (x : Stamped) → Contains (all_kept home) x → 1 ≤ count (same_home home) names
  is_there home x at =
      elim (cases_eq (count (same_home home) names) 0) [
        | inl none ↦ let empty : Contains [] x = subst (λ (es : List Made). Contains (noted_in es) x) (are.rest home none) at in absurd (omega (arith, empty.1))
        | inr some ↦ omega (arith, some)
      ]

  abbrev IsDenseAt : ℕ → Type 0
  IsDenseAt stamp = (before : ℕ) × Contains (0 ∷ stamps_of homes) before × (stamp ≡ before + 1)

  dense_at : (x : Stamped) → IsNextStamp all_kept x.stamp → IsDenseAt x.stamp.0
  dense_at x n =
      elim n.known [
        | inl none ↦ (n.before, (0, omega arith, sym none), n.next)
        | inr y ↦ (n.before, subst (Contains (0 ∷ stamps_of homes)) y.3 (Contains-append_right (0 ∷ []) (stamps_of homes) y.1.stamp.0 (there all_kept homes names are.are y.0 (is_there y.0 y.1 y.2) y.1 y.2)), n.next)
      ]

  pub crew_is_dense : ((worker : ℕ) → worker < workers → All (λ (x : Stamped). IsNextStamp all_kept x.stamp) (noted worker)) → IsDense no_stamp homes
  crew_is_dense next =
      all_stamps all_kept IsDenseAt homes names are.are (λ home.
      let D : Stamped → Type 0 = λ x. IsDenseAt x.stamp.0 in
      All-map D (λ (entry : Made). entry.noted) (kept home)
      (All-makers workers (λ worker. D) (kept home) (λ worker low. subst (All D) (sym (crew.theirs worker low home)) (All-filter (stands_at setup clients home) D (noted worker) (All-weaker (λ (x : Stamped). IsNextStamp all_kept x.stamp) D dense_at (noted worker) (next worker low)))) (crew.homes home).made))
