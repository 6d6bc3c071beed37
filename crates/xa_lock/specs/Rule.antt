-- The rule of a lock's table: word 0 is 0 while slot 0 has the value, and another number while the value is out. No public contract rests on
-- this file.
use Rattle.std.specs.Prelude.{◌≡◌, ◌≢◌, ℕ, ◌+◌, ◌==◌, ◌<◌, ◌≤◌, Bool, true, false, List, [], ◌∷◌, ◌⊎◌, length, slice_index, Option, Some}
use Rattle.std.specs.List.{All}
use mathlib.Core.Option.{some}
use mathlib.Core.Option as maybe
use lib.ListN.{get_elem?}
use Rattle.atomic_table.specs.Table.{State, Me, Step}
use Rattle.xa_lock.specs.declared.pass.Page.{Page}
use Rattle.xa_lock.specs.declared.pass.SeatView.{SeatView}
use Rattle.xa_lock.specs.Pages.{Knows, mine, page_seeing, page_leaving}
use Rattle.xa_lock.specs.Views.{idle, holding}

abbrev pub once : Bool → ℕ
once false = 0
once true = 1

module _ {E : Type 0} where
  -- how many of the pages are of maker k
  abbrev pub times : ℕ → List (Page E) → ℕ
  times k [] = 0
  times k (p ∷ ps) = once (p.maker == k) + times k ps

  abbrev pub total : (SeatView E → ℕ) → List (SeatView E) → ℕ
  total f [] = 0
  total f (v ∷ vs) = f v + total f vs

  -- with how many seats the value is out
  abbrev pub holders : List (SeatView E) → ℕ
  holders views = total (λ v. once v.holds) views

module _ {T E : Type 0} (entries : T → List E) (maker : E → ℕ) where
  -- at 0 the value is in the slot and has these entries; else it is out with one seat, which found them
  abbrev pub IsPlaced : ℕ → List (maybe.Option (Option T)) → List (SeatView E) → List E → Type 0
  IsPlaced word homes views log = ((word ≡ 0) × (holders views ≡ 0) × (x : T) × (get_elem? homes 0 ≡ some (some (Some x))) × (entries x ≡ log))
      ⊎ ((0 < word) × (holders views ≡ 1) × (j : ℕ) × (v : SeatView E) × (get_elem? views j ≡ some v) × (v.holds ≡ true) × ((mine v).seen ≡ log))

  pub record Locked (all : ℕ) (s : State (Option T) (SeatView E)) : Type 0 where
    pub log : List E
    pub wide : length s.words ≡ 1
    pub deep : length s.homes ≡ 1
    -- there are so many pages in all, and each maker has one
    pub shares : total (λ v. length v.pages) s.views ≡ all
    pub single : (k : ℕ) → total (λ v. times k v.pages) s.views ≤ 1
    pub each : (j : ℕ) (v : SeatView E) → get_elem? s.views j ≡ some v → (v.holds ≡ true → length v.pages ≡ 1) × All (λ p. (p.maker < all) × Knows maker p log) v.pages
    -- each entry is of a maker that has a page
    pub made : All (λ e. maker e < all) log
    pub slot : IsPlaced (slice_index s.words 0) s.homes s.views log

  -- the value is out with the seat, which knows its entries
  abbrev pub TakesOut : Me (Option T) (SeatView E) → Me (Option T) (SeatView E) → Type 0
  TakesOut m m' = (x : T) × (m' ≡ (holding (page_seeing (mine m.0) (entries x)), (0, Some x) ∷ [])) × Knows maker (mine m.0) (entries x)

  -- where the word was 0 the value is out with the seat, and else nothing changes for it
  abbrev pub Takes : Step (Option T) → Me (Option T) (SeatView E) → ℕ → Me (Option T) (SeatView E) → Type 0
  Takes st m r m' = (r ≡ 0 → TakesOut m m') × (r ≢ 0 → m' ≡ m)

  -- the value is in the slot again, with the entries that the seat left
  abbrev pub Puts : Step (Option T) → Me (Option T) (SeatView E) → ℕ → Me (Option T) (SeatView E) → Type 0
  Puts st m r m' = (x : T) → m.1 ≡ (0, Some x) ∷ [] → m' ≡ (idle (page_leaving (mine m.0) (entries x) ∷ []), [])
