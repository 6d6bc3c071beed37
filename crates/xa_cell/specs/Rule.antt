-- The rule of the cells: what holds between any two steps of the words, the slots and the views of all seats. No public contract rests on this file.
-- Each cell has a word and a slot, and each view has a part for it. A word is four times the number of its last opening, modulo 2 ^ 62, and two
-- bits: 2 where the place is open, and 1 where the ticket is unspent. So it is FREE at 0, CANCELLED at 1, FILLED at 2 and PENDING at 3.
use Rattle.std.specs.Prelude.{◌≡◌, ◌≢◌, ℕ, ◌+◌, ◌*◌, ◌%◌, ◌^◌, ◌<◌, ◌≤◌, List, [], ◌∷◌, map, length, slice_index, ◌⊎◌, Option, Some, None}
use Rattle.std.specs.List.{All}
use mathlib.Core.Option.{some}
use mathlib.Core.Option as maybe
use lib.ListN.{get_elem?}
use Rattle.atomic_table.specs.Table.{State}
use Rattle.xa_types.specs.declared.ids.RequestId.{RequestId}
use Rattle.xa_cell.specs.declared.view.Fill.{Fill}
use Rattle.xa_cell.specs.declared.view.Part.{Part}
use Rattle.xa_cell.specs.declared.view.View.{View}
use Rattle.xa_cell.specs.declared.view.Carried.{Carried}
use Rattle.xa_cell.specs.declared.view.Carried.TheVariants.{Answer}
use Rattle.xa_cell.specs.Views.{opening, fill, at}
use Rattle.xa_cell.specs.Counts.{times, among}
use Rattle.xa_cell.specs.Dealing.{cells_in}

-- the sum of a number of each
abbrev pub total : {X : Type 0} → (X → ℕ) → List X → ℕ
total f [] = 0
total f (x ∷ xs) = f x + total f xs

-- a word whose last opening is the n-th
abbrev pub word : ℕ → ℕ → ℕ → ℕ
word n open_ unspent = 4 * (n % 2 ^ 62) + 2 * open_ + unspent

module _ {A : Type 0} where
  abbrev pub IsIn : Fill A → List (Fill A) → Type 0
  IsIn e [] = ⊥
  IsIn e (x ∷ xs) = (x ≡ e) ⊎ IsIn e xs

  -- one of the seats filled this answer
  abbrev pub WasFilled : List (Part A) → Fill A → Type 0
  WasFilled [] e = ⊥
  WasFilled (p ∷ ps) e = IsIn e p.filled ⊎ WasFilled ps e

  abbrev pub owns : Part A → ℕ
  owns p = length p.owners

  abbrev pub unspent_in : Part A → ℕ
  unspent_in p = length p.tickets

  -- whether the seat has the slot
  abbrev pub held : Part A → ℕ
  held p = p.filling + p.taking

  -- the owner's side of a part: how often the cell was opened, and whether its place is open, for which request
  pub record Owner (n open_ unspent : ℕ) (q : RequestId) (p : Part A) : Type 0 where
    pub one : owns p ≡ 1
    pub count : p.count ≡ n
    pub asked : length p.asked ≡ open_
    pub request : All (λ r. r ≡ q) p.asked
    pub settled : p.settled + unspent ≤ 1
    pub taking : p.taking ≤ open_
    pub alone : p.taking + unspent ≤ 1

  -- that of a part whose seat isn't the owner's
  pub record Other (p : Part A) : Type 0 where
    pub none_ : owns p ≡ 0
    pub count : p.count ≡ 0
    pub asked : length p.asked ≡ 0
    pub settled : p.settled ≡ 0
    pub taking : p.taking ≡ 0

  pub record Fits (all : List (Part A)) (n open_ unspent : ℕ) (q : RequestId) (p : Part A) : Type 0 where
    pub side : Owner n open_ unspent q p ⊎ Other p
    -- a ticket is of the last opening
    pub tickets : All (λ t. t ≡ opening n q) p.tickets
    pub filling : p.filling ≤ unspent_in p
    -- who came too late has the slot, and the cell is cancelled
    pub late : p.late ≤ p.filling
    pub cancelled : p.late + open_ ≤ 1
    pub given_up : All (λ g. g + open_ ≤ n) p.given_up
    pub dropped : All (λ d. d + unspent ≤ n) p.dropped
    -- what was filled is of an opening whose ticket is spent, and what was taken was filled
    pub filled : All (λ e. e.opening.number + unspent ≤ n) p.filled
    pub taken : All (WasFilled all) p.taken

  -- what a slot has that is at home
  pub record Content (all : List (Part A)) (n open_ unspent : ℕ) (q : RequestId) (x : Option (Carried A)) : Type 0 where
    pub pending : unspent ≡ 1 → x ≡ None
    pub closed : open_ ≡ 0 → x ≡ None
    pub filled : open_ ≡ 1 → unspent ≡ 0 → (a : A) × (x ≡ Some (Answer a)) × WasFilled all (fill (opening n q) a)

  -- the slot is at home, or one seat has it
  abbrev pub Slotted : maybe.Option (maybe.Option (Option (Carried A))) → List (Part A) → ℕ → ℕ → ℕ → RequestId → Type 0
  Slotted home ps n open_ unspent q = ((total held ps ≡ 0) × ((x : Option (Carried A)) × (home ≡ some (some x)) × Content ps n open_ unspent q x)) ⊎ (total held ps ≡ 1)

  -- each answer that was filled was taken, but for the one that waits where the cell is FILLED
  pub record Waits (ps : List (Part A)) (n open_ unspent : ℕ) : Type 0 where
    pub waits : ℕ
    pub none_waits : open_ ≤ unspent → waits ≡ 0
    pub one_waits : unspent < open_ → waits + total (λ p. p.taking) ps ≡ 1
    pub here : total (λ p. times n p.taken) ps + waits ≡ total (λ p. times n p.filled) ps
    pub before : (m : ℕ) → m ≢ n → total (λ p. times m p.taken) ps ≡ total (λ p. times m p.filled) ps

  -- one cell, of which the views have these parts
  pub record Cell (w : ℕ) (home : maybe.Option (maybe.Option (Option (Carried A)))) (ps : List (Part A)) : Type 0 where
    pub n : ℕ
    pub open_ : ℕ
    pub unspent : ℕ
    pub q : RequestId
    pub opened : open_ ≤ 1
    pub word_is : w ≡ word n open_ unspent
    pub one_owner : total owns ps ≡ 1
    pub one_ticket : total unspent_in ps ≡ unspent
    pub few : unspent ≤ 1
    -- an opening is filled once at most, and never where it was given up
    pub filled_once : (m : ℕ) → total (λ p. times m p.filled) ps + total (λ p. among m p.given_up) ps ≤ 1
    -- a cell that is cancelled was given up at this opening, and what was dropped was given up
    pub cancelled : open_ ≡ 0 → unspent ≡ 1 → total (λ p. among n p.given_up) ps ≡ 1
    pub dropped : (m : ℕ) → total (λ p. among m p.dropped) ps ≤ total (λ p. among m p.given_up) ps
    pub waiting : Waits ps n open_ unspent
    pub each : (j : ℕ) (p : Part A) → get_elem? ps j ≡ some p → Fits ps n open_ unspent q p
    pub slot : Slotted home ps n open_ unspent q

  -- only callers' seats own a cell, have taken, filled or given up, or have a slot
  abbrev pub Idle : Part A → Type 0
  Idle p = (p.taken ≡ []) × (p.filled ≡ []) × (held p ≡ 0) × (owns p ≡ 0) × (p.given_up ≡ [])

  abbrev pub OfCallers : View A → Type 0
  OfCallers v = length v.callers ≡ 0 → (k : ℕ) → Idle (at k v)

  -- the whole table, for callers with these limits
  pub record Ruled (limits : List ℕ) (s : State (Option (Carried A)) (View A)) : Type 0 where
    pub wide : length s.words ≡ cells_in limits
    pub deep : length s.homes ≡ cells_in limits
    pub callers : total (λ v. length v.callers) s.views ≡ length limits
    pub each : (j : ℕ) (v : View A) → get_elem? s.views j ≡ some v → OfCallers v
    pub cell : (k : ℕ) → k < cells_in limits → Cell (slice_index s.words k) (get_elem? s.homes k) (map (at k) s.views)
