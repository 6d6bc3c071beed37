-- The rule of a gauge: there is one order of all calls, in which each is legal, and each pass knows its own calls in it (this project's own).
use Rattle.std.specs.Prelude.{◌≡◌, ◌≢◌, ℕ, ◌+◌, ◌-◌, ◌^◌, ◌<◌, ◌≤◌, Bool, true, false, nat_eq, List, [], ◌∷◌, ◌++◌, length, slice_index}
use mathlib.Core.Option.{some}
use lib.ListN.{get_elem?}
use Rattle.atomic_table.specs.Table.{State, Me, Step}
use Rattle.xa_gauge.specs.declared.moves.Limits.{Limits}
use Rattle.xa_gauge.specs.declared.moves.Move.{Move}
use Rattle.xa_gauge.specs.declared.moves.Move.TheVariants.{Up, Down, Full, Empty}
use Rattle.xa_gauge.specs.declared.moves.Knows.{Knows}

-- the limits of no gauge, for a pass that came into another
abbrev pub nothing : Limits
nothing = record { start = 0; full = 0; passes = 0 }

-- what a pass knows: its gauge, its parts, its calls, and the moves up and down
abbrev pub knows : Limits → ℕ → List Move → ℕ → ℕ → Knows
knows of parts moves ups downs = record { of = of; parts = parts; moves = moves; ups = ups; downs = downs }

-- the level after a call
abbrev pub after : ℕ → Move → ℕ
after n Up = n + 1
after n Down = n - 1
after n Full = n
after n Empty = n

-- a call may end so at this level
abbrev pub May : ℕ → ℕ → Move → Type 0
May full n Up = n < full
May full n Down = 0 < n
May full n Full = n ≡ full
May full n Empty = n ≡ 0

-- a call, with the number of the pass that made it
abbrev pub Entry : Type 0
Entry = ℕ × Move

-- the level after these calls
abbrev pub level : ℕ → List Entry → ℕ
level n [] = n
level n (e ∷ h) = level (after n e.1) h

-- each of these calls may end so, where it stands
abbrev pub Legal : ℕ → ℕ → List Entry → Type 0
Legal full n [] = Unit {0}
Legal full n (e ∷ h) = May full n e.1 × Legal full (after n e.1) h

-- the call before the others, if it is one's own
abbrev pub own_if : Bool → Move → List Move → List Move
own_if true m ms = m ∷ ms
own_if false m ms = ms

-- the calls of one pass
abbrev pub own : ℕ → List Entry → List Move
own j [] = []
own j (e ∷ h) = own_if (nat_eq j e.0) e.1 (own j h)

-- how far a call moves the level up
abbrev pub ups_of : Move → ℕ
ups_of Up = 1
ups_of _ = 0

-- how far it moves the level down
abbrev pub downs_of : Move → ℕ
downs_of Down = 1
downs_of _ = 0

-- the view after a call
abbrev pub noted : Knows → Move → Knows
noted v m = knows v.of v.parts (v.moves ++ m ∷ []) (v.ups + ups_of m) (v.downs + downs_of m)

-- what another pass leaves
abbrev pub fewer : Knows → Knows
fewer v = knows v.of (v.parts - 1) v.moves v.ups v.downs

-- what a pass knows that has made no call
abbrev pub single : Limits → Knows
single of = knows of 1 [] 0 0

-- what a pass knows that took another in
abbrev pub together : Knows → Knows → Knows
together v w = knows v.of (v.parts + w.parts) v.moves (v.ups + w.ups) (v.downs + w.downs)

-- the sum over all views
abbrev pub total : (Knows → ℕ) → List Knows → ℕ
total f [] = 0
total f (v ∷ vs) = f v + total f vs

-- a pass with no part has no counts, and any other knows its own calls
abbrev pub Fits : Limits → List Entry → ℕ → Knows → Type 0
Fits key hist j v = (0 < v.parts → (v.of ≡ key) × (own j hist ≡ v.moves)) × (v.parts ≡ 0 → (v.ups ≡ 0) × (v.downs ≡ 0))

-- the whole gauge
pub record Gauged (key : Limits) (s : State ℕ Knows) : Type 0 where
  pub hist : List Entry
  pub one : length s.words ≡ 1
  pub word : slice_index s.words 0 ≡ level key.start hist
  pub low : level key.start hist ≤ key.full
  pub small : key.full < 2 ^ 32
  pub legal : Legal key.full key.start hist
  pub each : (j : ℕ) (v : Knows) → get_elem? s.views j ≡ some v → Fits key hist j v
  pub others : (j : ℕ) → length s.views ≤ j → own j hist ≡ []
  pub alone : key.passes ≡ 1 → length s.views ≡ 1
  pub shares : total (λ v. v.parts) s.views ≡ key.passes
  pub balance : level key.start hist + total (λ v. v.downs) s.views ≡ key.start + total (λ v. v.ups) s.views

-- what a seat has
abbrev Sat : Type 0
Sat = Me ℕ Knows

-- there is a legal order of calls in which those of a pass are the calls that it knows, and no others; where the gauge has one pass they are all
pub record Ordered (v : Knows) : Type 0 where
  pub all : List Entry
  pub pass : ℕ
  pub legal : Legal v.of.full v.of.start all
  pub calls : own pass all ≡ v.moves
  pub alone : v.of.passes ≡ 1 → (j : ℕ) → j ≢ pass → own j all ≡ []

-- the number found was the limit, and that was noted; or nothing changed
abbrev pub looks_up : Step ℕ → Sat → ℕ → Sat → Type 0
looks_up st m r m' = (r ≡ m.0.of.full → (m' ≡ (noted m.0 Full, m.1)) × Ordered m'.0) × (r ≢ m.0.of.full → (m' ≡ m) × (r < m.0.of.full))

-- the number found was 0, and that was noted; or nothing changed
abbrev pub looks_down : Step ℕ → Sat → ℕ → Sat → Type 0
looks_down st m r m' = (r ≡ 0 → (m' ≡ (noted m.0 Empty, m.1)) × Ordered m'.0) × (r ≢ 0 → (m' ≡ m) × (r ≤ m.0.of.full))

-- the level was the one that was expected, and it moved; or nothing changed
abbrev pub goes_up : Step ℕ → Sat → ℕ → Sat → Type 0
goes_up st m r m' = (r ≡ st.first → (m' ≡ (noted m.0 Up, m.1)) × Ordered m'.0) × (r ≢ st.first → m' ≡ m)

-- the same, down
abbrev pub goes_down : Step ℕ → Sat → ℕ → Sat → Type 0
goes_down st m r m' = (r ≡ st.first → (m' ≡ (noted m.0 Down, m.1)) × Ordered m'.0) × (r ≢ st.first → m' ≡ m)

-- the level at the end, by a pass that has all parts
abbrev pub counts : Step ℕ → Sat → ℕ → Sat → Type 0
counts st m r m' = (m' ≡ m) × (r + m.0.downs ≡ m.0.of.start + m.0.ups) × (r ≤ m.0.of.full)
