-- What each kind of step makes of the view of the seat that steps, and what it tells. No public contract rests on this file.
use Rattle.std.specs.Prelude.{◌≡◌, ◌≢◌, ℕ, ◌+◌, ◌≤◌, List, [], ◌∷◌, ◌++◌, length, Option, Some, None}
use mathlib.Core.Option.{some}
use Rattle.atomic_table.specs.Table.{Me, Step, rest}
use Rattle.xa_types.specs.declared.ids.RequestId.{RequestId}
use Rattle.xa_cell.specs.declared.view.Opening.{Opening}
use Rattle.xa_cell.specs.declared.view.View.{View}
use Rattle.xa_cell.specs.declared.view.Carried.{Carried}
use Rattle.xa_cell.specs.declared.view.Carried.TheVariants.{Asked, Answer}
use Rattle.xa_cell.specs.declared.view.Word.TheVariants.{Pending, Cancelled}
use Rattle.xa_cell.specs.declared.view.Act.TheVariants.{Opened, Withdrawn, Looked}
use Rattle.xa_cell.specs.Views.{opening, fill, at, put, did}
use Rattle.xa_cell.specs.Changes.{looked, cancelled}
use Rattle.xa_cell.specs.Rule.{word}

-- a seat's view, and what it has taken
abbrev pub Mine : Type 0 → Type 0
Mine A = Me (Option (Carried A)) (View A)

module _ {A : Type 0} where
  -- the cell was opened, and the seat has the ticket
  abbrev pub begun : ℕ → RequestId → View A → View A
  begun k q v = let p = at k v in did k (p.count + 1) (q ∷ []) Opened (put k (record p { count = p.count + 1; asked = q ∷ []; settled = 0; tickets = opening (p.count + 1) q ∷ [] }) v)

  -- the seat has the slot, to fill it
  abbrev pub placed : ℕ → View A → View A
  placed k v = put k (record (at k v) { filling = 1 }) v

  -- the slot is home with the answer, and the ticket is spent
  abbrev pub delivered : ℕ → Opening → A → View A → View A
  delivered k o a v = let p = at k v in did k o.number (o.request ∷ []) (Looked Pending) (put k (record p { tickets = []; filling = 0; filled = p.filled ++ fill o a ∷ [] }) v)

  -- the seat came too late
  abbrev pub too_late : ℕ → Opening → View A → View A
  too_late k o v = did k o.number (o.request ∷ []) (Looked Cancelled) (put k (record (at k v) { late = 1 }) v)

  -- the slot is home and empty, and the ticket is spent
  abbrev pub cleared : ℕ → Opening → View A → View A
  cleared k o v = let p = at k v in put k (record p { tickets = []; filling = 0; late = 0; dropped = p.dropped ++ o.number ∷ [] }) v

  -- the seat has the slot with the answer
  abbrev pub taking : ℕ → RequestId → A → View A → View A
  taking k q a v = let p = at k v in put k (record p { taking = 1; taken = p.taken ++ fill (opening p.count q) a ∷ [] }) v

  -- the slot is home and empty, and the place is shut
  abbrev pub freed : ℕ → View A → View A
  freed k v = put k (record (at k v) { asked = []; settled = 1; taking = 0 }) v

  -- the place is shut, and its ticket is spent
  abbrev pub withdrew : ℕ → View A → View A
  withdrew k v = let p = at k v in did k p.count p.asked Withdrawn (put k (record p { asked = []; settled = 1; tickets = [] }) v)

  abbrev pub looks : Step (Option (Carried A)) → Mine A → ℕ → Mine A → Type 0
  looks st m r m' = let p = at st.word m.0 in (unspent : ℕ) × (p.settled + unspent ≤ 1) × (length p.asked ≤ 1) × (r ≡ word p.count (length p.asked) unspent) × (m' ≡ (looked st.word unspent m.0, m.1))

  abbrev pub opens : Step (Option (Carried A)) → Mine A → ℕ → Mine A → Type 0
  opens st m r m' = (r ≡ st.first) × ((q : RequestId) → st.said ≡ some (Some (Asked q)) → m' ≡ (begun st.word q m.0, m.1))

  abbrev pub places : Step (Option (Carried A)) → Mine A → ℕ → Mine A → Type 0
  places st m r m' = (m' ≡ (placed st.word m.0, (st.word, None) ∷ m.1)) × ((o : Opening) → (at st.word m.0).tickets ≡ o ∷ [] → (open_ : ℕ) × (open_ ≤ 1) × (r ≡ word o.number open_ 1))

  -- where the word was PENDING the fill was first, and else the cancel
  abbrev pub fills : Step (Option (Carried A)) → Mine A → ℕ → Mine A → Type 0
  fills st m r m' = (o : Opening) (a : A) → (at st.word m.0).tickets ≡ o ∷ [] → m.1 ≡ (st.word, Some (Answer a)) ∷ []
      → (r ≡ st.first → m' ≡ (delivered st.word o a m.0, [])) × (r ≢ st.first → m' ≡ (too_late st.word o m.0, m.1))

  abbrev pub clears : Step (Option (Carried A)) → Mine A → ℕ → Mine A → Type 0
  clears st m r m' = (o : Opening) → (at st.word m.0).tickets ≡ o ∷ [] → m' ≡ (cleared st.word o m.0, rest m.1)

  abbrev pub takes : Step (Option (Carried A)) → Mine A → ℕ → Mine A → Type 0
  takes st m r m' = (q : RequestId) × (a : A) × ((at st.word m.0).asked ≡ q ∷ []) × (m' ≡ (taking st.word q a m.0, (st.word, Some (Answer a)) ∷ m.1))

  abbrev pub frees : Step (Option (Carried A)) → Mine A → ℕ → Mine A → Type 0
  frees st m r m' = m' ≡ (freed st.word m.0, rest m.1)

  abbrev pub withdraws : Step (Option (Carried A)) → Mine A → ℕ → Mine A → Type 0
  withdraws st m r m' = m' ≡ (withdrew st.word m.0, m.1)

  -- where the word was PENDING the cancel was first, and else the fill
  abbrev pub cancels : Step (Option (Carried A)) → Mine A → ℕ → Mine A → Type 0
  cancels st m r m' = (r ≡ st.first → m' ≡ (cancelled st.word m.0, m.1)) × (r ≢ st.first → m' ≡ (looked st.word 0 m.0, m.1))
