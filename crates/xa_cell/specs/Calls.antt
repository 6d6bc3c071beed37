-- What each call answers, and what its seat knows then (XATMI, tpacall, tpgetrply and tpcancel; cells are this project's own).
use Rattle.std.specs.Prelude.{◌≡◌, ℕ, suc, ◌+◌, ◌<◌, ◌≤◌, List, [], ◌∷◌, length}
use Rattle.xa_types.specs.declared.ids.RequestId.{RequestId}
use Rattle.xa_cell.specs.declared.cells.Cells.{Cells}
use Rattle.xa_cell.specs.declared.filler.Filled.{Filled}
use Rattle.xa_cell.specs.declared.filler.Filled.TheVariants.{Delivered, Dropped}
use Rattle.xa_cell.specs.declared.owner.Cancelled.{Cancelled}
use Rattle.xa_cell.specs.declared.owner.Cancelled.TheVariants.{Under, Came}
use Rattle.xa_cell.specs.declared.owner.Look.{Look}
use Rattle.xa_cell.specs.declared.owner.Look.TheVariants.{Pending, Come}
use Rattle.xa_cell.specs.declared.tokens.Place.{Place}
use Rattle.xa_cell.specs.declared.tokens.Seat.{Seat}
use Rattle.xa_cell.specs.declared.tokens.Ticket.{Ticket}
use Rattle.xa_cell.specs.declared.view.Opening.{Opening}
use Rattle.xa_cell.specs.declared.view.View.{View}
use Rattle.xa_cell.specs.Views.{opening, at}
use Rattle.xa_cell.specs.Changes.{looked, opened, took, cancelled, filled, dropped}
use Rattle.xa_cell.specs.Known.{known, named, IsTicketOf}

module _ {A : Type 0} where
  -- the looks at the cells from this one on, by whether they found the tickets unspent
  abbrev pub after_looks : ℕ → List ℕ → View A → View A
  after_looks k [] v = v
  after_looks k (u ∷ us) v = after_looks (suc k) us (looked k u v)

  -- none of these looks found its cell FREE, nor a ticket unspent that the seat knew to be spent
  abbrev pub NoneFree : ℕ → List ℕ → View A → Type 0
  NoneFree k [] v = Unit {0}
  NoneFree k (u ∷ us) v = (0 < length (at k v).asked + u) × ((at k v).settled + u ≤ 1) × NoneFree (suc k) us v

  -- a place was opened for the request at the first cell of the seat that a look found FREE, and the ticket names this opening
  pub record Began (cells : Cells A) (q : RequestId) (s s' : Seat A) (place : Place) (t : Ticket A) : Type 0 where
    pub unspent : List ℕ
    pub cell : place.cell ≡ s.first + length unspent
    pub own : place.cell < s.first + s.count
    pub none_free : NoneFree s.first unspent (known s)
    pub view : known s' ≡ opened place.cell q (looked place.cell 0 (after_looks s.first unspent (known s)))
    pub ticket_cell : t.cell ≡ place.cell
    pub names : named t ≡ opening ((at place.cell (known s)).count + 1) q ∷ []
    pub table : IsTicketOf cells t

  -- each cell of the seat was looked at, and none was FREE
  pub record AllTaken (s s' : Seat A) : Type 0 where
    pub unspent : List ℕ
    pub count : length unspent ≡ s.count
    pub none_free : NoneFree s.first unspent (known s)
    pub view : known s' ≡ after_looks s.first unspent (known s)

  -- the look answers what the word said at its step; that the answer has come the seat knows then
  abbrev pub LookedAs : ℕ → View A → View A → Look → Type 0
  LookedAs k v w Pending = w ≡ looked k 1 v
  LookedAs k v w Come = (w ≡ looked k 0 v) × (0 < (at k w).settled)

  -- this answer to the request of the place was taken
  abbrev pub TookAs : ℕ → A → View A → View A → Type 0
  TookAs k a v w = (q : RequestId) × ((at k v).asked ≡ q ∷ []) × (w ≡ took k q a v)

  -- what the deciding step of a cancel found: PENDING, or FILLED
  abbrev pub Decides : ℕ → View A → View A → Cancelled A → Type 0
  Decides k v w Under = w ≡ cancelled k v
  Decides k v w (Came a) = TookAs k a (looked k 0 v) w

  -- a cancel looks first, and then decides
  abbrev pub CancelledAs : ℕ → View A → View A → Cancelled A → Type 0
  CancelledAs k v w answer = (unspent : ℕ) × (unspent ≤ 1) × Decides k (looked k unspent v) w answer

  -- what the deciding step of a fill found: PENDING, or CANCELLED, and then the same answer comes back
  abbrev pub Settles : ℕ → Opening → A → View A → View A → Filled A → Type 0
  Settles k o a v w Delivered = w ≡ filled k o a v
  Settles k o a v w (Dropped b) = (b ≡ a) × (w ≡ dropped k o v)

  -- the ticket was spent on the opening that it names
  abbrev pub FilledAs : Ticket A → A → View A → View A → Filled A → Type 0
  FilledAs t a v w answer = (o : Opening) × (named t ≡ o ∷ []) × Settles t.cell o a v w answer
