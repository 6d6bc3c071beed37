-- How a call comes by a FREE cell and opens it. No public contract rests on this file.
use Rattle.std.specs.Prelude.{◌≡◌, ℕ, ◌+◌, ◌<◌, ◌≤◌, List, [], ◌∷◌, length, Option, Some, None}
use Rattle.xa_types.specs.declared.ids.RequestId.{RequestId}
use Rattle.xa_cell.specs.declared.cells.Cells.{Cells}
use Rattle.xa_cell.specs.declared.tokens.Seat.{Seat}
use Rattle.xa_cell.specs.declared.tokens.Ticket.{Ticket}
use Rattle.xa_cell.specs.declared.view.View.{View}
use Rattle.xa_cell.specs.Views.{opening, at}
use Rattle.xa_cell.specs.Changes.{looked}
use Rattle.xa_cell.specs.Rule.{word}
use Rattle.xa_cell.specs.Known.{known, named, IsTicketOf}
use Rattle.xa_cell.specs.Calls.{after_looks, NoneFree}

module _ {A : Type 0} where
  -- the looks of a call that looked for a FREE cell: up to the first one that it found, or at all
  abbrev pub Found : ℕ → ℕ → View A → View A → Option (ℕ × ℕ) → Type 0
  Found first count v w None = (us : List ℕ) × (length us ≡ count) × NoneFree first us v × (w ≡ after_looks first us v)
  Found first count v w (Some (k, n)) = (us : List ℕ) × (k ≡ first + length us) × (k < first + count) × NoneFree first us v × (w ≡ looked k 0 (after_looks first us v))
      × (length (at k v).asked ≡ 0) × (n ≡ word (at k v).count 0 0)

  -- the seat owns the cell and knows that it is FREE, with this word
  pub record IsFree (cell found : ℕ) (s : Seat A) : Type 0 where
    pub low : s.first ≤ cell
    pub high : cell < s.first + s.count
    pub shut : length (at cell (known s)).asked ≡ 0
    pub settled : (at cell (known s)).settled ≡ 1
    pub word_is : found ≡ word (at cell (known s)).count 0 0

  -- the ticket of the next opening of this cell, for the request
  pub record IsTicketFor (cells : Cells A) (cell : ℕ) (q : RequestId) (s : Seat A) (t : Ticket A) : Type 0 where
    pub table : IsTicketOf cells t
    pub of_cell : t.cell ≡ cell
    pub names : named t ≡ opening ((at cell (known s)).count + 1) q ∷ []
