-- What a caller's seat and a ticket keep between two calls. No public contract rests on this file.
use Rattle.std.specs.Prelude.{◌≡◌, ◌≢◌, ℕ, ◌+◌, ◌<◌, ◌≤◌, List, [], ◌∷◌, map, length}
use Rattle.xa_cell.specs.declared.view.Part.{Part}
use Rattle.xa_cell.specs.declared.view.View.{View}
use Rattle.xa_cell.specs.Views.{blank, at}

module _ {A : Type 0} where
  -- a view of nothing, which a seat is left with that came into another
  abbrev pub spent : View A
  spent = record { callers = []; parts = []; deeds = [] }

  -- the one view of a badge
  abbrev pub view_of : List (View A) → View A
  view_of [] = spent
  view_of (v ∷ vs) = v

  -- the ticket's side of a part, and the rest
  abbrev pub ticket_part : Part A → Part A
  ticket_part p = record blank { tickets = p.tickets; filling = p.filling; late = p.late }

  abbrev pub rest_part : Part A → Part A
  rest_part p = record p { tickets = []; filling = 0; late = 0 }

  abbrev pub without_tickets : View A → View A
  without_tickets v = record { callers = v.callers; parts = map rest_part v.parts; deeds = v.deeds }

  abbrev pub only_tickets : View A → View A
  only_tickets v = record { callers = []; parts = map ticket_part v.parts; deeds = [] }

  -- the seat has neither a ticket of the cell nor its slot
  pub record IsCalm (p : Part A) : Type 0 where
    pub tickets : length p.tickets ≡ 0
    pub filling : p.filling ≡ 0
    pub taking : p.taking ≡ 0
    pub late : p.late ≡ 0

  -- the view of a caller that owns so many cells, from the first one on, of so many in all
  pub record IsCaller (first count cells : ℕ) (v : View A) : Type 0 where
    pub one : length v.callers ≡ 1
    pub wide : length v.parts ≡ cells
    pub room : first + count ≤ cells
    pub own : (k : ℕ) → first ≤ k → k < first + count → length (at k v).owners ≡ 1
    pub mine : (k : ℕ) → 0 < length (at k v).asked → (first ≤ k) × (k < first + count)
    pub few : (k : ℕ) → length (at k v).asked ≤ 1
    pub calm : (k : ℕ) → IsCalm (at k v)

  -- a part that has nothing but tickets
  pub record IsBare (p : Part A) : Type 0 where
    pub owners : length p.owners ≡ 0
    pub count : p.count ≡ 0
    pub asked : length p.asked ≡ 0
    pub settled : p.settled ≡ 0
    pub filling : p.filling ≡ 0
    pub taking : p.taking ≡ 0
    pub late : p.late ≡ 0
    pub given_up : length p.given_up ≡ 0
    pub dropped : length p.dropped ≡ 0
    pub taken : length p.taken ≡ 0
    pub filled : length p.filled ≡ 0

  -- the view of a ticket of this cell, of so many in all
  pub record IsTicket (cell cells : ℕ) (v : View A) : Type 0 where
    pub nobody : length v.callers ≡ 0
    pub idle : length v.deeds ≡ 0
    pub wide : length v.parts ≡ cells
    pub inside : cell < cells
    pub one : length (at cell v).tickets ≡ 1
    pub others : (k : ℕ) → k ≢ cell → length (at k v).tickets ≡ 0
    pub bare : (k : ℕ) → IsBare (at k v)
