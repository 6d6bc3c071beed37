-- What each call makes of a seat's view of one cell (this project's own).
use Rattle.std.specs.Prelude.{ℕ, zero, suc, ◌+◌, ◌-◌, List, [], ◌∷◌, ◌++◌, length}
use Rattle.xa_types.specs.declared.ids.RequestId.{RequestId}
use Rattle.xa_cell.specs.declared.view.Opening.{Opening}
use Rattle.xa_cell.specs.declared.view.Word.{Word}
use Rattle.xa_cell.specs.declared.view.Word.TheVariants.{Free, Pending, Filled, Cancelled}
use Rattle.xa_cell.specs.declared.view.Act.TheVariants.{Opened, Withdrawn, Looked}
use Rattle.xa_cell.specs.declared.view.View.{View}
use Rattle.xa_cell.specs.Views.{opening, fill, at, put, did}

-- what a word says: by whether the place is open, and whether its ticket is unspent
abbrev pub word_of : ℕ → ℕ → Word
word_of zero zero = Free
word_of zero (suc n) = Cancelled
word_of (suc m) zero = Filled
word_of (suc m) (suc n) = Pending

module _ {A : Type 0} where
  -- the owner looked at the cell, and found its ticket unspent (1) or not (0)
  abbrev pub looked : ℕ → ℕ → View A → View A
  looked k unspent v = let p = at k v in did k p.count p.asked (Looked (word_of (length p.asked) unspent)) (put k (record p { settled = 1 - unspent }) v)

  -- the owner opened the cell for a request
  abbrev pub opened : ℕ → RequestId → View A → View A
  opened k q v = let p = at k v in did k (p.count + 1) (q ∷ []) Opened (put k (record p { count = p.count + 1; asked = q ∷ []; settled = 0 }) v)

  -- the owner took this answer to its request
  abbrev pub took : ℕ → RequestId → A → View A → View A
  took k q a v = let p = at k v in put k (record p { asked = []; settled = 1; taken = p.taken ++ fill (opening p.count q) a ∷ [] }) v

  -- the owner found the cell PENDING and gave its place up
  abbrev pub cancelled : ℕ → View A → View A
  cancelled k v = let p = at k v in did k p.count p.asked (Looked Pending) (put k (record p { asked = []; settled = 0; given_up = p.given_up ++ p.count ∷ [] }) v)

  -- the owner withdrew its place, of which it has the ticket
  abbrev pub withdrawn : ℕ → View A → View A
  withdrawn k v = let p = at k v in did k p.count p.asked Withdrawn (put k (record p { asked = []; settled = 1 }) v)

  -- who had the ticket of this opening found the cell PENDING and filled it with the answer
  abbrev pub filled : ℕ → Opening → A → View A → View A
  filled k o a v = let p = at k v in did k o.number (o.request ∷ []) (Looked Pending) (put k (record p { filled = p.filled ++ fill o a ∷ [] }) v)

  -- who had it found the cell CANCELLED and dropped the answer
  abbrev pub dropped : ℕ → Opening → View A → View A
  dropped k o v = let p = at k v in did k o.number (o.request ∷ []) (Looked Cancelled) (put k (record p { dropped = p.dropped ++ o.number ∷ [] }) v)
