-- What the seats of all callers show together at the end (this project's own).
use Rattle.std.specs.Prelude.{◌≡◌, ℕ, ◌+◌, ◌≤◌, List, map}
use Rattle.std.specs.List.{All, Contains, flat_map}
use Rattle.xa_cell.specs.declared.tokens.Seat.{Seat}
use Rattle.xa_cell.specs.declared.view.Part.{Part}
use Rattle.xa_cell.specs.Views.{at}
use Rattle.xa_cell.specs.Counts.{among, times}
use Rattle.xa_cell.specs.Known.{known}

module _ {A : Type 0} where
  -- what the seats know of the cell k
  abbrev pub parts_of : ℕ → List (Seat A) → List (Part A)
  parts_of k ss = map (λ s. at k (known s)) ss

  -- Of the cell k: each answer that was taken is one that a seat filled there, at this opening and for this request. Of an opening one answer at
  -- most was filled, and none where its owner had given it up; what was filled was taken, once. What was dropped had been given up.
  pub record Answered (k : ℕ) (ss : List (Seat A)) : Type 0 where
    pub taken : All (λ e. Contains (flat_map (λ p. p.filled) (parts_of k ss)) e) (flat_map (λ p. p.taken) (parts_of k ss))
    pub once : (n : ℕ) → times n (flat_map (λ p. p.filled) (parts_of k ss)) + among n (flat_map (λ p. p.given_up) (parts_of k ss)) ≤ 1
    pub all : (n : ℕ) → times n (flat_map (λ p. p.taken) (parts_of k ss)) ≡ times n (flat_map (λ p. p.filled) (parts_of k ss))
    pub dropped : (n : ℕ) → among n (flat_map (λ p. p.dropped) (parts_of k ss)) ≤ among n (flat_map (λ p. p.given_up) (parts_of k ss))
