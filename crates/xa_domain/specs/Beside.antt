-- What a closure does with workers beside each other (this project's own).
use Rattle.std.specs.Prelude.{◌≡◌, ◌+◌, ◌<◌, ℕ, List, length, slice_index_or}
use denote.Ref.{Bor, MutBor}
use denote.Param.Members.{Shared}

module _ {F S W : Type 0} (g : Shared F (Bor S × (ℕ × (MutBor W × Unit {0}))) (Unit {0} × (MutBor W × Unit {0}))) (work : F) (s : S) where
  -- it may be called with what all share, a place and a worker
  abbrev pub MayWorkAt : ℕ → W → Type 0
  MayWorkAt place w = (shared : Bor S) (lent : MutBor W) → shared.now ≡ s → lent.now ≡ w → g.pre work (shared, (place, (lent, tt)))

  -- a call of it with what all share, that place and old may leave new
  pub record WorkedAt (place : ℕ) (old new : W) : Type 0 where
    pub shared : Bor S
    pub lent : MutBor W
    pub shows : (shared.now ≡ s) × (lent.now ≡ old)
    pub left : MutBor W
    pub called : g.post work (shared, (place, (lent, tt))) (tt, (left, tt))
    pub after : left.now ≡ new

  -- it may be called with each of these workers, of which the first has that place
  abbrev pub EachMayWorkFrom : ℕ → List W → Type 0
  EachMayWorkFrom from workers = (place : ℕ) (w : W) → place < length workers → MayWorkAt (from + place) (slice_index_or workers place w)

  -- it was called once with each of these and its place
  pub record EachWorkedFrom (from : ℕ) (old new : List W) : Type 0 where
    pub each : (place : ℕ) (w : W) → place < length old → WorkedAt (from + place) (slice_index_or old place w) (slice_index_or new place w)

  abbrev pub EachMayWork : List W → Type 0
  EachMayWork workers = (place : ℕ) (w : W) → place < length workers → MayWorkAt place (slice_index_or workers place w)

  -- it was called once with each worker and its place
  abbrev pub EachWorked : List W → List W → Type 0
  EachWorked old new = (place : ℕ) (w : W) → place < length old → WorkedAt place (slice_index_or old place w) (slice_index_or new place w)
