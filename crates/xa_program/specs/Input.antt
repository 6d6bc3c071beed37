-- What the input shows of a run (this project's own).
use Rattle.std.specs.Prelude.{◌≡◌, ◌⊎◌, ◌++◌, ℕ, List, Option, Some}
use Rattle.xa_domain.specs.xa_link.Links.{SourceShows}
use Rattle.xa_domain.specs.xa_link.Told.{ReadOut, Grew}
use Rattle.xa_domain.specs.xa_link.Reads.{HasExactly, HasMore, GrewByMore}

-- what it holds before and after, and what it gave before and after, where it tells them
pub record InputTells : Type 0 where
  pub left : Option (List ℕ)
  pub left_after : Option (List ℕ)
  pub gave : Option (List ℕ)
  pub gave_after : Option (List ℕ)

-- what it tells, by what it shows
abbrev pub input_by : {I : Type 0} → (I → SourceShows) → I → I → InputTells
input_by shows input input_after = record { left = (shows input).left; left_after = (shows input_after).left; gave = (shows input).gave; gave_after = (shows input_after).gave }

-- these octets came from it, to its end: where it tells what it holds, that was these, and now is nothing; where it tells what it gave,
-- that grew by these
pub record CameWhole (input : InputTells) (octets : List ℕ) : Type 0 where
  pub held : HasExactly input.left octets
  pub ended : ReadOut input.left input.left_after
  pub given : Grew input.gave input.gave_after octets

-- it has more octets than that: where it tells what it holds, that was more, and where it tells what it gave, that grew by more
pub record CameOver (input : InputTells) (limit : ℕ) : Type 0 where
  pub held : HasMore input.left limit
  pub given : GrewByMore input.gave input.gave_after limit

-- it tells these octets: it held them, or what it gave grew by them
abbrev pub Tells : InputTells → List ℕ → Type 0
Tells input octets = (input.left ≡ Some octets) ⊎ ((before : List ℕ) × (input.gave ≡ Some before) × (input.gave_after ≡ Some (before ++ octets)))
