-- What holds of each seat, as the last one is taken from the others and is put back.
use Rattle.std.proofs.Common.{◌≡◌, List, [], ◌∷◌, ◌++◌}
use Rattle.std.specs.Prelude.{Some}
use Rattle.std.specs.List.{All}
use Rattle.std.proofs.lemmas.List.Elements.{All-pop, All-push, All-same, All-weaker}
use Rattle.xa_cell.specs.declared.tokens.Seat.{Seat}
use Rattle.xa_cell.specs.Known.{IsNew, known}
use Rattle.xa_cell.specs.Places.{IsShut}
use Rattle.xa_cell.proofs.OpenPlaces.{none_open}

module _ {X : Type 0} (P : X → Type 0) (xs ys : List X) (x : X) where
  pub popped : ys ≡ xs ++ x ∷ [] → All P ys → All P xs
  popped e h = (All-pop P ys xs (Some x) e h).0

  pub last : ys ≡ xs ++ x ∷ [] → All P ys → P x
  last e h = (All-pop P ys xs (Some x) e h).1

  pub pushed : ys ≡ xs ++ x ∷ [] → All P xs → P x → All P ys
  pushed e h p = All-same P ys (xs ++ x ∷ []) e (All-push P xs x h p)

module _ {A : Type 0} where
  -- new seats have no place open
  pub shut : (seats : List (Seat A)) → All (λ s. IsNew s.first s.count (known s)) seats → All IsShut seats
  shut seats h = All-weaker (λ (s : Seat A). IsNew s.first s.count (known s)) IsShut (λ s new. none_open new) seats h
