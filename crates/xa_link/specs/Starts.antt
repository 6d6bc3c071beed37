-- What shelves, starters and yards were asked for.
use Rattle.std.specs.Prelude.{◌≡◌, ℕ, List, [], ◌∷◌, ◌++◌, Option, option_map}
use Rattle.xa_types.specs.declared.ids.Generation.{Generation}
use Rattle.xa_types.specs.declared.setup.Setup.{Setup}

-- what a shelf shows: the file of each name, where it tells it, of which `Some None` tells that there is none; the names of the files that it was
-- asked for, the oldest first, where it tells them; and how often a read failed
pub record ShelfShows : Type 0 where
  pub file : List ℕ → Option (Option (List ℕ))
  pub asked : Option (List (List ℕ))
  pub faults : ℕ

-- what a starter shows: its server's name, the starts that it was asked for, each with the server's name and the generation, where it tells them, and
-- how often one failed
pub record StarterShows : Type 0 where
  pub name : List ℕ
  pub asked : Option (List (List ℕ × Generation))
  pub faults : ℕ

-- one file more was asked for, of that name; what isn't told stays so
abbrev pub AsksFile : Option (List (List ℕ)) → Option (List (List ℕ)) → List ℕ → Type 0
AsksFile before now name = now ≡ option_map (λ names. names ++ name ∷ []) before

-- one start more was asked for, of that server and generation; what isn't told stays so
abbrev pub AsksFor : Option (List (List ℕ × Generation)) → Option (List (List ℕ × Generation)) → List ℕ → Generation → Type 0
AsksFor before now server generation = now ≡ option_map (λ starts. starts ++ (server, generation) ∷ []) before

-- starters were asked for once more, for that setup; what isn't told stays so
abbrev pub AsksStarters : Option (List Setup) → Option (List Setup) → Setup → Type 0
AsksStarters before now setup = now ≡ option_map (λ setups. setups ++ setup ∷ []) before
