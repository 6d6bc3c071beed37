-- Entries of homes with their makers (this project's own).
use Rattle.std.specs.Prelude.{ℕ, List, [], ◌∷◌, map}
use Rattle.xa_types.specs.declared.ids.CallerId.{CallerId}
use Rattle.xa_types.specs.declared.stamp.Stamp.{Stamp}
use Rattle.xa_stamp.specs.declared.home.Stamped.{Stamped}
use Rattle.xa_lock.specs.declared.makers.Made.{Made}

-- what makers are: one for each entry, in order, and for how many more there is room
pub record MakerList : Type 0 where
  pub all : List CallerId
  pub room : ℕ

-- what a home with makers is: the stamp with which it begins, its entries, and for how many more it has room
pub record KeptNotes : Type 0 where
  pub first : Stamp
  pub entries : List Made
  pub room : ℕ

abbrev pub maker_of : Made → ℕ
maker_of entry = entry.maker.0

-- what was noted, without the makers
abbrev pub noted_in : List Made → List Stamped
noted_in entries = map (λ entry. entry.noted) entries

-- these were all noted by one maker
abbrev pub made_by : CallerId → List Stamped → List Made
made_by maker entries = map (λ noted. record { maker = maker; noted = noted }) entries

-- each entry with its maker
abbrev pub made : List CallerId → List Stamped → List Made
made [] entries = []
made (maker ∷ makers) [] = []
made (maker ∷ makers) (noted ∷ entries) = record { maker = maker; noted = noted } ∷ made makers entries
