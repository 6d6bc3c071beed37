-- The merge of homes, and dense stamps (this project's own).
use Rattle.std.specs.Prelude.{◌≡◌, ℕ, ◌+◌, List, [], ◌∷◌, ◌++◌, map, Option, Some, option_map, option_and_then, slice_get, IsPermutation, IsSorted}
use Rattle.std.specs.List.{All, Contains}
use Rattle.std.specs.Ordering.{nat_cmp, ordering_then}
use Rattle.std.specs.declared.cmp.Ordering.{Ordering}
use Rattle.xa_types.specs.declared.stamp.Stamp.{Stamp}
use Rattle.xa_events.specs.declared.event.Event.{Event}
use Rattle.xa_stamp.specs.declared.home.Stamped.{Stamped}
use Rattle.xa_stamp.specs.declared.merging.Place.{Place}
use Rattle.xa_stamp.specs.Home.{Notes}

-- the places of these entries of the home with that number; the first stands at the index
abbrev pub places_in : ℕ → ℕ → List Stamped → List Place
places_in home index [] = []
places_in home index (e ∷ rest) = record { stamp = e.stamp; home = home; index = index } ∷ places_in home (index + 1) rest

-- the places of all events of these homes; the first home has the number
abbrev pub places_from : ℕ → List Notes → List Place
places_from number [] = []
places_from number (h ∷ rest) = places_in number 0 h.entries ++ places_from (number + 1) rest

-- places compare by stamp, then home, then place in the home
abbrev pub place_cmp : Place → Place → Ordering
place_cmp a b = ordering_then (nat_cmp a.stamp.0 b.stamp.0) (ordering_then (nat_cmp a.home b.home) (nat_cmp a.index b.index))

-- the event that stands there
abbrev pub event_at : List Notes → Place → Option Event
event_at homes place = option_and_then (λ h. option_map (λ e. e.event) (slice_get h.entries place.index)) (slice_get homes place.home)

-- the events are those that stand at these places
abbrev pub StandAt : List Notes → List Place → List Event → Type 0
StandAt homes places events = map (event_at homes) places ≡ map Some events

-- the events are all those of the homes, by stamp, then home, then place in the home
pub record IsMerged (homes : List Notes) (events : List Event) : Type 0 where
  pub places : List Place
  pub all : IsPermutation (places_from 0 homes) places
  pub ordered : IsSorted place_cmp places
  pub theirs : StandAt homes places events

-- the stamps of all events of the homes
abbrev pub stamps_of : List Notes → List ℕ
stamps_of [] = []
stamps_of (h ∷ rest) = map (λ e. e.stamp.0) h.entries ++ stamps_of rest

-- each stamp is one more than the first or than that of another event
abbrev pub IsDense : Stamp → List Notes → Type 0
IsDense first homes = All (λ stamp. (before : ℕ) × Contains (first.0 ∷ stamps_of homes) before × (stamp ≡ before + 1)) (stamps_of homes)
