-- A home, and the stamps of its events (this project's own).
use Rattle.std.specs.Prelude.{◌≡◌, ℕ, ◌+◌, ◌<◌, ◌≤◌, ◌^◌, max, List, [], ◌∷◌, ◌++◌}
use Rattle.xa_types.specs.declared.stamp.Stamp.{Stamp}
use Rattle.xa_types.specs.declared.stamp.Worn.{Worn}
use Rattle.xa_events.specs.declared.event.Event.{Event}
use Rattle.xa_stamp.specs.declared.home.Stamped.{Stamped}

-- what a home is: the stamp with which it begins, what was noted, in order, and for how many more it has room
pub record Notes : Type 0 where
  pub first : Stamp
  pub entries : List Stamped
  pub room : ℕ

-- the stamp that was noted last, or the first one where nothing was
abbrev pub last_stamp : Stamp → List Stamped → ℕ
last_stamp first [] = first.0
last_stamp first (e ∷ rest) = last_stamp e.stamp rest

-- each stamp is greater than the one before it, and none is greater than 2^63
abbrev pub Rises : Stamp → List Stamped → Type 0
Rises before [] = before.0 ≤ 2 ^ 63
Rises before (e ∷ rest) = (before.0 < e.stamp.0) × Rises e.stamp rest

-- the larger of a stamp that was seen and of the last one
abbrev pub larger_of : Stamp → Stamp → List Stamped → ℕ
larger_of seen first entries = max seen.0 (last_stamp first entries)

-- the stamp of the next event: one more than the larger, and at most 2^63
abbrev pub IsOneMore : ℕ → Stamp → Type 0
IsOneMore larger stamp = (stamp.0 ≡ larger + 1) × (stamp.0 ≤ 2 ^ 63)

-- there is none: the larger is 2^63, which is told
abbrev pub IsSpent : ℕ → Worn → Type 0
IsSpent larger worn = (worn.0.0 ≡ 2 ^ 63) × (larger ≡ 2 ^ 63)

-- one event more
abbrev pub with_event : Stamp → Event → List Stamped → List Stamped
with_event stamp event entries = entries ++ record { stamp = stamp; event = event } ∷ []
