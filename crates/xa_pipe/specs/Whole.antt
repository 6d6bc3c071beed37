-- A life whose link gives all that its program says.
use Rattle.std.specs.Prelude.{◌≡◌, ◌⊎◌, ℕ, ◌<◌, ◌-◌, ◌^◌, true, List, [], ◌∷◌, ◌++◌, Some}
use Rattle.xa_types.specs.declared.setup.Setup.{Setup}
use Rattle.xa_frame.specs.declared.frame.Frame.{Frame}
use Rattle.xa_frame.specs.Spelling.{all_spelled}
use Rattle.xa_events.specs.declared.event.Outcome.TheVariants.{Starved}
use Rattle.xa_events.specs.declared.event.Event.{Event}
use Rattle.xa_events.specs.State.{caller_of}
use Rattle.xa_events.specs.Caller.{last_op}
use Rattle.xa_pipe.specs.Life.{stops_life, Says, Turn, Finish, LinkShows, Occurrence, Reasons, EndsAs, ComesTo}

-- What the link gave and what it still holds begins with these frames, which a program says in turn; they are whole, and anything may follow them.
pub record GivesAll (name : List ℕ) (frames : List Frame) (link : LinkShows) : Type 0 where
  pub returned : ℕ
  pub turn : Turn
  pub says : Says name returned frames turn
  pub octets : List ℕ
  pub others : List ℕ
  pub more : List ℕ
  pub given : link.gave ≡ Some octets
  pub held : link.left ≡ Some others
  pub whole : octets ++ others ≡ all_spelled frames ++ more

-- each take came to what its RETURN or FORWARD says, but that memory may have run out for the last
abbrev pub CameAsSaid : Setup → Reasons → List Finish → List Occurrence → Type 0
CameAsSaid setup Why finishes [] = Unit {0}
CameAsSaid setup Why [] (came ∷ others) = ⊥
CameAsSaid setup Why (back ∷ finishes) (came ∷ []) = ComesTo setup Why back came ⊎ EndsAs Starved came.event
CameAsSaid setup Why (back ∷ finishes) (came ∷ next ∷ others) = ComesTo setup Why back came × CameAsSaid setup Why finishes (next ∷ others)

-- where the event ends the life, the server's calls hadn't come to their end before it
abbrev pub CallsLeft : ℕ → ℕ → ℕ → Event → List Event → Type 0
CallsLeft clients server g e before = stops_life server g e ≡ true → last_op (caller_of clients server) before < 2 ^ 32 - 1
