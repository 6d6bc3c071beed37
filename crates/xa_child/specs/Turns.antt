-- One read of a server's program, and what it writes then. No public contract rests on these.
use Rattle.std.specs.Prelude.{ℕ, ◌≡◌, true, false, Bool, List, [], ◌++◌, ◌⊎◌, Option, Result, Ok, Err}
use Rattle.std.specs.List.{All}
use Rattle.xa_frame.specs.declared.frame.Frame.{Frame}
use Rattle.xa_frame.specs.Spelling.{all_spelled, HasSpelling}
use Rattle.xa_frame.specs.Stream.{IsPartial}
use Rattle.xa_link.specs.Told.{Grew, Shrank, Empty}
use Rattle.xa_child.specs.declared.working.WorkRefused.{WorkRefused}
use Rattle.xa_child.specs.declared.working.WorkRefused.TheVariants.{BadFrame, WriteFault, NoMemory}
use Rattle.xa_child.specs.declared.serving.Serving.{Serving}
use Rattle.xa_child.specs.declared.serving.Halt.{Halt}
use Rattle.xa_child.specs.declared.serving.Halt.TheVariants.{Waits, Ended, Bad}
use Rattle.xa_child.specs.Child.{ChildState, begun, admits_all, after_all, said, child_run}
use Rattle.xa_child.specs.Work.{CameTo, place_after}

-- what the program comes to where no further frame is taken: true where it goes on
abbrev pub behind : Halt → Result Bool WorkRefused
behind Waits = Ok true
behind Ended = Ok false
behind (Bad at) = Err (BadFrame at)

-- it goes on: all that is due is written, and more octets are to come
pub record GoesOn (s : ChildState) (place : ℕ) (rest written due : List ℕ) (now : Serving) : Type 0 where
  pub complete : written ≡ due
  pub going : s.ended ≡ false
  pub partial : IsPartial rest
  pub child : now.child ≡ s
  pub reader : now.reader ≡ record { place = place; rest = rest }

-- true where it goes on
abbrev pub TurnsTo : ChildState → ℕ → List ℕ → Type 0 → List ℕ → List ℕ → Serving → Result Bool WorkRefused → Type 0
TurnsTo s place rest end written due now (Ok true) = GoesOn s place rest written due now
TurnsTo s place rest end written due now (Ok false) = CameTo s place rest end written due (Ok tt)
TurnsTo s place rest end written due now (Err refused) = CameTo s place rest end written due (Err refused)

-- these octets came, of which frames were taken
pub record Hears (old new : Serving) (octets : List ℕ) (took took_now : Option (List ℕ)) (end : Type 0) (result : Result Bool WorkRefused) : Type 0 where
  pub frames : List Frame
  pub rest : List ℕ
  pub written : List ℕ
  pub spelling : All HasSpelling frames
  pub admitted : admits_all old.child frames ≡ true
  pub whole : old.reader.rest ++ octets ≡ all_spelled frames ++ rest
  pub grew : Grew took took_now written
  pub turns : TurnsTo (after_all old.child frames) (place_after old.reader.place (all_spelled frames)) rest end written (all_spelled (said old.child frames)) new result

pub record Turns (old new : Serving) (left left_now gave gave_now took took_now : Option (List ℕ)) (result : Result Bool WorkRefused) : Type 0 where
  pub octets : List ℕ
  pub off : Shrank left left_now octets
  pub given : Grew gave gave_now octets
  pub hears : Hears old new octets took took_now (Empty left_now) result

-- what the end of the input comes to
abbrev pub AtEnd : Serving → Result Bool WorkRefused → Type 0
AtEnd s result = (result ≡ Ok false) × (s.reader.rest ≡ []) ⊎ (result ≡ Err (BadFrame s.reader.place)) × (s.reader.rest ≡ [] → ⊥)

-- how a program ends that has read nothing
abbrev pub Unanswered : WorkRefused → Type 0
Unanswered NoMemory = Unit {0}
Unanswered WriteFault = Unit {0}
Unanswered refused = ⊥

-- all that was read so far, where the child goes on
pub record SoFar (name : List ℕ) (left left_now gave gave_now took took_now : Option (List ℕ)) (now : Serving) : Type 0 where
  pub frames : List Frame
  pub spelling : All HasSpelling frames
  pub admitted : admits_all begun frames ≡ true
  pub off : Shrank left left_now (all_spelled frames ++ now.reader.rest)
  pub given : Grew gave gave_now (all_spelled frames ++ now.reader.rest)
  pub grew : Grew took took_now (all_spelled (child_run name frames))
  pub child : now.child ≡ after_all begun frames
  pub going : now.child.ended ≡ false
  pub place : now.reader.place ≡ place_after 0 (all_spelled frames)
  pub partial : IsPartial now.reader.rest
