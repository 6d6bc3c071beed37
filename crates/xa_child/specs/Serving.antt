-- How the frames that stand in a reader are taken. No public contract rests on these.
use Rattle.std.specs.Prelude.{ℕ, ◌≡◌, true, false, List, ◌++◌, Option, Some, None}
use Rattle.std.specs.List.{All}
use Rattle.xa_frame.specs.declared.frame.Frame.{Frame}
use Rattle.xa_frame.specs.Spelling.{all_spelled, HasSpelling}
use Rattle.xa_frame.specs.Stream.{IsPartial}
use Rattle.xa_frame.specs.Reader.{Incoming, Took}
use Rattle.xa_child.specs.declared.serving.Serving.{Serving}
use Rattle.xa_child.specs.declared.serving.Halt.{Halt}
use Rattle.xa_child.specs.declared.serving.Halt.TheVariants.{Waits, Ended, Bad}
use Rattle.xa_child.specs.Child.{ChildState, admits, admits_all, after, after_all, answer, said}
use Rattle.xa_child.specs.Work.{IsBad, place_after}

-- why no further frame was taken where the rest stands
abbrev pub HaltsAt : ChildState → ℕ → List ℕ → Incoming → Halt → Type 0
HaltsAt s place rest now Waits = (s.ended ≡ false) × IsPartial rest × (now ≡ record { place = place; rest = rest })
HaltsAt s place rest now Ended = s.ended ≡ true
HaltsAt s place rest now (Bad at) = (s.ended ≡ false) × (at ≡ place) × IsBad s rest

-- the frame was taken, and what is said to it was added
pub record TakesOne (old new : Serving) (due due_now : List ℕ) (f : Frame) : Type 0 where
  pub took : Took old.reader new.reader f
  pub admitted : admits old.child f ≡ true
  pub child : new.child ≡ after old.child f
  pub adds : due_now ≡ due ++ all_spelled (answer old.child f)

abbrev pub Answers : ChildState → ChildState → List ℕ → List ℕ → ℕ → Frame → Option Halt → Type 0
Answers s s_now due due_now place f None = (admits s f ≡ true) × (s_now ≡ after s f) × (due_now ≡ due ++ all_spelled (answer s f))
Answers s s_now due due_now place f (Some halt) = (admits s f ≡ false) × (s_now ≡ s) × (due_now ≡ due) × (halt ≡ Bad place)

abbrev pub StepsTo : Serving → Serving → List ℕ → List ℕ → Option Halt → Type 0
StepsTo old new due due_now None = (f : Frame) × TakesOne old new due due_now f
StepsTo old new due due_now (Some halt) = (due_now ≡ due) × (new.child ≡ old.child) × HaltsAt old.child old.reader.place old.reader.rest new.reader halt

-- these frames were taken, and this is what is said to them
pub record Takes (old new : Serving) (due : List ℕ) (frames : List Frame) (rest : List ℕ) : Type 0 where
  pub spelling : All HasSpelling frames
  pub admitted : admits_all old.child frames ≡ true
  pub whole : old.reader.rest ≡ all_spelled frames ++ rest
  pub child : new.child ≡ after_all old.child frames
  pub says : due ≡ all_spelled (said old.child frames)

pub record TakesUpTo (old new : Serving) (due : List ℕ) (halt : Halt) : Type 0 where
  pub frames : List Frame
  pub rest : List ℕ
  pub takes : Takes old new due frames rest
  pub halts : HaltsAt new.child (place_after old.reader.place (all_spelled frames)) rest new.reader halt
