-- What is said to an INVOKE, where its data may stay where it is. No public contract rests on these.
use Rattle.std.specs.Prelude.{List, [], ◌∷◌, Option, Some, None}
use Rattle.std.specs.Borrow.{Bor}
use Rattle.xa_types.specs.declared.data.Data.{Data}
use Rattle.xa_types.specs.declared.data.Data.TheVariants.{Absent}
use Rattle.xa_frame.specs.declared.frame.Frame.{Frame}
use Rattle.xa_frame.specs.declared.frame.Body.{Body}
use Rattle.xa_frame.specs.declared.frame.Body.TheVariants.{Return}
use Rattle.xa_child.specs.declared.routines.Outcome.{Outcome}
use Rattle.xa_child.specs.declared.routines.Outcome.TheVariants.{Returned, Made}
use Rattle.xa_child.specs.declared.child.Said.{Said}
use Rattle.xa_child.specs.declared.calling.Deed.{Deed as Made_}
use Rattle.xa_child.specs.Calling.{Deed}
use Rattle.xa_child.specs.Child.{followed}

-- the data of its request, or absent data
abbrev pub data_of : Option (Bor Data) → Data
data_of None = Absent
data_of (Some payload) = payload.now

-- the frame's body
abbrev pub body_of : Outcome → Body
body_of (Returned value code payload) = Return value code (data_of payload)
body_of (Made body) = body

-- what a routine says with its data where it is, and what it waits for
abbrev pub deed_of : Made_ → Deed
deed_of deed = record { says = body_of deed.says; doing = deed.doing }

-- the frame
abbrev pub frame_of : Said → Frame
frame_of said = record { tag = said.tag; body = body_of said.outcome }

-- nothing is said, or that frame and, if it isn't the last, NEXT
abbrev pub all_said : Option Said → List Frame
all_said None = []
all_said (Some said) = frame_of said ∷ followed said.last
