-- How a service makes its calls (this project's own).
use Rattle.std.specs.Prelude.{◌≡◌, ℕ, ◌-◌, ◌^◌, ◌==◌, Bool, true, false, List, [], ◌∷◌, ◌++◌, if◌then◌else◌}
use Rattle.xa_desk.specs.xa_types.declared.stamp.Stamp.{Stamp}
use Rattle.xa_desk.specs.xa_types.declared.reply.Reply.{Reply}
use Rattle.xa_desk.specs.xa_types.declared.reply.Reply.TheVariants as replies
use Rattle.xa_desk.specs.xa_events.declared.event.Event.TheVariants.{Answer}
use Rattle.xa_desk.specs.xa_events.declared.event.Replied.{Replied}
use Rattle.xa_desk.specs.xa_frame.Spelling.{IsAnswer}
use Rattle.xa_desk.specs.xa_stamp.declared.home.Stamped.{Stamped}
use Rattle.xa_desk.specs.xa_pipe.Standing.{LifeState}
use Rattle.xa_desk.specs.xa_pipe.Changes.{spent}
use Rattle.xa_desk.specs.xa_worker.declared.work.Halt.TheVariants.{NoMemory}
use Rattle.xa_desk.specs.declared.desk.Desk.{Desk}
use Rattle.xa_desk.specs.declared.stopped.Stopped.{Stopped}
use Rattle.xa_desk.specs.declared.stopped.Stopped.TheVariants.{Here}
use Rattle.xa_calls.specs.declared.telling.Told.{Told}
use Rattle.xa_calls.specs.declared.telling.Told.TheVariants as tells

-- memory ran out
abbrev pub is_want : Stopped → Bool
is_want (Here NoMemory) = true
is_want stopped = false

-- the life, whose service may ask for no call once that was the last
abbrev pub called_out : ℕ → LifeState → LifeState
called_out op life = if op == 2 ^ 32 - 1 then spent life else life

-- the answer is the newest of all that the worker noted
pub record IsNewest (a : Replied) (desk : Desk) : Type 0 where
  pub older : List Stamped
  pub stamp : Stamp
  pub own : desk.caller.work.own ≡ older ++ record { stamp = stamp; event = Answer a } ∷ []
  pub by : a.by.0 ≡ desk.caller.work.id.0
  pub sound : IsAnswer a.answer

-- by that reply a service is told what came of its call; it is told no tick and no descriptor
abbrev pub IsReplyTo : Told → Reply → Desk → Type 0
IsReplyTo tells.Done reply desk = reply ≡ replies.Done
IsReplyTo (tells.Fault fault) reply desk = reply ≡ replies.Fault fault
IsReplyTo (tells.Now tick) reply desk = ⊥
IsReplyTo (tells.Descriptor descriptor) reply desk = ⊥
IsReplyTo (tells.Answered descriptor) reply desk = (a : Replied) × IsNewest a desk × (reply ≡ replies.Answered descriptor a.answer)
