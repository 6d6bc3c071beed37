-- What seats show of answers: whose end each filling has, and which filling each answer has (XATMI, tpgetrply; cells are this project's own).
use Rattle.std.specs.Prelude.{◌≡◌, ℕ, ◌<◌, List, Option, Some, IfSome}
use Rattle.std.specs.List.{All, Contains}
use Rattle.xa_caller.specs.xa_types.declared.data.Kind.{Kind}
use Rattle.xa_caller.specs.xa_types.declared.reply.Answer.{Answer as Reply}
use Rattle.xa_caller.specs.xa_types.declared.setup.Setup.{Setup}
use Rattle.xa_caller.specs.xa_types.declared.stamp.Stamp.{Stamp}
use Rattle.xa_caller.specs.xa_types.declared.ids.RequestId.{RequestId}
use Rattle.xa_caller.specs.xa_events.declared.event.Event.{Event}
use Rattle.xa_caller.specs.xa_events.declared.event.Event.TheVariants.{Answer}
use Rattle.xa_caller.specs.xa_events.declared.event.Replied.{Replied}
use Rattle.xa_caller.specs.xa_events.Answers.{answer_to}
use Rattle.xa_caller.specs.xa_events.Homes.{Home, home_of}
use Rattle.xa_caller.specs.xa_stamp.declared.home.Stamped.{Stamped}
use Rattle.xa_caller.specs.xa_cell.declared.view.Fill.{Fill}
use Rattle.xa_caller.specs.xa_cell.declared.view.View.{View}
use Rattle.xa_caller.specs.xa_cell.Views.{at}
use Rattle.xa_caller.specs.declared.cargo.Filling.{Filling}
use Rattle.xa_server.specs.Told.{Settles, HasStamp}

-- the answer, noted with that stamp, is a filling that this seat took from a cell, for the same request
pub record TookFor (v : View Filling) (stamp : Stamp) (a : Replied) : Type 0 where
  pub cell : ℕ
  pub fill : Fill Filling
  pub expect : Option Kind
  pub taken : Contains (at cell v).taken fill
  pub request : fill.opening.request ≡ a.request
  pub reply : Reply
  pub says : fill.answer.answer ≡ Some reply
  pub before : fill.answer.stamp.0 < stamp.0
  pub told : a.answer ≡ answer_to expect reply

-- so it is if the event is an answer
abbrev pub WasTaken : View Filling → Stamp → Event → Type 0
WasTaken v stamp (Answer a) = TookFor v stamp a
WasTaken v stamp _ = Unit {0}

-- so it is with each answer that a worker noted
abbrev pub AnswersTaken : View Filling → List Stamped → Type 0
AnswersTaken v own = All (λ x. WasTaken v x.stamp x.event) own

-- the request was ended or swept at some home, no later than that stamp, which an event of some home has, and the answer is the reply to that
pub record EndsAt (entries : Home → List Stamped) (request : RequestId) (stamp : Stamp) (answer : Reply) : Type 0 where
  pub home : Home
  pub entry : Stamped
  pub stands : Contains (entries home) entry
  pub settles : Settles request answer stamp entry
  pub where_ : Home
  pub has : HasStamp (entries where_) stamp

-- so it is with the request of the filling, if that has an answer
abbrev pub HasEnd : (Home → List Stamped) → Fill Filling → Type 0
HasEnd entries fill = IfSome fill.answer.answer (EndsAt entries fill.opening.request fill.answer.stamp)

-- so it is with each filling of the seat
pub record AllEnded (entries : Home → List Stamped) (v : View Filling) : Type 0 where
  pub each : (k : ℕ) → All (HasEnd entries) (at k v).filled

-- each of these entries stands at its event's home
abbrev pub StandAt : Setup → ℕ → (Home → List Stamped) → List Stamped → Type 0
StandAt setup clients entries own = (x : Stamped) → Contains own x → Contains (entries (home_of setup clients x.event)) x
