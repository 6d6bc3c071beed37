-- What a caller is told, and the end that stands behind it (this project's own).
use Rattle.std.specs.Prelude.{◌≡◌, ℕ, ◌≤◌, List, [], ◌∷◌, Option, Some, None, IsSomeAnd, IfSome}
use Rattle.std.specs.List.{All, Contains}
use Rattle.xa_caller.specs.xa_types.declared.stamp.Stamp.{Stamp}
use Rattle.xa_caller.specs.xa_types.declared.ids.RequestId.{RequestId}
use Rattle.xa_caller.specs.xa_events.Answers.{reply_of}
use Rattle.xa_caller.specs.xa_events.Request.{settlement_in}
use Rattle.xa_caller.specs.xa_stamp.declared.home.Stamped.{Stamped}
use Rattle.xa_caller.specs.xa_queue.declared.entry.Entry.{Entry}
use Rattle.xa_caller.specs.xa_cell.declared.view.Opening.{Opening}
use Rattle.xa_caller.specs.xa_cell.declared.view.Fill.{Fill}
use Rattle.xa_caller.specs.xa_cell.Views.{at}
use Rattle.xa_caller.specs.xa_cell.Known.{named}
use Rattle.xa_caller.specs.Drafts.{Cargo}
use Rattle.xa_caller.specs.xa_types.declared.reply.Answer.{Answer}
use Rattle.xa_caller.specs.xa_cell.declared.tokens.Ticket.{Ticket}
use Rattle.xa_caller.specs.xa_cell.declared.view.View.{View}
use Rattle.xa_caller.specs.xa_cell.declared.filler.Filled.{Filled}
use Rattle.xa_caller.specs.xa_cell.declared.filler.Filled.TheVariants as fills
use Rattle.xa_caller.specs.xa_cell.Calls.{FilledAs}
use Rattle.xa_caller.specs.declared.cargo.Filling.{Filling}
use Rattle.xa_server.specs.declared.closing.Closing.{Closing}
use Rattle.xa_server.specs.declared.closing.Given.{Given}
use Rattle.xa_server.specs.declared.closing.Given.TheVariants.{Delivered, Dropped, Nothing}

-- what became of an answer, by what became of its filling
abbrev pub given_by : Filled Filling → Given
given_by fills.Delivered = Delivered
given_by (fills.Dropped filling) = Dropped

-- the ticket was spent on a filling with that answer and that stamp
pub record Spent (ticket : Ticket Filling) (answer : Option Answer) (stamp : Stamp) (v w : View Filling) (given : Given) : Type 0 where
  pub filling : Filling
  pub says : filling.answer ≡ answer
  pub stamped : filling.stamp ≡ stamp
  pub outcome : Filled Filling
  pub filled : FilledAs ticket filling v w outcome
  pub told : given ≡ given_by outcome

-- where there is no ticket nothing was done
abbrev pub GivenTo : Option (Ticket Filling) → Option Answer → Stamp → View Filling → View Filling → Given → Type 0
GivenTo (Some ticket) answer stamp v w given = Spent ticket answer stamp v w given
GivenTo None answer stamp v w given = (given ≡ Nothing) × (w ≡ v)

abbrev pub GivenAs : Closing → Stamp → View Filling → View Filling → Given → Type 0
GivenAs closing stamp v w given = GivenTo closing.ticket closing.answer stamp v w given

-- ---- the ends behind what seats filled

-- the entry settled that request, no later than that stamp, and the answer tells how
pub record Settles (request : RequestId) (answer : Answer) (stamp : Stamp) (entry : Stamped) : Type 0 where
  pub by : entry.stamp.0 ≤ stamp.0
  pub tells : IsSomeAnd (settlement_in request entry.event) (λ how. answer ≡ reply_of how)

-- one of these entries has that stamp
abbrev pub HasStamp : List Stamped → Stamp → Type 0
HasStamp entries stamp = (entry : Stamped) × Contains entries entry × (entry.stamp ≡ stamp)

-- one of these entries ended or swept the request so, no later than that stamp, which one of them has
pub record IsEnded (entries : List Stamped) (request : RequestId) (stamp : Stamp) (answer : Answer) : Type 0 where
  pub entry : Stamped
  pub stands : Contains entries entry
  pub settles : Settles request answer stamp entry
  pub has : HasStamp entries stamp

-- so it is with the request of that filling, if it has an answer
abbrev pub EndedFor : List Stamped → Fill Filling → Type 0
EndedFor entries fill = IfSome fill.answer.answer (IsEnded entries fill.opening.request fill.answer.stamp)

-- each filling that the seat knows itself to have made has its end or its sweep among these entries
abbrev pub FilledByEnds : List Stamped → View Filling → Type 0
FilledByEnds entries view = (k : ℕ) → All (EndedFor entries) (at k view).filled

-- one of these entries ended or swept the request that the ticket names, if there is an answer
abbrev pub Backs : List Stamped → Option (Ticket Filling) → Option Answer → Stamp → Type 0
Backs entries (Some ticket) (Some answer) stamp = (entry : Stamped) × Contains entries entry × ((o : Opening) → named ticket ≡ o ∷ [] → Settles o.request answer stamp entry)
Backs entries (Some ticket) None stamp = Unit {0}
Backs entries None answer stamp = Unit {0}

abbrev pub IsBacked : List Stamped → Closing → Type 0
IsBacked entries closing = Backs entries closing.ticket closing.answer closing.stamp

-- the ticket of the entry in hand names its request
abbrev pub NamesIts : Option (Entry Cargo) → Type 0
NamesIts None = Unit {0}
NamesIts (Some entry) = (o : Opening) → named entry.cargo.ticket ≡ o ∷ [] → o.request ≡ entry.request
