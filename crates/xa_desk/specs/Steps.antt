-- What a call of a desk leaves, beside what its caller's contract says (this project's own).
use Rattle.std.specs.Prelude.{◌≡◌, ◌⊎◌, ℕ, ◌<◌, Bool, true, false, List, [], length, Option, Some, None, IfSome}
use Rattle.std.specs.List.{All, Contains}
use Rattle.xa_server.specs.xa_types.declared.call.Ask.{Ask}
use Rattle.xa_server.specs.xa_types.declared.call.Op.{Op}
use Rattle.xa_server.specs.xa_types.declared.call.Op.TheVariants.{Call, Acall}
use Rattle.xa_server.specs.xa_types.declared.ids.QueueId.{QueueId}
use Rattle.xa_server.specs.xa_types.declared.row.Row.{Row}
use Rattle.xa_server.specs.xa_types.declared.stamp.Stamp.{Stamp}
use Rattle.xa_server.specs.xa_types.Found.{FoundRows}
use Rattle.xa_server.specs.xa_types.Setup.{numbered, capacity_of}
use Rattle.xa_server.specs.xa_events.Queue.{is_down, is_closed, waiting}
use Rattle.xa_server.specs.xa_events.Calls.{IsShutOut}
use Rattle.xa_server.specs.xa_caller.Caller.{CallerState}
use Rattle.xa_server.specs.xa_caller.Changes.{Sends, SendsApart}
use Rattle.xa_server.specs.xa_caller.declared.outcomes.Why.{Why}
use Rattle.xa_server.specs.xa_caller.declared.outcomes.Why.TheVariants as reasons
use Rattle.xa_desk.specs.declared.domain.Domain.{Domain}
use Rattle.xa_desk.specs.declared.desk.Desk.{Desk}
use Rattle.xa_desk.specs.Desks.{FitsCalls}
use Rattle.xa_desk.specs.Found.{SawAtQueue, SawItsOwnAt}
use Rattle.xa_desk.specs.Halting.{IsHaltAt}

-- what the worker noted by this call fits it: whatever it makes, if this is the call with that number
abbrev pub FitsOp : Domain → ℕ → Op → Desk → Desk → Type 0
FitsOp d number op old new = (ops : List Op) → numbered number ops ≡ Some op → FitsCalls d ops old → FitsCalls d ops new

-- the call that asks for a service: a tpacall, whose reply is taken apart, or a tpcall
abbrev pub ask_by : Bool → Ask → Op
ask_by true ask = Acall ask
ask_by false ask = Call ask

-- a tpacall that wants a reply; a tpcall always does
abbrev pub WantsReply : Bool → Ask → Type 0
WantsReply true ask = ask.flags.no_reply ≡ false
WantsReply false ask = Unit {0}

-- so it is with both
abbrev pub FitsOn : Domain → ℕ → Ask → Desk → Desk → Type 0
FitsOn d number ask old new = (apart : Bool) → WantsReply apart ask → FitsOp d number (ask_by apart ask) old new

-- its caller's request was accepted so
abbrev pub SentBy : Bool → Stamp → CallerState → CallerState → Type 0
SentBy true stamp new old = SendsApart stamp new old
SentBy false stamp new old = Sends stamp new old

-- no queue of these rows, of which there are some, takes a request: each was seen down, closed or full, by a front with all that the worker noted
-- there; and each down or closed if none was full, or else a queue of theirs was seen full, with so many that waited
pub record NoneTakes (d : Domain) (rows : List Row) (full : Option (QueueId × ℕ)) (desk : Desk) : Type 0 where
  pub some : rows ≡ [] → ⊥
  pub out : All (λ (row : Row). SawItsOwnAt d row.queue.0 desk (IsShutOut d.setup row.queue.0)) rows
  pub shut : full ≡ None → All (λ (row : Row). SawAtQueue d row.queue.0 desk (λ past. (is_down row.queue.0 past ≡ true) ⊎ (is_closed row.queue.0 past ≡ true))) rows
  pub filled : IfSome full (λ one. (0 < one.1) × (one.1 ≡ capacity_of d.setup one.0.0) × SawItsOwnAt d one.0.0 desk (λ past. length (waiting d.setup one.0.0 past) ≡ one.1)
      × ((row : Row) × Contains rows row × (row.queue ≡ one.0)))

-- which queue was full, if one was
abbrev pub full_in : Why → Option (QueueId × ℕ)
full_in (reasons.Full queue n) = Some (queue, n)
full_in why = None

-- why no queue of the rows that were found took the request
abbrev pub IsWhy : Domain → FoundRows → Why → Desk → Type 0
IsWhy d found (reasons.Halt halt) desk = IsHaltAt desk halt
IsWhy d found why desk = NoneTakes d found.rows (full_in why) desk
