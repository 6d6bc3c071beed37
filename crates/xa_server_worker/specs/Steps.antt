-- Steps of a server's worker at its desk (this project's own). Lists of events have the newest first.
use Rattle.std.specs.Prelude.{◌≡◌, ◌⊎◌, ℕ, Bool, true, false, List, [], ◌∷◌, ◌++◌, Option, Some, None, Result, Ok, Err}
use Rattle.std.specs.List.{All}
use Rattle.xa_desk.specs.xa_types.declared.call.Rval.{Rval}
use Rattle.xa_desk.specs.xa_types.declared.call.Rval.TheVariants.{Exit}
use Rattle.xa_desk.specs.xa_types.declared.stamp.Stamp.{Stamp}
use Rattle.xa_desk.specs.xa_events.declared.event.Event.{Event}
use Rattle.xa_desk.specs.xa_events.declared.event.Event.TheVariants.{Take, Gone}
use Rattle.xa_desk.specs.xa_events.declared.event.Taken.{Taken}
use Rattle.xa_desk.specs.xa_events.declared.event.Doing.TheVariants.{Busy}
use Rattle.xa_desk.specs.xa_events.Cases.{IsShut}
use Rattle.xa_desk.specs.xa_events.Server.{is_gone}
use Rattle.xa_desk.specs.xa_queue.declared.entry.Entry.{Entry}
use Rattle.xa_desk.specs.xa_worker.Work.{theirs}
use Rattle.xa_desk.specs.xa_caller.declared.phase.Phase.TheVariants.{Idle}
use Rattle.xa_desk.specs.xa_caller.Drafts.{Cargo}
use Rattle.xa_desk.specs.xa_server.declared.slot.ServerSlot.{ServerSlot}
use Rattle.xa_desk.specs.xa_server.declared.closing.Closing.{Closing}
use Rattle.xa_desk.specs.xa_stamp.Home.{last_stamp}
use Rattle.xa_desk.specs.xa_worker.Crew.{no_stamp}
use Rattle.xa_desk.specs.xa_cell.declared.view.View.{View}
use Rattle.xa_desk.specs.xa_cell.Known.{known}
use Rattle.xa_desk.specs.xa_caller.declared.cargo.Filling.{Filling}
use Rattle.xa_desk.specs.xa_server.declared.closing.Given.{Given}
use Rattle.xa_desk.specs.xa_server.Doings.{life_in}
use Rattle.xa_desk.specs.xa_server.Told.{GivenAs}
use Rattle.xa_desk.specs.declared.domain.Domain.{Domain}
use Rattle.xa_desk.specs.declared.desk.Desk.{Desk}
use Rattle.xa_desk.specs.declared.serving.Took.{Took}
use Rattle.xa_desk.specs.declared.serving.Took.TheVariants as takes
use Rattle.xa_desk.specs.declared.stopped.Stopped.{Stopped}
use Rattle.xa_desk.specs.Desks.{Leads}
use Rattle.xa_desk.specs.Found.{SawAtQueue}
use Rattle.xa_desk.specs.Serving.{IsServing, IsTaken, HasNothing, LeftOthers, IsSwept}
use Rattle.xa_desk.specs.Halting.{IsStopAt}
use Rattle.xa_server_worker.specs.Behind.{TellsLast, ToldBefore}

-- the worker went on, and noted these events of its own
pub record Steps (d : Domain) (more : List Event) (old new : Desk) : Type 0 where
  pub leads : Leads d old new
  pub id : new.caller.work.id ≡ old.caller.work.id
  pub clients : new.caller.work.clients ≡ old.caller.work.clients
  pub own : theirs new.caller.work ≡ more ++ theirs old.caller.work

-- and its server is what it was, as often started, and not given up since
pub record Serves (d : Domain) (queue : ℕ) (more : List Event) (slot slot' : ServerSlot) (old new : Desk) : Type 0 where
  pub steps : Steps d more old new
  pub serving : IsServing d queue slot' new
  pub server : slot'.server ≡ slot.server
  pub made : slot'.made ≡ slot.made
  pub gone : slot'.gone ≡ slot.gone

-- ---- telling

-- the answer went where it may, with the stamp of the worker's last event; where nobody is to be told the seat made no filling
abbrev pub GivenBy : Option Closing → Desk → View Filling → Type 0
GivenBy (Some closing) old after = (became : Given) × GivenAs closing (record { 0 = last_stamp no_stamp old.caller.work.own }) (known old.caller.seat) after became
GivenBy None old after = after ≡ known old.caller.seat

-- a caller was told, or none
pub record Tells (d : Domain) (closing : Option Closing) (old new : Desk) : Type 0 where
  pub leads : Leads d old new
  pub rest : new ≡ record old { caller = record old.caller { seat = new.caller.seat } }
  pub given : GivenBy closing old (known new.caller.seat)

-- ---- taking

-- a request was taken, which the server has in hand
pub record Takes (d : Domain) (queue : ℕ) (slot slot' : ServerSlot) (old new : Desk) : Type 0 where
  pub t : Taken
  pub entry : Entry Cargo
  pub serves : Serves d queue (Take t ∷ []) slot slot' old new
  pub busy : slot'.doing ≡ Busy t.generation t.request
  pub hand : slot'.hand ≡ Some entry
  pub taken : IsTaken d queue t new entry
  pub server : t.server ≡ slot.server
  pub generation : t.generation ≡ life_in slot.doing
  pub stamp : Stamp
  pub noted : new.caller.work.own ≡ old.caller.work.own ++ record { stamp = stamp; event = Take t } ∷ []
  pub seat : new.caller.seat ≡ old.caller.seat

-- none was
pub record Waits (d : Domain) (queue : ℕ) (slot slot' : ServerSlot) (old new : Desk) : Type 0 where
  pub serves : Serves d queue [] slot slot' old new
  pub same : slot' ≡ slot
  pub noted : new.caller.work.own ≡ old.caller.work.own
  pub seat : new.caller.seat ≡ old.caller.seat

abbrev pub TakesFrom : Domain → ℕ → Result Took Stopped → ServerSlot → ServerSlot → Desk → Desk → Type 0
TakesFrom d queue (Ok takes.Request) slot slot' old new = Takes d queue slot slot' old new
TakesFrom d queue (Ok takes.Nothing) slot slot' old new = Waits d queue slot slot' old new × SawAtQueue d queue new (HasNothing d.setup queue)
TakesFrom d queue (Ok takes.Closed) slot slot' old new = Waits d queue slot slot' old new × SawAtQueue d queue new (IsShut d.setup queue)
TakesFrom d queue (Err stopped) slot slot' old new = Waits d queue slot slot' old new × IsStopAt new stopped

-- a request was taken, or the queue is closed, and nothing waits there
abbrev pub NextFrom : Domain → ℕ → Result Bool Stopped → ServerSlot → ServerSlot → Desk → Desk → Type 0
NextFrom d queue (Ok true) slot slot' old new = Takes d queue slot slot' old new
NextFrom d queue (Ok false) slot slot' old new = Waits d queue slot slot' old new × SawAtQueue d queue new (IsShut d.setup queue)
NextFrom d queue (Err stopped) slot slot' old new = Waits d queue slot slot' old new × IsStopAt new stopped

-- so it is with one look, behind which it may have to wait
abbrev pub LooksFrom : Domain → ℕ → Result (Option Bool) Stopped → ServerSlot → ServerSlot → Desk → Desk → Type 0
LooksFrom d queue (Ok (Some took)) slot slot' old new = NextFrom d queue (Ok took) slot slot' old new
LooksFrom d queue (Ok None) slot slot' old new = Waits d queue slot slot' old new × SawAtQueue d queue new (HasNothing d.setup queue)
LooksFrom d queue (Err stopped) slot slot' old new = NextFrom d queue (Err stopped) slot slot' old new

-- ---- returning

-- the service ends its server's life with its RETURN
abbrev pub is_exit : Rval → Bool
is_exit Exit = true
is_exit value = false

-- ---- retiring

-- the worker noted that its server was given up, or not yet, and its slot is else what it was
pub record Retires (d : Domain) (slot slot' : ServerSlot) (old new : Desk) : Type 0 where
  pub more : List Event
  pub gone : All (λ e. e ≡ Gone slot.server) more
  pub steps : Steps d more old new
  pub slot_is : slot' ≡ record slot { gone = slot'.gone }
  pub idle : new.caller.phase ≡ Idle
  pub told : ToldBefore old → TellsLast new

abbrev pub RetiresAs : Domain → ℕ → Result Unit Stopped → ServerSlot → Desk → Type 0
RetiresAs d queue (Ok none) slot new = (is_gone slot.server.0 (theirs new.caller.work) ≡ true) × (SawAtQueue d queue new (LeftOthers d queue slot.server.0) ⊎ SawAtQueue d queue new (IsSwept d queue))
RetiresAs d queue (Err stopped) slot new = IsStopAt new stopped

-- the worker noted events of the domain at most
pub record OfDomainAt (d : Domain) (old new : Desk) : Type 0 where
  pub steps : Steps d [] old new
  pub idle : new.caller.phase ≡ old.caller.phase
