-- A server's worker that passes its request on to another service (after Tuxedo, tpforward).
use Rattle.std.specs.Prelude.{◌≡◌, ℕ, true, List, Some, IsSomeAnd}
use Rattle.std.specs.List.{Contains}
use Rattle.xa_server.specs.xa_types.declared.row.Row.{Row}
use Rattle.xa_server.specs.xa_types.Kind.{is_accepted, kind_of}
use Rattle.xa_server.specs.xa_events.declared.event.Event.{Event}
use Rattle.xa_server.specs.xa_events.declared.event.Event.TheVariants.{Forward}
use Rattle.xa_server.specs.xa_events.Local.{Forwardable}
use Rattle.xa_server.specs.xa_events.Request.{is_entry_of}
use Rattle.xa_server.specs.xa_events.Words.{latest}
use Rattle.xa_server.specs.xa_queue.declared.entry.Entry.{Entry}
use Rattle.xa_server.specs.xa_caller.declared.outcomes.Aimed.{Aimed}
use Rattle.xa_server.specs.xa_caller.declared.outcomes.Aimed.TheVariants as aims
use Rattle.xa_server.specs.xa_caller.Drafts.{Cargo, entry_behind}
use Rattle.xa_server.specs.declared.forwarding.Forwarding.{Forwarding}
use Rattle.xa_server.specs.declared.forwarding.Forwarding.TheVariants.{On, Failed}
use Rattle.xa_server.specs.declared.slot.ServerSlot.{ServerSlot}
use Rattle.xa_server.specs.Forwarding.{IsOnWay, forwarded_by}
use Rattle.xa_desk.specs.declared.domain.Domain.{Domain}
use Rattle.xa_desk.specs.declared.desk.Desk.{Desk}
use Rattle.xa_desk.specs.Found.{HasFound, SawInHandAt}
use Rattle.xa_desk.specs.Serving.{IsServing, IsToTell}

-- the slot with that entry in hand
abbrev pub holding : Entry Cargo → ServerSlot → ServerSlot
holding entry slot = record slot { hand = Some entry }

-- the request of the server is out, as that entry, to be put by that event on the queue of one of the rows that were found; as its hand had it, the
-- server was at its queue, which was seen to have got the request so that it may be forwarded, at its take or later
pub record IsPassing (d : Domain) (queue : ℕ) (entry : Entry Cargo) (event : Event) (slot : ServerSlot) (desk : Desk) : Type 0 where
  pub serving : IsServing d queue (holding entry slot) desk
  pub way : IsOnWay entry event slot desk.caller
  pub service : List ℕ
  pub found : HasFound d service desk.reader.found desk
  pub row : Row
  pub among : Contains desk.reader.found.rows row
  pub accepts : is_accepted d.setup row.accepts (kind_of entry.cargo.invocation.payload) ≡ true
  pub entry_is : entry ≡ entry_behind entry.cargo.invocation.hop entry.request row desk.caller.priority entry.cargo.invocation.payload entry.cargo.ticket
  pub event_is : event ≡ Forward (forwarded_by slot entry.request entry.cargo.invocation.hop desk.reader.found.version row desk.caller.priority entry.cargo.invocation.payload)
  pub sent : SawInHandAt d slot.server.0 desk (λ past. IsSomeAnd (latest (is_entry_of entry.request) past) (Forwardable entry.cargo.invocation.hop))

-- the queue that the event sends a request to
abbrev pub forwarded_to : Event → ℕ
forwarded_to (Forward f) = f.queue.0
forwarded_to _ = 0

-- what a forward leaves: the request is out, or its caller is to be told that it failed
abbrev pub Leaves : Domain → ℕ → Forwarding → ServerSlot → Desk → Type 0
Leaves d queue (On entry event) slot desk = IsPassing d queue entry event slot desk
Leaves d queue (Failed closing) slot desk = IsServing d queue slot desk × IsToTell d desk closing

-- it is out still, as it comes back, where it is aimed anew with the event of that
abbrev pub StillPassing : Domain → ℕ → Event → Aimed → ServerSlot → Desk → Type 0
StillPassing d queue event (aims.At entry other) slot desk = IsPassing d queue entry other slot desk
StillPassing d queue event (aims.Past entry) slot desk = IsPassing d queue entry event slot desk
StillPassing d queue event (aims.NoMemory entry) slot desk = IsPassing d queue entry event slot desk
