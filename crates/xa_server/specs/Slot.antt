-- A server's slot beside its worker's events (after Tuxedo, UBBCONFIG; that a server's worker notes its events is this project's own).
use Rattle.std.specs.Prelude.{◌≡◌, ℕ, ◌≤◌, Bool, List, [], length, IsSomeAnd}
use Rattle.xa_caller.specs.xa_types.declared.ids.ServerId.{ServerId}
use Rattle.xa_caller.specs.xa_types.Setup.{numbered}
use Rattle.xa_caller.specs.xa_events.declared.event.Doing.{Doing}
use Rattle.xa_caller.specs.xa_events.Server.{doing_after, outcome_in, is_shutdown_stop}
use Rattle.xa_caller.specs.xa_events.Caller.{open_descriptors}
use Rattle.xa_caller.specs.xa_events.Conversation.{connections}
use Rattle.xa_caller.specs.xa_events.State.{caller_of}
use Rattle.xa_caller.specs.xa_events.Views.{ServerView, server_view}
use Rattle.xa_restart.specs.Rule.{RestartState, IsRuleOf}
use Rattle.xa_caller.specs.xa_worker.Work.{WorkState, theirs}
use Rattle.xa_server.specs.declared.slot.ServerSlot.{ServerSlot}
use Rattle.xa_server.specs.declared.slot.Last.{Last}
use Rattle.xa_server.specs.Doings.{last_of, room_for, InHand}

-- the tables are what is read off the server's events
pub record Reads (view : ServerView) (made : ℕ) (starts : List ℕ) (doing : Doing) (last : Last) (gone shut : Bool) : Type 0 where
  pub moved : doing_after view.moved ≡ doing
  pub ended : last_of (outcome_in view.moved) ≡ last
  pub started : view.starts ≡ starts
  pub count : length starts ≡ made
  pub given_up : view.gone ≡ gone
  pub stopped : is_shutdown_stop view.stopped ≡ shut

abbrev pub view_of : ServerId → WorkState → ServerView
view_of server w = server_view server.0 (theirs w)

-- the worker is the server's, which is configured with that rule, and has nothing open
pub record IsWorkerOf (server : ServerId) (restarts : RestartState) (w : WorkState) : Type 0 where
  pub number : caller_of w.clients server.0 ≡ w.id.0
  pub rule : IsSomeAnd (numbered server.0 w.setup.servers) (λ configured. IsRuleOf configured restarts.restart restarts.maxgen restarts.grace)
  pub none : open_descriptors w.id.0 (theirs w) ≡ []
  pub unconnected : connections w.id.0 (theirs w) ≡ []

-- what holds of a slot, made up of these tables, and of its worker's work
pub record Stand (server : ServerId) (restarts : RestartState) (made : ℕ) (doing : Doing) (last : Last) (gone shut : Bool) (w : WorkState) : Type 0 where
  pub worker : IsWorkerOf server restarts w
  pub reads : Reads (view_of server w) made restarts.starts doing last gone shut
  pub few : made ≤ w.stamp.0
  pub ready : room_for doing ≤ w.room

abbrev pub Tables : ServerSlot → WorkState → Type 0
Tables slot w = Stand slot.server slot.restarts slot.made slot.doing slot.last slot.gone slot.shut w

-- the slot's tables are what is read off its worker's own events, and its hand has the request that it is busy with
pub record Stands (slot : ServerSlot) (w : WorkState) : Type 0 where
  pub tables : Tables slot w
  pub hand : InHand slot.doing slot.hand

-- the worker's own events are the same, it saw no smaller stamp, and has no less room
pub record SameWork (new old : WorkState) : Type 0 where
  pub setup : new.setup ≡ old.setup
  pub clients : new.clients ≡ old.clients
  pub id : new.id ≡ old.id
  pub own : theirs new ≡ theirs old
  pub later : old.stamp.0 ≤ new.stamp.0
  pub room : old.room ≤ new.room
