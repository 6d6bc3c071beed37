-- How a queue reads: as its events do, by each setup that has it so (this project's own).
use Rattle.std.specs.Prelude.{◌≡◌, ℕ, ◌==◌, false, List, ◌∷◌, map, reverse, IfSome}
use Rattle.std.specs.List.{All, list_any, IsDistinct}
use Rattle.xa_types.specs.declared.setup.Setup.{Setup}
use Rattle.xa_types.specs.Setup.{queue_of, capacity_of}
use Rattle.xa_events.specs.declared.event.Event.{Event}
use Rattle.xa_events.specs.Words.{AtEach, has, same_request}
use Rattle.xa_events.specs.Queue.{comes_in, waiting}
use Rattle.xa_events.specs.Request.{priority_at}
use Rattle.xa_events.specs.Order.{TakesNext}
use Rattle.xa_events.specs.Homes.{home_of}
use Rattle.xa_events.specs.Homes.Home.{QueueHome}
use Rattle.xa_events.specs.Cases.{HomePart}
use Rattle.xa_events.specs.Views.{QueueView, queue_view}
use Rattle.xa_queue.specs.Queue.{QueueState, past_of}

-- the request of an event that sends one to the queue doesn't wait there yet
abbrev pub IsNew : Setup → ℕ → Event → List Event → Type 0
IsNew setup queue e before = IfSome (comes_in queue e) (λ request. has request (waiting setup queue before) ≡ false)

-- no request is sent to the queue while it waits there
abbrev pub AllNew : Setup → ℕ → List Event → Type 0
AllNew setup queue past = AtEach (IsNew setup queue) past

-- if that was so until now, the event met what is asked of the queue's events before it, and, where it is a take, is the next by their order
abbrev pub MetIfNew : Setup → ℕ → Event → List Event → Type 0
MetIfNew setup queue e before = AllNew setup queue (e ∷ before) → HomePart setup e before × TakesNext setup e before

module _ {C : Type 0} where
  -- the setup has the queue so: its capacity, and its servers
  pub record Fits (setup : Setup) (queue : QueueState C) : Type 0 where
    pub capacity : capacity_of setup queue.id.0 ≡ queue.capacity
    pub servers : (server : ℕ) → (queue_of setup server == queue.id.0) ≡ list_any (λ own. server == own.0) queue.servers

  -- what the queue has of the view of its events
  abbrev pub view_of : QueueState C → QueueView
  view_of queue = record {
    waiting = map (λ entry. entry.request) queue.waiting;
    takes = queue.takes;
    down = queue.down;
    closed = queue.closed;
    gone = reverse (map (λ server. server.0) queue.gone);
  }

  -- the queue is what its events say, each of which stands at its home; each entry waits with the priority with which its request was sent, and no
  -- request waits twice
  pub record IsRead (setup : Setup) (queue : QueueState C) : Type 0 where
    pub view : view_of queue ≡ queue_view setup queue.id.0 (past_of queue)
    pub stand : (clients : ℕ) → AtEach (λ e _. home_of setup clients e ≡ QueueHome queue.id.0) (past_of queue)
    pub priorities : All (λ entry. priority_at (past_of queue) entry.request ≡ entry.priority) queue.waiting
    pub once : IsDistinct same_request (map (λ entry. entry.request) queue.waiting)

  -- each event met what is asked of it, and the queue reads as they do, as long as no request was sent to it while it waited there
  pub record ReadsAsNoted (queue : QueueState C) : Type 0 where
    pub met : (setup : Setup) → Fits setup queue → AtEach (MetIfNew setup queue.id.0) (past_of queue)
    pub reads : (setup : Setup) → Fits setup queue → AllNew setup queue.id.0 (past_of queue) → IsRead setup queue
