-- A queue as it stands (after Tuxedo, UBBCONFIG: servers that share a queue, and PRIO; that a queue has a capacity, and its stamps, are this
-- project's own).
use Rattle.std.specs.Prelude.{◌≡◌, ℕ, ◌≤◌, ◌==◌, Bool, true, List, [], ◌∷◌, length, map, reverse}
use Rattle.std.specs.List.{All, flat_map, list_any, list_all, IsDistinct}
use Rattle.xa_types.specs.declared.ids.QueueId.{QueueId}
use Rattle.xa_types.specs.declared.ids.ServerId.{ServerId}
use Rattle.xa_types.specs.declared.stamp.Stamp.{Stamp}
use Rattle.xa_events.specs.declared.event.Event.{Event}
use Rattle.xa_events.specs.declared.event.Event.TheVariants.{Gone}
use Rattle.xa_events.specs.Queue.{is_down, is_closed}
use Rattle.xa_stamp.specs.Home.{Rises}
use Rattle.xa_lock.specs.declared.makers.Made.{Made}
use Rattle.xa_lock.specs.Makers.{noted_in}
use Rattle.xa_queue.specs.declared.entry.Entry.{Entry}

-- what a queue is: its number, how many may wait, its servers, the stamp with which it begins, its events as they were noted, with their makers,
-- the entries that wait, the oldest first, how many were taken, whether it is down and whether it is closed, and the servers that are given up, in
-- that order
pub record QueueState (C : Type 0) : Type 0 where
  pub id : QueueId
  pub capacity : ℕ
  pub servers : List ServerId
  pub first : Stamp
  pub entries : List Made
  pub waiting : List (Entry C)
  pub takes : ℕ
  pub down : Bool
  pub closed : Bool
  pub gone : List ServerId

abbrev pub same_server : ServerId → ServerId → Bool
same_server a b = a.0 == b.0

-- the server is among these
abbrev pub has_server : ServerId → List ServerId → Bool
has_server server servers = list_any (same_server server) servers

-- each of these servers is given up
abbrev pub all_gone : List ServerId → List ServerId → Bool
all_gone gone servers = list_all (λ server. has_server server gone) servers

-- the server that the event gives up
abbrev pub gives_up : Event → List ServerId
gives_up (Gone server) = server ∷ []
gives_up _ = []

module _ {C : Type 0} where
  -- the events that were noted, in order
  abbrev pub events_of : QueueState C → List Event
  events_of queue = map (λ noted. noted.event) (noted_in queue.entries)

  -- the same, the newest first
  abbrev pub past_of : QueueState C → List Event
  past_of queue = reverse (events_of queue)

  -- no server is left
  abbrev pub none_left : QueueState C → Bool
  none_left queue = all_gone queue.gone queue.servers

  -- what holds of each queue
  pub record IsSound (queue : QueueState C) : Type 0 where
    pub few : length queue.waiting ≤ queue.capacity
    pub deserted : queue.down ≡ true → none_left queue ≡ true
    pub own : All (λ server. has_server server queue.servers ≡ true) queue.gone
    pub once : IsDistinct same_server queue.gone
    pub rises : Rises queue.first (noted_in queue.entries)
    -- what ended is read off the events: the servers of each Gone, in order, and whether a Close and a Down of it stand there
    pub given_up : queue.gone ≡ flat_map gives_up (events_of queue)
    pub shut : queue.closed ≡ is_closed queue.id.0 (past_of queue)
    pub fallen : queue.down ≡ is_down queue.id.0 (past_of queue)
