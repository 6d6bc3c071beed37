-- How a queue is kept. No public contract rests on this file.
use Rattle.std.specs.Prelude.{◌≡◌, ℕ, ◌+◌, ◌<◌, ◌≤◌, cond, not, List, length, vec_capacity}
use Rattle.std.specs.List.{filter}
use Rattle.xa_types.specs.declared.ids.ServerId.{ServerId}
use Rattle.xa_queue.specs.declared.queue.Queue.TheInside.{Inside}
use Rattle.xa_queue.specs.Queue.{QueueState, IsSound, has_server}
use Rattle.xa_queue.specs.Reading.{ReadsAsNoted}

-- the servers that are left
abbrev pub servers_left : List ServerId → List ServerId → List ServerId
servers_left gone servers = filter (λ server. not (has_server server gone)) servers

module _ {C : Type 0} where
  abbrev pub standing_of : Inside C → QueueState C
  standing_of q = record {
    id = q.id;
    capacity = q.capacity;
    servers = q.servers.items;
    first = q.first;
    entries = q.kept.entries;
    waiting = q.line.waiting;
    takes = q.takes;
    down = q.down;
    closed = q.closed;
    gone = q.gone.items;
  }

  -- how many events may come that take no memory: a take or a sweep of each entry, what each server that is left may be told of, that the queue
  -- goes down, and that it is closed
  abbrev pub to_come : Inside C → ℕ
  to_come q = length q.line.waiting + length (servers_left q.gone.items q.servers.items) + cond q.down 0 1 + cond q.closed 0 1

  pub record IsKept (q : Inside C) : Type 0 where
    pub reads : ReadsAsNoted (standing_of q)
    pub sound : IsSound (standing_of q)
    pub first : q.first ≡ q.kept.first
    pub known : 0 < q.id.0
    pub some : 0 < q.capacity
    pub most : q.capacity ≤ 10000
    pub servers : length q.servers.items ≤ 64
    pub ages : q.line.next ≤ length q.kept.entries
    pub takes : q.takes ≤ length q.kept.entries
    pub room : to_come q ≤ q.kept.room
    pub places : length q.gone.items + length (servers_left q.gone.items q.servers.items) ≤ vec_capacity q.gone
