-- How a queue under a lock is kept. No public contract rests on this file.
use Rattle.std.specs.List.{All}
use Rattle.xa_held.specs.declared.kept_queue.KeptQueue.TheInside.{Inside}
use Rattle.xa_held.specs.Notes.{IsOwn}
use Rattle.xa_held.specs.Kept.{Kept, IsRight, IsBrought, IsSentLast}

module _ {A : Type 0} where
  abbrev pub kept_of : Inside A → Kept A
  kept_of k = record { queue = k.queue; clients = k.clients; cells = k.cells.value }

  pub record IsKept (k : Inside A) : Type 0 where
    pub right : All (IsRight k.cells.value) k.queue.waiting
    pub brought : All (IsBrought k.queue.entries) k.queue.waiting
    pub last : All (IsSentLast k.queue) k.queue.waiting
    pub owners : All (IsOwn k.clients) k.queue.entries
