-- What the setup of a domain says: numbers of queues, servers and shapes, and the attributes of services (after Tuxedo, UBBCONFIG; its form is
-- this project's own).
use Rattle.std.specs.Prelude.{ℕ, zero, suc, ◌+◌, Bool, List, Option, Some, None}
use Rattle.std.specs.List.{slice_get, find, position}
use Rattle.std.specs.Str.{bytes_eq}
use Rattle.xa_types.specs.declared.setup.Setup.{Setup}
use Rattle.xa_types.specs.declared.setup.QueueSetup.{QueueSetup}
use Rattle.xa_types.specs.declared.setup.ServerSetup.{ServerSetup}
use Rattle.xa_types.specs.declared.setup.ServiceSetup.{ServiceSetup}

-- the entry with that number, counted from 1
abbrev pub numbered : {X : Type 0} → ℕ → List X → Option X
numbered zero entries = None
numbered (suc n) entries = slice_get entries n

abbrev pub counted_from_1 : Option ℕ → ℕ
counted_from_1 None = 0
counted_from_1 (Some place) = place + 1

-- the number, from 1, of the first entry that passes; 0 where none does
abbrev pub number_of : {X : Type 0} → (X → Bool) → List X → ℕ
number_of p entries = counted_from_1 (position p entries)

-- the queue of that name; 0 where there is none
abbrev pub queue_named : Setup → List ℕ → ℕ
queue_named setup name = number_of (λ (queue : QueueSetup). bytes_eq queue.name name) setup.queues

abbrev pub queue_in : Setup → Option ServerSetup → ℕ
queue_in setup None = 0
queue_in setup (Some server) = queue_named setup server.queue

-- the queue from which a server takes requests; 0 where the server or its queue isn't there
abbrev pub queue_of : Setup → ℕ → ℕ
queue_of setup server = queue_in setup (numbered server setup.servers)

abbrev pub capacity_in : Option QueueSetup → ℕ
capacity_in None = 0
capacity_in (Some queue) = queue.capacity

-- how many requests may wait at a queue, which is this project's own; none at a queue that isn't there
abbrev pub capacity_of : Setup → ℕ → ℕ
capacity_of setup queue = capacity_in (numbered queue setup.queues)

-- the service as it is configured
abbrev pub service_named : Setup → List ℕ → Option ServiceSetup
service_named setup name = find (λ (service : ServiceSetup). bytes_eq service.name name) setup.services
