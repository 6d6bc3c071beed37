-- Which of its workers' halts a run tells (this project's own).
use Rattle.std.specs.Prelude.{List, [], ◌∷◌, ◌++◌, map, Option, Some, None}
use Rattle.xa_boot.specs.xa_client_worker.Ending.{here_by}
use Rattle.xa_boot.specs.xa_client_worker.declared.working.ClientWorker.{ClientWorker}
use Rattle.xa_boot.specs.xa_client_worker.declared.working.ClientWorker.TheVariants.{Left}
use Rattle.xa_boot.specs.xa_server_worker.declared.working.ServerWorker.{ServerWorker}
use Rattle.xa_boot.specs.declared.closer.Closer.{Closer}
use Rattle.xa_boot.specs.xa_desk.declared.stopped.Stopped.{Stopped}
use Rattle.xa_boot.specs.xa_desk.declared.stopped.Stopped.TheVariants.{Here}

-- the first halt that a worker came to itself comes before that one saw another halt
abbrev pub first_of : Option Stopped → Option Stopped → Option Stopped
first_of (Some (Here halt)) next = Some (Here halt)
first_of before (Some stopped) = Some stopped
first_of before None = before

-- so it is with these, one after another
abbrev pub first_among : Option Stopped → List (Option Stopped) → Option Stopped
first_among before [] = before
first_among before (next ∷ rest) = first_among (first_of before next) rest

-- why a client that left stopped
abbrev pub why_left : ClientWorker → Option Stopped
why_left (Left ended) = ended.stopped
why_left worker = None

-- why each worker stopped: the clients in their order, then the servers in theirs, and then the domain itself
abbrev pub stops_of : {L T : Type 0} → List ClientWorker → List (ServerWorker L T) → Closer → List (Option Stopped)
stops_of {L} {T} clients servers closer = map why_left clients ++ map (λ (w : ServerWorker L T). w.stopped) servers ++ here_by closer.halt ∷ []
