-- When callers are told, beside the end of a server's life (XATMI, tpgetrply; the order at an end is this project's own). Lists of entries have the
-- oldest first.
use Rattle.std.specs.Prelude.{◌≡◌, ℕ, ◌+◌, ◌<◌, ◌≤◌, ◌||◌, Bool, true, false, List, [], ◌∷◌, ◌++◌, length, IsSomeAnd, ⊤, if◌then◌else◌}
use Rattle.std.specs.List.{All, Contains, flat_map}
use Rattle.xa_client_worker.specs.xa_types.declared.ids.ServerId.{ServerId}
use Rattle.xa_client_worker.specs.xa_types.declared.setup.Setup.{Setup}
use Rattle.xa_client_worker.specs.xa_types.Setup.{queue_of}
use Rattle.xa_client_worker.specs.xa_types.declared.stamp.Stamp.{Stamp}
use Rattle.xa_client_worker.specs.xa_events.declared.event.Event.{Event}
use Rattle.xa_client_worker.specs.xa_events.declared.event.Event.TheVariants.{Withdraw, Sweep, Gone, Down, Start, StartFailed, End, Answer}
use Rattle.xa_client_worker.specs.xa_events.declared.event.Replied.{Replied}
use Rattle.xa_client_worker.specs.xa_events.Answers.{IsAnswerTo}
use Rattle.xa_client_worker.specs.xa_events.Homes.{worker_of}
use Rattle.xa_client_worker.specs.xa_events.Request.{settlement_in}
use Rattle.xa_client_worker.specs.xa_events.State.{caller_of}
use Rattle.xa_client_worker.specs.xa_stamp.declared.home.Stamped.{Stamped}
use Rattle.xa_client_worker.specs.xa_stamp.Home.{Notes, Rises}
use Rattle.xa_server_worker.specs.Behind.{is_lost, exits_next}

-- the entries of all homes
abbrev pub all_noted : List Notes → List Stamped
all_noted homes = flat_map (λ (notes : Notes). notes.entries) homes

abbrev pub is_start : Event → Bool
is_start (Start b) = true
is_start (StartFailed b) = true
is_start e = false

abbrev pub is_sweep : Event → Bool
is_sweep (Sweep x) = true
is_sweep e = false

-- the entries up to the next start that was tried
abbrev pub to_start : List Stamped → List Stamped
to_start [] = []
to_start (x ∷ later) = if is_start x.event then [] else x ∷ to_start later

-- if a life ends with that entry, as it was lost or by a Stop by TPEXIT right behind it, what a worker noted behind the entry, up to the next start of its
-- server that was tried, has smaller stamps than that one; but for requests that it swept
abbrev pub IsOverBefore : List Stamped → Stamped → Bool → Stamp → Type 0
IsOverBefore own entry lost stamp = (before after : List Stamped) → own ≡ before ++ entry ∷ after → (lost || exits_next after) ≡ true → All (λ (x : Stamped). is_sweep x.event ≡ false → x.stamp.0 < stamp.0) (to_start after)

-- where the event ends a request with which the life of its server ends, lost or by TPEXIT, the life's end is over before that stamp: its Stop, and if the
-- server is given up its Gone, and the Withdraw of rows and the Down of its queue that its worker noted behind that. Servers are counted from 1
abbrev pub LostBefore : ℕ → (ℕ → List Stamped) → Stamped → Stamp → Event → Type 0
LostBefore clients noted entry stamp (End e) = 0 < e.server.0 → IsOverBefore (noted (caller_of clients e.server.0)) entry (is_lost e.outcome) stamp
LostBefore clients noted entry stamp e = ⊤

-- the answer with that stamp tells how its request was settled, by an entry with a smaller one; if a life ended with that, its end was over before
pub record TellsAfter (clients : ℕ) (homes : List Notes) (noted : ℕ → List Stamped) (stamp : Stamp) (a : Replied) : Type 0 where
  pub entry : Stamped
  pub stands : Contains (all_noted homes) entry
  pub before : entry.stamp.0 < stamp.0
  pub tells : IsSomeAnd (settlement_in a.request entry.event) (IsAnswerTo a.answer)
  pub over : LostBefore clients noted entry stamp entry.event

-- the worker, which noted these, gave the queue's last server up before that stamp: any other of that queue had been given up by then
pub record GaveUpLast (setup : Setup) (clients : ℕ) (homes : List Notes) (worker : ℕ) (own : List Stamped) (queue : ℕ) (stamp : Stamp) : Type 0 where
  pub server : ServerId
  pub its : queue_of setup server.0 ≡ queue
  pub by : caller_of clients server.0 ≡ worker
  pub reach : Stamp
  pub stands : Contains own (record { stamp = reach; event = Gone server })
  pub before : reach.0 < stamp.0
  pub last : (x : Stamped) (other : ServerId) → Contains (all_noted homes) x → x.event ≡ Gone other → queue_of setup other.0 ≡ queue → x.stamp.0 ≤ reach.0

-- the worker withdraws a row of a queue, takes it down or sweeps a request there only behind that
abbrev pub ClearsLast : Setup → ℕ → List Notes → ℕ → List Stamped → Stamp → Event → Type 0
ClearsLast setup clients homes worker own stamp (Withdraw w) = w.by.0 ≡ 0 → GaveUpLast setup clients homes worker own w.queue.0 stamp
ClearsLast setup clients homes worker own stamp (Sweep x) = GaveUpLast setup clients homes worker own x.queue.0 stamp
ClearsLast setup clients homes worker own stamp (Down queue) = GaveUpLast setup clients homes worker own queue.0 stamp
ClearsLast setup clients homes worker own stamp e = ⊤

-- what each worker noted stands at the homes, and its stamps rise; each entry of the homes is among what some worker noted, and each event of a client or
-- of a server among what that one's worker noted; a queue is cleared by the worker of its last server, behind that one's Gone; and each answer tells what
-- befell its request
pub record AreTold (setup : Setup) (clients : ℕ) (homes : List Notes) : Type 0 where
  pub noted : ℕ → List Stamped
  pub rises : (worker : ℕ) → worker < clients + length setup.servers + 1 → Rises (record { 0 = 0 }) (noted worker)
  pub stand : (worker : ℕ) → worker < clients + length setup.servers + 1 → All (Contains (all_noted homes)) (noted worker)
  pub all : (x : Stamped) → Contains (all_noted homes) x → (worker : ℕ) × (worker < clients + length setup.servers + 1) × Contains (noted worker) x
  pub own : (x : Stamped) → Contains (all_noted homes) x → 0 < worker_of clients x.event → Contains (noted (worker_of clients x.event)) x
  pub clears : (worker : ℕ) → worker < clients + length setup.servers + 1 → All (λ (x : Stamped). ClearsLast setup clients homes worker (noted worker) x.stamp x.event) (noted worker)
  pub told : (x : Stamped) (a : Replied) → Contains (all_noted homes) x → x.event ≡ Answer a → TellsAfter clients homes noted x.stamp a
