-- Where an event stands, and whose activity it is (this project's own). Each event is one step at one home: at the board, a queue or the clock,
-- or in the record of a caller. It is made by one worker: the domain itself, a client or a server.
use Rattle.std.specs.Prelude.{◌≡◌, ℕ, zero, suc, ◌+◌, ◌==◌, ◌&&◌, Bool, true, false, List, [], ◌∷◌, ◌++◌, length, map}
use Rattle.std.specs.List.{filter}
use Rattle.xa_types.specs.declared.setup.Setup.{Setup}
use Rattle.xa_types.specs.Setup.{queue_of}
use Rattle.xa_events.specs.State.{caller_of}
use Rattle.xa_events.specs.Words.{count, IsEarlier}
use Rattle.xa_events.specs.declared.event.Event.{Event}
use Rattle.xa_events.specs.declared.event.Event.TheVariants.{Advertise, Withdraw, Accept, Take, Forward, Sweep, Gone, Down, Close, Tick, Start, StartFailed, End, Stop, Answer, Cancel, Lapse, Refuse, NotYet, Leave, Send, Receive, Break, Priority}

pub data Home : Type 0 where
  BoardHome : Home
  QueueHome : (queue : ℕ) → Home
  ClockHome : Home
  CallerHome : (caller : ℕ) → Home

-- so many numbers, from the first one on
abbrev pub numbers_from : ℕ → ℕ → List ℕ
numbers_from first zero = []
numbers_from first (suc n) = first ∷ numbers_from (first + 1) n

-- all homes of a domain with so many clients: the board, the queues, the clock, and the callers, which are the clients and then the servers
abbrev pub all_homes : Setup → ℕ → List Home
all_homes setup clients = BoardHome ∷ (map QueueHome (numbers_from 1 (length setup.queues)) ++ ClockHome ∷ map CallerHome (numbers_from 1 (clients + length setup.servers)))

abbrev pub same_home : Home → Home → Bool
same_home BoardHome BoardHome = true
same_home (QueueHome a) (QueueHome b) = a == b
same_home ClockHome ClockHome = true
same_home (CallerHome a) (CallerHome b) = a == b
same_home _ _ = false

-- where the event stands; a server's own events stand in the record of its caller
abbrev pub home_of : Setup → ℕ → Event → Home
home_of setup clients (Advertise a) = BoardHome
home_of setup clients (Withdraw w) = BoardHome
home_of setup clients (Accept a) = QueueHome a.queue.0
home_of setup clients (Take t) = QueueHome (queue_of setup t.server.0)
home_of setup clients (Forward f) = QueueHome f.queue.0
home_of setup clients (Sweep x) = QueueHome x.queue.0
home_of setup clients (Gone server) = QueueHome (queue_of setup server.0)
home_of setup clients (Down queue) = QueueHome queue.0
home_of setup clients (Close queue) = QueueHome queue.0
home_of setup clients (Tick t) = ClockHome
home_of setup clients (Start s) = CallerHome (caller_of clients s.server.0)
home_of setup clients (StartFailed s) = CallerHome (caller_of clients s.server.0)
home_of setup clients (End e) = CallerHome (caller_of clients e.server.0)
home_of setup clients (Stop x) = CallerHome (caller_of clients x.server.0)
home_of setup clients (Answer a) = CallerHome a.by.0
home_of setup clients (Cancel c) = CallerHome c.by.0
home_of setup clients (Lapse l) = CallerHome l.by.0
home_of setup clients (Refuse r) = CallerHome r.by.0
home_of setup clients (NotYet n) = CallerHome n.by.0
home_of setup clients (Leave client) = CallerHome client.0
home_of setup clients (Send s) = CallerHome s.by.0
home_of setup clients (Receive r) = CallerHome r.by.0
home_of setup clients (Break b) = CallerHome b.by.0
home_of setup clients (Priority p) = CallerHome p.by.0

-- whose activity the event is, by the number of the caller
abbrev pub worker_of : ℕ → Event → ℕ
worker_of clients (Advertise a) = a.by.0
worker_of clients (Withdraw w) = w.by.0
worker_of clients (Accept a) = a.by.0
worker_of clients (Take t) = caller_of clients t.server.0
worker_of clients (Forward f) = caller_of clients f.server.0
worker_of clients (Sweep x) = 0
worker_of clients (Gone server) = caller_of clients server.0
worker_of clients (Down queue) = 0
worker_of clients (Close queue) = 0
worker_of clients (Tick t) = t.by.0
worker_of clients (Start s) = caller_of clients s.server.0
worker_of clients (StartFailed s) = caller_of clients s.server.0
worker_of clients (End e) = caller_of clients e.server.0
worker_of clients (Stop x) = caller_of clients x.server.0
worker_of clients (Answer a) = a.by.0
worker_of clients (Cancel c) = c.by.0
worker_of clients (Lapse l) = l.by.0
worker_of clients (Refuse r) = r.by.0
worker_of clients (NotYet n) = n.by.0
worker_of clients (Leave client) = client.0
worker_of clients (Send s) = s.by.0
worker_of clients (Receive r) = r.by.0
worker_of clients (Break b) = b.by.0
worker_of clients (Priority p) = p.by.0

-- whether the event stands at that home
abbrev pub at_home : Setup → ℕ → Home → Event → Bool
at_home setup clients home e = same_home (home_of setup clients e) home

-- whether the event is that worker's
abbrev pub of_worker : ℕ → ℕ → Event → Bool
of_worker clients worker e = worker_of clients e == worker

-- the event is the worker's, and stands at that queue
abbrev pub is_own_at : Setup → ℕ → ℕ → ℕ → Event → Bool
is_own_at setup clients worker queue e = at_home setup clients (QueueHome queue) e && of_worker clients worker e

-- the event is that server's take of a request
abbrev pub is_take_by : ℕ → Event → Bool
is_take_by server (Take t) = t.server.0 == server
is_take_by server e = false

-- P held of the events of the server's queue at a moment not before it last took a request
pub record HeldInHand (setup : Setup) (clients server : ℕ) (P : List Event → Type 0) (past : List Event) : Type 0 where
  pub moment : List Event
  pub stood : IsEarlier moment past
  pub taken : count (is_take_by server) moment ≡ count (is_take_by server) past
  pub held : P (filter (at_home setup clients (QueueHome (queue_of setup server))) moment)

-- P held of the queue's events at a moment not before the worker's last event there
pub record HeldSince (setup : Setup) (clients worker queue : ℕ) (P : List Event → Type 0) (past : List Event) : Type 0 where
  pub moment : List Event
  pub stood : IsEarlier moment past
  pub own : count (is_own_at setup clients worker queue) moment ≡ count (is_own_at setup clients worker queue) past
  pub held : P (filter (at_home setup clients (QueueHome queue)) moment)
