-- The homes of a domain in the order of their merge, and what they hold in the end (this project's own).
use Rattle.std.specs.Prelude.{◌≡◌, ℕ, ◌+◌, ◌<◌, List, [], ◌∷◌, ◌++◌, length, map, Option, Some, None}
use Rattle.std.specs.List.{filter}
use Rattle.xa_types.specs.declared.stamp.Stamp.{Stamp}
use Rattle.xa_types.specs.Setup.{numbered}
use Rattle.xa_lock.specs.declared.pass.Page.{Page}
use Rattle.xa_lock.specs.Pages.{Knows}
use Rattle.xa_worker.specs.Crew.{stands_at, IsHomeOf, IsWork, IsBooted, TellsEach}
use Rattle.xa_types.specs.declared.setup.Setup.{Setup}
use Rattle.xa_events.specs.Homes.{Home}
use Rattle.xa_events.specs.Homes.Home.{BoardHome, QueueHome, ClockHome, CallerHome}
use Rattle.xa_stamp.specs.declared.home.Stamped.{Stamped}
use Rattle.xa_stamp.specs.Home.{Notes}
use Rattle.xa_lock.specs.declared.makers.Made.{Made}
use Rattle.xa_lock.specs.Makers.{maker_of, noted_in, made_by}

abbrev pub list_in : {X : Type 0} → Option (List X) → List X
list_in None = []
list_in (Some xs) = xs

-- what stands at each home: at the board, the clock and the queues, and at each caller what it noted itself; queues and callers are counted from 1
abbrev pub kept_at : List Made → List Made → List (List Made) → List (List Stamped) → Home → List Made
kept_at board clock queues own BoardHome = board
kept_at board clock queues own (QueueHome queue) = list_in (numbered queue queues)
kept_at board clock queues own ClockHome = clock
kept_at board clock queues own (CallerHome caller) = made_by (record { 0 = caller }) (list_in (numbered caller own))

-- the worker's page of the lock at that home, which was closed with these entries: the worker's own among them are what it noted there
pub record HasPage (setup : Setup) (clients worker : ℕ) (home : Home) (entries : List Made) (noted : List Stamped) (page : Page Made) : Type 0 where
  pub maker : page.maker ≡ worker
  pub knows : Knows maker_of page entries
  pub own : noted_in page.own ≡ filter (stands_at setup clients home) noted

-- what pages have seen of each home
abbrev pub seen_at : Page Made → Page Made → (ℕ → Page Made) → Home → List Stamped
seen_at board clock queues BoardHome = noted_in board.seen
seen_at board clock queues (QueueHome queue) = noted_in (queues queue).seen
seen_at board clock queues ClockHome = noted_in clock.seen
seen_at board clock queues (CallerHome caller) = []

-- a worker that was joined, and all that it noted: by its pages of the board, the clock and the queues, and by its own home
pub record IsJoined (setup : Setup) (clients : ℕ) (last : Stamp) (board clock : List Made) (queues : List (List Made)) (own : List (List Stamped)) (worker : ℕ) (noted : List Stamped) : Type 0 where
  pub board_page : Page Made
  pub clock_page : Page Made
  pub queue_page : ℕ → Page Made
  pub work : IsWork setup clients last (seen_at board_page clock_page queue_page) worker noted
  pub at_board : HasPage setup clients worker BoardHome board noted board_page
  pub at_queue : (queue : ℕ) → HasPage setup clients worker (QueueHome queue) (list_in (numbered queue queues)) noted (queue_page queue)
  pub at_clock : HasPage setup clients worker ClockHome clock noted clock_page
  pub at_own : list_in (numbered worker own) ≡ filter (stands_at setup clients (CallerHome worker)) noted

-- the domain, the clients and the servers
abbrev pub workers_of : Setup → ℕ → ℕ
workers_of setup clients = clients + length setup.servers + 1

-- all workers are joined, and all locks are closed
pub record AllJoined (setup : Setup) (clients : ℕ) (board clock : List Made) (queues : List (List Made)) (own : List (List Stamped)) (noted : ℕ → List Stamped) : Type 0 where
  pub last : Stamp
  pub at_board : IsHomeOf (workers_of setup clients) board
  pub at_clock : IsHomeOf (workers_of setup clients) clock
  pub at_queue : (queue : ℕ) → IsHomeOf (workers_of setup clients) (list_in (numbered queue queues))
  pub booted : IsBooted setup last (noted_in board)
  pub joined : (worker : ℕ) → worker < workers_of setup clients → IsJoined setup clients last board clock queues own worker (noted worker)
  pub told : (worker : ℕ) → worker < workers_of setup clients → TellsEach setup clients (λ home. noted_in (kept_at board clock queues own home)) worker (noted worker)

-- there are as many as the setup has, and these homes hold them, in the order of the merge
pub record AreAll (setup : Setup) (clients : ℕ) (board clock : List Made) (queues : List (List Made)) (own : List (List Stamped)) (homes : List Notes) : Type 0 where
  pub all_queues : length queues ≡ length setup.queues
  pub all_callers : length own ≡ clients + length setup.servers
  pub hold : map (λ (notes : Notes). notes.entries) homes ≡ noted_in board ∷ (map noted_in queues ++ noted_in clock ∷ own)
