-- What a domain leaves once all its workers have left: its homes, and what each worker's desk was (this project's own).
use Rattle.std.specs.Prelude.{◌≡◌, ℕ, zero, suc, ◌+◌, ◌<◌, false, List, [], ◌∷◌, map, length, Option, Some, None, option_map, slice_index_or}
use Rattle.std.specs.List.{All, filter}
use Rattle.xa_client_worker.specs.xa_types.Setup.{numbered}
use Rattle.xa_client_worker.specs.xa_events.Homes.{Home}
use Rattle.xa_client_worker.specs.xa_events.Homes.Home.{BoardHome, QueueHome, CallerHome}
use Rattle.xa_client_worker.specs.xa_stamp.declared.home.Stamped.{Stamped}
use Rattle.xa_client_worker.specs.xa_lock.declared.makers.Made.{Made}
use Rattle.xa_client_worker.specs.xa_lock.declared.pass.Page.{Page}
use Rattle.xa_client_worker.specs.xa_lock.Known.{known as page_of}
use Rattle.xa_client_worker.specs.xa_lock.Makers.{maker_of as move_maker, noted_in}
use Rattle.xa_client_worker.specs.xa_lock.Pages.{Knows, entries_by}
use Rattle.xa_client_worker.specs.xa_worker.Crew.{IsBooted, no_stamp, stands_at}
use Rattle.xa_client_worker.specs.xa_worker.Ending.{kept_at, list_in, workers_of}
use Rattle.xa_client_worker.specs.xa_cell.declared.tokens.Seat.{Seat}
use Rattle.xa_client_worker.specs.xa_cell.Known.{known}
use Rattle.xa_client_worker.specs.xa_cell.Law.{Answered}
use Rattle.xa_client_worker.specs.xa_cell.Views.{at}
use Rattle.xa_client_worker.specs.xa_queue.Queue.{IsSound as IsSoundQueue}
use Rattle.xa_client_worker.specs.xa_queue.Reading.{ReadsAsNoted as QueueReads}
use Rattle.xa_client_worker.specs.xa_board.Board.{ReadsAsNoted as BoardReads}
use Rattle.xa_client_worker.specs.xa_ticks.Clock.{ClockState, ReadsAsNoted as ClockReads, made_in as moves_in}
use Rattle.xa_client_worker.specs.xa_held.declared.kept_board.BoardNote.{BoardNote}
use Rattle.xa_client_worker.specs.xa_held.declared.kept_queue.QueueNote.{QueueNote}
use Rattle.xa_client_worker.specs.xa_held.Board.{Held, IsSoundBoard, made_in, maker_of as change_maker}
use Rattle.xa_client_worker.specs.xa_held.Joins.{changes_at, changes_page}
use Rattle.xa_client_worker.specs.xa_held.Kept.{Kept, notes_of, setting_of}
use Rattle.xa_client_worker.specs.xa_held.Notes.{maker_of, made_page}
use Rattle.xa_client_worker.specs.xa_worker.Work.{WorkState, IsSound, IsWorkOf}
use Rattle.xa_client_worker.specs.xa_caller.declared.cargo.Filling.{Filling}
use Rattle.xa_client_worker.specs.xa_desk.declared.domain.Domain.{Domain}
use Rattle.xa_client_worker.specs.xa_desk.declared.desk.Desk.{Desk}
use Rattle.xa_client_worker.specs.xa_desk.Whole.{Whole}
use Rattle.xa_client_worker.specs.xa_desk.Made.{IsMade}
use Rattle.xa_client_worker.specs.xa_desk.Desks.{IsDomain, IsDesk, IsGrounded, IsSettingOf, IsThere, Shows}

-- the board, the queues and the clock as their locks gave them back, the queues in their order, what each caller noted at its own home, from caller 1 on,
-- and all seats
pub record Back : Type 0 where
  pub board : Held
  pub queues : List (Kept Filling)
  pub clock : ClockState
  pub own : List (List Stamped)
  pub seats : List (Seat Filling)

-- a queue that isn't there
abbrev pub no_queue : Domain → ℕ → Kept Filling
no_queue d queue = record {
  queue = record { id = record { 0 = queue }; capacity = 0; servers = []; first = no_stamp; entries = []; waiting = []; takes = 0; down = false; closed = false; gone = [] };
  clients = d.clients;
  cells = d.cells;
}

abbrev pub kept_or : Kept Filling → Option (Kept Filling) → Kept Filling
kept_or default None = default
kept_or default (Some kept) = kept

-- these as the homes in the end
abbrev pub whole_of : Domain → Back → Whole
whole_of d b = record {
  board = b.board;
  queues = λ queue. kept_or (no_queue d queue) (numbered queue b.queues);
  clock = moves_in b.clock.entries;
  callers = λ caller. list_in (numbered caller b.own);
}

-- the same with the makers
abbrev pub kept_of : Back → Home → List Made
kept_of b = kept_at (made_in b.board.notes) (moves_in b.clock.entries) (map (λ (kept : Kept Filling). kept.queue.entries) b.queues) b.own

-- what each worker noted: the domain itself, and then the callers by their desks
abbrev pub noted_of : WorkState → List Desk → ℕ → List Stamped
noted_of domain desks zero = domain.own
noted_of domain desks (suc n) = list_in (option_map (λ (desk : Desk). desk.caller.work.own) (numbered (suc n) desks))

-- a caller's desk behind its work: each of its passes knows its home as that was given back, and its own home has what it noted there
pub record HasLeft (d : Domain) (b : Back) (desk : Desk) : Type 0 where
  pub is : IsDesk d desk
  pub sound : IsSound desk.caller.work
  pub board : IsThere (λ pass. Knows change_maker (page_of pass) b.board.notes) desk.board
  pub queues : (k : ℕ) → k < length d.queues.items → IsThere (λ pass. Knows maker_of (page_of pass) (notes_of ((whole_of d b).queues (k + 1)))) (slice_index_or desk.queues.items k None)
  pub clock : IsThere (λ pass. Knows move_maker (page_of pass) (moves_in b.clock.entries)) desk.clock
  pub home : list_in (numbered desk.caller.work.id.0 b.own) ≡ filter (stands_at d.setup d.clients (CallerHome desk.caller.work.id.0)) desk.caller.work.own

-- the domain itself, which is caller 0: what it noted, what it knows of the board and of the queues by its own passes, and that it never moved the clock
pub record IsDomainOf (d : Domain) (b : Back) (domain : WorkState) : Type 0 where
  pub id : domain.id.0 ≡ 0
  pub work : IsWorkOf d.setup d.clients 0 domain.own
  pub made : All (λ (x : Stamped). IsMade x.event) domain.own
  pub shows : Shows d (whole_of d b) domain
  pub board : Page BoardNote
  pub boards : board.maker ≡ 0
  pub knows_board : Knows change_maker board b.board.notes
  pub at_board : noted_in (changes_page board).own ≡ filter (stands_at d.setup d.clients BoardHome) domain.own
  pub grounded : All (IsGrounded domain.own) board.own
  pub page : ℕ → Page (QueueNote Filling)
  pub pages : (queue : ℕ) → (page queue).maker ≡ 0
  pub knows : (queue : ℕ) → Knows maker_of (page queue) (notes_of ((whole_of d b).queues queue))
  pub at_queue : (queue : ℕ) → noted_in (made_page (page queue)).own ≡ filter (stands_at d.setup d.clients (QueueHome queue)) domain.own
  pub at_clock : entries_by move_maker 0 (moves_in b.clock.entries) ≡ []

-- a queue as its lock gave it back
pub record IsQueueOf (d : Domain) (queue : ℕ) (kept : Kept Filling) : Type 0 where
  pub setting : IsSettingOf d queue (setting_of kept)
  pub sound : IsSoundQueue kept.queue
  pub reads : QueueReads kept.queue
  pub makers : All (λ note. maker_of note < workers_of d.setup d.clients) (notes_of kept)

-- all workers have left: the locks gave the homes back, and the cells were closed with all seats, of which that of the domain told no answer
pub record AllLeft (d : Domain) (b : Back) (domain : WorkState) (desks : List Desk) : Type 0 where
  pub is : IsDomain d
  pub count : length desks ≡ d.clients + length d.setup.servers
  pub ids : (worker : ℕ) (desk : Desk) → numbered worker desks ≡ Some desk → desk.caller.work.id.0 ≡ worker
  pub left : All (HasLeft d b) desks
  pub itself : IsDomainOf d b domain
  pub own : length b.own ≡ length desks
  pub board : IsSoundBoard b.board
  pub reads : BoardReads b.board.board
  pub makers : All (λ note. change_maker note < workers_of d.setup d.clients) b.board.notes
  pub booted : IsBooted d.setup d.booted (changes_at b.board.notes)
  pub queues : length b.queues ≡ length d.setup.queues
  pub each : (queue : ℕ) (kept : Kept Filling) → numbered queue b.queues ≡ Some kept → IsQueueOf d queue kept
  pub clock : ClockReads b.clock
  pub movers : All (λ move. move_maker move < workers_of d.setup d.clients) (moves_in b.clock.entries)
  pub seat : Seat Filling
  pub seats : b.seats ≡ seat ∷ map (λ (desk : Desk). desk.caller.seat) desks
  pub silent : (k : ℕ) → All (λ fill. fill.answer.answer ≡ None) (at k (known seat)).filled
  pub answered : (k : ℕ) → Answered k b.seats
