-- What a worker looked at behind a desk that it had (this project's own).
use Rattle.std.specs.Prelude.{◌≡◌, ℕ, List, ◌∷◌, ◌++◌, length}
use Rattle.xa_server.specs.xa_events.declared.event.Event.{Event}
use Rattle.xa_server.specs.xa_events.Board.{published}
use Rattle.xa_server.specs.xa_events.Queue.{waiting}
use Rattle.xa_server.specs.xa_lock.Pages.{StartsWith}
use Rattle.xa_server.specs.xa_worker.Seen.{past_in, IfNew}
use Rattle.xa_server.specs.xa_queue.declared.queue.Refusal.{Refusal}
use Rattle.xa_server.specs.xa_queue.declared.queue.Refusal.TheVariants as refusals
use Rattle.xa_server.specs.xa_held.declared.kept_board.BoardNote.{BoardNote}
use Rattle.xa_server.specs.xa_held.declared.kept_board.BoardNote.TheVariants.{Looked}
use Rattle.xa_server.specs.xa_held.declared.kept_board.Look.{Look}
use Rattle.xa_server.specs.xa_held.declared.kept_queue.QueueNote.{QueueNote}
use Rattle.xa_server.specs.xa_held.Joins.{changes_at, events_at}
use Rattle.xa_server.specs.xa_caller.declared.cargo.Filling.{Filling}
use Rattle.xa_desk.specs.declared.domain.Domain.{Domain}
use Rattle.xa_desk.specs.declared.desk.Desk.{Desk}
use Rattle.xa_desk.specs.Desks.{board_page, queue_page}

-- a look of the worker stands on the board, behind all that the old desk's pass had seen there, and showed that version
pub record LookShowed (old new : Desk) (version : ℕ) : Type 0 where
  pub before : List BoardNote
  pub look : Look
  pub rest : List BoardNote
  pub stands : (board_page new).seen ≡ before ++ Looked look ∷ rest
  pub its : look.maker ≡ new.caller.work.id
  pub later : StartsWith before (board_page old).seen
  pub shows : version ≡ published (past_in (changes_at before))

-- P holds of what the desk's pass saw of the queue last, if no request had been sent there while it waited there
abbrev pub SeesAtQueue : Domain → ℕ → Desk → (List Event → Type 0) → Type 0
SeesAtQueue d queue desk P = IfNew d.setup queue P (past_in (events_at (queue_page desk queue).seen))

-- so it held of what the pass saw there at some time, with all that the old desk's pass had seen
pub record SawQueueSince (d : Domain) (queue : ℕ) (old new : Desk) (P : List Event → Type 0) : Type 0 where
  pub front : List (QueueNote Filling)
  pub stands : StartsWith (queue_page new queue).seen front
  pub later : StartsWith front (queue_page old queue).seen
  pub shows : IfNew d.setup queue P (past_in (events_at front))

-- a queue that refused a request for being full is so as the pass saw it last
abbrev pub SeesWhy : Domain → ℕ → Refusal → Desk → Type 0
SeesWhy d queue (refusals.Full n) desk = SeesAtQueue d queue desk (λ past. length (waiting d.setup queue past) ≡ n)
SeesWhy d queue why desk = Unit {0}
