-- What the locks and the cells of a domain give back, once all their passes and seats are there (this project's own).
use Rattle.std.specs.Prelude.{◌≡◌, ℕ, ◌+◌, ◌<◌, List, ◌∷◌, length, map, None, slice_index_or, Some}
use Rattle.std.specs.List.{All}
use Rattle.xa_boot.specs.xa_types.Setup.{numbered}
use Rattle.xa_boot.specs.xa_stamp.Home.{Notes}
use Rattle.xa_boot.specs.xa_lock.Known.{known as page_of}
use Rattle.xa_boot.specs.xa_lock.Makers.{maker_of as move_maker}
use Rattle.xa_boot.specs.xa_lock.Pages.{Knows}
use Rattle.xa_boot.specs.xa_worker.Ending.{workers_of}
use Rattle.xa_boot.specs.xa_cell.declared.tokens.Seat.{Seat}
use Rattle.xa_boot.specs.xa_cell.Known.{known}
use Rattle.xa_boot.specs.xa_cell.Law.{Answered}
use Rattle.xa_boot.specs.xa_cell.Views.{at}
use Rattle.xa_boot.specs.xa_board.Board.{ReadsAsNoted as BoardReads}
use Rattle.xa_boot.specs.xa_ticks.Clock.{ReadsAsNoted as ClockReads, made_in as moves_in}
use Rattle.xa_boot.specs.xa_held.Board.{IsSoundBoard, maker_of as change_maker}
use Rattle.xa_boot.specs.xa_held.Kept.{Kept, notes_of}
use Rattle.xa_boot.specs.xa_held.Notes.{maker_of}
use Rattle.xa_boot.specs.xa_caller.declared.cargo.Filling.{Filling}
use Rattle.xa_boot.specs.xa_desk.declared.domain.Domain.{Domain}
use Rattle.xa_boot.specs.xa_desk.Desks.{IsThere}
use Rattle.xa_history.specs.Joined.{Back, IsQueueOf, whole_of}
use Rattle.xa_history.specs.Served.{HoldAll}
use Rattle.xa_domain.specs.Leaving.{Leaving}

-- what the worker's passes know of the homes as they were given back
pub record KnowsHomes (d : Domain) (b : Back) (l : Leaving) : Type 0 where
  pub board_known : IsThere (λ pass. Knows change_maker (page_of pass) b.board.notes) l.board
  pub queues_known : (k : ℕ) → k < length d.queues.items → IsThere (λ pass. Knows maker_of (page_of pass) (notes_of ((whole_of d b).queues (k + 1)))) (slice_index_or l.queues k None)
  pub clock_known : IsThere (λ pass. Knows move_maker (page_of pass) (moves_in b.clock.entries)) l.clock

-- the homes as they were given back of a domain with these workers, the domain itself first: what still waited was let go of by its seat, without an answer
pub record GivesBack (d : Domain) (itself : Leaving) (others : List Leaving) (callers : List Notes) (b : Back) (homes : List Notes) : Type 0 where
  pub itself_known : KnowsHomes d b itself
  pub others_known : All (KnowsHomes d b) others
  pub own_are : b.own ≡ map (λ (notes : Notes). notes.entries) callers
  pub sound : IsSoundBoard b.board
  pub reads : BoardReads b.board.board
  pub makers : All (λ note. change_maker note < workers_of d.setup d.clients) b.board.notes
  pub count : length b.queues ≡ length d.setup.queues
  pub each : (queue : ℕ) (kept : Kept Filling) → numbered queue b.queues ≡ Some kept → IsQueueOf d queue kept
  pub clock : ClockReads b.clock
  pub movers : All (λ move. move_maker move < workers_of d.setup d.clients) (moves_in b.clock.entries)
  pub seat : Seat Filling
  pub seats_are : b.seats ≡ seat ∷ map (λ (l : Leaving). l.seat) others
  pub silent : (k : ℕ) → All (λ fill. fill.answer.answer ≡ None) (at k (known seat)).filled
  pub answered : (k : ℕ) → Answered k b.seats
  pub hold : HoldAll d b homes
