-- The homes go on from what each desk knows of them.
use Rattle.std.proofs.Common.{◌≡◌, ℕ, zero, suc, ◌+◌, List, [], ◌∷◌, map, length, Option, Some, None, inl, inr, refl, sym, subst, arith}
use Rattle.std.specs.Prelude.{slice_index_or, IfSome}
use Rattle.std.specs.List.{All, Contains}
use Rattle.std.proofs.lemmas.Bool.{cases_lt}
use Rattle.std.proofs.lemmas.List.Elements.{All-cons, All-weaker, All-map, All-contains_itself, Contains-append_right}
use Rattle.xa_client_worker.specs.xa_types.declared.reply.Answer.{Answer}
use Rattle.xa_client_worker.specs.xa_types.Setup.{numbered}
use Rattle.xa_client_worker.specs.xa_events.Homes.Home.{QueueHome}
use Rattle.xa_client_worker.specs.xa_lock.declared.makers.Made.{Made}
use Rattle.xa_client_worker.specs.xa_lock.declared.pass.LockPass.{LockPass}
use Rattle.xa_client_worker.specs.xa_lock.Known.{known as page_of}
use Rattle.xa_client_worker.specs.xa_lock.Makers.{maker_of as move_maker}
use Rattle.xa_client_worker.specs.xa_lock.Pages.{StartsWith, Knows}
use Rattle.xa_client_worker.specs.xa_worker.Crew.{MayNote}
use Rattle.xa_client_worker.specs.xa_cell.declared.tokens.Seat.{Seat}
use Rattle.xa_client_worker.specs.xa_cell.declared.view.Fill.{Fill}
use Rattle.xa_client_worker.specs.xa_cell.Known.{known}
use Rattle.xa_client_worker.specs.xa_cell.Views.{at}
use Rattle.xa_client_worker.specs.xa_held.declared.kept_queue.QueueNote.{QueueNote}
use Rattle.xa_client_worker.specs.xa_ticks.Clock.{made_in as moves_in}
use Rattle.xa_client_worker.specs.xa_held.Board.{maker_of as change_maker}
use Rattle.xa_client_worker.specs.xa_held.Kept.{notes_of}
use Rattle.xa_client_worker.specs.xa_held.Notes.{maker_of}
use Rattle.xa_client_worker.specs.xa_worker.Work.{WorkState}
use Rattle.xa_client_worker.specs.xa_caller.declared.cargo.Filling.{Filling}
use Rattle.xa_client_worker.specs.xa_server.Fillings.{EndsAt, HasEnd, AllEnded}
use Rattle.xa_client_worker.proofs.xa_server.Joining.{taken_ended}
use Rattle.xa_client_worker.proofs.xa_server.Standing.{own_ended}
use Rattle.xa_client_worker.specs.xa_desk.declared.domain.Domain.{Domain}
use Rattle.xa_client_worker.specs.xa_desk.declared.desk.Desk.{Desk}
use Rattle.xa_client_worker.specs.xa_desk.Whole.{Whole, entries_of}
use Rattle.xa_client_worker.specs.xa_desk.Desks.{IsThere, GoesOn, page_in, queue_page}
use Rattle.xa_history.specs.Joined.{Back, whole_of, HasLeft, AllLeft}
use Rattle.xa_history.proofs.Listed.{all_mapped, all_both, all_numbered, none_past}
use Rattle.xa_history.proofs.Left.{same_queue, queues_count, desk_left}
use Rattle.xa_history.proofs.Standing.{stands_whole, may_at}

-- what a pass saw stands first
front_in : {E : Type 0} (maker : E → ℕ) (entries : List E) (o : Option (LockPass E)) → IsThere (λ pass. Knows maker (page_of pass) entries) o → StartsWith entries (page_in o).seen
front_in maker entries None knows = absurd knows
front_in maker entries (Some pass) knows = knows.1

none_answered : (entries : Whole) (fill : Fill Filling) → fill.answer.answer ≡ None → HasEnd (entries_of entries) fill
none_answered whole fill none = subst (λ (o : Option Answer). IfSome o (EndsAt (entries_of whole) fill.opening.request fill.answer.stamp)) (sym none) tt

module _ (d : Domain) (b : Back) (domain : WorkState) (desks : List Desk) (all : AllLeft d b domain desks) where
  abbrev whole : Whole
  whole = whole_of d b

  queues_begin : (desk : Desk) → HasLeft d b desk → (queue : ℕ) → StartsWith (notes_of (whole.queues queue)) (queue_page desk queue).seen
  queues_begin desk left zero = (notes_of (whole.queues zero), refl)
  queues_begin desk left (suc k) = elim (cases_lt k (length d.queues.items)) [
    | inl low ↦
        let next : k + 1 ≡ suc k = omega arith in
        subst (λ (n : ℕ). StartsWith (notes_of (whole.queues n)) (page_in (slice_index_or desk.queues.items k None)).seen) next (front_in maker_of (notes_of (whole.queues (k + 1))) (slice_index_or desk.queues.items k None) (left.queues k low))
    | inr past ↦
        let none : slice_index_or desk.queues.items k None ≡ None = none_past desk.queues.items k None (let count = left.is.count in omega (arith, past, count)) in
        subst (λ (o : Option (LockPass (QueueNote Filling))). StartsWith (notes_of (whole.queues (suc k))) (page_in o).seen) (sym none) (notes_of (whole.queues (suc k)), refl)
  ]

  -- each filling has its end, and so has what each seat took
  desk_ended : (desk : Desk) → HasLeft d b desk → AllEnded (entries_of whole) (known desk.caller.seat)
  desk_ended desk left =
      own_ended d.setup d.clients (entries_of whole) desk.caller.work.own (known desk.caller.seat) (stands_whole d b desk.caller.work.id.0 desk.caller.work.own (desk_left d b (queues_count d b domain desks all) desk left)) left.is.filled

  abbrev Ended : Seat Filling → Type 0
  Ended seat = AllEnded (entries_of whole) (known seat)

  abbrev seat_of : Desk → Seat Filling
  seat_of desk = desk.caller.seat

  seats_ended : All Ended b.seats
  seats_ended =
      subst (All Ended) (sym all.seats) (All-cons Ended all.seat (map seat_of desks)
      (record { each = λ k. All-weaker (λ (fill : Fill Filling). fill.answer.answer ≡ None) (HasEnd (entries_of whole)) (none_answered whole) (at k (known all.seat)).filled (all.silent k) })
      (All-map Ended seat_of desks (All-weaker (HasLeft d b) (λ desk. Ended (seat_of desk)) desk_ended desks all.left)))

  pub among : All (λ desk. Contains b.seats (seat_of desk)) desks
  among =
      let later : All (Contains b.seats) (map seat_of desks) =
      All-weaker (Contains (map seat_of desks)) (Contains b.seats) (λ seat here. subst (λ (l : List (Seat Filling)). Contains l seat) (sym all.seats) (Contains-append_right (all.seat ∷ []) (map seat_of desks) seat here)) (map seat_of desks) (All-contains_itself (map seat_of desks)) in
      all_mapped (Contains b.seats) seat_of desks later

  goes_on : (desk : Desk) → HasLeft d b desk → Contains b.seats (seat_of desk) → GoesOn d whole desk
  goes_on desk left here = record {
    sound = all.board;
    board = front_in change_maker b.board.notes desk.board left.board;
    queues = queues_begin desk left;
    clock = front_in move_maker (moves_in b.clock.entries) desk.clock left.clock;
    may = λ queue. subst (All (λ (made : Made). MayNote d.clients made.maker.0 made.noted.event)) (same_queue d b queue) (may_at d b domain desks all (QueueHome queue));
    stand = stands_whole d b desk.caller.work.id.0 desk.caller.work.own (desk_left d b (queues_count d b domain desks all) desk left);
    ended = taken_ended (entries_of whole) b.seats all.answered seats_ended (seat_of desk) here;
  }

  pub desks_go_on : All (GoesOn d whole) desks
  desks_go_on = all_both (HasLeft d b) (λ desk. Contains b.seats (seat_of desk)) (GoesOn d whole) desks goes_on all.left among

  pub one_goes_on : (worker : ℕ) (desk : Desk) → numbered worker desks ≡ Some desk → GoesOn d whole desk
  one_goes_on worker desk there = all_numbered (GoesOn d whole) worker desks desk desks_go_on there
