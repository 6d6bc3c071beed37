-- What a desk knows and shows goes on, as its worker visits the board.
use Rattle.std.proofs.Common.{◌≡◌, ◌≤◌, ℕ, ◌+◌, max, List, [], length, Option, Some, None, inl, inr, refl, sym, ◌∙◌, ap, subst, arith}
use Rattle.std.specs.Prelude.{slice_index_or}
use Rattle.std.specs.List.{All, Contains, filter}
use Rattle.std.proofs.lemmas.List.Elements.{All-nil, All-append, All-weaker, Contains-append_left}
use Rattle.xa_server.specs.xa_types.declared.stamp.Stamp.{Stamp}
use Rattle.xa_server.specs.xa_types.declared.ids.CallerId.{CallerId}
use Rattle.xa_server.specs.xa_events.Board.{published}
use Rattle.xa_server.specs.xa_events.Homes.{home_of}
use Rattle.xa_server.specs.xa_events.Homes.Home.{BoardHome, QueueHome, ClockHome}
use Rattle.xa_server.specs.xa_stamp.declared.home.Stamped.{Stamped}
use Rattle.xa_server.specs.xa_lock.declared.makers.Made.{Made}
use Rattle.xa_server.specs.xa_lock.declared.pass.LockPass.{LockPass}
use Rattle.xa_server.specs.xa_lock.Known.{known as page_of, IsPassOf}
use Rattle.xa_server.specs.xa_lock.Pages.{StartsWith}
use Rattle.xa_server.specs.xa_worker.Crew.{stands_at}
use Rattle.xa_server.specs.xa_worker.Seen.{past_in}
use Rattle.xa_server.specs.xa_cell.declared.tokens.Seat.{Seat}
use Rattle.xa_server.specs.xa_cell.Known.{known, IsSeatOf}
use Rattle.xa_server.specs.xa_held.declared.kept_board.BoardNote.{BoardNote}
use Rattle.xa_server.specs.xa_held.declared.kept_board.BoardNote.TheVariants.{Looked}
use Rattle.xa_server.specs.xa_held.declared.kept_queue.QueueNote.{QueueNote}
use Rattle.xa_server.specs.xa_held.Board.{Held}
use Rattle.xa_server.specs.xa_held.BoardVisits.{BoardVisits, HasStampIn, ReachesBoard}
use Rattle.xa_server.specs.xa_held.Joins.{changes_at}
use Rattle.xa_server.proofs.xa_held.Fronts.{changes_front, published-front, seen_more, sees_still, change_stands}
use Rattle.xa_server.proofs.xa_held.Owning.{board_own}
use Rattle.xa_server.specs.xa_worker.Work.{WorkState, seeing}
use Rattle.xa_server.specs.xa_caller.declared.cargo.Filling.{Filling}
use Rattle.xa_server.specs.xa_caller.Caller.{CallerState}
use Rattle.xa_desk.specs.declared.domain.Domain.{Domain}
use Rattle.xa_desk.specs.declared.desk.Desk.{Desk}
use Rattle.xa_desk.specs.Whole.{Whole, IsKnown}
use Rattle.xa_desk.specs.Desks.{IsGrounded, IsBoardPass, IsQueuePass, IsClockPass, IsThere, GoesOn, IsDesk, Leads, page_in, page_at, board_page, queue_page, clock_page, shown_to}
use Rattle.xa_desk.proofs.Timely.{timely_at}
use Rattle.xa_desk.proofs.Leading.{Grew, grew_none, Moves, none_leads, starts_same, starts_trans, there, filled_more, among_at, on_home, off_home, grounded_stay, queue_pass_stays, clock_there_stays}
use Rattle.xa_desk.proofs.Seating.{TakesOn, takes_same, none_taken}
use Rattle.xa_desk.proofs.Visiting.{larger_known}

-- the stamp of a change or a look that was seen is known
pub stamp_known : (whole : Whole) (seen : List BoardNote) → StartsWith whole.board.notes seen → (last : Stamp) → HasStampIn seen last → IsKnown whole last
stamp_known whole seen begins last has =
    let wrap : ℕ → Stamp = λ n. record { 0 = n } in
    elim has [
      | inl change ↦
          let changes = changes_front whole.board.notes seen begins in
          let here = change_stands seen change.0 change.1 in
          inr (inl (BoardHome, (change.0.noted, subst (λ (l : List Stamped). Contains l change.0.noted) (sym changes.1) (Contains-append_left (changes_at seen) changes.0 change.0.noted here), ap wrap change.2)))
      | inr look ↦ inr (inr (look.0, subst (λ (l : List BoardNote). Contains l (Looked look.0)) (sym begins.1) (Contains-append_left seen begins.0 (Looked look.0) look.1), ap wrap look.2))
    ]

-- a step at the board: the desk behind it, with the pass that was put back
pub record BoardStep (d : Domain) (old new : Desk) (p p' : LockPass BoardNote) : Type 0 where
  pub is : IsDesk d old
  pub was : old.board ≡ Some p
  pub now : new.board ≡ Some p'
  pub queues : new.queues.items ≡ old.queues.items
  pub clock : new.clock ≡ old.clock
  pub lock : IsPassOf d.board p'

module _ {d : Domain} {old new : Desk} {p p' : LockPass BoardNote} (step : BoardStep d old new p p') where
  -- what the pass saw stands first there in the end
  pub board_front : (whole : Whole) → GoesOn d whole new → StartsWith whole.board.notes (page_of p').seen
  board_front whole on = subst (λ (o : Option (LockPass BoardNote)). StartsWith whole.board.notes (page_in o).seen) step.now on.board

  -- and what the pass had seen before stands first in that
  pub board_grew : {more : List BoardNote} {How : Held → Held → Type 0} → BoardVisits (page_of p) (page_of p') more How → StartsWith (board_page new).seen (board_page old).seen
  board_grew {more} v =
      let grew = starts_trans (page_of p').seen v.old.notes (page_of p).seen (more, v.saw ∙ v.grew) v.knew.1 in
      subst (λ o. StartsWith (page_in o).seen (board_page old).seen) (sym step.now) (subst (λ o. StartsWith (page_of p').seen (page_in o).seen) (sym step.was) grew)

  -- so the stamp of the last one is known, or 0
  pub reach_known : (whole : Whole) → GoesOn d whole new → (last : Stamp) → ReachesBoard (page_of p') last → IsKnown whole last
  reach_known whole on last reaches = elim reaches.is [ inl none ↦ inl none | inr has ↦ stamp_known whole (page_of p').seen (board_front whole on) last has ]

  pub board_before : IsBoardPass d old.caller.work p
  board_before = subst (IsThere (IsBoardPass d old.caller.work)) step.was step.is.board

  pub least_before : old.caller.least ≤ published (past_in (changes_at (page_of p).seen))
  least_before = subst (λ (o : Option (LockPass BoardNote)). old.caller.least ≤ published (past_in (changes_at (page_in o).seen))) step.was step.is.least

  module _ {more : List BoardNote} {How : Held → Held → Type 0} (visits : BoardVisits (page_of p) (page_of p') more How) where
    board_sees_more : StartsWith (page_of p').seen (page_of p).seen
    board_sees_more = seen_more (page_of p) (page_of p') more visits

    pub version_rises : published (past_in (changes_at (page_of p).seen)) ≤ published (past_in (changes_at (page_of p').seen))
    version_rises = published-front (changes_at (page_of p').seen) (changes_at (page_of p).seen) (changes_front (page_of p').seen (page_of p).seen board_sees_more)

    -- the least version that the caller may read was seen, where it is what it was
    pub least_stays : new.caller.least ≡ old.caller.least → new.caller.least ≤ published (past_in (changes_at (page_of p').seen))
    least_stays same = let least = least_before in let rises = version_rises in omega (arith, least, same, rises)

    -- what was noted there is all that the worker has to know, where it reads no older version
    pub board_moves : Grew old.caller.work new.caller.work (changes_at more) → All (λ (x : Stamped). home_of d.setup d.clients x.event ≡ BoardHome) (changes_at more) → new.caller.seat ≡ old.caller.seat → All (IsGrounded new.caller.work.own) more → new.caller.least ≤ published (past_in (changes_at (page_of p').seen))
        → All (λ (x : Stamped). x.stamp.0 ≤ new.caller.work.stamp.0) (changes_at (page_of p').seen) → Moves d old new (changes_at more)
    board_moves grew home seat grounded low reached =
        let is = step.is in
        let w : WorkState = old.caller.work in
        let w' : WorkState = new.caller.work in
        let rises = version_rises in
        let visited : IsBoardPass d w' p' = record {
          lock = step.lock;
          maker = visits.maker ∙ board_before.maker ∙ ap (λ (id : CallerId). id.0) (sym grew.id);
          sees = sees_still d.setup (page_of p) (page_of p') more visits board_before.sees;
          booted = let booted = board_before.booted in omega (arith, booted, rises);
          own = board_own d.setup d.clients BoardHome w.own (page_of p) (page_of p') more visits.own board_before.own (on_home d BoardHome (changes_at more) home refl) ∙ ap (filter (stands_at d.setup d.clients BoardHome)) (sym grew.own);
          grounded = subst (All (IsGrounded w'.own)) (sym {A = List BoardNote} visits.own) (All-append (IsGrounded w'.own) (page_of p).own more (grounded_stay w w' (changes_at more) grew (page_of p).own board_before.grounded) grounded);
          reached = reached;
        } in
        let takes : TakesOn (known old.caller.seat) (known new.caller.seat) = subst (λ (s : Seat Filling). TakesOn (known old.caller.seat) (known s)) (sym seat) (takes_same (known old.caller.seat)) in
        record {
          grew = grew;
          among = among_at d BoardHome (changes_at more) tt home;
          seat = subst (IsSeatOf d.cells) (sym seat) is.seat;
          taken = takes.taken;
          filled = filled_more w w' (changes_at more) (known old.caller.seat) (known new.caller.seat) grew takes is.filled;
          took = none_taken d.setup d.clients BoardHome (known new.caller.seat) (changes_at more) (λ caller same. cc same) home;
          least = subst (λ (o : Option (LockPass BoardNote)). new.caller.least ≤ published (past_in (changes_at (page_in o).seen))) (sym step.now) low;
          board = subst (IsThere (IsBoardPass d w')) (sym step.now) visited;
          board_seen = subst (λ o. StartsWith (page_in o).seen (board_page old).seen) (sym step.now) (subst (λ o. StartsWith (page_of p').seen (page_in o).seen) (sym step.was) board_sees_more);
          count = ap length step.queues;
          queues = λ k low. subst (λ (l : List (Option (LockPass (QueueNote Filling)))). IsThere (IsQueuePass d w' k) (slice_index_or l k None)) (sym step.queues)
              (there d (IsQueuePass d w k) (IsQueuePass d w' k) (slice_index_or old.queues.items k None) (queue_pass_stays d w w' (changes_at more) grew k (off_home d BoardHome (QueueHome (k + 1)) (changes_at more) home refl)) (is.queues k low));
          queues_seen = λ queue. subst (λ (l : List (Option (LockPass (QueueNote Filling)))). StartsWith (page_at l queue).seen (queue_page old queue).seen) (sym step.queues) (starts_same (queue_page old queue).seen);
          clock = subst (IsThere (IsClockPass d w')) (sym step.clock) (clock_there_stays d w w' (changes_at more) grew (off_home d BoardHome ClockHome (changes_at more) home refl) old.clock
              (timely_at d.setup d.clients w.clients w.id.0 (shown_to old) BoardHome tt (changes_at more) home) is.clock);
          clock_seen = subst (λ (o : Option (LockPass Made)). StartsWith (page_in o).seen (clock_page old).seen) (sym step.clock) (starts_same (clock_page old).seen);
        }

    -- no change was noted, and the caller saw a stamp that is known, behind all changes that the pass saw
    pub board_seen_leads : changes_at more ≡ [] → All (IsGrounded old.caller.work.own) more → (seen : Stamp) → new.caller ≡ record old.caller { work = seeing seen old.caller.work }
        → All (λ (x : Stamped). x.stamp.0 ≤ seen.0) (changes_at (page_of p').seen) → ((whole : Whole) → GoesOn d whole new → GoesOn d whole old → IsKnown whole seen) → Leads d old new
    board_seen_leads none grounded seen caller reached is_known =
        let w : WorkState = old.caller.work in
        let stamp : new.caller.work.stamp ≡ record { 0 = max w.stamp.0 seen.0 } = ap (λ (c : CallerState). c.work.stamp) caller in
        let higher = ap (λ (s : Stamp). s.0) stamp in
        let grew : Grew w new.caller.work [] = grew_none w new.caller.work w.room (record { 0 = max w.stamp.0 seen.0 }) (ap (λ (c : CallerState). c.work) caller) (omega arith) in
        none_leads step.is
        (subst (Moves d old new) none (board_moves (subst (Grew w new.caller.work) (sym {A = List Stamped} none) grew) (subst (All (λ (x : Stamped). home_of d.setup d.clients x.event ≡ BoardHome)) (sym {A = List Stamped} none) (All-nil (λ (x : Stamped). home_of d.setup d.clients x.event ≡ BoardHome)))
        (ap (λ (c : CallerState). c.seat) caller) (grounded_stay w new.caller.work [] grew more grounded) (least_stays (ap (λ (c : CallerState). c.least) caller))
        (All-weaker (λ (x : Stamped). x.stamp.0 ≤ seen.0) (λ (x : Stamped). x.stamp.0 ≤ new.caller.work.stamp.0) (λ x le. omega (arith, le, higher)) (changes_at (page_of p').seen) reached)))
        (λ whole on back. subst (IsKnown whole) (sym stamp) (larger_known whole w.stamp seen (step.is.known_stamp whole back) (is_known whole on back)))
