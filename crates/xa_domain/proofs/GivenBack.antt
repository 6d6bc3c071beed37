-- What the locks and the cells of a domain give back.
use Rattle.std.proofs.Common.{◌≡◌, ℕ, suc, ◌+◌, ◌<◌, List, [], ◌∷◌, ◌++◌, Some, None, length, get_or, set, map, refl, sym, ◌∙◌, ap, subst, arith, append_assoc, length-append}
use Rattle.std.specs.List.{All, Contains}
use Rattle.std.specs.declared.vec.Vec.{Vec}
use Rattle.std.specs.declared.alloc.Global.{Global}
use Rattle.std.proofs.lemmas.List.{length-map, map-append}
use Rattle.std.proofs.lemmas.List.Elements.{All-nil, All-same, All-cons, All-head, All-tail, All-weaker, All-contains, All-map}
use Rattle.xa_boot.specs.xa_types.Setup.{numbered}
use Rattle.xa_boot.specs.xa_stamp.declared.home.Stamped.{Stamped}
use Rattle.xa_boot.specs.xa_stamp.Home.{Notes}
use Rattle.xa_boot.specs.xa_lock.declared.pass.LockPass.{LockPass}
use Rattle.xa_boot.specs.xa_lock.Known.{known as page_of, IsPassOf, passes_of}
use Rattle.xa_boot.specs.xa_lock.Makers.{maker_of as move_maker, noted_in}
use Rattle.xa_boot.specs.xa_lock.Pages.{Knows}
use Rattle.xa_boot.specs.xa_worker.Ending.{workers_of}
use Rattle.xa_boot.specs.xa_cell.declared.tokens.Seat.{Seat}
use Rattle.xa_boot.specs.xa_cell.Known.{known, IsSeatOf, callers_of}
use Rattle.xa_boot.specs.xa_cell.Views.{at}
use Rattle.xa_boot.specs.xa_cell.Law.{Answered}
use Rattle.xa_boot.specs.xa_cell.Places.{IsShut}
use Rattle.xa_boot.specs.xa_board.Board.{ReadsAsNoted as BoardReads}
use Rattle.xa_boot.specs.xa_held.declared.kept_queue.QueueNote.{QueueNote}
use Rattle.xa_boot.specs.xa_ticks.Clock.{ClockState, ReadsAsNoted as ClockReads, made_in as moves_in}
use Rattle.xa_boot.specs.xa_held.Board.{Held, IsSoundBoard, made_in, maker_of as change_maker}
use Rattle.xa_boot.specs.xa_held.Kept.{Kept, setting_of, notes_of}
use Rattle.xa_boot.specs.xa_held.Notes.{maker_of}
use Rattle.xa_boot.specs.xa_caller.declared.cargo.Filling.{Filling}
use Rattle.xa_boot.specs.xa_desk.declared.domain.Domain.{Domain}
use Rattle.xa_boot.specs.xa_desk.Desks.{IsDomain, IsBoardPass, IsQueuePass, IsSettingOf, IsThere}
use Rattle.xa_boot.specs.Booting.{IsDealt}
use Rattle.xa_history.specs.Joined.{Back, IsQueueOf, whole_of, no_queue, kept_or}
use Rattle.xa_history.proofs.Left.{bare_moves}
use Rattle.xa_domain.specs.declared.tokens.Tokens.{Tokens}
use Rattle.xa_domain.specs.Leaving.{Leaving, IsLeaving, AreAllTokens}
use Rattle.xa_domain.specs.Closed.{KnowsHomes, GivesBack}
use Rattle.xa_domain.specs.Locks.{Locked, Passes, IsSilent, AreAllOf, ClosesAs, Close, ClosesAll, notes_in, noted_at}
use Rattle.xa_domain.proofs.Listed.{all_passes, each_pass, same_count, one_there, there-weaker, first_stands, numbered_at, number_of}
use Rattle.xa_domain.proofs.Queues.{setting_is}
use Rattle.xa_domain.proofs.Silent.{HasNone}

abbrev QueuePass : Type 0
QueuePass = LockPass (QueueNote Filling)

abbrev entries_of : Notes → List Stamped
entries_of notes = notes.entries

one_of : {X : Type 0} (xs : List X) (k : ℕ) → k < length xs → X
one_of [] k within = absurd (omega (arith, within))
one_of (x ∷ xs) k within = x

noted_twice : (kepts : List (Kept Filling)) → noted_at kepts ≡ map noted_in (map (λ (kept : Kept Filling). kept.queue.entries) kepts)
noted_twice [] = refl
noted_twice (kept ∷ kepts) = ap (λ (l : List (List Stamped)). noted_in kept.queue.entries ∷ l) (noted_twice kepts)

-- the domain's own pass among these, of the queue at that place
record HasFirst (d : Domain) (itself : Leaving) (k : ℕ) (passes : List QueuePass) : Type 0 where
  pub pass : QueuePass
  pub stands : Contains passes pass
  pub is : IsQueuePass d itself.work k pass

module _ (d : Domain) (dealt : IsDealt d) (itself : Leaving) (others : List Leaving) (t : Tokens) (all : AreAllTokens d itself others t) where
  abbrev everyone : List Leaving
  everyone = itself ∷ others

  each_is : All (IsLeaving d) everyone
  each_is = All-cons (IsLeaving d) itself others all.itself_is all.others_are

  count : length everyone ≡ workers_of d.setup d.clients
  count = let a = all.all in omega (arith, a)

  -- ---- the board's lock

  pub board_lock : All (IsPassOf d.board) t.boards.items
  board_lock =
      all_passes (IsPassOf d.board) (λ (l : Leaving). l.board) t.boards.items everyone all.tokens_are.boards_are
      (All-weaker (IsLeaving d) (λ (l : Leaving). IsThere (IsPassOf d.board) l.board) (λ l is. there-weaker (IsBoardPass d l.work) (IsPassOf d.board) (λ pass it. it.lock) l.board is.board_pass) everyone each_is)

  pub board_count : length t.boards.items ≡ passes_of d.board
  board_count = same_count (λ (l : Leaving). l.board) t.boards.items everyone all.tokens_are.boards_are ∙ count ∙ sym dealt.board

  -- ---- the clock's lock

  pub clock_lock : All (IsPassOf d.clock) t.clocks.items
  clock_lock = all_passes (IsPassOf d.clock) (λ (l : Leaving). l.clock) t.clocks.items everyone all.tokens_are.clocks_are (All-weaker (IsLeaving d) (λ (l : Leaving). IsThere (IsPassOf d.clock) l.clock) (λ l is. is.clock_pass) everyone each_is)

  pub clock_count : length t.clocks.items ≡ passes_of d.clock
  clock_count = same_count (λ (l : Leaving). l.clock) t.clocks.items everyone all.tokens_are.clocks_are ∙ count ∙ sym dealt.clock

  -- ---- the cells

  -- the first seat has done nothing
  pub first_silent : (seat : Seat Filling) → seat ≡ get_or t.seats.items 0 seat → IsSilent d.cells seat
  first_silent seat is =
      subst (IsSilent d.cells) (sym (is ∙ ap (λ (l : List (Seat Filling)). get_or l 0 seat) all.tokens_are.seats_are))
      (record {
        is = all.itself_is.seat_of;
        shut = all.itself_is.shut;
        silent = λ k. All-same HasNone (at k (known itself.seat)).filled [] (ap (λ p. p.filled) (all.fresh.parts k)) (All-nil HasNone);
      })

  -- the seats, once the first one has changed
  module _ (seat : Seat Filling) (silent : IsSilent d.cells seat) (seats : List (Seat Filling)) (changed : seats ≡ set t.seats.items 0 seat) where
    pub seats_now : seats ≡ seat ∷ map (λ (l : Leaving). l.seat) others
    seats_now = changed ∙ ap (λ (l : List (Seat Filling)). set l 0 seat) all.tokens_are.seats_are

    pub seats_of : All (IsSeatOf d.cells) seats
    seats_of = subst (All (IsSeatOf d.cells)) (sym seats_now) (All-cons (IsSeatOf d.cells) seat (map (λ (l : Leaving). l.seat) others) silent.is
        (All-map (IsSeatOf d.cells) (λ (l : Leaving). l.seat) others (All-weaker (IsLeaving d) (λ (l : Leaving). IsSeatOf d.cells l.seat) (λ l is. is.seat_of) others all.others_are)))

    pub seats_shut : All IsShut seats
    seats_shut = subst (All IsShut) (sym seats_now) (All-cons IsShut seat (map (λ (l : Leaving). l.seat) others) silent.shut
        (All-map IsShut (λ (l : Leaving). l.seat) others (All-weaker (IsLeaving d) (λ (l : Leaving). IsShut l.seat) (λ l is. is.shut) others all.others_are)))

    pub seats_count : length seats ≡ callers_of d.cells
    seats_count = ap length seats_now ∙ ap suc (length-map others (λ (l : Leaving). l.seat)) ∙ count ∙ sym dealt.cells

  -- ---- the queues' locks

  module _ (k : ℕ) (queue : Locked) (its : Passes) (within : k < length d.queues.items) where
    abbrev lock_at : Locked
    lock_at = get_or d.queues.items k queue

    abbrev passes_at : List QueuePass
    passes_at = (get_or t.queues.items k its).items

    same : map Some passes_at ≡ map (λ (l : Leaving). get_or l.queues k None) everyone
    same = all.tokens_are.each k its within

    queue_lock : All (IsPassOf lock_at) passes_at
    queue_lock =
        all_passes (IsPassOf lock_at) (λ (l : Leaving). get_or l.queues k None) passes_at everyone same
        (All-weaker (IsLeaving d) (λ (l : Leaving). IsThere (IsPassOf lock_at) (get_or l.queues k None))
        (λ l is. there-weaker (IsQueuePass d l.work k) (IsPassOf lock_at) (λ pass it. it.lock queue) (get_or l.queues k None) (is.queue_passes k within)) everyone each_is)

    queue_count : length passes_at ≡ passes_of lock_at
    queue_count = same_count (λ (l : Leaving). get_or l.queues k None) passes_at everyone same ∙ count ∙ sym (dealt.queues k queue within)

    first : HasFirst d itself k passes_at
    first =
        let one = one_there (IsQueuePass d itself.work k) (get_or itself.queues k None) (all.itself_is.queue_passes k within) in
        record { pass = one.0; stands = first_stands passes_at (get_or itself.queues k None) (map (λ (l : Leaving). get_or l.queues k None) others) one.0 same one.1; is = one.2 }

    pub queue_passes : AreAllOf d.cells lock_at passes_at
    queue_passes = record { all = queue_count; lock = queue_lock; pass = first.pass; stands = first.stands; its = first.is.its; sees = first.is.sees; cells_are = first.is.is.cells }

  -- ---- what they give back

  module _ (domain : IsDomain d) (callers : List Notes) (board : Held) (kepts : List (Kept Filling)) (clock : ClockState) (seat : Seat Filling) (seats : List (Seat Filling)) (kept_count : length kepts ≡ length d.queues.items) (closed : Close d.queues.items t.queues.items kepts) where
    abbrev b : Back
    b = record { board = board; queues = kepts; clock = clock; own = map (λ (notes : Notes). notes.entries) callers; seats = seats }

    -- the queue is as it was closed
    at_place : (k : ℕ) (default : Kept Filling) → k < length kepts → (whole_of d b).queues (k + 1) ≡ get_or kepts k default
    at_place k default low = ap (kept_or (no_queue d (k + 1))) (numbered_at kepts k default low)

    module _ (k : ℕ) (within : k < length d.queues.items) where
      abbrev some_queue : Locked
      some_queue = one_of d.queues.items k within

      abbrev some_passes : Passes
      some_passes = let c = all.tokens_are.count in one_of t.queues.items k (omega (arith, within, c))

      closes : (default : Kept Filling) → ClosesAs (lock_at k some_queue some_passes within) (passes_at k some_queue some_passes within) (get_or kepts k default)
      closes default = closed k some_queue some_passes default (omega (arith, within, kept_count))

      queues_known : All (λ (l : Leaving). IsThere (λ pass. Knows maker_of (page_of pass) (notes_of ((whole_of d b).queues (k + 1)))) (get_or l.queues k None)) everyone
      queues_known =
          let default = no_queue d (k + 1) in
          each_pass (λ pass. Knows maker_of (page_of pass) (notes_of ((whole_of d b).queues (k + 1)))) (λ (l : Leaving). get_or l.queues k None) (passes_at k some_queue some_passes within) everyone (same k some_queue some_passes within)
          (subst (λ (kept : Kept Filling). All (λ pass. Knows maker_of (page_of pass) (notes_of kept)) (passes_at k some_queue some_passes within)) (sym (at_place k default (omega (arith, within, kept_count)))) (closes default).known)

      is_queue : (queue : ℕ) (kept : Kept Filling) → queue ≡ k + 1 → get_or kepts k kept ≡ kept → IsQueueOf d queue kept
      is_queue queue kept number is =
          let it = first k some_queue some_passes within in
          let closed_as : ClosesAs (lock_at k some_queue some_passes within) (passes_at k some_queue some_passes within) kept = subst (ClosesAs (lock_at k some_queue some_passes within) (passes_at k some_queue some_passes within)) is (closes kept) in
          let knew = All-contains (λ pass. Knows maker_of (page_of pass) (notes_of kept)) (passes_at k some_queue some_passes within) it.pass closed_as.known it.stands in
          record {
            setting = subst (λ n. IsSettingOf d n (setting_of kept)) (sym number) (subst (IsSettingOf d (k + 1)) (sym (setting_is it.is.its it.pass kept it.is.sees knew)) it.is.is);
            sound = closed_as.sound;
            reads = closed_as.reads;
            makers = subst (λ n. All (λ note. maker_of note < n) (notes_of kept)) (dealt.queues k some_queue within) closed_as.makers;
          }

    each_queue : (queue : ℕ) (kept : Kept Filling) → numbered queue kepts ≡ Some kept → IsQueueOf d queue kept
    each_queue queue kept there = let at = number_of kepts queue kept there in let low = at.2 in is_queue at.0 (omega (arith, low, kept_count)) queue kept at.1 at.3

    module _ (board_known : All (λ pass. Knows change_maker (page_of pass) board.notes) t.boards.items) (clock_known : All (λ pass. Knows move_maker (page_of pass) (moves_in clock.entries)) t.clocks.items) where
      boards_known : All (λ (l : Leaving). IsThere (λ pass. Knows change_maker (page_of pass) board.notes) l.board) everyone
      boards_known = each_pass (λ pass. Knows change_maker (page_of pass) board.notes) (λ (l : Leaving). l.board) t.boards.items everyone all.tokens_are.boards_are board_known

      clocks_known : All (λ (l : Leaving). IsThere (λ pass. Knows move_maker (page_of pass) (moves_in clock.entries)) l.clock) everyone
      clocks_known = each_pass (λ pass. Knows move_maker (page_of pass) (moves_in clock.entries)) (λ (l : Leaving). l.clock) t.clocks.items everyone all.tokens_are.clocks_are clock_known

      knows_homes : All (KnowsHomes d b) everyone
      knows_homes j l low = record { board_known = boards_known j l low; queues_known = λ k within. queues_known k within j l low; clock_known = clocks_known j l low }

      pub gives_back : (homes : List Notes) → IsSoundBoard board → BoardReads board.board → All (λ note. change_maker note < passes_of d.board) board.notes → ClockReads clock → All (λ move. move_maker move < passes_of d.clock) (moves_in clock.entries) → seats ≡ seat ∷ map (λ (l : Leaving). l.seat) others → IsSilent d.cells seat → ((k : ℕ) → Answered k seats)
          → length callers ≡ d.clients + length d.setup.servers → notes_in homes ≡ board.board.entries ∷ (noted_at kepts ++ clock.entries ∷ notes_in callers) → GivesBack d itself others callers b homes
      gives_back homes sound reads makers moved movers seats_are silent answered own hold = record {
        itself_known = All-head (KnowsHomes d b) itself others knows_homes;
        others_known = All-tail (KnowsHomes d b) itself others knows_homes;
        own_are = refl;
        sound = sound;
        reads = reads;
        makers = subst (λ n. All (λ note. change_maker note < n) board.notes) dealt.board makers;
        count = kept_count ∙ domain.queues;
        each = each_queue;
        clock = moved;
        movers = subst (λ n. All (λ move. move_maker move < n) (moves_in clock.entries)) dealt.clock movers;
        seat = seat;
        seats_are = seats_are;
        silent = silent.silent;
        answered = answered;
        hold = record {
          all_queues = length-map kepts (λ (kept : Kept Filling). kept.queue.entries) ∙ kept_count ∙ domain.queues;
          all_callers = length-map callers (λ (notes : Notes). notes.entries) ∙ own;
          hold =
              hold ∙ ap (λ (l : List Stamped). l ∷ (noted_at kepts ++ clock.entries ∷ notes_in callers)) (sym sound.noted) ∙ ap (λ (l : List (List Stamped)). noted_in (made_in board.notes) ∷ (l ++ clock.entries ∷ notes_in callers)) (noted_twice kepts)
              ∙ ap (λ (l : List Stamped). noted_in (made_in board.notes) ∷ (map noted_in (map (λ (kept : Kept Filling). kept.queue.entries) kepts) ++ l ∷ notes_in callers)) (sym (bare_moves clock.entries));
        };
      }

-- the homes in their order
pub in_order : (none h1 h2 h3 homes callers : List Notes) (board clock : Notes) (entries moves : List Stamped) (kepts : List (Kept Filling)) → none ≡ [] → h1 ≡ none ++ board ∷ [] → board.entries ≡ entries → notes_in h2 ≡ notes_in h1 ++ noted_at kepts → h3 ≡ h2 ++ clock ∷ [] → clock.entries ≡ moves → homes ≡ h3 ++ callers
    → notes_in homes ≡ entries ∷ (noted_at kepts ++ moves ∷ notes_in callers)
in_order none h1 h2 h3 homes callers board clock entries moves kepts empty first is second third moved fourth =
    let one : notes_in h1 ≡ entries ∷ [] = ap notes_in (first ∙ ap (λ (l : List Notes). l ++ board ∷ []) empty) ∙ ap (λ (e : List Stamped). e ∷ []) is in
    let two : notes_in h2 ≡ entries ∷ noted_at kepts = second ∙ ap (λ (l : List (List Stamped)). l ++ noted_at kepts) one in
    let three : notes_in h3 ≡ (entries ∷ noted_at kepts) ++ moves ∷ [] = ap notes_in third ∙ map-append entries_of h2 (clock ∷ []) ∙ ap (λ (l : List (List Stamped)). l ++ clock.entries ∷ []) two ∙ ap (λ (e : List Stamped). (entries ∷ noted_at kepts) ++ e ∷ []) moved in
    ap notes_in fourth ∙ map-append entries_of h3 callers ∙ ap (λ (l : List (List Stamped)). l ++ notes_in callers) three ∙ append_assoc (entries ∷ noted_at kepts) (moves ∷ []) (notes_in callers)

-- how many there are
pub one_longer : (homes more : List Notes) (home : Notes) → more ≡ homes ++ home ∷ [] → length more ≡ length homes + 1
one_longer homes more home is = let same = ap length is in let both = length-append homes (home ∷ []) in omega (arith, same, both)

pub all_longer : (queues : List Locked) (passes : List Passes) (before after : Vec Notes Global) → ClosesAll queues passes before after → length after.items ≡ length before.items + length queues
all_longer queues passes before after closes =
    let same = ap length closes.homes in
    let both = length-append (notes_in before.items) (noted_at closes.kepts) in
    let count = closes.count in
    omega (arith, same, both, count, length-map after.items entries_of, length-map before.items entries_of, length-map closes.kepts (λ (kept : Kept Filling). noted_in kept.queue.entries))
