-- What the domain itself shows of homes that were given back.
use Rattle.std.proofs.Common.{◌≡◌, ℕ, zero, suc, ◌+◌, ◌<◌, ◌≤◌, ◌||◌, Bool, true, false, List, [], ◌∷◌, ◌++◌, length, Option, Some, None, inl, inr, refl, sym, ◌∙◌, ap, subst, arith, append_assoc, append-nil}
use Rattle.std.specs.Prelude.{slice_index_or}
use Rattle.std.specs.List.{All, filter}
use Rattle.std.proofs.Common.{◌⊎◌, ⊎_elim}
use Rattle.std.proofs.lemmas.Bool.{cases_Bool}
use Rattle.std.proofs.lemmas.Option.{slice_get_past, slice_get_within}
use Rattle.xa_boot.specs.xa_events.Board.{boot, published}
use Rattle.std.proofs.lemmas.List.Elements.{All-weaker}
use Rattle.xa_boot.specs.xa_types.Setup.{numbered}
use Rattle.xa_boot.specs.xa_events.declared.event.Event.{Event}
use Rattle.xa_boot.specs.xa_events.Homes.{home_of}
use Rattle.xa_boot.specs.xa_events.Homes.Home.{BoardHome, QueueHome}
use Rattle.xa_boot.specs.xa_events.Queue.{is_closed, is_close_of}
use Rattle.xa_boot.specs.xa_stamp.declared.home.Stamped.{Stamped}
use Rattle.xa_boot.specs.xa_lock.declared.makers.Made.{Made}
use Rattle.xa_boot.specs.xa_lock.declared.pass.LockPass.{LockPass}
use Rattle.xa_boot.specs.xa_lock.declared.pass.Page.{Page}
use Rattle.xa_boot.specs.xa_lock.Known.{known as page_of}
use Rattle.xa_boot.specs.xa_lock.Makers.{maker_of as move_maker, noted_in}
use Rattle.xa_boot.specs.xa_lock.Pages.{Knows, StartsWith, entries_by, first_page}
use Rattle.xa_boot.specs.xa_worker.Crew.{IsBooted, stands_at}
use Rattle.xa_boot.specs.xa_worker.Seen.{past_in}
use Rattle.xa_boot.proofs.xa_worker.Lists.{past_in-append, filter-none, same_home-is}
use Rattle.xa_boot.specs.xa_held.declared.kept_board.BoardNote.{BoardNote}
use Rattle.xa_boot.specs.xa_held.declared.kept_queue.QueueNote.{QueueNote}
use Rattle.xa_boot.specs.xa_held.declared.kept_queue.QueueNote.TheVariants.{Opened}
use Rattle.xa_boot.specs.xa_ticks.Clock.{made_in as moves_in}
use Rattle.xa_boot.specs.xa_held.Board.{IsSoundBoard, maker_of as change_maker}
use Rattle.xa_boot.specs.xa_held.Joins.{changes_at, changes_page, events_at}
use Rattle.xa_boot.specs.xa_held.Kept.{Kept, notes_of, setting_of}
use Rattle.xa_boot.specs.xa_held.Notes.{maker_of, made_page}
use Rattle.xa_boot.proofs.xa_held.Fronts.{changes_front}
use Rattle.xa_boot.proofs.xa_held.Lefts.{events_front}
use Rattle.xa_boot.proofs.xa_held.Seen.{events_kept}
use Rattle.xa_boot.specs.xa_caller.declared.cargo.Filling.{Filling}
use Rattle.xa_boot.specs.xa_desk.declared.domain.Domain.{Domain}
use Rattle.xa_boot.specs.xa_desk.Desks.{IsAmong, IsBoardPass, IsGrounded, IsQueuePass, IsThere, Shows, page_in, page_at}
use Rattle.xa_boot.specs.xa_client_worker.declared.working.ClientWorker.{ClientWorker}
use Rattle.xa_boot.specs.declared.closer.Closer.{Closer}
use Rattle.xa_boot.specs.Booting.{IsClockFor, work_of}
use Rattle.xa_history.specs.Joined.{Back, whole_of, kept_or, no_queue, IsDomainOf, IsQueueOf}
use Rattle.xa_history.proofs.Listed.{none_past}
use Rattle.xa_boot.proofs.xa_cell.Lists.{below}
use Rattle.xa_domain.specs.Closing.{IsCloser, KeepsItsOwn, GoesOnFor, AreClosed}
use Rattle.xa_domain.specs.Closed.{KnowsHomes}
use Rattle.xa_domain.specs.Leaving.{itself_of}

-- ---- a queue that was seen closed stays so

or_right : (a b : Bool) → b ≡ true → a || b ≡ true
or_right true b is = refl
or_right false b is = is

closed_one : (queue : ℕ) (e : Event) (past : List Event) → is_closed queue past ≡ true → is_closed queue (e ∷ past) ≡ true
unfolding is_closed
closed_one queue e past closed = or_right (is_close_of queue e) (is_closed queue past) closed

closed_on : (queue : ℕ) (front rest : List Stamped) → is_closed queue (past_in front) ≡ true → is_closed queue (past_in (front ++ rest)) ≡ true
closed_on queue front [] closed = subst (λ l. is_closed queue (past_in l) ≡ true) (sym (append-nil front)) closed
closed_on queue front (x ∷ rest) closed =
    let next : is_closed queue (past_in (front ++ x ∷ [])) ≡ true = ap (is_closed queue) (past_in-append front (x ∷ [])) ∙ closed_one queue x.event (past_in front) closed in
    subst (λ l. is_closed queue (past_in l) ≡ true) (append_assoc front (x ∷ []) rest) (closed_on queue (front ++ x ∷ []) rest next)

-- ---- passes

there_weaker : {E : Type 0} (P Q : LockPass E → Type 0) → ((pass : LockPass E) → P pass → Q pass) → (o : Option (LockPass E)) → IsThere P o → IsThere Q o
there_weaker P Q from None is = absurd is
there_weaker P Q from (Some pass) is = from pass is

-- what holds of the page of a pass that is there
pub in_page : {E : Type 0} (P : Page E → Type 0) (o : Option (LockPass E)) → IsThere (λ pass. P (page_of pass)) o → P (page_in o)
in_page P None is = absurd is
in_page P (Some pass) is = is

both_there : {E : Type 0} (P Q : LockPass E → Type 0) (o : Option (LockPass E)) → IsThere P o → IsThere Q o → (pass : LockPass E) × P pass × Q pass
both_there P Q None is also = absurd is
both_there P Q (Some pass) is also = (pass, is, also)

abbrev QueuePass : Type 0
QueuePass = LockPass (QueueNote Filling)

module _ (d : Domain) (closer : Closer) (b : Back) (is : IsCloser d closer) (known : KnowsHomes d b (itself_of d closer)) where
  abbrev notes_at : ℕ → List (QueueNote Filling)
  notes_at queue = notes_of ((whole_of d b).queues queue)

  -- a pass at a place is there, or nothing is
  past_or : (k : ℕ) → (k < length d.queues.items) ⊎ (slice_index_or closer.queues.items k None ≡ None)
  past_or k = ⊎_elim (λ (low : k < length d.queues.items). inl low) (λ (high : length d.queues.items ≤ k). inr (none_past closer.queues.items k None (let count = is.count in omega (arith, high, count)))) (below k (length d.queues.items))

  board_begins : StartsWith b.board.notes (page_in closer.board).seen
  board_begins = in_page (λ (p : Page BoardNote). StartsWith b.board.notes p.seen) closer.board
      (there_weaker (λ pass. Knows change_maker (page_of pass) b.board.notes) (λ pass. StartsWith b.board.notes (page_of pass).seen) (λ pass knows. knows.1) closer.board known.board_known)

  queue_begins : (queue : ℕ) → StartsWith (notes_at queue) (page_at closer.queues.items queue).seen
  queue_begins zero = (notes_at zero, refl)
  queue_begins (suc k) = ⊎_elim
      (λ (low : k < length d.queues.items).
      let next : k + 1 ≡ suc k = omega arith in
      subst (λ n. StartsWith (notes_at n) (page_at closer.queues.items (suc k)).seen) next
      (in_page (λ (p : Page (QueueNote Filling)). StartsWith (notes_at (k + 1)) p.seen) (slice_index_or closer.queues.items k None)
      (there_weaker (λ pass. Knows maker_of (page_of pass) (notes_at (k + 1))) (λ pass. StartsWith (notes_at (k + 1)) (page_of pass).seen) (λ pass knows. knows.1) (slice_index_or closer.queues.items k None) (known.queues_known k low))))
      (λ (none : slice_index_or closer.queues.items k None ≡ None). subst (λ (o : Option QueuePass). StartsWith (notes_at (suc k)) (page_in o).seen) (sym none) (notes_at (suc k), refl))
      (past_or k)

  board_is : (P : Page BoardNote → Type 0) → ((pass : LockPass BoardNote) → IsBoardPass d (work_of d closer) pass → P (page_of pass)) → P (page_in closer.board)
  board_is P from = in_page P closer.board (there_weaker (IsBoardPass d (work_of d closer)) (λ pass. P (page_of pass)) from closer.board is.board)

  pub is_booted : IsBooted d.setup d.booted (changes_at b.board.notes)
  is_booted = record {
    front = changes_at (page_in closer.board).seen;
    stands = changes_front b.board.notes (page_in closer.board).seen board_begins;
    until = is.until;
    whole = board_is (λ (p : Page BoardNote). boot d.setup ≤ published (past_in (changes_at p.seen))) (λ pass its. its.booted);
  }

  pub goes_on : (clients : List ClientWorker) → IsSoundBoard b.board → All (KeepsItsOwn d (whole_of d b)) clients → GoesOnFor d clients (whole_of d b) closer
  goes_on clients sound own = record { sound = sound; board = board_begins; queues = queue_begins; own = own }

  -- it never moved the clock
  never_moved : entries_by move_maker 0 (moves_in b.clock.entries) ≡ []
  never_moved =
      let its = both_there (IsClockFor d.clock 0) (λ pass. Knows move_maker (page_of pass) (moves_in b.clock.entries)) closer.clock is.clock known.clock_known in
      let page : page_of its.0 ≡ first_page 0 [] = its.1.page in
      (subst (λ (p : Page Made). Knows move_maker p (moves_in b.clock.entries)) page its.2).0

  -- ---- its pages, also of queues that aren't there

  -- a page of the queue that knows what was given back, and has what the domain noted there
  record ItsPage (queue : ℕ) : Type 0 where
    its_page : Page (QueueNote Filling)
    maker_is : its_page.maker ≡ 0
    knows_it : Knows maker_of its_page (notes_at queue)
    own_is : noted_in (made_page its_page).own ≡ filter (stands_at d.setup d.clients (QueueHome queue)) closer.own

  none_noted : (queue : ℕ) → (IsAmong (length d.queues.items) (QueueHome queue) → ⊥) → filter (stands_at d.setup d.clients (QueueHome queue)) closer.own ≡ []
  none_noted queue off = filter-none (stands_at d.setup d.clients (QueueHome queue)) closer.own
      (All-weaker (λ (x : Stamped). IsAmong (length d.queues.items) (home_of d.setup d.clients x.event)) (λ (x : Stamped). stands_at d.setup d.clients (QueueHome queue) x ≡ false) (λ x among. elim (cases_Bool (stands_at d.setup d.clients (QueueHome queue) x)) [
        | inl y ↦ absurd (off (subst (IsAmong (length d.queues.items)) (same_home-is (home_of d.setup d.clients x.event) (QueueHome queue) y) among))
        | inr n ↦ n
      ]) closer.own is.among)

  no_page : (queue : ℕ) → numbered queue b.queues ≡ None → (IsAmong (length d.queues.items) (QueueHome queue) → ⊥) → ItsPage queue
  no_page queue none off =
      let notes : notes_at queue ≡ Opened (setting_of (no_queue d queue)) ∷ [] = ap (λ o. notes_of (kept_or (no_queue d queue) o)) none in
      let first : Page (QueueNote Filling) = first_page 0 (Opened (setting_of (no_queue d queue)) ∷ []) in
      record {
        its_page = first;
        maker_is = refl;
        knows_it = subst (Knows maker_of first) (sym notes) (refl, ([], refl));
        own_is = sym (none_noted queue off);
      }

  page_at_place : (k : ℕ) → k < length d.queues.items → ItsPage (k + 1)
  page_at_place k low =
      let its = both_there (IsQueuePass d (work_of d closer) k) (λ pass. Knows maker_of (page_of pass) (notes_at (k + 1))) (slice_index_or closer.queues.items k None) (is.queues k low) (known.queues_known k low) in
      record { its_page = page_of its.0; maker_is = its.1.maker; knows_it = its.2; own_is = its.1.own }

  module _ (count : length b.queues ≡ length d.queues.items) where
    each_page : (queue : ℕ) → ItsPage queue
    each_page zero = no_page zero refl (λ among. let low = among.0 in omega (arith, low))
    each_page (suc k) = ⊎_elim (λ (low : k < length d.queues.items). let next : k + 1 ≡ suc k = omega arith in subst ItsPage next (page_at_place k low))
        (λ (high : length d.queues.items ≤ k). no_page (suc k) (slice_get_past b.queues k (omega (arith, high, count))) (λ among. let low = among.1 in omega (arith, low, high))) (below k (length d.queues.items))

    pub is_itself : Shows d (whole_of d b) (work_of d closer) → IsDomainOf d b (work_of d closer)
    is_itself shows = record {
      id = refl;
      work = is.work;
      made = is.made;
      shows = shows;
      board = page_in closer.board;
      boards = board_is (λ (p : Page BoardNote). p.maker ≡ 0) (λ pass its. its.maker);
      knows_board = in_page (λ (p : Page BoardNote). Knows change_maker p b.board.notes) closer.board known.board_known;
      at_board = board_is (λ (p : Page BoardNote). noted_in (changes_page p).own ≡ filter (stands_at d.setup d.clients BoardHome) closer.own) (λ pass its. its.own);
      grounded = board_is (λ (p : Page BoardNote). All (IsGrounded closer.own) p.own) (λ pass its. its.grounded);
      page = λ queue. (each_page queue).its_page;
      pages = λ queue. (each_page queue).maker_is;
      knows = λ queue. (each_page queue).knows_it;
      at_queue = λ queue. (each_page queue).own_is;
      at_clock = never_moved;
    }

  -- ---- the closing

  pub all_closed : AreClosed d (length d.queues.items) closer → (queue : ℕ) (kept : Kept Filling) → numbered queue b.queues ≡ Some kept → length b.queues ≡ length d.queues.items → IsQueueOf d queue kept → kept.queue.closed ≡ true
  all_closed closed zero kept there count its = absurd (cc there)
  all_closed closed (suc k) kept there count its =
      let low = slice_get_within b.queues k kept there in
      let next : k + 1 ≡ suc k = omega arith in
      let seen : is_closed (suc k) (past_in (events_at (page_at closer.queues.items (suc k)).seen)) ≡ true =
      subst (λ n. is_closed n (past_in (events_at (page_at closer.queues.items n).seen)) ≡ true) next (closed k (omega (arith, low, count))) in
      let notes : notes_at (suc k) ≡ notes_of kept = ap (λ o. notes_of (kept_or (no_queue d (suc k)) o)) there in
      let front = events_front Filling (notes_of kept) (page_at closer.queues.items (suc k)).seen (subst (λ l. StartsWith l (page_at closer.queues.items (suc k)).seen) notes (queue_begins (suc k))) in
      let whole : noted_in kept.queue.entries ≡ events_at (page_at closer.queues.items (suc k)).seen ++ front.0 = sym (events_kept kept) ∙ front.1 in
      its.sound.shut ∙ ap (λ n. is_closed n (past_in (noted_in kept.queue.entries))) its.setting.id ∙ ap (λ l. is_closed (suc k) (past_in l)) whole ∙ closed_on (suc k) (events_at (page_at closer.queues.items (suc k)).seen) front.0 seen
