-- The domain itself, as it closes a queue: what it knows and shows goes on.
use Rattle.std.proofs.Common.{◌≡◌, ◌≢◌, ◌<◌, ◌≤◌, ◌^◌, ℕ, zero, suc, ◌+◌, max, Bool, true, false, List, [], ◌∷◌, ◌++◌, length, Option, Some, None, Result, Ok, Err, inl, inr, refl, sym, ◌∙◌, ap, subst, append-nil, arith, add-one, eq-eqb, ne_eqb}
use Rattle.std.specs.Prelude.{slice_index_or, slice_set, IfErr, IsErrAnd}
use Rattle.std.specs.List.{All, filter, list_any}
use Rattle.std.specs.Vec.{with_item}
use Rattle.std.proofs.lemmas.Bool.{or_right}
use Rattle.std.proofs.lemmas.List.{length-set, set-set, get_or-set_same, get_or-set_other, get_or_default}
use Rattle.std.proofs.lemmas.List.Elements.{All-nil, All-cons, All-head, All-tail, All-append, All-push, All-weaker}
use Rattle.std.proofs.lemmas.List.Folds.{list_any-append}
use Rattle.xa_boot.specs.xa_types.declared.ids.CallerId.{CallerId}
use Rattle.xa_boot.specs.xa_types.declared.stamp.Stamp.{Stamp}
use Rattle.xa_boot.specs.xa_types.declared.stamp.Worn.{Worn}
use Rattle.xa_boot.specs.xa_events.declared.event.Event.{Event}
use Rattle.xa_boot.specs.xa_events.declared.event.Event.TheVariants.{Close}
use Rattle.xa_boot.specs.xa_events.Cases.{WorkerPart}
use Rattle.xa_boot.specs.xa_events.Homes.{home_of, same_home, worker_of}
use Rattle.xa_boot.specs.xa_events.Homes.Home.{BoardHome, QueueHome}
use Rattle.xa_boot.specs.xa_events.Queue.{is_closed, is_close_of}
use Rattle.xa_boot.specs.xa_events.Words.{AtEach, EachNumbered}
use Rattle.xa_boot.specs.xa_stamp.declared.home.Stamped.{Stamped}
use Rattle.xa_boot.specs.xa_stamp.declared.told.Noted.{Noted}
use Rattle.xa_boot.specs.xa_stamp.Home.{last_stamp, larger_of}
use Rattle.xa_boot.proofs.xa_stamp.Stamps.{last_stamp-push, Rises-push}
use Rattle.xa_boot.specs.xa_lock.declared.makers.Made.{Made}
use Rattle.xa_boot.specs.xa_lock.Known.{known as page_of, IsPassOf}
use Rattle.xa_boot.specs.xa_lock.Makers.{noted_in}
use Rattle.xa_boot.specs.xa_lock.Pages.{StartsWith}
use Rattle.xa_boot.specs.xa_worker.Crew.{IsOfDomain, MayNote, no_stamp, stands_at}
use Rattle.xa_boot.specs.xa_worker.Seen.{past_in}
use Rattle.xa_boot.proofs.xa_worker.Lists.{past_in-append}
use Rattle.xa_boot.specs.xa_cell.declared.tokens.Seat.{Seat}
use Rattle.xa_boot.specs.xa_cell.Known.{known, IsSeatOf, IsNew}
use Rattle.xa_boot.proofs.xa_cell.Lists.{decided}
use Rattle.xa_boot.specs.xa_caller.declared.cargo.Filling.{Filling}
use Rattle.xa_boot.specs.xa_queue.Changes.{IsWorn, next_stamp}
use Rattle.xa_boot.specs.xa_held.declared.kept_queue.QueueNote.{QueueNote}
use Rattle.xa_boot.specs.xa_held.declared.kept_queue.Setting.{Setting}
use Rattle.xa_boot.specs.xa_held.Joins.{changes_at, events_at}
use Rattle.xa_boot.specs.xa_held.Kept.{Kept, setting_of, notes_of}
use Rattle.xa_boot.specs.xa_held.Steps.{ClosedAs}
use Rattle.xa_boot.specs.xa_held.Visits.{Visits, Reaches}
use Rattle.xa_boot.proofs.xa_held.Lefts.{events_front}
use Rattle.xa_boot.proofs.xa_held.Owning.{queue_own}
use Rattle.xa_boot.proofs.xa_held.Seen.{events_kept, events_more, sees_more}
use Rattle.xa_boot.specs.xa_worker.declared.work.Halt.{Halt}
use Rattle.xa_boot.specs.xa_worker.declared.work.Halt.TheVariants as halts
use Rattle.xa_boot.specs.xa_worker.Work.{WorkState, IsWorkOf, theirs}
use Rattle.xa_boot.proofs.xa_worker.Noting.{theirs-more}
use Rattle.xa_boot.specs.xa_desk.declared.domain.Domain.{Domain}
use Rattle.xa_boot.specs.xa_desk.Desks.{HasGrounds, IsBoardPass, IsQueuePass, IsSettingOf, IsThere, Shows, page_in, page_at}
use Rattle.xa_boot.specs.xa_desk.Made.{IsMade}
use Rattle.xa_boot.specs.xa_desk.Whole.{Whole, entries_of, IsKnown}
use Rattle.xa_boot.proofs.xa_desk.Leading.{AllMade, Grew, none_made, one_made, among_at, among_more, board_pass_stays, is_behind, made_more, off_home, on_home, queue_pass_stays, shows_more, shows_still, starts_same, starts_trans, there}
use Rattle.xa_boot.proofs.xa_desk.Visiting.{QueuePass, QueueLock, stamp_is, last_known, larger_known, behind_known}
use Rattle.xa_boot.specs.xa_client_worker.declared.working.ClientWorker.{ClientWorker}
use Rattle.xa_boot.specs.declared.closer.Closer.{Closer}
use Rattle.xa_boot.specs.Booting.{IsClockFor, work_of}
use Rattle.xa_history.specs.xa_script.declared.script.Client.{Client}
use Rattle.xa_domain.specs.Working.{EachDone}
use Rattle.xa_domain.specs.Closing.{IsCloser, GoesOnFor, HasLeftBy, IsBehindAll, ShowsFor, AreClosed, Closes, IsWornOut, IsHaltBy, HasClosed}
use Rattle.xa_domain.proofs.Leaving.{each_told, left_later}

-- ---- what is known and closed, by lists

last_low : (first : Stamp) (n : ℕ) (entries : List Stamped) → first.0 ≤ n → All (λ (x : Stamped). x.stamp.0 ≤ n) entries → last_stamp first entries ≤ n
last_low first n [] low all = low
last_low first n (x ∷ entries) low all = last_low x.stamp n entries (All-head (λ (y : Stamped). y.stamp.0 ≤ n) x entries all) (All-tail (λ (y : Stamped). y.stamp.0 ≤ n) x entries all)

-- the larger of a stamp that was seen and of the last one is at the end where that of the home's is
at_end : (seen first : Stamp) (last : ℕ) (front : List Stamped) → first.0 ≤ seen.0 → last ≡ last_stamp no_stamp front → larger_of seen first front ≡ 2 ^ 63 → max seen.0 last ≡ 2 ^ 63
at_end seen first last [] low is end = omega (arith, low, is, end)
at_end seen first last (x ∷ rest) low is end = omega (arith, is, end)

closed_more : (queue : ℕ) (front whole : List (QueueNote Filling)) → StartsWith whole front → is_closed queue (past_in (events_at front)) ≡ true → is_closed queue (past_in (events_at whole)) ≡ true
unfolding is_closed
closed_more queue front whole begins closed =
    let p : Event → Bool = is_close_of queue in
    let more = events_front Filling whole front begins in
    ap (λ (l : List Stamped). list_any p (past_in l)) more.1 ∙ ap (list_any p) (past_in-append (events_at front) more.0) ∙ list_any-append p (past_in more.0) (past_in (events_at front)) ∙ or_right (list_any p (past_in more.0)) (list_any p (past_in (events_at front))) closed

page_behind : (passes : List (Option QueuePass)) (k : ℕ) → page_at passes (k + 1) ≡ page_in (slice_index_or passes k None)
page_behind passes k = ap (page_at passes) (add-one k)

-- ---- steps in turn

module _ {d : Domain} where
  pub closes_same : (closer : Closer) → IsCloser d closer → Closes d closer closer
  closes_same closer is = record { is = is; later = omega arith; shows = λ clients count left shows. shows; still = λ n all. all; halt = refl }

  pub closes_trans : (a b c : Closer) → Closes d a b → Closes d b c → Closes d a c
  closes_trans a b c ab bc = record {
    is = bc.is;
    later = let first = ab.later in let second = bc.later in omega (arith, first, second);
    shows = λ clients count left shows. bc.shows clients count (left_later a.seen b.seen ab.later 1 clients left) (ab.shows clients count left shows);
    still = λ n all. bc.still n (ab.still n all);
    halt = bc.halt ∙ ab.halt;
  }

-- a step at that queue: the domain itself behind it, with the pass that was put back, and the last stamp that was seen there
pub record Step (d : Domain) (place : ℕ) (old new : Closer) (p p' : QueuePass) (last : Stamp) : Type 0 where
  pub is : IsCloser d old
  pub low : place < length d.queues.items
  pub was : slice_index_or old.queues.items place None ≡ Some p
  pub passes : new.queues.items ≡ slice_set old.queues.items place (Some p')
  pub lock : (default : QueueLock) → IsPassOf (slice_index_or d.queues.items place default) p'
  pub reaches : Reaches (page_of p') last
  pub seat : new.seat ≡ old.seat
  pub board : new.board ≡ old.board
  pub clock : new.clock ≡ old.clock
  pub seen : new.seen.0 ≡ max old.seen.0 last.0
  pub halt : new.halt ≡ old.halt

-- by what takes the pass, enters the lock that stands there, and puts the pass back
abbrev pub after : Closer → ℕ → Option QueuePass → QueuePass → List Stamped → ℕ → Closer
after old place middle p' own seen = record { seat = old.seat; board = old.board; queues = with_item (with_item old.queues place middle) place (Some p'); clock = old.clock; own = own; seen = record { 0 = seen }; halt = old.halt }

pub stepped : {d : Domain} {place : ℕ} {old : Closer} {p p' : QueuePass} {last : Stamp} (own : List Stamped) (seen : ℕ) (found taken middle : Option QueuePass) → IsCloser d old → place < length d.queues.items → found ≡ slice_index_or old.queues.items place found → taken ≡ found → taken ≡ Some p → seen ≡ max old.seen.0 last.0
    → (lock : QueueLock) → lock ≡ slice_index_or d.queues.items place lock → IsPassOf lock p' → Reaches (page_of p') last → Step d place old (after old place middle p' own seen) p p' last
stepped {d} {place} {old} {p} {p'} {last} own seen found taken middle is low at took was saw lock here of reaches = record {
  is = is;
  low = low;
  was = let count = is.count in get_or_default old.queues.items place None found (omega (arith, low, count)) ∙ sym at ∙ sym took ∙ was;
  passes = set-set old.queues.items place middle (Some p');
  lock = λ default. subst (λ (z : QueueLock). IsPassOf z p') (here ∙ get_or_default d.queues.items place lock default low) of;
  reaches = reaches;
  seat = refl;
  board = refl;
  clock = refl;
  seen = saw;
  halt = refl;
}

-- an error that is passed on
pub passed_on : {X E : Type 0} (result : Result X E) (e : E) (P : E → Type 0) → IsErrAnd result (λ y. y ≡ e) → P e → IfErr result P
passed_on (Ok done) e P is holds = tt
passed_on (Err y) e P is holds = subst P (sym is) holds

module _ {d : Domain} {place : ℕ} {old new : Closer} {p p' : QueuePass} {last : Stamp} (step : Step d place old new p p' last) where
  abbrev w : WorkState
  w = work_of d old

  abbrev w' : WorkState
  w' = work_of d new

  now_there : slice_index_or new.queues.items place None ≡ Some p'
  now_there = let count = step.is.count in let low = step.low in ap (λ l. slice_index_or l place None) step.passes ∙ get_or-set_same old.queues.items place (Some p') None (omega (arith, low, count))

  other_there : (j : ℕ) → j ≢ place → slice_index_or new.queues.items j None ≡ slice_index_or old.queues.items j None
  other_there j apart = ap (λ l. slice_index_or l j None) step.passes ∙ get_or-set_other old.queues.items place j (Some p') None apart

  pass_before : IsQueuePass d w place p
  pass_before = subst (IsThere (IsQueuePass d w place)) step.was (step.is.queues place step.low)

  page_now : page_at new.queues.items (place + 1) ≡ page_of p'
  page_now = page_behind new.queues.items place ∙ ap page_in now_there

  seen_front : (whole : Whole) (clients : List ClientWorker) → GoesOnFor d clients whole new → StartsWith (entries_of whole (QueueHome (place + 1))) (events_at (page_of p').seen)
  seen_front whole clients on =
      let notes : List (QueueNote Filling) = notes_of (whole.queues (place + 1)) in
      subst (λ (l : List Stamped). StartsWith l (events_at (page_of p').seen)) (events_kept (whole.queues (place + 1)))
      (events_front Filling notes (page_of p').seen (subst (λ page. StartsWith notes page.seen) page_now (on.queues (place + 1))))

  stamp_now : new.seen ≡ record { 0 = max old.seen.0 last.0 }
  stamp_now = stamp_is new.seen (max old.seen.0 last.0) step.seen

  known_now : (whole : Whole) (clients : List ClientWorker) → GoesOnFor d clients whole new → IsKnown whole old.seen → IsKnown whole new.seen
  known_now whole clients on before = subst (IsKnown whole) (sym stamp_now) (larger_known whole old.seen last before (last_known whole (QueueHome (place + 1)) (events_at (page_of p').seen) last (seen_front whole clients on) step.reaches.is))

  module _ {more : List Made} {How : Kept Filling → Kept Filling → Type 0} (visits : Visits (page_of p) (page_of p') more How) where
    -- what it found is what the domain has there
    setting_found : IsSettingOf d (place + 1) (setting_of visits.old)
    setting_found = subst (IsSettingOf d (place + 1)) (sym (visits.setting pass_before.its pass_before.sees)) pass_before.is

    low_first : visits.old.queue.first.0 ≤ old.seen.0
    low_first = let behind_boot = setting_found.first in let booted = step.is.booted in omega (arith, behind_boot, booted)

    -- its passes saw what they had seen, and more
    seen_more : (queue : ℕ) → StartsWith (page_at new.queues.items queue).seen (page_at old.queues.items queue).seen
    seen_more zero = ([], refl)
    seen_more (suc j) =
        let Begins : Option QueuePass → Option QueuePass → Type 0 = λ o o'. StartsWith (page_in o').seen (page_in o).seen in
        elim (decided j place) [
          | inl e ↦ subst (λ (i : ℕ). Begins (slice_index_or old.queues.items i None) (slice_index_or new.queues.items i None)) (sym e) (subst (λ o. Begins o (slice_index_or new.queues.items place None)) (sym step.was) (subst (Begins (Some p)) (sym now_there) (sees_more visits)))
          | inr apart ↦ subst (Begins (slice_index_or old.queues.items j None)) (sym (other_there j apart)) (starts_same (page_in (slice_index_or old.queues.items j None)).seen)
        ]

    before : (whole : Whole) (clients : List ClientWorker) → GoesOnFor d clients whole new → GoesOnFor d clients whole old
    before whole clients on = record {
      sound = on.sound;
      board = subst (λ o. StartsWith whole.board.notes (page_in o).seen) step.board on.board;
      queues = λ queue. starts_trans (notes_of (whole.queues queue)) (page_at new.queues.items queue).seen (page_at old.queues.items queue).seen (on.queues queue) (seen_more queue);
      own = on.own;
    }

    -- what was closed is still, and that queue is where it was left closed
    still : (n : ℕ) → AreClosed d n old → AreClosed d n new
    still n all k less = closed_more (k + 1) (page_at old.queues.items (k + 1)).seen (page_at new.queues.items (k + 1)).seen (seen_more (k + 1)) (all k less)

    pub now_closed : visits.new.queue.closed ≡ true → AreClosed d place old → AreClosed d (place + 1) new
    now_closed closed all k less = elim (decided k place) [ inl e ↦ subst (λ (i : ℕ). is_closed (i + 1) (past_in (events_at (page_at new.queues.items (i + 1)).seen)) ≡ true) (sym e) here | inr apart ↦ still place all k (omega (arith, less, apart)) ]
      where
        id : visits.new.queue.id.0 ≡ place + 1
        id = ap (λ (s : Setting Filling). s.id.0) visits.same ∙ setting_found.id

        entries : events_at (page_at new.queues.items (place + 1)).seen ≡ noted_in visits.new.queue.entries
        entries = ap (λ page. events_at page.seen) page_now ∙ ap events_at visits.saw ∙ events_kept visits.new

        here : is_closed (place + 1) (past_in (events_at (page_at new.queues.items (place + 1)).seen)) ≡ true
        here = ap (λ (l : List Stamped). is_closed (place + 1) (past_in l)) entries ∙ sym (ap (λ n. is_closed n (past_in (noted_in visits.new.queue.entries))) id) ∙ sym visits.sound.shut ∙ closed

    module _ (own : new.own ≡ old.own ++ noted_in more) (made : AllMade (noted_in more)) (home : All (λ (x : Stamped). home_of d.setup d.clients x.event ≡ QueueHome (place + 1)) (noted_in more)) where
      grew : Grew w w' (noted_in more)
      grew = let seen = step.seen in record { setup = refl; clients = refl; id = refl; own = own; stamp = omega (arith, seen); made = made }

      visited : IsQueuePass d w' place p'
      visited = record {
        lock = step.lock;
        maker = visits.maker ∙ pass_before.maker;
        its = pass_before.its;
        sees = record { rest = pass_before.sees.rest ++ (sees_more visits).0; seen = (sees_more visits).1 ∙ ap (λ l. l ++ (sees_more visits).0) pass_before.sees.seen };
        is = pass_before.is;
        own = queue_own d.setup d.clients (QueueHome (place + 1)) old.own (page_of p) (page_of p') more visits.own pass_before.own (on_home d (QueueHome (place + 1)) (noted_in more) home (eq-eqb (place + 1) (place + 1) refl)) ∙ ap (filter (stands_at d.setup d.clients (QueueHome (place + 1)))) (sym own);
        reached = let seen = step.seen in All-weaker (λ (x : Stamped). x.stamp.0 ≤ last.0) (λ (x : Stamped). x.stamp.0 ≤ new.seen.0) (λ x le. omega (arith, le, seen)) (events_at (page_of p').seen) step.reaches.each;
      }

      passes_stay : (j : ℕ) → j < length d.queues.items → IsThere (IsQueuePass d w' j) (slice_index_or new.queues.items j None)
      passes_stay j low = elim (decided j place) [
        | inl e ↦ subst (λ (i : ℕ). IsThere (IsQueuePass d w' i) (slice_index_or new.queues.items i None)) (sym e) (subst (IsThere (IsQueuePass d w' place)) (sym now_there) visited)
        | inr apart ↦ subst (IsThere (IsQueuePass d w' j)) (sym (other_there j apart)) (there d (IsQueuePass d w j) (IsQueuePass d w' j) (slice_index_or old.queues.items j None)
            (queue_pass_stays d w w' (noted_in more) grew j (off_home d (QueueHome (place + 1)) (QueueHome (j + 1)) (noted_in more) home (ne_eqb (place + 1) (j + 1) (λ e. apart (omega (arith, e)))))) (step.is.queues j low))
      ]

      -- by what it noted there, no later than the last stamp there, the domain itself goes on
      closer_still : IsWorkOf d.setup d.clients 0 new.own → All (λ (x : Stamped). x.stamp.0 ≤ new.seen.0) (noted_in more) → IsCloser d new
      closer_still work reached =
          let is = step.is in
          let low = step.low in
          let seen = step.seen in
          let booted = is.booted in
          let bound = is.bound in
          let last_bound = step.reaches.bound in
          record {
            seat = subst (IsSeatOf d.cells) (sym step.seat) is.seat;
            fresh = subst (λ (s : Seat Filling). IsNew s.first s.count (known s)) (sym step.seat) is.fresh;
            board = subst (IsThere (IsBoardPass d w')) (sym step.board) (there d (IsBoardPass d w) (IsBoardPass d w') old.board (board_pass_stays d w w' (noted_in more) grew (off_home d (QueueHome (place + 1)) BoardHome (noted_in more) home refl)) is.board);
            until = subst (λ o. All (λ (x : Stamped). x.stamp.0 ≤ d.booted.0) (changes_at (page_in o).seen)) (sym step.board) is.until;
            count = ap length step.passes ∙ length-set old.queues.items place (Some p') ∙ is.count;
            queues = passes_stay;
            clock = subst (IsThere (IsClockFor d.clock 0)) (sym step.clock) is.clock;
            work = work;
            made = made_more w w' (noted_in more) grew is.made;
            among = among_more d w w' (noted_in more) grew (among_at d (QueueHome (place + 1)) (noted_in more) (omega arith, omega (arith, low)) home) is.among;
            reached = subst (All (λ (x : Stamped). x.stamp.0 ≤ new.seen.0)) (sym {A = List Stamped} own)
                (All-append (λ (x : Stamped). x.stamp.0 ≤ new.seen.0) old.own (noted_in more) (All-weaker (λ (x : Stamped). x.stamp.0 ≤ old.seen.0) (λ (x : Stamped). x.stamp.0 ≤ new.seen.0) (λ x le. omega (arith, le, seen)) old.own is.reached) reached);
            booted = omega (arith, booted, seen);
            bound = omega (arith, bound, last_bound, seen);
          }

      closes_by : IsCloser d new → ((whole : Whole) (clients : List ClientWorker) → length clients ≡ d.clients → EachNumbered (HasLeftBy old.seen) 1 clients → GoesOnFor d clients whole new → IsKnown whole old.seen → Shows d whole w → Shows d whole w') → Closes d old new
      closes_by is goes = record {
        is = is;
        later = let seen = step.seen in omega (arith, seen);
        shows = λ clients count left shows whole on. let first = shows whole (before whole clients on) in (known_now whole clients on first.0, goes whole clients count left on first.0 first.1);
        still = still;
        halt = step.halt;
      }

  -- nothing was noted
  module _ {How : Kept Filling → Kept Filling → Type 0} (visits : Visits (page_of p) (page_of p') [] How) (same : new.own ≡ old.own) where
    none_home : All (λ (x : Stamped). home_of d.setup d.clients x.event ≡ QueueHome (place + 1)) []
    none_home = All-nil (λ (x : Stamped). home_of d.setup d.clients x.event ≡ QueueHome (place + 1))

    own_none : new.own ≡ old.own ++ []
    own_none = same ∙ sym (append-nil old.own)

    pub looked_closes : Closes d old new
    looked_closes =
        closes_by visits own_none none_made none_home
        (closer_still visits own_none none_made none_home (subst (IsWorkOf d.setup d.clients 0) (sym {A = List Stamped} same) step.is.work) (All-nil (λ (x : Stamped). x.stamp.0 ≤ new.seen.0)))
        (λ whole clients count left on is_known shows. shows_still d whole w w' (grew visits own_none none_made none_home) shows)

    -- where stamps would pass their end, it is at that then
    pub looked_worn : (worn : Worn) → IsWorn old.seen worn visits.old.queue visits.old.queue → IsWornOut new worn
    looked_worn worn full =
        let entries : List Stamped = noted_in visits.old.queue.entries in
        (full.told, step.seen ∙ at_end old.seen visits.old.queue.first last.0 entries (low_first visits) (step.reaches.is ∙ ap (last_stamp no_stamp) (events_more visits ∙ append-nil entries)) full.larger)

  -- the queue was closed
  module _ (maker : CallerId) (noted : Noted) (did : ClosedAs (Visits (page_of p) (page_of p')) old.seen maker (Ok (Some noted))) (own : new.own ≡ old.own ++ record { stamp = noted.stamp; event = noted.event.value } ∷ []) where
    abbrev Its : Stamped
    Its = record { stamp = noted.stamp; event = noted.event.value }

    event_is : noted.event.value ≡ Close did.old.queue.id
    event_is = did.how.1.event_is

    next : noted.stamp ≡ next_stamp old.seen did.old.queue
    next = did.how.1.notes.next

    rises : old.seen.0 < noted.stamp.0
    rises = let is_next = ap (λ (s : Stamp). s.0) next in omega (arith, is_next)

    lasts : new.seen.0 ≡ noted.stamp.0
    lasts =
        let entries : List Stamped = noted_in did.old.queue.entries in
        let its : last.0 ≡ noted.stamp.0 = step.reaches.is ∙ ap (last_stamp no_stamp) (events_more did) ∙ last_stamp-push no_stamp entries Its in
        let seen = step.seen in
        omega (arith, its, seen, rises)

    at_home : home_of d.setup d.clients Its.event ≡ QueueHome (place + 1)
    at_home = ap (home_of d.setup d.clients) event_is ∙ ap QueueHome (setting_found did).id

    all_home : All (λ (x : Stamped). home_of d.setup d.clients x.event ≡ QueueHome (place + 1)) (Its ∷ [])
    all_home = All-cons (λ (x : Stamped). home_of d.setup d.clients x.event ≡ QueueHome (place + 1)) Its [] at_home (All-nil (λ (x : Stamped). home_of d.setup d.clients x.event ≡ QueueHome (place + 1)))

    all_made : AllMade (Its ∷ [])
    all_made = one_made Its (subst IsMade (sym event_is) tt)

    work : IsWorkOf d.setup d.clients 0 new.own
    work =
        let is = step.is.work in
        let fresh = did.how.1.notes.fresh in
        let at_next = ap (λ (s : Stamp). s.0) next in
        let low = last_low no_stamp old.seen.0 old.own (omega arith) step.is.reached in
        subst (IsWorkOf d.setup d.clients 0) (sym {A = List Stamped} own) (record {
          rises = Rises-push no_stamp old.own Its is.rises (omega (arith, low, rises)) (omega (arith, fresh, at_next));
          may = All-push (λ (x : Stamped). MayNote d.clients 0 x.event) old.own Its is.may (inr (subst IsOfDomain (sym event_is) tt));
          met = subst (AtEach (WorkerPart d.setup d.clients)) (sym (theirs-more w Its (ap (λ (e : Event). worker_of d.clients e) event_is))) (subst (λ (e : Event). WorkerPart d.setup d.clients e (theirs w)) (sym event_is) tt, is.met);
        })

    shows_it : (whole : Whole) (clients : List ClientWorker) → length clients ≡ d.clients → EachNumbered (HasLeftBy old.seen) 1 clients → GoesOnFor d clients whole new → IsKnown whole old.seen → Shows d whole w → Shows d whole w'
    shows_it whole clients count left on is_known shows =
        let entries : List Stamped = noted_in did.old.queue.entries in
        let booted = step.is.booted in
        shows_more d whole w w' Its (grew did own all_made all_home) shows (record {
          behind = is_behind d.booted Its.stamp Its.event (omega (arith, booted, rises));
          grounds = subst (HasGrounds d whole 0 old.own Its.stamp) (sym event_is) (record {
            saw = tt;
            told = λ client some within. each_told d whole old.seen Its.stamp rises 1 clients left on.own client (omega (arith, some)) (omega (arith, within, count));
            clears = tt;
          });
          met = λ board. absurd (cc (ap (λ h. same_home h BoardHome) at_home, board));
          before = record { 0 = larger_of old.seen did.old.queue.first entries };
          next = ap (λ (s : Stamp). s.0) next;
          known_before = behind_known whole (QueueHome (place + 1)) old.seen did.old.queue.first entries (starts_trans _ (events_at (page_of p').seen) entries (seen_front whole clients on) (Its ∷ [], events_more did)) (low_first did) is_known;
        })

    pub noted_closes : Closes d old new
    noted_closes = closes_by did own all_made all_home (closer_still did own all_made all_home work (All-cons (λ (x : Stamped). x.stamp.0 ≤ new.seen.0) Its [] (omega (arith, lasts)) (All-nil (λ (x : Stamped). x.stamp.0 ≤ new.seen.0)))) shows_it

-- ---- behind the clients, and at a halt

-- behind clients that left, where a stamp behind each of theirs was seen
module _ {d : Domain} {clients : List ClientWorker} {old : Closer} {last : Stamp} (is : IsCloser d old) (behind : IsBehindAll old.seen clients last) where
  abbrev seeing : Closer
  seeing = record old { seen = last }

  grew_seeing : Grew (work_of d old) (work_of d seeing) []
  grew_seeing = record { setup = refl; clients = refl; id = refl; own = sym (append-nil old.own); stamp = behind.least; made = none_made }

  pub seen_closer : IsCloser d seeing
  seen_closer =
      let later = behind.least in
      let booted = is.booted in
      record {
        seat = is.seat;
        fresh = is.fresh;
        board = there d (IsBoardPass d (work_of d old)) (IsBoardPass d (work_of d seeing)) old.board (board_pass_stays d (work_of d old) (work_of d seeing) [] grew_seeing (All-nil (λ (x : Stamped). stands_at d.setup d.clients BoardHome x ≡ false))) is.board;
        until = is.until;
        count = is.count;
        queues = λ k low. there d (IsQueuePass d (work_of d old) k) (IsQueuePass d (work_of d seeing) k) (slice_index_or old.queues.items k None) (queue_pass_stays d (work_of d old) (work_of d seeing) [] grew_seeing k (All-nil (λ (x : Stamped). stands_at d.setup d.clients (QueueHome (k + 1)) x ≡ false))) (is.queues k low);
        clock = is.clock;
        work = is.work;
        made = is.made;
        among = is.among;
        reached = All-weaker (λ (x : Stamped). x.stamp.0 ≤ old.seen.0) (λ (x : Stamped). x.stamp.0 ≤ last.0) (λ x le. omega (arith, le, later)) old.own is.reached;
        booted = omega (arith, booted, later);
        bound = behind.bound;
      }

  -- the domain shows what it noted as it closed queues
  pub closed_shows : (scripts : List Client) → EachDone d 1 scripts clients → length clients ≡ d.clients → ShowsFor d clients old → (new : Closer) → Closes d seeing new → ShowsFor d clients new
  closed_shows scripts done count shows new closes = closes.shows clients count (behind.left d 1 scripts done) (λ whole on.
      let first = shows whole (record { sound = on.sound; board = on.board; queues = on.queues; own = on.own }) in
      (behind.known_last d 1 scripts whole done on.own first.0, shows_still d whole (work_of d old) (work_of d seeing) grew_seeing first.1))

-- with its halt it is else as it was
same_halt : (clients : List ClientWorker) (closer : Closer) (halt : Option Halt) (why : Halt) → IsHaltBy clients closer why → IsHaltBy clients (record closer { halt = halt }) why
same_halt clients closer halt halts.NoMemory is = is
same_halt clients closer halt (halts.Worn stamp) is = is

pub has_halted : {d : Domain} {clients : List ClientWorker} (closer : Closer) (why : Halt) → IsHaltBy clients closer why → IsCloser d closer → ShowsFor d clients closer → HasClosed d clients (record closer { halt = Some why })
has_halted {d} {clients} closer why by is shows = record {
  is = record { seat = is.seat; fresh = is.fresh; board = is.board; until = is.until; count = is.count; queues = is.queues; clock = is.clock; work = is.work; made = is.made; among = is.among; reached = is.reached; booted = is.booted; bound = is.bound };
  shows = λ whole on. shows whole (record { sound = on.sound; board = on.board; queues = on.queues; own = on.own });
  closed = λ none. absurd (cc none);
  halts = same_halt clients closer (Some why) why by;
}
