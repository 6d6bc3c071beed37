-- What a desk knows and shows goes on, as its worker notes an event, or nothing.
use Rattle.std.proofs.Common.{◌≡◌, ◌≤◌, ◌<◌, ℕ, ◌+◌, true, false, length, List, [], ◌∷◌, ◌++◌, reverse, Option, Some, None, inl, inr, refl, sym, ◌∙◌, ap, subst, append-nil, arith}
use Rattle.std.specs.Prelude.{slice_index_or}
use Rattle.std.proofs.lemmas.List.{append_assoc, reverse-append, reverse-reverse}
use Rattle.std.specs.List.{All, Contains, filter}
use Rattle.std.proofs.lemmas.List.Elements.{All-nil, All-cons, All-append, All-weaker, Contains-push, Contains-append_left}
use Rattle.xa_server.specs.xa_types.declared.stamp.Stamp.{Stamp}
use Rattle.xa_server.specs.xa_types.declared.setup.Setup.{Setup}
use Rattle.xa_server.specs.xa_types.declared.ids.CallerId.{CallerId}
use Rattle.xa_server.specs.xa_events.declared.event.Event.{Event}
use Rattle.xa_server.specs.xa_events.declared.event.Event.TheVariants.{Advertise}
use Rattle.xa_server.specs.xa_events.Words.{AtEach}
use Rattle.xa_server.specs.xa_events.Homes.{Home, home_of, same_home}
use Rattle.xa_server.specs.xa_events.Clock.{now}
use Rattle.xa_server.specs.xa_events.Homes.Home.{BoardHome, QueueHome, ClockHome, CallerHome}
use Rattle.xa_server.specs.xa_events.Board.{published}
use Rattle.xa_server.specs.xa_stamp.declared.home.Stamped.{Stamped}
use Rattle.xa_server.specs.xa_lock.declared.makers.Made.{Made}
use Rattle.xa_server.specs.xa_lock.declared.pass.LockPass.{LockPass}
use Rattle.xa_server.specs.xa_lock.Makers.{noted_in}
use Rattle.xa_server.specs.xa_worker.Seen.{past_in, IsBehind}
use Rattle.xa_server.specs.xa_worker.Crew.{stands_at}
use Rattle.xa_server.proofs.xa_worker.Growing.{page_stays}
use Rattle.xa_server.specs.xa_cell.declared.view.View.{View}
use Rattle.xa_server.specs.xa_cell.Known.{known, IsSeatOf}
use Rattle.xa_server.specs.xa_held.declared.kept_board.BoardNote.{BoardNote}
use Rattle.xa_server.specs.xa_held.declared.kept_board.BoardNote.TheVariants.{Opened, By, Looked}
use Rattle.xa_server.specs.xa_held.declared.kept_queue.QueueNote.{QueueNote}
use Rattle.xa_server.specs.xa_held.Joins.{changes_at, events_at}
use Rattle.xa_server.specs.xa_held.Kept.{notes_of}
use Rattle.xa_server.specs.xa_lock.Known.{known as page_of}
use Rattle.xa_server.specs.xa_lock.Pages.{StartsWith}
use Rattle.xa_server.specs.xa_worker.Work.{WorkState}
use Rattle.xa_server.specs.xa_caller.declared.cargo.Filling.{Filling}
use Rattle.xa_server.specs.xa_caller.Caller.{CallerState}
use Rattle.xa_server.specs.Told.{HasStamp, FilledByEnds}
use Rattle.xa_server.proofs.Telling.{fillings_stay}
use Rattle.xa_desk.specs.declared.domain.Domain.{Domain}
use Rattle.xa_desk.specs.declared.desk.Desk.{Desk}
use Rattle.xa_desk.specs.Whole.{Whole, IsKnown}
use Rattle.xa_desk.specs.Made.{IsMade}
use Rattle.xa_desk.specs.Deserted.{GaveUpLast}
use Rattle.xa_desk.specs.Desks.{IsAmong, IsGrounded, IsBoardPass, IsQueuePass, IsClockPass, IsThere, GoesOn, HasGrounds, IsShown, Shows, IsDesk, Leads, board_page, queue_page, clock_page, shown_to, page_in}
use Rattle.xa_desk.proofs.Timely.{IsTimely, floor_stays}
use Rattle.xa_server.specs.Fillings.{WasTaken, AnswersTaken}
use Rattle.xa_desk.proofs.Seating.{TakesAll, TakesOn, taken_before, took_on, filled_on}

-- the events are such as workers make
abbrev pub AllMade : List Stamped → Type 0
AllMade own = All (λ (x : Stamped). IsMade x.event) own

abbrev pub AllAmong : Domain → List Stamped → Type 0
AllAmong d own = All (λ (x : Stamped). IsAmong (length d.queues.items) (home_of d.setup d.clients x.event)) own

pub none_made : AllMade []
none_made = All-nil (λ (x : Stamped). IsMade x.event)

pub one_made : (x : Stamped) → IsMade x.event → AllMade (x ∷ [])
one_made x is = All-cons (λ (y : Stamped). IsMade y.event) x [] is none_made

-- the work went on, by these events
pub record Grew (w w' : WorkState) (more : List Stamped) : Type 0 where
  pub setup : w'.setup ≡ w.setup
  pub clients : w'.clients ≡ w.clients
  pub id : w'.id ≡ w.id
  pub own : w'.own ≡ w.own ++ more
  pub stamp : w.stamp.0 ≤ w'.stamp.0
  pub made : AllMade more

-- the work with an event more, or with none and a later stamp, and it may be with other room
pub grew_one : (w w' : WorkState) (room : ℕ) (x : Stamped) → w' ≡ record w { stamp = x.stamp; own = w.own ++ x ∷ []; room = room } → w.stamp.0 < x.stamp.0 → IsMade x.event → Grew w w' (x ∷ [])
grew_one w w' room x is rises kind = subst (λ (v : WorkState). Grew w v (x ∷ [])) (sym is) (record { setup = refl; clients = refl; id = refl; own = refl; stamp = omega (arith, rises); made = one_made x kind })

pub grew_none : (w w' : WorkState) (room : ℕ) (stamp : Stamp) → w' ≡ record w { stamp = stamp; room = room } → w.stamp.0 ≤ stamp.0 → Grew w w' []
grew_none w w' room stamp is later = subst (λ (v : WorkState). Grew w v []) (sym is) (record { setup = refl; clients = refl; id = refl; own = sym (append-nil w.own); stamp = later; made = none_made })

-- what is filled has its end still
pub filled_more : (w w' : WorkState) (more : List Stamped) (v v' : View Filling) → Grew w w' more → TakesOn v v' → FilledByEnds w.own v → FilledByEnds w'.own v'
filled_more w w' more v v' grew takes filled = filled_on w'.own v v' takes (subst (λ (l : List Stamped). FilledByEnds l v) (sym {A = List Stamped} grew.own) (fillings_stay w.own more v filled))

-- each answer was taken still, and so are these
pub took_more : (w w' : WorkState) (more : List Stamped) (v v' : View Filling) → Grew w w' more → TakesAll v v' → AnswersTaken v w.own → AnswersTaken v' more → AnswersTaken v' w'.own
took_more w w' more v v' grew takes old new = subst (AnswersTaken v') (sym {A = List Stamped} grew.own) (All-append (λ (x : Stamped). WasTaken v' x.stamp x.event) w.own more (took_on w.own v v' takes old) new)

-- and they stand where the domain has homes
pub among_more : (d : Domain) (w w' : WorkState) (more : List Stamped) → Grew w w' more → AllAmong d more → AllAmong d w.own → AllAmong d w'.own
among_more d w w' more grew new old = subst (AllAmong d) (sym {A = List Stamped} grew.own) (All-append (λ (x : Stamped). IsAmong (length d.queues.items) (home_of d.setup d.clients x.event)) w.own more old new)

-- those of one home do if that is one
pub among_at : (d : Domain) (home : Home) (more : List Stamped) → IsAmong (length d.queues.items) home → All (λ (x : Stamped). home_of d.setup d.clients x.event ≡ home) more → AllAmong d more
among_at d home more is at = All-weaker (λ (x : Stamped). home_of d.setup d.clients x.event ≡ home) (λ (x : Stamped). IsAmong (length d.queues.items) (home_of d.setup d.clients x.event)) (λ x here. subst (IsAmong (length d.queues.items)) (sym here) is) more at

pub made_more : (w w' : WorkState) (more : List Stamped) → Grew w w' more → AllMade w.own → AllMade w'.own
made_more w w' more grew made = subst AllMade (sym {A = List Stamped} grew.own) (All-append (λ (x : Stamped). IsMade x.event) w.own more made grew.made)

-- a stamp of an event stays one
pub stamp_stays : (w w' : WorkState) (more : List Stamped) → Grew w w' more → (stamp : Stamp) → HasStamp w.own stamp → HasStamp w'.own stamp
stamp_stays w w' more grew stamp has = (has.0, subst (λ (l : List Stamped). Contains l has.0) (sym {A = List Stamped} grew.own) (Contains-append_left w.own more has.0 has.1), has.2)

grounded_one : (w w' : WorkState) (more : List Stamped) → Grew w w' more → (note : BoardNote) → IsGrounded w.own note → IsGrounded w'.own note
grounded_one w w' more grew (Opened setup) is = tt
grounded_one w w' more grew (By change) is = tt
grounded_one w w' more grew (Looked look) is = elim is [ inl left ↦ inl left | inr has ↦ inr (stamp_stays w w' more grew look.stamp has) ]

pub grounded_stay : (w w' : WorkState) (more : List Stamped) → Grew w w' more → (notes : List BoardNote) → All (IsGrounded w.own) notes → All (IsGrounded w'.own) notes
grounded_stay w w' more grew notes all = All-weaker (IsGrounded w.own) (IsGrounded w'.own) (grounded_one w w' more grew) notes all

-- the worker gave up the queue's last server still
pub gave_more : {setup : Setup} {queue : ℕ} {entries : List Stamped} {stamp : Stamp} (own more : List Stamped) → GaveUpLast setup queue entries own stamp → GaveUpLast setup queue entries (own ++ more) stamp
gave_more own more gave = record {
  server = gave.server;
  its = gave.its;
  reach = gave.reach;
  stands = Contains-append_left own more _ gave.stands;
  before = gave.before;
  front = gave.front;
  begins = gave.begins;
  until = gave.until;
  all = gave.all;
}

-- what has a greater stamp than the boot came behind it
pub is_behind : (last stamp : Stamp) (e : Event) → last.0 < stamp.0 → IsBehind last stamp e
is_behind last stamp (Advertise a) less = tt
is_behind last stamp _ less = less

module _ (d : Domain) where
  -- ---- passes of homes at which nothing was noted

  module _ (w w' : WorkState) (more : List Stamped) (grew : Grew w w' more) where
    pub board_pass_stays : All (λ (x : Stamped). stands_at d.setup d.clients BoardHome x ≡ false) more → (pass : LockPass BoardNote) → IsBoardPass d w pass → IsBoardPass d w' pass
    board_pass_stays off pass is = record {
      lock = is.lock;
      maker = is.maker ∙ ap (λ id. id.0) (sym grew.id);
      sees = is.sees;
      booted = is.booted;
      own = page_stays d.setup d.clients BoardHome _ w.own more is.own off ∙ ap (filter (stands_at d.setup d.clients BoardHome)) (sym grew.own);
      grounded = grounded_stay w w' more grew (page_of pass).own is.grounded;
      reached = let later = grew.stamp in All-weaker (λ (x : Stamped). x.stamp.0 ≤ w.stamp.0) (λ (x : Stamped). x.stamp.0 ≤ w'.stamp.0) (λ x le. omega (arith, le, later)) (changes_at (page_of pass).seen) is.reached;
    }

    pub queue_pass_stays : (k : ℕ) → All (λ (x : Stamped). stands_at d.setup d.clients (QueueHome (k + 1)) x ≡ false) more → (pass : LockPass (QueueNote Filling)) → IsQueuePass d w k pass → IsQueuePass d w' k pass
    queue_pass_stays k off pass is = record {
      lock = is.lock;
      maker = is.maker ∙ ap (λ id. id.0) (sym grew.id);
      its = is.its;
      sees = is.sees;
      is = is.is;
      own = page_stays d.setup d.clients (QueueHome (k + 1)) _ w.own more is.own off ∙ ap (filter (stands_at d.setup d.clients (QueueHome (k + 1)))) (sym grew.own);
      reached = let later = grew.stamp in All-weaker (λ (x : Stamped). x.stamp.0 ≤ w.stamp.0) (λ (x : Stamped). x.stamp.0 ≤ w'.stamp.0) (λ x le. omega (arith, le, later)) (events_at (page_of pass).seen) is.reached;
    }

  -- the clock's, where no tick that was read or made since is greater than what it showed the pass last
  module _ (w w' : WorkState) (more : List Stamped) (grew : Grew w w' more) where
    pub clock_pass_stays : All (λ (x : Stamped). stands_at d.setup d.clients ClockHome x ≡ false) more → (pass : LockPass Made) → All (IsTimely w.clients w.id.0 (now (past_in (noted_in (page_of pass).seen)))) more → IsClockPass d w pass → IsClockPass d w' pass
    clock_pass_stays off pass timely is = record {
      lock = is.lock;
      maker = is.maker ∙ ap (λ id. id.0) (sym grew.id);
      own = page_stays d.setup d.clients ClockHome _ w.own more is.own off ∙ ap (filter (stands_at d.setup d.clients ClockHome)) (sym grew.own);
      reached = let later = grew.stamp in All-weaker (λ (x : Stamped). x.stamp.0 ≤ w.stamp.0) (λ (x : Stamped). x.stamp.0 ≤ w'.stamp.0) (λ x le. omega (arith, le, later)) (noted_in (page_of pass).seen) is.reached;
      floor = floor_stays w w' (now (past_in (noted_in (page_of pass).seen))) more grew.clients grew.id grew.own timely is.floor;
    }

    pub clock_there_stays : All (λ (x : Stamped). stands_at d.setup d.clients ClockHome x ≡ false) more → (pass : Option (LockPass Made)) → All (IsTimely w.clients w.id.0 (now (past_in (noted_in (page_in pass).seen)))) more → IsThere (IsClockPass d w) pass → IsThere (IsClockPass d w') pass
    clock_there_stays off None timely is = absurd is
    clock_there_stays off (Some pass) timely is = clock_pass_stays off pass timely is

  pub there : {E : Type 0} (P Q : LockPass E → Type 0) (pass : Option (LockPass E)) → ((p : LockPass E) → P p → Q p) → IsThere P pass → IsThere Q pass
  there P Q None more is = absurd is
  there P Q (Some pass) more is = more pass is

  -- ---- what is shown

  pub shows_more : (whole : Whole) (w w' : WorkState) (x : Stamped) → Grew w w' (x ∷ []) → Shows d whole w → IsShown d whole w.id.0 w.own x → Shows d whole w'
  shows_more whole w w' x grew shows shown =
      let EachShown : CallerId → List Stamped → Type 0 = λ id newest. AtEach (λ (y : Stamped) older. IsShown d whole id.0 (reverse older) y) newest in
      subst (λ (l : List Stamped). EachShown w'.id (reverse l)) (sym {A = List Stamped} grew.own)
      (subst (EachShown w'.id) (sym (reverse-append w.own (x ∷ [])))
      (subst (λ (id : CallerId). EachShown id (x ∷ reverse w.own)) (sym grew.id) (subst (λ (own : List Stamped). IsShown d whole w.id.0 own x) (sym (reverse-reverse w.own)) shown, shows)))

  pub shows_still : (whole : Whole) (w w' : WorkState) → Grew w w' [] → Shows d whole w → Shows d whole w'
  shows_still whole w w' grew shows =
      let EachShown : CallerId → List Stamped → Type 0 = λ id newest. AtEach (λ (y : Stamped) older. IsShown d whole id.0 (reverse older) y) newest in
      subst (λ (id : CallerId). EachShown id (reverse w'.own)) (sym grew.id) (subst (λ (l : List Stamped). EachShown w.id (reverse l)) (sym {A = List Stamped} (grew.own ∙ append-nil w.own)) shows)

  pub off_home : (home other : Home) (more : List Stamped) → All (λ (x : Stamped). home_of d.setup d.clients x.event ≡ home) more → same_home home other ≡ false → All (λ (x : Stamped). stands_at d.setup d.clients other x ≡ false) more
  off_home home other more at apart = All-weaker (λ (x : Stamped). home_of d.setup d.clients x.event ≡ home) (λ (x : Stamped). stands_at d.setup d.clients other x ≡ false) (λ x is. ap (λ h. same_home h other) is ∙ apart) more at

  pub on_home : (home : Home) (more : List Stamped) → All (λ (x : Stamped). home_of d.setup d.clients x.event ≡ home) more → same_home home home ≡ true → All (λ (x : Stamped). stands_at d.setup d.clients home x ≡ true) more
  on_home home more at same = All-weaker (λ (x : Stamped). home_of d.setup d.clients x.event ≡ home) (λ (x : Stamped). stands_at d.setup d.clients home x ≡ true) (λ x is. ap (λ h. same_home h home) is ∙ same) more at

  -- ---- what leads on, leads on further

  pub leads_trans : (a b c : Desk) → Leads d a b → Leads d b c → Leads d a c
  leads_trans a b c ab bc = record {
    desk = bc.desk;
    own = (ab.own.0 ++ bc.own.0, bc.own.1 ∙ ap (λ (l : List Stamped). l ++ bc.own.0) ab.own.1 ∙ append_assoc a.caller.work.own ab.own.0 bc.own.0);
    pages = λ queue.
        let first = ab.pages queue in
        let second = bc.pages queue in
        (first.0 ++ second.0, second.1 ∙ ap (λ (l : List (QueueNote Filling)). l ++ second.0) first.1 ∙ append_assoc (queue_page a queue).seen first.0 second.0);
    before = λ whole on. ab.before whole (bc.before whole on);
    stamp = let first = ab.stamp in let second = bc.stamp in omega (arith, first, second);
  }

pub starts_same : {X : Type 0} (xs : List X) → StartsWith xs xs
starts_same xs = ([], sym (append-nil xs))

pub starts_trans : {X : Type 0} (whole middle front : List X) → StartsWith whole middle → StartsWith middle front → StartsWith whole front
starts_trans whole middle front more less = (less.0 ++ more.0, more.1 ∙ ap (λ l. l ++ more.0) less.1 ∙ append_assoc front less.0 more.0)

-- ---- a desk that goes on

-- its worker noted these events, its passes know no less, and its seat took what it had
pub record Moves (d : Domain) (old new : Desk) (more : List Stamped) : Type 0 where
  pub grew : Grew old.caller.work new.caller.work more
  pub among : AllAmong d more
  pub seat : IsSeatOf d.cells new.caller.seat
  pub taken : TakesAll (known old.caller.seat) (known new.caller.seat)
  pub filled : FilledByEnds new.caller.work.own (known new.caller.seat)
  pub took : AnswersTaken (known new.caller.seat) more
  pub least : new.caller.least ≤ published (past_in (changes_at (board_page new).seen))
  pub board : IsThere (IsBoardPass d new.caller.work) new.board
  pub board_seen : StartsWith (board_page new).seen (board_page old).seen
  pub count : length new.queues.items ≡ length old.queues.items
  pub queues : (k : ℕ) → k < length d.queues.items → IsThere (IsQueuePass d new.caller.work k) (slice_index_or new.queues.items k None)
  pub queues_seen : (queue : ℕ) → StartsWith (queue_page new queue).seen (queue_page old queue).seen
  pub clock : IsThere (IsClockPass d new.caller.work) new.clock
  pub clock_seen : StartsWith (clock_page new).seen (clock_page old).seen

module _ {d : Domain} {old new : Desk} where
  module _ {more : List Stamped} (is : IsDesk d old) (moves : Moves d old new more) where
    pub moves_before : (whole : Whole) → GoesOn d whole new → GoesOn d whole old
    moves_before whole on = record {
      sound = on.sound;
      board = starts_trans whole.board.notes (board_page new).seen (board_page old).seen on.board moves.board_seen;
      queues = λ queue. starts_trans (notes_of (whole.queues queue)) (queue_page new queue).seen (queue_page old queue).seen (on.queues queue) (moves.queues_seen queue);
      clock = starts_trans whole.clock (clock_page new).seen (clock_page old).seen on.clock moves.clock_seen;
      may = on.may;
      stand = λ x here. on.stand x (subst (λ (l : List Stamped). Contains l x) (sym {A = List Stamped} moves.grew.own) (Contains-append_left old.caller.work.own more x here));
      ended = taken_before whole old.caller.seat new.caller.seat moves.taken on.ended;
    }

    moves_lead : ((whole : Whole) → GoesOn d whole new → GoesOn d whole old → IsKnown whole new.caller.work.stamp) → ((whole : Whole) → GoesOn d whole new → GoesOn d whole old → Shows d whole new.caller.work) → Leads d old new
    moves_lead is_known shows = let grew = moves.grew in record {
      desk = record {
        setup = grew.setup ∙ is.setup;
        clients = grew.clients ∙ is.clients;
        booted = let later = grew.stamp in let booted = is.booted in omega (arith, later, booted);
        seat = moves.seat;
        board = moves.board;
        least = moves.least;
        count = moves.count ∙ is.count;
        queues = moves.queues;
        clock = moves.clock;
        made = made_more old.caller.work new.caller.work more grew is.made;
        among = among_more d old.caller.work new.caller.work more grew moves.among is.among;
        filled = moves.filled;
        took = took_more old.caller.work new.caller.work more (known old.caller.seat) (known new.caller.seat) grew moves.taken is.took moves.took;
        known_stamp = λ whole on. is_known whole on (moves_before whole on);
        shows = λ whole on. shows whole on (moves_before whole on);
      };
      own = (more, grew.own);
      pages = moves.queues_seen;
      before = moves_before;
      stamp = grew.stamp;
    }

  -- nothing was noted
  pub none_leads : IsDesk d old → Moves d old new [] → ((whole : Whole) → GoesOn d whole new → GoesOn d whole old → IsKnown whole new.caller.work.stamp) → Leads d old new
  none_leads is moves is_known = moves_lead is moves is_known (λ whole on back. shows_still d whole old.caller.work new.caller.work moves.grew (is.shows whole back))

  -- an event was
  pub one_leads : (x : Stamped) → IsDesk d old → Moves d old new (x ∷ []) → new.caller.work.stamp ≡ x.stamp → ((whole : Whole) → GoesOn d whole new → GoesOn d whole old → IsShown d whole old.caller.work.id.0 old.caller.work.own x) → Leads d old new
  one_leads x is moves now shown =
      moves_lead is moves
      (λ whole on back. inr (inl (home_of d.setup d.clients x.event, (x, on.stand x (subst (λ (l : List Stamped). Contains l x) (sym {A = List Stamped} moves.grew.own) (Contains-push old.caller.work.own x)), sym now))))
      (λ whole on back. shows_more d whole old.caller.work new.caller.work x moves.grew (is.shows whole back) (shown whole on back))

-- ---- a desk whose caller alone goes on

module _ {d : Domain} {desk : Desk} {new : CallerState} where
  pub own_moves : {more : List Stamped} → IsDesk d desk → Grew desk.caller.work new.work more → All (λ (x : Stamped). home_of d.setup d.clients x.event ≡ CallerHome desk.caller.work.id.0) more → IsSeatOf d.cells new.seat → TakesAll (known desk.caller.seat) (known new.seat)
      → FilledByEnds new.work.own (known new.seat) → AnswersTaken (known new.seat) more → new.least ≤ published (past_in (changes_at (board_page desk).seen)) → All (IsTimely desk.caller.work.clients desk.caller.work.id.0 (shown_to desk)) more → Moves d desk (record desk { caller = new }) more
  own_moves {more} is grew home seat taken filled took least timely =
      let w : WorkState = desk.caller.work in
      let own : Home = CallerHome w.id.0 in
      record {
        grew = grew;
        among = among_at d own more tt home;
        seat = seat;
        taken = taken;
        filled = filled;
        took = took;
        least = least;
        board = there d (IsBoardPass d w) (IsBoardPass d new.work) desk.board (board_pass_stays d w new.work more grew (off_home d own BoardHome more home refl)) is.board;
        board_seen = starts_same (board_page desk).seen;
        count = refl;
        queues = λ k low. there d (IsQueuePass d w k) (IsQueuePass d new.work k) (slice_index_or desk.queues.items k None) (queue_pass_stays d w new.work more grew k (off_home d own (QueueHome (k + 1)) more home refl)) (is.queues k low);
        queues_seen = λ queue. starts_same (queue_page desk queue).seen;
        clock = clock_there_stays d w new.work more grew (off_home d own ClockHome more home refl) desk.clock timely is.clock;
        clock_seen = starts_same (clock_page desk).seen;
      }

-- the caller noted nothing, and reads no older version
pub record IsQuiet (d : Domain) (desk : Desk) (new : CallerState) : Type 0 where
  pub grew : Grew desk.caller.work new.work []
  pub seat : IsSeatOf d.cells new.seat
  pub takes : TakesOn (known desk.caller.seat) (known new.seat)
  pub least : new.least ≡ desk.caller.least

module _ (d : Domain) (desk : Desk) (new : CallerState) where
  -- the caller noted an event at its own home
  pub own_leads : (x : Stamped) → Grew desk.caller.work new.work (x ∷ []) → new.work.stamp ≡ x.stamp → home_of d.setup d.clients x.event ≡ CallerHome desk.caller.work.id.0 → IsSeatOf d.cells new.seat → TakesOn (known desk.caller.seat) (known new.seat)
      → WasTaken (known new.seat) x.stamp x.event → new.least ≤ published (past_in (changes_at (board_page desk).seen)) → IsTimely desk.caller.work.clients desk.caller.work.id.0 (shown_to desk) x → IsDesk d desk → ((whole : Whole) → GoesOn d whole (record desk { caller = new }) → GoesOn d whole desk → IsShown d whole desk.caller.work.id.0 desk.caller.work.own x) → Leads d desk (record desk { caller = new })
  own_leads x grew now home seat takes took least timely is shown =
      one_leads x is
      (own_moves is grew (All-cons (λ (y : Stamped). home_of d.setup d.clients y.event ≡ CallerHome desk.caller.work.id.0) x [] home (All-nil (λ (y : Stamped). home_of d.setup d.clients y.event ≡ CallerHome desk.caller.work.id.0))) seat takes.taken
      (filled_more desk.caller.work new.work (x ∷ []) (known desk.caller.seat) (known new.seat) grew takes is.filled) (All-cons (λ (y : Stamped). WasTaken (known new.seat) y.stamp y.event) x [] took (All-nil (λ (y : Stamped). WasTaken (known new.seat) y.stamp y.event))) least
      (All-cons (IsTimely desk.caller.work.clients desk.caller.work.id.0 (shown_to desk)) x [] timely (All-nil (IsTimely desk.caller.work.clients desk.caller.work.id.0 (shown_to desk)))))
      now shown

  -- with the stamp behind its own
  pub next_leads : (x : Stamped) → Grew desk.caller.work new.work (x ∷ []) → new.work.stamp ≡ x.stamp → home_of d.setup d.clients x.event ≡ CallerHome desk.caller.work.id.0 → IsSeatOf d.cells new.seat → TakesOn (known desk.caller.seat) (known new.seat)
      → WasTaken (known new.seat) x.stamp x.event → new.least ≤ published (past_in (changes_at (board_page desk).seen)) → IsTimely desk.caller.work.clients desk.caller.work.id.0 (shown_to desk) x → IsDesk d desk → x.stamp.0 ≡ desk.caller.work.stamp.0 + 1
      → ((whole : Whole) → GoesOn d whole desk → HasGrounds d whole desk.caller.work.id.0 desk.caller.work.own x.stamp x.event) → Leads d desk (record desk { caller = new })
  next_leads x grew now home seat takes took least timely is next grounds =
      let booted = is.booted in
      own_leads x grew now home seat takes took least timely is (λ whole on back. record {
        grounds = grounds whole back;
        behind = is_behind d.booted x.stamp x.event (omega (arith, booted, next));
        met = λ board. absurd (cc (ap (λ h. same_home h BoardHome) home, board));
        before = desk.caller.work.stamp;
        next = next;
        known_before = is.known_stamp whole back;
      })

  pub quiet_leads : IsQuiet d desk new → IsDesk d desk → ((whole : Whole) → GoesOn d whole (record desk { caller = new }) → GoesOn d whole desk → IsKnown whole new.work.stamp) → Leads d desk (record desk { caller = new })
  quiet_leads quiet is is_known =
      none_leads is
      (own_moves is quiet.grew (All-nil (λ (y : Stamped). home_of d.setup d.clients y.event ≡ CallerHome desk.caller.work.id.0)) quiet.seat quiet.takes.taken
      (filled_more desk.caller.work new.work [] (known desk.caller.seat) (known new.seat) quiet.grew quiet.takes is.filled) (All-nil (λ (y : Stamped). WasTaken (known new.seat) y.stamp y.event)) (subst (λ (n : ℕ). n ≤ published (past_in (changes_at (board_page desk).seen))) (sym quiet.least) is.least) (All-nil (IsTimely desk.caller.work.clients desk.caller.work.id.0 (shown_to desk)))) is_known

  -- with the stamp that it had
  pub calm_leads : IsQuiet d desk new → IsDesk d desk → new.work.stamp ≡ desk.caller.work.stamp → Leads d desk (record desk { caller = new })
  calm_leads quiet is same = quiet_leads quiet is (λ whole on back. subst (IsKnown whole) (sym same) (is.known_stamp whole back))
