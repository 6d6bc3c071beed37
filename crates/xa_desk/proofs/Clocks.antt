-- What a desk knows and shows goes on, as its worker visits the clock.
use Rattle.std.proofs.Common.{◌≡◌, ◌≤◌, ◌<◌, ℕ, ◌+◌, ◌^◌, ◌==◌, max, Bool, true, false, List, [], ◌∷◌, ◌++◌, length, Option, Some, None, Ok, Err, if◌then◌else◌, inl, inr, refl, sym, ◌∙◌, ap, subst, append-nil, arith, eqb-true}
use Rattle.std.specs.Prelude.{nat_lt, slice_index_or}
use Rattle.std.specs.List.{All, filter}
use Rattle.std.proofs.lemmas.Bool.{ltb-true}
use Rattle.std.proofs.lemmas.List.{map-append}
use Rattle.std.proofs.lemmas.List.Elements.{All-nil, All-cons, All-weaker, filter-append}
use Rattle.xa_server.specs.xa_types.declared.call.Op.TheVariants.{Tick as TickOp}
use Rattle.xa_server.specs.xa_types.declared.ids.CallerId.{CallerId}
use Rattle.xa_server.specs.xa_types.declared.stamp.Stamp.{Stamp}
use Rattle.xa_server.specs.xa_events.Board.{published}
use Rattle.xa_server.specs.xa_events.Caller.{tick_floor}
use Rattle.xa_server.specs.xa_events.Clock.{now}
use Rattle.xa_server.specs.xa_events.Homes.{home_of}
use Rattle.xa_server.specs.xa_events.Homes.Home.{BoardHome, QueueHome, ClockHome}
use Rattle.xa_server.specs.xa_stamp.declared.home.Stamped.{Stamped}
use Rattle.xa_server.specs.xa_stamp.Home.{last_stamp}
use Rattle.xa_server.proofs.xa_stamp.Stamps.{last_stamp-push}
use Rattle.xa_server.specs.xa_lock.declared.makers.Made.{Made}
use Rattle.xa_server.specs.xa_lock.declared.pass.LockPass.{LockPass}
use Rattle.xa_server.specs.xa_lock.declared.pass.Page.{Page}
use Rattle.xa_server.specs.xa_lock.Known.{known as page_of, IsPassOf}
use Rattle.xa_server.specs.xa_lock.Makers.{noted_in}
use Rattle.xa_server.specs.xa_lock.Pages.{StartsWith}
use Rattle.xa_server.specs.xa_worker.Crew.{stands_at, no_stamp}
use Rattle.xa_server.specs.xa_worker.Seen.{past_in, StandsBehind}
use Rattle.xa_server.specs.xa_worker.Work.{WorkState, theirs, seeing}
use Rattle.xa_server.specs.xa_worker.declared.work.Halt.{Halt}
use Rattle.xa_server.specs.xa_worker.declared.work.Halt.TheVariants as halts
use Rattle.xa_server.proofs.xa_worker.Growing.{filter_all}
use Rattle.xa_server.specs.xa_cell.declared.tokens.Seat.{Seat}
use Rattle.xa_server.specs.xa_cell.Known.{known, IsSeatOf}
use Rattle.xa_server.specs.xa_held.declared.kept_board.BoardNote.{BoardNote}
use Rattle.xa_server.specs.xa_held.Joins.{changes_at}
use Rattle.xa_server.specs.xa_caller.declared.cargo.Filling.{Filling}
use Rattle.xa_server.specs.xa_caller.Caller.{CallerState}
use Rattle.xa_server.specs.xa_caller.Changes.{tick_of, ticked_by}
use Rattle.xa_server.specs.xa_caller.Phases.{just_in}
use Rattle.xa_ticks.specs.declared.clock.Moment.{Moment}
use Rattle.xa_ticks.specs.declared.clock.TickRefused.{TickRefused}
use Rattle.xa_ticks.specs.declared.clock.TickRefused.TheVariants as refusals
use Rattle.xa_ticks.specs.Clock.{ClockState, Advances, made_in, now_of, larger, tick_refused}
use Rattle.xa_ticks.specs.Visits.{ClockVisits, ReachesClock, ReadAs, TickedAs}
use Rattle.xa_ticks.proofs.Passing.{bare_made}
use Rattle.xa_ticks.proofs.Showing.{visited, seen_grows, ticked_now, ticked_behind, never_falls}
use Rattle.xa_desk.specs.declared.domain.Domain.{Domain}
use Rattle.xa_desk.specs.declared.desk.Desk.{Desk}
use Rattle.xa_desk.specs.Whole.{Whole, IsKnown, entries_of}
use Rattle.xa_desk.specs.Desks.{IsBoardPass, IsQueuePass, IsClockPass, IsThere, GoesOn, IsDesk, Leads, page_in, page_at, board_page, queue_page, clock_page, shown_to}
use Rattle.xa_desk.specs.Serving.{IsHaltNear, seen_by}
use Rattle.xa_desk.specs.Steps.{FitsOp}
use Rattle.xa_desk.specs.Ticking.{BarsTick, MovesAtClock, tick_halt}
use Rattle.xa_desk.proofs.Cleared.{EndsAt, seen_known}
use Rattle.xa_server.proofs.xa_caller.Reading.{is_numbered}
use Rattle.xa_desk.proofs.Fitting.{call_over, one_more_fits}
use Rattle.xa_desk.proofs.Leading.{Grew, grew_one, grew_none, Moves, leads_trans, none_leads, one_leads, starts_same, starts_trans, there, filled_more, among_at, on_home, off_home, board_pass_stays, queue_pass_stays, is_behind}
use Rattle.xa_desk.proofs.Seating.{TakesOn, takes_same, none_taken}
use Rattle.xa_desk.proofs.Timely.{IsTimely, floor_stays, if_some_if}
use Rattle.xa_desk.proofs.Visiting.{last_known, larger_known}

-- a step at the clock: the desk behind it, with the pass that was put back
pub record ClockStep (d : Domain) (old new : Desk) (p p' : LockPass Made) : Type 0 where
  pub is : IsDesk d old
  pub was : old.clock ≡ Some p
  pub now : new.clock ≡ Some p'
  pub board : new.board ≡ old.board
  pub queues : new.queues ≡ old.queues
  pub lock : IsPassOf d.clock p'

pub clock_pass : {d : Domain} {desk : Desk} → IsDesk d desk → {p : LockPass Made} → desk.clock ≡ Some p → IsClockPass d desk.caller.work p
clock_pass {d} {desk} is was = subst (IsThere (IsClockPass d desk.caller.work)) was is.clock

-- the stamp of a tick is behind what was seen, and at most 2^63
pub tick_stamp : (p p' : Page Made) (seen : Stamp) (by : CallerId) (op n : ℕ) (moment : Moment) → TickedAs p p' seen by op n (Ok moment) → (seen.0 < moment.stamp.0) × (moment.stamp.0 ≤ 2 ^ 63)
tick_stamp p p' seen by op n moment v = let next = v.how.1.next in let fresh = v.how.1.fresh in (omega (arith, next), omega (arith, next, fresh))

abbrev SaysOf : Stamp → ℕ → ClockState → TickRefused → Type 0
SaysOf seen n clock r = EndsAt (larger seen clock) (tick_halt r) × BarsTick n r (now_of clock)

-- why the clock isn't moved says when stamps are at their end, and what the clock shows
refused_so : (seen : Stamp) (n : ℕ) (clock : ClockState) (why : TickRefused) → tick_refused seen n clock ≡ Some why → EndsAt (max seen.0 (last_stamp no_stamp clock.entries)) (tick_halt why) × BarsTick n why (now_of clock)
refused_so seen n clock why is = by (nat_lt (2 ^ 62) (now_of clock + n)) refl (larger seen clock == 2 ^ 63) refl is
  where
    by : (far : Bool) → nat_lt (2 ^ 62) (now_of clock + n) ≡ far → (spent : Bool) → (larger seen clock == 2 ^ 63) ≡ spent → (if far then Some (refusals.Past (now_of clock)) else (if spent then Some (refusals.Worn (record { 0 = 2 ^ 63 })) else None)) ≡ Some why → SaysOf seen n clock why
    by true far spent top same = let it : refusals.Past (now_of clock) ≡ why = cc same in subst (SaysOf seen n clock) it (tt, (refl, ltb-true (2 ^ 62) (now_of clock + n) far))
    by false near true top same = let it : refusals.Worn (record { 0 = 2 ^ 63 }) ≡ why = cc same in subst (SaysOf seen n clock) it ((refl, sym (eqb-true (larger seen clock) (2 ^ 63) top)), tt)
    by false near false low same = absurd (cc same)

at_least : (halt : Halt) (last : Stamp) (end : ℕ) → EndsAt end halt → last.0 ≤ end → last.0 ≤ (seen_by halt last).0
at_least halts.NoMemory last end near low = omega arith
at_least (halts.Worn stamp) last end near low = let same = near.1 in omega (arith, same, low)

module _ {d : Domain} {old new : Desk} {p p' : LockPass Made} (step : ClockStep d old new p p') where
  abbrev w : WorkState
  w = old.caller.work

  abbrev w' : WorkState
  w' = new.caller.work

  abbrev after : ℕ
  after = now (past_in (noted_in (page_of p').seen))

  pass_before : IsClockPass d w p
  pass_before = clock_pass step.is step.was

  shown_now_is : shown_to new ≡ after
  shown_now_is = ap (λ (o : Option (LockPass Made)). now (past_in (noted_in (page_in o).seen))) step.now

  -- what the pass saw stands first there in the end
  clock_front : (whole : Whole) → GoesOn d whole new → StartsWith whole.clock (page_of p').seen
  clock_front whole on = subst (λ (o : Option (LockPass Made)). StartsWith whole.clock (page_in o).seen) step.now on.clock

  seen_front : (whole : Whole) → GoesOn d whole new → StartsWith (entries_of whole ClockHome) (noted_in (page_of p').seen)
  seen_front whole on = let front = clock_front whole on in (noted_in front.0, ap noted_in front.1 ∙ map-append (λ (m : Made). m.noted) (page_of p').seen front.0)

  module _ {more : List Stamped} {How : ClockState → ClockState → Type 0} (v : ClockVisits (page_of p) (page_of p') more How) where
    own_after : noted_in (page_of p').own ≡ noted_in (page_of p).own ++ more
    own_after = ap noted_in v.own ∙ map-append (λ (m : Made). m.noted) (page_of p).own (made_in more) ∙ ap (λ (l : List Stamped). noted_in (page_of p).own ++ l) (bare_made more)

    pub clock_grew : StartsWith (clock_page new).seen (clock_page old).seen
    clock_grew = subst (λ o. StartsWith (page_in o).seen (clock_page old).seen) (sym step.now) (subst (λ o. StartsWith (page_of p').seen (page_in o).seen) (sym step.was) (seen_grows (page_of p) (page_of p') more How v))

    low : tick_floor w.clients w.id.0 (theirs w) ≤ after
    low = let floor = pass_before.floor in let rises = never_falls d.setup (page_of p) (page_of p') more How v in omega (arith, floor, rises)

    -- what was noted there is all that the worker has to know
    clock_moves : Grew w w' more → All (λ (x : Stamped). home_of d.setup d.clients x.event ≡ ClockHome) more → new.caller.seat ≡ old.caller.seat → new.caller.least ≡ old.caller.least → All (IsTimely w.clients w.id.0 after) more → All (λ (x : Stamped). x.stamp.0 ≤ w'.stamp.0) (noted_in (page_of p').seen) → Moves d old new more
    clock_moves grew home seat same timely reached =
        let is = step.is in
        let least = is.least in
        let at_clock : Stamped → Bool = stands_at d.setup d.clients ClockHome in
        let kept : filter at_clock more ≡ more = filter_all at_clock more (on_home d ClockHome more home refl) in
        let visited_it : IsClockPass d w' p' = record {
          lock = step.lock;
          maker = v.maker ∙ pass_before.maker ∙ ap (λ (id : CallerId). id.0) (sym grew.id);
          own = own_after ∙ ap (λ (l : List Stamped). l ++ more) pass_before.own ∙ ap (λ (l : List Stamped). filter at_clock w.own ++ l) (sym {A = List Stamped} kept) ∙ sym (filter-append at_clock w.own more) ∙ ap (filter at_clock) (sym {A = List Stamped} grew.own);
          reached = reached;
          floor = floor_stays w w' after more grew.clients grew.id grew.own timely low;
        } in
        let takes : TakesOn (known old.caller.seat) (known new.caller.seat) = subst (λ (s : Seat Filling). TakesOn (known old.caller.seat) (known s)) (sym seat) (takes_same (known old.caller.seat)) in
        record {
          grew = grew;
          among = among_at d ClockHome more tt home;
          seat = subst (IsSeatOf d.cells) (sym seat) is.seat;
          taken = takes.taken;
          filled = filled_more w w' more (known old.caller.seat) (known new.caller.seat) grew takes is.filled;
          took = none_taken d.setup d.clients ClockHome (known new.caller.seat) more (λ caller at. cc at) home;
          least = subst (λ (o : Option (LockPass BoardNote)). new.caller.least ≤ published (past_in (changes_at (page_in o).seen))) (sym step.board) (omega (arith, least, same));
          board = subst (IsThere (IsBoardPass d w')) (sym step.board) (there d (IsBoardPass d w) (IsBoardPass d w') old.board (board_pass_stays d w w' more grew (off_home d ClockHome BoardHome more home refl)) is.board);
          board_seen = subst (λ o. StartsWith (page_in o).seen (board_page old).seen) (sym step.board) (starts_same (board_page old).seen);
          count = ap (λ q. length q.items) step.queues;
          queues = λ k few. subst (λ q. IsThere (IsQueuePass d w' k) (slice_index_or q.items k None)) (sym step.queues)
              (there d (IsQueuePass d w k) (IsQueuePass d w' k) (slice_index_or old.queues.items k None) (queue_pass_stays d w w' more grew k (off_home d ClockHome (QueueHome (k + 1)) more home refl)) (is.queues k few));
          queues_seen = λ queue. subst (λ q. StartsWith (page_at q.items queue).seen (queue_page old queue).seen) (sym step.queues) (starts_same (queue_page old queue).seen);
          clock = subst (IsThere (IsClockPass d w')) (sym step.now) visited_it;
          clock_seen = clock_grew;
        }

    pub moves_there : Leads d old new → new.reader ≡ old.reader → MovesAtClock d old new
    moves_there leads reader = record { leads = leads; clock = clock_grew; board = step.board; queues = step.queues; reader = reader }

  -- ---- the clock was moved on

  module _ (seen : Stamp) (saw : seen ≡ w.stamp) (by : CallerId) (itself : by ≡ w.id) (op n : ℕ) (moment : Moment) (last : Stamp) (v : TickedAs (page_of p) (page_of p') seen by op n (Ok moment)) (reaches : ReachesClock (page_of p') last) (caller : new.caller ≡ ticked_by moment.stamp op moment.now old.caller) where
    abbrev x : Stamped
    x = record { stamp = moment.stamp; event = tick_of w.id op moment.now }

    higher : moment.stamp.0 ≡ max w.stamp.0 (last_stamp no_stamp v.old.entries) + 1
    higher = v.how.1.next ∙ ap (λ (s : Stamp). max s.0 (last_stamp no_stamp v.old.entries) + 1) saw

    stamp_now : new.caller.work.stamp ≡ moment.stamp
    stamp_now = ap (λ (c : CallerState). c.work.stamp) caller

    grew : Grew w w' (x ∷ [])
    grew = grew_one w w' w.room x (ap (λ (c : CallerState). c.work) caller) (omega (arith, higher)) tt

    entries_now : noted_in (page_of p').seen ≡ v.old.entries ++ x ∷ []
    entries_now = visited (page_of p) (page_of p') _ _ v ∙ v.grew ∙ ap (λ (id : CallerId). v.old.entries ++ record { stamp = moment.stamp; event = tick_of id op moment.now } ∷ []) itself

    shows_tick : after ≡ moment.now
    shows_tick = ticked_now (page_of p) (page_of p') seen by op n moment v

    pub shows_now : moment.now ≡ shown_to new
    shows_now = sym (shown_now_is ∙ shows_tick)

    visits_one : ClockVisits (page_of p) (page_of p') (x ∷ []) (λ older newer. (tick_refused seen n older ≡ None) × Advances seen by op n moment newer older)
    visits_one = subst (λ (id : CallerId). ClockVisits (page_of p) (page_of p') (record { stamp = moment.stamp; event = tick_of id op moment.now } ∷ []) (λ older newer. (tick_refused seen n older ≡ None) × Advances seen by op n moment newer older)) itself v

    last_is : last.0 ≡ moment.stamp.0
    last_is = reaches.is ∙ ap (last_stamp no_stamp) entries_now ∙ last_stamp-push no_stamp v.old.entries x

    its_tick : IsTimely w.clients w.id.0 after x
    its_tick = if_some_if (w.id.0 == w.id.0) (Some moment.now) (λ (tick : ℕ). tick ≤ after) (let same = shows_tick in omega (arith, same))

    pub tick_leads : Leads d old new
    tick_leads =
        let is = step.is in
        let booted = is.booted in
        let high = ap (λ (s : Stamp). s.0) stamp_now in
        let at = last_is in
        one_leads x is
        (clock_moves visits_one grew (All-cons (λ (y : Stamped). home_of d.setup d.clients y.event ≡ ClockHome) x [] refl (All-nil (λ (y : Stamped). home_of d.setup d.clients y.event ≡ ClockHome))) (ap (λ (c : CallerState). c.seat) caller) (ap (λ (c : CallerState). c.least) caller)
        (All-cons (IsTimely w.clients w.id.0 after) x [] its_tick (All-nil (IsTimely w.clients w.id.0 after))) (All-weaker (λ (y : Stamped). y.stamp.0 ≤ last.0) (λ (y : Stamped). y.stamp.0 ≤ w'.stamp.0) (λ y le. omega (arith, le, at, high)) (noted_in (page_of p').seen) reaches.each))
        stamp_now
        (λ whole on back. record {
          grounds = record { saw = tt; told = tt; clears = tt };
          behind = is_behind d.booted moment.stamp (tick_of w.id op moment.now) (omega (arith, higher, booted));
          met = λ board. absurd (cc board);
          before = record { 0 = max w.stamp.0 (last_stamp no_stamp v.old.entries) };
          next = higher;
          known_before = larger_known whole w.stamp (record { 0 = last_stamp no_stamp v.old.entries }) (is.known_stamp whole back)
              (last_known whole ClockHome v.old.entries (record { 0 = last_stamp no_stamp v.old.entries }) (starts_trans _ (noted_in (page_of p').seen) v.old.entries (seen_front whole on) (x ∷ [], entries_now)) refl);
        })

    pub tick_goes : new.reader ≡ old.reader → MovesAtClock d old new
    tick_goes reader = moves_there visits_one tick_leads reader

    -- and fits that call
    pub tick_fits : 0 < op → just_in old.caller.phase ≡ None → FitsOp d op (TickOp n) old new
    tick_fits above none =
        one_more_fits d old new x tick_leads grew op (TickOp n) refl (is_numbered w.id.0 w.id.0 op refl above) (λ ops its next. call_over d old ops its none) (λ over ops its. refl)
        (λ whole on. subst (λ (id : CallerId). StandsBehind (noted_in whole.clock) (record { stamp = moment.stamp; event = tick_of id op moment.now }) (λ past. moment.now ≡ now past + n)) itself (ticked_behind (page_of p) (page_of p') seen by op n moment v whole.clock (clock_front whole on)))

  -- ---- nothing was noted there, and a stamp was seen that is no smaller than the clock's last

  module _ {How : ClockState → ClockState → Type 0} (v : ClockVisits (page_of p) (page_of p') [] How) (last seen : Stamp) (reaches : ReachesClock (page_of p') last) (low : last.0 ≤ seen.0) (caller : new.caller ≡ record old.caller { work = seeing seen w }) where
    pub higher_now : new.caller.work.stamp.0 ≡ max w.stamp.0 seen.0
    higher_now = ap (λ (c : CallerState). c.work.stamp.0) caller

    reached_now : All (λ (y : Stamped). y.stamp.0 ≤ w'.stamp.0) (noted_in (page_of p').seen)
    reached_now = let high = higher_now in All-weaker (λ (y : Stamped). y.stamp.0 ≤ last.0) (λ (y : Stamped). y.stamp.0 ≤ w'.stamp.0) (λ y le. omega (arith, le, low, high)) (noted_in (page_of p').seen) reaches.each

    grew_nothing : Grew w w' []
    grew_nothing = grew_none w w' w.room (record { 0 = max w.stamp.0 seen.0 }) (ap (λ (c : CallerState). c.work) caller) (omega arith)

    pub looked_leads : ((whole : Whole) → GoesOn d whole new → GoesOn d whole old → IsKnown whole seen) → Leads d old new
    looked_leads known_seen =
        none_leads step.is
        (clock_moves v grew_nothing (All-nil (λ (y : Stamped). home_of d.setup d.clients y.event ≡ ClockHome)) (ap (λ (c : CallerState). c.seat) caller) (ap (λ (c : CallerState). c.least) caller) (All-nil (IsTimely w.clients w.id.0 after)) reached_now)
        (λ whole on back. subst (IsKnown whole) (sym (ap (λ (c : CallerState). c.work.stamp) caller)) (larger_known whole w.stamp seen (step.is.known_stamp whole back) (known_seen whole on back)))

  -- ---- it was looked at

  module _ (tick : ℕ) (v : ReadAs (page_of p) (page_of p') tick) (last : Stamp) (reaches : ReachesClock (page_of p') last) (caller : new.caller ≡ record old.caller { work = seeing last w }) where
    pub read_goes : new.reader ≡ old.reader → MovesAtClock d old new
    read_goes reader = moves_there v (looked_leads v last last reaches (omega arith) caller (λ whole on back. last_known whole ClockHome (noted_in (page_of p').seen) last (seen_front whole on) reaches.is)) reader

    pub read_shows : tick ≡ shown_to new
    read_shows = v.how.1 ∙ ap now_of (sym v.how.0) ∙ ap (λ (l : List Stamped). now (past_in l)) (sym {A = List Stamped} (visited (page_of p) (page_of p') [] _ v)) ∙ sym shown_now_is

  -- ---- it wasn't moved on, and its last stamp was seen, or that at which stamps came to their end

  module _ (seen : Stamp) (saw : seen ≡ w.stamp) (bound : seen.0 ≤ 2 ^ 63) (by : CallerId) (op n : ℕ) (why : TickRefused) (last : Stamp) (v : TickedAs (page_of p) (page_of p') seen by op n (Err why)) (reaches : ReachesClock (page_of p') last)
      (caller : new.caller ≡ record old.caller { work = seeing (seen_by (tick_halt why) last) w }) where
    same_entries : noted_in (page_of p').seen ≡ v.old.entries
    same_entries = visited (page_of p) (page_of p') [] _ v ∙ v.grew ∙ append-nil v.old.entries

    abbrev end : ℕ
    end = max seen.0 (last_stamp no_stamp v.old.entries)

    near : EndsAt end (tick_halt why)
    near = elim v.how.1 [ inl bar ↦ (refused_so seen n v.old why bar).0 | inr memory ↦ subst (λ (r : TickRefused). EndsAt end (tick_halt r)) (sym memory) tt ]

    last_at : last.0 ≡ last_stamp no_stamp v.old.entries
    last_at = reaches.is ∙ ap (last_stamp no_stamp) same_entries

    low_end : last.0 ≤ (seen_by (tick_halt why) last).0
    low_end = at_least (tick_halt why) last end near (let at = last_at in omega (arith, at))

    pub barred_leads : Leads d old new
    barred_leads =
        looked_leads v last (seen_by (tick_halt why) last) reaches low_end caller
        (λ whole on back.
        let at_last = last_known whole ClockHome (noted_in (page_of p').seen) last (seen_front whole on) reaches.is in
        let at_end = larger_known whole seen (record { 0 = last_stamp no_stamp v.old.entries }) (subst (IsKnown whole) (sym saw) (step.is.known_stamp whole back))
        (last_known whole ClockHome v.old.entries (record { 0 = last_stamp no_stamp v.old.entries }) (subst (StartsWith (entries_of whole ClockHome)) same_entries (seen_front whole on)) refl) in
        seen_known whole (tick_halt why) last end near at_last at_end)

    pub barred_goes : new.reader ≡ old.reader → MovesAtClock d old new
    barred_goes reader = moves_there v barred_leads reader

    -- what the pass saw last bars it
    pub barred_by : BarsTick n why (shown_to new)
    barred_by =
        let shows : now_of v.old ≡ shown_to new = ap (λ (l : List Stamped). now (past_in l)) (sym {A = List Stamped} same_entries) ∙ sym shown_now_is in
        elim v.how.1 [ inl bar ↦ subst (BarsTick n why) shows (refused_so seen n v.old why bar).1 | inr memory ↦ subst (λ (r : TickRefused). BarsTick n r (shown_to new)) (sym memory) tt ]

    pub barred_halts : IsHaltNear new (tick_halt why)
    barred_halts = halt_near (tick_halt why) near (higher_now v last (seen_by (tick_halt why) last) reaches low_end caller)
      where
        halt_near : (halt : Halt) → EndsAt end halt → new.caller.work.stamp.0 ≡ max w.stamp.0 (seen_by halt last).0 → IsHaltNear new halt
        halt_near halts.NoMemory is high = tt
        halt_near (halts.Worn stamp) is high = let top = is.0 in let same = ap (λ (s : Stamp). s.0) saw in (top, omega (arith, top, high, bound, same))

-- ---- a worker that visited nothing but the clock

pub clock_alone : (d : Domain) (old new : Desk) → Leads d old new → new ≡ record old { caller = new.caller } → MovesAtClock d old new
clock_alone d old new leads rest = record {
  leads = leads;
  clock = subst (λ (desk : Desk). StartsWith (clock_page desk).seen (clock_page old).seen) (sym rest) (starts_same (clock_page old).seen);
  board = ap (λ (desk : Desk). desk.board) rest;
  queues = ap (λ (desk : Desk). desk.queues) rest;
  reader = ap (λ (desk : Desk). desk.reader) rest;
}

pub clock_trans : (d : Domain) (a b c : Desk) → MovesAtClock d a b → MovesAtClock d b c → MovesAtClock d a c
clock_trans d a b c ab bc = record {
  leads = leads_trans d a b c ab.leads bc.leads;
  clock = starts_trans (clock_page c).seen (clock_page b).seen (clock_page a).seen bc.clock ab.clock;
  board = bc.board ∙ ab.board;
  queues = bc.queues ∙ ab.queues;
  reader = bc.reader ∙ ab.reader;
}
