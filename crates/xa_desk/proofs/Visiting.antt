-- What a desk knows and shows goes on, as its worker visits a queue.
use Rattle.std.proofs.Common.{◌≡◌, ◌≢◌, ◌≤◌, ◌<◌, ℕ, zero, suc, ◌+◌, ◌-◌, max, List, [], ◌∷◌, ◌++◌, length, Option, Some, None, inl, inr, refl, sym, ◌∙◌, ap, subst, append-nil, ◌^◌, arith, ⊎_elim}
use Rattle.xa_server.proofs.xa_held.Seen.{events_kept, sees_more, events_more}
use Rattle.std.specs.Prelude.{slice_index_or, slice_set}
use Rattle.std.specs.List.{All, Contains, filter}
use Rattle.std.proofs.lemmas.Bool.{ne_eqb}
use Rattle.std.proofs.Common.{eq-eqb}
use Rattle.std.proofs.lemmas.List.{set-set, length-set, get_or-set_same, get_or-set_other}
use Rattle.std.proofs.lemmas.List.Elements.{All-nil, All-cons, All-weaker, Contains-append_left}
use Rattle.xa_server.specs.xa_types.declared.stamp.Stamp.{Stamp}
use Rattle.xa_server.specs.xa_types.declared.ids.CallerId.{CallerId}
use Rattle.xa_server.specs.xa_events.declared.event.Event.{Event}
use Rattle.xa_server.specs.xa_events.Homes.{Home, home_of, same_home}
use Rattle.xa_server.specs.xa_events.Homes.Home.{BoardHome, QueueHome, ClockHome}
use Rattle.xa_server.specs.xa_events.Board.{published}
use Rattle.xa_server.specs.xa_stamp.declared.home.Stamped.{Stamped}
use Rattle.xa_server.specs.xa_stamp.Home.{last_stamp, larger_of}
use Rattle.xa_server.proofs.xa_stamp.Stamps.{last_stamp-push}
use Rattle.xa_server.specs.xa_lock.declared.makers.Made.{Made}
use Rattle.xa_server.specs.xa_lock.Known.{known as page_of, IsPassOf}
use Rattle.xa_server.specs.xa_lock.Makers.{noted_in}
use Rattle.xa_server.specs.xa_lock.Pages.{StartsWith}
use Rattle.xa_server.specs.xa_worker.Crew.{no_stamp, stands_at}
use Rattle.xa_server.specs.xa_worker.Seen.{past_in}
use Rattle.xa_server.specs.xa_cell.declared.tokens.Seat.{Seat}
use Rattle.xa_server.specs.xa_cell.Known.{known, IsSeatOf}
use Rattle.xa_server.proofs.xa_cell.Lists.{decided, below}
use Rattle.xa_server.specs.xa_queue.Changes.{next_stamp, IsWorn}
use Rattle.xa_server.specs.xa_types.declared.stamp.Worn.{Worn}
use Rattle.xa_desk.specs.Serving.{IsAtEnd}
use Rattle.xa_server.specs.xa_held.Joins.{changes_at, events_at}
use Rattle.xa_server.specs.xa_held.Kept.{Kept, setting_of, notes_of}
use Rattle.xa_server.specs.xa_held.Notes.{one}
use Rattle.xa_server.specs.xa_held.Visits.{Visits, Reaches}
use Rattle.xa_server.proofs.xa_held.Lefts.{events_front}
use Rattle.xa_server.proofs.xa_held.Owning.{queue_own}
use Rattle.xa_server.specs.xa_worker.Work.{WorkState, seeing}
use Rattle.xa_server.specs.xa_caller.declared.cargo.Filling.{Filling}
use Rattle.xa_server.specs.xa_caller.Caller.{CallerState}
use Rattle.xa_server.specs.xa_caller.Serving.{noted_off}
use Rattle.xa_server.specs.Told.{HasStamp}
use Rattle.xa_desk.specs.declared.domain.Domain.{Domain}
use Rattle.xa_desk.specs.declared.desk.Desk.{Desk}
use Rattle.xa_desk.specs.Whole.{Whole, entries_of, IsKnown}
use Rattle.xa_desk.specs.Made.{IsMade}
pub use Rattle.xa_desk.specs.Visit.{QueuePass, QueueLock, HasPass}
use Rattle.xa_desk.specs.Desks.{IsBoardPass, IsQueuePass, IsClockPass, IsSettingOf, IsThere, GoesOn, HasGrounds, IsDesk, Leads, page_in, page_at, board_page, queue_page, clock_page, shown_to}
use Rattle.xa_server.specs.xa_lock.declared.pass.LockPass.{LockPass}
use Rattle.xa_desk.proofs.Leading.{Grew, grew_one, grew_none, Moves, none_leads, one_leads, starts_same, starts_trans, there, filled_more, among_at, on_home, off_home, board_pass_stays, queue_pass_stays, clock_there_stays, is_behind}
use Rattle.xa_desk.proofs.Timely.{timely_at}
use Rattle.xa_desk.proofs.Seating.{TakesOn, takes_same, none_taken}
use Rattle.xa_desk.proofs.Telling.{latest_has}

-- ---- what is known

pub stamp_is : (a : Stamp) (n : ℕ) → a.0 ≡ n → a ≡ record { 0 = n }
stamp_is a n is = let wrap : ℕ → Stamp = λ m. record { 0 = m } in ap wrap is

in_front : (entries front : List Stamped) (stamp : Stamp) → StartsWith entries front → HasStamp front stamp → HasStamp entries stamp
in_front entries front stamp begins has = (has.0, subst (λ (l : List Stamped). Contains l has.0) (sym begins.1) (Contains-append_left front begins.0 has.0 has.1), has.2)

-- the stamp of the last entry that was seen is known, and 0 where none was
pub last_known : (whole : Whole) (home : Home) (front : List Stamped) (last : Stamp) → StartsWith (entries_of whole home) front → last.0 ≡ last_stamp no_stamp front → IsKnown whole last
last_known whole home [] last begins is = inl is
last_known whole home (x ∷ rest) last begins is =
    inr (inl (home, in_front (entries_of whole home) (x ∷ rest) last begins (subst (HasStamp (x ∷ rest)) (sym (stamp_is last (last_stamp x.stamp rest) is)) (latest_has (x ∷ rest) (λ none. cc none)))))

-- so is the larger of two that are
pub larger_known : (whole : Whole) (a b : Stamp) → IsKnown whole a → IsKnown whole b → IsKnown whole (record { 0 = max a.0 b.0 })
larger_known whole a b here there = ⊎_elim (λ (less : a.0 < b.0). subst (IsKnown whole) (stamp_is b (max a.0 b.0) (omega (arith, less))) there) (λ (le : b.0 ≤ a.0). subst (IsKnown whole) (stamp_is a (max a.0 b.0) (omega (arith, le))) here) (below a.0 b.0)

-- and of one that was seen and the last of a home that begins no later
pub behind_known : (whole : Whole) (home : Home) (seen first : Stamp) (front : List Stamped) → StartsWith (entries_of whole home) front → first.0 ≤ seen.0 → IsKnown whole seen → IsKnown whole (record { 0 = larger_of seen first front })
behind_known whole home seen first [] begins low is = subst (IsKnown whole) (stamp_is seen (max seen.0 first.0) (omega (arith, low))) is
behind_known whole home seen first (x ∷ rest) begins low is = larger_known whole seen (record { 0 = last_stamp x.stamp rest }) is (last_known whole home (x ∷ rest) (record { 0 = last_stamp x.stamp rest }) begins refl)

-- the larger of a stamp that was seen and of the last one is at the end where that of the home's is
at_end : (seen first : Stamp) (last : ℕ) (front : List Stamped) → first.0 ≤ seen.0 → last ≡ last_stamp no_stamp front → larger_of seen first front ≡ 2 ^ 63 → max seen.0 last ≡ 2 ^ 63
at_end seen first last [] low is end = omega (arith, low, is, end)
at_end seen first last (x ∷ rest) low is end = omega (arith, is, end)

pub has_at : (d : Domain) (queue place : ℕ) (desk : Desk) (pass : QueuePass) → place ≡ queue → 0 < queue → queue < length d.queues.items + 1 → slice_index_or desk.queues.items (place - 1) None ≡ Some pass → HasPass d queue (place - 1) desk pass
has_at d queue place desk pass same some least there = record { at = omega (arith, same, some); low = omega (arith, same, some, least); there = there }

module _ {d : Domain} {queue k : ℕ} {desk : Desk} {pass : QueuePass} (has : HasPass d queue k desk pass) where
  -- the page of the queue is that of the pass
  pub page_is : queue_page desk queue ≡ page_of pass
  page_is = let at = has.at in let next : queue ≡ suc k = omega (arith, at) in ap (page_at desk.queues.items) next ∙ ap page_in has.there

  -- what the pass saw stands first there in the end
  pub front_at : (whole : Whole) → GoesOn d whole desk → StartsWith (notes_of (whole.queues queue)) (page_of pass).seen
  front_at whole on = subst (λ page. StartsWith (notes_of (whole.queues queue)) page.seen) page_is (on.queues queue)

  pub seen_front : (whole : Whole) → GoesOn d whole desk → StartsWith (entries_of whole (QueueHome queue)) (events_at (page_of pass).seen)
  seen_front whole on = subst (λ (l : List Stamped). StartsWith l (events_at (page_of pass).seen)) (events_kept (whole.queues queue)) (events_front Filling (notes_of (whole.queues queue)) (page_of pass).seen (front_at whole on))

  pub its_pass : IsDesk d desk → IsQueuePass d desk.caller.work k pass
  its_pass is = subst (IsThere (IsQueuePass d desk.caller.work k)) has.there (is.queues k has.low)

-- a step at that queue: the desk behind it, with the pass that was put back, and the last stamp that was seen there
pub record Step (d : Domain) (queue k : ℕ) (old new : Desk) (p p' : QueuePass) (last : Stamp) : Type 0 where
  pub is : IsDesk d old
  pub has : HasPass d queue k old p
  pub passes : new.queues.items ≡ slice_set (slice_set old.queues.items k None) k (Some p')
  pub board : new.board ≡ old.board
  pub clock : new.clock ≡ old.clock
  pub lock : (default : QueueLock) → IsPassOf (slice_index_or d.queues.items k default) p'
  pub reaches : Reaches (page_of p') last

-- ---- a visit of a queue

module _ {d : Domain} {queue k : ℕ} {old new : Desk} {p p' : QueuePass} {last : Stamp} (step : Step d queue k old new p p' last) where
  items : new.queues.items ≡ slice_set old.queues.items k (Some p')
  items = step.passes ∙ set-set old.queues.items k None (Some p')

  pub now_has : HasPass d queue k new p'
  now_has = record {
    at = step.has.at;
    low = step.has.low;
    there = let count = step.is.count in let low = step.has.low in ap (λ l. slice_index_or l k None) items ∙ get_or-set_same old.queues.items k (Some p') None (omega (arith, low, count));
  }

  pub other_there : (j : ℕ) → j ≢ k → slice_index_or new.queues.items j None ≡ slice_index_or old.queues.items j None
  other_there j apart = ap (λ l. slice_index_or l j None) items ∙ get_or-set_other old.queues.items k j (Some p') None apart

  pass_before : IsQueuePass d old.caller.work k p
  pass_before = its_pass step.has step.is

  module _ {more : List Made} {How : Kept Filling → Kept Filling → Type 0} (visits : Visits (page_of p) (page_of p') more How) where
    -- what it found is what the domain has there
    pub setting_found : IsSettingOf d queue (setting_of visits.old)
    setting_found = subst (λ n. IsSettingOf d n (setting_of visits.old)) (sym step.has.at) (subst (IsSettingOf d (k + 1)) (sym (visits.setting pass_before.its pass_before.sees)) pass_before.is)

    -- what was noted there is all that the worker has to know
    visit_moves : Grew old.caller.work new.caller.work (noted_in more) → All (λ (x : Stamped). home_of d.setup d.clients x.event ≡ QueueHome queue) (noted_in more) → new.caller.seat ≡ old.caller.seat → new.caller.least ≤ published (past_in (changes_at (board_page old).seen)) → last.0 ≤ new.caller.work.stamp.0
        → Moves d old new (noted_in more)
    visit_moves grew home seat least above =
        let is = step.is in
        let w : WorkState = old.caller.work in
        let w' : WorkState = new.caller.work in
        let here : Home = QueueHome (k + 1) in
        let at_home = subst (λ (n : ℕ). All (λ (x : Stamped). home_of d.setup d.clients x.event ≡ QueueHome n) (noted_in more)) step.has.at home in
        let low = step.has.low in
        let visited : IsQueuePass d w' k p' = record {
          lock = step.lock;
          maker = visits.maker ∙ pass_before.maker ∙ ap (λ (id : CallerId). id.0) (sym grew.id);
          its = pass_before.its;
          sees = record { rest = pass_before.sees.rest ++ (sees_more visits).0; seen = (sees_more visits).1 ∙ ap (λ l. l ++ (sees_more visits).0) pass_before.sees.seen };
          is = pass_before.is;
          own = queue_own d.setup d.clients here w.own (page_of p) (page_of p') more visits.own pass_before.own (on_home d here (noted_in more) at_home (eq-eqb (k + 1) (k + 1) refl)) ∙ ap (filter (stands_at d.setup d.clients here)) (sym grew.own);
          reached = All-weaker (λ (x : Stamped). x.stamp.0 ≤ last.0) (λ (x : Stamped). x.stamp.0 ≤ w'.stamp.0) (λ x le. omega (arith, le, above)) (events_at (page_of p').seen) step.reaches.each;
        } in
        let takes : TakesOn (known old.caller.seat) (known new.caller.seat) = subst (λ (s : Seat Filling). TakesOn (known old.caller.seat) (known s)) (sym seat) (takes_same (known old.caller.seat)) in
        record {
          grew = grew;
          among = among_at d here (noted_in more) (omega arith, omega (arith, low)) at_home;
          seat = subst (IsSeatOf d.cells) (sym seat) is.seat;
          taken = takes.taken;
          filled = filled_more w w' (noted_in more) (known old.caller.seat) (known new.caller.seat) grew takes is.filled;
          took = none_taken d.setup d.clients here (known new.caller.seat) (noted_in more) (λ caller same. cc same) at_home;
          least = subst (λ o. new.caller.least ≤ published (past_in (changes_at (page_in o).seen))) (sym step.board) least;
          board = subst (IsThere (IsBoardPass d w')) (sym step.board) (there d (IsBoardPass d w) (IsBoardPass d w') old.board (board_pass_stays d w w' (noted_in more) grew (off_home d here BoardHome (noted_in more) at_home refl)) is.board);
          board_seen = subst (λ o. StartsWith (page_in o).seen (board_page old).seen) (sym step.board) (starts_same (board_page old).seen);
          count = ap length step.passes ∙ length-set (slice_set old.queues.items k None) k (Some p') ∙ length-set old.queues.items k None;
          queues = λ j low_j. elim (decided j k) [
            | inl e ↦ subst (λ (i : ℕ). IsThere (IsQueuePass d w' i) (slice_index_or new.queues.items i None)) (sym e) (subst (IsThere (IsQueuePass d w' k)) (sym now_has.there) visited)
            | inr apart ↦ subst (IsThere (IsQueuePass d w' j)) (sym (other_there j apart)) (there d (IsQueuePass d w j) (IsQueuePass d w' j) (slice_index_or old.queues.items j None)
                (queue_pass_stays d w w' (noted_in more) grew j (off_home d here (QueueHome (j + 1)) (noted_in more) at_home (ne_eqb (k + 1) (j + 1) (λ e. apart (omega (arith, e)))))) (is.queues j low_j))
          ];
          queues_seen = seen;
          clock = subst (IsThere (IsClockPass d w')) (sym step.clock) (clock_there_stays d w w' (noted_in more) grew (off_home d here ClockHome (noted_in more) at_home refl) old.clock
              (timely_at d.setup d.clients w.clients w.id.0 (shown_to old) here tt (noted_in more) at_home) is.clock);
          clock_seen = subst (λ (o : Option (LockPass Made)). StartsWith (page_in o).seen (clock_page old).seen) (sym step.clock) (starts_same (clock_page old).seen);
        }
      where
        seen : (j : ℕ) → StartsWith (queue_page new j).seen (queue_page old j).seen
        seen zero = ([], refl)
        seen (suc j) =
            let Begins : Option QueuePass → Option QueuePass → Type 0 = λ o o'. StartsWith (page_in o').seen (page_in o).seen in
            elim (decided j k) [
              | inl e ↦ subst (λ (i : ℕ). Begins (slice_index_or old.queues.items i None) (slice_index_or new.queues.items i None)) (sym e) (subst (λ o. Begins o (slice_index_or new.queues.items k None)) (sym step.has.there) (subst (Begins (Some p)) (sym now_has.there) (sees_more visits)))
              | inr apart ↦ subst (Begins (slice_index_or old.queues.items j None)) (sym (other_there j apart)) (starts_same (page_in (slice_index_or old.queues.items j None)).seen)
            ]

  -- nothing was noted, and the caller saw the queue's last stamp
  module _ {How : Kept Filling → Kept Filling → Type 0} (visits : Visits (page_of p) (page_of p') [] How) (caller : new.caller ≡ record old.caller { work = seeing last old.caller.work }) where
    pub looked_grew : Grew old.caller.work new.caller.work []
    looked_grew = grew_none old.caller.work new.caller.work old.caller.work.room (record { 0 = max old.caller.work.stamp.0 last.0 }) (ap (λ (c : CallerState). c.work) caller) (omega arith)

    pub looked_leads : Leads d old new
    looked_leads =
        let w : WorkState = old.caller.work in
        let stamp : new.caller.work.stamp ≡ record { 0 = max w.stamp.0 last.0 } = ap (λ (c : CallerState). c.work.stamp) caller in
        let higher = ap (λ (s : Stamp). s.0) stamp in
        let least = step.is.least in
        let same = ap (λ (c : CallerState). c.least) caller in
        none_leads step.is (visit_moves visits looked_grew (All-nil (λ (x : Stamped). home_of d.setup d.clients x.event ≡ QueueHome queue)) (ap (λ (c : CallerState). c.seat) caller) (omega (arith, least, same)) (omega (arith, higher)))
        (λ whole on back. subst (IsKnown whole) (sym stamp) (larger_known whole w.stamp last (step.is.known_stamp whole back) (last_known whole (QueueHome queue) (events_at (page_of p').seen) last (seen_front now_has whole on) step.reaches.is)))

    -- where stamps would pass their end, the worker is at that then
    pub looked_last : (seen : Stamp) (worn : Worn) → seen ≡ old.caller.work.stamp → IsWorn seen worn visits.old.queue visits.old.queue → IsAtEnd worn old new
    looked_last seen worn saw full =
        let entries : List Stamped = noted_in visits.old.queue.entries in
        let first : Stamp = visits.old.queue.first in
        let low : first.0 ≤ old.caller.work.stamp.0 = let behind_boot = (setting_found visits).first in let booted = step.is.booted in omega (arith, behind_boot, booted) in
        record {
          last = full.told;
          at = ap (λ (c : CallerState). c.work.stamp.0) caller
              ∙ at_end old.caller.work.stamp first last.0 entries low (step.reaches.is ∙ ap (last_stamp no_stamp) (events_more visits ∙ append-nil entries)) (ap (λ (s : Stamp). larger_of s first entries) (sym saw) ∙ full.larger);
          caller = (last, caller);
        }

  -- an event was noted, with the queue's next stamp
  module _ (maker : CallerId) (stamp : Stamp) (event : Event) {How : Kept Filling → Kept Filling → Type 0} (visits : Visits (page_of p) (page_of p') (one maker stamp event) How) (next : stamp ≡ next_stamp old.caller.work.stamp visits.old.queue) where
    abbrev Its : Stamped
    Its = record { stamp = stamp; event = event }

    pub later : old.caller.work.stamp.0 < stamp.0
    later = let is_next = ap (λ (s : Stamp). s.0) next in omega (arith, is_next)

    pub noted_leads : Grew old.caller.work new.caller.work (Its ∷ []) → home_of d.setup d.clients event ≡ QueueHome queue → new.caller.seat ≡ old.caller.seat → new.caller.work.stamp ≡ stamp → new.caller.least ≤ published (past_in (changes_at (board_page old).seen))
        → ((whole : Whole) → GoesOn d whole old → HasGrounds d whole old.caller.work.id.0 old.caller.work.own stamp event) → Leads d old new
    noted_leads grew home seat now least grounds =
        let is = step.is in
        let booted = is.booted in
        let w : WorkState = old.caller.work in
        let entries : List Stamped = noted_in visits.old.queue.entries in
        let low_first : visits.old.queue.first.0 ≤ w.stamp.0 = let behind_boot = (setting_found visits).first in omega (arith, behind_boot, booted) in
        let lasts : last.0 ≡ stamp.0 = step.reaches.is ∙ ap (last_stamp no_stamp) (events_more visits) ∙ last_stamp-push no_stamp entries Its in
        let higher = ap (λ (s : Stamp). s.0) now in
        one_leads Its is (visit_moves visits grew (All-cons (λ (x : Stamped). home_of d.setup d.clients x.event ≡ QueueHome queue) Its [] home (All-nil (λ (x : Stamped). home_of d.setup d.clients x.event ≡ QueueHome queue))) seat least (omega (arith, lasts, higher))) now
        (λ whole on back. record {
          grounds = grounds whole back;
          behind = is_behind d.booted stamp event (omega (arith, booted, later));
          met = λ board. absurd (cc (ap (λ h. same_home h BoardHome) home, board));
          before = record { 0 = larger_of w.stamp visits.old.queue.first entries };
          next = ap (λ (s : Stamp). s.0) next;
          known_before = behind_known whole (QueueHome queue) w.stamp visits.old.queue.first entries (starts_trans _ (events_at (page_of p').seen) entries (seen_front now_has whole on) (Its ∷ [], events_more visits)) low_first (is.known_stamp whole back);
        })

    -- its caller is else as it was
    pub event_leads : new.caller ≡ noted_off stamp event old.caller → (e : Event) → event ≡ e → home_of d.setup d.clients e ≡ QueueHome queue → IsMade e
        → ((whole : Whole) → GoesOn d whole old → HasGrounds d whole old.caller.work.id.0 old.caller.work.own stamp e) → Leads d old new
    event_leads caller e is home kind grounds =
        let least = step.is.least in
        let same_least = ap (λ (c : CallerState). c.least) caller in
        noted_leads (grew_one old.caller.work new.caller.work old.caller.work.room Its (ap (λ (c : CallerState). c.work) caller) later (subst IsMade (sym is) kind))
        (ap (home_of d.setup d.clients) is ∙ home) (ap (λ (c : CallerState). c.seat) caller) (ap (λ (c : CallerState). c.work.stamp) caller) (omega (arith, least, same_least))
        (λ whole on. subst (HasGrounds d whole old.caller.work.id.0 old.caller.work.own stamp) (sym is) (grounds whole on))
