-- A request that goes from queue to queue.
use Rattle.std.proofs.Common.{◌≡◌, ◌⊎◌, ℕ, ◌+◌, ◌<◌, ◌≤◌, Bool, true, List, take, length, Option, Some, None, Result, Ok, Err, inl, inr, refl, sym, ◌∙◌, ap, subst, arith}
use Rattle.xa_desk.specs.xa_worker.Work.{WorkState}
use Rattle.std.specs.Prelude.{IfSome, slice_get, get_or}
use Rattle.std.specs.List.{All, Contains}
use Rattle.std.proofs.lemmas.List.{take_all, take-take}
use Rattle.std.proofs.lemmas.List.Elements.{All-take, All-more, All-weaker, Contains-get_or}
use Rattle.std.proofs.lemmas.Option.{slice_get_cases, slice_get_within, get_or_from_slice_get}
use Rattle.xa_desk.specs.xa_types.declared.call.Ask.{Ask}
use Rattle.xa_desk.specs.xa_types.declared.data.Data.{Data}
use Rattle.xa_desk.specs.xa_types.declared.fault.Fault.{Fault}
use Rattle.xa_desk.specs.xa_types.declared.ids.QueueId.{QueueId}
use Rattle.xa_desk.specs.xa_types.declared.row.Row.{Row}
use Rattle.xa_desk.specs.xa_types.declared.stamp.Stamp.{Stamp}
use Rattle.xa_desk.specs.xa_types.Found.{FoundRows}
use Rattle.xa_desk.specs.xa_types.Setup.{capacity_of}
use Rattle.xa_desk.specs.xa_events.declared.event.Event.{Event}
use Rattle.xa_desk.specs.xa_events.declared.event.Evidence.{Evidence}
use Rattle.xa_desk.specs.xa_events.Calls.{IsShutOut}
use Rattle.xa_desk.specs.xa_events.Homes.Home.{QueueHome}
use Rattle.xa_desk.specs.xa_events.Queue.{is_down, is_closed, waiting}
use Rattle.xa_desk.specs.xa_queue.declared.entry.Entry.{Entry}
use Rattle.xa_desk.specs.xa_queue.declared.queue.Refusal.{Refusal}
use Rattle.xa_desk.specs.xa_queue.declared.queue.Refusal.TheVariants as refusals
use Rattle.xa_desk.specs.xa_worker.declared.work.Halt.{Halt}
use Rattle.xa_desk.specs.xa_caller.declared.outcomes.Aimed.{Aimed}
use Rattle.xa_desk.specs.xa_caller.declared.outcomes.Aimed.TheVariants as aims
use Rattle.xa_desk.specs.xa_caller.declared.outcomes.Step.{Step}
use Rattle.xa_desk.specs.xa_caller.declared.outcomes.Step.TheVariants as steps
use Rattle.xa_desk.specs.xa_caller.declared.outcomes.Why.{Why}
use Rattle.xa_desk.specs.xa_caller.declared.phase.Draft.{Draft}
use Rattle.xa_desk.specs.xa_caller.declared.phase.Phase.{Phase}
use Rattle.xa_desk.specs.xa_caller.declared.phase.Phase.TheVariants.{Idle, Prepared}
use Rattle.xa_desk.specs.xa_caller.Caller.{CallerState, MayCall}
use Rattle.xa_desk.specs.xa_caller.Drafts.{Cargo}
use Rattle.xa_desk.specs.xa_caller.Unsent.{AimsAs, EndsAs, UnsentAs, refused_for, other_step}
use Rattle.xa_desk.specs.declared.domain.Domain.{Domain}
use Rattle.xa_desk.specs.declared.desk.Desk.{Desk}
use Rattle.xa_desk.specs.declared.stopped.Stopped.{Stopped}
use Rattle.xa_calls.specs.declared.sending.Tried.{Tried}
use Rattle.xa_desk.specs.Whole.{entries_of}
use Rattle.xa_desk.specs.Desks.{Leads}
use Rattle.xa_desk.specs.Found.{SawAtQueue, SawItsOwnAt, HasFound, IsAimed, ShowsWhy, queue_in, next_request}
use Rattle.xa_desk.specs.Serving.{Sees}
use Rattle.xa_desk.specs.Steps.{FitsOn, NoneTakes, IsWhy, full_in, FitsOp, SentBy, WantsReply, ask_by}
use Rattle.xa_desk.proofs.Preparing.{weaker_front}
use Rattle.xa_desk.proofs.Sending.{same_draft, SentSo, sent_so}
use Rattle.xa_desk.proofs.Staying.{queue_stays, itself_stays, found_stays, aimed_stays}
use Rattle.xa_calls.specs.Resting.{RestsOn}
use Rattle.xa_calls.specs.Going.{IsSame, GoesBy, TriesBy}
use Rattle.xa_calls.specs.Sending.{IsBy, IsOn, IsTried, NoneTook, full_by, why_of}
use Rattle.xa_calls.specs.Telling.{NotesOne, TriedNotes, AcceptsAs}
use Rattle.xa_calls.proofs.Going.{goes_trans, sees_on}
use Rattle.xa_calls.proofs.Resting.{noted_one, noted_weaker, unsent_noted, SameWork, same_work, same_desk, same_by}
use Rattle.xa_calls.proofs.Seating.{seat_fills}
use Rattle.xa_calls.proofs.Noting.{may_still, quiet_one, quiet_tried, sends_one}

-- ---- a request that no queue took

ends_same : (op : ℕ) (refused : Option (Fault × Evidence)) (other step : Step) (new left : CallerState) → EndsAs op refused other step new left → SameWork left.work new.work
ends_same op (Some (fault, evidence)) other (steps.Told stamp) new left ends = same_work left.work new.work _ (ap (λ (c : CallerState). c.work) ends.made) refl refl (λ had. had)
ends_same op (Some (fault, evidence)) other (steps.Halt halt) new left ends = same_work left.work new.work _ (ap (λ (c : CallerState). c.work) ends.1) refl refl (λ had. had)
ends_same op (Some (fault, evidence)) other steps.Wait new left ends = absurd ends
ends_same op (Some (fault, evidence)) other steps.Halted new left ends = absurd ends
ends_same op None other step new left ends = same_work left.work new.work _ (ap (λ (c : CallerState). c.work) ends.1) refl refl (λ had. had)

pub unsent_same : (cell : ℕ) (why : Why) (no_block : Bool) (step : Step) (old new : Desk) → UnsentAs cell why no_block step new.caller old.caller → IsSame old new
unsent_same cell why no_block step old new unsent =
    same_desk old new (ends_same unsent.draft.op (refused_for unsent.draft why no_block) (other_step why) step new.caller _ unsent.ends)

abbrev held : Option (QueueId × ℕ) → Result (Option (QueueId × ℕ)) Halt → Option (QueueId × ℕ)
held default (Ok full) = full
held default (Err halt) = default

-- the same worker, whose caller noted nothing
record IsStill (old new : Desk) : Type 0 where
  same : IsSame old new
  op : new.caller.op ≡ old.caller.op
  own : new.caller.work.own ≡ old.caller.work.own
  seat : new.caller.seat ≡ old.caller.seat

module _ (d : Domain) (apart : Bool) (ask : Ask) (first : Desk) where
  -- ---- the way of the worker

  pub ends_on : (desk end : Desk) → IsOn d apart ask first desk → GoesBy d (desk.caller.op + 1) apart ask desk end → GoesBy d (first.caller.op + 1) apart ask first end
  ends_on desk end on goes = goes_trans d apart ask (first.caller.op + 1) first desk end on.goes (subst (λ (n : ℕ). GoesBy d (n + 1) apart ask desk end) on.op goes)

  pub sends_on : (desk new : Desk) (stamp : Stamp) → IsOn d apart ask first desk → Leads d desk new → FitsOp d (desk.caller.op + 1) (ask_by apart ask) desk new → SentBy apart stamp new.caller desk.caller → GoesBy d (first.caller.op + 1) apart ask first new
  sends_on desk new stamp on leads fits sends = ends_on desk new on (record {
    leads = leads;
    fits = fits;
    same = same_by desk new _ (sent_so apart stamp new.caller desk.caller sends).work refl refl refl;
    fills = seat_fills desk new (sent_so apart stamp new.caller desk.caller sends).seat;
  })

  pub back_on : (desk new : Desk) → IsOn d apart ask first desk → Leads d desk new → Sees desk.caller new.caller → new.reader ≡ desk.reader → new.board ≡ desk.board → IsOn d apart ask first new
  back_on desk new on leads sees reader board = record {
    goes = ends_on desk new on (sees_on d apart ask (desk.caller.op + 1) desk new leads sees);
    op = ap (λ (c : CallerState). c.op) sees.1 ∙ on.op;
    quiet = ap (λ (c : CallerState). c.work.own) sees.1 ∙ on.quiet;
    reader = reader ∙ on.reader;
    board = board ∙ on.board;
  }

  -- what is noted now is all that the way noted
  pub tries_on : (Full Full' : QueueId × ℕ → Type 0) (desk end : Desk) → IsOn d apart ask first desk → ((one : QueueId × ℕ) → Full one → Full' one) → TriesBy Full desk end → TriesBy Full' first end
  tries_on Full Full' desk end on fills tries = record {
    board = tries.board ∙ on.board;
    found = noted_weaker (λ (v : ℕ). v ≡ desk.reader.found.version) (λ (v : ℕ). v ≡ first.reader.found.version) Full Full' (λ v is. is ∙ ap (λ r. r.found.version) on.reader) fills desk.caller.work.own first.caller.work.own end.caller.work.own (sym on.quiet) tries.found;
  }

  -- the request was accepted by what was found
  pub sent_tries : (Full : QueueId × ℕ → Type 0) (entry : Entry Cargo) (event : Event) (stamp : Stamp) (desk new : Desk) → IsOn d apart ask first desk → IsAimed d desk.reader.found ask.payload entry event desk → SentBy apart stamp new.caller desk.caller → new.board ≡ desk.board → TriesBy Full first new
  sent_tries Full entry event stamp desk new on aimed sent board =
      let sends = sent_so apart stamp new.caller desk.caller sent in
      let draft = sends.draft in
      let said : draft.event.value ≡ event = ap (λ (draft : Draft). draft.event.value) (same_draft draft aimed.draft desk.caller.phase sends.was aimed.prepared) ∙ aimed.drafted in
      let shown : ℕ → Type 0 = λ v. v ≡ desk.reader.found.version in
      tries_on Full Full desk new on (λ one is. is) (record {
        board = board;
        found = noted_one shown Full desk.caller.work.own new.caller.work.own (record { stamp = stamp; event = draft.event.value }) (ap (λ (w : WorkState). w.own) sends.work) (subst (RestsOn shown Full) (sym (said ∙ aimed.event_is)) (refl, tt));
      })

  -- what it may do, and what was noted so far
  pub on_may : (desk : Desk) → IsOn d apart ask first desk → MayCall first.caller → MayCall desk.caller
  on_may desk on may = may_still first desk on.goes.same on.quiet may

  pub ends_notes : (desk end : Desk) (result : Result Tried Stopped) → IsOn d apart ask first desk → TriedNotes (desk.caller.op + 1) result desk end → TriedNotes (first.caller.op + 1) result first end
  ends_notes desk end result on notes = quiet_tried (first.caller.op + 1) result first desk end on.goes.same on.quiet (subst (λ (n : ℕ). TriedNotes (n + 1) result desk end) on.op notes)

  pub sends_notes : (found : FoundRows) (entry : Entry Cargo) (event : Event) (stamp : Stamp) (desk new : Desk) → IsOn d apart ask first desk → IsAimed d found ask.payload entry event desk → SentBy apart stamp new.caller desk.caller
      → NotesOne (first.caller.op + 1) (AcceptsAs new.caller.sent) first new
  sends_notes found entry event stamp desk new on aimed sent =
      quiet_one (first.caller.op + 1) (AcceptsAs new.caller.sent) first desk new on.goes.same on.quiet
      (sends_one d found ask.payload entry event apart (first.caller.op + 1) stamp desk new (omega arith) aimed (aimed.turn ∙ ap (λ (n : ℕ). n + 1) on.op) sent)

-- no queue took it
pub unsent_tries : (d : Domain) (payload : Data) (cell : ℕ) (why : Why) (no_block : Bool) (step : Step) (entry : Entry Cargo) (event : Event) (old new : Desk) → IsAimed d old.reader.found payload entry event old → UnsentAs cell why no_block step new.caller old.caller → new ≡ record old { caller = new.caller }
    → TriesBy (λ one. full_in why ≡ Some one) old new
unsent_tries d payload cell why no_block step entry event old new aimed unsent rest =
    let version : unsent.draft.version ≡ old.reader.found.version = ap (λ (draft : Draft). draft.version) (same_draft unsent.draft aimed.draft old.caller.phase unsent.was aimed.prepared) ∙ aimed.version in
    record {
      board = ap (λ (desk : Desk). desk.board) rest;
      found = noted_weaker (λ (v : ℕ). v ≡ unsent.draft.version) (λ (v : ℕ). v ≡ old.reader.found.version) (λ one. full_in why ≡ Some one) (λ one. full_in why ≡ Some one) (λ v is. is ∙ version) (λ one is. is) old.caller.work.own old.caller.work.own new.caller.work.own refl
          (unsent_noted unsent.draft why no_block step new.caller (record old.caller { seat = unsent.seat; phase = Idle }) unsent.ends);
    }

aimed_still : (entry : Entry Cargo) (rows : List Row) (attempt : ℕ) (aimed : Aimed) (old new : Desk) → AimsAs entry rows attempt aimed new.caller old.caller → IsStill old new
aimed_still entry rows attempt (aims.At one event) old new is = let made = is.2.made in record { same = same_by old new _ (ap (λ (c : CallerState). c.work) made) refl refl refl; op = ap (λ (c : CallerState). c.op) made; own = ap (λ (c : CallerState). c.work.own) made; seat = ap (λ (c : CallerState). c.seat) made }
aimed_still entry rows attempt (aims.Past back) old new is = let made = is.2 in record { same = same_by old new _ (ap (λ (c : CallerState). c.work) made) refl refl refl; op = ap (λ (c : CallerState). c.op) made; own = ap (λ (c : CallerState). c.work.own) made; seat = ap (λ (c : CallerState). c.seat) made }
aimed_still entry rows attempt (aims.NoMemory back) old new is = let made = is.1 in record { same = same_by old new _ (ap (λ (c : CallerState). c.work) made) refl refl refl; op = ap (λ (c : CallerState). c.op) made; own = ap (λ (c : CallerState). c.work.own) made; seat = ap (λ (c : CallerState). c.seat) made }

-- ---- what was seen of the queues

module _ (d : Domain) (desk : Desk) (queue : ℕ) (P Q : List Event → Type 0) (less : (past : List Event) → P past → Q past) where
  itself_weaker : SawItsOwnAt d queue desk P → SawItsOwnAt d queue desk Q
  itself_weaker saw whole on stamp later = weaker_front (entries_of whole (QueueHome queue)) stamp _ _ (λ past both. (λ new. less past (both.0 new), both.1)) (saw whole on stamp later)

  front_weaker : SawItsOwnAt d queue desk P → SawAtQueue d queue desk Q
  front_weaker saw whole on stamp later = weaker_front (entries_of whole (QueueHome queue)) stamp _ _ (λ past both new. less past (both.0 new)) (saw whole on stamp later)

module _ (d : Domain) (rows : List Row) where
  abbrev IsOut : Desk → Row → Type 0
  IsOut desk row = SawItsOwnAt d row.queue.0 desk (IsShutOut d.setup row.queue.0)

  abbrev IsClosed : Desk → Row → Type 0
  IsClosed desk row = SawAtQueue d row.queue.0 desk (λ past. (is_down row.queue.0 past ≡ true) ⊎ (is_closed row.queue.0 past ≡ true))

  abbrev IsFull : Desk → QueueId × ℕ → Type 0
  IsFull desk one = (0 < one.1) × (one.1 ≡ capacity_of d.setup one.0.0) × SawItsOwnAt d one.0.0 desk (λ past. length (waiting d.setup one.0.0 past) ≡ one.1)
      × ((row : Row) × Contains rows row × (row.queue ≡ one.0))

  -- it stands as the same worker goes on and notes nothing
  none_stays : (old new : Desk) (tried : List Row) (full : Option (QueueId × ℕ)) → Leads d old new → IsStill old new → NoneTook d rows tried full old → NoneTook d rows tried full new
  none_stays old new tried full leads still none = record {
    out = All-weaker (IsOut old) (IsOut new) (λ row. itself_stays d old new leads row.queue.0 (IsShutOut d.setup row.queue.0) still.same.id still.own) tried none.out;
    shut = λ is. All-weaker (IsClosed old) (IsClosed new) (λ row. queue_stays d old new leads row.queue.0 (λ past. (is_down row.queue.0 past ≡ true) ⊎ (is_closed row.queue.0 past ≡ true))) tried (none.shut is);
    filled = full_stays full none.filled;
  }
    where
      full_stays : (one : Option (QueueId × ℕ)) → IfSome one (IsFull old) → IfSome one (IsFull new)
      full_stays None is = is
      full_stays (Some one) is = (is.0, is.1, itself_stays d old new leads one.0.0 (λ past. length (waiting d.setup one.0.0 past) ≡ one.1) still.same.id still.own is.2, is.3)

  -- so it does for fewer rows
  fewer : (desk : Desk) (n m : ℕ) (full : Option (QueueId × ℕ)) → n ≤ m → NoneTook d rows (take m rows) full desk → NoneTook d rows (take n rows) full desk
  fewer desk n m full le none = record {
    out = all_less (IsOut desk) none.out;
    shut = λ is. all_less (IsClosed desk) (none.shut is);
    filled = none.filled;
  }
    where
      all_less : (P : Row → Type 0) → All P (take m rows) → All P (take n rows)
      all_less P all = subst (All P) (take-take n m rows le) (All-take P n (take m rows) all)

  module _ (desk : Desk) (i : ℕ) (row : Row) (at : slice_get rows i ≡ Some row) where
    here : (P : Row → Type 0) → P row → P (get_or rows i row)
    here P holds = subst P (sym (get_or_from_slice_get rows i row row at)) holds

    is_closed_too : (full : Option (QueueId × ℕ)) → IsOut desk row → IsClosed desk row → NoneTook d rows (take i rows) full desk → NoneTook d rows (take (i + 1) rows) full desk
    is_closed_too full out closed none = record {
      out = All-more (IsOut desk) rows i row (slice_get_within rows i row at) none.out (here (IsOut desk) out);
      shut = λ is. All-more (IsClosed desk) rows i row (slice_get_within rows i row at) (none.shut is) (here (IsClosed desk) closed);
      filled = none.filled;
    }

    -- the row's queue refused it too
    one_more : (queue : QueueId) (why : Refusal) (full full' : Option (QueueId × ℕ)) → row.queue ≡ queue → ShowsWhy d row.queue.0 why desk → full_by queue why full ≡ Ok full' → NoneTook d rows (take i rows) full desk → NoneTook d rows (take (i + 1) rows) full' desk
    one_more queue refusals.Down full full' its shows is none = subst (λ f. NoneTook d rows (take (i + 1) rows) f desk) (ap (held full) is)
        (is_closed_too full (itself_weaker d desk row.queue.0 _ (IsShutOut d.setup row.queue.0) (λ past down. inl down) shows) (front_weaker d desk row.queue.0 _ (λ past. (is_down row.queue.0 past ≡ true) ⊎ (is_closed row.queue.0 past ≡ true)) (λ past down. inl down) shows) none)
    one_more queue refusals.Closed full full' its shows is none = subst (λ f. NoneTook d rows (take (i + 1) rows) f desk) (ap (held full) is)
        (is_closed_too full (itself_weaker d desk row.queue.0 _ (IsShutOut d.setup row.queue.0) (λ past closed. inr (inl closed)) shows) (front_weaker d desk row.queue.0 _ (λ past. (is_down row.queue.0 past ≡ true) ⊎ (is_closed row.queue.0 past ≡ true)) (λ past closed. inr closed) shows) none)
    one_more queue (refusals.Full n) full full' its shows is none = subst (λ f. NoneTook d rows (take (i + 1) rows) f desk) (ap (held full) is) (record {
      out = All-more (IsOut desk) rows i row (slice_get_within rows i row at) none.out (here (IsOut desk) (itself_weaker d desk row.queue.0 _ (IsShutOut d.setup row.queue.0) (λ past many. inr (inr (many ∙ shows.1))) shows.2));
      shut = λ never. absurd (cc never);
      filled = subst (λ (q : QueueId). IsFull desk (q, n)) its (shows.0, shows.1, shows.2, (row, subst (Contains rows) (get_or_from_slice_get rows i row row at) (Contains-get_or rows i row (slice_get_within rows i row at)), refl));
    })
    one_more queue (refusals.Worn stamp) full full' its shows is none = absurd (cc is)
    one_more queue refusals.NoMemory full full' its shows is none = absurd (cc is)

  past_end : (n : ℕ) → slice_get rows n ≡ None → length rows ≤ n
  past_end n is = elim (slice_get_cases rows n).1 [ inl low ↦ absurd (none_some (sym is ∙ low.2)) | inr past ↦ past.0 ]
    where
      none_some : {x : Row} → None ≡ Some x → ⊥
      none_some is = cc is

-- no queue of the rows took the request
pub past_why : (d : Domain) (found : FoundRows) (n : ℕ) (full : Option (QueueId × ℕ)) (desk : Desk) (row : Row) → Contains found.rows row → slice_get found.rows n ≡ None → NoneTook d found.rows (take n found.rows) full desk → IsWhy d found (why_of full) desk
past_why d found n full desk row has is none = by_full full (record {
  some = λ empty. let low = subst (λ (l : List Row). has.0 < length l) empty has.1 in omega (arith, low);
  out = subst (All (IsOut d found.rows desk)) all none.out;
  shut = λ never. subst (All (IsClosed d found.rows desk)) all (none.shut never);
  filled = none.filled;
})
  where
    all : take n found.rows ≡ found.rows
    all = take_all n found.rows (past_end d found.rows n is)

    by_full : (one : Option (QueueId × ℕ)) → NoneTakes d found.rows one desk → IsWhy d found (why_of one) desk
    by_full None takes = takes
    by_full (Some one) takes = takes

module _ (d : Domain) (apart : Bool) (ask : Ask) (wants : WantsReply apart ask) (old new : Desk) (leads : Leads d old new) where
  -- ---- a queue refused the request

  module _ (sees : Sees old.caller new.caller) (reader : new.reader ≡ old.reader) where
    seen_still : IsStill old new
    seen_still = record { same = same_by old new _ (ap (λ (c : CallerState). c.work) sees.1) refl refl refl; op = ap (λ (c : CallerState). c.op) sees.1; own = ap (λ (c : CallerState). c.work.own) sees.1; seat = ap (λ (c : CallerState). c.seat) sees.1 }

    pub found_back : new.board ≡ old.board → HasFound d ask.service old.reader.found old → HasFound d ask.service new.reader.found new
    found_back board has =
        let least = ap (λ (c : CallerState). c.least) sees.1 in
        let recent = has.recent in
        subst (λ (f : FoundRows). HasFound d ask.service f new) (sym (ap (λ r. r.found) reader)) (found_stays d old new leads ask.service old.reader.found board (omega (arith, least, recent)) has)

    pub aimed_back : (entry back : Entry Cargo) (event : Event) → back ≡ entry → IsAimed d old.reader.found ask.payload entry event old → IsAimed d new.reader.found ask.payload back event new
    aimed_back entry back event is aimed =
        subst (λ (f : FoundRows). IsAimed d f ask.payload back event new) (sym (ap (λ r. r.found) reader))
        (subst (λ (e : Entry Cargo). IsAimed d old.reader.found ask.payload e event new) (sym is) (aimed_stays d old.reader.found ask.payload entry event old new (ap (λ (c : CallerState). c.phase) sees.1) (ap (λ (c : CallerState). c.op) sees.1) (ap (λ (c : CallerState). c.priority) sees.1) (ap next_request sees.1) aimed))

    pub tried_back : (entry back : Entry Cargo) (event : Event) (attempt n : ℕ) (full full' : Option (QueueId × ℕ)) (queue : QueueId) (why : Refusal) → new.board ≡ old.board → back ≡ entry → queue.0 ≡ queue_in event → ShowsWhy d (queue_in event) why new
        → full_by queue why full ≡ Ok full' → n ≤ attempt + 1 → IsBy old.reader.found attempt event → IsTried d ask attempt full entry event old → IsTried d ask n full' back event new
    tried_back entry back event attempt n full full' queue why board is to shows next le by tried = record {
      found = found_back board tried.found;
      aimed = aimed_back entry back event is tried.aimed;
      none = subst (λ (f : FoundRows). NoneTook d f.rows (take n f.rows) full' new) (sym (ap (λ r. r.found) reader))
          (fewer d rows new n (attempt + 1) full' le (one_more d rows new attempt by.0 by.1 queue why full full' (ap (λ (k : ℕ). record { 0 = k }) (by.2 ∙ sym to)) (subst (λ (k : ℕ). ShowsWhy d k why new) (sym by.2) shows) next
          (none_stays d rows old new (take attempt rows) full leads seen_still tried.none)));
    }
      where
        rows : List Row
        rows = old.reader.found.rows

  -- ---- it is aimed anew

  module _ (rest : new ≡ record old { caller = new.caller }) (attempt : ℕ) (aimed : Aimed) (entry : Entry Cargo) (aims_as : AimsAs entry old.reader.found.rows attempt aimed new.caller old.caller) where
    same_found : new.reader.found ≡ old.reader.found
    same_found = ap (λ (desk : Desk). desk.reader.found) rest

    pub aimed_on : (first : Desk) → ((op : ℕ) (ask : Ask) → FitsOn d op ask old new) → IsOn d apart ask first old → IsOn d apart ask first new
    aimed_on first fits on =
        let still = aimed_still entry old.reader.found.rows attempt aimed old new aims_as in
        record {
          goes = ends_on d apart ask first old new on (record { leads = leads; fits = fits (old.caller.op + 1) ask apart wants; same = still.same; fills = seat_fills old new still.seat });
          op = still.op ∙ on.op;
          quiet = still.own ∙ on.quiet;
          reader = ap (λ (desk : Desk). desk.reader) rest ∙ on.reader;
          board = ap (λ (desk : Desk). desk.board) rest ∙ on.board;
        }

    -- what was tried stands
    pub tried_still : (n : ℕ) (full : Option (QueueId × ℕ)) (event at : Event) (back : Entry Cargo) → ((service : List ℕ) → HasFound d service old.reader.found old → HasFound d service old.reader.found new)
        → IsAimed d old.reader.found ask.payload back at new → IsTried d ask n full entry event old → IsTried d ask n full back at new
    tried_still n full event at back found is tried = record {
      found = subst (λ (f : FoundRows). HasFound d ask.service f new) (sym same_found) (found ask.service tried.found);
      aimed = subst (λ (f : FoundRows). IsAimed d f ask.payload back at new) (sym same_found) is;
      none = subst (λ (f : FoundRows). NoneTook d f.rows (take n f.rows) full new) (sym same_found)
          (none_stays d old.reader.found.rows old new (take n old.reader.found.rows) full leads (aimed_still entry old.reader.found.rows attempt aimed old new aims_as) tried.none);
    }

-- where it is aimed, it is by the row at that attempt
pub aimed_by : (entry one : Entry Cargo) (event : Event) (attempt : ℕ) (old new : Desk) → new ≡ record old { caller = new.caller } → AimsAs entry old.reader.found.rows attempt (aims.At one event) new.caller old.caller → IsBy new.reader.found attempt event
aimed_by entry one event attempt old new rest is =
    subst (λ (f : FoundRows). IsBy f attempt event) (sym (ap (λ (desk : Desk). desk.reader.found) rest)) (is.0, is.1, ap queue_in (sym is.2.accepted))
