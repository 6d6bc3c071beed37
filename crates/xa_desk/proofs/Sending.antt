-- What a put of a request leaves.
use Rattle.std.proofs.Common.{◌≡◌, ◌⊎◌, ◌≤◌, ◌<◌, ℕ, ◌+◌, ◌||◌, Bool, true, false, if◌then◌else◌, List, [], ◌∷◌, ◌++◌, length, Option, Some, None, Ok, inl, inr, refl, sym, ◌∙◌, ap, subst, arith, eqb-true, leb-true, ◌^◌}
use Rattle.xa_server.proofs.xa_held.Refusals.{WhyOf, why_refused}
use Rattle.xa_server.proofs.xa_held.Seen.{knows_still}
use Rattle.std.specs.Prelude.{nat_le, nat_lt}
use Rattle.std.proofs.lemmas.Bool.{and_parts, ltb-true}
use Rattle.std.proofs.lemmas.List.{length-map}
use Rattle.std.proofs.lemmas.List.Elements.{All-contains}
use Rattle.xa_server.specs.xa_types.declared.call.Ask.{Ask}
use Rattle.xa_server.specs.xa_types.declared.call.Mode.TheVariants.{Reply, NoReply}
use Rattle.xa_server.specs.xa_types.declared.call.Op.{Op}
use Rattle.xa_server.specs.xa_types.declared.ids.CallerId.{CallerId}
use Rattle.xa_server.specs.xa_types.declared.ids.QueueId.{QueueId}
use Rattle.xa_server.specs.xa_types.declared.ids.RequestId.{RequestId}
use Rattle.xa_server.specs.xa_types.declared.row.Row.{Row}
use Rattle.xa_server.specs.xa_types.declared.setup.Setup.{Setup}
use Rattle.xa_server.specs.xa_types.declared.stamp.Stamp.{Stamp}
use Rattle.xa_server.specs.xa_types.Found.{FoundRows}
use Rattle.xa_server.specs.xa_types.Kind.{is_accepted, kind_of}
use Rattle.xa_server.specs.xa_types.Rows.{row_for}
use Rattle.xa_server.specs.xa_types.Setup.{numbered, capacity_of}
use Rattle.xa_server.specs.xa_events.declared.event.Event.{Event}
use Rattle.xa_server.specs.xa_events.declared.event.Event.TheVariants.{Accept}
use Rattle.xa_server.specs.xa_events.Caller.{op_in, is_call_of}
use Rattle.xa_server.specs.xa_events.Calls.{is_invalid_ask, is_invalid_call, is_tpcall, awaits_answer}
use Rattle.xa_server.specs.xa_events.Cases.{RowStands, RowAdmits}
use Rattle.xa_server.specs.xa_events.Homes.{home_of, is_own_at}
use Rattle.xa_server.specs.xa_events.Homes.Home.{BoardHome, QueueHome}
use Rattle.xa_server.specs.xa_events.Queue.{is_down, is_closed, waiting}
use Rattle.xa_server.specs.xa_events.Words.{count}
use Rattle.xa_server.specs.xa_stamp.declared.home.Stamped.{Stamped}
use Rattle.xa_server.specs.xa_lock.declared.pass.Page.{Page}
use Rattle.xa_server.specs.xa_lock.Known.{known as page_of}
use Rattle.xa_server.specs.xa_worker.Calls.{FitsOwn}
use Rattle.xa_server.specs.xa_worker.Seen.{past_in, SawFront, IfNew}
use Rattle.xa_server.specs.xa_queue.declared.entry.Entry.{Entry}
use Rattle.xa_server.specs.xa_queue.declared.queue.Refusal.{Refusal}
use Rattle.xa_server.specs.xa_queue.declared.queue.Refusal.TheVariants as refusals
use Rattle.xa_server.specs.xa_queue.Changes.{IsEntry, put_refused, next_stamp, larger}
use Rattle.xa_server.specs.xa_held.Joins.{events_at}
use Rattle.xa_server.specs.xa_held.declared.kept_queue.QueueNote.{QueueNote}
use Rattle.xa_server.specs.xa_held.Kept.{Kept, IsRight, Brings}
use Rattle.xa_server.specs.xa_held.Steps.{PutAs}
use Rattle.xa_server.specs.xa_held.Visits.{Visits}
use Rattle.xa_server.proofs.xa_held.Front.{knows_events}
use Rattle.xa_server.specs.xa_worker.Work.{WorkState, seeing, noted}
use Rattle.xa_server.specs.xa_caller.declared.cargo.Filling.{Filling}
use Rattle.xa_server.specs.xa_caller.declared.phase.Draft.{Draft}
use Rattle.xa_server.specs.xa_caller.declared.phase.Phase.{Phase}
use Rattle.xa_server.specs.xa_caller.declared.phase.Phase.TheVariants.{Prepared}
use Rattle.xa_server.specs.xa_caller.Caller.{CallerState, MayCall}
use Rattle.xa_server.specs.xa_caller.Drafts.{Cargo, accepted_by, entry_by}
use Rattle.xa_server.specs.xa_caller.Phases.{just_in}
use Rattle.xa_server.proofs.xa_caller.Next.{row-service}
use Rattle.xa_desk.specs.Made.{IsMade}
use Rattle.xa_desk.specs.declared.domain.Domain.{Domain}
use Rattle.xa_desk.specs.declared.desk.Desk.{Desk}
use Rattle.xa_desk.specs.Whole.{Whole, entries_of}
use Rattle.xa_desk.specs.Desks.{HasGrounds, IsDomain, IsDesk, Leads}
use Rattle.xa_desk.specs.Found.{SawOnBoard, HasFound, IsAimed, SawItsOwnAt, ShowsWhy, IsAccept, queue_in}
use Rattle.xa_desk.specs.Looks.{SeesWhy}
use Rattle.xa_desk.specs.Steps.{FitsOp, SentBy, ask_by}
use Rattle.xa_desk.proofs.Configured.{has_capacity, row_priority, asked_priority}
use Rattle.xa_server.proofs.xa_caller.Reading.{is_numbered}
use Rattle.xa_desk.proofs.Fitting.{its_events, call_over, one_more_fits}
use Rattle.xa_desk.proofs.Leading.{Grew, grew_one}
use Rattle.xa_desk.proofs.Showing.{front_there, setting, down_seen, closed_seen, waits, own_seen}
use Rattle.xa_desk.specs.Visit.{IsAt}
use Rattle.xa_desk.proofs.Entering.{setting_here}
use Rattle.xa_server.specs.xa_lock.declared.pass.Page.{Page}
use Rattle.xa_server.specs.xa_held.declared.kept_queue.QueueNote.{QueueNote}
use Rattle.xa_desk.proofs.Visiting.{QueuePass, HasPass, page_is, Step, now_has, later, looked_leads, noted_leads, looked_last}

pub same_draft : (a b : Draft) (phase : Phase) → phase ≡ Prepared a → phase ≡ Prepared b → a ≡ b
same_draft a b phase is_a is_b = cc (sym is_a ∙ is_b)

-- who may make a call has a number
pub may_have : (desk : Desk) → MayCall desk.caller → 0 < desk.caller.work.id.0
may_have desk (inl client) = leb-true 1 desk.caller.work.id.0 (and_parts (nat_le 1 desk.caller.work.id.0) (nat_le desk.caller.work.id.0 desk.caller.work.clients) client).0
may_have desk (inr serves) = let above : desk.caller.work.clients < desk.caller.work.id.0 = ltb-true desk.caller.work.clients desk.caller.work.id.0 (and_parts (nat_lt desk.caller.work.clients desk.caller.work.id.0) _ serves).0 in omega (arith, above)

-- what both ways of sending a request leave
pub record SentSo (apart : Bool) (stamp : Stamp) (new old : CallerState) : Type 0 where
  pub draft : Draft
  pub was : old.phase ≡ Prepared draft
  pub work : new.work ≡ noted (record { stamp = stamp; event = draft.event.value }) old.work
  pub seat : new.seat ≡ old.seat
  pub least : new.least ≡ draft.version
  pub number : new.sent ≡ old.sent + 1
  pub is_apart : just_in new.phase ≡ None → apart ≡ true

pub sent_so : (apart : Bool) (stamp : Stamp) (new old : CallerState) → SentBy apart stamp new old → SentSo apart stamp new old
sent_so true stamp new old s = record {
  draft = s.draft;
  was = s.was;
  work = ap (λ (c : CallerState). c.work) s.made;
  seat = ap (λ (c : CallerState). c.seat) s.made;
  least = ap (λ (c : CallerState). c.least) s.made;
  number = ap (λ (c : CallerState). c.sent) s.made;
  is_apart = λ none. refl;
}
sent_so false stamp new old s = record {
  draft = s.draft;
  was = s.was;
  work = ap (λ (c : CallerState). c.work) s.made;
  seat = ap (λ (c : CallerState). c.seat) s.made;
  least = ap (λ (c : CallerState). c.least) s.made;
  number = ap (λ (c : CallerState). c.sent) s.made;
  is_apart = λ none. absurd (cc (sym (ap (λ (c : CallerState). just_in c.phase) s.made) ∙ none));
}

both_false : (a b : Bool) → (a || b) ≡ false → (a ≡ false) × (b ≡ false)
both_false true b none = cc none
both_false false b none = (refl, none)

-- a tpcall that isn't invalid wants a reply, and asks what a tpacall may ask
pub valid_ask : (setup : Setup) (ask : Ask) → is_invalid_call setup ask ≡ false → (is_invalid_ask setup ask ≡ false) × (ask.flags.no_reply ≡ false)
valid_ask setup ask valid = both_false (is_invalid_ask setup ask) ask.flags.no_reply valid

module _ {d : Domain} {found : FoundRows} (ask : Ask) {old : Desk} {entry : Entry Cargo} {event : Event} (has : HasFound d ask.service found old) (aimed : IsAimed d found ask.payload entry event old) where
  its : aimed.row ≡ row_for d.setup ask.service aimed.row.queue.0 aimed.row.routine
  its = All-contains (λ (row : Row). row ≡ row_for d.setup ask.service row.queue.0 row.routine) found.rows aimed.row has.rows aimed.among

  queue_is : queue_in event ≡ aimed.row.queue.0
  queue_is = ap queue_in aimed.event_is

  -- the queue is one of the domain
  pub place_in : (0 < queue_in event) × (queue_in event < length d.queues.items + 1)
  place_in = subst (λ n. (0 < n) × (n < length d.queues.items + 1)) (sym queue_is) (All-contains (λ (row : Row). (0 < row.queue.0) × (row.queue.0 < length d.queues.items + 1)) found.rows aimed.row has.places aimed.among)

  pub is_accept : IsAccept event
  is_accept = subst IsAccept (sym aimed.event_is) (subst (λ n. 0 < n) queue_is place_in.0)

  pub brings : Brings entry.request entry.cargo.invocation event
  brings = subst (λ (e : Entry Cargo). Brings e.request e.cargo.invocation event) (sym aimed.entry_is)
      (subst (λ (e : Event). Brings aimed.draft.asked.request (record { service = aimed.row.service; routine = aimed.row.routine; hop = 0; payload = ask.payload }) e) (sym aimed.event_is) (refl, refl, refl, refl, refl, refl))

  pub in_range : IsDomain d → (1 ≤ entry.priority) × (entry.priority ≤ 100)
  in_range domain = subst (λ (e : Entry Cargo). (1 ≤ e.priority) × (e.priority ≤ 100)) (sym aimed.entry_is) (asked_priority aimed.row.priority old.caller.priority (row_priority d.setup domain.configured ask.service aimed.row its))

  -- at the queue that was found there the entry may be put
  pub put_here : {k : ℕ} {there : Kept Filling} {page : Page (QueueNote Filling)} {passes : List (Option QueuePass)} → IsAt d (queue_in event) k old there page passes → IsEntry there.queue.id entry event × IsRight there.cells entry
  put_here {k} {there} at =
      let here = setting_here at in
      let wrap : ℕ → QueueId = λ n. record { 0 = n } in
      let id : aimed.row.queue ≡ there.queue.id = ap wrap (sym queue_is ∙ sym here.id) in
      (subst (λ (e : Entry Cargo). IsEntry there.queue.id e event) (sym aimed.entry_is) (subst (IsEntry there.queue.id (entry_by aimed.draft.asked.request aimed.row old.caller.priority ask.payload entry.cargo.ticket)) (sym aimed.event_is) (refl, id, refl)), subst (λ cells. IsRight cells entry) (sym here.cells) aimed.right)

  module _ {k : ℕ} {new : Desk} {p p' : QueuePass} {last : Stamp} (step : Step d (queue_in event) k old new p p' last) (seen : Stamp) (saw : seen ≡ old.caller.work.stamp) (maker : CallerId) where
    -- the queue took it
    module _ (apart : Bool) (stamp : Stamp) (put : PutAs (Visits (page_of p) (page_of p')) seen maker event entry (Ok stamp)) (sent : SentBy apart stamp new.caller old.caller) where
      sends : SentSo apart stamp new.caller old.caller
      sends = sent_so apart stamp new.caller old.caller sent

      abbrev Its : Stamped
      Its = record { stamp = stamp; event = event }

      next : stamp ≡ next_stamp old.caller.work.stamp put.old.queue
      next = put.how.1.next ∙ ap (λ (s : Stamp). next_stamp s put.old.queue) saw

      same : sends.draft ≡ aimed.draft
      same = same_draft sends.draft aimed.draft old.caller.phase sends.was aimed.prepared

      grew : Grew old.caller.work new.caller.work (Its ∷ [])
      grew =
          let said : sends.draft.event.value ≡ event = ap (λ (draft : Draft). draft.event.value) same ∙ aimed.drafted in
          grew_one old.caller.work new.caller.work old.caller.work.room Its
          (sends.work ∙ ap (λ (e : Event). record old.caller.work { stamp = stamp; own = old.caller.work.own ++ record { stamp = stamp; event = e } ∷ [] }) said) (later step maker stamp event put next) (subst IsMade (sym aimed.event_is) refl)

      pub sent_leads : Leads d old new
      sent_leads =
          let least = sends.least ∙ ap (λ (draft : Draft). draft.version) same ∙ aimed.version in
          let seen = has.seen in
          let more = later step maker stamp event put next in
          noted_leads step maker stamp event put next grew (ap (home_of d.setup d.clients) aimed.event_is ∙ ap QueueHome (sym queue_is)) sends.seat (ap (λ (w : WorkState). w.stamp) sends.work) (omega (arith, least, seen))
          (λ whole on. subst (HasGrounds d whole old.caller.work.id.0 old.caller.work.own stamp) (sym aimed.event_is) (record {
            saw = subst (λ (name : List ℕ). SawFront (entries_of whole BoardHome) stamp (RowStands d.setup found.version name aimed.row.queue.0 (RowAdmits d.setup false aimed.row.routine ask.payload))) (sym (row-service d.setup ask.service aimed.row its))
                (All-contains (λ (row : Row). is_accepted d.setup row.accepts (kind_of ask.payload) ≡ true → SawOnBoard d old (RowStands d.setup found.version ask.service row.queue.0 (RowAdmits d.setup false row.routine ask.payload))) found.rows aimed.row (has.stand ask.payload) aimed.among aimed.accepts whole on stamp more);
            told = tt;
            clears = tt;
          }))

      -- it is over, by a tpacall alone
      sent_over : (a : Bool) → a ≡ true → (ops : List Op) → numbered (old.caller.op + 1) ops ≡ Some (ask_by a ask) → awaits_answer ops (Some event) ≡ false
      sent_over true so ops its = ap (λ (e : Event). awaits_answer ops (Some e)) aimed.event_is ∙ ap (λ (n : ℕ). is_tpcall (numbered n ops)) aimed.turn ∙ ap is_tpcall its
      sent_over false so ops its = absurd (cc so)

      sent_ask : (a : Bool) (whole : Whole) → is_invalid_call d.setup ask ≡ false → FitsOwn d.setup d.clients (entries_of whole) stamp (ask_by a ask) (Accept (accepted_by aimed.draft.op aimed.draft.asked.request found.version aimed.row old.caller.priority ask.payload)) (its_events d old)
      sent_ask true whole valid =
          let both = valid_ask d.setup ask valid in
          record { valid = both.0; service = row-service d.setup ask.service aimed.row its; payload = refl; mode = sym (ap (λ (b : Bool). if b then NoReply else Reply) both.1) }
      sent_ask false whole valid = record { valid = valid; service = row-service d.setup ask.service aimed.row its; payload = refl; mode = refl }

      pub sent_fits : is_invalid_call d.setup ask ≡ false → FitsOp d (old.caller.op + 1) (ask_by apart ask) old new
      sent_fits valid =
          let turn = aimed.turn in
          one_more_fits d old new Its sent_leads grew (old.caller.op + 1) (ask_by apart ask) (ap op_in aimed.event_is ∙ aimed.turn)
          (ap (is_call_of old.caller.work.id.0) aimed.event_is ∙ is_numbered old.caller.work.id.0 aimed.draft.asked.request.caller.0 aimed.draft.op (ap (λ (r : RequestId). r.caller.0) aimed.mine) (omega (arith, turn)))
          (λ ops fits next. call_over d old ops fits (ap just_in aimed.prepared)) (λ none. sent_over apart (sends.is_apart none))
          (λ whole on. subst (λ (e : Event). FitsOwn d.setup d.clients (entries_of whole) stamp (ask_by apart ask) e (its_events d old)) (sym aimed.event_is) (sent_ask apart whole valid))

-- a put that a queue refused
module _ {d : Domain} {queue k : ℕ} {old new : Desk} {p p' : QueuePass} {last : Stamp} (step : Step d queue k old new p p' last) (seen : Stamp) (why : Refusal) (visits : Visits (page_of p) (page_of p') [] (λ o n. (n ≡ o) × ((put_refused seen o.queue ≡ Some why) ⊎ (why ≡ refusals.NoMemory)))) (caller : new.caller ≡ record old.caller { work = seeing last old.caller.work })
    (domain : IsDomain d) (some : 0 < old.caller.work.id.0) (saw : seen ≡ old.caller.work.stamp) where
  is : IsDesk d new
  is = (looked_leads step visits caller).desk

  now : HasPass d queue k new p'
  now = now_has step

  own_at : (P : List Event → Type 0) → IfNew d.setup queue P (past_in (events_at (page_of p').seen)) → SawItsOwnAt d queue new P
  own_at P holds =
      let is_own : Event → Bool = is_own_at d.setup d.clients new.caller.work.id.0 queue in
      let same = ap (λ (c : CallerState). c.work.id.0) caller in
      front_there is now (λ past. IfNew d.setup queue P past × (count is_own past ≡ count is_own (past_in new.caller.work.own)))
      (λ whole on. (holds, own_seen is now visits (omega (arith, some, same)) (knows_events (page_of p') visits.new (knows_still visits visits.how.0)) whole on))

  why_of : (w : Refusal) → (put_refused seen visits.old.queue ≡ Some w) → WhyOf seen visits.new.queue w
  why_of w is = why_refused seen visits.new.queue w (ap (λ (kept : Kept Filling). put_refused seen kept.queue) visits.how.0 ∙ is)

  by_why : (w : Refusal) → ((put_refused seen visits.old.queue ≡ Some w) ⊎ (w ≡ refusals.NoMemory)) → ShowsWhy d queue w new
  by_why refusals.Down (inl it) = own_at (λ past. is_down queue past ≡ true) (λ news. down_seen is now visits (why_of refusals.Down it))
  by_why refusals.Closed (inl it) = own_at (λ past. is_closed queue past ≡ true) (λ news. closed_seen is now visits (why_of refusals.Closed it))
  by_why (refusals.Full n) (inl it) =
      let q = visits.new.queue in
      let full = why_of (refusals.Full n) it in
      let many : n ≡ capacity_of d.setup queue = full.1 ∙ eqb-true (length q.waiting) q.capacity full.0 ∙ (setting is now visits).capacity in
      let queues = domain.queues in
      let low = now.low in
      let room = subst (λ j. 0 < capacity_of d.setup j) (sym now.at) (has_capacity d.setup domain.configured k (omega (arith, low, queues))) in (
        omega (arith, many, room),
        many,
        own_at (λ past. length (waiting d.setup queue past) ≡ n) (λ news. ap length (sym (waits is now visits news)) ∙ length-map q.waiting (λ (entry : Entry Cargo). entry.request) ∙ sym full.1),
      )
  by_why (refusals.Worn stamp) (inl it) =
      let worn = why_of (refusals.Worn stamp) it in
      let end = looked_last step visits caller seen (record { 0 = stamp }) saw (record {
        larger = ap (λ (kept : Kept Filling). larger seen kept.queue) (sym visits.how.0) ∙ eqb-true (larger seen visits.new.queue) (2 ^ 63) worn.1;
        told = ap (λ (s : Stamp). s.0) worn.0;
        same = refl;
      }) in
      (end.last, end.at)
  by_why refusals.NoMemory (inl it) = tt
  by_why w (inr it) = subst (λ x. ShowsWhy d queue x new) (sym it) tt

  pub shows_why : ShowsWhy d queue why new
  shows_why = by_why why visits.how.1

  -- and what is full is so as the pass saw it last
  sees_by : (w : Refusal) → ((put_refused seen visits.old.queue ≡ Some w) ⊎ (w ≡ refusals.NoMemory)) → SeesWhy d queue w new
  sees_by (refusals.Full n) (inl it) =
      let q = visits.new.queue in
      let full = why_of (refusals.Full n) it in
      subst (λ (p : Page (QueueNote Filling)). IfNew d.setup queue (λ past. length (waiting d.setup queue past) ≡ n) (past_in (events_at p.seen))) (sym (page_is now))
      (λ news. ap length (sym (waits is now visits news)) ∙ length-map q.waiting (λ (entry : Entry Cargo). entry.request) ∙ sym full.1)
  sees_by refusals.Down (inl it) = tt
  sees_by refusals.Closed (inl it) = tt
  sees_by (refusals.Worn stamp) (inl it) = tt
  sees_by refusals.NoMemory (inl it) = tt
  sees_by w (inr it) = subst (λ x. SeesWhy d queue x new) (sym it) tt

  pub sees_why : SeesWhy d queue why new
  sees_why = sees_by why visits.how.1
