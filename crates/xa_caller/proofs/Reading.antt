-- A caller's tables are what its events say also with one event more: a lemma for each kind of event.
use Rattle.std.proofs.Common.{◌≡◌, ℕ, ◌+◌, ◌<◌, ◌≤◌, ◌==◌, ◌&&◌, ◌||◌, if◌then◌else◌, true, false, cond, length, ne_eqb, Bool, ℤ, List, [], ◌∷◌, ◌++◌, map, Option, Some, None, inl, refl, sym, ◌∙◌, ap, subst, arith, eq-eqb}
use Rattle.std.specs.Prelude.{nat_lt, IfSome}
use Rattle.std.proofs.lemmas.Bool.{and_from, lt-ltb}
use Rattle.xa_types.specs.declared.setup.Setup.{Setup}
use Rattle.xa_types.specs.declared.call.Mode.TheVariants.{Reply}
use Rattle.xa_events.specs.declared.event.Event.{Event}
use Rattle.xa_events.specs.declared.event.Event.TheVariants.{Advertise, Withdraw, Accept, Answer, Cancel, Refuse, Priority, Start, StartFailed, End, Stop, Take, Gone, Forward}
use Rattle.xa_events.specs.State.{caller_of}
use Rattle.xa_events.specs.declared.event.Advertised.{Advertised}
use Rattle.xa_events.specs.declared.event.Withdrawn.{Withdrawn}
use Rattle.xa_events.specs.declared.event.Accepted.{Accepted}
use Rattle.xa_events.specs.declared.event.Replied.{Replied}
use Rattle.xa_events.specs.declared.event.Cancelled.{Cancelled as CancelledOne}
use Rattle.xa_events.specs.declared.event.Prioritized.{Prioritized}
use Rattle.xa_events.specs.declared.event.Refused.{Refused as RefusedCall}
use Rattle.xa_events.specs.Words.{added, without}
use Rattle.xa_events.specs.Board.{boot}
use Rattle.xa_events.specs.Homes.{worker_of, home_of, at_home}
use Rattle.xa_events.specs.Homes.Home.{CallerHome}
use Rattle.xa_caller.specs.Serving.{IsOfServer, IsAtQueue, IsForwardBy, version_ended, raised}
use Rattle.xa_events.specs.Caller.{op_of, accepted_in, version_in, wants_reply, newest_call, is_call_of, accepted, open_descriptors, unanswered, versions, ticks, has_left, is_leaving, version_of, priority_asked}
use Rattle.xa_events.specs.Conversation.{connections, closes_connection}
use Rattle.xa_types.specs.declared.ids.RequestId.{RequestId}
use Rattle.xa_events.specs.Local.{worker_events}
use Rattle.xa_worker.specs.Seen.{past_in}
use Rattle.xa_events.specs.Views.{newer, CallerView, caller_view, caller_after}
use Rattle.xa_events.proofs.Owns.{caller_more}
use Rattle.xa_events.proofs.WordsLemmas.{greatest_one_more, if_some}
use Rattle.xa_stamp.specs.declared.home.Stamped.{Stamped}
use Rattle.xa_worker.specs.Work.{WorkState, noted}
use Rattle.xa_worker.proofs.Noting.{theirs-more}
use Rattle.xa_caller.specs.declared.phase.Open.{Open}
use Rattle.xa_caller.specs.declared.phase.Phase.{Phase}
use Rattle.xa_caller.specs.declared.phase.Phase.TheVariants.{Idle, Prepared, Sent, Lost}
use Rattle.xa_caller.specs.Phases.{request_of, just_in, JustIs, Describes, least_by}
use Rattle.std.specs.List.{find}
use Rattle.xa_types.specs.declared.data.Data.{Data}
use Rattle.xa_types.specs.declared.row.Row.{Row}
use Rattle.xa_types.specs.Found.{FoundRows}
use Rattle.xa_types.specs.Kind.{kind_of, is_accepted}
use Rattle.xa_caller.specs.declared.outcomes.Stop.{Stop as StopOf}
use Rattle.xa_caller.specs.declared.outcomes.Stop.TheVariants.{Refused, Halt}
use Rattle.xa_caller.specs.Changes.{TurnsDown, StopsAs, IsChangeBy, tick_of}
use Rattle.xa_types.specs.declared.stamp.Stamp.{Stamp}
use Rattle.xa_caller.specs.Caller.{CallerState, Ascends, Reads, IsSound, view_of}
use Rattle.xa_caller.proofs.Ordering.{ascends-push, without_least}

-- the view of all that the worker noted, with one event more
pub view-more : (w : WorkState) (x : Stamped) → worker_of w.clients x.event ≡ w.id.0 → view_of (noted x w) ≡ caller_after w.clients w.id.0 x.event (view_of w)
view-more w x its = ap (caller_view w.clients w.id.0) (theirs-more w x its) ∙ caller_more w.clients w.id.0 x.event _

without_none : (out : Option RequestId) → without out [] ≡ []
without_none None = refl
without_none (Some out) = refl

pub is_numbered : (caller by op : ℕ) → by ≡ caller → 0 < op → ((by == caller) && nat_lt 0 op) ≡ true
is_numbered caller by op same above = and_from (by == caller) (nat_lt 0 op) (eq-eqb by caller same) (lt-ltb 0 op above)

some_is : {X : Type 0} {x y : X} → Some x ≡ Some y → x ≡ y
some_is e = cc e

least_rises : (o : Option ℕ) (least : ℕ) → IfSome o (λ v. least ≤ v) → least ≤ least_by o least
least_rises None least recent = omega arith
least_rises (Some v) least recent = recent

-- ---- one event more, by its kind

pub reads_refused : (setup : Setup) (clients worker : ℕ) (r : RefusedCall) (view : CallerView) (op n least : ℕ) (priority : Option (Bool × ℤ)) (out : List Open) (phase : Phase) → r.by.0 ≡ worker → 0 < r.op → IfSome (version_in r.evidence) (λ v. least ≤ v) → phase ≡ Idle
    → Reads setup view op n least priority out phase → Reads setup (caller_after clients worker (Refuse r) view) r.op n (least_by (version_in r.evidence) least) priority out phase
reads_refused setup clients worker r view op n least priority out phase by above recent idle reads =
    let is_call = is_numbered worker r.by.0 r.op by above in
    let low = reads.floor in
    let rises = least_rises (version_in r.evidence) least recent in
    record {
      called = ap (λ b. op_of (newer b (Refuse r) view.called)) is_call;
      just = subst (λ (p : Phase). JustIs out p (accepted_in (newer (is_call_of worker (Refuse r)) (Refuse r) view.called))) (sym idle) (λ none. ap (λ b. accepted_in (newer b (Refuse r) view.called)) is_call);
      accepted = reads.accepted;
      descriptors = reads.descriptors;
      floor = greatest_one_more view.versions _ (boot setup) (least_by (version_in r.evidence) least) (λ v is. let one = ap (λ o. least_by o least) (if_some (r.by.0 == worker) (version_in r.evidence) v is).1 in omega (arith, one)) (omega (arith, low, rises));
      stands = reads.stands;
      stays = reads.stays;
      set = reads.set;
      unconnected = ap (without (closes_connection worker (Refuse r))) reads.unconnected ∙ without_none (closes_connection worker (Refuse r));
      ascend = reads.ascend;
    }

pub reads_accepted : (setup : Setup) (clients worker : ℕ) (a : Accepted) (view : CallerView) (op n least op' m : ℕ) (priority : Option (Bool × ℤ)) (out out' : List Open) (phase phase' : Phase) → a.by.0 ≡ worker → 0 < a.op → a.mode ≡ Reply → a.op ≡ op' → a.version ≡ m → least ≤ m → a.request.number ≡ n + 1
    → Describes out' phase' (view.descriptors ++ a.request ∷ []) → JustIs out' phase' (Some a.request) → Reads setup view op n least priority out phase → Reads setup (caller_after clients worker (Accept a) view) op' (n + 1) m None out' phase'
reads_accepted setup clients worker a view op n least op' m priority out out' phase phase' by above mode of version recent number shape just reads =
    let is_call = is_numbered worker a.by.0 a.op by above in
    let low = reads.floor in
    let opens = and_from (a.by.0 == worker) (wants_reply a.mode) (eq-eqb a.by.0 worker by) (ap wants_reply mode) in
    record {
      called = ap (λ b. op_of (newer b (Accept a) view.called)) is_call ∙ of;
      just = subst (JustIs out' phase') (sym (ap (λ b. accepted_in (newer b (Accept a) view.called)) is_call)) just;
      accepted = ap (λ b. cond b (view.accepted + 1) view.accepted) (eq-eqb a.by.0 worker by) ∙ ap (λ k. k + 1) reads.accepted;
      descriptors = subst (Describes out' phase') (sym (ap (λ b. added (if b then Some a.request else None) view.descriptors) opens)) shape;
      floor = greatest_one_more view.versions _ (boot setup) m (λ v given. let one = (if_some (a.by.0 == worker) (Some a.version) v given).1 in omega (arith, version, some_is one)) (omega (arith, low, recent));
      stands = reads.stands;
      stays = reads.stays;
      set = rw (eq-eqb a.by.0 worker by, mode) refl;
      unconnected = rw (eq-eqb a.by.0 worker by, mode) reads.unconnected;
      ascend = subst (λ (l : List RequestId). Ascends 0 l (n + 1)) (sym (ap (λ b. added (if b then Some a.request else None) view.unanswered) opens)) (ascends-push 0 n (n + 1) view.unanswered a.request reads.ascend (omega (arith, number)) (omega (arith, number)));
    }

pub owed_accepted : (clients worker : ℕ) (a : Accepted) (view : CallerView) → a.by.0 ≡ worker → a.mode ≡ Reply → (caller_after clients worker (Accept a) view).unanswered ≡ view.unanswered ++ a.request ∷ []
owed_accepted clients worker a view by mode = ap (λ b. added (if b then Some a.request else None) view.unanswered) (and_from (a.by.0 == worker) (wants_reply a.mode) (eq-eqb a.by.0 worker by) (ap wants_reply mode))

pub reads_answered : (setup : Setup) (clients worker : ℕ) (a : Replied) (view : CallerView) (op n least op' : ℕ) (priority : Option (Bool × ℤ)) (out out' : List Open) (phase phase' : Phase) → a.by.0 ≡ worker → 0 < a.op → a.op ≡ op' → Describes out' phase' (without (Some a.request) view.descriptors) → JustIs out' phase' None
    → Reads setup view op n least priority out phase → Reads setup (caller_after clients worker (Answer a) view) op' n least priority out' phase'
reads_answered setup clients worker a view op n least op' priority out out' phase phase' by above of shape just reads =
    let is_call = is_numbered worker a.by.0 a.op by above in
    record {
      called = ap (λ b. op_of (newer b (Answer a) view.called)) is_call ∙ of;
      just = subst (JustIs out' phase') (sym (ap (λ b. accepted_in (newer b (Answer a) view.called)) is_call)) just;
      accepted = reads.accepted;
      descriptors = subst (Describes out' phase') (sym (ap (λ b. without (if b then Some a.request else None) view.descriptors) (eq-eqb a.by.0 worker by))) shape;
      floor = reads.floor;
      stands = reads.stands;
      stays = reads.stays;
      set = reads.set;
      unconnected = reads.unconnected;
      ascend = subst (λ (l : List RequestId). Ascends 0 l n) (sym (ap (λ b. without (if b then Some a.request else None) view.unanswered) (eq-eqb a.by.0 worker by))) (without_least 0 n view.unanswered a.request reads.ascend).1;
    }

-- one less is owed an answer at most
pub owed_answered : (setup : Setup) (clients worker : ℕ) (a : Replied) (view : CallerView) (op n least : ℕ) (priority : Option (Bool × ℤ)) (out : List Open) (phase : Phase) → a.by.0 ≡ worker → Reads setup view op n least priority out phase
    → length view.unanswered ≤ length (caller_after clients worker (Answer a) view).unanswered + 1
owed_answered setup clients worker a view op n least priority out phase by reads =
    subst (λ (l : List RequestId). length view.unanswered ≤ length l + 1) (sym (ap (λ b. without (if b then Some a.request else None) view.unanswered) (eq-eqb a.by.0 worker by))) (without_least 0 n view.unanswered a.request reads.ascend).0

pub reads_cancelled : (setup : Setup) (clients worker : ℕ) (c : CancelledOne) (view : CallerView) (op n least op' : ℕ) (priority : Option (Bool × ℤ)) (out out' : List Open) (phase phase' : Phase) → c.by.0 ≡ worker → 0 < c.op → c.op ≡ op' → Describes out' phase' (without (Some c.request) view.descriptors) → JustIs out' phase' None
    → Reads setup view op n least priority out phase → Reads setup (caller_after clients worker (Cancel c) view) op' n least priority out' phase'
reads_cancelled setup clients worker c view op n least op' priority out out' phase phase' by above of shape just reads =
    let is_call = is_numbered worker c.by.0 c.op by above in
    record {
      called = ap (λ b. op_of (newer b (Cancel c) view.called)) is_call ∙ of;
      just = subst (JustIs out' phase') (sym (ap (λ b. accepted_in (newer b (Cancel c) view.called)) is_call)) just;
      accepted = reads.accepted;
      descriptors = subst (Describes out' phase') (sym (ap (λ b. without (if b then Some c.request else None) view.descriptors) (eq-eqb c.by.0 worker by))) shape;
      floor = reads.floor;
      stands = reads.stands;
      stays = ap (λ b. b || view.leaving) (not_given c.by.0 worker c.op above) ∙ reads.stays;
      set = reads.set;
      unconnected = reads.unconnected;
      ascend = reads.ascend;
    }
  where
    not_given : (by worker op : ℕ) → 0 < op → ((by == worker) && (op == 0)) ≡ false
    not_given by worker op above = ap (λ b. (by == worker) && b) (ne_eqb op 0 (λ e. absurd (omega (arith, above, e)))) ∙ no (by == worker)
      where
        no : (a : Bool) → (a && false) ≡ false
        no true = refl
        no false = refl

raised_to : (o : Option ℕ) (least : ℕ) → least ≤ raised o least
raised_to None least = omega arith
raised_to (Some v) least = omega arith

-- an event of the caller's server
pub reads_served : (setup : Setup) (clients worker : ℕ) (e : Event) (view : CallerView) (op n least : ℕ) (priority : Option (Bool × ℤ)) (out : List Open) (phase : Phase) → IsOfServer e → Reads setup view op n least priority out phase → Reads setup (caller_after clients worker e view) op n (raised (version_ended e) least) priority out phase
reads_served setup clients worker (Start b) view op n least priority out phase kind r =
    record { called = r.called; just = r.just; accepted = r.accepted; descriptors = r.descriptors; floor = r.floor; stands = r.stands; stays = r.stays; set = r.set; unconnected = r.unconnected; ascend = r.ascend }
reads_served setup clients worker (StartFailed b) view op n least priority out phase kind r =
    record { called = r.called; just = r.just; accepted = r.accepted; descriptors = r.descriptors; floor = r.floor; stands = r.stands; stays = r.stays; set = r.set; unconnected = r.unconnected; ascend = r.ascend }
reads_served setup clients worker (Stop x) view op n least priority out phase kind r =
    record { called = r.called; just = r.just; accepted = r.accepted; descriptors = r.descriptors; floor = r.floor; stands = r.stands; stays = r.stays; set = r.set; unconnected = r.unconnected; ascend = r.ascend }
reads_served setup clients worker (End e) view op n least priority out phase kind r =
    let low = r.floor in
    let rises = raised_to (version_of e.outcome) least in
    record {
      called = r.called;
      just = r.just;
      accepted = r.accepted;
      descriptors = r.descriptors;
      floor = greatest_one_more view.versions _ (boot setup) (raised (version_of e.outcome) least) (λ v is. let one = ap (λ o. raised o least) (if_some (caller_of clients e.server.0 == worker) (version_of e.outcome) v is).1 in omega (arith, one)) (omega (arith, low, rises));
      stands = r.stands;
      stays = r.stays;
      set = r.set;
      unconnected = r.unconnected;
      ascend = r.ascend;
    }
reads_served setup clients worker _ view op n least priority out phase kind r = absurd kind

-- the caller set the priority of its next request
pub reads_set : (setup : Setup) (clients worker : ℕ) (p : Prioritized) (view : CallerView) (op n least : ℕ) (priority : Option (Bool × ℤ)) (out : List Open) (phase : Phase) → p.by.0 ≡ worker → 0 < p.op → phase ≡ Idle
    → Reads setup view op n least priority out phase → Reads setup (caller_after clients worker (Priority p) view) p.op n least (Some (p.absolute, p.amount)) out phase
reads_set setup clients worker p view op n least priority out phase by above idle reads =
    let is_call = is_numbered worker p.by.0 p.op by above in
    record {
      called = ap (λ b. op_of (newer b (Priority p) view.called)) is_call;
      just = subst (λ (q : Phase). JustIs out q (accepted_in (newer (is_call_of worker (Priority p)) (Priority p) view.called))) (sym idle) (λ none. ap (λ b. accepted_in (newer b (Priority p) view.called)) is_call);
      accepted = reads.accepted;
      descriptors = reads.descriptors;
      floor = reads.floor;
      stands = reads.stands;
      stays = reads.stays;
      set = ap (λ b. priority_asked (newer b (Priority p) view.set)) (eq-eqb p.by.0 worker by);
      unconnected = reads.unconnected;
      ascend = reads.ascend;
    }

-- its server's call changed the board
reads_advertised : (setup : Setup) (clients worker : ℕ) (a : Advertised) (view : CallerView) (op n least m : ℕ) (priority : Option (Bool × ℤ)) (out : List Open) (phase : Phase) → a.by.0 ≡ worker → 0 < a.op → a.version ≡ m → least ≤ m → phase ≡ Idle
    → Reads setup view op n least priority out phase → Reads setup (caller_after clients worker (Advertise a) view) a.op n m priority out phase
reads_advertised setup clients worker a view op n least m priority out phase by above version recent idle reads =
    let is_call = is_numbered worker a.by.0 a.op by above in
    let low = reads.floor in
    record {
      called = ap (λ b. op_of (newer b (Advertise a) view.called)) is_call;
      just = subst (λ (q : Phase). JustIs out q (accepted_in (newer (is_call_of worker (Advertise a)) (Advertise a) view.called))) (sym idle) (λ none. ap (λ b. accepted_in (newer b (Advertise a) view.called)) is_call);
      accepted = reads.accepted;
      descriptors = reads.descriptors;
      floor = greatest_one_more view.versions _ (boot setup) m (λ v given. let one = (if_some (a.by.0 == worker) (Some a.version) v given).1 in omega (arith, version, some_is one)) (omega (arith, low, recent));
      stands = reads.stands;
      stays = reads.stays;
      set = reads.set;
      unconnected = reads.unconnected;
      ascend = reads.ascend;
    }

reads_withdrawn : (setup : Setup) (clients worker : ℕ) (x : Withdrawn) (view : CallerView) (op n least m : ℕ) (priority : Option (Bool × ℤ)) (out : List Open) (phase : Phase) → x.by.0 ≡ worker → 0 < x.op → x.version ≡ m → least ≤ m → phase ≡ Idle
    → Reads setup view op n least priority out phase → Reads setup (caller_after clients worker (Withdraw x) view) x.op n m priority out phase
reads_withdrawn setup clients worker x view op n least m priority out phase by above version recent idle reads =
    let is_call = is_numbered worker x.by.0 x.op by above in
    let low = reads.floor in
    record {
      called = ap (λ b. op_of (newer b (Withdraw x) view.called)) is_call;
      just = subst (λ (q : Phase). JustIs out q (accepted_in (newer (is_call_of worker (Withdraw x)) (Withdraw x) view.called))) (sym idle) (λ none. ap (λ b. accepted_in (newer b (Withdraw x) view.called)) is_call);
      accepted = reads.accepted;
      descriptors = reads.descriptors;
      floor = greatest_one_more view.versions _ (boot setup) m (λ v given. let one = (if_some (x.by.0 == worker) (Some x.version) v given).1 in omega (arith, version, some_is one)) (omega (arith, low, recent));
      stands = reads.stands;
      stays = reads.stays;
      set = reads.set;
      unconnected = reads.unconnected;
      ascend = reads.ascend;
    }

pub reads_changed : (s : CallerState) (stamp : Stamp) (op version : ℕ) (e : Event) → IsChangeBy s op version e → op ≡ s.op + 1 → s.least ≤ version → s.phase ≡ Idle → Reads s.work.setup (view_of s.work) s.op s.sent s.least s.priority s.out s.phase
    → Reads s.work.setup (view_of (noted (record { stamp = stamp; event = e }) s.work)) op s.sent version s.priority s.out s.phase
reads_changed s stamp op version (Advertise a) is next recent idle reads =
    let w : WorkState = s.work in
    let by : a.by.0 ≡ w.id.0 = ap (λ id. id.0) is.0 in
    let number : a.op ≡ op = is.1 in
    subst (λ (view : CallerView). Reads w.setup view op s.sent version s.priority s.out s.phase) (sym (view-more w (record { stamp = stamp; event = Advertise a }) by))
    (subst (λ (n : ℕ). Reads w.setup (caller_after w.clients w.id.0 (Advertise a) (view_of w)) n s.sent version s.priority s.out s.phase) number
    (reads_advertised w.setup w.clients w.id.0 a (view_of w) s.op s.sent s.least version s.priority s.out s.phase by (omega (arith, number, next)) is.3 recent idle reads))
reads_changed s stamp op version (Withdraw x) is next recent idle reads =
    let w : WorkState = s.work in
    let by : x.by.0 ≡ w.id.0 = ap (λ id. id.0) is.0 in
    let number : x.op ≡ op = is.1 in
    subst (λ (view : CallerView). Reads w.setup view op s.sent version s.priority s.out s.phase) (sym (view-more w (record { stamp = stamp; event = Withdraw x }) by))
    (subst (λ (n : ℕ). Reads w.setup (caller_after w.clients w.id.0 (Withdraw x) (view_of w)) n s.sent version s.priority s.out s.phase) number
    (reads_withdrawn w.setup w.clients w.id.0 x (view_of w) s.op s.sent s.least version s.priority s.out s.phase by (omega (arith, number, next)) is.3 recent idle reads))
reads_changed s stamp op version _ is next recent idle reads = absurd is

-- none is owed an answer more or less then
pub owed_changed : (s : CallerState) (stamp : Stamp) (op version : ℕ) (e : Event) → IsChangeBy s op version e → (view_of (noted (record { stamp = stamp; event = e }) s.work)).unanswered ≡ (view_of s.work).unanswered
owed_changed s stamp op version (Advertise a) is = ap (λ (view : CallerView). view.unanswered) (view-more s.work (record { stamp = stamp; event = Advertise a }) (ap (λ id. id.0) is.0))
owed_changed s stamp op version (Withdraw x) is = ap (λ (view : CallerView). view.unanswered) (view-more s.work (record { stamp = stamp; event = Withdraw x }) (ap (λ id. id.0) is.0))
owed_changed s stamp op version _ is = absurd is

-- its call moved the clock on
pub reads_ticked : (s : CallerState) (stamp : Stamp) (op tick : ℕ) → 0 < op → s.phase ≡ Idle → Reads s.work.setup (view_of s.work) s.op s.sent s.least s.priority s.out s.phase
    → Reads s.work.setup (view_of (noted (record { stamp = stamp; event = tick_of s.work.id op tick }) s.work)) op s.sent s.least s.priority s.out s.phase
reads_ticked s stamp op tick above idle r =
    let w : WorkState = s.work in
    let e : Event = tick_of w.id op tick in
    let is_call = is_numbered w.id.0 w.id.0 op refl above in
    let view = view_of w in
    subst (λ (v : CallerView). Reads w.setup v op s.sent s.least s.priority s.out s.phase) (sym (view-more w (record { stamp = stamp; event = e }) refl))
    (record {
      called = ap (λ b. op_of (newer b e view.called)) is_call;
      just = subst (λ (q : Phase). JustIs s.out q (accepted_in (newer (is_call_of w.id.0 e) e view.called))) (sym idle) (λ none. ap (λ b. accepted_in (newer b e view.called)) is_call);
      accepted = r.accepted;
      descriptors = r.descriptors;
      floor = r.floor;
      stands = r.stands;
      stays = r.stays;
      set = r.set;
      unconnected = r.unconnected;
      ascend = r.ascend;
    })

pub owed_ticked : (s : CallerState) (stamp : Stamp) (op tick : ℕ) → (view_of (noted (record { stamp = stamp; event = tick_of s.work.id op tick }) s.work)).unanswered ≡ (view_of s.work).unanswered
owed_ticked s stamp op tick = ap (λ (view : CallerView). view.unanswered) (view-more s.work (record { stamp = stamp; event = tick_of s.work.id op tick }) refl)

-- one that stands at the server's queue
pub reads_aside : (setup : Setup) (clients worker : ℕ) (e : Event) (view : CallerView) (op n least : ℕ) (priority : Option (Bool × ℤ)) (out : List Open) (phase : Phase) → IsAtQueue e → Reads setup view op n least priority out phase → Reads setup (caller_after clients worker e view) op n least priority out phase
reads_aside setup clients worker (Take t) view op n least priority out phase kind r =
    record { called = r.called; just = r.just; accepted = r.accepted; descriptors = r.descriptors; floor = r.floor; stands = r.stands; stays = r.stays; set = r.set; unconnected = r.unconnected; ascend = r.ascend }
reads_aside setup clients worker (Gone s) view op n least priority out phase kind r =
    record { called = r.called; just = r.just; accepted = r.accepted; descriptors = r.descriptors; floor = r.floor; stands = r.stands; stays = r.stays; set = r.set; unconnected = r.unconnected; ascend = r.ascend }
reads_aside setup clients worker _ view op n least priority out phase kind r = absurd kind

-- the caller's server forwarded a request: a version was read, and what was set is used up
pub reads_forwarded : (setup : Setup) (clients worker : ℕ) (e : Event) (view : CallerView) (op n least version : ℕ) (priority : Option (Bool × ℤ)) (out : List Open) (phase : Phase) → IsForwardBy version e → worker_of clients e ≡ worker → least ≤ version
    → Reads setup view op n least priority out phase → Reads setup (caller_after clients worker e view) op n version None out phase
reads_forwarded setup clients worker (Forward f) view op n least version priority out phase kind its recent r =
    let low = r.floor in
    record {
      called = r.called;
      just = r.just;
      accepted = r.accepted;
      descriptors = r.descriptors;
      floor = greatest_one_more view.versions _ (boot setup) version (λ v is. let one = some_is (if_some (caller_of clients f.server.0 == worker) (Some f.version) v is).1 in omega (arith, kind, one)) (omega (arith, low, recent));
      stands = r.stands;
      stays = r.stays;
      set = ap (λ b. priority_asked (newer b (Forward f) view.set)) (eq-eqb (caller_of clients f.server.0) worker its);
      unconnected = r.unconnected;
      ascend = r.ascend;
    }
reads_forwarded setup clients worker _ view op n least version priority out phase kind its recent r = absurd kind

-- where these events stand
pub served_here : (setup : Setup) (clients worker : ℕ) (e : Event) → IsOfServer e → worker_of clients e ≡ worker → home_of setup clients e ≡ CallerHome worker
served_here setup clients worker (Start b) kind its = ap CallerHome its
served_here setup clients worker (StartFailed b) kind its = ap CallerHome its
served_here setup clients worker (End e) kind its = ap CallerHome its
served_here setup clients worker (Stop x) kind its = ap CallerHome its
served_here setup clients worker _ kind its = absurd kind

pub aside_elsewhere : (setup : Setup) (clients worker : ℕ) (e : Event) → IsAtQueue e → at_home setup clients (CallerHome worker) e ≡ false
aside_elsewhere setup clients worker (Take t) kind = refl
aside_elsewhere setup clients worker (Gone s) kind = refl
aside_elsewhere setup clients worker _ kind = absurd kind

-- before any event
pub reads_nothing : (w : WorkState) (least : ℕ) → w.own ≡ [] → boot w.setup ≤ least → Reads w.setup (view_of w) 0 0 least None [] Idle
unfolding newest_call accepted open_descriptors unanswered versions ticks has_left is_leaving connections
reads_nothing w least none low =
    subst (λ (own : List Stamped). Reads w.setup (caller_view w.clients w.id.0 (worker_events w.clients w.id.0 (past_in own))) 0 0 least None [] Idle) (sym none)
    (record { called = refl; just = λ none. refl; accepted = refl; descriptors = refl; floor = low; stands = refl; stays = refl; set = refl; unconnected = refl; ascend = omega arith })

pub owed_nothing : (w : WorkState) → w.own ≡ [] → (view_of w).unanswered ≡ []
unfolding unanswered
owed_nothing w none = ap (λ (own : List Stamped). (caller_view w.clients w.id.0 (worker_events w.clients w.id.0 (past_in own))).unanswered) none

-- nothing changes where the call stands elsewhere
pub reads_moved : (setup : Setup) (view : CallerView) (op n least : ℕ) (priority : Option (Bool × ℤ)) (out out' : List Open) (phase phase' : Phase) → Describes out' phase' view.descriptors → JustIs out' phase' (accepted_in view.called) → Reads setup view op n least priority out phase → Reads setup view op n least priority out' phase'
reads_moved setup view op n least priority out out' phase phase' same just r =
    record { called = r.called; just = just; accepted = r.accepted; descriptors = same; floor = r.floor; stands = r.stands; stays = r.stays; set = r.set; unconnected = r.unconnected; ascend = r.ascend }

-- of these kinds none is owed an answer more or less
pub owed_served : (clients worker : ℕ) (e : Event) (view : CallerView) → IsOfServer e → (caller_after clients worker e view).unanswered ≡ view.unanswered
owed_served clients worker (Start b) view kind = refl
owed_served clients worker (StartFailed b) view kind = refl
owed_served clients worker (Stop x) view kind = refl
owed_served clients worker (End e) view kind = refl
owed_served clients worker _ view kind = absurd kind

pub owed_aside : (clients worker : ℕ) (e : Event) (view : CallerView) → IsAtQueue e → (caller_after clients worker e view).unanswered ≡ view.unanswered
owed_aside clients worker (Take t) view kind = refl
owed_aside clients worker (Gone s) view kind = refl
owed_aside clients worker _ view kind = absurd kind

pub owed_forwarded : (clients worker version : ℕ) (e : Event) (view : CallerView) → IsForwardBy version e → (caller_after clients worker e view).unanswered ≡ view.unanswered
owed_forwarded clients worker version (Forward f) view kind = refl
owed_forwarded clients worker version _ view kind = absurd kind

pub stops_from : (setup : Setup) (op : ℕ) (payload : Data) (found : FoundRows) (stop : StopOf) (new old : CallerState) → find (λ (row : Row). is_accepted setup row.accepts (kind_of payload)) found.rows ≡ None → TurnsDown op found stop new old → StopsAs setup op payload found stop new old
stops_from setup op payload found (Refused stamp) new old none turned = inl (none, turned)
stops_from setup op payload found (Halt halt) new old none turned = (turned.0, inl turned.1)

-- where no tpcall is under way and nothing is out, the last call awaits no answer
pub none_just : (out : List Open) (phase : Phase) (just : Option RequestId) → JustIs out phase just → just_in phase ≡ None → out ≡ [] → just ≡ None
none_just out Idle just is none empty = is empty
none_just out (Prepared draft) just is none empty = is empty
none_just out (Sent sent) just is none empty = absurd (cc none)
none_just out (Lost request) just is none empty = absurd (cc none)

-- where no descriptor is open and no call is under way, nothing is out
pub none_out : (c : CallerState) → IsSound c → c.phase ≡ Idle → (view_of c.work).descriptors ≡ [] → c.out ≡ []
none_out c sound idle none = no_request c.out (sym (subst (λ p. Describes c.out p (view_of c.work).descriptors) idle sound.reads.descriptors) ∙ none)
  where
    no_request : (out : List Open) → map request_of out ≡ [] → out ≡ []
    no_request [] is = refl
    no_request (o ∷ os) is = absurd (cc is)
