-- Of each event that a caller notes: it meets what is asked of the caller's own events.
use Rattle.std.proofs.Common.{false, ◌≡◌, ℕ, ◌+◌, ◌<◌, ◌≤◌, if◌then◌else◌, ◌||◌, ◌&&◌, ◌==◌, not, Bool, ℤ, true, List, [], ◌∷◌, ◌++◌, map, ◌⊎◌, ⊎_elim, length, Option, Some, None, inl, inr, refl, sym, ◌∙◌, ap, subst, arith}
use Rattle.std.specs.List.{All, find, list_any, list_all}
use Rattle.std.proofs.lemmas.List.Elements.{All-head, All-tail, All-weaker}
use Rattle.std.specs.Prelude.{slice_get, ◌-◌, nat_lt, IsSome}
use Rattle.xa_types.specs.declared.data.Kind.{Kind}
use Rattle.std.proofs.lemmas.Bool.{cases_Bool, or_left, or_right, and_parts, ltb-true}
use Rattle.xa_types.specs.declared.call.Mode.{Mode}
use Rattle.xa_types.specs.declared.call.Mode.TheVariants.{Reply}
use Rattle.xa_types.specs.declared.ids.CallerId.{CallerId}
use Rattle.xa_types.specs.declared.ids.RequestId.{RequestId}
use Rattle.xa_types.specs.declared.row.Row.{Row}
use Rattle.xa_types.specs.declared.setup.Setup.{Setup}
use Rattle.xa_types.specs.declared.setup.ServiceSetup.{ServiceSetup}
use Rattle.xa_types.specs.Kind.{is_sound, is_accepted}
use Rattle.xa_types.specs.Priority.{priority_of}
use Rattle.xa_types.specs.Rows.{row_for, row_with}
use Rattle.xa_types.specs.Setup.{service_named}
use Rattle.xa_events.specs.declared.event.Event.TheVariants.{Advertise, Withdraw, Accept, Answer, Cancel, Refuse, NotYet, Leave, Priority}
use Rattle.xa_events.specs.declared.event.Accepted.{Accepted}
use Rattle.xa_events.specs.declared.event.Replied.{Replied}
use Rattle.xa_events.specs.declared.event.Cancelled.{Cancelled as CancelledOne}
use Rattle.xa_events.specs.declared.event.Prioritized.{Prioritized}
use Rattle.xa_events.specs.declared.event.Unready.{Unready}
use Rattle.xa_events.specs.declared.event.Refused.{Refused as RefusedCall}
use Rattle.xa_events.specs.declared.event.Event.{Event}
use Rattle.xa_events.specs.declared.event.Doing.{Doing}
use Rattle.xa_events.specs.declared.event.Doing.TheVariants.{Busy}
use Rattle.xa_events.specs.Server.{doing, is_busy, held_in}
use Rattle.xa_events.specs.Homes.{at_home}
use Rattle.xa_events.specs.Homes.Home.{CallerHome}
use Rattle.xa_events.specs.Caller.{accepted_in, is_client, is_serving, is_active, descriptor_limit, accepted, last_op, just_accepted, least_version, open_descriptors, next_priority}
use Rattle.xa_events.specs.Cases.{IsNextCall, ByServer, queue_by, HasRoom, asked_priority, priority_by, ShowsItself, IsOwnEvidence}
use Rattle.xa_events.specs.Words.{has, same_request}
use Rattle.xa_events.specs.Calls.{is_invalid_ask, is_invalid_call}
use Rattle.xa_types.specs.Name.{is_name}
use Rattle.xa_types.specs.declared.call.Ask.{Ask}
use Rattle.xa_events.proofs.WordsLemmas.{same_request_of}
use Rattle.xa_worker.specs.Work.{WorkState, IsNext, theirs}
use Rattle.xa_caller.specs.declared.phase.Phase.TheVariants.{Idle}
use Rattle.xa_caller.specs.Phases.{request_of, Describes}
use Rattle.xa_caller.specs.Caller.{CallerState, IsSound, MayCall, view_of}
use Rattle.xa_caller.specs.Changes.{IsChangeBy, tick_of}

-- a caller that may make a call is active
pub is_active_now : (c : CallerState) → IsSound c → MayCall c → is_active c.work.clients c.work.id.0 (theirs c.work) ≡ true
is_active_now c sound (inl known) = rw (known, sound.reads.stands, sound.reads.stays) refl
is_active_now c sound (inr serves) =
    elim (cases_Bool (is_client c.work.clients c.work.id.0)) [
      | inl known ↦ rw (known, sound.reads.stands, sound.reads.stays) refl
      | inr other ↦ rw other serves
    ]

next_call : (c : CallerState) → IsSound c → MayCall c → (op : ℕ) → op ≡ c.op + 1 → IsNextCall c.work.clients c.work.id.0 op (theirs c.work)
next_call c sound may op next = record { active = is_active_now c sound may; next = next ∙ ap (λ n. n + 1) (sym sound.reads.called) }

pub refuses_next : (c : CallerState) → IsSound c → MayCall c → (r : RefusedCall) → r.by ≡ c.work.id → r.op ≡ c.op + 1 → ShowsItself c.work.setup c.work.clients c.work.id.0 r.fault r.evidence (theirs c.work) → IsOwnEvidence c.work.clients c.work.id r.evidence (theirs c.work)
    → IsNext c.work (Refuse r)
refuses_next c sound may r by next shows own = record {
  its = ap (λ (id : CallerId). id.0) by;
  met = record {
    call = subst (λ (id : CallerId). IsNextCall c.work.clients id.0 r.op (theirs c.work)) (sym by) (next_call c sound may r.op next);
    shows = subst (λ (id : CallerId). ShowsItself c.work.setup c.work.clients id.0 r.fault r.evidence (theirs c.work)) (sym by) shows;
    own = subst (λ (id : CallerId). IsOwnEvidence c.work.clients id r.evidence (theirs c.work)) (sym by) own;
  };
}

pub some_limit : (clients caller : ℕ) → 0 < descriptor_limit clients caller
some_limit clients caller = elim (cases_Bool (is_client clients caller)) [
  | inl y ↦ subst (λ n. 0 < n) (sym (ap (λ b. if b then 50 else 16) y)) (omega arith)
  | inr n ↦ subst (λ n. 0 < n) (sym (ap (λ b. if b then 50 else 16) n)) (omega arith)
]

set_now : (c : CallerState) → IsSound c → next_priority c.work.clients c.work.id.0 (theirs c.work) ≡ c.priority
unfolding next_priority
set_now c sound = sound.reads.set

pub sets_next : (c : CallerState) → IsSound c → MayCall c → (p : Prioritized) → p.by ≡ c.work.id → p.op ≡ c.op + 1 → IsNext c.work (Priority p)
sets_next c sound may p by next = record {
  its = ap (λ (id : CallerId). id.0) by;
  met = record { call = subst (λ (id : CallerId). IsNextCall c.work.clients id.0 p.op (theirs c.work)) (sym by) (next_call c sound may p.op next) };
}

pub accepts_next : (c : CallerState) → IsSound c → MayCall c → (a : Accepted) → a.by ≡ c.work.id → a.op ≡ c.op + 1 → a.request ≡ record { caller = c.work.id; number = c.sent + 1 } → a.mode ≡ Reply → is_sound c.work.setup a.payload ≡ true → c.least ≤ a.version
    → a.priority ≡ priority_by c.work.setup a.service c.priority → length (view_of c.work).descriptors < descriptor_limit c.work.clients c.work.id.0 → IsNext c.work (Accept a)
accepts_next c sound may a by next mine mode fine recent priority least =
    let w : WorkState = c.work in
    let floor = sound.reads.floor in
    let room : HasRoom w.clients w.id.0 Reply (theirs w) = least in
    record {
      its = ap (λ (id : CallerId). id.0) by;
      met = record {
        call = subst (λ (id : CallerId). IsNextCall w.clients id.0 a.op (theirs w)) (sym by) (next_call c sound may a.op next);
        caller = ap (λ (r : RequestId). r.caller) mine ∙ sym by;
        number = subst (λ (id : CallerId). a.request.number ≡ accepted id.0 (theirs w) + 1) (sym by) (ap (λ (r : RequestId). r.number) mine ∙ ap (λ n. n + 1) (sym sound.reads.accepted));
        room = subst (λ (m : Mode). HasRoom w.clients a.by.0 m (theirs w)) (sym mode) (subst (λ (id : CallerId). HasRoom w.clients id.0 Reply (theirs w)) (sym by) room);
        sound = fine;
        not_older = subst (λ (id : CallerId). least_version w.setup w.clients id.0 (theirs w) ≤ a.version) (sym by) (omega (arith, floor, recent));
        priority = priority ∙ ap (priority_by w.setup a.service) (sym (ap (λ (m : Mode). asked_priority w.clients a.by.0 m (theirs w)) mode ∙ subst (λ (id : CallerId). next_priority w.clients id.0 (theirs w) ≡ c.priority) (sym by) (set_now c sound)));
      };
    }

-- one of the open descriptors is open
pub has_one : (front back : List RequestId) (r : RequestId) → has r (front ++ r ∷ back) ≡ true
has_one [] back r = or_left (same_request r r) (list_any (same_request r) back) (same_request_of r r refl)
has_one (q ∷ front) back r = or_right (same_request r q) (list_any (same_request r) (front ++ r ∷ back)) (has_one front back r)

pub answers_next : (c : CallerState) → IsSound c → MayCall c → (a : Replied) (front back : List RequestId) → a.by ≡ c.work.id → (a.op ≡ c.op + 1) ⊎ ((a.op ≡ c.op) × (accepted_in (view_of c.work).called ≡ Some a.request)) → a.request.caller ≡ c.work.id → (view_of c.work).descriptors ≡ front ++ a.request ∷ back → IsNext c.work (Answer a)
answers_next c sound may a front back by turn mine is =
    let w : WorkState = c.work in
    let called = sound.reads.called in
    record {
      its = ap (λ (id : CallerId). id.0) by;
      met = record {
        active = subst (λ (id : CallerId). is_active w.clients id.0 (theirs w) ≡ true) (sym by) (is_active_now c sound may);
        op = subst (λ (id : CallerId). (a.op ≡ last_op id.0 (theirs w) + 1) ⊎ ((a.op ≡ last_op id.0 (theirs w)) × (just_accepted id.0 (theirs w) ≡ Some a.request))) (sym by)
            (⊎_elim (λ (next : a.op ≡ c.op + 1). inl (next ∙ ap (λ n. n + 1) (sym called))) (λ (again : (a.op ≡ c.op) × (accepted_in (view_of c.work).called ≡ Some a.request)). inr (again.0 ∙ sym called, again.1)) turn);
        caller = mine ∙ sym by;
        is_open = subst (λ (id : CallerId). has a.request (open_descriptors id.0 (theirs w)) ≡ true) (sym by) (subst (λ (rs : List RequestId). has a.request rs ≡ true) (sym is) (has_one front back a.request));
      };
    }

pub cancels_next : (c : CallerState) → IsSound c → MayCall c → (x : CancelledOne) (front back : List RequestId) → x.by ≡ c.work.id → x.op ≡ c.op + 1 → x.request.caller ≡ c.work.id → (view_of c.work).descriptors ≡ front ++ x.request ∷ back → IsNext c.work (Cancel x)
cancels_next c sound may x front back by next mine is =
    let w : WorkState = c.work in
    record {
      its = ap (λ (id : CallerId). id.0) by;
      met = record {
        call = inl (subst (λ (id : CallerId). IsNextCall w.clients id.0 x.op (theirs w)) (sym by) (next_call c sound may x.op next));
        caller = mine ∙ sym by;
        is_open = subst (λ (id : CallerId). has x.request (open_descriptors id.0 (theirs w)) ≡ true) (sym by) (subst (λ (rs : List RequestId). has x.request rs ≡ true) (sym is) (has_one front back x.request));
      };
    }

pub leaves_next : (c : CallerState) → IsSound c → is_client c.work.clients c.work.id.0 ≡ true → c.phase ≡ Idle → c.out ≡ [] → (id : CallerId) → id ≡ c.work.id → IsNext c.work (Leave id)
leaves_next c sound known idle none id is =
    subst (λ (i : CallerId). IsNext c.work (Leave i)) (sym is) (record {
      its = refl;
      met = record { known = known; not_left = sound.reads.stands; none = subst (λ p. Describes c.out p (view_of c.work).descriptors) idle sound.reads.descriptors ∙ ap (map request_of) none; unconnected = sound.reads.unconnected };
    })

-- a row has the priority of its service
same_priority : (setup : Setup) (service : List ℕ) (configured : Option ServiceSetup) (row : Row) → row ≡ row_with configured service row.queue.0 row.routine → (row.service ≡ service) × (row.priority ≡ (row_with configured service 0 []).priority)
same_priority setup service None row is = (ap (λ (r : Row). r.service) is, ap (λ (r : Row). r.priority) is)
same_priority setup service (Some configured) row is = (ap (λ (r : Row). r.service) is, ap (λ (r : Row). r.priority) is)

pub row-priority : (setup : Setup) (service : List ℕ) (row : Row) (asked : Option (Bool × ℤ)) → row ≡ row_for setup service row.queue.0 row.routine → priority_of row.priority asked ≡ priority_by setup row.service asked
row-priority setup service row asked is =
    let both = same_priority setup service (service_named setup service) row is in
    ap (λ n. priority_of n asked) (both.1 ∙ ap (λ (s : List ℕ). (row_for setup s 0 []).priority) (sym both.0))

-- what is found among a list has what all have
pub found-all : {X : Type 0} (p : X → Bool) (P : X → Type 0) (xs : List X) (x : X) → find p xs ≡ Some x → All P xs → P x
found-all p P [] x is all = absurd (cc is)
found-all p P (y ∷ ys) x is all =
    elim (cases_Bool (p y)) [
      | inl here ↦ subst P (cc (sym (ap (λ b. if b then Some y else find p ys) here) ∙ is)) (All-head P y ys all)
      | inr apart ↦ found-all p P ys x (sym (ap (λ b. if b then Some y else find p ys) apart) ∙ is) (All-tail P y ys all)
    ]

neither : (a b : Bool) → (a || b) ≡ false → (a ≡ false) × (b ≡ false)
neither true b none = cc none
neither false b none = (refl, none)

is_so : (b : Bool) → not b ≡ false → b ≡ true
is_so true h = refl
is_so false h = cc h

-- a call that isn't invalid sends sound data
pub sound_ask : (setup : Setup) (ask : Ask) → is_invalid_call setup ask ≡ false → is_sound setup ask.payload ≡ true
sound_ask setup ask valid = is_so (is_sound setup ask.payload) (neither (not (is_name ask.service)) (not (is_sound setup ask.payload)) (neither (is_invalid_ask setup ask) ask.flags.no_reply valid).0).1

-- rows of one service accept the same kinds
pub same_kinds : (setup : Setup) (service : List ℕ) (configured : Option ServiceSetup) (kind : Option Kind) (row : Row) → row ≡ row_with configured service row.queue.0 row.routine → is_accepted setup row.accepts kind ≡ is_accepted setup (row_with configured service 0 []).accepts kind
same_kinds setup service None kind row is = ap (λ (r : Row). is_accepted setup r.accepts kind) is
same_kinds setup service (Some configured) kind row is = ap (λ (r : Row). is_accepted setup r.accepts kind) is

none_found : (p : Row → Bool) (rows : List Row) (row : Row) → All (λ one. p one ≡ false) rows → find p rows ≡ Some row → ⊥
none_found p rows row none is = let found = found-all (λ one. p one) (λ one. p one ≡ false) rows row is none in let passes = passes_found p rows row is in cc (found, passes)
  where
    passes_found : (p : Row → Bool) (rows : List Row) (row : Row) → find p rows ≡ Some row → p row ≡ true
    passes_found p [] row is = absurd (cc is)
    passes_found p (one ∷ rest) row is =
        elim (cases_Bool (p one)) [
          | inl y ↦ subst (λ r. p r ≡ true) (cc (sym (ap (λ b. if b then Some one else find p rest) y) ∙ is)) y
          | inr n ↦ passes_found p rest row (sym (ap (λ b. if b then Some one else find p rest) n) ∙ is)
        ]

pub first_found : (setup : Setup) (service : List ℕ) (kind : Option Kind) (rows : List Row) (row : Row) → All (λ (one : Row). one ≡ row_for setup service one.queue.0 one.routine) rows
    → find (λ (one : Row). is_accepted setup one.accepts kind) rows ≡ Some row → slice_get rows 0 ≡ Some row
first_found setup service kind [] row all is = absurd (cc is)
first_found setup service kind (one ∷ rest) row all is =
    let p : Row → Bool = λ (r : Row). is_accepted setup r.accepts kind in
    let same : (r : Row) → r ≡ row_for setup service r.queue.0 r.routine → p r ≡ is_accepted setup (row_for setup service 0 []).accepts kind = λ r its. same_kinds setup service (service_named setup service) kind r its in
    elim (cases_Bool (p one)) [
      | inl y ↦ sym (ap (λ b. if b then Some one else find p rest) y) ∙ is
      | inr n ↦
          let never = sym (same one (All-head (λ (r : Row). r ≡ row_for setup service r.queue.0 r.routine) one rest all)) ∙ n in
          absurd (none_found p (one ∷ rest) row (All-weaker (λ (r : Row). r ≡ row_for setup service r.queue.0 r.routine) (λ r. p r ≡ false) (λ r its. same r its ∙ never) (one ∷ rest) all) is)
    ]

-- a row is of its service
pub row-service : (setup : Setup) (service : List ℕ) (row : Row) → row ≡ row_for setup service row.queue.0 row.routine → row.service ≡ service
row-service setup service row is = (same_priority setup service (service_named setup service) row is).0

held_busy : (d : Doing) → is_busy d ≡ true → IsSome (held_in d)
held_busy (Busy generation request) is = refl
held_busy _ is = absurd (cc is)

-- its server, which is busy, changes a row of its queue
by_server : (c : CallerState) → IsSound c → is_serving c.work.clients c.work.id.0 (theirs c.work) ≡ true → (by : CallerId) (op queue : ℕ) → op ≡ c.op + 1 → by ≡ c.work.id → queue_by c.work.setup c.work.clients c.work.id.0 ≡ queue → ByServer c.work.setup c.work.clients by op queue (theirs c.work)
by_server c sound serves by op queue next same its =
    let w : WorkState = c.work in
    let parts = and_parts (nat_lt w.clients w.id.0) (is_busy (doing (w.id.0 - w.clients) (theirs w))) serves in
    subst (λ (id : CallerId). ByServer w.setup w.clients id op queue (theirs w)) (sym same) (record {
      server = ltb-true w.clients w.id.0 parts.0;
      call = next_call c sound (inr serves) op next;
      busy = subst (λ (b : Bool). IsSome (if b then held_in (doing (w.id.0 - w.clients) (theirs w)) else None)) (sym parts.0) (held_busy (doing (w.id.0 - w.clients) (theirs w)) parts.1);
      its = its;
    })

pub changes_next : (c : CallerState) → IsSound c → is_serving c.work.clients c.work.id.0 (theirs c.work) ≡ true → (op version : ℕ) (e : Event) → op ≡ c.op + 1 → IsChangeBy c op version e → IsNext c.work e
changes_next c sound serves op version (Advertise a) next is = record { its = ap (λ (id : CallerId). id.0) is.0; met = inr (by_server c sound serves a.by a.op a.queue.0 (is.1 ∙ next) is.0 is.2) }
changes_next c sound serves op version (Withdraw w) next is = record { its = ap (λ (id : CallerId). id.0) is.0; met = inr (by_server c sound serves w.by w.op w.queue.0 (is.1 ∙ next) is.0 is.2) }
changes_next c sound serves op version _ next is = absurd is

-- a client moves the clock on
pub ticks_next : (c : CallerState) → IsSound c → is_client c.work.clients c.work.id.0 ≡ true → (op tick : ℕ) → op ≡ c.op + 1 → IsNext c.work (tick_of c.work.id op tick)
ticks_next c sound client op tick next = record { its = refl; met = record { call = next_call c sound (inl client) op next; client = client } }

-- it stands on the board, and not at its worker's own home
pub change_aside : (c : CallerState) (op version : ℕ) (e : Event) → IsChangeBy c op version e → at_home c.work.setup c.work.clients (CallerHome c.work.id.0) e ≡ false
change_aside c op version (Advertise a) is = refl
change_aside c op version (Withdraw w) is = refl
change_aside c op version _ is = absurd is

-- none of these has an answer yet
pub unready_next : (c : CallerState) → IsSound c → MayCall c → (u : Unready) → u.by ≡ c.work.id → u.op ≡ c.op + 1 → 0 < length u.requests → list_all (λ (r : RequestId). (r.caller.0 == c.work.id.0) && has r (view_of c.work).descriptors) u.requests ≡ true → IsNext c.work (NotYet u)
unready_next c sound may u by next some each =
    let w : WorkState = c.work in
    record {
      its = ap (λ (id : CallerId). id.0) by;
      met = record {
        call = subst (λ (id : CallerId). IsNextCall w.clients id.0 u.op (theirs w)) (sym by) (next_call c sound may u.op next);
        looks = record { some = some; each = subst (λ (id : CallerId). list_all (λ (r : RequestId). (r.caller.0 == id.0) && has r (open_descriptors id.0 (theirs w))) u.requests ≡ true) (sym by) each };
      };
    }
