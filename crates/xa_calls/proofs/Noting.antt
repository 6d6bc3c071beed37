-- What one event of a call leaves, and what its caller is told.
use Rattle.std.proofs.Common.{arith, ◌≡◌, ℕ, ℤ, ◌+◌, ◌<◌, ◌==◌, ◌&&◌, ◌-◌, Bool, true, false, length, List, [], ◌∷◌, ◌++◌, Option, Some, None, Result, Ok, Err, max, append_assoc, inl, inr, refl, sym, ◌∙◌, ap, subst, eq-eqb, eqb-true}
use Rattle.xa_desk.specs.xa_types.declared.ids.RequestId.{RequestId}
use Rattle.xa_desk.proofs.Sending.{same_draft, sent_so}
use Rattle.xa_desk.specs.Steps.{SentBy}
use Rattle.xa_desk.specs.Found.{IsAimed}
use Rattle.xa_desk.specs.xa_caller.Drafts.{Cargo, accepted_by}
use Rattle.xa_desk.specs.xa_queue.declared.entry.Entry.{Entry}
use Rattle.xa_desk.specs.declared.domain.Domain.{Domain}
use Rattle.std.specs.Prelude.{nat_lt, if◌then◌else◌, OnOk, IfErr}
use Rattle.std.proofs.lemmas.List.Elements.{All-nil, All-cons}
use Rattle.std.proofs.lemmas.Bool.{cases_Bool, and_parts, and_from, lt-ltb}
use Rattle.xa_desk.specs.xa_types.declared.data.Data.{Data}
use Rattle.xa_desk.specs.xa_types.declared.data.Kind.{Kind}
use Rattle.xa_desk.specs.xa_types.declared.fault.Fault.{Fault}
use Rattle.xa_desk.specs.xa_types.declared.fault.Fault.TheVariants.{Inval, NoEnt, IType, Limit, Block, System}
use Rattle.xa_desk.specs.xa_types.declared.ids.CallerId.{CallerId}
use Rattle.xa_desk.specs.xa_types.declared.stamp.Stamp.{Stamp}
use Rattle.xa_desk.specs.xa_types.Found.{FoundRows}
use Rattle.xa_desk.specs.xa_types.declared.setup.Setup.{Setup}
use Rattle.xa_desk.specs.xa_types.declared.reply.Reply.TheVariants as replies
use Rattle.xa_desk.specs.xa_events.declared.event.Doing.{Doing}
use Rattle.xa_desk.specs.xa_events.declared.event.Event.{Event}
use Rattle.xa_desk.specs.xa_events.declared.event.Event.TheVariants.{Advertise, Withdraw, Tick, Accept, Answer, Refuse, Priority, Take, Forward, Start, StartFailed, End, Stop as StopOf}
use Rattle.xa_desk.specs.xa_events.declared.event.Evidence.{Evidence}
use Rattle.xa_desk.specs.xa_events.declared.event.Evidence.TheVariants.{Argument, Version, Cells, AllDown, Queue}
use Rattle.xa_desk.specs.xa_events.Answers.{answer_to}
use Rattle.xa_desk.specs.xa_events.Caller.{is_client, is_serving, is_call_of, op_in, last_op, version_in}
use Rattle.xa_desk.specs.xa_events.Homes.{worker_of, home_of, same_home}
use Rattle.xa_desk.specs.xa_events.Homes.Home.{CallerHome}
use Rattle.xa_desk.specs.xa_events.Said.{is_op, reply_at, reply_shown_by, refusal_reply}
use Rattle.xa_desk.specs.xa_events.Server.{doing, is_busy, moves_server}
use Rattle.xa_desk.specs.xa_stamp.declared.home.Stamped.{Stamped}
use Rattle.xa_desk.specs.xa_worker.Crew.{stands_at}
use Rattle.xa_desk.proofs.xa_worker.Calls.{call_of_worker}
use Rattle.xa_desk.specs.xa_worker.Work.{WorkState, theirs, noted}
use Rattle.xa_desk.proofs.xa_worker.Noting.{theirs-more}
use Rattle.xa_desk.specs.xa_worker.declared.work.Halt.{Halt}
use Rattle.xa_desk.specs.xa_worker.declared.work.Halt.TheVariants.{NoMemory, Worn}
use Rattle.xa_desk.specs.xa_cell.declared.tokens.Seat.{Seat}
use Rattle.xa_desk.specs.xa_caller.declared.cargo.Filling.{Filling}
use Rattle.xa_desk.specs.xa_caller.declared.outcomes.Step.{Step}
use Rattle.xa_desk.specs.xa_caller.declared.outcomes.Step.TheVariants as steps
use Rattle.xa_desk.specs.xa_caller.declared.outcomes.Stop.{Stop}
use Rattle.xa_desk.specs.xa_caller.declared.outcomes.Stop.TheVariants as stops
use Rattle.xa_desk.specs.xa_caller.declared.outcomes.Why.{Why}
use Rattle.xa_desk.specs.xa_caller.declared.outcomes.Why.TheVariants as reasons
use Rattle.xa_desk.specs.xa_caller.declared.phase.Draft.{Draft}
use Rattle.xa_desk.specs.xa_caller.declared.phase.Phase.{Phase}
use Rattle.xa_desk.specs.xa_caller.declared.phase.Phase.TheVariants.{Idle, Prepared}
use Rattle.xa_desk.specs.xa_caller.Phases.{least_by}
use Rattle.xa_desk.specs.xa_pipe.Following.{is_accept}
use Rattle.xa_desk.specs.xa_caller.Caller.{CallerState, MayCall, IsSound, room_to_send}
use Rattle.xa_desk.specs.xa_caller.Changes.{Notes, refused, Refuses, SetsPriority, StopsAs, StepsAs}
use Rattle.xa_desk.specs.xa_caller.Unsent.{ChecksAs, UnsentAs, EndsAs, refused_for, other_step}
use Rattle.xa_desk.specs.declared.desk.Desk.{Desk}
use Rattle.xa_desk.specs.declared.stopped.Stopped.{Stopped}
use Rattle.xa_desk.specs.declared.stopped.Stopped.TheVariants as ends
use Rattle.xa_calls.specs.declared.sending.Tried.{Tried}
use Rattle.xa_calls.specs.declared.sending.Tried.TheVariants as attempts
use Rattle.xa_calls.specs.declared.telling.Told.{Told}
use Rattle.xa_calls.specs.declared.telling.Told.TheVariants.{Done, Now, Fault as Failed}
use Rattle.xa_calls.specs.Going.{IsSame, tried_by, refused_by, told_by as looked_by}
use Rattle.xa_calls.specs.Telling.{IsQuiet, NotesOne, Accepts, Closes, Changes, NotesCall, TriedNotes, LookNotes, IsNoWant, StoppedIn, Ticks, RefusesWith, told_of, Says, IsForClients, IsTold, AcceptsAs}

-- ---- an event of a call

its_call : (caller n : ℕ) (e : Event) → is_op caller n e ≡ true → is_call_of caller e ≡ true
its_call caller n e is = (and_parts (is_call_of caller e) (op_in e == n) is).0

pub its_worker : (clients caller n : ℕ) (e : Event) → is_op caller n e ≡ true → worker_of clients e ≡ caller
its_worker clients caller n e is = eqb-true (worker_of clients e) caller (call_of_worker clients caller e (its_call caller n e is))

-- it is no move of a server
moves_none : (caller n server : ℕ) (e : Event) → is_op caller n e ≡ true → moves_server server e ≡ false
moves_none caller n server (Take t) is = absurd (cc is)
moves_none caller n server (Forward f) is = absurd (cc is)
moves_none caller n server (Start b) is = absurd (cc is)
moves_none caller n server (StartFailed b) is = absurd (cc is)
moves_none caller n server (End e) is = absurd (cc is)
moves_none caller n server (StopOf x) is = absurd (cc is)
moves_none caller n server e is = refl

doing_still : (caller n server : ℕ) (e : Event) (past : List Event) → is_op caller n e ≡ true → doing server (e ∷ past) ≡ doing server past
unfolding doing
doing_still caller n server e past is = rw (moves_none caller n server e is) refl

-- ---- the worker

-- the desk is of one worker with that one
abbrev pub IsOf : Desk → Desk → Type 0
IsOf old new = (new.caller.work.id ≡ old.caller.work.id) × (new.caller.work.clients ≡ old.caller.work.clients)

-- it noted that event more
pub theirs_one : (n : ℕ) (P : Event → List Event → Type 0) (old new : Desk) → IsOf old new → (one : NotesOne n P old new) → theirs new.caller.work ≡ one.noted.event ∷ theirs old.caller.work
theirs_one n P old new same one =
    let w = old.caller.work in
    same_theirs new.caller.work (noted one.noted w) same.1 (ap (λ (i : CallerId). i.0) same.0) one.own
    ∙ theirs-more w one.noted (its_worker w.clients w.id.0 n one.noted.event one.its)
  where
    same_theirs : (v w : WorkState) → v.clients ≡ w.clients → v.id.0 ≡ w.id.0 → v.own ≡ w.own → theirs v ≡ theirs w
    same_theirs v w clients id own = rw clients (rw id (rw own refl))

theirs_still : (old new : Desk) → IsSame old new → IsQuiet old new → theirs new.caller.work ≡ theirs old.caller.work
theirs_still old new same quiet = rw same.clients (rw (ap (λ (i : CallerId). i.0) same.id) (rw quiet refl))

-- it may go on to call
serving_same : (old new : CallerState) → new.work.clients ≡ old.work.clients → new.work.id ≡ old.work.id
    → ((server : ℕ) → doing server (theirs new.work) ≡ doing server (theirs old.work)) → MayCall old → MayCall new
serving_same old new clients id same (inl client) = inl (rw clients (rw id client))
serving_same old new clients id same (inr serving) = inr (
    ap (λ (k : ℕ). is_serving k new.work.id.0 (theirs new.work)) clients
    ∙ ap (λ (i : CallerId). is_serving old.work.clients i.0 (theirs new.work)) id
    ∙ ap (λ (doings : Doing). nat_lt old.work.clients old.work.id.0 && is_busy doings) (same (old.work.id.0 - old.work.clients))
    ∙ serving)

pub may_still : (old new : Desk) → IsSame old new → IsQuiet old new → MayCall old.caller → MayCall new.caller
may_still old new same quiet may = serving_same old.caller new.caller same.clients same.id (λ server. ap (doing server) (theirs_still old new same quiet)) may

pub may_on : (n : ℕ) (P : Event → List Event → Type 0) (old new : Desk) → IsSame old new → NotesOne n P old new → MayCall old.caller → MayCall new.caller
may_on n P old new same one may =
    serving_same old.caller new.caller same.clients same.id (λ server. ap (doing server) (theirs_one n P old new (same.id, same.clients) one) ∙ doing_still old.caller.work.id.0 n server one.noted.event (theirs old.caller.work) one.its) may

-- ---- what is told

pub newest_told : (caller n : ℕ) (e : Event) (past : List Event) → is_op caller n e ≡ true → reply_at (e ∷ past) caller n ≡ reply_shown_by e past
unfolding reply_at
newest_told caller n e past is = rw is refl

closes_no_accept : (e : Event) (past : List Event) → Closes e past → is_accept e ≡ false
closes_no_accept (Accept a) past closes = absurd closes
closes_no_accept e past closes = refl

descriptor_none : (last op number : ℕ) → last ≡ op → (if last == op then 0 else number) ≡ 0
descriptor_none last op number is = rw (eq-eqb last op is) refl

says_by : (caller n : ℕ) (e : Event) (past all : List Event) → is_op caller n e ≡ true → Closes e past → all ≡ e ∷ past → Says (told_of e) n caller all
says_by caller n (Refuse r) past all is closes whole = ap (λ es. reply_at es caller n) whole ∙ newest_told caller n (Refuse r) past is ∙ closes
says_by caller n (Priority p) past all is closes whole = ap (λ es. reply_at es caller n) whole ∙ newest_told caller n (Priority p) past is
says_by caller n (Answer a) past all is closes whole =
    (a, past, whole, ap (λ es. reply_at es caller n) whole ∙ newest_told caller n (Answer a) past is ∙ ap (λ (d : ℕ). replies.Answered d a.answer) (descriptor_none (last_op a.by.0 past) a.op a.request.number closes.0), closes.1)
says_by caller n e past all is closes whole = absurd closes

closes_here : (setup : Setup) (clients caller n : ℕ) (x : Stamped) (past : List Event) → is_op caller n x.event ≡ true → Closes x.event past → stands_at setup clients (CallerHome caller) x ≡ true
closes_here setup clients caller n x past is closes = at_its (its_worker clients caller n x.event is) closes
  where
    at_its : worker_of clients x.event ≡ caller → Closes x.event past → stands_at setup clients (CallerHome caller) x ≡ true
    at_its by closes = ap (λ home. same_home home (CallerHome caller)) (home_by x.event closes ∙ ap CallerHome by) ∙ eq-eqb caller caller refl
      where
        home_by : (e : Event) → Closes e past → home_of setup clients e ≡ CallerHome (worker_of clients e)
        home_by (Refuse r) closes = refl
        home_by (Priority p) closes = refl
        home_by (Answer a) closes = refl
        home_by e closes = absurd closes

-- what the newest event at the worker's own home tells
abbrev pub TellsNewest : Told → Desk → Type 0
TellsNewest told desk = (older : List Stamped) (x : Stamped) → desk.caller.work.own ≡ older ++ x ∷ [] → stands_at desk.caller.work.setup desk.caller.work.clients (CallerHome desk.caller.work.id.0) x ≡ true → told ≡ told_of x.event

pub its_still : (n : ℕ) (P : Event → List Event → Type 0) (old new : Desk) → IsOf old new → (one : NotesOne n P old new) → is_op new.caller.work.id.0 n one.noted.event ≡ true
its_still n P old new same one = subst (λ (k : ℕ). is_op k n one.noted.event ≡ true) (sym (ap (λ (i : CallerId). i.0) same.0)) one.its

tells_one : (told : Told) (n : ℕ) (old new : Desk) → IsOf old new → TellsNewest told new → (one : NotesOne n Closes old new) → told ≡ told_of one.noted.event
tells_one told n old new same tells one =
    tells old.caller.work.own one.noted one.own (closes_here new.caller.work.setup new.caller.work.clients new.caller.work.id.0 n one.noted (theirs old.caller.work) (its_still n Closes old new same one) one.shows)

says_told : (told : Told) (n : ℕ) (old new : Desk) → IsOf old new → (one : NotesOne n Closes old new) → told ≡ told_of one.noted.event → Says told n new.caller.work.id.0 (theirs new.caller.work)
says_told told n old new same one tells =
    subst (λ (t : Told). Says t n new.caller.work.id.0 (theirs new.caller.work)) (sym tells)
    (says_by new.caller.work.id.0 n one.noted.event (theirs old.caller.work) (theirs new.caller.work) (its_still n Closes old new same one) one.shows (theirs_one n Closes old new same one))

abbrev pub IsServer : Desk → Type 0
IsServer desk = is_client desk.caller.work.clients desk.caller.work.id.0 ≡ false

-- no such event names a tick
-- a request that was accepted with a number was accepted
pub accepted_is : (n : ℕ) (e : Event) (past : List Event) → AcceptsAs n e past → is_accept e ≡ true
accepted_is n (Accept a) past is = refl
accepted_is n e past is = absurd is

pub accepted_one : (op n : ℕ) (old new : Desk) → NotesOne op (AcceptsAs n) old new → NotesOne op Accepts old new
accepted_one op n old new one = record { noted = one.noted; own = one.own; its = one.its; shows = accepted_is n one.noted.event (theirs old.caller.work) one.shows }

-- one event is all of the call
pub told_one : (told : Told) (n : ℕ) (P : Event → List Event → Type 0) (old new : Desk) → IsSame old new → (one : NotesOne n P old new) → (IsServer old → IsForClients told → ⊥) → Says told n new.caller.work.id.0 (theirs new.caller.work) → IsTold told n old new
told_one told n P old new same one clock says = record {
  more = one.noted.event ∷ [];
  noted = theirs_one n P old new (same.id, same.clients) one;
  added = one.noted ∷ [];
  own = one.own;
  events = refl;
  call = one.its;
  own_kind = clock;
  says = says;
}

pub told_no_tick : (e : Event) → IsForClients (told_of e) → ⊥
told_no_tick (Refuse r) is = is
told_no_tick (Answer a) is = is
told_no_tick e is = is

no_tick : (told : Told) (e : Event) → told ≡ told_of e → IsForClients told → ⊥
no_tick told e tells is = told_no_tick e (subst IsForClients tells is)

pub told_closed : (told : Told) (n : ℕ) (old new : Desk) → IsSame old new → (one : NotesOne n Closes old new) → told ≡ told_of one.noted.event → IsTold told n old new
told_closed told n old new same one tells =
    told_one told n Closes old new same one (λ server. no_tick told one.noted.event tells) (says_told told n old new (same.id, same.clients) one tells)

changes_done : (e : Event) (past : List Event) → Changes e past → reply_shown_by e past ≡ replies.Done
changes_done (Advertise a) past changes = refl
changes_done (Withdraw w) past changes = refl
changes_done e past changes = absurd changes

-- its call changed the board
pub told_changed : (n : ℕ) (old new : Desk) → IsSame old new → NotesOne n Changes old new → IsTold Done n old new
told_changed n old new same one =
    let on : IsOf old new = (same.id, same.clients) in
    let past = theirs old.caller.work in
    let caller : ℕ = new.caller.work.id.0 in
    let done = changes_done one.noted.event past one.shows in
    told_one Done n Changes old new same one (λ server is. is) (ap (λ es. reply_at es caller n) (theirs_one n Changes old new on one) ∙ newest_told caller n one.noted.event past (its_still n Changes old new on one) ∙ done)

pub told_call : (told : Told) (n : ℕ) (old new : Desk) → IsSame old new → TellsNewest told new → NotesCall n old new → IsTold told n old new
told_call told n old new same tells (inl one) = told_closed told n old new same one (tells_one told n old new (same.id, same.clients) tells one)
told_call told n old new same tells (inr (mid, is, first, one)) =
    let on : IsOf mid new = (same.id ∙ sym is.id, same.clients ∙ sym is.clients) in
    record {
      more = one.noted.event ∷ first.noted.event ∷ [];
      noted = theirs_one n Closes mid new on one ∙ ap (λ es. one.noted.event ∷ es) (theirs_one n Accepts old mid (is.id, is.clients) first);
      added = first.noted ∷ one.noted ∷ [];
      own = one.own ∙ ap (λ (xs : List Stamped). xs ++ one.noted ∷ []) first.own ∙ append_assoc old.caller.work.own (first.noted ∷ []) (one.noted ∷ []);
      events = refl;
      call = (subst (λ (i : CallerId). is_op i.0 n one.noted.event ≡ true) is.id one.its, closes_no_accept one.noted.event (theirs mid.caller.work) one.shows, first.its, first.shows);
      own_kind = λ server. no_tick told one.noted.event (tells_one told n mid new on tells one);
      says = says_told told n mid new on one (tells_one told n mid new on tells one);
    }

-- a client moved the clock on
pub told_ticked : (n tick : ℕ) (old new : Desk) → IsSame old new → is_client old.caller.work.clients old.caller.work.id.0 ≡ true → NotesOne n (Ticks tick) old new → IsTold (Now tick) n old new
told_ticked n tick old new same client one =
    let on : IsOf old new = (same.id, same.clients) in
    let past = theirs old.caller.work in
    let caller : ℕ = new.caller.work.id.0 in
    told_one (Now tick) n (Ticks tick) old new same one (λ server. absurd (cc (sym server ∙ client)))
    (ap (λ es. reply_at es caller n) (theirs_one n (Ticks tick) old new on one) ∙ newest_told caller n one.noted.event past (its_still n (Ticks tick) old new on one) ∙ shown one.noted.event past one.shows)
  where
    shown : (e : Event) (past : List Event) → Ticks tick e past → reply_shown_by e past ≡ replies.Now tick
    shown (Tick t) past is = ap (λ (k : ℕ). replies.Now k) is
    shown e past is = absurd is

-- or its tick was refused
pub told_stopped : (n : ℕ) (fault : Fault) (old new : Desk) → IsSame old new → (one : NotesOne n (RefusesWith fault) old new) → IsTold (Failed fault) n old new
told_stopped n fault old new same one =
    let on : IsOf old new = (same.id, same.clients) in
    let past = theirs old.caller.work in
    let caller : ℕ = new.caller.work.id.0 in
    told_one (Failed fault) n (RefusesWith fault) old new same one (λ server is. is)
    (ap (λ es. reply_at es caller n) (theirs_one n (RefusesWith fault) old new on one) ∙ newest_told caller n one.noted.event past (its_still n (RefusesWith fault) old new on one) ∙ shown one.noted.event past one.shows)
  where
    shown : (e : Event) (past : List Event) → RefusesWith fault e past → reply_shown_by e past ≡ replies.Fault fault
    shown (Refuse r) past is = is
    shown e past is = absurd is

-- ---- by the steps of a caller

pub its_op : (by caller op : ℕ) → by ≡ caller → 0 < op → (((by == caller) && nat_lt 0 op) && (op == op)) ≡ true
its_op by caller op same above = and_from ((by == caller) && nat_lt 0 op) (op == op) (and_from (by == caller) (nat_lt 0 op) (eq-eqb by caller same) (lt-ltb 0 op above)) (eq-eqb op op refl)

pub notes_one : (n : ℕ) (P : Event → List Event → Type 0) (stamp : Stamp) (event : Event) (left : CallerState) (old new : Desk) → Notes stamp event left new.caller → left.work.own ≡ old.caller.work.own → is_op old.caller.work.id.0 n event ≡ true → P event (theirs old.caller.work)
    → NotesOne n P old new
notes_one n P stamp event left old new notes own its shows =
    let x : Stamped = record { stamp = stamp; event = event } in
    record { noted = x; own = ap (λ (c : CallerState). c.work.own) notes.made ∙ ap (λ (xs : List Stamped). xs ++ x ∷ []) own; its = its; shows = shows }

refuses_one : (op : ℕ) (fault : Fault) (evidence : Evidence) (stamp : Stamp) (left : CallerState) (old new : Desk) → 0 < op → left.work.own ≡ old.caller.work.own → left.work.id ≡ old.caller.work.id → refusal_reply fault evidence ≡ replies.Fault fault
    → Refuses op fault evidence stamp new.caller left → NotesOne op Closes old new
refuses_one op fault evidence stamp left old new above own id reply refuses =
    notes_one op Closes stamp (refused op fault evidence left) (record left { op = op; least = least_by (version_in evidence) left.least }) old new refuses own (its_op left.work.id.0 old.caller.work.id.0 op (ap (λ (i : CallerId). i.0) id) above) reply

pub checks_one : (op : ℕ) (stamp : Stamp) (old new : Desk) → 0 < op → ChecksAs op (stops.Refused stamp) new.caller old.caller → NotesOne op Closes old new
checks_one op stamp old new above checks = refuses_one op Inval Argument stamp old.caller old new above refl refl refl checks

pub stops_one : (setup : Setup) (op : ℕ) (payload : Data) (found : FoundRows) (stamp : Stamp) (old new : Desk) → 0 < op → StopsAs setup op payload found (stops.Refused stamp) new.caller old.caller → NotesOne op Closes old new
stops_one setup op payload found stamp old new above (inl (none, inl (empty, refuses))) = refuses_one op NoEnt (Version found.version) stamp old.caller old new above refl refl refl refuses
stops_one setup op payload found stamp old new above (inl (none, inr (some, refuses))) = refuses_one op IType (Version found.version) stamp old.caller old new above refl refl refl refuses
stops_one setup op payload found stamp old new above (inr (some, limits)) =
    refuses_one op Limit (Cells old.caller.seat.count) stamp (record old.caller { work = record old.caller.work { room = max old.caller.work.room (length old.caller.out + room_to_send) }; seat = limits.seat }) old new above refl refl refl limits.refuses

-- what stops a call leaves
pub stops_notes : (setup : Setup) (op : ℕ) (payload : Data) (found : FoundRows) (stop : Stop) (old new : Desk) → 0 < op → old.caller.phase ≡ Idle → StopsAs setup op payload found stop new.caller old.caller → TriedNotes op (refused_by stop) old new
stops_notes setup op payload found (stops.Refused stamp) old new above idle is = stops_one setup op payload found stamp old new above is
stops_notes setup op payload found (stops.Halt halt) old new above idle (halts, inl kept) = (ap (λ (c : CallerState). c.work.own) kept, ap (λ (c : CallerState). c.phase) kept ∙ idle)
stops_notes setup op payload found (stops.Halt halt) old new above idle (halts, inr over) = (ap (λ (c : CallerState). c.work.own) over.made, ap (λ (c : CallerState). c.phase) over.made ∙ idle)

-- so it is with a request that no queue took
unsent_at : (op : ℕ) (why : Why) (no_block : Bool) (step : Step) (draft : Draft) (seat : Seat Filling) (old new : Desk) → 0 < op → draft.op ≡ op
    → EndsAs draft.op (refused_for draft why no_block) (other_step why) step new.caller (record old.caller { seat = seat; phase = Idle }) → TriedNotes op (tried_by step) old new
unsent_at op reasons.AllShut no_block (steps.Told stamp) draft seat old new above turn ends =
    refuses_one op System (AllDown draft.version) stamp (record old.caller { seat = seat; phase = Idle }) old new above refl refl refl (subst (λ (n : ℕ). Refuses n System (AllDown draft.version) stamp new.caller (record old.caller { seat = seat; phase = Idle })) turn ends)
unsent_at op reasons.AllShut no_block (steps.Halt halt) draft seat old new above turn ends = (ap (λ (c : CallerState). c.work.own) ends.1, ap (λ (c : CallerState). c.phase) ends.1)
unsent_at op reasons.AllShut no_block steps.Wait draft seat old new above turn ends = absurd ends
unsent_at op reasons.AllShut no_block steps.Halted draft seat old new above turn ends = absurd ends
unsent_at op (reasons.Full queue n) true (steps.Told stamp) draft seat old new above turn ends =
    refuses_one op Block (Queue queue n) stamp (record old.caller { seat = seat; phase = Idle }) old new above refl refl refl (subst (λ (n' : ℕ). Refuses n' Block (Queue queue n) stamp new.caller (record old.caller { seat = seat; phase = Idle })) turn ends)
unsent_at op (reasons.Full queue n) true (steps.Halt halt) draft seat old new above turn ends = (ap (λ (c : CallerState). c.work.own) ends.1, ap (λ (c : CallerState). c.phase) ends.1)
unsent_at op (reasons.Full queue n) true steps.Wait draft seat old new above turn ends = absurd ends
unsent_at op (reasons.Full queue n) true steps.Halted draft seat old new above turn ends = absurd ends
unsent_at op (reasons.Full queue n) false step draft seat old new above turn ends =
    subst (λ (s : Step). TriedNotes op (tried_by s) old new) (sym ends.0) (ap (λ (c : CallerState). c.work.own) ends.1)
unsent_at op (reasons.Halt halt) no_block step draft seat old new above turn ends =
    subst (λ (s : Step). TriedNotes op (tried_by s) old new) (sym ends.0) (ap (λ (c : CallerState). c.work.own) ends.1, ap (λ (c : CallerState). c.phase) ends.1)

pub unsent_notes : (op cell : ℕ) (why : Why) (no_block : Bool) (step : Step) (old new : Desk) (draft : Draft) → 0 < op → old.caller.phase ≡ Prepared draft → draft.op ≡ op → UnsentAs cell why no_block step new.caller old.caller → TriedNotes op (tried_by step) old new
unsent_notes op cell why no_block step old new draft above prepared turn unsent =
    unsent_at op why no_block step unsent.draft unsent.seat old new above (ap (drafted_op op) (sym unsent.was ∙ prepared) ∙ turn) unsent.ends
  where
    drafted_op : ℕ → Phase → ℕ
    drafted_op default (Prepared draft) = draft.op
    drafted_op default phase = default

-- the request is out
pub sends_one : (d : Domain) (found : FoundRows) (payload : Data) (entry : Entry Cargo) (event : Event) (apart : Bool) (op : ℕ) (stamp : Stamp) (old new : Desk) → 0 < op → (aimed : IsAimed d found payload entry event old) → aimed.draft.op ≡ op → SentBy apart stamp new.caller old.caller
    → NotesOne op (AcceptsAs new.caller.sent) old new
sends_one d found payload entry event apart op stamp old new above aimed turn sent =
    let sends = sent_so apart stamp new.caller old.caller sent in
    let same : sends.draft.event.value ≡ Accept (accepted_by aimed.draft.op aimed.draft.asked.request found.version aimed.row old.caller.priority payload) = ap (λ (draft : Draft). draft.event.value) (same_draft sends.draft aimed.draft old.caller.phase sends.was aimed.prepared) ∙ aimed.drafted ∙ aimed.event_is in
    record {
      noted = record { stamp = stamp; event = sends.draft.event.value };
      own = ap (λ (w : WorkState). w.own) sends.work;
      its = subst (λ (e : Event). is_op old.caller.work.id.0 op e ≡ true) (sym same) (subst (λ (k : ℕ). is_op old.caller.work.id.0 k (Accept (accepted_by aimed.draft.op aimed.draft.asked.request found.version aimed.row old.caller.priority payload)) ≡ true) turn
          (its_op aimed.draft.asked.request.caller.0 old.caller.work.id.0 aimed.draft.op (ap (λ (r : RequestId). r.caller.0) aimed.mine) (omega (arith, above, turn))));
      shows = subst (λ (e : Event). AcceptsAs new.caller.sent e (theirs old.caller.work)) (sym same) (ap (λ (r : RequestId). r.number) aimed.mine ∙ sym sends.number, refl);
    }

-- a look for the answer
pub looks_notes : (expect : Option Kind) (step : Step) (old new : Desk) → 0 < old.caller.op → IsSound old.caller → StepsAs expect step new.caller old.caller → LookNotes old.caller.op (looked_by step) old new
looks_notes expect (steps.Told stamp) old new above sound answers =
    notes_one old.caller.op Closes stamp (Answer (record { by = old.caller.work.id; op = old.caller.op; request = answers.sent.request; answer = answer_to expect answers.reply })) _ old new answers.noted refl (its_op old.caller.work.id.0 old.caller.work.id.0 old.caller.op refl above) (sound.reads.called, answers.sound)
looks_notes expect steps.Wait old new above sound waits = ap (λ (c : CallerState). c.work.own) waits.3
looks_notes expect (steps.Halt halt) old new above sound loses = (ap (λ (c : CallerState). c.work.own) loses.made, subst (λ (h : Halt). IsNoWant (ends.Here h)) (sym loses.last) tt)
looks_notes expect steps.Halted old new above sound abandons = (ap (λ (c : CallerState). c.work.own) abandons.made, tt)

-- it set a priority
pub sets_one : (op : ℕ) (absolute : Bool) (amount : ℤ) (stamp : Stamp) (old new : Desk) → 0 < op → SetsPriority op absolute amount stamp new.caller old.caller → NotesOne op Closes old new
sets_one op absolute amount stamp old new above sets =
    notes_one op Closes stamp (Priority (record { by = old.caller.work.id; op = op; absolute = absolute; amount = amount })) (record old.caller { op = op; priority = Some (absolute, amount) }) old new sets refl (its_op old.caller.work.id.0 old.caller.work.id.0 op refl above) tt

-- ---- one step behind another

-- nothing was noted before
pub quiet_one : (n : ℕ) (P : Event → List Event → Type 0) (old mid new : Desk) → IsSame old mid → IsQuiet old mid → NotesOne n P mid new → NotesOne n P old new
quiet_one n P old mid new same quiet one = record {
  noted = one.noted;
  own = one.own ∙ ap (λ (xs : List Stamped). xs ++ one.noted ∷ []) quiet;
  its = subst (λ (i : CallerId). is_op i.0 n one.noted.event ≡ true) same.id one.its;
  shows = subst (P one.noted.event) (theirs_still old mid same quiet) one.shows;
}

pub quiet_tried : (op : ℕ) (result : Result Tried Stopped) (old mid new : Desk) → IsSame old mid → IsQuiet old mid → TriedNotes op result mid new → TriedNotes op result old new
quiet_tried op (Ok attempts.Sent) old mid new same quiet notes = quiet_one op (AcceptsAs new.caller.sent) old mid new same quiet notes
quiet_tried op (Ok attempts.Refused) old mid new same quiet notes = quiet_one op Closes old mid new same quiet notes
quiet_tried op (Ok attempts.Full) old mid new same quiet notes = notes ∙ quiet
quiet_tried op (Err stopped) old mid new same quiet notes = (notes.0 ∙ quiet, notes.1)

pub may_tried : (op : ℕ) (result : Result Tried Stopped) (old new : Desk) → IsSame old new → TriedNotes op result old new → MayCall old.caller → MayCall new.caller
may_tried op (Ok attempts.Sent) old new same notes = may_on op (AcceptsAs new.caller.sent) old new same notes
may_tried op (Ok attempts.Refused) old new same notes = may_on op Closes old new same notes
may_tried op (Ok attempts.Full) old new same notes = may_still old new same notes
may_tried op (Err stopped) old new same notes = may_still old new same notes.0

pub may_look : (op : ℕ) (result : Result Bool Stopped) (old new : Desk) → IsSame old new → LookNotes op result old new → MayCall old.caller → MayCall new.caller
may_look op (Ok true) old new same notes = may_on op Closes old new same notes
may_look op (Ok false) old new same notes = may_still old new same notes
may_look op (Err stopped) old new same notes = may_still old new same notes.0

-- ---- a whole call

pub checks_notes : (op : ℕ) (stop : Stop) (old new : Desk) → 0 < op → old.caller.phase ≡ Idle → ChecksAs op stop new.caller old.caller → TriedNotes op (refused_by stop) old new
checks_notes op (stops.Refused stamp) old new above idle checks = checks_one op stamp old new above checks
checks_notes op (stops.Halt halt) old new above idle checks = (ap (λ (c : CallerState). c.work.own) checks.1, ap (λ (c : CallerState). c.phase) checks.1 ∙ idle)

pub refused_call : (op : ℕ) (stop : Stop) (tried : Tried) (old new : Desk) → refused_by stop ≡ Ok tried → TriedNotes op (refused_by stop) old new → NotesCall op old new
refused_call op (stops.Refused stamp) tried old new is notes = inl notes
refused_call op (stops.Halt halt) tried old new is notes = absurd (cc is)

pub quiet_stopped : (op : ℕ) (stopped : Stopped) (old new : Desk) → IsQuiet old new × (new.caller.phase ≡ Idle) → StoppedIn op stopped old new
quiet_stopped op (ends.Here NoMemory) old new quiet = quiet
quiet_stopped op (ends.Here (Worn stamp)) old new quiet = inl quiet.0
quiet_stopped op ends.Elsewhere old new quiet = inl quiet.0

accept_stopped : (op : ℕ) (stopped : Stopped) (old mid new : Desk) → NotesOne op Accepts old mid → IsQuiet mid new × IsNoWant stopped → StoppedIn op stopped old new
accept_stopped op stopped old mid new first quiet = by_why stopped quiet.1
  where
    one : NotesOne op Accepts old new
    one = record { noted = first.noted; own = quiet.0 ∙ first.own; its = first.its; shows = first.shows }

    by_why : (why : Stopped) → IsNoWant why → StoppedIn op why old new
    by_why (ends.Here NoMemory) none = absurd none
    by_why (ends.Here (Worn stamp)) none = inr one
    by_why ends.Elsewhere none = inr one

pub awaited_call : {U : Type 0} (op : ℕ) (result : Result U Stopped) (old mid new : Desk) → IsSame old mid → NotesOne op Accepts old mid → OnOk result (NotesOne op Closes mid new) → OnOk result (NotesCall op old new)
awaited_call op (Ok done) old mid new same first one = inr (mid, same, first, one)
awaited_call op (Err stopped) old mid new same first one = tt

pub awaited_stopped : {U : Type 0} (op : ℕ) (result : Result U Stopped) (old mid new : Desk) → NotesOne op Accepts old mid → IfErr result (λ stopped. IsQuiet mid new × IsNoWant stopped) → IfErr result (λ stopped. StoppedIn op stopped old new)
awaited_stopped op (Ok done) old mid new first quiet = tt
awaited_stopped op (Err stopped) old mid new first quiet = accept_stopped op stopped old mid new first quiet
