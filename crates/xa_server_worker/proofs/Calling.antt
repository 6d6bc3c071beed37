-- A service makes a call, and its server's worker goes on behind it.
use Rattle.std.proofs.Common.{◌≡◌, ◌<◌, ◌≤◌, ◌⊎◌, ℕ, zero, suc, ◌+◌, ◌-◌, ◌%◌, ◌^◌, ◌==◌, ◌||◌, Bool, true, false, cond, List, [], ◌∷◌, ◌++◌, map, length, Option, Some, None, inl, inr, refl, sym, ◌∙◌, ap, subst, append-nil, append_assoc, add-one, arith, eq-eqb, eqb-true, if◌then◌else◌}
use Rattle.std.specs.Prelude.{⊤, Result, Ok, Err, IfOk, IfErr, reverse, nat_lt, IfSome, IsSomeAnd, slice_get, slice_index_or}
use Rattle.std.specs.List.{All, filter, list_any, flat_map}
use Rattle.std.proofs.lemmas.Bool.{cases_Bool, false≢true, and_from, and_parts, lt-ltb, ltb-true, ltb-false}
use Rattle.std.proofs.lemmas.List.{length-append}
use Rattle.std.proofs.Math.Seq.{get_or-append_seam}
use Rattle.std.proofs.lemmas.List.Elements.{All-nil, All-cons, All-head, All-tail, All-append, All-filter, All-weaker, filter-append}
use Rattle.xa_desk.specs.xa_types.declared.call.Op.{Op}
use Rattle.xa_desk.specs.xa_types.declared.call.Op.TheVariants.{Call, Priority, Advertise, Unadvertise, Tick}
use Rattle.xa_desk.specs.xa_types.declared.ids.Generation.{Generation}
use Rattle.xa_desk.specs.xa_types.declared.ids.RequestId.{RequestId}
use Rattle.xa_desk.specs.xa_types.declared.ids.ServerId.{ServerId}
use Rattle.xa_desk.specs.xa_types.declared.fault.Fault.{Fault}
use Rattle.xa_desk.specs.xa_types.declared.reply.Reply.{Reply}
use Rattle.xa_desk.specs.xa_types.declared.reply.Reply.TheVariants as replies
use Rattle.xa_desk.specs.xa_types.declared.stamp.Stamp.{Stamp}
use Rattle.xa_desk.specs.xa_types.Setup.{numbered}
use Rattle.xa_desk.specs.xa_events.declared.event.Event.{Event}
use Rattle.xa_desk.specs.xa_events.declared.event.Event.TheVariants.{Take, Forward, Gone, Start, StartFailed, End, Stop, Answer}
use Rattle.xa_desk.specs.xa_events.declared.event.Doing.{Doing}
use Rattle.xa_desk.specs.xa_events.declared.event.Doing.TheVariants.{Busy}
use Rattle.xa_desk.specs.xa_events.declared.event.Replied.{Replied}
use Rattle.xa_desk.specs.xa_events.declared.event.Taken.{Taken}
use Rattle.xa_desk.specs.xa_events.Words.{AtEach, count}
use Rattle.xa_desk.specs.xa_events.State.{caller_of}
use Rattle.xa_desk.specs.xa_events.Homes.{of_worker, is_take_by}
use Rattle.xa_desk.specs.xa_events.Homes.Home.{QueueHome, CallerHome}
use Rattle.xa_desk.specs.xa_events.Local.{worker_events}
use Rattle.xa_desk.specs.xa_events.Caller.{is_call_of, is_client, op_in, last_op, open_descriptors}
use Rattle.xa_desk.specs.xa_events.Said.{is_op, reply_at}
use Rattle.xa_desk.specs.xa_events.Server.{doing, is_busy, start_in, starts, is_gone_of, is_gone}
use Rattle.xa_desk.specs.xa_events.Views.{ServerView, server_view}
use Rattle.xa_desk.specs.xa_frame.declared.frame.Frame.{Frame}
use Rattle.xa_desk.specs.xa_frame.Spelling.{IsAnswer}
use Rattle.xa_desk.specs.xa_stamp.declared.home.Stamped.{Stamped}
use Rattle.xa_desk.specs.xa_worker.Crew.{stands_at}
use Rattle.xa_desk.specs.xa_worker.Seen.{past_in}
use Rattle.xa_desk.specs.xa_worker.Work.{WorkState, theirs}
use Rattle.xa_desk.specs.xa_worker.declared.work.Halt.TheVariants.{NoMemory, Worn}
use Rattle.xa_desk.proofs.xa_worker.Lists.{count_part, past_in-append, filter-yes}
use Rattle.xa_desk.proofs.xa_worker.Calls.{call_of_worker}
use Rattle.xa_desk.specs.xa_queue.Queue.{gives_up, has_server}
use Rattle.xa_desk.specs.xa_queue.declared.entry.Entry.{Entry}
use Rattle.xa_desk.specs.xa_lock.Makers.{noted_in}
use Rattle.xa_desk.specs.xa_lock.Known.{known as page_of}
use Rattle.xa_desk.specs.xa_lock.declared.pass.LockPass.{LockPass}
use Rattle.xa_desk.specs.xa_held.declared.kept_queue.QueueNote.{QueueNote}
use Rattle.xa_desk.specs.xa_held.declared.kept_queue.QueueNote.TheVariants.{Opened, By}
use Rattle.xa_desk.specs.xa_held.Notes.{made_of, IsOther}
use Rattle.xa_desk.specs.xa_restart.Rule.{IsRuleOf}
use Rattle.xa_desk.specs.xa_caller.declared.cargo.Filling.{Filling}
use Rattle.xa_desk.specs.xa_caller.Caller.{IsSound, MayCall}
use Rattle.xa_desk.specs.xa_caller.Drafts.{Cargo}
use Rattle.xa_desk.specs.xa_caller.Phases.{request_of, just_in, Describes}
use Rattle.xa_desk.proofs.xa_caller.Reading.{none_just}
use Rattle.xa_desk.specs.xa_caller.declared.phase.Phase.TheVariants.{Idle}
use Rattle.xa_desk.specs.xa_server.Doings.{room_for}
use Rattle.xa_desk.specs.xa_server.Slot.{Reads}
use Rattle.xa_desk.specs.xa_server.Served.{StarterShows}
use Rattle.xa_desk.specs.xa_server.declared.slot.ServerSlot.{ServerSlot}
use Rattle.xa_desk.specs.xa_pipe.declared.turn.Turn.{Turn}
use Rattle.xa_desk.specs.xa_pipe.declared.turn.Turn.TheVariants.{Serving, Finishing, Performing}
use Rattle.xa_desk.specs.xa_pipe.declared.hearing.Act.{Act}
use Rattle.xa_desk.specs.xa_pipe.declared.hearing.Act.TheVariants.{Calls, Ends}
use Rattle.xa_desk.specs.xa_pipe.declared.hearing.Finish.{Finish}
use Rattle.xa_desk.specs.xa_pipe.Frames.{is_busy_in, invocation, act_frame, op_frame, reply_frame, may_call}
use Rattle.xa_desk.specs.xa_pipe.Life.{LinkShows, calls_in, finishes_in, stops_life, is_acting}
use Rattle.xa_desk.specs.xa_pipe.Standing.{LifeState, IsSound as IsLifeSound, Ending, tag_of, invokes_of, calls_of, cut_short}
use Rattle.xa_desk.specs.xa_pipe.Changes.{Heard, Fell, Invoked, Unsent, Starves, spent, with_asked, turn_after}
use Rattle.xa_desk.specs.xa_pipe.Following.{is_of, AreCall, Follows, Settled}
use Rattle.xa_desk.proofs.xa_pipe.Dues.{call_of_none, call_keeps}
use Rattle.xa_desk.proofs.xa_pipe.Followed.{no_invoke, follows_op, follows_spent, follows_replied, settles_starved, settles_unsaid}
use Rattle.xa_desk.proofs.xa_pipe.Saying.{finishes_op}
use Rattle.xa_desk.proofs.xa_pipe.Asking.{op_may, op_asked, calls_asked, calls_replied, all_made}
use Rattle.xa_desk.proofs.xa_pipe.Courses.{cut_sound}
use Rattle.xa_desk.specs.declared.domain.Domain.{Domain}
use Rattle.xa_desk.specs.declared.desk.Desk.{Desk}
use Rattle.xa_desk.specs.declared.stopped.Stopped.{Stopped}
use Rattle.xa_desk.specs.declared.stopped.Stopped.TheVariants.{Here, Elsewhere}
use Rattle.xa_desk.specs.Desks.{IsDesk, IsQueuePass, IsThere, FitsCalls, page_in, queue_page}
use Rattle.xa_desk.specs.Serving.{IsServing, IsSentFor, IsTaken}
use Rattle.xa_desk.proofs.OwnQueue.{no_client}
use Rattle.xa_desk.proofs.Staying.{taken_stays}
use Rattle.xa_calls.specs.declared.telling.Told.{Told}
use Rattle.xa_calls.specs.declared.telling.Told.TheVariants as tells
use Rattle.xa_calls.specs.Going.{IsReady, IsStopped, IsCall, PerformsBy}
use Rattle.xa_calls.specs.Telling.{IsQuiet, NotesOne, Accepts, StoppedIn, Says, IsForClients, IsTold}
use Rattle.xa_server_worker.specs.declared.working.ServerWorker.{ServerWorker}
use Rattle.xa_server_worker.specs.Attending.{is_want, IsNewest, IsReplyTo, called_out}
use Rattle.xa_server_worker.specs.Behind.{IsCalm, ends_by}
use Rattle.xa_server_worker.specs.Lives.{generation_in, lives_in, fails_start, failed_starts, calls_of_all, IsHanded, HandsOn, IsCut}
use Rattle.xa_server_worker.specs.Reasons.{ShowsReason}
use Rattle.xa_server_worker.specs.Steps.{Steps, Serves}
use Rattle.xa_server_worker.specs.Standing.{SettlesBy, HasCalled, IsAtWork, IsIn, IsBusyWith, IsServed, IsCalling, HasFinished, MayDie, HasEnded, Goes}
use Rattle.xa_server_worker.proofs.Behind.{calm_called, told_last}
use Rattle.xa_server_worker.proofs.Keeping.{OfLife, Adds, call_adds, call_no_start, call_no_failure, each_call, handed_led, handed_more, going_on, none_counted, skip_count, skip_map, stops_none}
use Rattle.xa_server_worker.proofs.Lasting.{at_desk, number_of, starts_count, started_on, work_adds, work_on, lives_hand, in_hands, in_alive, halts, hands_beside}
use Rattle.xa_server_worker.proofs.Deaths.{death_in}
use Rattle.xa_server_worker.proofs.Exchanges.{Becomes, link_becomes, at_still, last_still, handed_still, acting_turn, falls_busy, own_of}
use Rattle.xa_server_worker.proofs.Stepping.{still_steps}

-- ---- what a call of the life answers

pub ok_weaker : {A E : Type 0} (P Q : A → Type 0) → ((a : A) → P a → Q a) → (r : Result A E) → IfOk r P → IfOk r Q
ok_weaker P Q more (Ok a) is = more a is
ok_weaker P Q more (Err e) is = tt

pub err_weaker : {A E : Type 0} (P Q : E → Type 0) → ((e : E) → P e → Q e) → (r : Result A E) → IfErr r P → IfErr r Q
err_weaker P Q more (Ok a) is = tt
err_weaker P Q more (Err e) is = more e is

-- the answer that stands last at the worker's own home is the newest that it noted
pub newest_answer : (desk : Desk) (a b : Replied) (entries : List Stamped) (newest : Stamped) → IsNewest a desk → entries ≡ filter (stands_at desk.caller.work.setup desk.caller.work.clients (CallerHome desk.caller.work.id.0)) desk.caller.work.own
    → newest ≡ slice_index_or entries (length entries - 1) newest → newest.event ≡ Answer b → b ≡ a
newest_answer desk a b entries newest is kept last answer =
    let v = desk.caller.work in
    let here : Stamped → Bool = stands_at v.setup v.clients (CallerHome v.id.0) in
    let x : Stamped = record { stamp = is.stamp; event = Answer a } in
    let before : List Stamped = filter here is.older in
    let mine : here x ≡ true = eq-eqb a.by.0 v.id.0 is.by in
    let ends : entries ≡ before ++ x ∷ [] = kept ∙ (ap (filter here) is.own ∙ (filter-append here is.older (x ∷ []) ∙ ap (λ (l : List Stamped). before ++ l) (filter-yes here x [] mine))) in
    let at_last : slice_index_or entries (length entries - 1) newest ≡ x =
    ap (λ (l : List Stamped). slice_index_or l (length l - 1) newest) ends
    ∙ (ap (λ (n : ℕ). slice_index_or (before ++ x ∷ []) (n - 1) newest) (length-append before (x ∷ [])) ∙ (ap (λ (n : ℕ). slice_index_or (before ++ x ∷ []) n newest) (less_one (length before)) ∙ get_or-append_seam before x [] newest)) in
    let same : Answer a ≡ Answer b = sym (ap (λ (y : Stamped). y.event) (last ∙ at_last)) ∙ answer in
    cc same
  where
    less_one : (n : ℕ) → (n + 1) - 1 ≡ n
    less_one n = omega arith

-- a reply is what the call says
pub reply_done : (P : Reply → Type 0) (told : Told) (reply : Reply) (desk : Desk) → told ≡ tells.Done → IsReplyTo told reply desk → P replies.Done → P reply
reply_done P told reply desk is by holds = subst P (sym (subst (λ (t : Told). IsReplyTo t reply desk) is by)) holds

pub reply_fault : (P : Reply → Type 0) (told : Told) (fault : Fault) (reply : Reply) (desk : Desk) → told ≡ tells.Fault fault → IsReplyTo told reply desk → P (replies.Fault fault) → P reply
reply_fault P told fault reply desk is by holds = subst P (sym (subst (λ (t : Told). IsReplyTo t reply desk) is by)) holds

pub reply_answered : (P : Reply → Type 0) (told : Told) (descriptor : ℕ) (b : Replied) (reply : Reply) (desk : Desk) (entries : List Stamped) (newest : Stamped) → told ≡ tells.Answered descriptor → entries ≡ filter (stands_at desk.caller.work.setup desk.caller.work.clients (CallerHome desk.caller.work.id.0)) desk.caller.work.own
    → newest ≡ slice_index_or entries (length entries - 1) newest → newest.event ≡ Answer b → IsReplyTo told reply desk → P (replies.Answered descriptor b.answer) → P reply
reply_answered P told descriptor b reply desk entries newest is kept last answer by holds =
    let (a, new, same) = subst (λ (t : Told). IsReplyTo t reply desk) is by in
    subst P (ap (λ (r : Replied). replies.Answered descriptor r.answer) (newest_answer desk a b entries newest new kept last answer) ∙ sym same) holds

-- that memory ran out is why
pub want_is : (stopped : Stopped) → is_want stopped ≡ true → stopped ≡ Here NoMemory
want_is (Here NoMemory) is = refl
want_is (Here (Worn stamp)) is = absurd (cc is)
want_is Elsewhere is = absurd (cc is)

-- ---- the calls of a server

-- a service may ask for what a caller may call
pub may_be_called : (client : Bool) (op : Op) → may_call op ≡ true → IsCall client op
may_be_called client (Call ask) may = tt
may_be_called client (Priority absolute amount) may = tt
may_be_called client (Advertise service routine) may = tt
may_be_called client (Unadvertise service) may = tt
may_be_called client (Tick n) may = tt
may_be_called client op may = absurd (cc may)

at_length : (ops behind : List Op) (op : Op) → slice_get (ops ++ op ∷ behind) (length ops) ≡ Some op
at_length [] behind op = refl
at_length (x ∷ ops) behind op = at_length ops behind op

-- the call behind these has the next number
next_number : (ops behind : List Op) (op : Op) (n : ℕ) → n ≡ length ops + 1 → numbered n (ops ++ op ∷ behind) ≡ Some op
next_number ops behind op n is = ap (λ (k : ℕ). numbered k (ops ++ op ∷ behind)) (is ∙ add-one (length ops)) ∙ at_length ops behind op

-- one call more
calls_push : (all its behind : List Op) (op : Op) → (all ++ (its ++ [])) ++ op ∷ behind ≡ (all ++ ((its ++ op ∷ []) ++ [])) ++ behind
calls_push all its behind op =
    ap (λ (l : List Op). (all ++ l) ++ op ∷ behind) (append-nil its)
    ∙ (append_assoc all its (op ∷ behind) ∙ (ap (λ (l : List Op). all ++ l) (sym (append_assoc its (op ∷ []) behind))
    ∙ (sym (append_assoc all (its ++ op ∷ []) behind) ∙ ap (λ (l : List Op). (all ++ l) ++ behind) (sym (append-nil (its ++ op ∷ []))))))

one_longer : (all its : List Op) (op : Op) → length (all ++ ((its ++ op ∷ []) ++ [])) ≡ length (all ++ (its ++ [])) + 1
one_longer all its op =
    ap length (sym (append-nil (all ++ ((its ++ op ∷ []) ++ []))) ∙ sym (calls_push all its [] op)) ∙ length-append (all ++ (its ++ [])) (op ∷ [])

-- ---- what a call leaves of the server

-- it is no event of a server
view_still : (caller n server : ℕ) (e : Event) (past : List Event) → is_op caller n e ≡ true → server_view server (e ∷ past) ≡ server_view server past
unfolding starts is_gone
view_still caller n server (Take t) past is = absurd (cc is)
view_still caller n server (Forward f) past is = absurd (cc is)
view_still caller n server (Gone s) past is = absurd (cc is)
view_still caller n server (Start b) past is = absurd (cc is)
view_still caller n server (StartFailed b) past is = absurd (cc is)
view_still caller n server (End e) past is = absurd (cc is)
view_still caller n server (Stop x) past is = absurd (cc is)
view_still caller n server _ past is = refl

pub view_called : (caller n server : ℕ) (more own : List Event) → AreCall caller n more → server_view server (more ++ own) ≡ server_view server own
view_called caller n server more own are = call_keeps caller n (server_view server) (view_still caller n server) more own are

pub calls_end_none : (caller n : ℕ) (e : Event) → is_op caller n e ≡ true → ends_by e false ≡ false
calls_end_none caller n (Start b) is = refl
calls_end_none caller n (StartFailed b) is = refl
calls_end_none caller n (End e) is = absurd (cc is)
calls_end_none caller n (Stop x) is = absurd (cc is)
calls_end_none caller n _ is = refl

no_take_by : (caller n server : ℕ) (e : Event) → is_op caller n e ≡ true → is_take_by server e ≡ false
no_take_by caller n server (Take t) is = absurd (cc is)
no_take_by caller n server _ is = refl

-- what holds of the events of these entries holds of the entries
pub each_entry : (P : Event → Type 0) (entries : List Stamped) → All P (past_in entries) → All (λ (x : Stamped). P x.event) entries
each_entry P [] all = All-nil (λ (x : Stamped). P x.event)
each_entry P (x ∷ entries) all =
    let both : All P (past_in entries ++ x.event ∷ []) = subst (All P) (past_in-append (x ∷ []) entries) all in
    let parts = split (past_in entries) both in
    All-cons (λ (y : Stamped). P y.event) x entries parts.1 (each_entry P entries parts.0)
  where
    split : (es : List Event) → All P (es ++ x.event ∷ []) → All P es × P x.event
    split [] last = (All-nil P, All-head P x.event [] last)
    split (e ∷ es) more = let rest = split es (All-tail P e (es ++ x.event ∷ []) more) in (All-cons P e es (All-head P e (es ++ x.event ∷ []) more) rest.0, rest.1)

pub no_start_in : (caller n server : ℕ) (e : Event) → is_op caller n e ≡ true → start_in server e ≡ None
no_start_in caller n server (Start b) is = absurd (cc is)
no_start_in caller n server (StartFailed b) is = absurd (cc is)
no_start_in caller n server _ is = refl

starts_skip : (server : ℕ) (more own : List Event) → All (λ (e : Event). start_in server e ≡ None) more → starts server (more ++ own) ≡ starts server own
unfolding starts
starts_skip server more own none = skip_map (start_in server) more own none

-- ---- the events of a call, as they were noted

answer_by : (caller n : ℕ) (a : Replied) → is_op caller n (Answer a) ≡ true → a.by.0 ≡ caller
answer_by caller n a is = eqb-true a.by.0 caller (and_parts (a.by.0 == caller) (nat_lt 0 a.op) (and_parts (is_call_of caller (Answer a)) (op_in (Answer a) == n) is).0).0

split_last : (xs : List Stamped) → (xs ≡ []) ⊎ ((init : List Stamped) × (x : Stamped) × (xs ≡ init ++ x ∷ []))
split_last [] = inl refl
split_last (x ∷ xs) = elim (split_last xs) [
  | inl none ↦ inr ([], x, ap (λ (l : List Stamped). x ∷ l) none)
  | inr parts ↦ inr (x ∷ parts.0, parts.1, ap (λ (l : List Stamped). x ∷ l) parts.2)
]

-- the newest event is that of the last entry
last_entry : (added : List Stamped) (e : Event) (rest : List Event) → past_in added ≡ e ∷ rest → (init : List Stamped) × (stamp : Stamp) × (added ≡ init ++ record { stamp = stamp; event = e } ∷ [])
last_entry added e rest is = elim (split_last added) [
  | inl none ↦ let empty : [] ≡ e ∷ rest = ap past_in (sym none) ∙ is in absurd (cc empty)
  | inr parts ↦
      let newest : parts.1.event ∷ past_in parts.0 ≡ e ∷ rest = sym (past_in-append parts.0 (parts.1 ∷ [])) ∙ (ap past_in (sym parts.2) ∙ is) in
      let same : parts.1.event ≡ e = cc newest in
      (parts.0, parts.1.stamp, parts.2 ∙ ap (λ (v : Event). parts.0 ++ record { stamp = parts.1.stamp; event = v } ∷ []) same)
]

all_kept : (p : Event → Bool) (es : List Event) → All (λ (e : Event). p e ≡ true) es → filter p es ≡ es
all_kept p [] all = refl
all_kept p (e ∷ es) all = filter-yes p e es (All-head (λ (x : Event). p x ≡ true) e es all) ∙ ap (λ (l : List Event). e ∷ l) (all_kept p es (All-tail (λ (x : Event). p x ≡ true) e es all))

-- the worker's own events with these, which are its own
noted_theirs : (old new : Desk) (added : List Stamped) → new.caller.work.id ≡ old.caller.work.id → new.caller.work.clients ≡ old.caller.work.clients → new.caller.work.own ≡ old.caller.work.own ++ added
    → All (λ (e : Event). of_worker old.caller.work.clients old.caller.work.id.0 e ≡ true) (past_in added) → theirs new.caller.work ≡ past_in added ++ theirs old.caller.work
noted_theirs old new added id clients own mine =
    let w : WorkState = old.caller.work in
    let ours : List Event → List Event = filter (of_worker w.clients w.id.0) in
    ap (λ n. worker_events n new.caller.work.id.0 (past_in new.caller.work.own)) clients ∙ (ap (λ i. worker_events w.clients i.0 (past_in new.caller.work.own)) id
    ∙ (ap (λ (l : List Stamped). ours (past_in l)) own ∙ (ap ours (past_in-append w.own added) ∙ (filter-append (of_worker w.clients w.id.0) (past_in added) (past_in w.own)
    ∙ ap (λ (l : List Event). l ++ theirs w) (all_kept (of_worker w.clients w.id.0) (past_in added) mine)))))

-- a server that is configured has a number
some_server : {X : Type 0} (n : ℕ) (xs : List X) (P : X → Type 0) → IsSomeAnd (numbered n xs) P → 0 < n
some_server zero xs P none = absurd none
some_server (suc n) xs P some = omega arith

-- ---- the server isn't given up, by what stands at its queue

none_gone : (server : ℕ) (past : List Event) → is_gone server past ≡ false → count (is_gone_of server) past ≡ 0
unfolding is_gone
none_gone server [] none = refl
none_gone server (e ∷ past) none = by (is_gone_of server e) refl (none_gone server past)
  where
    by : (b : Bool) → is_gone_of server e ≡ b → (is_gone server past ≡ false → count (is_gone_of server) past ≡ 0) → count (is_gone_of server) (e ∷ past) ≡ 0
    by true is rest = absurd (cc (sym none ∙ ap (λ (b : Bool). b || list_any (is_gone_of server) past) is))
    by false is rest = ap (λ (b : Bool). cond b (count (is_gone_of server) past + 1) (count (is_gone_of server) past)) is ∙ rest (sym (ap (λ (b : Bool). b || list_any (is_gone_of server) past) is) ∙ none)

gone_own : (clients worker server : ℕ) → clients + server ≡ worker → (e : Event) → is_gone_of server e ≡ true → of_worker clients worker e ≡ true
gone_own clients worker server number (Gone s) his = eq-eqb (clients + s.0) worker (ap (λ n. clients + n) (eqb-true s.0 server his) ∙ number)
gone_own clients worker server number _ his = absurd (cc his)

gives_none : (server : ServerId) (e : Event) → is_gone_of server.0 e ≡ false → has_server server (gives_up e) ≡ false
gives_none server (Gone s) none = elim (cases_Bool (server.0 == s.0)) [
  | inl same ↦ absurd (false≢true (sym none ∙ eq-eqb s.0 server.0 (sym (eqb-true server.0 s.0 same))))
  | inr apart ↦ ap (λ (b : Bool). b || false) apart
]
gives_none server _ none = refl

his_notes : (server : ServerId) (notes : List (QueueNote Filling)) → All (λ (x : Stamped). has_server server (gives_up x.event) ≡ false) (noted_in (flat_map made_of notes)) → All (IsOther server) notes
his_notes server [] none = All-nil (IsOther server)
his_notes server (Opened setting ∷ notes) none = All-cons (IsOther server) (Opened setting) notes tt (his_notes server notes none)
his_notes server (By made ∷ notes) none =
    All-cons (IsOther server) (By made) notes (All-head (λ (x : Stamped). has_server server (gives_up x.event) ≡ false) made.noted (noted_in (flat_map made_of notes)) none)
    (his_notes server notes (All-tail (λ (x : Stamped). has_server server (gives_up x.event) ≡ false) made.noted (noted_in (flat_map made_of notes)) none))

his_page : (d : Domain) (w : WorkState) (k : ℕ) (server : ServerId) (pass : Option (LockPass (QueueNote Filling))) → All (λ (x : Stamped). has_server server (gives_up x.event) ≡ false) w.own → IsThere (IsQueuePass d w k) pass → All (IsOther server) (page_in pass).own
his_page d w k server None none is = absurd is
his_page d w k server (Some pass) none is =
    let P : Stamped → Type 0 = λ x. has_server server (gives_up x.event) ≡ false in
    his_notes server (page_of pass).own (subst (All P) (sym is.own) (All-filter (stands_at d.setup d.clients (QueueHome (k + 1))) P w.own none))

pub left_at : (d : Domain) (desk : Desk) (queue : ℕ) (server : ServerId) → IsDesk d desk → desk.caller.work.clients + server.0 ≡ desk.caller.work.id.0 → 0 < queue → queue < length d.queues.items + 1 → is_gone server.0 (theirs desk.caller.work) ≡ false → All (IsOther server) (queue_page desk queue).own
left_at d desk zero server is number some least gone = absurd (omega (arith, some))
left_at d desk (suc k) server is number some least gone =
    let w : WorkState = desk.caller.work in
    let none : count (is_gone_of server.0) (past_in w.own) ≡ 0 = sym (count_part (is_gone_of server.0) (of_worker w.clients w.id.0) (gone_own w.clients w.id.0 server.0 number) (past_in w.own)) ∙ none_gone server.0 (theirs w) gone in
    his_page d w k server (slice_index_or desk.queues.items k None)
    (All-weaker (λ (x : Stamped). is_gone_of server.0 x.event ≡ false) (λ (x : Stamped). has_server server (gives_up x.event) ≡ false) (λ x off. gives_none server x.event off) w.own (none_counted (is_gone_of server.0) w.own none))
    (is.queues k (omega (arith, least)))

-- ---- the worker

-- the number of its caller
pub caller_is : {d : Domain} {queue : ℕ} {slot : ServerSlot} {desk : Desk} → IsDesk d desk → IsServing d queue slot desk → caller_of d.clients slot.server.0 ≡ desk.caller.work.id.0
caller_is {d} {queue} {slot} is serving = ap (λ n. n + slot.server.0) (sym is.clients) ∙ number_of serving

-- what it is behind what changes nothing of its server
pub serving_on : {d : Domain} {queue : ℕ} {slot : ServerSlot} {old new : Desk} {more : List Event} → IsDesk d old → IsDesk d new → Steps d more old new → IsSound new.caller → new.caller.phase ≡ Idle → (2 ≤ old.caller.work.room → 2 ≤ new.caller.work.room)
    → (generation : Generation) (request : RequestId) → slot.doing ≡ Busy generation request → server_view slot.server.0 (more ++ theirs old.caller.work) ≡ server_view slot.server.0 (theirs old.caller.work) → IsServing d queue slot old → IsServing d queue slot new
serving_on {d} {queue} {slot} {old} {new} {more} was is steps sound idle room generation request does same serving =
    let s : ℕ = slot.server.0 in
    let t = serving.stands.tables in
    let few = t.few in
    let later = steps.leads.stamp in
    let view : server_view s (theirs new.caller.work) ≡ server_view s (theirs old.caller.work) = ap (server_view s) steps.own ∙ same in
    let number : new.caller.work.clients + s ≡ new.caller.work.id.0 = ap (λ n. n + s) steps.clients ∙ (number_of serving ∙ ap (λ i. i.0) (sym steps.id)) in
    let some = some_server s _ _ t.worker.rule in
    let two : 2 ≤ old.caller.work.room = subst (λ (doing : Doing). room_for doing ≤ old.caller.work.room) does t.ready in
    record {
      stands = record {
        tables = record {
          worker = record {
            number = number;
            rule = subst (λ setup. IsSomeAnd (numbered s setup.servers) (λ configured. IsRuleOf configured slot.restarts.restart slot.restarts.maxgen slot.restarts.grace)) (was.setup ∙ sym is.setup) t.worker.rule;
            none = subst (λ p. Describes new.caller.out p (open_descriptors new.caller.work.id.0 (theirs new.caller.work))) idle sound.reads.descriptors ∙ ap (map request_of) (sound.served (no_client new.caller.work.clients new.caller.work.id.0 (omega (arith, number, some))));
            unconnected = sound.reads.unconnected;
          };
          reads = subst (λ (v : ServerView). Reads v slot.made slot.restarts.starts slot.doing slot.last slot.gone slot.shut) (sym view) t.reads;
          few = omega (arith, few, later);
          ready = subst (λ (doing : Doing). room_for doing ≤ new.caller.work.room) (sym does) (room two);
        };
        hand = serving.stands.hand;
      };
      idle = idle;
      its = serving.its;
      some = serving.some;
      least = serving.least;
      left = λ left. left_at d new queue slot.server is number serving.some serving.least (ap (λ (v : ServerView). v.gone) view ∙ (t.reads.given_up ∙ left));
      hand = serving.hand;
    }

module _ {L T : Type 0} {d : Domain} {shows : T → StarterShows} (w : ServerWorker L T) where
  -- ---- its service is heard

  -- it may ask for no call once the last was made
  pub served_out : (t : Taken) (life : LifeState) (op : ℕ) → op ≡ last_op w.desk.caller.work.id.0 (own_of w) → IsServed d shows Serving t life w → (turn : Turn) × IsServed d shows turn t (called_out op life) w
  served_out t life op is served = by (op == 2 ^ 32 - 1) refl
    where
      busy : IsBusyWith d shows Serving t life w
      busy = served.busy

      becomes : Becomes life.asked (spent life) life
      becomes = record { link = life.link; said = life.said; turn = Finishing; made = refl; calls = sym (all_made life.turn (calls_in life.said) (λ was. let turns = busy.is.turns in cc (was, turns))) }

      by : (b : Bool) → (op == 2 ^ 32 - 1) ≡ b → (turn : Turn) × IsServed d shows turn t (if b then spent life else life) w
      by false other = (Serving, served)
      by true last = (
        Finishing,
        record {
          busy = record {
            is = record {
              at = at_still life.asked becomes busy.is.at;
              last = last_still life.asked becomes busy.is.last;
              going = record { follows = follows_spent d.setup d.clients life (own_of w) busy.is.going.follows; handed = busy.is.going.handed };
              does = busy.is.does;
              turns = refl;
              asked = busy.is.asked;
              room = busy.is.room;
            };
            taken = busy.taken;
          };
          acts = refl;
          spent = λ finishing. sym is ∙ eqb-true op (2 ^ 32 - 1) last;
        },
      )

  -- it asks for a call
  pub asks_in : (new old : LifeState) (turn : Turn) (t : Taken) (op : Op) → Heard (op_frame (tag_of old) op) new old → w.desk.caller.op < 2 ^ 32 - 1 → IsServed d shows turn t old w → IsCalling d shows op t new w
  asks_in new old turn t op heard low served =
      let is = served.busy.is in
      let may = op_may old new (tag_of old) op heard (acting_turn old.turn (ap is_acting is.turns ∙ served.acts)) in
      let becomes : Becomes old.asked new old = record { link = new.link; said = _; turn = _; made = heard.made; calls = calls_asked old new (tag_of old) op heard may.0 } in
      record {
        busy = record {
          is = record {
            at = at_still old.asked becomes is.at;
            last = last_still old.asked becomes is.last;
            going = record { follows = follows_op d.setup d.clients old new (own_of w) (tag_of old) op heard is.going.follows; handed = handed_still old.asked becomes (IsSentFor d w.queue.0 w.desk) (own_of w) is.going.handed };
            does = is.does ∙ ap (λ (l : LifeState). Busy l.generation t.request) (sym heard.made);
            turns = ap (λ (l : LifeState). l.turn) heard.made ∙ ap (λ (x : Turn). turn_after x (op_frame (tag_of old) op).body) may.0;
            asked = ap (λ (l : LifeState). length (invokes_of l)) heard.made ∙ (is.asked ∙ ap (λ (n : ℕ). n + 1) (sym (ap (λ (l : LifeState). length (finishes_in l.said)) heard.made ∙ ap length (finishes_op old.said (tag_of old) op))));
            room = is.room;
          };
          taken = served.busy.taken;
        };
        asked = op_asked old new (tag_of old) op heard ∙ ap (λ (ops : List Op). ops ++ op ∷ []) (sym (all_made old.turn (calls_in old.said) (λ was. let turn = may.0 in cc (was, turn))) ∙ sym becomes.calls);
        may = may.1;
        more = low;
      }

  -- what its service says is heard behind its last call
  module _ (t : Taken) (life : LifeState) (last : ℕ) (is : last ≡ w.desk.caller.op) (sound : IsSound w.desk.caller) (served : IsServed d shows Serving t life w) where
    abbrev old : LifeState
    old = called_out last life

    pub out : (turn : Turn) × IsServed d shows turn t old w
    out = served_out t life last (is ∙ sym sound.reads.called) served

    -- it asks for a call
    pub calls_by : (new : LifeState) (act : Act) (op : Op) → act ≡ Calls op → last < 2 ^ 32 → Heard (act_frame (tag_of old) act) new old → IsCalling d shows op t new w
    calls_by new act op says bound heard =
        let said : Heard (op_frame (tag_of old) op) new old = subst (λ (a : Act). Heard (act_frame (tag_of old) a) new old) says heard in
        let busy = out.1.busy.is in
        let may = op_may old new (tag_of old) op said (acting_turn old.turn (ap is_acting busy.turns ∙ out.1.acts)) in
        asks_in new old out.0 t op said (low (last == 2 ^ 32 - 1) refl may.0) out.1
      where
        low : (b : Bool) → (last == 2 ^ 32 - 1) ≡ b → old.turn ≡ Serving → w.desk.caller.op < 2 ^ 32 - 1
        low true most serving = let finishing : old.turn ≡ Finishing = ap (λ (b : Bool). (if b then spent life else life).turn) most in cc (finishing, serving)
        low false less serving = elim (cases_Bool (nat_lt last (2 ^ 32 - 1))) [
          | inl lower ↦ subst (λ (n : ℕ). n < 2 ^ 32 - 1) is (ltb-true last (2 ^ 32 - 1) lower)
          | inr upper ↦ let least = ltb-false last (2 ^ 32 - 1) upper in absurd (false≢true (sym less ∙ eq-eqb last (2 ^ 32 - 1) (omega (arith, bound, least))))
        ]

    -- or is done
    pub ends_by_act : (new : LifeState) (act : Act) (back : Finish) → act ≡ Ends back → Heard (act_frame (tag_of old) act) new old → HasFinished d shows t back new w
    ends_by_act new act back says heard = record { turn = out.0; old = old; served = out.1; heard = subst (λ (a : Act). Heard (act_frame (tag_of old) a) new old) says heard }

    -- or says nothing more
    pub says_none : (over : Ending) → Fell over old → MayDie d shows over w
    says_none over fell = falls_busy w old over out.0 t fell out.1

  -- ---- a call is made

  module _ (op : Op) (t : Taken) (life : LifeState) (calling : IsCalling d shows op t life w) (sound : IsSound w.desk.caller) where
    abbrev its : IsIn d shows (Busy life.generation t.request) Performing 1 life w
    its = calling.busy.is

    abbrev slot : ServerSlot
    slot = w.served.slot

    abbrev caller : ℕ
    caller = w.desk.caller.work.id.0

    -- it may be made
    pub may_call_now : MayCall w.desk.caller
    unfolding doing
    may_call_now =
        let number = number_of its.at.serving in
        let some = some_server slot.server.0 _ _ its.at.serving.stands.tables.worker.rule in
        let server : caller - w.desk.caller.work.clients ≡ slot.server.0 = omega (arith, number) in
        inr (and_from (nat_lt w.desk.caller.work.clients caller) (is_busy (doing (caller - w.desk.caller.work.clients) (own_of w))) (lt-ltb w.desk.caller.work.clients caller (omega (arith, number, some)))
        (ap (λ (k : ℕ). is_busy (doing k (own_of w))) server ∙ (ap is_busy (its.at.serving.stands.tables.reads.moved ∙ its.does))))

    pub may_be_made : IsCall (is_client w.desk.caller.work.clients caller) op
    may_be_made = may_be_called (is_client w.desk.caller.work.clients caller) op calling.may

    its_server : is_client w.desk.caller.work.clients caller ≡ false
    its_server =
        let number = number_of its.at.serving in
        let some = some_server slot.server.0 _ _ its.at.serving.stands.tables.worker.rule in
        no_client w.desk.caller.work.clients caller (omega (arith, number, some))

    pub is_ready : IsReady d w.desk.caller.op w.desk
    is_ready = record { is = its.at.is; idle = its.at.serving.idle; made = refl }

    same_caller : caller_of d.clients life.server.0 ≡ caller
    same_caller = ap (λ s. caller_of d.clients s.0) its.last.server ∙ caller_is its.at.is its.at.serving

    doing_now : doing life.server.0 (own_of w) ≡ Busy life.generation t.request
    unfolding doing
    doing_now = ap (λ s. doing s.0 (own_of w)) its.last.server ∙ (its.at.serving.stands.tables.reads.moved ∙ its.does)

    busy_now : is_busy_in life.generation.0 (doing life.server.0 (own_of w)) ≡ true
    busy_now = ap (is_busy_in life.generation.0) doing_now ∙ eq-eqb life.generation.0 life.generation.0 refl

    tag_now : invocation life.server.0 life.generation.0 (own_of w) ≡ tag_of life
    unfolding invocation
    tag_now = ap (λ (n : ℕ). n % 2 ^ 32) (its.going.follows.taken ∙ its.asked)

    -- what it comes to
    module _ (number : ℕ) (turn : number ≡ w.desk.caller.op + 1) (desk' : Desk) (goes : PerformsBy d number op w.desk desk') (sound' : IsSound desk'.caller) (fresh : count (is_op caller number) (own_of w) ≡ 0) where
      -- the worker with its desk
      abbrev after : ServerWorker L T
      after = at_desk w slot desk'

      old_last : w.desk.caller.op ≡ last_op caller (own_of w)
      old_last = sym sound.reads.called

      pub goes_called : Goes d w after
      goes_called = record { leads = goes.leads; id = goes.same.id; clients = goes.same.clients; server = refl; name = refl; queue = refl }

      -- ---- it was made

      module _ (told : Told) (made : IsReady d number desk') (is : IsTold told number w.desk desk') where
        abbrev more : List Event
        more = is.more

        abbrev steps : Steps d is.more w.desk desk'
        steps = record { leads = goes.leads; id = goes.same.id; clients = goes.same.clients; own = is.noted }

        serving' : IsServing d w.queue.0 slot desk'
        serving' = serving_on its.at.is goes.leads.desk steps sound' made.idle (goes.same.room its_server) life.generation t.request its.does (view_called caller number slot.server.0 more (own_of w) is.call) its.at.serving

        serves : Serves d w.queue.0 is.more slot slot w.desk desk'
        serves = record { steps = steps; serving = serving'; server = refl; made = refl; gone = refl }

        its_server' : is_client desk'.caller.work.clients desk'.caller.work.id.0 ≡ false
        its_server' = ap (λ (n : ℕ). is_client n desk'.caller.work.id.0) goes.same.clients ∙ ap (λ i. is_client w.desk.caller.work.clients i.0) goes.same.id ∙ its_server

        call_at : (c : ℕ) → c ≡ caller → AreCall c number more × (count (is_op c number) (own_of w) ≡ 0)
        call_at c same = subst (λ (k : ℕ). AreCall k number more × (count (is_op k number) (own_of w) ≡ 0)) (sym same) (is.call, fresh)

        adds : Adds d slot.server.0 slot.made is.more w.desk desk'
        adds =
            let at = call_at (caller_of d.clients slot.server.0) (caller_is its.at.is its.at.serving) in
            let does : doing slot.server.0 (own_of w) ≡ Busy life.generation t.request = ap (λ s. doing s.0 (own_of w)) (sym its.last.server) ∙ doing_now in
            call_adds steps slot.server.0 slot.made number life.generation t.request (number_of its.at.serving) at.0 at.1 does its.last.number

        calm : IsCalm w.desk → IsCalm desk'
        calm =
            calm_called w.desk desk' is.added is.own goes.fills
            (each_entry (λ e. ends_by e false ≡ false) is.added (subst (All (λ e. ends_by e false ≡ false)) (sym {A = List Event} is.events) (each_call caller number (λ e. ends_by e false ≡ false) (calls_end_none caller number) more is.call)))

        called_now : HasCalled d (calls_of_all w.served.lives.items ++ ((calls_of life ++ op ∷ []) ++ [])) desk'
        called_now =
            let all = calls_of_all w.served.lives.items in
            let before = all ++ (calls_of life ++ []) in
            let count_is : number ≡ length before + 1 = turn ∙ ap (λ (n : ℕ). n + 1) (old_last ∙ its.at.called.last) in
            record {
              last = sound'.reads.called ∙ (made.made ∙ (count_is ∙ sym (one_longer all (calls_of life) op)));
              over = none_just desk'.caller.out desk'.caller.phase _ sound'.reads.just (ap just_in made.idle) (sound'.served its_server');
              fits = λ behind. subst (λ (ops : List Op). FitsCalls d ops desk') (calls_push all (calls_of life) behind op) (goes.fits (before ++ op ∷ behind) (next_number before behind op number count_is) (its.at.called.fits (op ∷ behind)));
            }

        at_after : (next : LifeState) → next.generation ≡ life.generation → calls_of next ≡ calls_of life ++ op ∷ [] → IsAtWork d shows after (next ∷ [])
        at_after next same calls = work_adds w slot desk' more life serves adds calm next same (subst (λ (ops : List Op). HasCalled d (calls_of_all w.served.lives.items ++ (ops ++ [])) desk') (sym calls) called_now) its.at

        -- what is told
        answered_first : (a : Replied) → IsNewest a desk' → (older : List Event) × (theirs desk'.caller.work ≡ Answer a ∷ older)
        answered_first a newest =
            let v = desk'.caller.work in
            let past : past_in v.own ≡ Answer a ∷ past_in newest.older = ap past_in newest.own ∙ past_in-append newest.older _ in
            let mine : of_worker v.clients v.id.0 (Answer a) ≡ true = eq-eqb a.by.0 v.id.0 newest.by in
            (filter (of_worker v.clients v.id.0) (past_in newest.older), ap (filter (of_worker v.clients v.id.0)) past ∙ filter-yes (of_worker v.clients v.id.0) (Answer a) (past_in newest.older) mine)

        replied_is : (what : Told) (reply : Reply) → Says what number desk'.caller.work.id.0 (theirs desk'.caller.work) → IsReplyTo what reply desk' → reply ≡ reply_at (theirs desk'.caller.work) desk'.caller.work.id.0 number
        replied_is tells.Done reply says by = by ∙ sym says
        replied_is (tells.Fault fault) reply says by = by ∙ sym says
        replied_is (tells.Now tick) reply says by = absurd by
        replied_is (tells.Descriptor descriptor) reply says by = absurd by
        replied_is (tells.Answered descriptor) reply says (a, newest, by) =
            let first = answered_first a newest in
            let same : says.0 ≡ a = cc (sym says.2 ∙ first.1) in
            by ∙ (ap (λ (r : Replied). replies.Answered descriptor r.answer) (sym same) ∙ sym says.3)

        pub reply_is : (reply : Reply) → IsReplyTo told reply desk' → reply ≡ reply_at (more ++ own_of w) (caller_of d.clients life.server.0) number
        reply_is reply by =
            replied_is told reply is.says by ∙ (ap (λ (past : List Event). reply_at past desk'.caller.work.id.0 number) is.noted ∙ ap (λ (c : ℕ). reply_at (more ++ own_of w) c number) (ap (λ i. i.0) goes.same.id ∙ sym same_caller))

        newest_of : (a : Replied) (older : List Event) → theirs desk'.caller.work ≡ Answer a ∷ older → IsAnswer a.answer → IsNewest a desk'
        newest_of a older first spelled = by is.more refl is.call
          where
            by : (events : List Event) → events ≡ is.more → AreCall caller number events → IsNewest a desk'
            by [] same are = absurd are
            by (e ∷ rest) same are =
                let head : e ≡ Answer a = cc (ap (λ (es : List Event). es ++ own_of w) same ∙ (sym is.noted ∙ first)) in
                let cut = last_entry is.added e rest (is.events ∙ sym same) in
                let op_is : is_op caller number (Answer a) ≡ true = subst (λ (x : Event). is_op caller number x ≡ true) head (first_op rest are) in
                record {
                  older = w.desk.caller.work.own ++ cut.0;
                  stamp = cut.1;
                  own = is.own ∙ (ap (λ (l : List Stamped). w.desk.caller.work.own ++ l) cut.2 ∙ (sym (append_assoc w.desk.caller.work.own cut.0 _) ∙ ap (λ (x : Event). (w.desk.caller.work.own ++ cut.0) ++ record { stamp = cut.1; event = x } ∷ []) head));
                  by = answer_by caller number a op_is ∙ ap (λ i. i.0) (sym goes.same.id);
                  sound = spelled;
                }
              where
                first_op : (others : List Event) → AreCall caller number (e ∷ others) → is_op caller number e ≡ true
                first_op [] are = are
                first_op (x ∷ []) are = are.0
                first_op (x ∷ y ∷ others) are = absurd are

        pub tells_it : (reply : Reply) × IsReplyTo told reply desk'
        tells_it = by told (is.own_kind its_server) is.says
          where
            by : (what : Told) → (IsForClients what → ⊥) → Says what number desk'.caller.work.id.0 (theirs desk'.caller.work) → (reply : Reply) × IsReplyTo what reply desk'
            by tells.Done never says = (replies.Done, refl)
            by (tells.Fault fault) never says = (replies.Fault fault, refl)
            by (tells.Now tick) never says = absurd (never tt)
            by (tells.Descriptor descriptor) never says = absurd (never tt)
            by (tells.Answered descriptor) never says = (replies.Answered descriptor says.0.answer, (says.0, newest_of says.0 says.1 says.2 says.4, refl))

        handed_after : AtEach (IsHanded life.server.0 life.generation.0 (invokes_of life) (IsSentFor d w.queue.0 desk')) (more ++ own_of w)
        handed_after =
            handed_more life.server.0 life.generation.0 (invokes_of life) (IsSentFor d w.queue.0 desk') more (own_of w) (each_call caller number (λ e. is_of life.server.0 life.generation.0 e ≡ false) (call_of_none caller number life.server.0 life.generation.0) more is.call)
            (handed_led life.server.0 life.generation.0 d w.queue.0 w.desk desk' (invokes_of life) (own_of w) goes.leads its.going.handed)

        module _ (reply : Reply) (says : IsReplyTo told reply desk') where
          abbrev f : Frame
          f = reply_frame (tag_of life) reply

          -- the life with its REPLY as the last frame that was due
          replied_calls : (next : LifeState) (link : LinkShows) → next ≡ with_asked f link life → calls_of next ≡ calls_of life ++ op ∷ []
          replied_calls next link same = calls_replied life next f link same ∙ calling.asked

          replied_handed : (next : LifeState) (link : LinkShows) → next ≡ with_asked f link life → AtEach (IsHanded next.server.0 next.generation.0 (invokes_of next) (IsSentFor d w.queue.0 desk')) (theirs desk'.caller.work)
          replied_handed next link same =
              subst (λ (l : LifeState). AtEach (IsHanded l.server.0 l.generation.0 (invokes_of l) (IsSentFor d w.queue.0 desk')) (theirs desk'.caller.work)) (sym same)
              (subst (λ (fs : List Frame). AtEach (IsHanded life.server.0 life.generation.0 fs (IsSentFor d w.queue.0 desk')) (theirs desk'.caller.work)) (sym (no_invoke life.asked f refl))
              (subst (AtEach (IsHanded life.server.0 life.generation.0 (invokes_of life) (IsSentFor d w.queue.0 desk'))) (sym {A = List Event} is.noted) handed_after))

          pub replied_in : (next : LifeState) → Invoked f next life → IsServed d shows Serving t next after
          replied_in next invoked =
              let at = call_at (caller_of d.clients life.server.0) same_caller in
              record {
                busy = record {
                  is = record {
                    at = at_after next (ap (λ (l : LifeState). l.generation) invoked.made) (replied_calls next _ invoked.made);
                    last = record {
                      server = ap (λ (l : LifeState). l.server) invoked.made ∙ its.last.server;
                      named = ap (λ (l : LifeState). l.name) invoked.made ∙ its.last.named;
                      number = ap (λ (l : LifeState). l.generation.0) invoked.made ∙ its.last.number;
                    };
                    going = record {
                      follows = subst (Follows d.setup d.clients (ShowsReason d desk') next) (sym {A = List Event} is.noted)
                          (follows_replied d.setup d.clients life next number more (own_of w) reply at.0 at.1 busy_now tag_now (reply_is reply says) invoked (going_on steps w.queue.0 (own_of w) life its.going).follows);
                      handed = replied_handed next _ invoked.made;
                    };
                    does = its.does ∙ ap (λ (l : LifeState). Busy l.generation t.request) (sym invoked.made);
                    turns = ap (λ (l : LifeState). l.turn) invoked.made;
                    asked = ap (λ (l : LifeState). length (invokes_of l)) invoked.made
                        ∙ (ap length (no_invoke life.asked f refl) ∙ (its.asked ∙ ap (λ (n : ℕ). n + 1) (sym (ap (λ (l : LifeState). length (finishes_in l.said)) invoked.made))));
                    room = its.room;
                  };
                  taken = taken_after slot.hand calling.busy.taken;
                };
                acts = refl;
                spent = λ finishing. cc finishing;
              }
            where
              none_taken : count (is_take_by t.server.0) (past_in is.added) ≡ 0
              none_taken =
                  ap (count (is_take_by t.server.0)) (is.events ∙ sym (append-nil more))
                  ∙ skip_count (is_take_by t.server.0) more [] (each_call caller number (λ e. is_take_by t.server.0 e ≡ false) (no_take_by caller number t.server.0) more is.call)

              taken_after : (hand : Option (Entry Cargo)) → IfSome hand (IsTaken d w.queue.0 t w.desk) → IfSome hand (IsTaken d w.queue.0 t desk')
              taken_after None taken = tt
              taken_after (Some entry) taken = taken_stays d w.desk desk' goes.leads w.queue.0 t entry is.added goes.same.id is.own none_taken taken

          pub unsaid_dies : (over : Ending) → Unsent f over life → MayDie d shows over after
          unsaid_dies over unsent =
              let at = call_at (caller_of d.clients life.server.0) same_caller in
              let serving : over.life.turn ≡ Serving = ap (λ (l : LifeState). l.turn) unsent.life in
              record {
                at = at_after over.life (ap (λ (l : LifeState). l.generation) unsent.life) (replied_calls over.life over.life.link unsent.life);
                last = record {
                  server = ap (λ (l : LifeState). l.server) unsent.life ∙ its.last.server;
                  named = ap (λ (l : LifeState). l.name) unsent.life ∙ its.last.named;
                  number = ap (λ (l : LifeState). l.generation.0) unsent.life ∙ its.last.number;
                };
                handed = replied_handed over.life over.life.link unsent.life;
                settles = subst (SettlesBy d desk' over (theirs desk'.caller.work)) (sym its.does) (
                  ap (λ (l : LifeState). l.generation) (sym unsent.life),
                  λ e ours outcome. subst (λ (l : List Event). Settled d.setup d.clients (ShowsReason d desk') over (End e ∷ l)) (sym {A = List Event} is.noted)
                      (settles_unsaid d.setup d.clients life over number more (own_of w) e reply at.0 at.1 busy_now tag_now (reply_is reply says) unsent ours outcome (going_on steps w.queue.0 (own_of w) life its.going).follows),
                );
                shut = λ idle. cc (idle, serving);
                spent = λ finishing. cc (finishing, serving);
                dies = death_in over.cause over.life.turn over.written (λ exited. cc (exited, serving)) (λ idle. cc (idle, serving));
                room = its.room;
              }

      -- ---- memory ran out before

      pub starved_dies : IsQuiet w.desk desk' → desk'.caller.phase ≡ Idle → (over : Ending) → Starves over life → MayDie d shows over after
      starved_dies quiet idle over starves =
          let still = still_steps goes.leads goes.same.id goes.same.clients quiet in
          let serving = serving_on its.at.is goes.leads.desk still sound' idle (goes.same.room its_server) life.generation t.request its.does refl its.at.serving in
          let serves : Serves d w.queue.0 [] slot slot w.desk desk' = record { steps = still; serving = serving; server = refl; made = refl; gone = refl } in
          let becomes : Becomes life.asked over.life life = link_becomes starves.life in
          let performing : over.life.turn ≡ Performing = ap (λ (l : LifeState). l.turn) starves.life ∙ its.turns in
          let own_same : theirs desk'.caller.work ≡ own_of w = still.own in
          let calm : IsCalm w.desk → IsCalm desk' = calm_called w.desk desk' [] (quiet ∙ sym (append-nil w.desk.caller.work.own)) goes.fills (All-nil (λ (x : Stamped). ends_by x.event false ≡ false)) in
          record {
            at = at_still life.asked becomes (work_on w slot desk' [] life serves (All-nil (OfLife slot.made)) calm its.at);
            last = last_still life.asked becomes its.last;
            handed = subst (AtEach (IsHanded over.life.server.0 over.life.generation.0 (invokes_of over.life) (IsSentFor d w.queue.0 desk'))) (sym {A = List Event} own_same)
                (handed_still life.asked becomes (IsSentFor d w.queue.0 desk') (own_of w) (handed_led life.server.0 life.generation.0 d w.queue.0 w.desk desk' (invokes_of life) (own_of w) goes.leads its.going.handed));
            settles = subst (SettlesBy d desk' over (theirs desk'.caller.work)) (sym its.does) (
              ap (λ (l : LifeState). l.generation) (sym starves.life),
              λ e ours outcome. subst (λ (l : List Event). Settled d.setup d.clients (ShowsReason d desk') over (End e ∷ l)) (sym {A = List Event} own_same)
                  (settles_starved d.setup d.clients life over (own_of w) e starves its.turns ours outcome (going_on still w.queue.0 (own_of w) life its.going).follows),
            );
            shut = λ waits. cc (waits, performing);
            spent = λ finishing. cc (finishing, performing);
            dies = death_in over.cause over.life.turn over.written (λ exited. cc (exited, performing)) (λ waits. cc (waits, performing));
            room = its.room;
          }

      -- ---- or the worker halts

      module _ (stopped : Stopped) (out : IsStopped desk' stopped) (within : StoppedIn number stopped w.desk desk') where
        -- what was noted is of the call
        record Partly : Type 0 where
          pub added : List Stamped
          pub own : desk'.caller.work.own ≡ w.desk.caller.work.own ++ added
          pub each : All (λ (x : Stamped). is_op caller number x.event ≡ true) added

        quietly : IsQuiet w.desk desk' → Partly
        quietly quiet = record { added = []; own = quiet ∙ sym (append-nil w.desk.caller.work.own); each = All-nil (λ (x : Stamped). is_op caller number x.event ≡ true) }

        either : IsQuiet w.desk desk' ⊎ NotesOne number Accepts w.desk desk' → Partly
        either (inl quiet) = quietly quiet
        either (inr one) = record { added = one.noted ∷ []; own = one.own; each = All-cons (λ (x : Stamped). is_op caller number x.event ≡ true) one.noted [] one.its (All-nil (λ (x : Stamped). is_op caller number x.event ≡ true)) }

        partly : Partly
        partly = by stopped within
          where
            by : (why : Stopped) → StoppedIn number why w.desk desk' → Partly
            by (Here NoMemory) (quiet, idle) = quietly quiet
            by (Here (Worn stamp)) either_so = either either_so
            by Elsewhere either_so = either either_so

        abbrev events : List Event
        events = past_in partly.added

        each_event : All (λ (e : Event). is_op caller number e ≡ true) events
        each_event = reversed partly.added partly.each
          where
            reversed : (entries : List Stamped) → All (λ (x : Stamped). is_op caller number x.event ≡ true) entries → All (λ (e : Event). is_op caller number e ≡ true) (past_in entries)
            reversed [] all = All-nil (λ (e : Event). is_op caller number e ≡ true)
            reversed (x ∷ entries) all =
                subst (All (λ (e : Event). is_op caller number e ≡ true)) (sym (past_in-append (x ∷ []) entries))
                (All-append (λ (e : Event). is_op caller number e ≡ true) (past_in entries) (x.event ∷ []) (reversed entries (All-tail (λ (y : Stamped). is_op caller number y.event ≡ true) x entries all))
                (All-cons (λ (e : Event). is_op caller number e ≡ true) x.event [] (All-head (λ (y : Stamped). is_op caller number y.event ≡ true) x entries all) (All-nil (λ (e : Event). is_op caller number e ≡ true))))

        so_each : (P : Event → Type 0) → ((e : Event) → is_op caller number e ≡ true → P e) → All P events
        so_each P each = All-weaker (λ (e : Event). is_op caller number e ≡ true) P each events each_event

        steps_partly : Steps d events w.desk desk'
        steps_partly = record { leads = goes.leads; id = goes.same.id; clients = goes.same.clients; own = noted_theirs w.desk desk' partly.added goes.same.id goes.same.clients partly.own (so_each (λ e. of_worker w.desk.caller.work.clients caller e ≡ true) (λ e op_is. call_of_worker w.desk.caller.work.clients caller e (and_parts (is_call_of caller e) (op_in e == number) op_is).0)) }

        pub wanted : is_want stopped ≡ true → IsQuiet w.desk desk' × (desk'.caller.phase ≡ Idle)
        wanted want = subst (λ (why : Stopped). StoppedIn number why w.desk desk') (want_is stopped want) within

        pub halted_in : (other : ServerWorker L T) → other ≡ record after { cut = Some (cut_short life) } → IsLifeSound life → HasEnded d shows (Some stopped) other
        halted_in other rest alive =
            let s : ℕ = slot.server.0 in
            let own' : List Event = theirs desk'.caller.work in
            let Hands : LifeState → Type 0 = HandsOn d w.queue.0 s desk' in
            let beside : (g : ℕ) → All (λ (e : Event). is_of s g e ≡ false) events = λ g. so_each (λ e. is_of s g e ≡ false) (call_of_none caller number s g) in
            let hands : Hands (cut_short life) = let it = hands_beside {d = d} {queue = w.queue.0} {server = s} {old = w.desk} {new = desk'} {life = life} steps_partly (beside life.generation.0) (in_hands its) in record { taken = it.taken; handed = it.handed } in
            let lived : All Hands (map (λ (over : Ending). over.life) w.served.lives.items) =
            All-weaker (HandsOn d w.queue.0 s w.desk) Hands (λ (l : LifeState) was. hands_beside {d = d} {queue = w.queue.0} {server = s} {old = w.desk} {new = desk'} {life = l} steps_partly (beside l.generation.0) was) (map (λ (over : Ending). over.life) w.served.lives.items) (lives_hand w.served.lives.items its.at.lived.each) in
            let Off : LifeState → Type 0 = IsCut w.name s own' in
            let off : Off (cut_short life) = record {
              cut_off = cut_sound life alive;
              its = ap (λ x. x.0) its.last.server;
              named = its.last.named;
              alive = ap (count (stops_life s life.generation.0)) steps_partly.own ∙ (skip_count (stops_life s life.generation.0) events (own_of w) (so_each (λ e. stops_life s life.generation.0 e ≡ false) (λ e op_is. stops_none s life.generation.0 e (call_of_none caller number s life.generation.0 e op_is))) ∙ in_alive its);
            } in
            let lives_same : lives_in s own' ≡ lives_in s (own_of w) = ap (lives_in s) steps_partly.own ∙ ap reverse (skip_map (generation_in s) events (own_of w) (so_each (λ e. generation_in s e ≡ None) (call_no_start caller number s))) in
            let failed : failed_starts s own' ≡ failed_starts s (own_of w) = ap (failed_starts s) steps_partly.own ∙ skip_count (fails_start s) events (own_of w) (so_each (λ e. fails_start s e ≡ false) (call_no_failure caller number s)) in
            let counted : length (starts s own') ≡ slot.made = ap (λ (l : List Event). length (starts s l)) steps_partly.own ∙ (ap length (starts_skip s events (own_of w) (so_each (λ e. start_in s e ≡ None) (no_start_in caller number s))) ∙ starts_count its.at.serving) in
            let calm = calm_called w.desk desk' partly.added partly.own goes.fills (All-weaker (λ (x : Stamped). is_op caller number x.event ≡ true) (λ (x : Stamped). ends_by x.event false ≡ false) (λ x op_is. calls_end_none caller number x.event op_is) partly.added partly.each) its.at.told in
            subst (HasEnded d shows (Some stopped)) (sym rest)
            (halts (record after { cut = Some (cut_short life) }) stopped goes.leads.desk (ap (λ n. n + s) goes.same.clients ∙ (number_of its.at.serving ∙ ap (λ i. i.0) (sym goes.same.id))) out.0 its.at.serving.hand counted its.at.named_so
            (its.at.lived.are ∙ sym lives_same)
            (All-append Hands (map (λ (over : Ending). over.life) w.served.lives.items) (cut_short life ∷ []) lived (All-cons Hands (cut_short life) [] hands (All-nil Hands)))
            (All-cons Off (cut_short life) [] off (All-nil Off)) (inl (started_on refl failed refl its.at.started)) (told_last ⊤ desk' calm.0) out.1)
