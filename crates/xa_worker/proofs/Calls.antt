-- The calls of a client, on the merge.
use Rattle.std.proofs.Common.{◌≡◌, ◌⊎◌, ℕ, ◌+◌, ◌-◌, ◌≤◌, ◌==◌, Bool, true, false, List, [], ◌∷◌, ◌++◌, length, Option, Some, None, inl, inr, refl, sym, ◌∙◌, ap, subst, eqb-true}
use Rattle.std.specs.Prelude.{IsSomeAnd, ◌&&◌, nat_lt, if◌then◌else◌}
use Rattle.std.specs.List.{All, filter, list_any}
use Rattle.std.proofs.lemmas.Bool.{and_parts, or_right}
use Rattle.std.proofs.lemmas.List.Elements.{All-weaker, filter-append}
use Rattle.xa_types.specs.declared.setup.Setup.{Setup}
use Rattle.xa_types.specs.declared.stamp.Stamp.{Stamp}
use Rattle.xa_types.specs.declared.call.Op.{Op}
use Rattle.xa_types.specs.declared.call.Op.TheVariants.{Call, Acall, Get, GetAny, Cancel as CancelOp, Priority as PriorityOp, Advertise as AdvertiseOp, Unadvertise, Tick as TickOp, Connect, Send as SendOp, Receive as ReceiveOp, Disconnect}
use Rattle.xa_types.specs.declared.call.CallFlags.{CallFlags}
use Rattle.xa_types.specs.declared.data.Data.{Data}
use Rattle.xa_types.specs.declared.ids.CallerId.{CallerId}
use Rattle.xa_types.specs.declared.ids.RequestId.{RequestId}
use Rattle.xa_events.specs.Conversation.{connections, ControlIs}
use Rattle.xa_types.specs.declared.call.Ask.{Ask}
use Rattle.xa_types.specs.declared.data.Kind.{Kind}
use Rattle.xa_types.specs.declared.fault.Fault.{Fault}
use Rattle.xa_types.specs.declared.fault.Fault.TheVariants.{Inval, NoEnt, IType, BadDesc, Limit, Block, Time, System, Proto, Match, Event as EventFault}
use Rattle.xa_types.specs.declared.row.Row.{Row}
use Rattle.xa_types.specs.Setup.{numbered}
use Rattle.xa_types.specs.Rows.{row_of}
use Rattle.xa_events.specs.declared.event.Event.{Event}
use Rattle.xa_events.specs.declared.event.Event.TheVariants.{Advertise, Withdraw, Accept, Forward, Tick, Answer, Cancel, Lapse, Refuse, NotYet, Send, Receive, Break, Priority}
use Rattle.xa_events.specs.declared.event.Replied.{Replied}
use Rattle.xa_events.specs.declared.event.Ticked.{Ticked}
use Rattle.xa_events.specs.declared.event.Evidence.{Evidence}
use Rattle.xa_events.specs.declared.event.Evidence.TheVariants.{Argument, Version, AllDown, Descriptor, Cells, Queue, Pool, Deadline, Role, Connections, Control, Conversation, Rows, Routine, NoRow, Ended}
use Rattle.xa_events.specs.Board.{boot, published, listed_in}
use Rattle.xa_events.specs.Queue.{is_down_of, is_down, is_close_of, is_closed}
use Rattle.xa_events.specs.Clock.{now as clock}
use Rattle.xa_events.specs.Calls.{Asking, as_call, as_acall, as_connect, AskRefused, IsTold, NoneOpen, NoDescriptor, IsShutOut, FitsEvent, FitsCall, MadeCalls, awaits_answer, is_accepted_by, HasBegun, IsConnected, IsUnconnected, IsOfEnd, is_connected, connection, SendRefused, ReceiveRefused, DisconnectRefused, AdvertiseRefused, UnadvertiseRefused}
use Rattle.xa_events.specs.Caller.{is_call_of, op_in, op_of, newest_call, accepted_in, open_descriptors, versions, is_conversational}
use Rattle.xa_events.specs.Request.{SentAs, sent_as, is_entry_of}
use Rattle.xa_events.specs.Server.{in_hand}
use Rattle.xa_events.proofs.LastEntry.{Shows}
use Rattle.xa_events.specs.Cases.{HasControl, is_numbered, named_by, NamesEnd, ShowsAt, queue_by}
use Rattle.xa_events.specs.Homes.{Home, at_home, of_worker, HeldSince}
use Rattle.xa_events.specs.Homes.Home.{BoardHome, QueueHome, ClockHome}
use Rattle.xa_events.specs.Local.{home_events, worker_events}
use Rattle.xa_events.specs.Words.{latest, greatest, has}
use Rattle.xa_events.proofs.Merge.{AllCases, called_own, descriptors_own, versions_own, down_own, closed_own, now_own, connections_own, in_hand_own, names_own, names_back}
use Rattle.xa_stamp.specs.declared.home.Stamped.{Stamped}
use Rattle.xa_worker.specs.Seen.{past_in, SawFront, SawQueue, SawSince, SawRows, StandsBehind, SawBegan}
use Rattle.xa_worker.specs.Crew.{stands_at}
use Rattle.xa_worker.specs.Calls.{BeginsSo, AskRefusedOwn, AdvertiseRefusedOwn, UnadvertiseRefusedOwn, ToldOf, FitsOwn, FitsTurn, MadeOwn, SawControl, SawBegun}
use Rattle.xa_worker.proofs.Lists.{filter-yes, past_in-filter}
use Rattle.xa_worker.proofs.Owned.{twice, own_events, own_at, known_before, last_seen, hand_busy}
use Rattle.xa_worker.proofs.Placed.{IsMergeOf}
use Rattle.xa_worker.proofs.Before.{NewIn, new_before, now, saw_new, since, since_take, listed_now, rows_seen, settled, control_told}
use Rattle.xa_worker.proofs.Workers.{Mounts, one_place, AtEach-from}

-- ---- a call's event is its caller's

by_caller : (by caller op : ℕ) → ((by == caller) && nat_lt 0 op) ≡ true → (by == caller) ≡ true
by_caller by caller op h = (and_parts (by == caller) (nat_lt 0 op) h).0

pub call_of_worker : (clients caller : ℕ) (e : Event) → is_call_of caller e ≡ true → of_worker clients caller e ≡ true
call_of_worker clients caller (Advertise a) h = by_caller a.by.0 caller a.op h
call_of_worker clients caller (Withdraw w) h = by_caller w.by.0 caller w.op h
call_of_worker clients caller (Accept a) h = by_caller a.by.0 caller a.op h
call_of_worker clients caller (Tick t) h = by_caller t.by.0 caller t.op h
call_of_worker clients caller (Answer a) h = by_caller a.by.0 caller a.op h
call_of_worker clients caller (Cancel c) h = by_caller c.by.0 caller c.op h
call_of_worker clients caller (Lapse l) h = by_caller l.by.0 caller l.op h
call_of_worker clients caller (Refuse r) h = by_caller r.by.0 caller r.op h
call_of_worker clients caller (NotYet n) h = by_caller n.by.0 caller n.op h
call_of_worker clients caller (Send s) h = by_caller s.by.0 caller s.op h
call_of_worker clients caller (Receive r) h = by_caller r.by.0 caller r.op h
call_of_worker clients caller (Break b) h = by_caller b.by.0 caller b.op h
call_of_worker clients caller (Priority p) h = by_caller p.by.0 caller p.op h
call_of_worker clients caller _ h = absurd (cc h)

some_weaker : {X : Type 0} (P Q : X → Type 0) → ((x : X) → P x → Q x) → (o : Option X) → IsSomeAnd o P → IsSomeAnd o Q
some_weaker P Q f None h = absurd h
some_weaker P Q f (Some x) h = f x h

some_so : {X : Type 0} (P Q : X → Type 0) (o : Option X) → ((x : X) → o ≡ Some x → P x → Q x) → IsSomeAnd o P → IsSomeAnd o Q
some_so P Q None f h = absurd h
some_so P Q (Some x) f h = f x refl h

-- the event that sent the request last says whether it began a conversation
begun_from : (conversational : Bool) (r : RequestId) (past : List Event) (o : Option Event) → Shows r past o → IsSomeAnd o (BeginsSo conversational) → HasBegun conversational r past
begun_from conversational r past None shows so = absurd so
begun_from conversational r past (Some (Accept a)) shows so =
    some_weaker (λ (sent : SentAs). sent.mode ≡ a.mode) (λ (sent : SentAs). is_conversational sent.mode ≡ conversational) (λ sent is. ap is_conversational is ∙ so) (sent_as r past) shows.1
begun_from conversational r past (Some (Forward f)) shows so = subst (λ (b : Bool). HasBegun b r past) (sym so) shows.1
begun_from conversational r past (Some _) shows so = absurd shows

-- ---- the calls of one client

shut_more : (queue : ℕ) (e : Event) (past : List Event) → (is_down queue past ≡ true) ⊎ (is_closed queue past ≡ true) → (is_down queue (e ∷ past) ≡ true) ⊎ (is_closed queue (e ∷ past) ≡ true)
unfolding is_down is_closed
shut_more queue e past (inl down) = inl (or_right (is_down_of queue e) (is_down queue past) down)
shut_more queue e past (inr closed) = inr (or_right (is_close_of queue e) (is_closed queue past) closed)

abbrev stamped : Stamp → Event → Stamped
stamped stamp event = record { stamp = stamp; event = event }

module _ (setup : Setup) (clients : ℕ) (held : Home → List Stamped) (merged : List Stamped) (events : List Event) (m : IsMergeOf setup clients held merged events)
    (cases : AllCases setup clients (past_in merged)) (news : NewIn setup clients (past_in merged)) (clock_low : ℕ) (clock_rises : Mounts clock_low (held ClockHome)) (caller : ℕ) (ops : List Op) (noted : List Stamped)
    (own : filter (λ (x : Stamped). of_worker clients caller x.event) merged ≡ filter (λ (x : Stamped). of_worker clients caller x.event) noted) (made : MadeOwn setup clients held caller ops noted) where
  called_now : newest_call caller (worker_events clients caller (past_in noted)) ≡ newest_call caller (past_in merged)
  called_now = ap (newest_call caller) (sym (own_events clients merged caller noted own)) ∙ called_own setup clients (past_in merged) caller

  module _ (before after : List Stamped) (x : Stamped) (split : merged ≡ before ++ x ∷ after) where
    abbrev past : List Event
    past = past_in before

    abbrev its : List Event
    its = worker_events clients caller past

    new_here : NewIn setup clients past
    new_here = new_before setup clients merged before after x split news

    called : newest_call caller its ≡ newest_call caller past
    called = called_own setup clients past caller

    its_open : (by : ℕ) → by ≡ caller → open_descriptors by its ≡ open_descriptors by past
    its_open by is = subst (λ n. open_descriptors n its ≡ open_descriptors n past) (sym is) (descriptors_own setup clients past caller)

    its_versions : (by : ℕ) → by ≡ caller → versions clients by its ≡ versions clients by past
    its_versions by is = subst (λ n. versions clients n its ≡ versions clients n past) (sym is) (versions_own setup clients past caller)

    filter-twice : worker_events clients caller its ≡ worker_events clients caller past
    filter-twice = twice (of_worker clients caller) past

    listed_seen : (v : ℕ) (service : List ℕ) (conversational : Bool) (P : List Row → Type 0) → SawFront (held BoardHome) x.stamp (λ past. (v ≤ published past) × P (listed_in setup past v service conversational)) → (v ≤ published past) × P (listed_in setup past v service conversational)
    listed_seen v service conversational P saw = listed_now setup clients held merged events m before after x split v service conversational P saw

    shut_whole : (queue : ℕ) → SawQueue setup queue (held (QueueHome queue)) x.stamp (λ past. (is_down queue past ≡ true) ⊎ (is_closed queue past ≡ true)) → (is_down queue past ≡ true) ⊎ (is_closed queue past ≡ true)
    shut_whole queue saw =
        let IsShutAt : List Event → Type 0 = λ past. (is_down queue past ≡ true) ⊎ (is_closed queue past ≡ true) in
        elim (now setup clients held merged events m before after x split (QueueHome queue) IsShutAt (shut_more queue) (saw_new setup clients held merged events m before after x split new_here queue IsShutAt saw)) [
          | inl down ↦ inl (sym (down_own setup clients past queue) ∙ down)
          | inr closed ↦ inr (sym (closed_own setup clients past queue) ∙ closed)
        ]

    -- at the clock it stands where it says
    ticked : (t : Ticked) (n : ℕ) → Tick t ≡ x.event → StandsBehind (held ClockHome) (record { stamp = x.stamp; event = Tick t }) (λ past. t.now ≡ clock past + n) → t.now ≡ clock past + n
    ticked t n here saw =
        let at : Stamped → Bool = stands_at setup clients ClockHome in
        let mine : at x ≡ true = subst (λ e. at_home setup clients ClockHome e ≡ true) here refl in
        let y : Stamped = record { stamp = x.stamp; event = Tick t } in
        let same : y ≡ x = ap (λ e. stamped x.stamp e) here in
        let there : held ClockHome ≡ filter at before ++ x ∷ filter at after = sym (m.theirs ClockHome) ∙ (ap (filter at) split ∙ (filter-append at before (x ∷ after) ∙ ap (λ ys. filter at before ++ ys) (filter-yes at x after mine))) in
        let stands : held ClockHome ≡ saw.before ++ x ∷ saw.after = saw.stands ∙ ap (λ z. saw.before ++ z ∷ saw.after) same in
        let place = one_place clock_low (filter at before) saw.before (filter at after) saw.after x (subst (Mounts clock_low) there clock_rises) (sym there ∙ stands) in
        let moment : home_events setup clients ClockHome past ≡ past_in saw.before = past_in-filter (at_home setup clients ClockHome) before ∙ ap past_in place in
        saw.shows ∙ ap (λ k. k + n) (ap clock (sym moment) ∙ now_own setup clients past)

    -- rows of which more is known
    All-rows : (P Q : Row → Type 0) (rows : List Row) → ((row : Row) → P row → Q row) → All P rows → All Q rows
    All-rows P Q rows f h = All-weaker P Q f rows h

    asked_whole : (by : ℕ) (how : Asking) (ask : Ask) (fault : Fault) (evidence : Evidence) → by ≡ caller → AskRefusedOwn setup clients held x.stamp by how ask fault evidence its → AskRefused setup clients by how ask fault evidence past
    asked_whole by how ask NoEnt (Version v) is h = (h.0, (listed_seen v ask.service how.conversational (λ rows. rows ≡ []) h.1).1)
    asked_whole by how ask IType (Version v) is h =
        let k = (listed_seen v ask.service how.conversational (λ rows. (rows ≡ [] → ⊥) × (is_accepted_by setup ask.payload rows ≡ false)) h.1).1 in (h.0, k.0, k.1)
    asked_whole by how ask Block (Queue queue n) is h =
        let saw = h.2 in
        let P : Row → Type 0 = λ row. (row.queue.0 ≡ queue.0) ⊎ SawSince setup clients held x.stamp by row.queue.0 (IsShutOut setup row.queue.0) its in
        let Q : Row → Type 0 = λ row. (row.queue.0 ≡ queue.0) ⊎ HeldSince setup clients by row.queue.0 (IsShutOut setup row.queue.0) past in
        let k = listed_seen saw.version ask.service how.conversational (λ rows. (list_any (λ (row : Row). row.queue.0 == queue.0) rows ≡ true) × All P rows) saw.listed in
        let twice : worker_events clients by its ≡ worker_events clients by past = subst (λ n. worker_events clients n its ≡ worker_events clients n past) (sym is) filter-twice in (
          h.0,
          h.1,
          record {
            version = saw.version;
            floor = subst (λ (vs : List ℕ). greatest (boot setup) vs ≤ saw.version) (its_versions by is) saw.floor;
            stood = k.0;
            lists = k.1.0;
            others = All-rows P Q (listed_in setup past saw.version ask.service how.conversational) (λ row p. elim p [
              | inl same ↦ inl same
              | inr seen ↦ inr (since setup clients held merged events m before after x split new_here by row.queue.0 (IsShutOut setup row.queue.0) its twice seen)
            ]) k.1.1;
          },
        )
    asked_whole by how ask System (AllDown v) is h =
        let IsShutAt : ℕ → List Event → Type 0 = λ queue past. (is_down queue past ≡ true) ⊎ (is_closed queue past ≡ true) in
        let P : Row → Type 0 = λ row. SawQueue setup row.queue.0 (held (QueueHome row.queue.0)) x.stamp (IsShutAt row.queue.0) in
        let k = (listed_seen v ask.service how.conversational (λ rows. (rows ≡ [] → ⊥) × All P rows) h.1).1 in
        (h.0, record { some = k.0; shut = All-rows P (λ row. IsShutAt row.queue.0 past) (listed_in setup past v ask.service how.conversational) (λ row seen. shut_whole row.queue.0 seen) k.1 })
    asked_whole by how ask Inval Argument is h = h
    asked_whole by how ask Limit (Cells n) is h = h
    asked_whole by how ask Limit (Connections n) is h = h
    asked_whole by how ask Block Pool is h = h
    asked_whole by how ask Time (Deadline tick deadline) is h = h
    asked_whole by how ask _ _ is h = absurd h

    told_whole : (expect : Option Kind) (b : Replied) → ToldOf setup clients held x.stamp expect b → IsTold expect b past
    told_whole expect b told = settled setup clients held merged events m before after x split b.request _ told.home told.told

    none_whole : (by : ℕ) (fault : Fault) (evidence : Evidence) → by ≡ caller → NoneOpen by fault evidence its → NoneOpen by fault evidence past
    none_whole by BadDesc (Descriptor d) is h = (h.0, sym (its_open by is) ∙ h.1)
    none_whole by _ _ is h = absurd h

    -- what the caller's own events say of its connections
    connected_same : (by : CallerId) (descriptor : ℕ) → caller ≡ by.0 → is_connected by descriptor its ≡ is_connected by descriptor past
    connected_same by descriptor is =
        let same : connections by.0 its ≡ connections by.0 past = subst (λ (n : ℕ). connections n its ≡ connections n past) is (connections_own setup clients past caller) in
        ap (has (connection by descriptor)) same

    control_same : (by : CallerId) (control : Bool) (request : RequestId) → caller ≡ by.0 → SawControl setup clients held x.stamp by its control request → HasControl control by.0 request past
    control_same by control request is h =
        subst (λ (n : ℕ). HasControl control n request past) is
        (control_told setup clients held merged events m before after x split control caller request (subst (λ (n : ℕ). ControlIs control n request its (SawBegan held x.stamp request)) (sym is) h))

    -- what its own events say of the end that a descriptor names
    named_same : (by : CallerId) (descriptor : ℕ) → caller ≡ by.0 → named_by clients by descriptor its ≡ named_by clients by descriptor past
    named_same by descriptor is =
        let hand : in_hand clients by.0 its ≡ in_hand clients by.0 past = subst (λ (n : ℕ). in_hand clients n its ≡ in_hand clients n past) is (in_hand_own setup clients past caller) in
        ap (λ o. if descriptor == 0 then o else Some (record { caller = by; number = descriptor })) hand

    names_same : (by : CallerId) (descriptor : ℕ) → caller ≡ by.0 → NamesEnd clients by descriptor its → NamesEnd clients by descriptor past
    names_same by descriptor is h = names_own setup clients past by descriptor (subst (λ (n : ℕ). NamesEnd clients by descriptor (worker_events clients n past)) is h)

    names_still : (by : CallerId) (descriptor : ℕ) → caller ≡ by.0 → NamesEnd clients by descriptor past → NamesEnd clients by descriptor its
    names_still by descriptor is h = subst (λ (n : ℕ). NamesEnd clients by descriptor (worker_events clients n past)) (sym is) (names_back setup clients past by descriptor h)

    is_connected_so : (by : CallerId) (descriptor : ℕ) (control : Bool) → caller ≡ by.0 → IsConnected clients control by descriptor its (SawControl setup clients held x.stamp by its) → IsConnected clients control by descriptor past (λ control request. HasControl control by.0 request past)
    is_connected_so by descriptor control is h = (
      names_same by descriptor is h.0,
      some_weaker (SawControl setup clients held x.stamp by its control) (λ request. HasControl control by.0 request past) (λ request k. control_same by control request is k) (named_by clients by descriptor past)
          (subst (λ (o : Option RequestId). IsSomeAnd o (SawControl setup clients held x.stamp by its control)) (named_same by descriptor is) h.1),
    )

    -- the request in hand began a conversation or didn't, as its server saw at its own queue
    begun_same : (conversational : Bool) (by : CallerId) (request : RequestId) → caller ≡ by.0 → in_hand clients by.0 past ≡ Some request → SawBegun setup clients held x.stamp conversational by its request → HasBegun conversational request past
    begun_same conversational by request is hand saw =
        let busy = hand_busy clients by.0 past request hand in
        let P : List Event → Type 0 = λ moment. IsSomeAnd (latest (is_entry_of request) moment) (BeginsSo conversational) in
        let twice = subst (λ n. worker_events clients n its ≡ worker_events clients n past) (is ∙ sym busy.0) filter-twice in
        let held_so = since_take setup clients held merged events m before after x split new_here (by.0 - clients) P its twice saw in
        let known = known_before setup clients merged before after x split cases in
        begun_from conversational request past (latest (is_entry_of request) past) (known.shows request)
        (last_seen setup clients past known (by.0 - clients) busy.1.0 request busy.1.1 (BeginsSo conversational) held_so)

    unconnected_so : (by : CallerId) (descriptor : ℕ) → caller ≡ by.0 → IsUnconnected clients by descriptor its (SawBegun setup clients held x.stamp false by its) → IsUnconnected clients by descriptor past (λ request. HasBegun false request past)
    unconnected_so by descriptor is (inl none) = inl (λ h. none (names_still by descriptor is h))
    unconnected_so by descriptor is (inr plain) =
        let hand : in_hand clients by.0 its ≡ in_hand clients by.0 past = subst (λ (n : ℕ). in_hand clients n its ≡ in_hand clients n past) is (in_hand_own setup clients past caller) in
        inr (
          plain.0,
          some_so (SawBegun setup clients held x.stamp false by its) (λ request. HasBegun false request past) (in_hand clients by.0 past) (λ request here k. begun_same false by request is here k)
              (subst (λ (o : Option RequestId). IsSomeAnd o (SawBegun setup clients held x.stamp false by its)) hand plain.1),
        )

    of_end_so : (by : CallerId) (descriptor : ℕ) (request : RequestId) → caller ≡ by.0 → IsOfEnd clients by descriptor request its → IsOfEnd clients by descriptor request past
    of_end_so by descriptor request is h = record { named = sym (named_same by descriptor is) ∙ h.named; is_open = names_same by descriptor is h.is_open }

    send_same : (by : CallerId) (descriptor : ℕ) (flags : CallFlags) (payload : Data) (fault : Fault) (evidence : Evidence) → caller ≡ by.0
        → SendRefused setup clients by descriptor flags payload fault evidence its (SawControl setup clients held x.stamp by its) (SawBegun setup clients held x.stamp false by its)
        → SendRefused setup clients by descriptor flags payload fault evidence past (λ control request. HasControl control by.0 request past) (λ request. HasBegun false request past)
    send_same by descriptor flags payload Inval Argument is h = h
    send_same by descriptor flags payload BadDesc (Descriptor named) is h = (h.0, h.1, unconnected_so by descriptor is h.2)
    send_same by descriptor flags payload Proto (Control control) is h = (h.0, h.1, is_connected_so by descriptor false is h.2)
    send_same by descriptor flags payload Block (Conversation named) is h = (h.0, h.1, h.2, is_connected_so by descriptor true is h.3)
    send_same by descriptor flags payload Block Pool is h = (h.0, h.1, is_connected_so by descriptor true is h.2)
    send_same by descriptor flags payload Time (Deadline tick deadline) is h = (h.0, h.1, is_connected_so by descriptor true is h.2)
    send_same by descriptor flags payload EventFault (Ended named event code) is h = h
    send_same by descriptor flags payload _ _ is h = absurd h

    receive_same : (by : CallerId) (descriptor : ℕ) (flags : CallFlags) (fault : Fault) (evidence : Evidence) → caller ≡ by.0
        → ReceiveRefused clients by descriptor flags fault evidence its (SawControl setup clients held x.stamp by its) (SawBegun setup clients held x.stamp false by its)
        → ReceiveRefused clients by descriptor flags fault evidence past (λ control request. HasControl control by.0 request past) (λ request. HasBegun false request past)
    receive_same by descriptor flags BadDesc (Descriptor named) is h = (h.0, unconnected_so by descriptor is h.1)
    receive_same by descriptor flags Proto (Control control) is h = (h.0, is_connected_so by descriptor true is h.1)
    receive_same by descriptor flags Block (Conversation named) is h = (h.0, h.1, is_connected_so by descriptor false is h.2)
    receive_same by descriptor flags Time (Deadline tick deadline) is h = (h.0, is_connected_so by descriptor false is h.1)
    receive_same by descriptor flags _ _ is h = absurd h

    -- what a version shows of a change that is refused
    rows_so : (by : CallerId) (P : List Row → Type 0) → caller ≡ by.0 → SawRows setup clients held x.stamp by P its → ShowsAt setup clients by P past
    rows_so by P is saw = rows_seen setup clients held merged events m before after x split by P its (subst (λ n. worker_events clients n its ≡ worker_events clients n past) is filter-twice) saw

    advertise_same : (by : CallerId) (service routine : List ℕ) (fault : Fault) (evidence : Evidence) → caller ≡ by.0 → AdvertiseRefusedOwn setup clients held x.stamp by service routine fault evidence its → AdvertiseRefused setup clients by service routine fault evidence past
    advertise_same by service routine Match (Routine found) is h = (h.0, h.1, h.2, rows_so by (λ rows. IsSomeAnd (row_of service (queue_by setup clients by.0) rows) (λ row. row.routine ≡ found)) is h.3)
    advertise_same by service routine Limit (Rows n) is h = (h.0, h.1, rows_so by (λ rows. (length rows ≡ n) × (row_of service (queue_by setup clients by.0) rows ≡ None)) is h.2)
    advertise_same by service routine Proto Role is h = h
    advertise_same by service routine Inval Argument is h = h
    advertise_same by service routine _ _ is h = absurd h

    unadvertise_same : (by : CallerId) (service : List ℕ) (fault : Fault) (evidence : Evidence) → caller ≡ by.0 → UnadvertiseRefusedOwn setup clients held x.stamp by service fault evidence its → UnadvertiseRefused setup clients by service fault evidence past
    unadvertise_same by service NoEnt NoRow is h = (h.0, h.1, rows_so by (λ rows. row_of service (queue_by setup clients by.0) rows ≡ None) is h.2)
    unadvertise_same by service Proto Role is h = h
    unadvertise_same by service Inval Argument is h = h
    unadvertise_same by service _ _ is h = absurd h

    disconnect_same : (by : CallerId) (descriptor : ℕ) (fault : Fault) (evidence : Evidence) → caller ≡ by.0 → DisconnectRefused by descriptor fault evidence its → DisconnectRefused by descriptor fault evidence past
    disconnect_same by descriptor BadDesc (Descriptor named) is h = (h.0, sym (connected_same by descriptor is) ∙ h.1)
    disconnect_same by descriptor _ _ is h = absurd h

    descriptor_whole : (by descriptor : ℕ) (fault : Fault) (evidence : Evidence) → by ≡ caller → NoDescriptor by descriptor fault evidence its → NoDescriptor by descriptor fault evidence past
    descriptor_whole by descriptor BadDesc (Descriptor d) is h = (h.0, sym (ap (is_numbered d) (its_open by is)) ∙ h.1)
    descriptor_whole by descriptor _ _ is h = absurd h

    fits_whole : (op : Op) (e : Event) → e ≡ x.event → is_call_of caller e ≡ true → FitsOwn setup clients held x.stamp op e its → FitsEvent setup clients op e past
    fits_whole (Call ask) (Answer b) here is fits =
        let by : caller ≡ b.by.0 = sym (eqb-true b.by.0 caller (by_caller b.by.0 caller b.op is)) in
        let same_call : newest_call b.by.0 its ≡ newest_call b.by.0 past = subst (λ (n : ℕ). newest_call n its ≡ newest_call n past) by called in
        record {
          same = fits.same ∙ ap op_of same_call;
          request = sym (ap accepted_in same_call) ∙ fits.request;
          told = settled setup clients held merged events m before after x split b.request _ fits.home fits.told;
        }
    fits_whole (Call ask) (Refuse r) here is fits = asked_whole r.by.0 (as_call setup ask) ask r.fault r.evidence (eqb-true r.by.0 caller (by_caller r.by.0 caller r.op is)) fits
    fits_whole (Acall ask) (Refuse r) here is fits = asked_whole r.by.0 (as_acall setup ask) ask r.fault r.evidence (eqb-true r.by.0 caller (by_caller r.by.0 caller r.op is)) fits
    fits_whole (Get d flags expect) (Answer b) here is fits = (fits.0, told_whole expect b fits.1)
    fits_whole (GetAny flags expect) (Answer b) here is fits = told_whole expect b fits
    fits_whole (GetAny flags expect) (NotYet n) here is fits = (fits.0, fits.1 ∙ its_open n.by.0 (eqb-true n.by.0 caller (by_caller n.by.0 caller n.op is)))
    fits_whole (GetAny flags expect) (Lapse l) here is fits = (fits.0, fits.1, fits.2 ∙ its_open l.by.0 (eqb-true l.by.0 caller (by_caller l.by.0 caller l.op is)))
    fits_whole (GetAny flags expect) (Refuse r) here is fits = none_whole r.by.0 r.fault r.evidence (eqb-true r.by.0 caller (by_caller r.by.0 caller r.op is)) fits
    fits_whole (TickOp n) (Tick t) here is fits = ticked t n here fits
    fits_whole (CancelOp d) (Cancel c) here is fits = fits
    fits_whole (PriorityOp absolute amount) (Priority p) here is fits = fits
    fits_whole (AdvertiseOp service routine) (Refuse r) here is fits = advertise_same r.by service routine r.fault r.evidence (sym (eqb-true r.by.0 caller (by_caller r.by.0 caller r.op is))) fits
    fits_whole (Unadvertise service) (Refuse r) here is fits = unadvertise_same r.by service r.fault r.evidence (sym (eqb-true r.by.0 caller (by_caller r.by.0 caller r.op is))) fits
    fits_whole (SendOp descriptor flags passes payload) (Send s) here is fits = record {
      sound = fits.sound;
      end = of_end_so s.by descriptor s.request (sym (eqb-true s.by.0 caller (by_caller s.by.0 caller s.op is))) fits.end;
      payload_sent = fits.payload_sent;
      passed = fits.passed;
    }
    fits_whole (ReceiveOp descriptor flags) (Receive r) here is fits = of_end_so r.by descriptor r.request (sym (eqb-true r.by.0 caller (by_caller r.by.0 caller r.op is))) fits
    fits_whole (Connect ask) (Refuse r) here is fits = asked_whole r.by.0 (as_connect setup ask) ask r.fault r.evidence (eqb-true r.by.0 caller (by_caller r.by.0 caller r.op is)) fits
    fits_whole (SendOp descriptor flags passes payload) (Refuse r) here is fits = send_same r.by descriptor flags payload r.fault r.evidence (sym (eqb-true r.by.0 caller (by_caller r.by.0 caller r.op is))) fits
    fits_whole (ReceiveOp descriptor flags) (Refuse r) here is fits = receive_same r.by descriptor flags r.fault r.evidence (sym (eqb-true r.by.0 caller (by_caller r.by.0 caller r.op is))) fits
    fits_whole (Disconnect descriptor) (Refuse r) here is fits = disconnect_same r.by descriptor r.fault r.evidence (sym (eqb-true r.by.0 caller (by_caller r.by.0 caller r.op is))) fits
    fits_whole (Get d flags expect) (Refuse r) here is fits = descriptor_whole r.by.0 d r.fault r.evidence (eqb-true r.by.0 caller (by_caller r.by.0 caller r.op is)) fits
    fits_whole (CancelOp d) (Refuse r) here is fits = descriptor_whole r.by.0 d r.fault r.evidence (eqb-true r.by.0 caller (by_caller r.by.0 caller r.op is)) fits
    fits_whole op e here is fits = fits

    turn_whole : is_call_of caller x.event ≡ true → FitsTurn setup clients held x.stamp caller ops x.event its → FitsCall setup clients caller ops x.event past
    turn_whole is fits = record {
      fits = some_weaker (λ op. FitsOwn setup clients held x.stamp op x.event its) (λ op. FitsEvent setup clients op x.event past) (λ op f. fits_whole op x.event refl is f) (numbered (op_in x.event) ops) fits.fits;
      turn = λ begins. sym (ap (awaits_answer ops) called) ∙ fits.turn (begins ∙ sym (ap (λ o. op_of o + 1) called));
    }

    -- its place among what the caller noted
    its_turn : is_call_of caller x.event ≡ true → FitsTurn setup clients held x.stamp caller ops x.event its
    its_turn is =
        own_at clients merged caller noted own before after x split (call_of_worker clients caller x.event is) (λ (y : Stamped) own. is_call_of caller y.event ≡ true → FitsTurn setup clients held y.stamp caller ops y.event own) made.each is

  pub made_calls : MadeCalls setup clients caller ops (past_in merged)
  made_calls = record {
    all = sym (ap op_of called_now) ∙ made.all;
    each = AtEach-from (λ e before. is_call_of caller e ≡ true → FitsCall setup clients caller ops e before) merged (λ before after x split is. turn_whole before after x split is (its_turn before after x split is));
    over = sym (ap (awaits_answer ops) called_now) ∙ made.over;
  }
