-- Events of which each meets its parts where they are asked are a run.
use Rattle.std.proofs.Common.{◌≡◌, ℕ, ◌+◌, ◌-◌, ◌<◌, ◌≤◌, ◌==◌, ◌||◌, not, if◌then◌else◌, Bool, true, false, cond, List, [], ◌∷◌, ◌++◌, length, reverse, drop, Option, Some, None, inl, inr, refl, sym, ◌∙◌, ap, subst, arith, eq-eqb, eqb-true, ltb-true}
use Rattle.std.specs.Prelude.{slice_get, IsSome, IsSomeAnd, nat_lt, ◌&&◌, IfSome, ◌⊎◌}
use Rattle.std.specs.List.{filter, find, list_all}
use Rattle.std.proofs.lemmas.Bool.{cases_Bool, or_right, and_parts, lt-ltb}
use Rattle.std.proofs.lemmas.Option.{slice_get_within}
use Rattle.std.proofs.lemmas.List.{reverse-append}
use Rattle.xa_types.specs.declared.ids.RequestId.{RequestId}
use Rattle.xa_types.specs.declared.ids.CallerId.{CallerId}
use Rattle.xa_types.specs.declared.call.Mode.{Mode}
use Rattle.xa_types.specs.declared.call.Mode.TheVariants.{Reply, NoReply, ConvReceives, ConvSends}
use Rattle.xa_events.specs.declared.event.Evidence.{Evidence}
use Rattle.xa_events.specs.Conversation.{Side, connections, side_of, side_from, is_hand_closed}
use Rattle.xa_events.specs.Conversation.Side.{Originator, Service}
use Rattle.xa_events.proofs.WordsLemmas.{some_weaker}
use Rattle.xa_events.specs.Laws.{LawOfServers}
use Rattle.xa_events.proofs.Servers.{servers_more}
use Rattle.xa_events.proofs.There.{known_queue, known_server}
use Rattle.xa_events.proofs.Localities.{in_hand_busy}
use Rattle.xa_types.specs.declared.setup.Setup.{Setup}
use Rattle.xa_types.specs.declared.row.Row.{Row}
use Rattle.xa_types.specs.Rows.{Change, configured, rows, rows_at, row_of, is_row_of, row_for, row_with}
use Rattle.xa_types.specs.Setup.{queue_of, capacity_of, service_named}
use Rattle.xa_types.specs.declared.setup.ServiceSetup.{ServiceSetup}
use Rattle.std.specs.Str.{bytes_eq}
use Rattle.xa_events.specs.declared.event.Doing.{Doing}
use Rattle.xa_events.specs.declared.event.Doing.TheVariants.{Busy}
use Rattle.xa_events.specs.declared.event.Event.{Event}
use Rattle.xa_events.specs.declared.event.Event.TheVariants.{Advertise, Withdraw, Accept, Take, Forward, Sweep, Gone, Down, Close, Start, StartFailed, End, Stop, Tick, Answer, Cancel, Lapse, NotYet, Refuse, Leave, Priority, Send, Receive, Break}
use Rattle.xa_events.specs.declared.event.Started.{Started}
use Rattle.xa_events.specs.declared.event.Forwarded.{Forwarded}
use Rattle.xa_events.specs.declared.event.Evidence.TheVariants.{Argument, Version, AllDown, Descriptor, Cells, Clock, Queue, Pool, Deadline, Role, Connections, Control, Conversation, Rows, Routine, NoRow, Ended as EndedEvidence}
use Rattle.xa_types.specs.declared.fault.Fault.{Fault}
use Rattle.xa_types.specs.declared.fault.Fault.TheVariants.{Inval, NoEnt, IType, BadDesc, Limit, Block, Time, Proto, System, Match, Event as EventFault}
use Rattle.xa_events.specs.Words.{AtEach, IsEarlier, has, without, added, greatest}
use Rattle.xa_events.specs.State.{State, opening, noted, caller_of}
use Rattle.xa_events.specs.Homes.{Home, same_home, home_of, worker_of, at_home, of_worker}
use Rattle.xa_events.specs.Homes.Home.{BoardHome, QueueHome, ClockHome, CallerHome}
use Rattle.xa_events.specs.Board.{changes, published, boot, rows_of_version}
use Rattle.xa_events.specs.Queue.{waiting, takes, is_down, is_closed, comes_in, goes_out, is_close_of}
use Rattle.xa_events.specs.Server.{doing, doing_after, is_busy, starts, is_gone, is_gone_of, was_shut_down, is_shutdown_stop, last_outcome, outcome_in, may_start, AllGone, held_in, in_hand}
use Rattle.xa_events.specs.Caller.{newest_call, op_of, accepted_in, accepted, open_descriptors, versions, ticks, tick_floor, has_left, is_leaving, is_client, is_active, is_serving, may_give_up, unanswered, least_version, descriptor_limit, next_priority, priority_asked, is_conversational}
use Rattle.xa_events.specs.Cases.{Case, HomePart, WorkerPart, NamedBefore, ForwardBefore, EntryHome, IsNextCall, LooksAt, IsDue, ShowsItself, IsShut, NoRows, idle_stops, dying_stops, priority_by, connection_limit, HasRoom, HasOpen, OpenEnd, named_by, side_named, NamesEnd, IsOwnEvidence, is_numbered, ChangeWorker, row_limit}
use Rattle.xa_events.specs.Clock.{now, tick_to}
use Rattle.xa_events.specs.Run.{Run}
use Rattle.xa_events.specs.Local.{Local, SeenBefore, SawShut, SawForwardable, Forwardable, home_events, worker_events}
use Rattle.xa_events.proofs.Owns.{board_own, clock_own, queue_own, server_own, caller_own}
use Rattle.xa_events.proofs.LastEntry.{IsKnown, known_none, known_more, shown_forwardable}

-- ---- the ends of conversations, by what is read of their caller

-- two lists read alike for the ends that are open at the caller
pub record EndsAlike (clients caller : ℕ) (these those : List Event) : Type 0 where
  pub hand : in_hand clients caller these ≡ in_hand clients caller those
  pub closed : is_hand_closed clients caller these ≡ is_hand_closed clients caller those
  pub side : (request : RequestId) → side_of caller request these ≡ side_of caller request those
  pub connected : connections caller these ≡ connections caller those

alike_back : {clients caller : ℕ} {these those : List Event} → EndsAlike clients caller these those → EndsAlike clients caller those these
alike_back alike = record { hand = sym alike.hand; closed = sym alike.closed; side = λ request. sym (alike.side request); connected = sym alike.connected }

has_open_alike : {clients caller : ℕ} {these those : List Event} → EndsAlike clients caller these those → (request : RequestId) (side : Side) → HasOpen clients caller request these side → HasOpen clients caller request those side
has_open_alike alike request Originator h = sym (ap (has request) alike.connected) ∙ h
has_open_alike alike request Service h = (sym alike.hand ∙ h.0, sym alike.closed ∙ h.1)

open_alike : {clients caller : ℕ} {these those : List Event} → EndsAlike clients caller these those → (request : RequestId) → OpenEnd clients caller request these → OpenEnd clients caller request those
open_alike {clients} {caller} {these} {those} alike request h = subst (HasOpen clients caller request those) (alike.side request) (has_open_alike alike request (side_of caller request these) h)

pub named_alike : {clients : ℕ} (caller : CallerId) (descriptor : ℕ) {these those : List Event} → EndsAlike clients caller.0 these those → named_by clients caller descriptor these ≡ named_by clients caller descriptor those
named_alike caller descriptor alike = ap (λ o. if descriptor == 0 then o else Some (record { caller = caller; number = descriptor })) alike.hand

names_alike : {clients : ℕ} (caller : CallerId) (descriptor : ℕ) {these those : List Event} → EndsAlike clients caller.0 these those → NamesEnd clients caller descriptor these → NamesEnd clients caller descriptor those
names_alike {clients} caller descriptor {these} {those} alike h =
    let P : List Event → RequestId → Type 0 = λ past request. (side_of caller.0 request past ≡ side_named descriptor) × OpenEnd clients caller.0 request past in
    subst (λ (o : Option RequestId). IsSomeAnd o (P those)) (named_alike caller descriptor alike)
    (some_weaker (P these) (P those) (λ request o. (sym (alike.side request) ∙ o.0, open_alike alike request o.1)) (named_by clients caller descriptor these) h)

-- ---- a part of a list, and the whole

pub AtEach-rest : {X : Type 0} (q : X → Bool) (P : X → List X → Type 0) (e : X) (past : List X) → AtEach P (filter q (e ∷ past)) → AtEach P (filter q past)
AtEach-rest q P e past h =
    elim (cases_Bool (q e)) [
      | inl y ↦ let g = subst (λ (b : Bool). AtEach P (cond b (e ∷ filter q past) (filter q past))) y h in g.1
      | inr n ↦ subst (λ (b : Bool). AtEach P (cond b (e ∷ filter q past) (filter q past))) n h
    ]

pub AtEach-here : {X : Type 0} (q : X → Bool) (P : X → List X → Type 0) (e : X) (past : List X) → q e ≡ true → AtEach P (filter q (e ∷ past)) → P e (filter q past)
AtEach-here q P e past y h = let g = subst (λ (b : Bool). AtEach P (cond b (e ∷ filter q past) (filter q past))) y h in g.0

pub earlier_self : {X : Type 0} (past : List X) → IsEarlier past past
earlier_self [] = refl
earlier_self (e ∷ past) = inl refl

-- an earlier moment of the whole is one of the part
pub earlier_own : {X : Type 0} (q : X → Bool) (seen past : List X) → IsEarlier seen past → IsEarlier (filter q seen) (filter q past)
earlier_own q seen [] is = ap (filter q) is
earlier_own q seen (e ∷ past) (inl is) = subst (λ xs. IsEarlier (filter q xs) (filter q (e ∷ past))) (sym is) (earlier_self (filter q (e ∷ past)))
earlier_own q seen (e ∷ past) (inr older) =
    elim (cases_Bool (q e)) [
      | inl y ↦ subst (λ (b : Bool). IsEarlier (filter q seen) (cond b (e ∷ filter q past) (filter q past))) (sym y) (inr (earlier_own q seen past older))
      | inr n ↦ subst (λ (b : Bool). IsEarlier (filter q seen) (cond b (e ∷ filter q past) (filter q past))) (sym n) (earlier_own q seen past older)
    ]

pub same_home-self : (home : Home) → same_home home home ≡ true
same_home-self BoardHome = refl
same_home-self (QueueHome queue) = eq-eqb queue queue refl
same_home-self ClockHome = refl
same_home-self (CallerHome caller) = eq-eqb caller caller refl

-- ---- each reading, off the events of its home or its worker

module _ (setup : Setup) (clients : ℕ) (past : List Event) where
  abbrev board : List Event
  board = home_events setup clients BoardHome past

  pub changes_own : changes board ≡ changes past
  changes_own = ap (λ view. view.changes) (board_own setup clients past)

  pub published_own : published board ≡ published past
  unfolding published
  published_own = ap length changes_own

  pub rows_own : (v : ℕ) → rows_of_version setup board v ≡ rows_of_version setup past v
  unfolding rows_of_version
  rows_own v = ap (λ cs. rows_at setup cs v) changes_own

  pub stands_own : rows_of_version setup board (published board) ≡ rows_of_version setup past (published past)
  stands_own = rows_own (published board) ∙ ap (rows_of_version setup past) published_own

  pub now_own : now (home_events setup clients ClockHome past) ≡ now past
  unfolding now
  now_own = ap (λ view. tick_to view.ticked) (clock_own setup clients past)

  module _ (queue : ℕ) where
    abbrev here : List Event
    here = home_events setup clients (QueueHome queue) past

    pub waiting_own : waiting setup queue here ≡ waiting setup queue past
    waiting_own = ap (λ view. view.waiting) (queue_own setup clients queue past)

    takes_own : takes setup queue here ≡ takes setup queue past
    takes_own = ap (λ view. view.takes) (queue_own setup clients queue past)

    pub down_own : is_down queue here ≡ is_down queue past
    down_own = ap (λ view. view.down) (queue_own setup clients queue past)

    pub closed_own : is_closed queue here ≡ is_closed queue past
    closed_own = ap (λ view. view.closed) (queue_own setup clients queue past)

  module _ (server : ℕ) where
    abbrev its : List Event
    its = worker_events clients (caller_of clients server) past

    doing_own : doing server its ≡ doing server past
    unfolding doing
    doing_own = ap (λ view. doing_after view.moved) (server_own clients server past)

    starts_own : starts server its ≡ starts server past
    starts_own = ap (λ view. view.starts) (server_own clients server past)

    pub gone_own : is_gone server its ≡ is_gone server past
    gone_own = ap (λ view. view.gone) (server_own clients server past)

    pub shut_own : was_shut_down server its ≡ was_shut_down server past
    unfolding was_shut_down
    shut_own = ap (λ view. is_shutdown_stop view.stopped) (server_own clients server past)

    outcome_own : last_outcome server its ≡ last_outcome server past
    unfolding last_outcome
    outcome_own = ap (λ view. outcome_in view.moved) (server_own clients server past)

  module _ (caller : ℕ) where
    abbrev own : List Event
    own = worker_events clients caller past

    pub called_own : newest_call caller own ≡ newest_call caller past
    called_own = ap (λ view. view.called) (caller_own clients caller past)

    accepted_own : accepted caller own ≡ accepted caller past
    accepted_own = ap (λ view. view.accepted) (caller_own clients caller past)

    pub descriptors_own : open_descriptors caller own ≡ open_descriptors caller past
    descriptors_own = ap (λ view. view.descriptors) (caller_own clients caller past)

    pub versions_own : versions clients caller own ≡ versions clients caller past
    versions_own = ap (λ view. view.versions) (caller_own clients caller past)

    ticks_own : ticks clients caller own ≡ ticks clients caller past
    ticks_own = ap (λ view. view.ticks) (caller_own clients caller past)

    pub left_own : has_left caller own ≡ has_left caller past
    left_own = ap (λ view. view.left) (caller_own clients caller past)

    set_own : next_priority clients caller own ≡ next_priority clients caller past
    unfolding next_priority
    set_own = ap (λ view. priority_asked view.set) (caller_own clients caller past)

    leaving_own : is_leaving caller own ≡ is_leaving caller past
    leaving_own = ap (λ view. view.leaving) (caller_own clients caller past)

    unanswered_own : unanswered caller own ≡ unanswered caller past
    unanswered_own = ap (λ view. view.unanswered) (caller_own clients caller past)

    -- the server of a caller above the clients
    its_doing : (clients < caller) → doing (caller - clients) own ≡ doing (caller - clients) past
    its_doing above =
        let its : caller_of clients (caller - clients) ≡ caller = omega (arith, above) in
        subst (λ (c : ℕ). doing (caller - clients) (worker_events clients c past) ≡ doing (caller - clients) past) its (doing_own (caller - clients))

    busy_own : (busy : Doing → Bool) → (nat_lt clients caller && busy (doing (caller - clients) own)) ≡ (nat_lt clients caller && busy (doing (caller - clients) past))
    busy_own busy = elim (cases_Bool (nat_lt clients caller)) [
      | inl above ↦ ap (λ d. nat_lt clients caller && busy d) (its_doing (ltb-true clients caller above))
      | inr below ↦ ap (λ b. b && busy (doing (caller - clients) own)) below ∙ sym (ap (λ b. b && busy (doing (caller - clients) past)) below)
    ]

    active_own : is_active clients caller own ≡ is_active clients caller past
    active_own =
        ap (λ b. if is_client clients caller then not b && not (is_leaving caller own) else is_serving clients caller own) left_own
        ∙ (ap (λ b. if is_client clients caller then not (has_left caller past) && not b else is_serving clients caller own) leaving_own
        ∙ ap (λ b. if is_client clients caller then not (has_left caller past) && not (is_leaving caller past) else b) (busy_own is_busy))

    may_own : may_give_up clients caller own ≡ may_give_up clients caller past
    may_own =
        ap (λ b. if is_client clients caller then not b else nat_lt clients caller && not (is_busy (doing (caller - clients) own))) left_own
        ∙ ap (λ b. if is_client clients caller then not (has_left caller past) else b) (busy_own (λ d. not (is_busy d)))

    pub connections_own : connections caller own ≡ connections caller past
    connections_own = ap (λ view. view.connections) (caller_own clients caller past)

    hand_closed_own : is_hand_closed clients caller own ≡ is_hand_closed clients caller past
    hand_closed_own = ap (λ view. view.hand_closed) (caller_own clients caller past)

    pub side_own : (request : RequestId) → side_of caller request own ≡ side_of caller request past
    side_own request = ap (λ view. side_from caller request view.broken) (caller_own clients caller past)

    pub in_hand_own : in_hand clients caller own ≡ in_hand clients caller past
    in_hand_own =
        elim (cases_Bool (nat_lt clients caller)) [
          | inl y ↦
              let behind = ltb-true clients caller y in
              let server : ℕ = caller - clients in
              let is : caller_of clients server ≡ caller = omega (arith, behind) in
              let same : doing server own ≡ doing server past = subst (λ n. doing server (worker_events clients n past) ≡ doing server past) is (doing_own server) in
              ap (λ b. if b then held_in (doing server own) else None) y ∙ (ap held_in same ∙ sym (ap (λ b. if b then held_in (doing server past) else None) y))
          | inr n ↦ ap (λ b. if b then held_in (doing (caller - clients) own) else None) n ∙ sym (ap (λ b. if b then held_in (doing (caller - clients) past) else None) n)
        ]

    ends_own : EndsAlike clients caller own past
    ends_own = record { hand = in_hand_own; closed = hand_closed_own; side = side_own; connected = connections_own }

    open_own : (request : RequestId) → OpenEnd clients caller request own → OpenEnd clients caller request past
    open_own request h = open_alike ends_own request h

    room_own : (mode : Mode) → HasRoom clients caller mode own → HasRoom clients caller mode past
    room_own Reply h = subst (λ (rs : List RequestId). length rs < descriptor_limit clients caller) descriptors_own h
    room_own ConvReceives h = subst (λ (rs : List RequestId). length rs < connection_limit) connections_own h
    room_own ConvSends h = subst (λ (rs : List RequestId). length rs < connection_limit) connections_own h
    room_own NoReply h = tt

    next_own : (op : ℕ) → IsNextCall clients caller op own → IsNextCall clients caller op past
    next_own op n = record { active = sym active_own ∙ n.active; next = n.next ∙ ap (λ e. op_of e + 1) called_own }

    looks_own : (requests : List RequestId) → LooksAt caller requests own → LooksAt caller requests past
    looks_own requests l = record { some = l.some; each = sym (ap (λ ds. list_all (λ (r : RequestId). (r.caller.0 == caller) && has r ds) requests) descriptors_own) ∙ l.each }

    due_own : (now deadline : ℕ) → IsDue setup clients caller now deadline own → IsDue setup clients caller now deadline past
    due_own now deadline d = record { block = d.block; floor = subst (λ (ns : List ℕ). greatest 0 ns ≤ deadline - setup.block_time) ticks_own d.floor; due = d.due }

    floor_own : (v : ℕ) → least_version setup clients caller own ≤ v → least_version setup clients caller past ≤ v
    floor_own v h = subst (λ (vs : List ℕ). greatest (boot setup) vs ≤ v) versions_own h

    shows_own : (fault : Fault) (evidence : Evidence) → ShowsItself setup clients caller fault evidence own → ShowsItself setup clients caller fault evidence past
    shows_own Inval Argument h = tt
    shows_own NoEnt (Version v) h = floor_own v h
    shows_own IType (Version v) h = floor_own v h
    shows_own System (AllDown v) h = floor_own v h
    shows_own BadDesc (Descriptor d) (inl h) = inl (sym (ap (is_numbered d) descriptors_own) ∙ h)
    shows_own BadDesc (Descriptor d) (inr h) = inr (sym (ap (is_numbered d) connections_own) ∙ h)
    shows_own Limit (Cells n) h = (h.0, subst (λ (rs : List RequestId). n ≤ length rs) unanswered_own h.1)
    shows_own Limit (Clock tick) h = subst (λ (ns : List ℕ). greatest 0 ns ≤ tick) ticks_own h
    shows_own Block (Queue queue n) h = h
    shows_own Block Pool h = tt
    shows_own Time (Deadline tick deadline) h = due_own tick deadline h
    shows_own Proto Role h = tt
    shows_own Limit (Connections n) h = (h.0, sym (ap length connections_own) ∙ h.1)
    shows_own Proto (Control control) h = tt
    shows_own Block (Conversation descriptor) h = tt
    shows_own EventFault (EndedEvidence descriptor event code) h = tt
    shows_own Limit (Rows n) h = tt
    shows_own Match (Routine routine) h = tt
    shows_own NoEnt NoRow h = tt
    shows_own _ _ h = absurd h

pub names_own : (setup : Setup) (clients : ℕ) (past : List Event) (caller : CallerId) (descriptor : ℕ) → NamesEnd clients caller descriptor (worker_events clients caller.0 past) → NamesEnd clients caller descriptor past
names_own setup clients past caller descriptor h = names_alike caller descriptor (ends_own setup clients past caller.0) h

pub names_back : (setup : Setup) (clients : ℕ) (past : List Event) (caller : CallerId) (descriptor : ℕ) → NamesEnd clients caller descriptor past → NamesEnd clients caller descriptor (worker_events clients caller.0 past)
names_back setup clients past caller descriptor h = names_alike caller descriptor (alike_back (ends_own setup clients past caller.0)) h

evidence_own : (setup : Setup) (clients : ℕ) (past : List Event) (caller : CallerId) (evidence : Evidence) → IsOwnEvidence clients caller evidence (worker_events clients caller.0 past) → IsOwnEvidence clients caller evidence past
evidence_own setup clients past caller (Conversation descriptor) h = names_own setup clients past caller descriptor h
evidence_own setup clients past caller (EndedEvidence descriptor event code) h = (names_own setup clients past caller descriptor h.0, h.1)
evidence_own setup clients past caller _ h = tt

-- ---- servers that are gone stand at their queue

pub gone_here : (setup : Setup) (clients server : ℕ) (past : List Event) → is_gone server (home_events setup clients (QueueHome (queue_of setup server)) past) ≡ is_gone server past
unfolding is_gone
gone_here setup clients server [] = refl
gone_here setup clients server (e ∷ past) =
    let rest : List Event = home_events setup clients (QueueHome (queue_of setup server)) past in
    elim (cases_Bool (at_home setup clients (QueueHome (queue_of setup server)) e)) [
      | inl y ↦ ap (λ b. is_gone server (cond b (e ∷ rest) rest)) y ∙ ap (λ b. is_gone_of server e || b) (gone_here setup clients server past)
      | inr n ↦ ap (λ b. is_gone server (cond b (e ∷ rest) rest)) n ∙ (gone_here setup clients server past ∙ sym (ap (λ b. b || is_gone server past) (other e n)))
    ]
  where
    other : (e : Event) → at_home setup clients (QueueHome (queue_of setup server)) e ≡ false → is_gone_of server e ≡ false
    other (Gone s) n =
        elim (cases_Bool (s.0 == server)) [
          | inl y ↦ let at = eq-eqb (queue_of setup s.0) (queue_of setup server) (ap (queue_of setup) (eqb-true s.0 server y)) in cc (at, n)
          | inr m ↦ m
        ]
    other _ n = refl

pub all_gone : (setup : Setup) (clients queue : ℕ) (past : List Event) → AllGone setup queue (home_events setup clients (QueueHome queue) past) → AllGone setup queue past
all_gone setup clients queue past gone server low high of =
    sym (gone_here setup clients server past) ∙ subst (λ (q : ℕ). is_gone server (home_events setup clients (QueueHome q) past) ≡ true) (sym of) (gone server low high of)

-- ---- the home part, among all events

entry_whole : (setup : Setup) (clients : ℕ) (past : List Event) (queue : ℕ) → EntryHome setup queue (home_events setup clients (QueueHome queue) past) → EntryHome setup queue past
entry_whole setup clients past queue h = record {
  not_down = sym (down_own setup clients past queue) ∙ h.not_down;
  not_closed = sym (closed_own setup clients past queue) ∙ h.not_closed;
  room = subst (λ (rs : List RequestId). length rs < capacity_of setup queue) (waiting_own setup clients past queue) h.room;
}

home_whole : (setup : Setup) (clients : ℕ) (past : List Event) (e : Event) → HomePart setup e (home_events setup clients (home_of setup clients e) past) → HomePart setup e past
home_whole setup clients past (Advertise a) (inl h) = inl (record {
  domain = h.domain;
  booting = sym (ap (slice_get (configured setup)) (published_own setup clients past)) ∙ h.booting;
  version = h.version ∙ ap (λ n. n + 1) (published_own setup clients past);
})
home_whole setup clients past (Advertise a) (inr h) = inr (record {
  server = h.server;
  same = subst (λ (standing : List Row). IfSome (row_of a.service a.queue.0 standing) (λ row. row.routine ≡ a.routine)) (stands_own setup clients past) h.same;
  room = subst (λ (standing : List Row). (length standing < row_limit) ⊎ IsSome (row_of a.service a.queue.0 standing)) (stands_own setup clients past) h.room;
  version = h.version ∙ ap (λ n. n + 1) (published_own setup clients past);
})
home_whole setup clients past (Withdraw w) h = record {
  stands = subst (λ (standing : List Row). IsSome (row_of w.service w.queue.0 standing)) (stands_own setup clients past) h.stands;
  version = h.version ∙ ap (λ n. n + 1) (published_own setup clients past);
}
home_whole setup clients past (Accept a) h = entry_whole setup clients past a.queue.0 h
home_whole setup clients past (Take t) h = record {
  not_down = sym (down_own setup clients past (queue_of setup t.server.0)) ∙ h.not_down;
  waits = sym (ap (has t.request) (waiting_own setup clients past (queue_of setup t.server.0))) ∙ h.waits;
  count = h.count ∙ ap (λ n. n + 1) (takes_own setup clients past (queue_of setup t.server.0));
}
home_whole setup clients past (Forward f) h = entry_whole setup clients past f.queue.0 h
home_whole setup clients past (Sweep x) h = record {
  down = sym (down_own setup clients past x.queue.0) ∙ h.down;
  oldest = sym (ap (λ rs. slice_get rs 0) (waiting_own setup clients past x.queue.0)) ∙ h.oldest;
}
home_whole setup clients past (Gone server) h = record { known = h.known; not_gone = sym (gone_here setup clients server.0 past) ∙ h.not_gone }
home_whole setup clients past (Down queue) h = record { known = h.known; not_down = sym (down_own setup clients past queue.0) ∙ h.not_down; gone = all_gone setup clients queue.0 past h.gone }
home_whole setup clients past (Close queue) h = record { known = h.known; not_closed = sym (closed_own setup clients past queue.0) ∙ h.not_closed }
home_whole setup clients past (Start b) h = tt
home_whole setup clients past (StartFailed b) h = tt
home_whole setup clients past (End e) h = tt
home_whole setup clients past (Stop x) h = tt
home_whole setup clients past (Answer a) h = tt
home_whole setup clients past (Refuse r) h = tt
home_whole setup clients past (Cancel c) h = tt
home_whole setup clients past (NotYet n) h = tt
home_whole setup clients past (Lapse l) h = tt
home_whole setup clients past (Tick t) h = let same = now_own setup clients past in record { onward = omega (arith, same, h.onward); step = omega (arith, same, h.step); bound = h.bound }
home_whole setup clients past (Leave client) h = tt
home_whole setup clients past (Priority p) h = tt
home_whole setup clients past (Send s) h = tt
home_whole setup clients past (Receive r) h = tt
home_whole setup clients past (Break b) h = tt

-- ---- the worker part, among all events

start_whole : (setup : Setup) (clients : ℕ) (past : List Event) (b : Started) → WorkerPart setup clients (Start b) (worker_events clients (caller_of clients b.server.0) past) → WorkerPart setup clients (Start b) past
start_whole setup clients past b w = record {
  off = sym (doing_own setup clients past b.server.0) ∙ w.off;
  not_gone = sym (gone_own setup clients past b.server.0) ∙ w.not_gone;
  not_shut_down = sym (shut_own setup clients past b.server.0) ∙ w.not_shut_down;
  count = w.count ∙ ap (λ (made : List ℕ). length made + 1) (starts_own setup clients past b.server.0);
  floor = subst (λ (ns : List ℕ). greatest 0 ns ≤ b.tick) (ticks_own setup clients past (caller_of clients b.server.0)) w.floor;
  may = sym (ap (λ made. may_start setup b.server.0 made b.tick) (starts_own setup clients past b.server.0)) ∙ w.may;
}

change_whole : (setup : Setup) (clients : ℕ) (past : List Event) (by : CallerId) (op queue : ℕ) → ChangeWorker setup clients by op queue (worker_events clients by.0 past) → ChangeWorker setup clients by op queue past
change_whole setup clients past by op queue (inl w) = inl w
change_whole setup clients past by op queue (inr w) = inr (record {
  server = w.server;
  call = next_own setup clients past by.0 op w.call;
  busy = subst (λ (o : Option RequestId). IsSome o) (in_hand_own setup clients past by.0) w.busy;
  its = w.its;
})

pub worker_whole : (setup : Setup) (clients : ℕ) (past : List Event) (e : Event) → WorkerPart setup clients e (worker_events clients (worker_of clients e) past) → WorkerPart setup clients e past
worker_whole setup clients past (Advertise a) w = change_whole setup clients past a.by a.op a.queue.0 w
worker_whole setup clients past (Withdraw x) w = change_whole setup clients past x.by x.op x.queue.0 w
worker_whole setup clients past (Accept a) w = record {
  call = next_own setup clients past a.by.0 a.op w.call;
  caller = w.caller;
  number = w.number ∙ ap (λ n. n + 1) (accepted_own setup clients past a.by.0);
  room = room_own setup clients past a.by.0 a.mode w.room;
  sound = w.sound;
  not_older = subst (λ (vs : List ℕ). greatest (boot setup) vs ≤ a.version) (versions_own setup clients past a.by.0) w.not_older;
  priority = w.priority ∙ ap (λ set. priority_by setup a.service (if is_conversational a.mode then None else set)) (set_own setup clients past a.by.0);
}
worker_whole setup clients past (Forward f) w = record {
  busy = sym (doing_own setup clients past f.server.0) ∙ w.busy;
  few = w.few;
  sound = w.sound;
  unconnected = sym (connections_own setup clients past (caller_of clients f.server.0)) ∙ w.unconnected;
  not_older = subst (λ (vs : List ℕ). greatest (boot setup) vs ≤ f.version) (versions_own setup clients past (caller_of clients f.server.0)) w.not_older;
  priority = w.priority ∙ ap (priority_by setup f.service) (set_own setup clients past (caller_of clients f.server.0));
}
worker_whole setup clients past (Sweep x) w = tt
worker_whole setup clients past (Priority p) w = record { call = next_own setup clients past p.by.0 p.op w.call }
worker_whole setup clients past (Take t) w = record {
  idle = sym (doing_own setup clients past t.server.0) ∙ w.idle;
  none = sym (descriptors_own setup clients past (caller_of clients t.server.0)) ∙ w.none;
  unconnected = sym (connections_own setup clients past (caller_of clients t.server.0)) ∙ w.unconnected;
}
worker_whole setup clients past (Gone server) w = record {
  off = sym (doing_own setup clients past server.0) ∙ w.off;
  not_shut_down = sym (shut_own setup clients past server.0) ∙ w.not_shut_down;
  no_restart = sym (ap (λ made. may_start setup server.0 made (tick_floor clients (caller_of clients server.0) (worker_events clients (caller_of clients server.0) past))) (starts_own setup clients past server.0)
      ∙ ap (λ ns. may_start setup server.0 (starts server.0 past) (greatest 0 ns)) (ticks_own setup clients past (caller_of clients server.0))) ∙ w.no_restart;
}
worker_whole setup clients past (Start b) w = start_whole setup clients past b w
worker_whole setup clients past (StartFailed b) w = start_whole setup clients past b w
worker_whole setup clients past (End e) w = record {
  busy = sym (doing_own setup clients past e.server.0) ∙ w.busy;
  may = w.may;
  unconnected = λ is. sym (connections_own setup clients past (caller_of clients e.server.0)) ∙ w.unconnected is;
  not_older = λ version shown. subst (λ (vs : List ℕ). greatest (boot setup) vs ≤ version) (versions_own setup clients past (caller_of clients e.server.0)) (w.not_older version shown);
}
worker_whole setup clients past (Stop x) w = record {
  alive = elim w.alive [
    | inl i ↦ inl (sym (doing_own setup clients past x.server.0) ∙ i.0, sym (ap (idle_stops x.cause) (outcome_own setup clients past x.server.0)) ∙ i.1)
    | inr d ↦ inr (sym (doing_own setup clients past x.server.0) ∙ d.0, sym (ap (dying_stops x.cause) (outcome_own setup clients past x.server.0)) ∙ d.1)
  ];
  none = sym (descriptors_own setup clients past (caller_of clients x.server.0)) ∙ w.none;
  unconnected = sym (connections_own setup clients past (caller_of clients x.server.0)) ∙ w.unconnected;
}
worker_whole setup clients past (Answer a) w = record {
  active = sym (active_own setup clients past a.by.0) ∙ w.active;
  op = elim w.op [
    | inl n ↦ inl (n ∙ ap (λ e. op_of e + 1) (called_own setup clients past a.by.0))
    | inr s ↦ inr (s.0 ∙ ap op_of (called_own setup clients past a.by.0), sym (ap accepted_in (called_own setup clients past a.by.0)) ∙ s.1)
  ];
  caller = w.caller;
  is_open = sym (ap (has a.request) (descriptors_own setup clients past a.by.0)) ∙ w.is_open;
}
worker_whole setup clients past (Refuse r) w = record {
  call = next_own setup clients past r.by.0 r.op w.call;
  shows = shows_own setup clients past r.by.0 r.fault r.evidence w.shows;
  own = evidence_own setup clients past r.by r.evidence w.own;
}
worker_whole setup clients past (Send s) w = record { call = next_own setup clients past s.by.0 s.op w.call; is_open = open_own setup clients past s.by.0 s.request w.is_open }
worker_whole setup clients past (Receive r) w = record { call = next_own setup clients past r.by.0 r.op w.call; is_open = open_own setup clients past r.by.0 r.request w.is_open }
worker_whole setup clients past (Break b) w = record {
  op = elim w.op [ inl call ↦ inl (next_own setup clients past b.by.0 b.op call) | inr none ↦ inr (none.0, sym (may_own setup clients past b.by.0) ∙ none.1) ];
  caller = w.caller;
  is_open = sym (ap (has b.request) (connections_own setup clients past b.by.0)) ∙ w.is_open;
}
worker_whole setup clients past (Cancel c) w = record {
  call = elim w.call [
    | inl n ↦ inl (next_own setup clients past c.by.0 c.op n)
    | inr g ↦ inr (g.0, sym (may_own setup clients past c.by.0) ∙ g.1)
  ];
  caller = w.caller;
  is_open = sym (ap (has c.request) (descriptors_own setup clients past c.by.0)) ∙ w.is_open;
}
worker_whole setup clients past (NotYet n) w = record { call = next_own setup clients past n.by.0 n.op w.call; looks = looks_own setup clients past n.by.0 n.requests w.looks }
worker_whole setup clients past (Lapse l) w = record {
  active = sym (active_own setup clients past l.by.0) ∙ w.active;
  call = elim w.call [
    | inl n ↦ inl (n.0, n.1 ∙ ap (λ e. op_of e + 1) (called_own setup clients past l.by.0))
    | inr s ↦ inr (s.0, s.1 ∙ ap op_of (called_own setup clients past l.by.0), s.2, sym (ap accepted_in (called_own setup clients past l.by.0)) ∙ s.3)
  ];
  looks = looks_own setup clients past l.by.0 l.requests w.looks;
  due = due_own setup clients past l.by.0 l.now l.deadline w.due;
}
worker_whole setup clients past (Tick t) w = record { call = next_own setup clients past t.by.0 t.op w.call; client = w.client }
worker_whole setup clients past (Leave client) w = record {
  known = w.known;
  not_left = sym (left_own setup clients past client.0) ∙ w.not_left;
  none = sym (descriptors_own setup clients past client.0) ∙ w.none;
  unconnected = sym (connections_own setup clients past client.0) ∙ w.unconnected;
}
worker_whole setup clients past (Down queue) w = tt
worker_whole setup clients past (Close queue) w = tt

-- ---- a board without rows of a queue stays so behind the boot

none_kept : {X : Type 0} (p q : X → Bool) (xs : List X) → find p xs ≡ None → find p (filter q xs) ≡ None
none_kept p q [] h = refl
none_kept p q (x ∷ xs) h =
    elim (cases_Bool (p x)) [
      | inl y ↦ let some : Some x ≡ None = sym (ap (λ b. cond b (Some x) (find p xs)) y) ∙ h in absurd (cc some)
      | inr n ↦
          let rest : find p (filter q xs) ≡ None = none_kept p q xs (sym (ap (λ b. cond b (Some x) (find p xs)) n) ∙ h) in
          elim (cases_Bool (q x)) [
            | inl y ↦ ap (λ b. find p (cond b (x ∷ filter q xs) (filter q xs))) y ∙ (ap (λ b. cond b (Some x) (find p (filter q xs))) n ∙ rest)
            | inr m ↦ ap (λ b. find p (cond b (x ∷ filter q xs) (filter q xs))) m ∙ rest
          ]
    ]

-- the rows of the version that stands are those behind all changes
rows_behind : (setup : Setup) (past : List Event) → rows_of_version setup past (published past) ≡ rows setup (changes past)
unfolding rows_of_version published
rows_behind setup past = let none : length (changes past) - length (changes past) ≡ 0 = omega arith in ap (λ n. rows setup (drop n (changes past))) none

booting_more : (setup : Setup) (past : List Event) (c : Change) → slice_get (configured setup) (published past) ≡ Some c → published past < boot setup
booting_more setup past c h = slice_get_within (configured setup) (published past) c h

none_behind : {X : Type 0} (p : X → Bool) (xs ys : List X) → find p xs ≡ None → find p ys ≡ None → find p (xs ++ ys) ≡ None
none_behind p [] ys h k = k
none_behind p (x ∷ xs) ys h k =
    elim (cases_Bool (p x)) [
      | inl y ↦ let some : Some x ≡ None = sym (ap (λ b. cond b (Some x) (find p xs)) y) ∙ h in absurd (cc some)
      | inr n ↦ ap (λ b. cond b (Some x) (find p (xs ++ ys))) n ∙ none_behind p xs ys (sym (ap (λ b. cond b (Some x) (find p xs)) n) ∙ h) k
    ]

row_queue : (o : Option ServiceSetup) (service : List ℕ) (queue : ℕ) (routine : List ℕ) → (row_with o service queue routine).queue.0 ≡ queue
row_queue None service queue routine = refl
row_queue (Some configured) service queue routine = refl

-- a row of another queue is none of this one
other_queue : (service : List ℕ) (queue : ℕ) (row : Row) → (row.queue.0 == queue) ≡ false → find (is_row_of service queue) (row ∷ []) ≡ None
other_queue service queue row n =
    elim (cases_Bool (is_row_of service queue row)) [
      | inl y ↦ let both = and_parts (bytes_eq row.service service) (row.queue.0 == queue) y in let at = both.1 in absurd (cc (at, n))
      | inr apart ↦ ap (λ b. cond b (Some row) None) apart
    ]

-- the event is a server's, and advertises a service on that queue
abbrev pub puts_row : ℕ → Event → Bool
puts_row queue (Advertise a) = nat_lt 0 a.by.0 && (a.queue.0 == queue)
puts_row queue _ = false

pub no_rows_more : (setup : Setup) (queue : ℕ) (e : Event) (past : List Event) → HomePart setup e past → puts_row queue e ≡ false → boot setup ≤ published past → NoRows setup queue past → NoRows setup queue (e ∷ past) × (boot setup ≤ published (e ∷ past))
unfolding published changes rows_of_version
no_rows_more setup queue (Advertise a) past (inl part) other booted none = let early = booting_more setup past _ part.booting in absurd (omega (arith, early, booted))
no_rows_more setup queue (Advertise a) past (inr part) other booted none =
    let apart : (a.queue.0 == queue) ≡ false = sym (ap (λ b. b && (a.queue.0 == queue)) (lt-ltb 0 a.by.0 part.server)) ∙ other in
    let row = row_for setup a.service a.queue.0 a.routine in
    let at : (row.queue.0 == queue) ≡ false = ap (λ n. n == queue) (row_queue (service_named setup a.service) a.service a.queue.0 a.routine) ∙ apart in (
      λ service. ap (row_of service queue) (rows_behind setup (Advertise a ∷ past))
          ∙ none_behind (is_row_of service queue) (filter (λ row. not (is_row_of a.service a.queue.0 row)) (rows setup (changes past))) (row ∷ [])
          (none_kept (is_row_of service queue) (λ row. not (is_row_of a.service a.queue.0 row)) (rows setup (changes past)) (sym (ap (row_of service queue) (rows_behind setup past)) ∙ none service)) (other_queue service queue row at),
      omega (arith, booted),
    )
no_rows_more setup queue (Withdraw w) past part other booted none = (
  λ service. ap (row_of service queue) (rows_behind setup (Withdraw w ∷ past)) ∙ none_kept (is_row_of service queue) (λ row. not (is_row_of w.service w.queue.0 row)) (rows setup (changes past)) (sym (ap (row_of service queue) (rows_behind setup past)) ∙ none service),
  omega (arith, booted),
)
no_rows_more setup queue _ past part other booted none = (none, booted)

-- ---- a closed queue at which nothing waits stays so

entry_shut : (setup : Setup) (entered queue : ℕ) (request : RequestId) (past : List Event) → EntryHome setup entered past → is_closed queue past ≡ true → (if entered == queue then Some request else None) ≡ None
entry_shut setup entered queue request past part shut =
    elim (cases_Bool (entered == queue)) [
      | inl y ↦ let still : is_closed queue past ≡ false = subst (λ (n : ℕ). is_closed n past ≡ false) (eqb-true entered queue y) part.not_closed in absurd (cc (still, shut))
      | inr n ↦ ap (λ b. if b then Some request else None) n
    ]

none_enters : (setup : Setup) (queue : ℕ) (e : Event) (past : List Event) → HomePart setup e past → is_closed queue past ≡ true → comes_in queue e ≡ None
none_enters setup queue (Accept a) past part shut = entry_shut setup a.queue.0 queue a.request past part shut
none_enters setup queue (Forward f) past part shut = entry_shut setup f.queue.0 queue f.request past part shut
none_enters setup queue _ past part shut = refl

pub without_none : (o : Option RequestId) → without o [] ≡ []
without_none None = refl
without_none (Some r) = refl

pub shut_more : (setup : Setup) (queue : ℕ) (e : Event) (past : List Event) → HomePart setup e past → IsShut setup queue past → IsShut setup queue (e ∷ past)
unfolding is_closed waiting
shut_more setup queue e past part shut = record {
  closed = or_right (is_close_of queue e) (is_closed queue past) shut.closed;
  empty = ap (λ o. added o (without (goes_out setup queue e) (waiting setup queue past))) (none_enters setup queue e past part shut.closed) ∙ (ap (without (goes_out setup queue e)) shut.empty ∙ without_none (goes_out setup queue e));
}

-- what was seen, and what each event of the home keeps, holds now
pub seen_now : (setup : Setup) (P : List Event → Type 0) → ((e : Event) (past : List Event) → HomePart setup e past → P past → P (e ∷ past)) → (seen now : List Event) → AtEach (HomePart setup) now → IsEarlier seen now → P seen → P now
seen_now setup P more seen [] each is h = subst P is h
seen_now setup P more seen (e ∷ past) each (inl is) h = subst P is h
seen_now setup P more seen (e ∷ past) each (inr older) h = more e past each.0 (seen_now setup P more seen past each.1 older h)

-- ---- the cases of events

abbrev pub state : Setup → ℕ → List Event → State
state setup clients past = record { setup = setup; clients = clients; past = past }

-- each event had a case
abbrev pub AllCases : Setup → ℕ → List Event → Type 0
AllCases setup clients past = AtEach (λ e before. Case (state setup clients before) e) past

-- ---- a queue of which every server is gone gets no row

servers_law : (setup : Setup) (clients : ℕ) (past : List Event) → AllCases setup clients past → LawOfServers past
unfolding doing
servers_law setup clients [] cases = λ server h. refl
servers_law setup clients (e ∷ past) cases = servers_more (state setup clients past) e cases.0 (servers_law setup clients past cases.1)

none_put : (setup : Setup) (clients queue : ℕ) (e : Event) (past : List Event) → 0 < queue → Case (state setup clients past) e → LawOfServers past → AllGone setup queue past → puts_row queue e ≡ false
none_put setup clients queue (Advertise a) past some case law gone =
    elim (cases_Bool (nat_lt 0 a.by.0 && (a.queue.0 == queue))) [
      | inl y ↦
          let both = and_parts (nat_lt 0 a.by.0) (a.queue.0 == queue) y in
          let not_domain = ltb-true 0 a.by.0 both.0 in
          elim case.worker [
            | inl domain ↦ absurd (omega (arith, not_domain, domain.domain))
            | inr its ↦
                let server : ℕ = a.by.0 - clients in
                let of : queue_of setup server ≡ queue = its.its ∙ eqb-true a.queue.0 queue both.1 in
                let behind = its.server in
                let known = known_server setup server (omega (arith, some, of)) in
                absurd (in_hand_busy clients a.by.0 past behind its.busy (law server (inr (gone server known.0 known.1 of))))
          ]
      | inr n ↦ n
    ]
none_put setup clients queue _ past some case law gone = refl

gone_more : (setup : Setup) (queue : ℕ) (e : Event) (past : List Event) → AllGone setup queue past → AllGone setup queue (e ∷ past)
unfolding is_gone
gone_more setup queue e past gone server low high of = or_right (is_gone_of server e) (is_gone server past) (gone server low high of)

abbrev Deserted : Setup → ℕ → List Event → Type 0
Deserted setup queue past = NoRows setup queue past × (boot setup ≤ published past) × AllGone setup queue past

still_deserted : (setup : Setup) (clients queue : ℕ) (seen past : List Event) → 0 < queue → AllCases setup clients past → IsEarlier seen past → Deserted setup queue seen → Deserted setup queue past
still_deserted setup clients queue seen [] some cases is h = subst (Deserted setup queue) is h
still_deserted setup clients queue seen (e ∷ past) some cases (inl is) h = subst (Deserted setup queue) is h
still_deserted setup clients queue seen (e ∷ past) some cases (inr older) h =
    let old = still_deserted setup clients queue seen past some cases.1 older h in
    let quiet = none_put setup clients queue e past some cases.0 (servers_law setup clients past cases.1) old.2 in
    let new = no_rows_more setup queue e past cases.0.home quiet old.1 old.0 in
    (new.0, new.1, gone_more setup queue e past old.2)

-- what holds of every run is known of these
pub known_from : (setup : Setup) (clients : ℕ) (past : List Event) → AllCases setup clients past → IsKnown (state setup clients past)
known_from setup clients [] cases = known_none setup clients
known_from setup clients (e ∷ past) cases = known_more (state setup clients past) e cases.0 (known_from setup clients past cases.1)

-- ---- the case, from its parts

module _ (setup : Setup) (clients : ℕ) (past : List Event) (homes : (home : Home) → AtEach (HomePart setup) (home_events setup clients home past)) (cases : AllCases setup clients past) (known : IsKnown (state setup clients past)) where
  still_shut : (queue : ℕ) → SawShut setup clients queue past → IsShut setup queue past
  still_shut queue saw =
      let now = seen_now setup (IsShut setup queue) (shut_more setup queue) saw.seen (home_events setup clients (QueueHome queue) past) (homes (QueueHome queue)) saw.stood saw.shut in
      record { closed = sym (closed_own setup clients past queue) ∙ now.closed; empty = sym (waiting_own setup clients past queue) ∙ now.empty }

  forwardable : (f : Forwarded) → (doing f.server.0 past ≡ Busy f.generation f.request) → SawForwardable setup clients f past → ForwardBefore setup f past
  forwardable f busy saw =
      let sent = saw.sent in
      let same = known.seen f.server.0 f.generation f.request busy sent.moment sent.stood sent.taken in
      shown_forwardable setup f past saw.row (known.shows f.request) (subst (λ (o : Option Event). IsSomeAnd o (Forwardable f.hop)) same sent.held)

  named_now : (e : Event) → HomePart setup e past → WorkerPart setup clients e past → SeenBefore setup clients e past → NamedBefore setup clients e past
  named_now (Forward f) home part named = forwardable f part.busy named
  named_now (Down queue) home part named =
      let there = named.moment in
      let none : NoRows setup queue.0 there = λ service. sym (ap (row_of service queue.0) (stands_own setup clients there)) ∙ named.none service in
      let booted : boot setup ≤ published there = subst (λ (n : ℕ). boot setup ≤ n) (published_own setup clients there) named.booted in
      (still_deserted setup clients queue.0 there past (known_queue setup queue.0 home.known).0 cases named.stood (none, booted, all_gone setup clients queue.0 there named.gone)).0
  named_now (Stop x) home part named = λ cause. still_shut (queue_of setup x.server.0) (named cause)
  named_now (Advertise a) home part named = tt
  named_now (Withdraw w) home part named = named
  named_now (Accept a) home part named = named
  named_now (Close queue) home part named = named
  named_now (Start b) home part named = named
  named_now (StartFailed b) home part named = named
  named_now (Answer a) home part named = named
  named_now (Refuse r) home part named = named
  named_now (Lapse l) home part named = named
  named_now (Cancel c) home part named = tt
  named_now (NotYet n) home part named = tt
  named_now (Tick t) home part named = tt
  named_now (Take t) home part named = tt
  named_now (Gone server) home part named = tt
  named_now (End e) home part named = named
  named_now (Leave client) home part named = tt
  named_now (Sweep x) home part named = tt
  named_now (Priority p) home part named = tt
  named_now (Send s) home part named = named
  named_now (Receive r) home part named = named
  named_now (Break b) home part named = tt

case_now : (setup : Setup) (clients : ℕ) (e : Event) (past : List Event) → Local setup clients (e ∷ past) → ((home : Home) → AtEach (HomePart setup) (home_events setup clients home past)) → AllCases setup clients past → Case (state setup clients past) e
case_now setup clients e past l homes cases =
    let home = home_whole setup clients past e (AtEach-here (at_home setup clients (home_of setup clients e)) (HomePart setup) e past (same_home-self (home_of setup clients e)) (l.homes (home_of setup clients e))) in
    let part = worker_whole setup clients past e (AtEach-here (of_worker clients (worker_of clients e)) (WorkerPart setup clients) e past (eq-eqb (worker_of clients e) (worker_of clients e) refl) (l.workers (worker_of clients e))) in
    record {
      home = home;
      worker = part;
      before = record { booted = l.before.0.booted; named = named_now setup clients past homes cases (known_from setup clients past cases) e home part l.before.0.named };
    }

pub local_rest : (setup : Setup) (clients : ℕ) (e : Event) (past : List Event) → Local setup clients (e ∷ past) → Local setup clients past
local_rest setup clients e past l = record {
  homes = λ home. AtEach-rest (at_home setup clients home) (HomePart setup) e past (l.homes home);
  workers = λ worker. AtEach-rest (of_worker clients worker) (WorkerPart setup clients) e past (l.workers worker);
  before = l.before.1;
}

pub all_cases : (setup : Setup) (clients : ℕ) (past : List Event) → Local setup clients past → AllCases setup clients past
all_cases setup clients [] l = tt
all_cases setup clients (e ∷ past) l =
    let rest = local_rest setup clients e past l in
    let cases = all_cases setup clients past rest in
    (case_now setup clients e past l rest.homes cases, cases)

pub run_push : (es : List Event) (old mid : State) (e : Event) → Run old es mid → Case mid e → Run old (es ++ e ∷ []) (noted mid e)
run_push [] old mid e run case = (subst (λ (s : State). Case s e) run case, ap (λ s. noted s e) run)
run_push (x ∷ es) old mid e run case = (run.0, run_push es (noted old x) mid e run.1 case)

run_from : (setup : Setup) (clients : ℕ) (past : List Event) → AllCases setup clients past → Run (opening setup clients) (reverse past) (state setup clients past)
run_from setup clients [] cases = refl
run_from setup clients (e ∷ past) cases =
    subst (λ (es : List Event). Run (opening setup clients) es (state setup clients (e ∷ past))) (sym (reverse-append (e ∷ []) past))
    (run_push (reverse past) (opening setup clients) (state setup clients past) e (run_from setup clients past cases.1) cases.0)

-- they are a run, and what holds of every run is known of them
pub local_run : (setup : Setup) (clients : ℕ) (past : List Event) → Local setup clients past → Run (opening setup clients) (reverse past) (state setup clients past) × IsKnown (state setup clients past)
local_run setup clients past l = let cases = all_cases setup clients past l in (run_from setup clients past cases, known_from setup clients past cases)

pub local_is_run : (setup : Setup) (clients : ℕ) (past : List Event) → Local setup clients past → Run (opening setup clients) (reverse past) (state setup clients past)
local_is_run setup clients past l = (local_run setup clients past l).0
