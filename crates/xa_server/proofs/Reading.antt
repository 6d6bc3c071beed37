-- A slot's tables are what its events say also with one event more: a lemma for each kind of event.
use Rattle.std.proofs.Common.{◌≡◌, ℕ, ◌+◌, ◌-◌, ◌<◌, ◌≤◌, ◌==◌, ◌||◌, ◌&&◌, ℤ, max, inl, inr, if◌then◌else◌, cond, Bool, true, false, List, [], ◌∷◌, ◌++◌, length, Option, Some, None, refl, sym, ◌∙◌, ap, subst, arith, eq-eqb, eqb-true}
use Rattle.std.specs.Prelude.{IsSomeAnd}
use Rattle.std.specs.List.{cons_option, filter_map}
use Rattle.std.proofs.lemmas.Bool.{false≢true}
use Rattle.std.proofs.Math.Nat.{le-max_left, le-max_right, max-le}
use Rattle.xa_caller.specs.xa_types.declared.ids.Generation.{Generation}
use Rattle.xa_caller.specs.xa_types.declared.ids.RequestId.{RequestId}
use Rattle.xa_caller.specs.xa_types.declared.ids.ServerId.{ServerId}
use Rattle.xa_caller.specs.xa_types.declared.setup.ServerSetup.{ServerSetup}
use Rattle.xa_caller.specs.xa_types.Setup.{numbered}
use Rattle.xa_caller.specs.xa_events.declared.event.Event.{Event}
use Rattle.xa_caller.specs.xa_events.declared.event.Event.TheVariants.{Take, Gone, Start, StartFailed, End, Stop}
use Rattle.xa_caller.specs.xa_events.declared.event.Taken.{Taken}
use Rattle.xa_caller.specs.xa_events.declared.event.Started.{Started}
use Rattle.xa_caller.specs.xa_events.declared.event.Ended.{Ended}
use Rattle.xa_caller.specs.xa_events.declared.event.Stopped.{Stopped}
use Rattle.xa_caller.specs.xa_events.declared.event.Outcome.{Outcome}
use Rattle.xa_caller.specs.xa_events.declared.event.Outcome.TheVariants.{Returned, Failed, BadReturn, BadForward, Died, Starved}
use Rattle.xa_caller.specs.xa_events.declared.event.StopCause.{StopCause}
use Rattle.xa_caller.specs.xa_events.declared.event.StopCause.TheVariants as causes
use Rattle.xa_caller.specs.xa_events.Finishing.{returned, return_by}
use Rattle.xa_caller.specs.xa_types.declared.call.Rval.{Rval}
use Rattle.xa_caller.specs.xa_types.declared.call.Rval.TheVariants.{Success, Fail, Exit}
use Rattle.xa_caller.specs.xa_types.declared.data.Data.{Data}
use Rattle.xa_caller.specs.xa_types.declared.setup.Setup.{Setup}
use Rattle.xa_caller.specs.xa_types.Kind.{is_sound}
use Rattle.xa_caller.specs.xa_events.declared.event.Doing.{Doing}
use Rattle.xa_caller.specs.xa_events.declared.event.Doing.TheVariants.{Off, Idle, Busy, Dying}
use Rattle.xa_caller.specs.xa_events.Homes.{worker_of}
use Rattle.xa_caller.specs.xa_events.Words.{added, without, greatest}
use Rattle.xa_caller.specs.xa_events.State.{caller_of}
use Rattle.xa_caller.specs.xa_events.Server.{starts, start_in, after_end, doing_after, outcome_in, is_shutdown, is_shutdown_stop, doing, was_shut_down, last_outcome, may_start, may_start_as}
use Rattle.xa_caller.specs.xa_events.Cases.{may_end_so, idle_stops, dying_stops, is_starved, StartWorker, TakeWorker, EndWorker, StopWorker}
use Rattle.xa_caller.specs.xa_events.Caller.{open_descriptors, opens_descriptor, closes_descriptor, tick_in, ticks, tick_floor, least_version, version_of}
use Rattle.xa_caller.specs.xa_events.Conversation.{connections, opens_connection, closes_connection}
use Rattle.xa_caller.specs.xa_events.Views.{newer, ServerView, server_view, server_after}
use Rattle.xa_caller.proofs.xa_events.Owns.{server_more}
use Rattle.xa_caller.specs.xa_stamp.declared.home.Stamped.{Stamped}
use Rattle.xa_restart.specs.Rule.{RestartState, IsRuleOf, IsLast, may_start_by}
use Rattle.xa_restart.proofs.Recalling.{rule_is, no_earlier}
use Rattle.xa_caller.specs.xa_worker.Work.{WorkState, IsNext, theirs, noted, noted_here}
use Rattle.xa_caller.proofs.xa_worker.Noting.{theirs-more}
use Rattle.xa_server.specs.declared.slot.ServerSlot.{ServerSlot}
use Rattle.xa_server.specs.declared.slot.Last.{Last}
use Rattle.xa_server.specs.declared.slot.Last.TheVariants as lasts
use Rattle.xa_server.specs.Doings.{life_in, last_by, last_of, room_for, IsBusy, InHand, outcome_of, is_death, DyingStops, MayStop}
use Rattle.xa_server.specs.Slot.{Reads, IsWorkerOf, Stand, Tables, Stands, view_of}
use Rattle.xa_server.specs.Noting.{with_room}
use Rattle.xa_caller.specs.Drafts.{Cargo}
use Rattle.xa_caller.specs.xa_queue.declared.entry.Entry.{Entry}
use Rattle.xa_caller.specs.xa_types.declared.stamp.Stamp.{Stamp}
use Rattle.xa_server.specs.Changes.{MayStart, MayBeGivenUp, with_start}

-- the work with one event more, and room for so many more
abbrev pub more : Stamped → ℕ → WorkState → WorkState
more x room w = record w { stamp = x.stamp; own = w.own ++ x ∷ []; room = room }

view-more : (server : ServerId) (w : WorkState) (x : Stamped) (room : ℕ) → worker_of w.clients x.event ≡ w.id.0 → view_of server (more x room w) ≡ server_after server.0 x.event (view_of server w)
view-more server w x room its = ap (server_view server.0) (theirs-more w x its) ∙ server_more server.0 x.event _

-- ---- what the tables are with one event more

module _ (server : ℕ) (view : ServerView) (made : ℕ) (begun : List ℕ) (doing : Doing) (last : Last) (gone shut : Bool) (reads : Reads view made begun doing last gone shut) where
  pub reads_started : (b : Started) → b.server.0 ≡ server → Reads (server_after server (Start b) view) (made + 1) (b.tick ∷ begun) (Idle b.generation) lasts.Nothing gone shut
  reads_started b its = let here = eq-eqb b.server.0 server its in let k = reads.count in record {
    moved = ap (λ h. doing_after (newer h (Start b) view.moved)) here;
    ended = ap (λ h. last_of (outcome_in (newer h (Start b) view.moved))) here;
    started = ap (λ h. cons_option (if h then Some b.tick else None) view.starts) here ∙ ap (λ xs. b.tick ∷ xs) reads.started;
    count = omega (arith, k);
    given_up = reads.given_up;
    stopped = reads.stopped;
  }

  pub reads_failed : (b : Started) → b.server.0 ≡ server → Reads (server_after server (StartFailed b) view) (made + 1) (b.tick ∷ begun) Off lasts.Nothing gone shut
  reads_failed b its = let here = eq-eqb b.server.0 server its in let k = reads.count in record {
    moved = ap (λ h. doing_after (newer h (StartFailed b) view.moved)) here;
    ended = ap (λ h. last_of (outcome_in (newer h (StartFailed b) view.moved))) here;
    started = ap (λ h. cons_option (if h then Some b.tick else None) view.starts) here ∙ ap (λ xs. b.tick ∷ xs) reads.started;
    count = omega (arith, k);
    given_up = reads.given_up;
    stopped = reads.stopped;
  }

  pub reads_taken : (t : Taken) → t.server.0 ≡ server → Reads (server_after server (Take t) view) made begun (Busy t.generation t.request) lasts.Nothing gone shut
  reads_taken t its = let here = eq-eqb t.server.0 server its in record {
    moved = ap (λ h. doing_after (newer h (Take t) view.moved)) here;
    ended = ap (λ h. last_of (outcome_in (newer h (Take t) view.moved))) here;
    started = reads.started;
    count = reads.count;
    given_up = reads.given_up;
    stopped = reads.stopped;
  }

  pub reads_ended : (e : Ended) → e.server.0 ≡ server → Reads (server_after server (End e) view) made begun (after_end e.outcome e.generation) (last_by e.outcome) gone shut
  reads_ended e its = let here = eq-eqb e.server.0 server its in record {
    moved = ap (λ h. doing_after (newer h (End e) view.moved)) here;
    ended = ap (λ h. last_of (outcome_in (newer h (End e) view.moved))) here;
    started = reads.started;
    count = reads.count;
    given_up = reads.given_up;
    stopped = reads.stopped;
  }

  pub reads_stopped : (x : Stopped) → x.server.0 ≡ server → Reads (server_after server (Stop x) view) made begun Off lasts.Nothing gone (is_shutdown x.cause)
  reads_stopped x its = let here = eq-eqb x.server.0 server its in record {
    moved = ap (λ h. doing_after (newer h (Stop x) view.moved)) here;
    ended = ap (λ h. last_of (outcome_in (newer h (Stop x) view.moved))) here;
    started = reads.started;
    count = reads.count;
    given_up = reads.given_up;
    stopped = ap (λ h. is_shutdown_stop (newer h (Stop x) view.stopped)) here;
  }

  pub reads_gone : (s : ServerId) → s.0 ≡ server → Reads (server_after server (Gone s) view) made begun doing last true shut
  reads_gone s its = record {
    moved = reads.moved;
    ended = reads.ended;
    started = reads.started;
    count = reads.count;
    given_up = ap (λ h. h || view.gone) (eq-eqb s.0 server its);
    stopped = reads.stopped;
  }

-- ---- the worker

-- an event that opens and closes neither a descriptor nor a connection
none-more : (caller : ℕ) (e : Event) (past : List Event) → opens_descriptor caller e ≡ None → closes_descriptor caller e ≡ None → open_descriptors caller past ≡ [] → open_descriptors caller (e ∷ past) ≡ []
unfolding open_descriptors
none-more caller e past opens closes none = ap (λ o. added o (without (closes_descriptor caller e) (open_descriptors caller past))) opens ∙ ap (λ o. without o (open_descriptors caller past)) closes ∙ none

unconnected-more : (caller : ℕ) (e : Event) (past : List Event) → opens_connection caller e ≡ None → closes_connection caller e ≡ None → connections caller past ≡ [] → connections caller (e ∷ past) ≡ []
unfolding connections
unconnected-more caller e past opens closes none = ap (λ o. added o (without (closes_connection caller e) (connections caller past))) opens ∙ ap (λ o. without o (connections caller past)) closes ∙ none

-- an event of the server's
pub record IsServers (server : ServerId) (clients : ℕ) (e : Event) : Type 0 where
  pub its : worker_of clients e ≡ caller_of clients server.0
  pub opens : (caller : ℕ) → opens_descriptor caller e ≡ None
  pub closes : (caller : ℕ) → closes_descriptor caller e ≡ None
  pub connects : (caller : ℕ) → opens_connection caller e ≡ None
  pub disconnects : (caller : ℕ) → closes_connection caller e ≡ None

-- a slot stands with one event more of its server, where its tables are what that leaves
pub stand-more : (server : ServerId) (restarts restarts' : RestartState) (w : WorkState) (x : Stamped) (room : ℕ) → IsWorkerOf server restarts w
    → restarts'.restart ≡ restarts.restart → restarts'.maxgen ≡ restarts.maxgen → restarts'.grace ≡ restarts.grace
    → IsServers server w.clients x.event
    → (made' : ℕ) (doing' : Doing) (last' : Last) (gone' shut' : Bool) → Reads (server_after server.0 x.event (view_of server w)) made' restarts'.starts doing' last' gone' shut' → made' ≤ x.stamp.0 → room_for doing' ≤ room
    → Stand server restarts' made' doing' last' gone' shut' (more x room w)
stand-more server restarts restarts' w x room worker a b c e made' doing' last' gone' shut' reads few ready =
    let its : worker_of w.clients x.event ≡ w.id.0 = e.its ∙ worker.number in
    record {
      worker = record {
        number = worker.number;
        rule = ruled (numbered server.0 w.setup.servers) worker.rule;
        none = ap (open_descriptors w.id.0) (theirs-more w x its) ∙ none-more w.id.0 x.event (theirs w) (e.opens w.id.0) (e.closes w.id.0) worker.none;
        unconnected = ap (connections w.id.0) (theirs-more w x its) ∙ unconnected-more w.id.0 x.event (theirs w) (e.connects w.id.0) (e.disconnects w.id.0) worker.unconnected;
      };
      reads = subst (λ (view : ServerView). Reads view made' restarts'.starts doing' last' gone' shut') (sym (view-more server w x room its)) reads;
      few = few;
      ready = ready;
    }
  where
    ruled : (o : Option ServerSetup) → IsSomeAnd o (λ (s : ServerSetup). IsRuleOf s restarts.restart restarts.maxgen restarts.grace) → IsSomeAnd o (λ (s : ServerSetup). IsRuleOf s restarts'.restart restarts'.maxgen restarts'.grace)
    ruled (Some s) rule = record { restart = rule.restart ∙ sym a; maxgen = rule.maxgen ∙ sym b; grace = rule.grace ∙ sym c }
    ruled None rule = absurd rule

-- ---- ticks: the server's starts are among those that its caller read

more_at_most : (o : Option ℕ) (ns : List ℕ) → greatest 0 ns ≤ greatest 0 (cons_option o ns)
more_at_most None ns = omega arith
more_at_most (Some n) ns = le-max_right n (greatest 0 ns)

both_more : (n : ℕ) (a b : Bool) (xs ys : List ℕ) → (a ≡ true → b ≡ true) → greatest 0 xs ≤ greatest 0 ys → greatest 0 (cons_option (if a then Some n else None) xs) ≤ greatest 0 (cons_option (if b then Some n else None) ys)
both_more n true true xs ys along less = max-le (le-max_left n (greatest 0 ys)) (omega (arith, less, le-max_right n (greatest 0 ys)))
both_more n true false xs ys along less = absurd (false≢true (along refl))
both_more n false b xs ys along less = omega (arith, less, more_at_most (if b then Some n else None) ys)

starts_among : (clients server : ℕ) (past : List Event) → greatest 0 (filter_map (start_in server) past) ≤ greatest 0 (filter_map (tick_in clients (caller_of clients server)) past)
starts_among clients server [] = omega arith
starts_among clients server (Start s ∷ past) = both_more s.tick (s.server.0 == server) (caller_of clients s.server.0 == caller_of clients server) _ _ (λ on. eq-eqb (caller_of clients s.server.0) (caller_of clients server) (ap (caller_of clients) (eqb-true s.server.0 server on))) (starts_among clients server past)
starts_among clients server (StartFailed s ∷ past) = both_more s.tick (s.server.0 == server) (caller_of clients s.server.0 == caller_of clients server) _ _ (λ on. eq-eqb (caller_of clients s.server.0) (caller_of clients server) (ap (caller_of clients) (eqb-true s.server.0 server on))) (starts_among clients server past)
starts_among clients server (e ∷ past) = let rest = starts_among clients server past in omega (arith, rest, more_at_most (tick_in clients (caller_of clients server) e) (filter_map (tick_in clients (caller_of clients server)) past))

pub starts_floor : (clients server : ℕ) (past : List Event) → greatest 0 (starts server past) ≤ tick_floor clients (caller_of clients server) past
unfolding starts ticks
starts_floor clients server past = starts_among clients server past

module _ (slot : ServerSlot) (w : WorkState) (tables : Tables slot w) where
  its_worker : w.clients + slot.server.0 ≡ w.id.0
  its_worker = tables.worker.number

  -- no start was made after a tick that is no earlier than what the worker saw
  pub last_by_floor : (tick : ℕ) → tick_floor w.clients w.id.0 (theirs w) ≤ tick → IsLast tick slot.restarts.starts
  last_by_floor tick floor =
      let among = starts_floor w.clients slot.server.0 (theirs w) in
      let same = ap (λ c. tick_floor w.clients c (theirs w)) tables.worker.number in
      let begun = ap (greatest 0) tables.reads.started in
      omega (arith, among, same, begun, floor)

  -- the machine's rule is the slot's
  rule_by : (o : Option ServerSetup) (tick : ℕ) → IsSomeAnd o (λ (s : ServerSetup). IsRuleOf s slot.restarts.restart slot.restarts.maxgen slot.restarts.grace) → may_start_as o slot.restarts.starts tick ≡ may_start_by slot.restarts tick
  rule_by (Some s) tick rule = rule_is s slot.restarts tick rule
  rule_by None tick rule = absurd rule

  ruled : (tick : ℕ) → may_start w.setup slot.server.0 (starts slot.server.0 (theirs w)) tick ≡ may_start_by slot.restarts tick
  ruled tick = ap (λ begun. may_start w.setup slot.server.0 begun tick) tables.reads.started ∙ rule_by (numbered slot.server.0 w.setup.servers) tick tables.worker.rule

  pub may_started : (life : Generation) (tick : ℕ) → life.0 ≡ slot.made + 1 → MayStart tick slot w → IsNext w (Start (record { server = slot.server; generation = life; tick = tick })) × IsNext w (StartFailed (record { server = slot.server; generation = life; tick = tick }))
  unfolding doing was_shut_down
  may_started life tick number may =
      let r = tables.reads in
      let part : StartWorker w.setup w.clients (record { server = slot.server; generation = life; tick = tick }) (theirs w) = record {
        off = r.moved ∙ may.off;
        not_gone = r.given_up ∙ may.left;
        not_shut_down = r.stopped ∙ may.up;
        count = number ∙ sym (ap (λ n. n + 1) (ap length r.started ∙ r.count));
        floor = subst (λ c. tick_floor w.clients c (theirs w) ≤ tick) (sym tables.worker.number) may.floor;
        may = ruled tick ∙ may.may;
      } in
      (record { its = its_worker; met = part }, record { its = its_worker; met = part })

  pub may_taken : (t : Taken) → t.server ≡ slot.server → slot.doing ≡ Idle t.generation → IsNext w (Take t)
  unfolding doing
  may_taken t its idle = record {
    its = ap (λ (s : ServerId). w.clients + s.0) its ∙ its_worker;
    met = subst (λ (s : ServerId). TakeWorker w.clients (record t { server = s }) (theirs w)) (sym its) (record {
      idle = tables.reads.moved ∙ idle;
      none = ap (λ c. open_descriptors c (theirs w)) tables.worker.number ∙ tables.worker.none;
      unconnected = ap (λ c. connections c (theirs w)) tables.worker.number ∙ tables.worker.unconnected;
    });
  }

-- ---- what a slot is after each call

of_start : (clients : ℕ) (b : Started) → IsServers b.server clients (Start b)
of_start clients b = record { its = refl; opens = λ caller. refl; closes = λ caller. refl; connects = λ caller. refl; disconnects = λ caller. refl }

of_failed : (clients : ℕ) (b : Started) → IsServers b.server clients (StartFailed b)
of_failed clients b = record { its = refl; opens = λ caller. refl; closes = λ caller. refl; connects = λ caller. refl; disconnects = λ caller. refl }

of_take : (clients : ℕ) (t : Taken) → IsServers t.server clients (Take t)
of_take clients t = record { its = refl; opens = λ caller. refl; closes = λ caller. refl; connects = λ caller. refl; disconnects = λ caller. refl }

module _ (slot : ServerSlot) (w : WorkState) (stands : Stands slot w) where
  -- nothing is in hand where the server is off
  off_hand : (d : Doing) → slot.doing ≡ d → d ≡ Off → slot.hand ≡ None
  off_hand d is off = subst (λ (e : Doing). InHand e slot.hand) (is ∙ off) stands.hand

  pub starts_stands : (life : Generation) (tick : ℕ) (stamp : Stamp) → MayStart tick slot w → stamp.0 ≡ w.stamp.0 + 1
      → Stands (record (with_start tick slot) { doing = Idle life }) (noted_here (record { stamp = stamp; event = Start (record { server = slot.server; generation = life; tick = tick }) }) (with_room 3 w))
  starts_stands life tick stamp may next =
      let t = stands.tables in
      let few = t.few in
      record {
        tables = stand-more slot.server slot.restarts (record slot.restarts { starts = tick ∷ slot.restarts.starts }) w (record { stamp = stamp; event = Start (record { server = slot.server; generation = life; tick = tick }) }) (max w.room 3 - 1) t.worker refl refl refl
            (of_start w.clients (record { server = slot.server; generation = life; tick = tick })) (slot.made + 1) (Idle life) lasts.Nothing slot.gone slot.shut
            (reads_started slot.server.0 (view_of slot.server w) slot.made slot.restarts.starts slot.doing slot.last slot.gone slot.shut t.reads (record { server = slot.server; generation = life; tick = tick }) refl)
            (omega (arith, few, next)) (omega (arith, le-max_right w.room 3));
        hand = off_hand slot.doing refl may.off;
      }

  pub failed_stands : (life : Generation) (tick : ℕ) (stamp : Stamp) → MayStart tick slot w → stamp.0 ≡ w.stamp.0 + 1
      → Stands (with_start tick slot) (noted_here (record { stamp = stamp; event = StartFailed (record { server = slot.server; generation = life; tick = tick }) }) (with_room 1 w))
  failed_stands life tick stamp may next =
      let t = stands.tables in
      let few = t.few in
      let x : Stamped = record { stamp = stamp; event = StartFailed (record { server = slot.server; generation = life; tick = tick }) } in
      record {
        tables = subst (λ (d : Doing). Stand slot.server (record slot.restarts { starts = tick ∷ slot.restarts.starts }) (slot.made + 1) d lasts.Nothing slot.gone slot.shut (noted_here x (with_room 1 w))) (sym may.off)
            (stand-more slot.server slot.restarts (record slot.restarts { starts = tick ∷ slot.restarts.starts }) w x (max w.room 1 - 1) t.worker refl refl refl
            (of_failed w.clients (record { server = slot.server; generation = life; tick = tick })) (slot.made + 1) Off lasts.Nothing slot.gone slot.shut
            (reads_failed slot.server.0 (view_of slot.server w) slot.made slot.restarts.starts slot.doing slot.last slot.gone slot.shut t.reads (record { server = slot.server; generation = life; tick = tick }) refl)
            (omega (arith, few, next)) (omega arith));
        hand = stands.hand;
      }

  pub taken_stands : (t : Taken) (entry : Entry Cargo) (stamp : Stamp) → t.server ≡ slot.server → slot.doing ≡ Idle t.generation → t.request ≡ entry.request → w.stamp.0 < stamp.0
      → Stands (record slot { doing = Busy t.generation entry.request; hand = Some entry; last = lasts.Nothing }) (noted (record { stamp = stamp; event = Take t }) w)
  taken_stands t entry stamp its idle same later =
      let before = stands.tables in
      let few = before.few in
      let ready = before.ready in
      let room = ap room_for idle in
      let x : Stamped = record { stamp = stamp; event = Take t } in
      record {
        tables = stand-more slot.server slot.restarts slot.restarts w x w.room before.worker refl refl refl
            (subst (λ (s : ServerId). IsServers s w.clients (Take t)) its (of_take w.clients t)) slot.made (Busy t.generation entry.request) lasts.Nothing slot.gone slot.shut
            (subst (λ (r : RequestId). Reads (server_after slot.server.0 (Take t) (view_of slot.server w)) slot.made slot.restarts.starts (Busy t.generation r) lasts.Nothing slot.gone slot.shut) same
            (reads_taken slot.server.0 (view_of slot.server w) slot.made slot.restarts.starts slot.doing slot.last slot.gone slot.shut before.reads t (ap (λ (s : ServerId). s.0) its)))
            (omega (arith, few, later)) (omega (arith, ready, room));
        hand = refl;
      }

-- ---- ends

idle_as : (cause : StopCause) (o : Option Outcome) → (cause ≡ causes.Exit → last_of o ≡ lasts.Badly) → idle_stops cause o ≡ true
idle_as causes.Exit (Some (Failed code payload)) only = refl
idle_as causes.Exit (Some BadReturn) only = refl
idle_as causes.Exit (Some (Returned code payload)) only = absurd (cc (only refl))
idle_as causes.Exit (Some (BadForward version)) only = absurd (cc (only refl))
idle_as causes.Exit (Some Died) only = absurd (cc (only refl))
idle_as causes.Exit (Some Starved) only = absurd (cc (only refl))
idle_as causes.Exit None only = absurd (cc (only refl))
idle_as cause o only = refl

dying_as : (cause : StopCause) (o : Option Outcome) (last : Last) → last_of o ≡ last → DyingStops cause last → dying_stops cause o ≡ true
dying_as cause (Some Died) last is may = subst (DyingStops cause) (sym is) may
dying_as cause (Some Starved) last is may = subst (DyingStops cause) (sym is) may
dying_as cause (Some (Returned code payload)) last is may = absurd (subst (DyingStops cause) (sym is) may)
dying_as cause (Some (Failed code payload)) last is may = absurd (subst (DyingStops cause) (sym is) may)
dying_as cause (Some BadReturn) last is may = absurd (subst (DyingStops cause) (sym is) may)
dying_as cause (Some (BadForward version)) last is may = absurd (subst (DyingStops cause) (sym is) may)
dying_as cause None last is may = absurd (subst (DyingStops cause) (sym is) may)

of_end : (clients : ℕ) (e : Ended) → IsServers e.server clients (End e)
of_end clients e = record { its = refl; opens = λ caller. refl; closes = λ caller. refl; connects = λ caller. refl; disconnects = λ caller. refl }

of_stop : (clients : ℕ) (x : Stopped) → IsServers x.server clients (Stop x)
of_stop clients x = record { its = refl; opens = λ caller. refl; closes = λ caller. refl; connects = λ caller. refl; disconnects = λ caller. refl }

of_gone : (clients : ℕ) (server : ServerId) → IsServers server clients (Gone server)
of_gone clients server = record { its = refl; opens = λ caller. refl; closes = λ caller. refl; connects = λ caller. refl; disconnects = λ caller. refl }

pub room_after : (o : Outcome) (g : Generation) → room_for (after_end o g) ≤ 2
room_after (Returned code payload) g = omega arith
room_after (Failed code payload) g = omega arith
room_after BadReturn g = omega arith
room_after (BadForward version) g = omega arith
room_after Died g = omega arith
room_after Starved g = omega arith

module _ (slot : ServerSlot) (w : WorkState) (tables : Tables slot w) where
  pub may_ended_by : (e : Ended) → e.server ≡ slot.server → slot.doing ≡ Busy e.generation e.request → may_end_so w.setup e.outcome ≡ true → ((version : ℕ) → version_of e.outcome ≡ Some version → least_version w.setup w.clients w.id.0 (theirs w) ≤ version) → IsNext w (End e)
  unfolding doing
  may_ended_by e its busy may recent = record {
    its = ap (λ (s : ServerId). w.clients + s.0) its ∙ tables.worker.number;
    met = subst (λ (s : ServerId). EndWorker w.setup w.clients (record e { server = s }) (theirs w)) (sym its) (record {
      busy = tables.reads.moved ∙ busy;
      may = may;
      unconnected = λ is. ap (λ c. connections c (theirs w)) tables.worker.number ∙ tables.worker.unconnected;
      not_older = λ version read. subst (λ c. least_version w.setup w.clients c (theirs w) ≤ version) (sym tables.worker.number) (recent version read);
    });
  }

  pub may_ended : (e : Ended) → e.server ≡ slot.server → slot.doing ≡ Busy e.generation e.request → may_end_so w.setup e.outcome ≡ true → version_of e.outcome ≡ None → IsNext w (End e)
  may_ended e its busy may none = may_ended_by e its busy may (λ version read. absurd (cc (none, read)))

  pub ended_tables : (e : Ended) (stamp : Stamp) (room : ℕ) → e.server ≡ slot.server → w.stamp.0 < stamp.0 → room_for (after_end e.outcome e.generation) ≤ room
      → Tables (record slot { doing = after_end e.outcome e.generation; last = last_by e.outcome }) (more (record { stamp = stamp; event = End e }) room w)
  ended_tables e stamp room its later fits =
      let few = tables.few in
      stand-more slot.server slot.restarts slot.restarts w (record { stamp = stamp; event = End e }) room tables.worker refl refl refl
      (subst (λ (s : ServerId). IsServers s w.clients (End e)) its (of_end w.clients e)) slot.made (after_end e.outcome e.generation) (last_by e.outcome) slot.gone slot.shut
      (reads_ended slot.server.0 (view_of slot.server w) slot.made slot.restarts.starts slot.doing slot.last slot.gone slot.shut tables.reads e (ap (λ (s : ServerId). s.0) its))
      (omega (arith, few, later)) fits

  none_open : open_descriptors (caller_of w.clients slot.server.0) (theirs w) ≡ []
  none_open = ap (λ c. open_descriptors c (theirs w)) tables.worker.number ∙ tables.worker.none

  none_connected : connections (caller_of w.clients slot.server.0) (theirs w) ≡ []
  none_connected = ap (λ c. connections c (theirs w)) tables.worker.number ∙ tables.worker.unconnected

  stops : (cause : StopCause) (d : Doing) (last : Last) → slot.doing ≡ d → slot.last ≡ last → MayStop cause d last → StopWorker w.clients (record { server = slot.server; generation = life_in d; cause = cause }) (theirs w)
  unfolding doing last_outcome
  stops cause (Idle g) last is ended may = record { alive = inl (tables.reads.moved ∙ is, idle_as cause _ (λ exit. tables.reads.ended ∙ ended ∙ may exit)); none = none_open; unconnected = none_connected }
  stops cause (Dying g) last is ended may = record { alive = inr (tables.reads.moved ∙ is, dying_as cause _ last (tables.reads.ended ∙ ended) may); none = none_open; unconnected = none_connected }
  stops cause Off last is ended may = absurd may
  stops cause (Busy g request) last is ended may = absurd may

  pub may_stopped : (cause : StopCause) → MayStop cause slot.doing slot.last → IsNext w (Stop (record { server = slot.server; generation = life_in slot.doing; cause = cause }))
  may_stopped cause may = record { its = tables.worker.number; met = stops cause slot.doing slot.last refl refl may }

  pub stopped_tables : (cause : StopCause) (life : Generation) (stamp : Stamp) (room : ℕ) → w.stamp.0 < stamp.0
      → Tables (record slot { doing = Off; last = lasts.Nothing; shut = is_shutdown cause }) (more (record { stamp = stamp; event = Stop (record { server = slot.server; generation = life; cause = cause }) }) room w)
  stopped_tables cause life stamp room later =
      let few = tables.few in
      let x : Stopped = record { server = slot.server; generation = life; cause = cause } in
      stand-more slot.server slot.restarts slot.restarts w (record { stamp = stamp; event = Stop x }) room tables.worker refl refl refl
      (of_stop w.clients x) slot.made Off lasts.Nothing slot.gone (is_shutdown cause)
      (reads_stopped slot.server.0 (view_of slot.server w) slot.made slot.restarts.starts slot.doing slot.last slot.gone slot.shut tables.reads x refl)
      (omega (arith, few, later)) (omega arith)

  pub may_gone : (tick : ℕ) → MayBeGivenUp tick slot w → IsNext w (Gone slot.server)
  unfolding doing was_shut_down
  may_gone tick may = record {
    its = tables.worker.number;
    met = record {
      off = tables.reads.moved ∙ may.off;
      not_shut_down = tables.reads.stopped ∙ may.up;
      no_restart = subst (λ c. may_start w.setup slot.server.0 (starts slot.server.0 (theirs w)) (tick_floor w.clients c (theirs w)) ≡ false) (sym tables.worker.number)
          (ruled slot w tables (tick_floor w.clients w.id.0 (theirs w)) ∙ no_earlier slot.restarts (tick_floor w.clients w.id.0 (theirs w)) tick may.floor may.no_restart);
    };
  }

  pub gone_tables : (stamp : Stamp) → w.stamp.0 < stamp.0 → Tables (record slot { gone = true }) (noted (record { stamp = stamp; event = Gone slot.server }) w)
  gone_tables stamp later =
      let few = tables.few in
      stand-more slot.server slot.restarts slot.restarts w (record { stamp = stamp; event = Gone slot.server }) w.room tables.worker refl refl refl
      (of_gone w.clients slot.server) slot.made slot.doing slot.last true slot.shut
      (reads_gone slot.server.0 (view_of slot.server w) slot.made slot.restarts.starts slot.doing slot.last slot.gone slot.shut tables.reads slot.server refl)
      (omega (arith, few, later)) tables.ready

-- ---- how a request ends

kept_so : (b : Bool) → b ≡ b && true
kept_so true = refl
kept_so false = refl

-- what a return becomes where no connection is open
pub return_is : (setup : Setup) (open_connections : List RequestId) (sound : Bool) (value : Rval) (code : ℤ) (payload : Data) → open_connections ≡ [] → sound ≡ is_sound setup payload
    → (if sound then returned value code payload else BadReturn) ≡ return_by setup open_connections value code payload
return_is setup open_connections sound value code payload none is =
    ap (λ b. if b then returned value code payload else BadReturn) (is ∙ kept_so (is_sound setup payload)) ∙ ap (λ l. return_by setup l value code payload) (sym none)

pub return_may : (setup : Setup) (sound : Bool) (value : Rval) (code : ℤ) (payload : Data) → sound ≡ is_sound setup payload
    → (may_end_so setup (if sound then returned value code payload else BadReturn) ≡ true) × (version_of (if sound then returned value code payload else BadReturn) ≡ None)
return_may setup true Success code payload is = (sym is, refl)
return_may setup true Fail code payload is = (sym is, refl)
return_may setup true Exit code payload is = (sym is, refl)
return_may setup false value code payload is = (refl, refl)

-- a life that ends by a death may stop with its cause
pub death_stops : (cause : StopCause) → is_death cause ≡ true → DyingStops cause (last_by (outcome_of cause))
death_stops causes.Shutdown death = absurd (false≢true death)
death_stops causes.Exit death = absurd (false≢true death)
death_stops causes.Starved death = refl
death_stops causes.EndOfInput death = refl
death_stops causes.ReadFault death = refl
death_stops causes.WriteFault death = refl
death_stops (causes.BadBytes place) death = refl
death_stops (causes.OutOfTurn kind tag) death = refl

pub no_exit : (cause : StopCause) → is_death cause ≡ true → cause ≡ causes.Exit → ⊥
no_exit cause death is = false≢true (subst (λ c. is_death c ≡ true) is death)

-- ---- what a slot is after each end

-- the request that the server is busy with
pub holding : (d : Doing) (hand : Option (Entry Cargo)) → InHand d hand → IsBusy d → (entry : Entry Cargo) × (hand ≡ Some entry) × (d ≡ Busy (life_in d) entry.request)
holding (Busy g request) (Some entry) same busy = (entry, refl, ap (Busy g) (sym same))
holding (Busy g request) None same busy = absurd same
holding Off hand same busy = absurd busy
holding (Idle g) hand same busy = absurd busy
holding (Dying g) hand same busy = absurd busy

hand_after : (o : Outcome) (g : Generation) → InHand (after_end o g) None
hand_after (Returned code payload) g = refl
hand_after (Failed code payload) g = refl
hand_after BadReturn g = refl
hand_after (BadForward version) g = refl
hand_after Died g = tt
hand_after Starved g = tt

pub dies_as : (b : Bool) (g : Generation) → after_end (cond b Starved Died) g ≡ Dying g
dies_as true g = refl
dies_as false g = refl

pub bad_ends : (setup : Setup) (b : Bool) → (may_end_so setup (cond b Starved Died) ≡ true) × (version_of (cond b Starved Died) ≡ None)
bad_ends setup true = (refl, refl)
bad_ends setup false = (refl, refl)

-- the end of that request
abbrev pub end_of : ServerSlot → Entry Cargo → Outcome → Ended
end_of slot entry outcome = record { request = entry.request; server = slot.server; generation = life_in slot.doing; outcome = outcome }

module _ (slot : ServerSlot) (w : WorkState) (stands : Stands slot w) where
  pub finished_stands : (entry : Entry Cargo) (outcome : Outcome) (stamp : Stamp) → stamp.0 ≡ w.stamp.0 + 1
      → Stands (record slot { doing = after_end outcome (life_in slot.doing); hand = None; last = last_by outcome }) (noted_here (record { stamp = stamp; event = End (end_of slot entry outcome) }) (with_room 3 w))
  finished_stands entry outcome stamp next = record {
    tables = ended_tables slot w stands.tables (end_of slot entry outcome) stamp (max w.room 3 - 1) refl (omega (arith, next)) (omega (arith, room_after outcome (life_in slot.doing), le-max_right w.room 3));
    hand = hand_after outcome (life_in slot.doing);
  }

  pub lost_stands : (entry : Entry Cargo) (cause : StopCause) (stamp : Stamp) → slot.doing ≡ Busy (life_in slot.doing) entry.request → stamp.0 ≡ w.stamp.0 + 1
      → Stands (record slot { doing = Dying (life_in slot.doing); last = last_by (outcome_of cause) }) (noted_here (record { stamp = stamp; event = End (end_of slot entry (outcome_of cause)) }) w)
  lost_stands entry cause stamp busy next =
      let g = life_in slot.doing in
      let dying = dies_as (is_starved cause) g in
      let ready = stands.tables.ready in
      let room = ap room_for busy in
      let fits = ap room_for dying in
      let x : Stamped = record { stamp = stamp; event = End (end_of slot entry (outcome_of cause)) } in
      record {
        tables = subst (λ (d : Doing). Stand slot.server slot.restarts slot.made d (last_by (outcome_of cause)) slot.gone slot.shut (noted_here x w)) dying
            (ended_tables slot w stands.tables (end_of slot entry (outcome_of cause)) stamp (w.room - 1) refl (omega (arith, next)) (omega (arith, fits, ready, room)));
        hand = tt;
      }

  pub stopped_stands : (cause : StopCause) (life : Generation) (stamp : Stamp) → slot.hand ≡ None → stamp.0 ≡ w.stamp.0 + 1
      → Stands (record slot { doing = Off; last = lasts.Nothing; shut = is_shutdown cause }) (noted_here (record { stamp = stamp; event = Stop (record { server = slot.server; generation = life; cause = cause }) }) w)
  stopped_stands cause life stamp free next = record { tables = stopped_tables slot w stands.tables cause life stamp (w.room - 1) (omega (arith, next)); hand = free }

  pub gone_stands : (stamp : Stamp) → w.stamp.0 < stamp.0 → Stands (record slot { gone = true }) (noted (record { stamp = stamp; event = Gone slot.server }) w)
  gone_stands stamp later = record { tables = gone_tables slot w stands.tables stamp later; hand = stands.hand }
