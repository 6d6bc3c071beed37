-- Of a request that goes on: its event may come next, and the slot's tables are what its events say behind it.
use Rattle.std.proofs.Common.{◌≡◌, ℕ, ◌+◌, ◌<◌, ◌≤◌, ◌==◌, ◌&&◌, Bool, true, false, List, Option, Some, None, Ok, Err, inl, inr, if◌then◌else◌, refl, sym, ◌∙◌, ap, subst, arith, eq-eqb}
use Rattle.std.specs.Prelude.{IsSomeAnd, nat_lt}
use Rattle.std.specs.List.{find}
use Rattle.std.proofs.lemmas.Bool.{cases_Bool, eqb-false, ltb-true}
use Rattle.xa_caller.specs.xa_types.declared.data.Data.{Data}
use Rattle.xa_caller.specs.xa_types.declared.ids.CallerId.{CallerId}
use Rattle.xa_caller.specs.xa_types.declared.ids.ServerId.{ServerId}
use Rattle.xa_caller.specs.xa_types.declared.row.Row.{Row}
use Rattle.xa_caller.specs.xa_types.declared.setup.Setup.{Setup}
use Rattle.xa_caller.specs.xa_types.declared.stamp.Stamp.{Stamp}
use Rattle.xa_caller.specs.xa_types.Found.{FoundRows}
use Rattle.xa_caller.specs.xa_types.Kind.{is_accepted, kind_of, is_sound}
use Rattle.xa_caller.specs.xa_types.Name.{is_name}
use Rattle.xa_caller.specs.xa_types.Rows.{row_for}
use Rattle.xa_caller.specs.xa_types.Setup.{numbered}
use Rattle.xa_caller.specs.xa_events.declared.event.Doing.{Doing}
use Rattle.xa_caller.specs.xa_events.declared.event.Doing.TheVariants.{Idle, Busy}
use Rattle.xa_caller.specs.xa_events.declared.event.Event.{Event}
use Rattle.xa_caller.specs.xa_events.declared.event.Event.TheVariants.{End, Forward}
use Rattle.xa_caller.specs.xa_events.declared.event.Forwarded.{Forwarded}
use Rattle.xa_caller.specs.xa_events.declared.event.Outcome.TheVariants.{BadForward}
use Rattle.xa_caller.specs.xa_events.Caller.{version_of, open_descriptors, versions, least_version, next_priority}
use Rattle.xa_caller.specs.xa_events.Cases.{priority_by}
use Rattle.xa_caller.specs.xa_events.Conversation.{connections}
use Rattle.xa_caller.specs.xa_events.Server.{doing, doing_after, outcome_in}
use Rattle.xa_caller.specs.xa_events.Views.{newer, ServerView, server_view, server_after}
use Rattle.xa_caller.specs.xa_held.Kept.{Brings}
use Rattle.xa_caller.specs.xa_queue.declared.entry.Entry.{Entry}
use Rattle.xa_caller.specs.xa_stamp.declared.home.Stamped.{Stamped}
use Rattle.xa_caller.specs.xa_worker.Work.{WorkState, IsNext, theirs, noted}
use Rattle.xa_caller.specs.Caller.{CallerState, IsSound, AreRowsOf}
use Rattle.xa_caller.specs.Drafts.{Cargo}
use Rattle.xa_caller.proofs.Next.{row-priority, found-all}
use Rattle.xa_restart.specs.Rule.{IsRuleOf}
use Rattle.xa_server.specs.declared.slot.ServerSlot.{ServerSlot}
use Rattle.xa_server.specs.declared.slot.Last.{Last}
use Rattle.xa_server.specs.declared.slot.Last.TheVariants as lasts
use Rattle.xa_server.specs.Doings.{life_in, last_of, room_for}
use Rattle.xa_server.specs.Forwarding.{way_of, row_or, forwarded_by, GoesBy, IsOnWay}
use Rattle.xa_server.specs.Slot.{Reads, Tables, Stands, SameWork, view_of}
use Rattle.xa_server.proofs.Reading.{IsServers, stand-more, end_of, may_ended_by}

-- ---- one event more

reads_forwarded : (server : ℕ) (view : ServerView) (made : ℕ) (begun : List ℕ) (doing : Doing) (last : Last) (gone shut : Bool) → Reads view made begun doing last gone shut → (f : Forwarded) → f.server.0 ≡ server
    → Reads (server_after server (Forward f) view) made begun (Idle f.generation) lasts.Nothing gone shut
reads_forwarded server view made begun doing last gone shut reads f its = let here = eq-eqb f.server.0 server its in record {
  moved = ap (λ h. doing_after (newer h (Forward f) view.moved)) here;
  ended = ap (λ h. last_of (outcome_in (newer h (Forward f) view.moved))) here;
  started = reads.started;
  count = reads.count;
  given_up = reads.given_up;
  stopped = reads.stopped;
}

of_forward : (clients : ℕ) (f : Forwarded) → IsServers f.server clients (Forward f)
of_forward clients f = record { its = refl; opens = λ caller. refl; closes = λ caller. refl; connects = λ caller. refl; disconnects = λ caller. refl }

module _ (entry : Entry Cargo) (event : Event) (slot : ServerSlot) (c : CallerState) (way : IsOnWay entry event slot c) where
  pub forwarded_stands : (stamp : Stamp) → c.work.stamp.0 < stamp.0 → Stands (record slot { doing = Idle (life_in slot.doing); last = lasts.Nothing }) (noted (record { stamp = stamp; event = event }) c.work)
  forwarded_stands stamp later =
      let w : WorkState = c.work in
      let t = way.tables in
      let few = t.few in
      let ready = t.ready in
      let room = ap room_for way.busy in
      let x : Stamped = record { stamp = stamp; event = Forward way.f } in
      record {
        tables = subst (λ (e : Event). Tables (record slot { doing = Idle (life_in slot.doing); last = lasts.Nothing }) (noted (record { stamp = stamp; event = e }) w)) (sym way.is)
            (stand-more slot.server slot.restarts slot.restarts w x w.room t.worker refl refl refl
            (subst (λ (s : ServerId). IsServers s w.clients (Forward way.f)) way.server (of_forward w.clients way.f)) slot.made (Idle (life_in slot.doing)) lasts.Nothing slot.gone slot.shut
            (subst (λ g. Reads (server_after slot.server.0 (Forward way.f) (view_of slot.server w)) slot.made slot.restarts.starts (Idle g) lasts.Nothing slot.gone slot.shut) way.generation
            (reads_forwarded slot.server.0 (view_of slot.server w) slot.made slot.restarts.starts slot.doing slot.last slot.gone slot.shut t.reads way.f (ap (λ (s : ServerId). s.0) way.server)))
            (omega (arith, few, later)) (omega (arith, ready, room)));
        hand = way.out;
      }

  pub may_forwarded : IsSound c → IsNext c.work event
  unfolding doing versions next_priority
  may_forwarded sound =
      let w : WorkState = c.work in
      let t = way.tables in
      let floor = sound.reads.floor in
      let recent = way.recent in
      let its : w.clients + way.f.server.0 ≡ w.id.0 = ap (λ (s : ServerId). w.clients + s.0) way.server ∙ t.worker.number in
      subst (IsNext w) (sym way.is) (record {
        its = its;
        met = record {
          busy = ap (λ (s : ServerId). doing s.0 (theirs w)) way.server ∙ t.reads.moved ∙ way.busy ∙ ap (λ g. Busy g entry.request) (sym way.generation) ∙ ap (Busy way.f.generation) (sym way.brings.0);
          few = way.few;
          sound = way.sound;
          unconnected = ap (λ k. connections k (theirs w)) its ∙ t.worker.unconnected;
          not_older = subst (λ k. least_version w.setup w.clients k (theirs w) ≤ way.f.version) (sym its) (omega (arith, floor, recent));
          priority = way.priority ∙ ap (priority_by w.setup way.f.service) (sym (ap (λ k. next_priority w.clients k (theirs w)) its ∙ sound.reads.set));
        };
      })

-- what was made of a request that was out or in hand is on its way
module _ (slot : ServerSlot) (c : CallerState) (version : ℕ) (row : Row) (service : List ℕ) (its : row ≡ row_for c.work.setup service row.queue.0 row.routine) where
  pub on_way : (hop : ℕ) (payload : Data) (was entry : Entry Cargo) (event : Event) → GoesBy version row c.priority hop payload was entry event slot → Tables slot c.work → slot.doing ≡ Busy (life_in slot.doing) was.request → slot.hand ≡ None
      → hop ≤ 32 → is_sound c.work.setup payload ≡ true → c.least ≤ version → IsOnWay entry event slot c
  on_way hop payload was entry event goes tables busy out few sound recent =
      let f : Forwarded = forwarded_by slot was.request hop version row c.priority payload in
      record {
        tables = tables;
        busy = busy ∙ ap (λ (e : Entry Cargo). Busy (life_in slot.doing) e.request) (sym goes.entered);
        out = out;
        f = f;
        is = goes.forwards;
        brings = subst (λ (e : Entry Cargo). Brings e.request e.cargo.invocation (Forward f)) (sym goes.entered) (refl, refl, refl, refl, refl);
        server = refl;
        generation = refl;
        few = few;
        sound = sound;
        recent = recent;
        priority = row-priority c.work.setup service row c.priority its;
      }

-- ---- which way

some_is : {X : Type 0} {x y : X} → Some x ≡ Some y → x ≡ y
some_is e = cc e

named : (name sound few : Bool) (row : Option Row) (found version least : ℕ) → (if name && sound && few then row_or found row else Err 0) ≡ Err version → (name ≡ true → least ≤ found) → 0 < version → least ≤ version
named true true true (Some row) found version least is recent above = absurd (cc is)
named true true true None found version least is recent above = let same : found ≡ version = cc is in let low = recent refl in omega (arith, same, low)
named true true false row found version least is recent above = let none : 0 ≡ version = cc is in omega (arith, none, above)
named true false few row found version least is recent above = let none : 0 ≡ version = cc is in omega (arith, none, above)
named false sound few row found version least is recent above = let none : 0 ≡ version = cc is in omega (arith, none, above)

by_row : (name sound few : Bool) (row : Option Row) (found : ℕ) (by : Row) → (if name && sound && few then row_or found row else Err 0) ≡ Ok by → (name ≡ true) × (sound ≡ true) × (few ≡ true) × (row ≡ Some by)
by_row true true true (Some row) found by is = (refl, refl, refl, ap Some (cc is))
by_row true true true None found by is = absurd (cc is)
by_row true true false row found by is = absurd (cc is)
by_row true false few row found by is = absurd (cc is)
by_row false sound few row found by is = absurd (cc is)

module _ (setup : Setup) (service : List ℕ) (payload : Data) (hop : ℕ) (found : FoundRows) where
  -- a forward fails with no version, or with one that is no older than what was read
  pub failed_recent : (version least : ℕ) → way_of setup service payload hop found ≡ Err version → (is_name service ≡ true → least ≤ found.version) → 0 < version → least ≤ version
  failed_recent version least is recent above = named (is_name service) (is_sound setup payload) (nat_lt hop 32) (find (λ (row : Row). is_accepted setup row.accepts (kind_of payload)) found.rows) found.version version least is recent above

  -- where it goes by a row, that is one of the service, and the data is sound
  pub goes_by : (row : Row) → way_of setup service payload hop found ≡ Ok row → (is_name service ≡ true) × (is_sound setup payload ≡ true) × (hop < 32) × (AreRowsOf setup service found.rows → row ≡ row_for setup service row.queue.0 row.routine)
  goes_by row is =
      let by = by_row (is_name service) (is_sound setup payload) (nat_lt hop 32) (find (λ (row : Row). is_accepted setup row.accepts (kind_of payload)) found.rows) found.version row is in
      (by.0, by.1, ltb-true hop 32 by.2, found-all (λ (r : Row). is_accepted setup r.accepts (kind_of payload)) (λ (r : Row). r ≡ row_for setup service r.queue.0 r.routine) found.rows row by.3)

-- ---- an end that names a version

read_of : (version read : ℕ) → version_of (BadForward version) ≡ Some read → (version ≡ read) × (0 < version)
read_of version read is = elim (cases_Bool (version == 0)) [
  | inl none ↦ absurd (cc (sym (ap (λ b. if b then None else Some version) none) ∙ is))
  | inr some ↦ let apart = eqb-false version 0 some in (some_is (sym (ap (λ b. if b then None else Some version) some) ∙ is), omega (arith, apart))
]

pub may_failed : (slot : ServerSlot) (c : CallerState) → Tables slot c.work → IsSound c → (entry : Entry Cargo) → slot.doing ≡ Busy (life_in slot.doing) entry.request → (version : ℕ) → (0 < version → c.least ≤ version) → IsNext c.work (End (end_of slot entry (BadForward version)))
unfolding versions
may_failed slot c tables sound entry busy version recent =
    let floor = sound.reads.floor in
    may_ended_by slot c.work tables (end_of slot entry (BadForward version)) refl busy refl
    (λ read is. let e = read_of version read is in let low = recent e.1 in let same = e.0 in omega (arith, floor, low, same))

-- ---- where the worker saw a stamp, made room, or noted an event of the domain

still_tables : (slot : ServerSlot) (old new : WorkState) → SameWork new old → Tables slot old → Tables slot new
still_tables slot old new same t =
    let few = t.few in
    let ready = t.ready in
    let later = same.later in
    let room = same.room in
    let id = ap (λ (i : CallerId). i.0) same.id in
    let view = ap (λ (past : List Event). server_view slot.server.0 past) same.own in
    record {
      worker = record {
        number = ap (λ n. n + slot.server.0) same.clients ∙ t.worker.number ∙ sym id;
        rule = subst (λ (s : Setup). IsSomeAnd (numbered slot.server.0 s.servers) (λ configured. IsRuleOf configured slot.restarts.restart slot.restarts.maxgen slot.restarts.grace)) (sym same.setup) t.worker.rule;
        none = ap (λ k. open_descriptors k (theirs new)) id ∙ ap (open_descriptors old.id.0) same.own ∙ t.worker.none;
        unconnected = ap (λ k. connections k (theirs new)) id ∙ ap (connections old.id.0) same.own ∙ t.worker.unconnected;
      };
      reads = subst (λ (v : ServerView). Reads v slot.made slot.restarts.starts slot.doing slot.last slot.gone slot.shut) (sym view) t.reads;
      few = omega (arith, few, later);
      ready = omega (arith, ready, room);
    }

pub still_on_way : (entry : Entry Cargo) (event : Event) (slot : ServerSlot) (old new : CallerState) → SameWork new.work old.work → new.least ≡ old.least → new.priority ≡ old.priority → IsOnWay entry event slot old → IsOnWay entry event slot new
still_on_way entry event slot old new same least priority way =
    let recent = way.recent in
    record {
      tables = still_tables slot old.work new.work same way.tables;
      busy = way.busy;
      out = way.out;
      f = way.f;
      is = way.is;
      brings = way.brings;
      server = way.server;
      generation = way.generation;
      few = way.few;
      sound = ap (λ (s : Setup). is_sound s way.f.payload) same.setup ∙ way.sound;
      recent = omega (arith, least, recent);
      priority = way.priority ∙ ap (λ (s : Setup). priority_by s way.f.service old.priority) (sym same.setup) ∙ ap (priority_by new.work.setup way.f.service) (sym priority);
    }
