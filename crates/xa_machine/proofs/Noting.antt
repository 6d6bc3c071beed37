-- What each table shows behind one event more, where the row of its worker, its server or its queue was written.
use Rattle.std.proofs.Common.{◌≡◌, ℕ, ◌+◌, ◌-◌, ◌<◌, ◌≢◌, ◌==◌, Bool, true, false, List, [], ◌∷◌, ◌++◌, length, map, reverse, get_or, set, Some, None, refl, sym, ◌∙◌, ap, subst, eq-eqb, arith}
use Rattle.std.specs.Prelude.{◌||◌}
use Rattle.std.specs.List.{cons_option, list_any}
use Rattle.std.proofs.Math.Bool.{or_comm, or-false}
use Rattle.std.proofs.lemmas.List.Folds.{list_any-append}
use Rattle.xa_events.specs.Words.{has}
use Rattle.xa_events.specs.Clock.{now, is_tick_to}
use Rattle.std.proofs.lemmas.List.{reverse-append, map-append}
use Rattle.std.proofs.lemmas.Bool.{ne_eqb}
use Rattle.xa_types.specs.declared.setup.Setup.{Setup}
use Rattle.xa_types.specs.Setup.{queue_of}
use Rattle.xa_events.specs.declared.event.Event.{Event}
use Rattle.xa_events.specs.declared.event.Event.TheVariants.{Tick, Accept, Take, Forward, Sweep, Gone, Down, Close}
use Rattle.xa_events.specs.Homes.{worker_of, at_home}
use Rattle.xa_events.specs.Homes.Home.{QueueHome}
use Rattle.xa_events.specs.Board.{boot, change_in, changes}
use Rattle.xa_events.specs.Queue.{takes}
use Rattle.xa_events.specs.Caller.{accepted}
use Rattle.xa_events.specs.Views.{CallerView, caller_view, caller_after, ServerView, server_view, QueueView, queue_view}
use Rattle.xa_events.proofs.Owns.{caller_more, caller_idle, server_more, server_idle, queue_more, queue_idle}
use Rattle.xa_machine.specs.declared.caller.CallerRow.{CallerRow}
use Rattle.xa_machine.specs.declared.queued.QueueRow.{QueueRow}
use Rattle.xa_machine.specs.declared.served.ServerRow.{ServerRow}
use Rattle.xa_machine.specs.declared.tables.BoardChange.{BoardChange}
use Rattle.xa_machine.specs.Tables.{RowsShow, SameRow, SameServer, SameQueue, CallerShows, no_caller, CountsAccept, ServerShows, no_server, NotesServer, QueueShows, no_queue, NotesQueue, CountsTake}
use Rattle.xa_machine.specs.Shown.{queue_home, change_of, clock_after, ticks_after, CallersShow, ServersShow, QueuesShow, CountsAcceptAt, CountsTakeAt}
use Rattle.xa_machine.specs.declared.tables.Tables.{Tables}
use Rattle.xa_machine.specs.Holds.{log_of}
use Rattle.xa_machine.specs.Versions.{VersionsShow}
use Rattle.xa_machine.specs.Whole.{TablesShow}
use Rattle.xa_machine.proofs.Rows.{rows_noted, rows_idle, server_noted, queue_noted}

apart : (a b : ℕ) → (a ≡ b → ⊥) → (a == b) ≡ false
apart a b ne = ne_eqb a b ne

-- ---- callers

accept_counts : (clients worker : ℕ) (e : Event) (past : List Event) → worker_of clients e ≡ worker → CountsAcceptAt clients e past → CountsAccept worker e (caller_view clients worker past)
accept_counts clients worker (Accept a) past is counts = λ own. counts ∙ ap (λ n. accepted n past + 1) is
accept_counts clients worker _ past is counts = tt

pub caller_rows : (setup : Setup) (clients worker : ℕ) (e : Event) (past : List Event) (rows : List CallerRow) (old new : CallerRow) → worker < length rows → old ≡ get_or rows worker old
    → ((boot : ℕ) (view : CallerView) → CountsAccept worker e view → CallerShows boot old view → CallerShows boot new (caller_after clients worker e view))
    → worker_of clients e ≡ worker → CountsAcceptAt clients e past → CallersShow setup clients past rows → CallersShow setup clients (e ∷ past) (set rows worker new)
caller_rows setup clients worker e past rows old new within read notes is counts was =
    let shown : CallerShows (boot setup) old (caller_view clients worker past) = rw read (was.each worker old within) in
    rows_noted (CallerShows (boot setup)) (λ k. caller_view clients k past) (λ k. caller_view clients k (e ∷ past)) no_caller rows worker new was within
    (subst (CallerShows (boot setup) new) (sym (caller_more clients worker e past)) (notes (boot setup) (caller_view clients worker past) (accept_counts clients worker e past is counts) shown))
    (λ k ne. caller_more clients k e past ∙ caller_idle clients k e (caller_view clients k past) (apart (worker_of clients e) k (λ same. ne (sym same ∙ is))))

-- ---- servers

pub server_rows : (clients server : ℕ) (e : Event) (past : List Event) (rows : List ServerRow) (old new : ServerRow) → server < length rows → old ≡ get_or rows server old
    → NotesServer server e old new → server ≡ worker_of clients e - clients → ServersShow past rows → ServersShow (e ∷ past) (set rows server new)
server_rows clients server e past rows old new within read notes is was =
    let shown : ServerShows old (server_view server past) = rw read (was.each server old within) in
    rows_noted ServerShows (λ k. server_view k past) (λ k. server_view k (e ∷ past)) no_server rows server new was within
    (subst (ServerShows new) (sym (server_more server e past)) (server_noted server e old new notes (server_view server past) shown))
    (λ k ne. server_more k e past ∙ server_idle clients k e (server_view k past) (apart (worker_of clients e) (clients + k) (λ same. ne (omega (arith, same, is)))))

-- ---- queues

pub home_is : (setup : Setup) (clients queue : ℕ) (e : Event) → queue_home setup e ≡ Some queue → at_home setup clients (QueueHome queue) e ≡ true
home_is setup clients queue (Accept a) h = let same : a.queue.0 ≡ queue = cc h in eq-eqb a.queue.0 queue same
home_is setup clients queue (Take t) h = let same : queue_of setup t.server.0 ≡ queue = cc h in eq-eqb (queue_of setup t.server.0) queue same
home_is setup clients queue (Forward f) h = let same : f.queue.0 ≡ queue = cc h in eq-eqb f.queue.0 queue same
home_is setup clients queue (Sweep x) h = let same : x.queue.0 ≡ queue = cc h in eq-eqb x.queue.0 queue same
home_is setup clients queue (Gone s) h = let same : queue_of setup s.0 ≡ queue = cc h in eq-eqb (queue_of setup s.0) queue same
home_is setup clients queue (Down q) h = let same : q.0 ≡ queue = cc h in eq-eqb q.0 queue same
home_is setup clients queue (Close q) h = let same : q.0 ≡ queue = cc h in eq-eqb q.0 queue same
home_is setup clients queue _ h = absurd (cc h)

pub home_only : (setup : Setup) (clients queue : ℕ) (e : Event) (k : ℕ) → (queue_home setup e ≡ Some queue) → k ≢ queue → at_home setup clients (QueueHome k) e ≡ false
home_only setup clients queue (Accept a) k h ne = apart a.queue.0 k (λ same. let is : a.queue.0 ≡ queue = cc h in ne (sym same ∙ is))
home_only setup clients queue (Take t) k h ne = apart (queue_of setup t.server.0) k (λ same. let is : queue_of setup t.server.0 ≡ queue = cc h in ne (sym same ∙ is))
home_only setup clients queue (Forward f) k h ne = apart f.queue.0 k (λ same. let is : f.queue.0 ≡ queue = cc h in ne (sym same ∙ is))
home_only setup clients queue (Sweep x) k h ne = apart x.queue.0 k (λ same. let is : x.queue.0 ≡ queue = cc h in ne (sym same ∙ is))
home_only setup clients queue (Gone s) k h ne = apart (queue_of setup s.0) k (λ same. let is : queue_of setup s.0 ≡ queue = cc h in ne (sym same ∙ is))
home_only setup clients queue (Down q) k h ne = apart q.0 k (λ same. let is : q.0 ≡ queue = cc h in ne (sym same ∙ is))
home_only setup clients queue (Close q) k h ne = apart q.0 k (λ same. let is : q.0 ≡ queue = cc h in ne (sym same ∙ is))
home_only setup clients queue _ k h ne = absurd (cc h)

take_counts : (setup : Setup) (queue : ℕ) (e : Event) (past : List Event) → queue_home setup e ≡ Some queue → CountsTakeAt setup e past → CountsTake e (queue_view setup queue past)
take_counts setup queue (Take t) past h counts = let same : queue_of setup t.server.0 ≡ queue = cc h in counts ∙ ap (λ n. takes setup n past + 1) same
take_counts setup queue _ past h counts = tt

pub queue_rows : (setup : Setup) (queue : ℕ) (e : Event) (past : List Event) (rows : List QueueRow) (old new : QueueRow) → queue < length rows → old ≡ get_or rows queue old
    → NotesQueue e old new → queue_home setup e ≡ Some queue → CountsTakeAt setup e past → QueuesShow setup past rows → QueuesShow setup (e ∷ past) (set rows queue new)
queue_rows setup queue e past rows old new within read notes is counts was =
    let shown : QueueShows old (queue_view setup queue past) = rw read (was.each queue old within) in
    rows_noted QueueShows (λ k. queue_view setup k past) (λ k. queue_view setup k (e ∷ past)) no_queue rows queue new was within
    (subst (QueueShows new) (sym (queue_more setup queue e past)) (queue_noted setup 0 queue e old new notes (home_is setup 0 queue e is) (queue_view setup queue past) (take_counts setup queue e past is counts) shown))
    (λ k ne. queue_more setup k e past ∙ queue_idle setup 0 k e (queue_view setup k past) (home_only setup 0 queue e k is ne))

pub home_none : (setup : Setup) (clients : ℕ) (e : Event) (k : ℕ) → queue_home setup e ≡ None → at_home setup clients (QueueHome k) e ≡ false
home_none setup clients (Accept a) k h = absurd (cc h)
home_none setup clients (Take t) k h = absurd (cc h)
home_none setup clients (Forward f) k h = absurd (cc h)
home_none setup clients (Sweep x) k h = absurd (cc h)
home_none setup clients (Gone s) k h = absurd (cc h)
home_none setup clients (Down q) k h = absurd (cc h)
home_none setup clients (Close q) k h = absurd (cc h)
home_none setup clients _ k h = refl

-- an event that stands at no queue
pub queues_idle : (setup : Setup) (e : Event) (past : List Event) (rows : List QueueRow) → queue_home setup e ≡ None → QueuesShow setup past rows → QueuesShow setup (e ∷ past) rows
queues_idle setup e past rows none was =
    rows_idle QueueShows (λ k. queue_view setup k past) (λ k. queue_view setup k (e ∷ past)) no_queue rows was
    (λ k. queue_more setup k e past ∙ queue_idle setup 0 k e (queue_view setup k past) (home_none setup 0 e k none))

-- ---- the board

changes_more : (e : Event) (past : List Event) → changes (e ∷ past) ≡ cons_option (change_in e) (changes past)
unfolding changes
changes_more e past = refl

pub board_put : (xs : List BoardChange) (change : BoardChange) (e : Event) (past : List Event) → map change_of xs ≡ reverse (changes past) → Some (change_of change) ≡ change_in e
    → map change_of (xs ++ change ∷ []) ≡ reverse (changes (e ∷ past))
board_put xs change e past was is =
    map-append change_of xs (change ∷ []) ∙ (ap (λ cs. cs ++ change_of change ∷ []) was ∙ (sym (reverse-append (change_of change ∷ []) (changes past))
    ∙ ap reverse (ap (λ o. cons_option o (changes past)) is ∙ sym (changes_more e past))))

pub board_same : (xs : List BoardChange) (e : Event) (past : List Event) → map change_of xs ≡ reverse (changes past) → None ≡ change_in e → map change_of xs ≡ reverse (changes (e ∷ past))
board_same xs e past was is = was ∙ ap reverse (ap (λ o. cons_option o (changes past)) is ∙ sym (changes_more e past))

-- ---- the clock

pub clock_more : (e : Event) (past : List Event) → now (e ∷ past) ≡ clock_after (now past) e
unfolding now
clock_more (Tick t) past = refl
clock_more _ past = refl

any_push : (p : ℕ → Bool) (xs : List ℕ) (x : ℕ) → list_any p (xs ++ x ∷ []) ≡ (p x || list_any p xs)
any_push p xs x = list_any-append p xs (x ∷ []) ∙ (ap (λ b. list_any p xs || b) (or-false (p x)) ∙ or_comm (list_any p xs) (p x))

pub ticks_more : (tick : ℕ) (e : Event) (past : List Event) (ticks : List ℕ) → list_any (λ t. t == tick) ticks ≡ list_any (is_tick_to tick) past
    → list_any (λ t. t == tick) (ticks_after e ticks) ≡ list_any (is_tick_to tick) (e ∷ past)
ticks_more tick (Tick t) past ticks h = any_push (λ n. n == tick) ticks t.now ∙ ap (λ b. (t.now == tick) || b) h
ticks_more tick _ past ticks h = h

-- ---- rows that read the same show the same

pub same_caller : (boot : ℕ) (old new : CallerRow) (view : CallerView) → SameRow old new → CallerShows boot old view → CallerShows boot new view
same_caller boot old new view same was = record {
  op = same.calls.op ∙ was.op;
  just = same.calls.just ∙ was.just;
  accepted = same.calls.accepted ∙ was.accepted;
  descriptors = same.descriptors ∙ was.descriptors;
  unanswered = same.unanswered ∙ was.unanswered;
  version = same.calls.version ∙ was.version;
  tick = same.calls.tick ∙ was.tick;
  left = same.calls.left ∙ was.left;
  leaving = same.calls.leaving ∙ was.leaving;
  asked = same.calls.asked ∙ was.asked;
  connections = same.connections ∙ was.connections;
  broken = λ r. ap (has r) same.broken ∙ was.broken r;
  hand_closed = same.hand_closed ∙ was.hand_closed;
}

pub same_server : (old new : ServerRow) (view : ServerView) → SameServer old new → ServerShows old view → ServerShows new view
same_server old new view same was = record {
  doing = same.doing ∙ was.doing;
  last = same.last ∙ was.last;
  starts = same.starts ∙ was.starts;
  gone = same.gone ∙ was.gone;
  shut = same.shut ∙ was.shut;
}

pub same_queue : (old new : QueueRow) (view : QueueView) → SameQueue old new → QueueShows old view → QueueShows new view
same_queue old new view same was = record { waiting = same.waiting ∙ was.waiting; takes = same.takes ∙ was.takes; down = same.down ∙ was.down; closed = same.closed ∙ was.closed }

-- one row is written by another that shows the same
pub row_same : {X V : Type 0} (Shows : X → V → Type 0) (view : ℕ → V) (none : V) (rows : List X) (i : ℕ) (old new : X) → i < length rows → old ≡ get_or rows i old
    → ((v : V) → Shows old v → Shows new v) → RowsShow Shows view none rows → RowsShow Shows view none (set rows i new)
row_same Shows view none rows i old new within read same was = rows_noted Shows view view none rows i new was within (same (view i) (rw read (was.each i old within))) (λ k ne. refl)

-- ---- all tables

pub tables_more : (setup : Setup) (clients : ℕ) (e : Event) (past : List Event) (old new : Tables) → TablesShow setup clients past old
    → length new.servers.items ≡ length old.servers.items → length new.queues.items ≡ length old.queues.items → length new.callers.items ≡ length old.callers.items
    → ServersShow (e ∷ past) new.servers.items → QueuesShow setup (e ∷ past) new.queues.items → CallersShow setup clients (e ∷ past) new.callers.items
    → new.log.items ≡ reverse (log_of setup clients (e ∷ past)) → map change_of new.board.items ≡ reverse (changes (e ∷ past)) → VersionsShow setup (e ∷ past) new.versions.items → new.booting ≡ old.booting → new.ticks.items ≡ ticks_after e old.ticks.items → new.clock ≡ clock_after old.clock e
    → new.no_server ≡ old.no_server → new.no_queue ≡ old.no_queue → new.no_caller ≡ old.no_caller → TablesShow setup clients (e ∷ past) new
tables_more setup clients e past old new was ls lq lc s q k log board versions booting ticks time ns nq nc = record {
  many_servers = ls ∙ was.many_servers;
  many_queues = lq ∙ was.many_queues;
  many_callers = lc ∙ was.many_callers;
  servers = s;
  queues = q;
  callers = k;
  logged = log;
  changed = board;
  versions = versions;
  boots = ap (λ v. map change_of v.items) booting ∙ was.boots;
  time = time ∙ (ap (λ n. clock_after n e) was.time ∙ sym (clock_more e past));
  shown = λ tick. ap (list_any (λ n. n == tick)) ticks ∙ ticks_more tick e past old.ticks.items (was.shown tick);
  none_served = subst (λ r. ServerShows r no_server) (sym ns) was.none_served;
  none_queued = subst (λ r. QueueShows r no_queue) (sym nq) was.none_queued;
  none_called = subst (λ r. CallerShows (boot setup) r no_caller) (sym nc) was.none_called;
}
