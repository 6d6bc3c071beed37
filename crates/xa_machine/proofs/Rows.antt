-- What a row shows behind one event more.
use Rattle.std.proofs.Common.{◌≡◌, ℕ, ◌+◌, ◌==◌, ◌||◌, if◌then◌else◌, Bool, true, false, cond, max, List, [], ◌∷◌, Option, Some, None, inl, inr, refl, sym, ◌∙◌, ap, subst}
use Rattle.std.proofs.Common.{◌<◌, ◌≤◌, ◌≢◌, length, reverse, get_or, set, slice_index_or, length-set, get_or-set_same, get_or-set_other, arith}
use Rattle.std.proofs.lemmas.List.{reverse-append}
use Rattle.std.proofs.lemmas.Bool.{cases_eq}
use Rattle.std.specs.List.{cons_option}
use Rattle.xa_types.specs.declared.setup.Setup.{Setup}
use Rattle.xa_events.specs.declared.event.Event.TheVariants.{Take, Forward, Sweep, Down, Close}
use Rattle.xa_events.specs.Homes.{at_home}
use Rattle.xa_events.specs.Homes.Home.{QueueHome}
use Rattle.xa_events.specs.Queue.{comes_in, goes_out, takes_from, is_down_of, is_close_of}
use Rattle.xa_events.specs.Server.{doing_after, moves_server, start_in, is_gone_of, stops_server, is_shutdown_stop}
use Rattle.xa_events.specs.Views.{ServerView, server_after, QueueView, queue_after}
use Rattle.xa_machine.specs.declared.served.ServerRow.{ServerRow}
use Rattle.xa_machine.specs.declared.queued.QueueRow.{QueueRow}
use Rattle.xa_machine.specs.Here.{enters_here, leaves_here, takes_here, is_down_here, is_closed_here}
use Rattle.xa_machine.specs.Tables.{last_by, with_start, ServerShows, NotesServer, QueueShows, NotesQueue, CountsTake, RowsShow}
use Rattle.std.proofs.Math.Bool.{or_comm}
use Rattle.std.proofs.lemmas.Bool.{cases_Bool}
use Rattle.xa_types.specs.declared.ids.RequestId.{RequestId}
use Rattle.xa_events.specs.declared.event.Event.{Event}
use Rattle.xa_events.specs.declared.event.Event.TheVariants.{Accept, Receive}
use Rattle.xa_events.specs.Words.{greatest, has, same_request, added, without}
use Rattle.xa_events.specs.Caller.{op_of, is_call_of, accepted_in, priority_asked, accepts_for, reads, tick_in, is_leave_of, gives_up, changes_priority, opens_descriptor, closes_descriptor, answers_request}
use Rattle.xa_events.specs.Conversation.{opens_connection, closes_connection, break_in, hand_after}
use Rattle.xa_events.specs.Views.{newer, CallerView, caller_after}
use Rattle.xa_events.proofs.WordsLemmas.{has_added}
use Rattle.xa_machine.specs.declared.caller.CallerRow.{CallerRow}
use Rattle.xa_machine.specs.Tables.{raised, CallerShows, CountsAccept, accepted_after, NotesCalls, NotesRequests}

-- what is made of the newer of both
made_of : {Y : Type 0} (f : Option Event → Y) (b : Bool) (e : Event) (old : Option Event) (y : Y) → y ≡ f old → cond b (f (Some e)) y ≡ f (newer b e old)
made_of f true e old y h = refl
made_of f false e old y h = h

raised_is : (least : ℕ) (o : Option ℕ) (ns : List ℕ) (n : ℕ) → n ≡ greatest least ns → raised o n ≡ greatest least (cons_option o ns)
raised_is least None ns n h = h
raised_is least (Some m) ns n h = ap (max m) h

counted : (caller : ℕ) (e : Event) (view : CallerView) (n : ℕ) → CountsAccept caller e view → n ≡ view.accepted → accepted_after caller e n ≡ cond (accepts_for caller e) (view.accepted + 1) view.accepted
counted caller (Accept a) view n counts h = elim (cases_Bool (a.by.0 == caller)) [
  | inl y ↦ ap (λ b. if b then a.request.number else n) y ∙ (counts y ∙ sym (ap (λ b. cond b (view.accepted + 1) view.accepted) y))
  | inr k ↦ ap (λ b. if b then a.request.number else n) k ∙ (h ∙ sym (ap (λ b. cond b (view.accepted + 1) view.accepted) k))
]
counted caller _ view n counts h = h

-- a list and another with the same members, each with one more
same_members : (o : Option RequestId) (xs ys : List RequestId) → ((r : RequestId) → has r xs ≡ has r ys) → (r : RequestId) → has r (added o xs) ≡ has r (cons_option o ys)
same_members None xs ys h r = h r
same_members (Some a) xs ys h r = has_added r a xs ∙ (or_comm (has r xs) (same_request r a) ∙ ap (λ b. same_request r a || b) (h r))

-- where the members are the same, so is what is closed
hand_alike : (clients caller : ℕ) (e : Event) (xs ys : List RequestId) (closed : Bool) → ((r : RequestId) → has r xs ≡ has r ys) → hand_after clients caller e xs closed ≡ hand_after clients caller e ys closed
hand_alike clients caller (Receive r) xs ys closed h = rw (h r.request) refl
hand_alike clients caller _ xs ys closed h = refl

pub caller_noted : (clients caller : ℕ) (e : Event) (old mid new : CallerRow) → NotesCalls clients caller e old mid → NotesRequests clients caller e mid new
    → (boot : ℕ) (view : CallerView) → CountsAccept caller e view → CallerShows boot old view → CallerShows boot new (caller_after clients caller e view)
caller_noted clients caller e old mid new calls requests boot view counts was = record {
  op = requests.calls.op ∙ (calls.op ∙ made_of op_of (is_call_of caller e) e view.called old.op was.op);
  just = requests.calls.just ∙ (calls.just ∙ made_of accepted_in (is_call_of caller e) e view.called old.just was.just);
  accepted = requests.calls.accepted ∙ (calls.accepted ∙ counted caller e view old.accepted counts was.accepted);
  descriptors = requests.descriptors ∙ ap (λ xs. added (opens_descriptor caller e) (without (closes_descriptor caller e) xs)) (ap (λ v. v.items) calls.lists.descriptors ∙ was.descriptors);
  unanswered = requests.unanswered ∙ ap (λ xs. added (opens_descriptor caller e) (without (answers_request caller e) xs)) (ap (λ v. v.items) calls.lists.unanswered ∙ was.unanswered);
  version = requests.calls.version ∙ (calls.version ∙ raised_is boot (reads clients caller e) view.versions old.version was.version);
  tick = requests.calls.tick ∙ (calls.tick ∙ raised_is 0 (tick_in clients caller e) view.ticks old.tick was.tick);
  left = requests.calls.left ∙ (calls.left ∙ ap (λ b. is_leave_of caller e || b) was.left);
  leaving = requests.calls.leaving ∙ (calls.leaving ∙ ap (λ b. gives_up caller e || b) was.leaving);
  asked = requests.calls.asked ∙ (calls.asked ∙ made_of priority_asked (changes_priority clients caller e) e view.set old.asked was.asked);
  connections = requests.connections ∙ ap (λ xs. added (opens_connection caller e) (without (closes_connection caller e) xs)) (ap (λ v. v.items) calls.lists.connections ∙ was.connections);
  broken = λ r. ap (has r) requests.broken ∙ (ap (λ v. has r (added (break_in caller e) v.items)) calls.lists.broken ∙ same_members (break_in caller e) old.broken.items view.broken was.broken r);
  hand_closed = requests.hand_closed ∙ (ap (λ v. hand_after clients caller e v.items mid.hand_closed) calls.lists.broken ∙ (ap (hand_after clients caller e old.broken.items) (calls.lists.hand_closed ∙ was.hand_closed) ∙ hand_alike clients caller e old.broken.items view.broken view.hand_closed was.broken));
}

-- ---- a server

reverse_start : (o : Option ℕ) (ticks : List ℕ) → with_start o (reverse ticks) ≡ reverse (cons_option o ticks)
reverse_start None ticks = refl
reverse_start (Some tick) ticks = sym (reverse-append (tick ∷ []) ticks)

pub server_noted : (server : ℕ) (e : Event) (old new : ServerRow) → NotesServer server e old new → (view : ServerView) → ServerShows old view → ServerShows new (server_after server e view)
server_noted server e old new notes view was = record {
  doing = notes.doing ∙ made_of doing_after (moves_server server e) e view.moved old.doing was.doing;
  last = notes.last ∙ made_of last_by (moves_server server e) e view.moved old.last was.last;
  starts = notes.starts ∙ (ap (with_start (start_in server e)) was.starts ∙ reverse_start (start_in server e) view.starts);
  gone = notes.gone ∙ ap (λ b. is_gone_of server e || b) was.gone;
  shut = notes.shut ∙ made_of is_shutdown_stop (stops_server server e) e view.stopped old.shut was.shut;
}

-- ---- a queue

enters_is : (setup : Setup) (clients queue : ℕ) (e : Event) → at_home setup clients (QueueHome queue) e ≡ true → enters_here e ≡ comes_in queue e
enters_is setup clients queue (Accept a) h = rw h refl
enters_is setup clients queue (Forward f) h = rw h refl
enters_is setup clients queue _ h = refl

leaves_is : (setup : Setup) (clients queue : ℕ) (e : Event) → at_home setup clients (QueueHome queue) e ≡ true → leaves_here e ≡ goes_out setup queue e
leaves_is setup clients queue (Take t) h = rw h refl
leaves_is setup clients queue (Sweep x) h = rw h refl
leaves_is setup clients queue _ h = refl

takes_is : (setup : Setup) (clients queue : ℕ) (e : Event) (view : QueueView) (n : ℕ) → at_home setup clients (QueueHome queue) e ≡ true → CountsTake e view → n ≡ view.takes → takes_here e n ≡ cond (takes_from setup queue e) (view.takes + 1) view.takes
takes_is setup clients queue (Take t) view n h counts same = counts ∙ sym (ap (λ b. cond b (view.takes + 1) view.takes) h)
takes_is setup clients queue _ view n h counts same = same

down_is : (setup : Setup) (clients queue : ℕ) (e : Event) → at_home setup clients (QueueHome queue) e ≡ true → is_down_here e ≡ is_down_of queue e
down_is setup clients queue (Down q) h = sym h
down_is setup clients queue _ h = refl

closed_is : (setup : Setup) (clients queue : ℕ) (e : Event) → at_home setup clients (QueueHome queue) e ≡ true → is_closed_here e ≡ is_close_of queue e
closed_is setup clients queue (Close q) h = sym h
closed_is setup clients queue _ h = refl

pub queue_noted : (setup : Setup) (clients queue : ℕ) (e : Event) (old new : QueueRow) → NotesQueue e old new → at_home setup clients (QueueHome queue) e ≡ true
    → (view : QueueView) → CountsTake e view → QueueShows old view → QueueShows new (queue_after setup queue e view)
queue_noted setup clients queue e old new notes here view counts was = record {
  waiting = notes.waiting ∙ (ap (λ o. added o (without (leaves_here e) old.waiting.items)) (enters_is setup clients queue e here)
      ∙ (ap (λ o. added (comes_in queue e) (without o old.waiting.items)) (leaves_is setup clients queue e here) ∙ ap (λ xs. added (comes_in queue e) (without (goes_out setup queue e) xs)) was.waiting));
  takes = notes.takes ∙ takes_is setup clients queue e view old.takes here counts was.takes;
  down = notes.down ∙ (ap (λ b. b || old.down) (down_is setup clients queue e here) ∙ ap (λ b. is_down_of queue e || b) was.down);
  closed = notes.closed ∙ (ap (λ b. b || old.closed) (closed_is setup clients queue e here) ∙ ap (λ b. is_close_of queue e || b) was.closed);
}

-- ---- rows of a table

pub rows_noted : {X V : Type 0} (Shows : X → V → Type 0) (before after : ℕ → V) (none : V) (rows : List X) (i : ℕ) (row : X) → RowsShow Shows before none rows → i < length rows
    → Shows row (after i) → ((k : ℕ) → k ≢ i → after k ≡ before k) → RowsShow Shows after none (set rows i row)
rows_noted Shows before after none rows i row was within here other = record {
  each = λ k d l. elim (cases_eq k i) [
    | inl e ↦ let here_k = subst (λ (n : ℕ). Shows row (after n)) (sym e) here in let m : k < length rows = omega (arith, length-set rows i row) in
        subst (λ (n : ℕ). Shows (get_or (set rows i row) n d) (after n)) (sym e) (rw (get_or-set_same) here)
    | inr ne ↦ rw get_or-set_other (subst (λ v. Shows (get_or rows k d) v) (sym (other k ne)) (was.each k d (omega (arith, length-set rows i row))))
  ];
  beyond = λ k l. let far : length rows ≤ k = omega (arith, length-set rows i row) in other k (λ e. absurd (omega (arith, e, far, within))) ∙ was.beyond k far;
}

-- no row is written
pub rows_idle : {X V : Type 0} (Shows : X → V → Type 0) (before after : ℕ → V) (none : V) (rows : List X) → RowsShow Shows before none rows → ((k : ℕ) → after k ≡ before k) → RowsShow Shows after none rows
rows_idle Shows before after none rows was same = record {
  each = λ k d l. subst (λ v. Shows (slice_index_or rows k d) v) (sym (same k)) (was.each k d l);
  beyond = λ k l. same k ∙ was.beyond k l;
}
