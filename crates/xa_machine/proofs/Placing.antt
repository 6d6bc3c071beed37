-- The rows of an event that may come next are there.
use Rattle.std.proofs.Common.{◌≡◌, ◌⊎◌, ℕ, suc, zero, ◌+◌, ◌-◌, ◌<◌, ◌≤◌, ◌&&◌, not, if◌then◌else◌, Bool, true, List, length, Option, Some, None, inl, inr, refl, sym, ◌∙◌, ap, subst, arith}
use Rattle.std.specs.Prelude.{nat_lt, cond}
use Rattle.std.specs.List.{position_or_len}
use Rattle.std.specs.Str.{bytes_eq}
use Rattle.xa_types.specs.declared.setup.QueueSetup.{QueueSetup}
use Rattle.xa_events.proofs.There.{known_queue, known_server}
use Rattle.std.proofs.lemmas.Bool.{cases_Bool, and_parts, cases_lt}
use Rattle.std.proofs.lemmas.Bool.Decides.{Decides-ltb, nat_tests}
use Rattle.std.proofs.lemmas.Option.{slice_get_cases}
use Rattle.xa_types.specs.declared.ids.RequestId.{RequestId}
use Rattle.xa_types.specs.declared.setup.Setup.{Setup}
use Rattle.xa_types.specs.declared.setup.ServerSetup.{ServerSetup}
use Rattle.xa_types.specs.Setup.{numbered, queue_of, queue_in, number_of, counted_from_1}
use Rattle.xa_events.specs.declared.event.Event.{Event}
use Rattle.xa_events.specs.declared.event.Event.TheVariants.{Advertise, Withdraw, Accept, Take, Forward, Sweep, Gone, Down, Close, Tick, Start, StartFailed, End, Stop, Answer, Cancel, Lapse, Refuse, NotYet, Leave, Send, Receive, Break, Priority}
use Rattle.xa_events.specs.declared.event.Doing.{Doing}
use Rattle.xa_events.specs.declared.event.Doing.TheVariants.{Off, Idle, Busy, Dying}
use Rattle.xa_events.specs.Words.{has}
use Rattle.xa_events.specs.Server.{doing, doing_after, is_busy, may_start, may_start_as}
use Rattle.xa_events.specs.Queue.{is_down}
use Rattle.xa_events.specs.Caller.{is_client, is_active, is_serving, has_left, is_leaving, open_descriptors}
use Rattle.xa_events.specs.Conversation.{connections}
use Rattle.xa_events.specs.Cases.{Case}
use Rattle.xa_events.specs.Views.{ServerView, QueueView, CallerView}
use Rattle.xa_machine.specs.declared.tables.Tables.{Tables}
use Rattle.xa_machine.specs.Shown.{CountsTakeAt, CountsAcceptAt}
use Rattle.xa_machine.specs.Whole.{TablesShow}
use Rattle.xa_machine.specs.Kept.{after, IsPlaced}

-- what of the setup is there
counted_most : {X : Type 0} (p : X → Bool) (xs : List X) → number_of p xs ≤ length xs
counted_most p xs = elim (cases_Bool (nat_lt (position_or_len p xs) (length xs))) [
  | inl y ↦ subst (λ b. counted_from_1 (cond b (Some (position_or_len p xs)) None) ≤ length xs) (sym y) (let h = (Decides-ltb (position_or_len p xs) (length xs)).0 y in omega (arith, h))
  | inr n ↦ subst (λ b. counted_from_1 (cond b (Some (position_or_len p xs)) None) ≤ length xs) (sym n) (omega arith)
]

queue_in_most : (setup : Setup) (o : Option ServerSetup) → queue_in setup o < length setup.queues + 1
queue_in_most setup None = omega arith
queue_in_most setup (Some server) = let h = counted_most (λ (queue : QueueSetup). bytes_eq queue.name server.queue) setup.queues in omega (arith, h)

queue_most : (setup : Setup) (server : ℕ) → queue_of setup server < length setup.queues + 1
queue_most setup server = queue_in_most setup (numbered server setup.servers)

-- a server that isn't off has a row
known_row : (server : ℕ) (past : List Event) (setup : Setup) (clients : ℕ) (t : Tables) → TablesShow setup clients past t → (doing server past ≡ Off → ⊥) → server < length setup.servers + 1
unfolding doing
known_row server past setup clients t shows on =
    elim (cases_lt server (length t.servers.items)) [
      | inl near ↦ omega (arith, near, shows.many_servers)
      | inr far ↦ absurd (on (ap (λ (v : ServerView). doing_after v.moved) (shows.servers.beyond server far)))
    ]

known_start : (setup : Setup) (server : ℕ) (made : List ℕ) (at : ℕ) → may_start setup server made at ≡ true → server < length setup.servers + 1
known_start setup server made at h = here (numbered server setup.servers) refl
  where
    inside : (n : ℕ) (xs : List ServerSetup) (x : ServerSetup) → numbered n xs ≡ Some x → n < length xs + 1
    inside zero xs x is = omega arith
    inside (suc n) xs x is = elim (slice_get_cases xs n).1 [
      | inl there ↦ let near = there.1 in omega (arith, near)
      | inr past ↦ let none = past.1 in absurd (cc (none, is))
    ]

    here : (o : Option ServerSetup) → numbered server setup.servers ≡ o → server < length setup.servers + 1
    here None is = absurd (cc (h, ap (λ o. may_start_as o made at) is))
    here (Some x) is = inside server setup.servers x is

busy_on : (d : Doing) → is_busy d ≡ true → d ≡ Off → ⊥
busy_on Off h is = cc h
busy_on (Idle g) h is = cc h
busy_on (Busy g r) h is = cc is
busy_on (Dying g) h is = cc h

client_most : (clients caller : ℕ) → is_client clients caller ≡ true → caller ≤ clients
client_most clients caller h = grind (arith, nat_tests)

-- an active caller has a row
active_row : (setup : Setup) (clients caller : ℕ) (past : List Event) (t : Tables) → TablesShow setup clients past t → is_active clients caller past ≡ true → caller < clients + (length setup.servers + 1)
active_row setup clients caller past t shows active = elim (cases_Bool (is_client clients caller)) [
  | inl y ↦ let most = client_most clients caller y in omega (arith, most)
  | inr n ↦
      let serving : is_serving clients caller past ≡ true = sym (ap (λ b. if b then not (has_left caller past) && not (is_leaving caller past) else is_serving clients caller past) n) ∙ active in
      let parts = and_parts (nat_lt clients caller) (is_busy (doing (caller - clients) past)) serving in
      let behind = (Decides-ltb clients caller).0 parts.0 in
      let known = known_row (caller - clients) past setup clients t shows (busy_on (doing (caller - clients) past) parts.1) in
      omega (arith, behind, known)
]

-- a caller that has something open has a row
opened_row : (setup : Setup) (clients caller : ℕ) (past : List Event) (t : Tables) (r : RequestId) → TablesShow setup clients past t → (has r (open_descriptors caller past) ≡ true) ⊎ (has r (connections caller past) ≡ true)
    → caller < clients + (length setup.servers + 1)
opened_row setup clients caller past t r shows open_there = elim (cases_lt caller (length t.callers.items)) [
  | inl near ↦ let many = shows.many_callers in omega (arith, near, many)
  | inr far ↦
      let none = shows.callers.beyond caller far in
      elim open_there [
        | inl h ↦ absurd (cc (h, ap (λ (v : CallerView). has r v.descriptors) none))
        | inr h ↦ absurd (cc (h, ap (λ (v : CallerView). has r v.connections) none))
      ]
]

-- a queue that is down has a row
down_row : (setup : Setup) (clients queue : ℕ) (past : List Event) (t : Tables) → TablesShow setup clients past t → is_down queue past ≡ true → queue < length setup.queues + 1
down_row setup clients queue past t shows down = elim (cases_lt queue (length t.queues.items)) [
  | inl near ↦ let many = shows.many_queues in omega (arith, near, many)
  | inr far ↦ absurd (cc (down, ap (λ (v : QueueView). v.down) (shows.queues.beyond queue far)))
]

pub case_placed : (setup : Setup) (clients : ℕ) (past : List Event) (t : Tables) (e : Event) → TablesShow setup clients past t → Case (after setup clients past) e → IsPlaced (after setup clients past) e
case_placed setup clients past t (Advertise a) shows case = record {
  worker = elim case.worker [ inl domain ↦ let none = domain.domain in omega (arith, none) | inr its ↦ active_row setup clients a.by.0 past t shows its.call.active ];
  queue = tt;
}
case_placed setup clients past t (Withdraw w) shows case = record {
  worker = elim case.worker [ inl domain ↦ let none = domain.domain in omega (arith, none) | inr its ↦ active_row setup clients w.by.0 past t shows its.call.active ];
  queue = tt;
}
case_placed setup clients past t (Accept a) shows case = record {
  worker = active_row setup clients a.by.0 past t shows case.worker.call.active;
  queue = let room = case.home.room in (known_queue setup a.queue.0 (omega (arith, room))).1;
}
case_placed setup clients past t (Take x) shows case = record {
  worker = let known = known_row x.server.0 past setup clients t shows (λ off. cc (off, case.worker.idle)) in omega (arith, known);
  queue = queue_most setup x.server.0;
}
case_placed setup clients past t (Forward f) shows case = record {
  worker = let known = known_row f.server.0 past setup clients t shows (λ off. cc (off, case.worker.busy)) in omega (arith, known);
  queue = let room = case.home.room in (known_queue setup f.queue.0 (omega (arith, room))).1;
}
case_placed setup clients past t (Sweep x) shows case = record { worker = omega arith; queue = down_row setup clients x.queue.0 past t shows case.home.down }
case_placed setup clients past t (Gone server) shows case = record {
  worker = let known = (known_server setup server.0 case.home.known).1 in omega (arith, known);
  queue = queue_most setup server.0;
}
case_placed setup clients past t (Down queue) shows case = record { worker = omega arith; queue = (known_queue setup queue.0 case.home.known).1 }
case_placed setup clients past t (Close queue) shows case = record { worker = omega arith; queue = (known_queue setup queue.0 case.home.known).1 }
case_placed setup clients past t (Tick x) shows case = record { worker = active_row setup clients x.by.0 past t shows case.worker.call.active; queue = tt }
case_placed setup clients past t (Start b) shows case = record { worker = let known = known_start setup b.server.0 _ _ case.worker.may in omega (arith, known); queue = tt }
case_placed setup clients past t (StartFailed b) shows case = record { worker = let known = known_start setup b.server.0 _ _ case.worker.may in omega (arith, known); queue = tt }
case_placed setup clients past t (End e) shows case = record {
  worker = let known = known_row e.server.0 past setup clients t shows (λ off. cc (off, case.worker.busy)) in omega (arith, known);
  queue = tt;
}
case_placed setup clients past t (Stop x) shows case = record {
  worker = let known = known_row x.server.0 past setup clients t shows (λ off. elim case.worker.alive [ inl i ↦ cc (off, i.0) | inr d ↦ cc (off, d.0) ]) in omega (arith, known);
  queue = tt;
}
case_placed setup clients past t (Answer a) shows case = record { worker = active_row setup clients a.by.0 past t shows case.worker.active; queue = tt }
case_placed setup clients past t (Cancel c) shows case = record { worker = opened_row setup clients c.by.0 past t c.request shows (inl case.worker.is_open); queue = tt }
case_placed setup clients past t (Lapse l) shows case = record { worker = active_row setup clients l.by.0 past t shows case.worker.active; queue = tt }
case_placed setup clients past t (Refuse r) shows case = record { worker = active_row setup clients r.by.0 past t shows case.worker.call.active; queue = tt }
case_placed setup clients past t (NotYet n) shows case = record { worker = active_row setup clients n.by.0 past t shows case.worker.call.active; queue = tt }
case_placed setup clients past t (Leave client) shows case = record { worker = let most = client_most clients client.0 case.worker.known in omega (arith, most); queue = tt }
case_placed setup clients past t (Send x) shows case = record { worker = active_row setup clients x.by.0 past t shows case.worker.call.active; queue = tt }
case_placed setup clients past t (Receive r) shows case = record { worker = active_row setup clients r.by.0 past t shows case.worker.call.active; queue = tt }
case_placed setup clients past t (Break b) shows case = record { worker = opened_row setup clients b.by.0 past t b.request shows (inr case.worker.is_open); queue = tt }
case_placed setup clients past t (Priority p) shows case = record { worker = active_row setup clients p.by.0 past t shows case.worker.call.active; queue = tt }

-- a take and an accept have the next number
pub case_takes : (setup : Setup) (clients : ℕ) (past : List Event) (e : Event) → Case (after setup clients past) e → CountsTakeAt setup e past
case_takes setup clients past (Take x) case = case.home.count
case_takes setup clients past _ case = tt

pub case_accepts : (setup : Setup) (clients : ℕ) (past : List Event) (e : Event) → Case (after setup clients past) e → CountsAcceptAt clients e past
case_accepts setup clients past (Accept a) case = case.worker.number
case_accepts setup clients past _ case = tt
