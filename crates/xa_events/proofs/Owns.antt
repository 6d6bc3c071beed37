-- What is read off the events of a home, or of a worker, alone is what is read off all events.
use Rattle.std.proofs.Common.{◌≡◌, ℕ, ◌+◌, ◌==◌, ◌||◌, if◌then◌else◌, Bool, false, cond, List, [], ◌∷◌, Some, None, refl, sym, ◌∙◌, ap, eq-eqb, eqb-true, inl, inr}
use Rattle.std.specs.List.{filter, cons_option}
use Rattle.std.proofs.lemmas.Bool.{cases_Bool}
use Rattle.xa_types.specs.declared.setup.Setup.{Setup}
use Rattle.xa_events.specs.declared.event.Event.{Event}
use Rattle.xa_events.specs.declared.event.Event.TheVariants.{Advertise, Withdraw, Accept, Take, Forward, Sweep, Gone, Down, Close, Tick, Start, StartFailed, End, Stop, Answer, Cancel, Lapse, Refuse, NotYet, Leave, Send, Receive, Break, Priority}
use Rattle.xa_events.specs.Words.{added, without}
use Rattle.xa_events.specs.State.{caller_of}
use Rattle.xa_events.specs.Homes.{at_home, of_worker}
use Rattle.xa_events.specs.Homes.Home.{BoardHome, QueueHome, ClockHome, CallerHome}
use Rattle.xa_events.specs.Board.{changes}
use Rattle.xa_events.specs.Queue.{waiting, takes, is_down, is_closed}
use Rattle.xa_events.specs.Server.{starts, is_gone}
use Rattle.xa_events.specs.Caller.{newest_call, accepted, open_descriptors, unanswered, versions, ticks, has_left, is_leaving}
use Rattle.xa_types.specs.declared.ids.RequestId.{RequestId}
use Rattle.xa_events.specs.Conversation.{Side, connections, broken, is_hand_closed, end_done}
use Rattle.xa_events.specs.Local.{home_events, worker_events}
use Rattle.xa_events.specs.Views.{newer, BoardView, board_view, board_after, ClockView, clock_view, clock_after, QueueView, queue_view, queue_after, ServerView, server_view, server_after, CallerView, caller_view, caller_after, EndView, end_view, end_after}

-- ---- one more event, in each table

pub board_more : (e : Event) (past : List Event) → board_view (e ∷ past) ≡ board_after e (board_view past)
unfolding changes
board_more e past = refl

pub queue_more : (setup : Setup) (queue : ℕ) (e : Event) (past : List Event) → queue_view setup queue (e ∷ past) ≡ queue_after setup queue e (queue_view setup queue past)
unfolding waiting takes is_down is_closed
queue_more setup queue e past = refl

pub server_more : (server : ℕ) (e : Event) (past : List Event) → server_view server (e ∷ past) ≡ server_after server e (server_view server past)
unfolding starts is_gone
server_more server e past = refl

pub caller_more : (clients caller : ℕ) (e : Event) (past : List Event) → caller_view clients caller (e ∷ past) ≡ caller_after clients caller e (caller_view clients caller past)
unfolding newest_call accepted open_descriptors unanswered versions ticks has_left is_leaving connections broken is_hand_closed
caller_more clients caller e past = refl

pub clock_more : (e : Event) (past : List Event) → clock_view (e ∷ past) ≡ clock_after e (clock_view past)
clock_more e past = refl

-- ---- an event of another home, or of another worker, changes nothing

pub clock_idle : (setup : Setup) (clients : ℕ) (e : Event) (view : ClockView) → at_home setup clients ClockHome e ≡ false → clock_after e view ≡ view
clock_idle setup clients (Tick t) view h = cc h
clock_idle setup clients _ view h = refl

pub board_idle : (setup : Setup) (clients : ℕ) (e : Event) (view : BoardView) → at_home setup clients BoardHome e ≡ false → board_after e view ≡ view
board_idle setup clients (Advertise a) view h = cc h
board_idle setup clients (Withdraw w) view h = cc h
board_idle setup clients _ view h = refl

pub queue_idle : (setup : Setup) (clients queue : ℕ) (e : Event) (view : QueueView) → at_home setup clients (QueueHome queue) e ≡ false → queue_after setup queue e view ≡ view
queue_idle setup clients queue (Accept a) view h = ap (λ b. record view { waiting = added (if b then Some a.request else None) view.waiting }) h
queue_idle setup clients queue (Take t) view h = ap (λ b. record view { waiting = without (if b then Some t.request else None) view.waiting; takes = cond b (view.takes + 1) view.takes }) h
queue_idle setup clients queue (Forward f) view h = ap (λ b. record view { waiting = added (if b then Some f.request else None) view.waiting }) h
queue_idle setup clients queue (Sweep x) view h = ap (λ b. record view { waiting = without (if b then Some x.request else None) view.waiting }) h
queue_idle setup clients queue (Gone s) view h = ap (λ b. record view { gone = cons_option (if b then Some s.0 else None) view.gone }) h
queue_idle setup clients queue (Down q) view h = ap (λ b. record view { down = b || view.down }) h
queue_idle setup clients queue (Close q) view h = ap (λ b. record view { closed = b || view.closed }) h
queue_idle setup clients queue _ view h = refl

other_server : (clients a b : ℕ) → ((clients + a) == (clients + b)) ≡ false → (a == b) ≡ false
other_server clients a b h =
    elim (cases_Bool (a == b)) [
      | inl y ↦ let same = eq-eqb (clients + a) (clients + b) (ap (λ n. clients + n) (eqb-true a b y)) in cc (h, same)
      | inr n ↦ n
    ]

pub server_idle : (clients server : ℕ) (e : Event) (view : ServerView) → of_worker clients (caller_of clients server) e ≡ false → server_after server e view ≡ view
server_idle clients server (Take t) view h = ap (λ b. record view { moved = newer b (Take t) view.moved }) (other_server clients t.server.0 server h)
server_idle clients server (Forward f) view h = ap (λ b. record view { moved = newer b (Forward f) view.moved }) (other_server clients f.server.0 server h)
server_idle clients server (Gone s) view h = ap (λ b. record view { gone = b || view.gone }) (other_server clients s.0 server h)
server_idle clients server (Start s) view h = ap (λ b. record view { moved = newer b (Start s) view.moved; starts = cons_option (if b then Some s.tick else None) view.starts }) (other_server clients s.server.0 server h)
server_idle clients server (StartFailed s) view h = ap (λ b. record view { moved = newer b (StartFailed s) view.moved; starts = cons_option (if b then Some s.tick else None) view.starts }) (other_server clients s.server.0 server h)
server_idle clients server (End e) view h = ap (λ b. record view { moved = newer b (End e) view.moved }) (other_server clients e.server.0 server h)
server_idle clients server (Stop x) view h = ap (λ b. record view { moved = newer b (Stop x) view.moved; stopped = newer b (Stop x) view.stopped }) (other_server clients x.server.0 server h)
server_idle clients server _ view h = refl

pub caller_idle : (clients caller : ℕ) (e : Event) (view : CallerView) → of_worker clients caller e ≡ false → caller_after clients caller e view ≡ view
caller_idle clients caller (Advertise a) view h = rw h refl
caller_idle clients caller (Withdraw w) view h = rw h refl
caller_idle clients caller (Accept a) view h = rw h refl
caller_idle clients caller (Take t) view h = rw h refl
caller_idle clients caller (Forward f) view h = rw h refl
caller_idle clients caller (Tick t) view h = rw h refl
caller_idle clients caller (Start s) view h = rw h refl
caller_idle clients caller (StartFailed s) view h = rw h refl
caller_idle clients caller (End e) view h = rw h refl
caller_idle clients caller (Answer a) view h = rw h refl
caller_idle clients caller (Cancel c) view h = rw h refl
caller_idle clients caller (Lapse l) view h = rw h refl
caller_idle clients caller (Refuse r) view h = rw h refl
caller_idle clients caller (NotYet n) view h = rw h refl
caller_idle clients caller (Leave c) view h = rw h refl
caller_idle clients caller (Send s) view h = rw h refl
caller_idle clients caller (Receive r) view h = rw h refl
caller_idle clients caller (Break b) view h = rw h refl
caller_idle clients caller (Priority p) view h = rw h refl
caller_idle clients caller _ view h = refl

pub end_more : (caller : ℕ) (side : Side) (request : RequestId) (e : Event) (past : List Event) → end_view caller side request (e ∷ past) ≡ end_after caller side request e (end_view caller side request past)
unfolding end_done broken
end_more caller side request e past = refl

pub end_idle : (clients caller : ℕ) (side : Side) (request : RequestId) (e : Event) (view : EndView) → of_worker clients caller e ≡ false → end_after caller side request e view ≡ view
end_idle clients caller side request (Send s) view h = rw h refl
end_idle clients caller side request (Receive r) view h = rw h refl
end_idle clients caller side request (Break b) view h = rw h refl
end_idle clients caller side request _ view h = refl

-- what an end did stands at its caller's home
pub end_apart : (setup : Setup) (clients caller : ℕ) (side : Side) (request : RequestId) (e : Event) (view : EndView) → at_home setup clients (CallerHome caller) e ≡ false → end_after caller side request e view ≡ view
end_apart setup clients caller side request (Send s) view h = rw h refl
end_apart setup clients caller side request (Receive r) view h = rw h refl
end_apart setup clients caller side request (Break b) view h = rw h refl
end_apart setup clients caller side request _ view h = refl

-- ---- so each table reads the same off its own events

own_view : {V : Type 0} (view : List Event → V) (after : Event → V → V) (own : Event → Bool) → ((e : Event) (past : List Event) → view (e ∷ past) ≡ after e (view past))
    → ((e : Event) (v : V) → own e ≡ false → after e v ≡ v) → (past : List Event) → view (filter own past) ≡ view past
own_view view after own more idle [] = refl
own_view view after own more idle (e ∷ past) =
    elim (cases_Bool (own e)) [
      | inl y ↦ ap (λ b. view (cond b (e ∷ filter own past) (filter own past))) y ∙ (more e (filter own past) ∙ (ap (after e) (own_view view after own more idle past) ∙ sym (more e past)))
      | inr n ↦ ap (λ b. view (cond b (e ∷ filter own past) (filter own past))) n ∙ (own_view view after own more idle past ∙ sym (more e past ∙ idle e (view past) n))
    ]

pub board_own : (setup : Setup) (clients : ℕ) (past : List Event) → board_view (home_events setup clients BoardHome past) ≡ board_view past
board_own setup clients past = own_view board_view board_after (at_home setup clients BoardHome) board_more (board_idle setup clients) past

pub clock_own : (setup : Setup) (clients : ℕ) (past : List Event) → clock_view (home_events setup clients ClockHome past) ≡ clock_view past
clock_own setup clients past = own_view clock_view clock_after (at_home setup clients ClockHome) clock_more (clock_idle setup clients) past

pub queue_own : (setup : Setup) (clients queue : ℕ) (past : List Event) → queue_view setup queue (home_events setup clients (QueueHome queue) past) ≡ queue_view setup queue past
queue_own setup clients queue past = own_view (queue_view setup queue) (queue_after setup queue) (at_home setup clients (QueueHome queue)) (queue_more setup queue) (queue_idle setup clients queue) past

pub server_own : (clients server : ℕ) (past : List Event) → server_view server (worker_events clients (caller_of clients server) past) ≡ server_view server past
server_own clients server past = own_view (server_view server) (server_after server) (of_worker clients (caller_of clients server)) (server_more server) (server_idle clients server) past

pub caller_own : (clients caller : ℕ) (past : List Event) → caller_view clients caller (worker_events clients caller past) ≡ caller_view clients caller past
caller_own clients caller past = own_view (caller_view clients caller) (caller_after clients caller) (of_worker clients caller) (caller_more clients caller) (caller_idle clients caller) past

pub end_own : (clients caller : ℕ) (side : Side) (request : RequestId) (past : List Event) → end_view caller side request (worker_events clients caller past) ≡ end_view caller side request past
unfolding end_done broken
end_own clients caller side request past = own_view (end_view caller side request) (end_after caller side request) (of_worker clients caller) (end_more caller side request) (end_idle clients caller side request) past

pub end_here : (setup : Setup) (clients caller : ℕ) (side : Side) (request : RequestId) (past : List Event) → end_view caller side request (home_events setup clients (CallerHome caller) past) ≡ end_view caller side request past
unfolding end_done broken
end_here setup clients caller side request past = own_view (end_view caller side request) (end_after caller side request) (at_home setup clients (CallerHome caller)) (end_more caller side request) (end_apart setup clients caller side request) past
