-- The merge of all homes is one history, where the run came to its end.
use Rattle.std.proofs.Common.{◌≡◌, ◌⊎◌, ℕ, zero, suc, ◌+◌, ◌<◌, ◌≤◌, true, List, [], ◌∷◌, length, map, reverse, Option, Some, None, option_map, inl, inr, refl, sym, ◌∙◌, ap, subst, arith, add-one, eq-eqb}
use Rattle.xa_client_worker.specs.xa_caller.declared.phase.Phase.{Phase}
use Rattle.xa_client_worker.specs.xa_desk.Desks.{IsOver}
use Rattle.std.specs.Prelude.{IsSomeAnd, ⊤}
use Rattle.std.specs.List.{Contains}
use Rattle.std.proofs.lemmas.Bool.{cases_eq}
use Rattle.std.proofs.lemmas.List.{length-map}
use Rattle.std.proofs.lemmas.List.Folds.{list_any-from_Any}
use Rattle.xa_client_worker.specs.xa_types.declared.call.Op.{Op}
use Rattle.xa_client_worker.specs.xa_types.declared.stamp.Stamp.{Stamp}
use Rattle.xa_client_worker.specs.xa_types.Setup.{numbered, queue_of}
use Rattle.xa_client_worker.specs.xa_events.declared.event.Event.{Event}
use Rattle.xa_client_worker.specs.xa_events.Caller.{has_left, is_leave_of, newest_call}
use Rattle.xa_client_worker.specs.xa_events.Calls.{MadeCalls}
use Rattle.xa_client_worker.specs.xa_events.Cases.{HomePart, IsShut}
use Rattle.xa_client_worker.specs.xa_events.Homes.{Home}
use Rattle.xa_client_worker.specs.xa_events.Homes.Home.{QueueHome}
use Rattle.xa_client_worker.specs.xa_events.Local.{home_events, worker_events}
use Rattle.xa_client_worker.specs.xa_events.Queue.{waiting, is_closed, is_down}
use Rattle.xa_client_worker.specs.xa_events.Run.{Run, IsFinal}
use Rattle.xa_client_worker.specs.xa_events.Server.{AllGone, is_gone, was_shut_down}
use Rattle.xa_client_worker.specs.xa_events.State.{opening, caller_of}
use Rattle.xa_client_worker.specs.xa_events.Words.{AtEach, EachNumbered}
use Rattle.xa_client_worker.proofs.xa_events.Merge.{gone_here, gone_own, left_own, shut_more}
use Rattle.xa_client_worker.proofs.xa_queue.Waiting.{list_any-map, list_any-reverse}
use Rattle.xa_client_worker.specs.xa_stamp.declared.home.Stamped.{Stamped}
use Rattle.xa_client_worker.specs.xa_stamp.Home.{Notes}
use Rattle.xa_client_worker.specs.xa_stamp.Merge.{IsMerged}
use Rattle.xa_client_worker.specs.xa_lock.Makers.{noted_in}
use Rattle.xa_client_worker.specs.xa_worker.Crew.{AllOver}
use Rattle.xa_client_worker.specs.xa_worker.Ending.{list_in, workers_of}
use Rattle.xa_client_worker.specs.xa_worker.Seen.{past_in, SawFront, SawQueue}
use Rattle.xa_client_worker.proofs.xa_worker.Joined.{own_events, own_home, takes_in_order}
use Rattle.xa_client_worker.proofs.xa_worker.Over.{crew_is_final}
use Rattle.xa_client_worker.specs.xa_held.Kept.{Kept}
use Rattle.xa_client_worker.specs.xa_worker.Work.{WorkState, theirs}
use Rattle.xa_client_worker.specs.xa_caller.declared.cargo.Filling.{Filling}
use Rattle.xa_script.specs.declared.script.Client.{Client}
use Rattle.xa_client_worker.specs.xa_desk.declared.domain.Domain.{Domain}
use Rattle.xa_client_worker.specs.xa_desk.declared.desk.Desk.{Desk}
use Rattle.xa_client_worker.specs.xa_desk.Found.{SawAtQueue}
use Rattle.xa_client_worker.specs.xa_desk.Serving.{LeftOthers, IsSwept}
use Rattle.xa_client_worker.specs.Ending.{HasMade}
use Rattle.xa_server_worker.specs.Lives.{IsDone, ServerShows}
use Rattle.xa_history.specs.Joined.{Back, whole_of, kept_of, noted_of, AllLeft}
use Rattle.xa_history.specs.Ended.{ServerEnd, HasMadeAll, Ends, EndsWhole}
use Rattle.xa_history.specs.Served.{HoldAll, EachMadeCalls, IsHistory}
use Rattle.xa_history.proofs.Listed.{numbered_map, one_there}
use Rattle.xa_history.proofs.Left.{same_homes, each_left, has_left as desk_has_left}
use Rattle.xa_history.proofs.Going.{one_goes_on}
use Rattle.xa_history.proofs.Crew.{desks_are_crew}
use Rattle.xa_history.proofs.Homes.{homes_met, takes_next, saw_new}
use Rattle.xa_history.proofs.Callers.{noted_is, made_in_merge}
use Rattle.xa_history.proofs.Configured.{a_server}
use Rattle.xa_history.proofs.Gone.{not_both}
use Rattle.xa_history.proofs.Deserting.{in_the_end, swept_in_the_end, not_all_left, LeftOthers as LeftInFront}
use Rattle.xa_history.proofs.Recorded.{names, names_are}
use Rattle.xa_history.proofs.Lawful.{lawful_run}
use Rattle.xa_history.proofs.Merged.{merged_run, merged_made}

-- ---- numbered ones

pub each_at : {X : Type 0} (P : ℕ → X → Type 0) (n : ℕ) (xs : List X) → EachNumbered P n xs → (k : ℕ) → n ≤ k → k < n + length xs → (x : X) × P k x
each_at P n [] each k low high = absurd (omega (arith, low, high))
each_at P n (x ∷ xs) each k low high = elim (cases_eq n k) [
  | inl same ↦ (x, subst (λ i. P i x) same each.0)
  | inr more ↦ each_at P (n + 1) xs each.1 k (omega (arith, low, more)) (omega (arith, high))
]

each_weaker : {X : Type 0} (P Q : ℕ → X → Type 0) (n : ℕ) (xs : List X) → ((k : ℕ) (x : X) → n ≤ k → k < n + length xs → P k x → Q k x) → EachNumbered P n xs → EachNumbered Q n xs
each_weaker P Q n [] f each = tt
each_weaker P Q n (x ∷ xs) f each = (f n x (omega arith) (omega arith) each.0, each_weaker P Q (n + 1) xs (λ k y low high. f k y (omega (arith, low)) (omega (arith, high))) each.1)

each_mapped : {X Y : Type 0} (f : X → Y) (P : ℕ → Y → Type 0) (n : ℕ) (xs : List X) → EachNumbered P n (map f xs) → EachNumbered (λ k x. P k (f x)) n xs
each_mapped f P n [] each = tt
each_mapped f P n (x ∷ xs) each = (each.0, each_mapped f P (n + 1) xs each.1)

pub is_some : {X : Type 0} (P : X → Type 0) (o : Option X) → IsSomeAnd o P → (x : X) × (o ≡ Some x) × P x
is_some P None holds = absurd holds
is_some P (Some x) holds = (x, refl, holds)

-- ---- what a desk shows of its caller

left_among : (client : ℕ) (own : List Stamped) (x : Stamped) → Contains own x → is_leave_of client x.event ≡ true → has_left client (past_in own) ≡ true
unfolding has_left
left_among client own x here leaves =
    list_any-reverse (is_leave_of client) (map (λ (y : Stamped). y.event) own)
    ∙ (list_any-map (is_leave_of client) (λ (y : Stamped). y.event) own ∙ list_any-from_Any (λ (y : Stamped). is_leave_of client y.event) own (here.0, x, here.1, here.2, leaves))

module _ (d : Domain) (b : Back) (domain : WorkState) (desks : List Desk) (all : AllLeft d b domain desks) where
  abbrev held : Home → List Stamped
  held home = noted_in (kept_of b home)

  abbrev noted : ℕ → List Stamped
  noted = noted_of domain desks

  -- the worker's own events, the newest first
  abbrev own : ℕ → List Event
  own worker = worker_events d.clients worker (past_in (noted worker))

  its_own : (worker : ℕ) (desk : Desk) → numbered worker desks ≡ Some desk → theirs desk.caller.work ≡ own worker
  its_own worker desk there =
      let entries = desk.caller.work.own in
      ap (λ n. worker_events n desk.caller.work.id.0 (past_in entries)) (desk_has_left d b domain desks all worker desk there).is.clients
      ∙ (ap (λ n. worker_events d.clients n (past_in entries)) (all.ids worker desk there) ∙ ap (λ (l : List Stamped). worker_events d.clients worker (past_in l)) (sym (noted_is domain desks worker desk there)))

  client_left : (client : ℕ) (desk : Desk) (made : ℕ) → numbered client desks ≡ Some desk → HasMade made desk → has_left client (own client) ≡ true
  client_left client desk made there has =
      let leaves = left_among client desk.caller.work.own _ has.left (eq-eqb desk.caller.work.id.0 client (all.ids client desk there)) in
      left_own d.setup d.clients (past_in (noted client)) client ∙ (ap (λ (l : List Stamped). has_left client (past_in l)) (noted_is domain desks client desk there) ∙ leaves)

  -- ---- what a desk saw of a queue

  abbrev next : Desk → Stamp
  next desk = record { 0 = desk.caller.work.stamp.0 + 1 }

  saw_front : (worker : ℕ) (desk : Desk) → numbered worker desks ≡ Some desk → (queue : ℕ) (P : List Event → Type 0) → SawAtQueue d queue desk P → SawFront (held (QueueHome queue)) (next desk) P
  saw_front worker desk there queue P saw =
      saw_new d b domain desks all queue (next desk) P (subst (λ (l : List Stamped). SawQueue d.setup queue l (next desk) P) (same_homes d b (QueueHome queue)) (saw (whole_of d b) (one_goes_on d b domain desks all worker desk there) (next desk) (omega arith)))

  abbrev at_queue : ℕ → List Event
  at_queue queue = past_in (held (QueueHome queue))

  met : (queue : ℕ) → AtEach (HomePart d.setup) (at_queue queue)
  met queue = (homes_met d b domain desks all).queues queue

  abbrev Leaves : ℕ → ℕ → Type 0
  Leaves queue server = LeftInFront d.setup queue (held (QueueHome queue)) server

  -- how a server's worker was done
  record IsDoneBy (server : ℕ) : Type 0 where
    pub desk : Desk
    pub there : numbered (d.clients + server) desks ≡ Some desk
    pub done : IsDone d (queue_of d.setup server) server desk

  module _ (each : (server : ℕ) → 0 < server → server < length d.setup.servers + 1 → IsDoneBy server) where
    abbrev EachOf : ℕ → (ℕ → Type 0) → Type 0
    EachOf queue P = (server : ℕ) → 0 < server → server < length d.setup.servers + 1 → queue_of d.setup server ≡ queue → P server

    by_done : (queue server : ℕ) (X : Type 0) → (was_shut_down server (own (d.clients + server)) ≡ true → IsShut d.setup queue (at_queue queue) → X) → (IsSwept d queue (at_queue queue) → X) → (by : IsDoneBy server) → IsDone d queue server by.desk
        → Leaves queue server ⊎ X
    by_done queue server X shut swept by done =
        let entries = held (QueueHome queue) in
        elim done [
          | inl is ↦ inr (shut (sym (ap (was_shut_down server) (its_own (d.clients + server) by.desk by.there)) ∙ is.0) (in_the_end d.setup (IsShut d.setup queue) (shut_more d.setup queue) entries (next by.desk) (met queue) (saw_front (d.clients + server) by.desk by.there queue (IsShut d.setup queue) is.1)))
          | inr is ↦ elim is.1 [
            | inl left ↦ let front = saw_front (d.clients + server) by.desk by.there queue (LeftOthers d queue server) left in inl (record { front = front.front; stands = front.stands; gone = front.shows.0; others = front.shows.1 })
            | inr down ↦ inr (swept (swept_in_the_end d.setup queue entries (next by.desk) (met queue) (saw_front (d.clients + server) by.desk by.there queue (IsSwept d queue) down)))
          ]
        ]

    -- where each server of the queue shows X as it was shut down, or as the queue was swept, it holds
    by_servers : (queue : ℕ) → 0 < queue → queue < length d.setup.queues + 1 → (X : Type 0) → EachOf queue (λ server. was_shut_down server (own (d.clients + server)) ≡ true → IsShut d.setup queue (at_queue queue) → X) → (IsSwept d queue (at_queue queue) → X) → X
    by_servers zero some low X shut swept = absurd (omega (arith, some))
    by_servers (suc i) some low X shut swept =
        let server = a_server d.setup all.is.configured i (omega (arith, low)) in
        let queue : ℕ = suc i in
        not_all_left d.setup queue (held (QueueHome queue)) X
        (λ server some low of. let by = each server some low in by_done queue server X (shut server some low of) swept by (subst (λ n. IsDone d n server by.desk) of by.done)) server.0 server.1 server.2 (server.3 ∙ add-one i)

    queue_empty : (queue : ℕ) → 0 < queue → queue < length d.setup.queues + 1 → waiting d.setup queue (at_queue queue) ≡ []
    queue_empty queue some low = by_servers queue some low (waiting d.setup queue (at_queue queue) ≡ []) (λ server some low of down shut. shut.empty) (λ swept. swept.1)

    module _ (homes : List Notes) (hold : HoldAll d b homes) (events : List Event) (merged : IsMerged homes events) where
      abbrev workers : ℕ
      workers = workers_of d.setup d.clients

      -- what stands at its queue of a server stands among its worker's events
      gone_by : (queue server : ℕ) → 0 < server → server < length d.setup.servers + 1 → queue_of d.setup server ≡ queue → is_gone server (at_queue queue) ≡ true → is_gone server (own (d.clients + server)) ≡ true
      gone_by queue server some low of gone =
          let crew = desks_are_crew d b domain desks all in
          let are = names_are d b domain desks all homes hold in
          let past = reverse events in
          let there : home_events d.setup d.clients (QueueHome queue) past ≡ at_queue queue = own_home d.setup d.clients workers (kept_of b) noted crew (names d b domain desks all) homes events are merged (QueueHome queue) in
          let its : worker_events d.clients (d.clients + server) past ≡ own (d.clients + server) = own_events d.setup d.clients workers (kept_of b) noted crew (names d b domain desks all) homes events are merged (d.clients + server) (omega (arith, some)) (omega (arith, low)) in
          ap (is_gone server) (sym its) ∙ (gone_own d.setup d.clients past server ∙ (sym (gone_here d.setup d.clients server past) ∙ (ap (λ n. is_gone server (home_events d.setup d.clients (QueueHome n) past)) of ∙ (ap (is_gone server) there ∙ gone))))

      queue_down : (queue : ℕ) → 0 < queue → queue < length d.setup.queues + 1 → AllGone d.setup queue (at_queue queue) → is_down queue (at_queue queue) ≡ true
      queue_down queue some low gone =
          by_servers queue some low (is_down queue (at_queue queue) ≡ true)
          (λ server some low of down shut.
          let worker = d.clients + server in
          let is = not_both d.setup d.clients server (own worker) (each_left d b domain desks all worker (omega (arith, low))).work.met (gone_by queue server some low of (gone server some low of)) in
          let not_shut = is.not_shut in
          absurd (cc (down, not_shut)))
          (λ swept. swept.0)

-- ---- where the run came to its end

module _ (d : Domain) (b : Back) (domain : WorkState) (desks : List Desk) (servers : List ServerEnd) (homes : List Notes) (calls : List (List Op)) (ends : Ends d b domain desks servers homes ⊤) (whole : EndsWhole d b desks calls) where
  abbrev noted_by : ℕ → List Stamped
  noted_by = noted_of domain desks

  abbrev theirs_of : ℕ → List Event
  theirs_of = own d b domain desks ends.left

  done_by : (server : ℕ) → 0 < server → server < length d.setup.servers + 1 → IsDoneBy d b domain desks ends.left server
  done_by server some low =
      let one = each_at (λ k (x : ServerEnd). IsSomeAnd (numbered (d.clients + k) desks) (λ desk. ServerShows d x.shown.name (queue_of d.setup k) k desk x.lives x.cut x.shown ⊤)) 1 servers ends.each server (omega (arith, some)) (let count = ends.count in omega (arith, low, count)) in
      let its = is_some (λ desk. ServerShows d one.0.shown.name (queue_of d.setup server) server desk one.0.lives one.0.cut one.0.shown ⊤) (numbered (d.clients + server) desks) one.1 in
      record { desk = its.0; there = its.1; done = its.2.done tt }

  server_over : (server : ℕ) → 0 < server → server < length d.setup.servers + 1 → (was_shut_down server (theirs_of (caller_of d.clients server)) ≡ true) ⊎ (is_gone server (theirs_of (caller_of d.clients server)) ≡ true)
  server_over server some low =
      let by = done_by server some low in
      let same = its_own d b domain desks ends.left (d.clients + server) by.desk by.there in
      elim by.done [ inl is ↦ inl (sym (ap (was_shut_down server) same) ∙ is.0) | inr is ↦ inr (sym (ap (is_gone server) same) ∙ is.0) ]

  all_left : (client : ℕ) → 0 < client → client < d.clients + 1 → has_left client (theirs_of client) ≡ true
  all_left client some low =
      let one = each_at (λ k ops. IsSomeAnd (numbered k desks) (HasMadeAll d ops)) 1 calls whole.made client (omega (arith, some)) (let count = whole.clients in omega (arith, low, count)) in
      let its = is_some (HasMadeAll d one.0) (numbered client desks) one.1 in
      client_left d b domain desks ends.left client its.0 (length one.0) its.1 its.2.made

  queue_closed : (queue : ℕ) → 0 < queue → queue < length d.setup.queues + 1 → is_closed queue (at_queue d b domain desks ends.left queue) ≡ true
  queue_closed zero some low = absurd (omega (arith, some))
  queue_closed (suc i) some low =
      let one = one_there b.queues i (let count = ends.left.queues in omega (arith, low, count)) in
      let is = ends.left.each (suc i) one.0 one.1 in
      let entries = ap list_in (numbered_map (λ (kept : Kept Filling). kept.queue.entries) (suc i) b.queues ∙ ap (option_map (λ (kept : Kept Filling). kept.queue.entries)) one.1) in
      ap (λ l. is_closed (suc i) (past_in (noted_in l))) entries ∙ (ap (λ n. is_closed n (past_in (noted_in one.0.queue.entries))) (sym is.setting.id) ∙ (sym is.sound.shut ∙ whole.closed (suc i) one.0 one.1))

  module _ (events : List Event) (merged : IsMerged homes events) where
    abbrev past : List Event
    past = reverse events

    all_over : AllOver d.setup d.clients (kept_of b) noted_by
    all_over = record {
      left = all_left;
      over = server_over;
      closed = queue_closed;
      empty = queue_empty d b domain desks ends.left done_by;
      down = queue_down d b domain desks ends.left done_by homes ends.homes_are events merged;
    }

    is_final : IsFinal (record { setup = d.setup; clients = d.clients; past = past })
    is_final =
        let all = ends.left in
        crew_is_final d.setup d.clients (workers_of d.setup d.clients) (kept_of b) noted_by (desks_are_crew d b domain desks all) (names d b domain desks all) homes events (names_are d b domain desks all homes ends.homes_are) merged (omega arith) (homes_met d b domain desks all) all_over

    made_its_calls : (client : ℕ) (ops : List Op) → 1 ≤ client → client < 1 + length calls → IsSomeAnd (numbered client desks) (HasMadeAll d ops) → MadeCalls d.setup d.clients client ops past
    made_its_calls client ops some low made =
        let all = ends.left in
        let its = is_some (HasMadeAll d ops) (numbered client desks) made in
        made_in_merge d b domain desks all homes events ends.homes_are merged client its.0 its.1 ops its.2.fits its.2.made.last (subst (λ (p : Phase). IsOver p ops (newest_call its.0.caller.work.id.0 (worker_events d.clients its.0.caller.work.id.0 (past_in its.0.caller.work.own)))) its.2.made.idle its.2.fits.over)

    pub is_history : (clients : List Client) → calls ≡ map (λ (c : Client). c.ops) clients → IsHistory d.setup clients events
    is_history clients are =
        let all = ends.left in
        let same : d.clients ≡ length clients = sym whole.clients ∙ (ap (λ (l : List (List Op)). length l) are ∙ length-map clients (λ (c : Client). c.ops)) in
        let made = each_weaker (λ k ops. IsSomeAnd (numbered k desks) (HasMadeAll d ops)) (λ k ops. MadeCalls d.setup d.clients k ops past) 1 calls made_its_calls whole.made in
        let run = subst (λ n. Run (opening d.setup n) events (record { setup = d.setup; clients = n; past = past })) same (merged_run d b domain desks homes events all ends.homes_are merged) in
        record {
          run = run;
          final = subst (λ n. IsFinal (record { setup = d.setup; clients = n; past = past })) same is_final;
          lawful = lawful_run d.setup (length clients) events (record { setup = d.setup; clients = length clients; past = past }) run;
          ordered =
              takes_in_order d.setup d.clients (workers_of d.setup d.clients) (kept_of b) noted_by (desks_are_crew d b domain desks all) (names d b domain desks all) homes events (names_are d b domain desks all homes ends.homes_are) merged
              (homes_met d b domain desks all) (takes_next d b domain desks all);
          calls = subst (λ n. EachMadeCalls d.setup n 1 clients past) same (each_mapped (λ (c : Client). c.ops) (λ k ops. MadeCalls d.setup d.clients k ops past) 1 clients (subst (EachNumbered (λ k ops. MadeCalls d.setup d.clients k ops past) 1) are made));
          made = merged_made d b domain desks homes events all ends.homes_are merged;
        }

pub ends_history : (d : Domain) (b : Back) (domain : WorkState) (desks : List Desk) (servers : List ServerEnd) (homes : List Notes) (calls : List (List Op)) (clients : List Client) (events : List Event) → Ends d b domain desks servers homes ⊤ → EndsWhole d b desks calls
    → calls ≡ map (λ (c : Client). c.ops) clients → IsMerged homes events → IsHistory d.setup clients events
ends_history d b domain desks servers homes calls clients events ends whole are merged = is_history d b domain desks servers homes calls ends whole events merged clients are
