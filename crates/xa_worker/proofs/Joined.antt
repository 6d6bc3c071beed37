-- The merge of the homes of a crew.
use Rattle.std.proofs.Common.{◌≡◌, ◌⊎◌, ℕ, ◌<◌, Bool, true, List, [], ◌∷◌, ◌++◌, reverse, inl, inr, sym, ◌∙◌, ap, subst, arith, eq-eqb, map}
use Rattle.std.specs.List.{All, filter}
use Rattle.std.proofs.lemmas.List.Elements.{All-map, All-weaker, filter_passes, filter-append}
use Rattle.std.proofs.lemmas.Bool.{cases_Bool}
use Rattle.xa_types.specs.declared.setup.Setup.{Setup}
use Rattle.xa_types.specs.declared.stamp.Stamp.{Stamp}
use Rattle.xa_events.specs.declared.event.Event.{Event}
use Rattle.xa_events.specs.declared.event.Event.TheVariants.{Advertise, Withdraw, Accept, Take, Forward, Sweep, Gone, Down, Close, Tick, Start, StartFailed, End, Stop, Answer, Cancel, Lapse, NotYet, Refuse, Leave, Priority, Send, Receive, Break}
use Rattle.xa_events.specs.Words.{AtEach}
use Rattle.xa_events.specs.Homes.{Home, home_of, worker_of, at_home, of_worker}
use Rattle.xa_events.specs.Homes.Home.{BoardHome, QueueHome, ClockHome, CallerHome}
use Rattle.xa_events.specs.Cases.{HomePart, WorkerPart}
use Rattle.xa_events.specs.Order.{TakesNext, TakesInOrder}
use Rattle.xa_events.specs.Local.{Local, SeenPart, home_events, worker_events}
use Rattle.xa_stamp.specs.declared.home.Stamped.{Stamped}
use Rattle.xa_stamp.specs.Home.{Notes}
use Rattle.xa_stamp.specs.Merge.{IsMerged}
use Rattle.xa_lock.specs.declared.makers.Made.{Made}
use Rattle.xa_lock.specs.Makers.{noted_in}
use Rattle.xa_worker.specs.Seen.{past_in, IsNew, SawFronts, WasTold, IsBehind}
use Rattle.xa_worker.specs.Crew.{IsCrew, IsOfDomain, MayNote, AllMet, AreHomes, stands_at, no_stamp}
use Rattle.xa_worker.proofs.Lists.{filter-yes, filter-no, All-makers, past_in-filter, same_home-is, map-reverse, AtEach-cut}
use Rattle.xa_worker.proofs.Placed.{IsMergeOf, IsHeld, merge_of}
use Rattle.xa_worker.proofs.Workers.{Mounts, mounts, mounts-filter, one_place, AtEach-from, All-at, each_merged, its_own, all_workers}
use Rattle.xa_types.specs.declared.call.Op.{Op}
use Rattle.xa_events.specs.Calls.{MadeCalls}
use Rattle.xa_worker.specs.Calls.{MadeOwn}
use Rattle.xa_worker.proofs.Calls.{made_calls}
use Rattle.xa_worker.proofs.Finishing.{finished}
use Rattle.xa_worker.proofs.Replies.{reply_own}
use Rattle.xa_events.specs.Said.{reply_at}
use Rattle.xa_worker.specs.Finishing.{FinishedOwn}
use Rattle.xa_events.specs.Finishing.{Finish, FitsFinishes}
use Rattle.xa_events.specs.State.{caller_of}
use Rattle.xa_events.proofs.Merge.{AllCases, all_cases}
use Rattle.xa_worker.specs.Orders.{AllNew, MetIfNew, AllMetIfNew, AllNext}
use Rattle.xa_worker.proofs.Before.{All-on, NewIn, seen_part}
use Rattle.xa_worker.proofs.Fresh.{IsNoQueue, parts_whole, all_new_met, order_whole}

-- ---- what is asked at homes that aren't shared follows from the workers' parts

caller_part : (setup : Setup) (clients caller : ℕ) (e : Event) (p past : List Event) → at_home setup clients (CallerHome caller) e ≡ true → WorkerPart setup clients e p → HomePart setup e past
caller_part setup clients caller (Start b) p past here part = tt
caller_part setup clients caller (StartFailed b) p past here part = tt
caller_part setup clients caller (End e) p past here part = tt
caller_part setup clients caller (Stop x) p past here part = tt
caller_part setup clients caller (Answer a) p past here part = tt
caller_part setup clients caller (Refuse r) p past here part = tt
caller_part setup clients caller (Cancel c) p past here part = tt
caller_part setup clients caller (Lapse l) p past here part = tt
caller_part setup clients caller (NotYet n) p past here part = tt
caller_part setup clients caller (Tick t) p past here part = absurd (cc here)
caller_part setup clients caller (Leave client) p past here part = tt
caller_part setup clients caller (Priority q) p past here part = tt
caller_part setup clients caller (Send s) p past here part = tt
caller_part setup clients caller (Receive r) p past here part = tt
caller_part setup clients caller (Break b) p past here part = tt
caller_part setup clients caller (Advertise a) p past here part = absurd (cc here)
caller_part setup clients caller (Withdraw w) p past here part = absurd (cc here)
caller_part setup clients caller (Accept a) p past here part = absurd (cc here)
caller_part setup clients caller (Take t) p past here part = absurd (cc here)
caller_part setup clients caller (Gone server) p past here part = absurd (cc here)
caller_part setup clients caller (Forward f) p past here part = absurd (cc here)
caller_part setup clients caller (Sweep x) p past here part = absurd (cc here)
caller_part setup clients caller (Down queue) p past here part = absurd (cc here)
caller_part setup clients caller (Close queue) p past here part = absurd (cc here)

own_met : (setup : Setup) (clients : ℕ) (home : Home) → ((e : Event) (p past : List Event) → at_home setup clients home e ≡ true → WorkerPart setup clients e p → HomePart setup e past) → (past : List Event) → AtEach (WorkerPart setup clients) past → AtEach (HomePart setup) (home_events setup clients home past)
own_met setup clients home shows [] parts = tt
own_met setup clients home shows (e ∷ past) parts =
    let rest = own_met setup clients home shows past parts.1 in
    let own = home_events setup clients home past in
    elim (cases_Bool (at_home setup clients home e)) [
      | inl y ↦ subst (AtEach (HomePart setup)) (sym (filter-yes (at_home setup clients home) e past y)) (shows e past own y parts.0, rest)
      | inr n ↦ subst (AtEach (HomePart setup)) (sym (filter-no (at_home setup clients home) e past n)) rest
    ]

met_if_new : (setup : Setup) (queue : ℕ) (past : List Event) → AtEach (HomePart setup) past → AtEach (MetIfNew setup queue) past
met_if_new setup queue [] met = tt
met_if_new setup queue (e ∷ past) met = (λ new. met.0, met_if_new setup queue past met.1)

module _ (setup : Setup) (clients workers : ℕ) (kept : Home → List Made) (noted : ℕ → List Stamped) (crew : IsCrew setup clients workers kept noted) where
  abbrev held : Home → List Stamped
  held home = noted_in (kept home)

  -- what stands at a home was noted there
  stands : (home : Home) → All (λ (x : Stamped). home_of setup clients x.event ≡ home) (held home)
  stands home =
      let at = stands_at setup clients home in
      All-map (λ (x : Stamped). home_of setup clients x.event ≡ home) (λ (entry : Made). entry.noted) (kept home)
      (All-weaker (λ (entry : Made). at entry.noted ≡ true) (λ (entry : Made). home_of setup clients entry.noted.event ≡ home) (λ entry is. same_home-is (home_of setup clients entry.noted.event) home is) (kept home)
      (All-makers workers (λ worker x. at x ≡ true) (kept home) (λ worker low. subst (All (λ (x : Stamped). at x ≡ true)) (sym (crew.theirs worker low home)) (filter_passes at (noted worker))) (crew.homes home).made))

  pub each_held : (home : Home) → IsHeld setup clients home (held home)
  each_held home = record { first = (crew.homes home).first; rises = (crew.homes home).rises; stand = stands home }

  -- what an event of the domain was told doesn't rest on its worker's events
  told_any : (old new : List Event) (stamp : Stamp) (e : Event) → IsOfDomain e → WasTold setup clients held stamp old e → WasTold setup clients held stamp new e
  told_any old new stamp (Advertise a) domain told = tt
  told_any old new stamp (Withdraw w) domain told = tt
  told_any old new stamp (Sweep x) domain told = tt
  told_any old new stamp (Down queue) domain told = told
  told_any old new stamp (Close queue) domain told = told
  told_any old new stamp _ domain told = absurd domain

  module _ (events : List Event) (merged : List Stamped) (m : IsMergeOf setup clients held merged events) (board_met : AtEach (HomePart setup) (past_in (held BoardHome))) (clock_met : AtEach (HomePart setup) (past_in (held ClockHome))) where
    workers_met : (worker : ℕ) → AtEach (WorkerPart setup clients) (worker_events clients worker (past_in merged))
    workers_met = all_workers setup clients workers kept noted crew events merged m

    parts : AtEach (WorkerPart setup clients) (past_in merged)
    parts = parts_whole setup clients (past_in merged) workers_met

    at_home_is : (home : Home) → home_events setup clients home (past_in merged) ≡ past_in (held home)
    at_home_is home = past_in-filter (at_home setup clients home) merged ∙ ap past_in (m.theirs home)

    at_board : AtEach (HomePart setup) (home_events setup clients BoardHome (past_in merged))
    at_board = subst (AtEach (HomePart setup)) (sym (at_home_is BoardHome)) board_met

    at_clock : AtEach (HomePart setup) (home_events setup clients ClockHome (past_in merged))
    at_clock = subst (AtEach (HomePart setup)) (sym (at_home_is ClockHome)) clock_met

    others : (home : Home) → IsNoQueue home → AtEach (HomePart setup) (home_events setup clients home (past_in merged))
    others BoardHome other = at_board
    others (QueueHome queue) other = absurd other
    others ClockHome other = at_clock
    others (CallerHome caller) other = own_met setup clients (CallerHome caller) (λ e p past. caller_part setup clients caller e p past) (past_in merged) parts

    -- what each entry rests on, behind what its worker had noted
    record Rests (x : Stamped) : Type 0 where
      pub worker : ℕ
      pub low : worker < workers
      pub front : List Stamped
      pub back : List Stamped
      pub cut : noted worker ≡ front ++ x ∷ back
      pub may : MayNote clients worker x.event
      pub behind : IsBehind crew.last x.stamp x.event
      pub saw : SawFronts setup clients held x.stamp x.event (past_in front)
      pub told : WasTold setup clients held x.stamp (worker_events clients worker (past_in front)) x.event

    rests_of : (worker : ℕ) → worker < workers → All Rests (noted worker)
    rests_of worker low = All-on Rests [] (noted worker) (λ front back x cut.
        let work = crew.work worker low in
        record {
          worker = worker;
          low = low;
          front = front;
          back = back;
          cut = cut;
          may = All-at (λ (y : Stamped). MayNote clients worker y.event) front back x (subst (All (λ (y : Stamped). MayNote clients worker y.event)) cut work.may);
          behind = All-at (λ (y : Stamped). IsBehind crew.last y.stamp y.event) front back x (subst (All (λ (y : Stamped). IsBehind crew.last y.stamp y.event)) cut work.behind);
          saw = subst (SawFronts setup clients held x.stamp x.event) (map-reverse (λ (y : Stamped). y.event) front) (AtEach-cut _ (noted worker) front back x work.saw cut);
          told = subst (λ (es : List Event). WasTold setup clients held x.stamp (worker_events clients worker es) x.event) (map-reverse (λ (y : Stamped). y.event) front)
              (AtEach-cut (λ (y : Stamped) older. WasTold setup clients held y.stamp (worker_events clients worker (map (λ (z : Stamped). z.event) older)) y.event) (noted worker) front back x (crew.told worker low) cut);
        })

    all_rest : All Rests merged
    all_rest = each_merged setup clients workers kept noted crew events merged m Rests rests_of

    -- an entry's worker had noted before it just what the merge has of that worker before it
    own_before : (before after : List Stamped) (x : Stamped) → merged ≡ before ++ x ∷ after → (rests : Rests x)
        → (worker_events clients (worker_of clients x.event) (past_in rests.front) ≡ worker_events clients (worker_of clients x.event) (past_in before)) ⊎ IsOfDomain x.event
    own_before before after x split rests = elim rests.may [
      | inr domain ↦ inr domain
      | inl own ↦
          let worker = rests.worker in
          let is_of : Stamped → Bool = λ y. of_worker clients worker y.event in
          let mine : is_of x ≡ true = eq-eqb (worker_of clients x.event) worker own.1 in
          let parted : (front back : List Stamped) → filter is_of (front ++ x ∷ back) ≡ filter is_of front ++ x ∷ filter is_of back =
          λ front back. filter-append is_of front (x ∷ back) ∙ ap (λ ys. filter is_of front ++ ys) (filter-yes is_of x back mine) in
          let here : filter is_of (noted worker) ≡ filter is_of rests.front ++ x ∷ filter is_of rests.back = ap (filter is_of) rests.cut ∙ parted rests.front rests.back in
          let there : filter is_of merged ≡ filter is_of before ++ x ∷ filter is_of after = ap (filter is_of) split ∙ parted before after in
          let rise = subst (Mounts 0) here (mounts-filter is_of 0 (noted worker) (mounts no_stamp (noted worker) (crew.work worker rests.low).rises)) in
          let same = one_place 0 (filter is_of rests.front) (filter is_of before) (filter is_of rests.back) (filter is_of after) x rise
          (sym here ∙ (sym (its_own setup clients workers kept noted crew events merged m worker own.0 rests.low) ∙ there)) in
          let its : worker_events clients worker (past_in rests.front) ≡ worker_events clients worker (past_in before) =
          past_in-filter (of_worker clients worker) rests.front ∙ (ap past_in same ∙ sym (past_in-filter (of_worker clients worker) before)) in
          inl (subst (λ n. worker_events clients n (past_in rests.front) ≡ worker_events clients n (past_in before)) (sym own.1) its)
    ]

    -- what it was told holds by the events of its worker before it in the merge
    told_so : (before after : List Stamped) (x : Stamped) → merged ≡ before ++ x ∷ after → (rests : Rests x) → WasTold setup clients held x.stamp (worker_events clients (worker_of clients x.event) (past_in before)) x.event
    told_so before after x split rests =
        let there = worker_events clients (worker_of clients x.event) (past_in before) in
        elim rests.may [
          | inr domain ↦ told_any (worker_events clients rests.worker (past_in rests.front)) there x.stamp x.event domain rests.told
          | inl own ↦
              let here = worker_events clients (worker_of clients x.event) (past_in rests.front) in
              let told = subst (λ (n : ℕ). WasTold setup clients held x.stamp (worker_events clients n (past_in rests.front)) x.event) (sym own.1) rests.told in
              elim (own_before before after x split rests) [
                | inl same ↦ subst (λ (es : List Event). WasTold setup clients held x.stamp es x.event) same told
                | inr domain ↦ told_any here there x.stamp x.event domain told
              ]
        ]

    all_seen : AtEach (λ e before. NewIn setup clients before → SeenPart setup clients e before) (past_in merged)
    all_seen = AtEach-from (λ e before. NewIn setup clients before → SeenPart setup clients e before) merged (λ before after x split news.
        let rests = All-at Rests before after x (subst (All Rests) split all_rest) in
        seen_part setup clients held merged events m before after x split news crew.last (past_in rests.front) crew.booted rests.behind (own_before before after x split rests) rests.saw (told_so before after x split rests))

    local_new : AllMetIfNew setup kept → Local setup clients (past_in merged) × NewIn setup clients (past_in merged)
    local_new each = all_new_met setup clients (past_in merged) workers_met others all_seen (λ queue. subst (AtEach (MetIfNew setup queue)) (sym (at_home_is (QueueHome queue))) (each queue))

    -- the queues' events met their parts, where they did if requests were new
    pub queues_met : AllMetIfNew setup kept → AllNew setup kept × AllMet setup kept
    queues_met each =
        let g = local_new each in (
          λ queue. subst (AtEach (IsNew setup queue)) (at_home_is (QueueHome queue)) (g.1 queue),
          record { board = board_met; clock = clock_met; queues = λ queue. subst (AtEach (HomePart setup)) (at_home_is (QueueHome queue)) (g.0.homes (QueueHome queue)) },
        )

  module _ (names : List Home) (homes : List Notes) (events : List Event) (are : AreHomes names kept homes) (is : IsMerged homes events) where
    -- the merge as a list of entries
    the_merge : (merged : List Stamped) × IsMergeOf setup clients held merged events
    the_merge = (_, merge_of setup clients names held homes each_held events are.once (λ home none. ap noted_in (are.rest home none)) are.are is)

    at_queue : (queue : ℕ) → home_events setup clients (QueueHome queue) (past_in the_merge.0) ≡ past_in (held (QueueHome queue))
    at_queue queue = past_in-filter (at_home setup clients (QueueHome queue)) the_merge.0 ∙ ap past_in (the_merge.1.theirs (QueueHome queue))

    local_all : AllMet setup kept → Local setup clients (past_in the_merge.0) × NewIn setup clients (past_in the_merge.0)
    local_all met = local_new events the_merge.0 the_merge.1 met.board met.clock (λ queue. met_if_new setup queue (past_in (held (QueueHome queue))) (met.queues queue))

    pub crew_is_local : AllMet setup kept → Local setup clients (reverse events)
    crew_is_local met = subst (Local setup clients) (ap reverse the_merge.1.events) (local_all met).0

    pub requests_are_new : AtEach (HomePart setup) (past_in (held BoardHome)) → AtEach (HomePart setup) (past_in (held ClockHome)) → AllMetIfNew setup kept → AllNew setup kept × AllMet setup kept
    requests_are_new board clock each = queues_met events the_merge.0 the_merge.1 board clock each

    pub takes_in_order : AllMet setup kept → AllNext setup kept → TakesInOrder setup (reverse events)
    takes_in_order met next =
        subst (TakesInOrder setup) (ap reverse the_merge.1.events) (order_whole setup clients (past_in the_merge.0) (local_all met).0 (λ queue. subst (AtEach (TakesNext setup)) (sym (at_queue queue)) (next queue)))

    -- a client made its calls, on the merge as by what it noted
    all_cases_of : AllMet setup kept → AllCases setup clients (past_in the_merge.0)
    all_cases_of met = all_cases setup clients (past_in the_merge.0) (local_all met).0

    its_noted : (worker : ℕ) → 0 < worker → worker < workers → filter (λ (x : Stamped). of_worker clients worker x.event) the_merge.0 ≡ filter (λ (x : Stamped). of_worker clients worker x.event) (noted worker)
    its_noted worker some low = its_own setup clients workers kept noted crew events the_merge.0 the_merge.1 worker some low

    pub caller_made_calls : AllMet setup kept → (caller : ℕ) → 0 < caller → caller < workers → (ops : List Op) → MadeOwn setup clients held caller ops (noted caller) → MadeCalls setup clients caller ops (reverse events)
    caller_made_calls met caller some low ops made =
        subst (MadeCalls setup clients caller ops) (ap reverse the_merge.1.events)
        (made_calls setup clients held the_merge.0 events the_merge.1 (all_cases_of met) (local_all met).1 (crew.homes ClockHome).first.0 (mounts (crew.homes ClockHome).first (held ClockHome) (crew.homes ClockHome).rises) caller ops (noted caller) (its_noted caller some low) made)

    -- and what became of a server's returns and forwards
    pub server_finished : AllMet setup kept → (server : ℕ) → 0 < server → caller_of clients server < workers → (all : List Finish) → FinishedOwn setup clients held server all (noted (caller_of clients server)) → FitsFinishes setup clients server all (reverse events)
    server_finished met server some low all made =
        subst (FitsFinishes setup clients server all) (ap reverse the_merge.1.events)
        (finished setup clients held the_merge.0 events the_merge.1 (all_cases_of met) (local_all met).1 server all (noted (caller_of clients server)) (its_noted (caller_of clients server) (omega (arith, some)) low) made)

    -- of a worker other than the domain the merge has what it noted, and of a home what it keeps
    pub own_events : (worker : ℕ) → 0 < worker → worker < workers → worker_events clients worker (reverse events) ≡ worker_events clients worker (past_in (noted worker))
    own_events worker some low =
        ap (worker_events clients worker) (sym (ap reverse the_merge.1.events))
        ∙ (past_in-filter (of_worker clients worker) the_merge.0
        ∙ (ap past_in (its_own setup clients workers kept noted crew events the_merge.0 the_merge.1 worker some low)
        ∙ sym (past_in-filter (of_worker clients worker) (noted worker))))

    -- what a caller was told, by all events as by what it noted
    pub replies_are_own : (caller : ℕ) → 0 < caller → caller < workers → (op : ℕ) → reply_at (reverse events) caller op ≡ reply_at (past_in (noted caller)) caller op
    replies_are_own caller some low op =
        sym (reply_own setup clients caller op (reverse events)) ∙ (ap (λ es. reply_at es caller op) (own_events caller some low) ∙ reply_own setup clients caller op (past_in (noted caller)))

    pub own_home : (home : Home) → home_events setup clients home (reverse events) ≡ past_in (held home)
    own_home home = ap (home_events setup clients home) (sym (ap reverse the_merge.1.events)) ∙ (past_in-filter (at_home setup clients home) the_merge.0 ∙ ap past_in (the_merge.1.theirs home))
