-- The merge of what the workers of a domain noted: its requests, and what stands at a queue.
use Rattle.std.proofs.Common.{◌≡◌, ℕ, ◌<◌, ◌==◌, Bool, true, List, [], ◌∷◌, ◌++◌, length, map, append_assoc, reverse, Option, Some, refl, sym, ◌∙◌, ap, subst, arith, eqb-true}
use Rattle.std.specs.Prelude.{IsSomeAnd}
use Rattle.std.specs.List.{All, filter}
use Rattle.std.proofs.lemmas.Bool.{or_right, and_parts}
use Rattle.std.proofs.lemmas.List.{length-map, length-reverse}
use Rattle.std.proofs.lemmas.List.Elements.{All-tail, All-filter, filter-append}
use Rattle.xa_client_worker.specs.xa_types.declared.stamp.Stamp.{Stamp}
use Rattle.xa_client_worker.specs.xa_types.Setup.{numbered, queue_of}
use Rattle.xa_client_worker.specs.xa_events.declared.event.Event.{Event}
use Rattle.xa_client_worker.specs.xa_events.declared.event.Event.TheVariants.{Take, End}
use Rattle.xa_client_worker.specs.xa_events.declared.event.Taken.{Taken}
use Rattle.xa_client_worker.specs.xa_events.Homes.{of_worker}
use Rattle.xa_client_worker.specs.xa_events.Homes.Home.{QueueHome}
use Rattle.xa_client_worker.specs.xa_events.Local.{Local, home_events, worker_events}
use Rattle.xa_client_worker.specs.xa_events.Queue.{is_close_of, is_closed}
use Rattle.xa_client_worker.specs.xa_events.Request.{sent_as}
use Rattle.xa_client_worker.specs.xa_events.State.{caller_of}
use Rattle.xa_client_worker.specs.xa_events.Words.{AtEach}
use Rattle.xa_client_worker.proofs.xa_events.Merge.{closed_own}
use Rattle.xa_client_worker.specs.xa_stamp.declared.home.Stamped.{Stamped}
use Rattle.xa_client_worker.specs.xa_stamp.Home.{Notes}
use Rattle.xa_client_worker.specs.xa_stamp.Merge.{IsMerged}
use Rattle.xa_client_worker.specs.xa_lock.Makers.{noted_in}
use Rattle.xa_client_worker.specs.xa_worker.Crew.{AreHomes, IsCrew}
use Rattle.xa_client_worker.specs.xa_worker.Ending.{workers_of}
use Rattle.xa_client_worker.specs.xa_worker.Finishing.{ForwardEndsOwn}
use Rattle.xa_client_worker.specs.xa_worker.Seen.{past_in, SawFront, IsNew}
use Rattle.xa_client_worker.proofs.xa_worker.Before.{now}
use Rattle.xa_client_worker.proofs.xa_worker.Finishing.{cases_of, news_of, ends_at, forward_ends}
use Rattle.xa_client_worker.proofs.xa_worker.Joined.{crew_is_local, own_home}
use Rattle.xa_client_worker.proofs.xa_worker.Lists.{filter-yes, past_in-append, past_in-filter, AtEach-later}
use Rattle.xa_client_worker.proofs.xa_worker.Placed.{IsMergeOf, merge_of}
use Rattle.xa_client_worker.proofs.xa_worker.Workers.{AtEach-from, All-at, its_own}
use Rattle.xa_client_worker.specs.xa_held.declared.cargo.Invocation.{Invocation}
use Rattle.xa_client_worker.specs.xa_held.Kept.{Brings}
use Rattle.xa_client_worker.specs.xa_pipe.Following.{IsBorneOut}
use Rattle.xa_client_worker.specs.xa_worker.Work.{WorkState}
use Rattle.xa_client_worker.specs.xa_desk.declared.domain.Domain.{Domain}
use Rattle.xa_client_worker.specs.xa_desk.declared.desk.Desk.{Desk}
use Rattle.xa_client_worker.specs.xa_desk.Made.{IsMade}
use Rattle.xa_client_worker.specs.xa_desk.Serving.{WasSentFor}
use Rattle.xa_client_worker.specs.xa_desk.Whole.{entries_of}
use Rattle.xa_server_worker.specs.Reasons.{ShowsReason}
use Rattle.xa_history.specs.Joined.{Back, AllLeft, whole_of, kept_of, noted_of}
use Rattle.xa_history.specs.Served.{HoldAll}
use Rattle.xa_history.proofs.Crew.{desks_are_crew}
use Rattle.xa_history.proofs.Going.{one_goes_on}
use Rattle.xa_history.proofs.Homes.{homes_met, new_and_met}
use Rattle.xa_history.proofs.Left.{same_homes}
use Rattle.xa_history.proofs.Merged.{merged_made}
use Rattle.xa_history.proofs.Recorded.{held, each_held, names, names_are}
use Rattle.xa_history.proofs.Entries.{known, last_entry}
use Rattle.xa_history.proofs.Own.{is_worker, its_noted}
use Rattle.xa_history.proofs.Readings.{of_life}
use Rattle.xa_history.proofs.Sent.{IsAsked, asked_as_brought}

-- behind fronts of one length one list has one element
same_place : {X : Type 0} (front other back more : List X) (x y : X) → length front ≡ length other → front ++ x ∷ back ≡ other ++ y ∷ more → x ≡ y
same_place [] [] back more x y many is = cc is
same_place [] (z ∷ other) back more x y many is = absurd (omega (arith, many))
same_place (w ∷ front) [] back more x y many is = absurd (omega (arith, many))
same_place (w ∷ front) (z ∷ other) back more x y many is = same_place front other back more x y (omega (arith, many)) (cc is)

past_length : (xs : List Stamped) → length (past_in xs) ≡ length xs
past_length xs = length-reverse (map (λ (x : Stamped). x.event) xs) ∙ length-map xs (λ (x : Stamped). x.event)

all_behind : {X : Type 0} (P : X → Type 0) (front before : List X) → All P (front ++ before) → All P before
all_behind P [] before all = all
all_behind P (x ∷ front) before all = all_behind P front before (All-tail P x (front ++ before) all)

closed_more : (queue : ℕ) (e : Event) (past : List Event) → is_closed queue past ≡ true → is_closed queue (e ∷ past) ≡ true
unfolding is_closed
closed_more queue e past closed = or_right (is_close_of queue e) (is_closed queue past) closed

module _ (d : Domain) (b : Back) (domain : WorkState) (desks : List Desk) (left : AllLeft d b domain desks) (homes : List Notes) (events : List Event) (hold : HoldAll d b homes) (is : IsMerged homes events) where
  abbrev past : List Event
  past = reverse events

  abbrev workers : ℕ
  workers = workers_of d.setup d.clients

  crew : IsCrew d.setup d.clients workers (kept_of b) (noted_of domain desks)
  crew = desks_are_crew d b domain desks left

  the_homes : AreHomes (names d b domain desks left) (kept_of b) homes
  the_homes = names_are d b domain desks left homes hold

  the_merge : (merged : List Stamped) × IsMergeOf d.setup d.clients (held d b domain desks left) merged events
  the_merge = (_, merge_of d.setup d.clients (names d b domain desks left) (held d b domain desks left) homes (each_held d b domain desks left) events the_homes.once (λ home none. ap noted_in (the_homes.rest home none)) the_homes.are is)

  -- ---- requests

  local : Local d.setup d.clients past
  local = crew_is_local d.setup d.clients workers (kept_of b) (noted_of domain desks) crew (names d b domain desks left) homes events the_homes is (homes_met d b domain desks left)

  module _ (t : Taken) (front before : List Event) (split : past ≡ front ++ Take t ∷ before) where
    abbrev queue : ℕ
    queue = queue_of d.setup t.server.0

    made_before : All IsMade before
    made_before = All-tail IsMade (Take t) before (all_behind IsMade front (Take t ∷ before) (subst (All IsMade) split (merged_made d b domain desks homes events left hold is)))

    -- a request was sent last as its queue's entries say, where it was taken from there
    pub asked_before : (what : Invocation) → WasSentFor d.setup queue (entries_of (whole_of d b) (QueueHome queue)) t what → IsAsked what (sent_as t.request before)
    asked_before what was =
        let newer : List Event = past_in was.rest in
        let earlier : List Event = past_in was.front in
        let entry : Stamped = record { stamp = was.stamp; event = Take t } in
        let parts : past_in (held d b domain desks left (QueueHome queue)) ≡ newer ++ Take t ∷ earlier =
        ap past_in (sym (same_homes d b (QueueHome queue)) ∙ was.parts)
        ∙ (past_in-append was.front (entry ∷ was.rest) ∙ (ap (λ (es : List Event). es ++ earlier) (past_in-append (entry ∷ []) was.rest) ∙ append_assoc newer (Take t ∷ []) earlier)) in
        let here : home_events d.setup d.clients (QueueHome queue) past ≡ newer ++ Take t ∷ earlier =
        own_home d.setup d.clients workers (kept_of b) (noted_of domain desks) crew (names d b domain desks left) homes events the_homes is (QueueHome queue) ∙ parts in
        let new = (AtEach-later (IsNew d.setup queue) newer (Take t ∷ earlier) (subst (AtEach (IsNew d.setup queue)) parts ((new_and_met d b domain desks left).0 queue))).1 in
        asked_as_brought t.request what before made_before ((known d.setup d.clients past local t front before split).shows t.request)
        (subst (λ (o : Option Event). IsSomeAnd o (Brings t.request what)) (last_entry d.setup d.clients past local t front before split newer earlier here) (was.sent new))

  -- ---- what a worker showed of each event that it noted

  module _ (worker : ℕ) (some : 0 < worker) (low : worker < workers) where
    abbrev is_of : Stamped → Bool
    is_of x = of_worker d.clients worker x.event

    at_its : (P : Stamped → Type 0) (before after : List Stamped) (x : Stamped) → the_merge.0 ≡ before ++ x ∷ after → is_of x ≡ true → All P (noted_of domain desks worker) → P x
    at_its P before after x split mine all =
        let there : filter is_of (noted_of domain desks worker) ≡ filter is_of before ++ x ∷ filter is_of after =
        sym (its_own d.setup d.clients workers (kept_of b) (noted_of domain desks) crew events the_merge.0 the_merge.1 worker some low)
        ∙ (ap (filter is_of) split ∙ (filter-append is_of before (x ∷ after) ∙ ap (λ xs. filter is_of before ++ xs) (filter-yes is_of x after mine))) in
        All-at P (filter is_of before) (filter is_of after) x (subst (All P) there (All-filter is_of P (noted_of domain desks worker) all))

    -- where it saw a queue closed before each of these, the queue was closed before each
    pub closed_before : (queue : ℕ) (test : Event → Bool) → ((e : Event) → test e ≡ true → of_worker d.clients worker e ≡ true)
        → All (λ (x : Stamped). test x.event ≡ true → SawFront (held d b domain desks left (QueueHome queue)) x.stamp (λ past. is_closed queue past ≡ true)) (noted_of domain desks worker)
        → AtEach (λ e before. test e ≡ true → is_closed queue before ≡ true) past
    closed_before queue test its saw =
        subst (λ (es : List Event). AtEach (λ e before. test e ≡ true → is_closed queue before ≡ true) (reverse es)) the_merge.1.events
        (AtEach-from (λ e before. test e ≡ true → is_closed queue before ≡ true) the_merge.0 (λ before after x split passes.
        let front = at_its (λ (y : Stamped). test y.event ≡ true → SawFront (held d b domain desks left (QueueHome queue)) y.stamp (λ past. is_closed queue past ≡ true)) before after x split (its x.event passes) saw passes in
        sym (closed_own d.setup d.clients (past_in before) queue)
        ∙ now d.setup d.clients (held d b domain desks left) the_merge.0 events the_merge.1 before after x split (QueueHome queue) (λ past. is_closed queue past ≡ true) (closed_more queue) front))

  -- ---- why a forward failed

  module _ (server : ℕ) (some : 0 < server) (desk : Desk) (there : numbered (caller_of d.clients server) desks ≡ Some desk) where
    abbrev its : Event → Bool
    its = of_worker d.clients (caller_of d.clients server)

    abbrev its_entry : Stamped → Bool
    its_entry x = its x.event

    abbrev Borne : ℕ → Event → List Event → Type 0
    Borne = IsBorneOut d.setup d.clients (ShowsReason d desk) its server

    its_entries : filter its_entry the_merge.0 ≡ filter its_entry desk.caller.work.own
    its_entries =
        let worker : ℕ = caller_of d.clients server in
        let behind : 0 < worker = omega (arith, some) in
        its_own d.setup d.clients workers (kept_of b) (noted_of domain desks) crew events the_merge.0 the_merge.1 worker behind (is_worker d b domain desks left worker desk there)
        ∙ ap (filter its_entry) (its_noted d b domain desks left worker desk behind there)

    -- an entry of the server stands where it noted one behind the same events of its own
    entry_at : (before after front rest : List Stamped) (x y : Stamped) → the_merge.0 ≡ before ++ x ∷ after → desk.caller.work.own ≡ front ++ y ∷ rest → its x.event ≡ true → its y.event ≡ true
        → filter its (past_in before) ≡ filter its (past_in front) → x ≡ y
    entry_at before after front rest x y split noted mine its_y same =
        let parted : (xs ys : List Stamped) (z : Stamped) → its z.event ≡ true → filter its_entry (xs ++ z ∷ ys) ≡ filter its_entry xs ++ z ∷ filter its_entry ys =
        λ xs ys z passes. filter-append its_entry xs (z ∷ ys) ∙ ap (λ zs. filter its_entry xs ++ zs) (filter-yes its_entry z ys passes) in
        let many : length (filter its_entry before) ≡ length (filter its_entry front) =
        sym (past_length (filter its_entry before)) ∙ (ap length (sym (past_in-filter its before) ∙ (same ∙ past_in-filter its front)) ∙ past_length (filter its_entry front)) in
        same_place (filter its_entry before) (filter its_entry front) (filter its_entry after) (filter its_entry rest) x y many
        (sym (parted before after x mine) ∙ (ap (filter its_entry) (sym split) ∙ (its_entries ∙ (ap (filter its_entry) noted ∙ parted front rest y its_y))))

    borne_at : (g : ℕ) (before after : List Stamped) (x : Stamped) → the_merge.0 ≡ before ++ x ∷ after → (e : Event) → e ≡ x.event → Borne g e (past_in before)
    borne_at g before after x split (End e) here = λ is service payload why.
        let same : e.server.0 ≡ server = eqb-true e.server.0 server (and_parts (e.server.0 == server) (e.generation.0 == g) is).0 in
        let mine : its (End e) ≡ true = of_life d.clients server g (End e) is in
        let own : List Event = filter its (past_in before) in
        let at : x ≡ record { stamp = why.stamp; event = End e } =
        entry_at before after why.front why.rest x (record { stamp = why.stamp; event = End e }) split why.noted (subst (λ (event : Event). its event ≡ true) here mine) mine
        (why.before ∙ ap (λ (n : ℕ). worker_events d.clients (caller_of d.clients n) (past_in why.front)) same) in
        let shown : ForwardEndsOwn d.setup d.clients (held d b domain desks left) why.stamp service payload e e.outcome own =
        ends_at d.setup d.clients (entries_of (whole_of d b)) (held d b domain desks left) (same_homes d b) why.stamp service payload e e.outcome own
        (why.shows (whole_of d b) (one_goes_on d b domain desks left (caller_of d.clients server) desk there)) in
        forward_ends d.setup d.clients (held d b domain desks left) the_merge.0 events the_merge.1 (cases_of d.setup d.clients (held d b domain desks left) the_merge.0 events the_merge.1 local)
        (news_of d.setup d.clients (kept_of b) the_merge.0 events the_merge.1 (new_and_met d b domain desks left).0) server before after x split service payload e e.outcome here same
        (subst (λ (stamp : Stamp). ForwardEndsOwn d.setup d.clients (held d b domain desks left) stamp service payload e e.outcome own) (sym (ap (λ (y : Stamped). y.stamp) at)) shown)
    borne_at g before after x split e here = tt

    -- what its worker showed of each forward that failed is a reason there
    pub fails_before : (g : ℕ) → AtEach (Borne g) past
    fails_before g = subst (λ (es : List Event). AtEach (Borne g) (reverse es)) the_merge.1.events (AtEach-from (Borne g) the_merge.0 (λ before after x split. borne_at g before after x split x.event refl))
