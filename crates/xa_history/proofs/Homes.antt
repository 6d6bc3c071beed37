-- What is asked of the homes that are shared.
use Rattle.std.proofs.Common.{◌≡◌, ℕ, ◌<◌, ◌==◌, Bool, true, List, [], ◌∷◌, map, Option, Some, None, refl, sym, ◌∙◌, ap, subst}
use Rattle.std.specs.Prelude.{option_map}
use Rattle.std.specs.List.{All, Contains, filter}
use Rattle.std.proofs.lemmas.List.{length-map}
use Rattle.std.proofs.lemmas.List.Elements.{All-contains, All-contains_itself, All-filter, All-weaker, filter_passes}
use Rattle.xa_client_worker.specs.xa_types.declared.setup.Setup.{Setup}
use Rattle.xa_client_worker.specs.xa_types.declared.stamp.Stamp.{Stamp}
use Rattle.xa_client_worker.specs.xa_types.Setup.{numbered, queue_of, capacity_of}
use Rattle.xa_client_worker.specs.xa_events.declared.event.Event.{Event}
use Rattle.xa_client_worker.specs.xa_events.Cases.{HomePart}
use Rattle.xa_client_worker.specs.xa_events.Homes.Home.{BoardHome, QueueHome}
use Rattle.xa_client_worker.specs.xa_events.Order.{TakesNext}
use Rattle.xa_client_worker.specs.xa_events.Words.{AtEach}
use Rattle.xa_client_worker.specs.xa_stamp.declared.home.Stamped.{Stamped}
use Rattle.xa_client_worker.specs.xa_lock.declared.makers.Made.{Made}
use Rattle.xa_client_worker.specs.xa_lock.Makers.{noted_in}
use Rattle.xa_client_worker.specs.xa_worker.Crew.{AllMet, MetAmong, stands_at}
use Rattle.xa_client_worker.specs.xa_worker.Ending.{list_in, workers_of}
use Rattle.xa_client_worker.specs.xa_worker.Orders.{AllNew, MetIfNew as HomeIfNew, AllNext}
use Rattle.xa_client_worker.specs.xa_worker.Seen.{past_in, SawFront, IsNew, SawQueue}
use Rattle.xa_client_worker.proofs.xa_worker.Before.{All-on}
use Rattle.xa_client_worker.proofs.xa_worker.Ending.{queues_are_met}
use Rattle.xa_client_worker.proofs.xa_worker.Lists.{past_in-append, AtEach-later}
use Rattle.xa_client_worker.proofs.xa_worker.Over.{met_by_workers}
use Rattle.xa_client_worker.specs.xa_queue.Reading.{MetIfNew}
use Rattle.xa_client_worker.specs.xa_ticks.Clock.{made_in as moves_in}
use Rattle.xa_client_worker.specs.xa_held.Board.{made_in}
use Rattle.xa_client_worker.specs.xa_held.Kept.{Kept}
use Rattle.xa_client_worker.specs.xa_worker.Work.{WorkState}
use Rattle.xa_client_worker.specs.xa_caller.declared.cargo.Filling.{Filling}
use Rattle.xa_client_worker.specs.xa_desk.declared.domain.Domain.{Domain}
use Rattle.xa_client_worker.specs.xa_desk.declared.desk.Desk.{Desk}
use Rattle.xa_history.specs.Joined.{Back, kept_of, noted_of, AllLeft}
use Rattle.xa_history.proofs.Listed.{numbered_map}
use Rattle.xa_history.proofs.Left.{bare_moves}
use Rattle.xa_history.proofs.Crew.{each_shown, desks_are_crew}

-- what each event met if each request was new until then
module _ (setup : Setup) (queue : ℕ) where
  homes_if_new : (past : List Event) → AtEach (MetIfNew setup queue) past → AtEach (HomeIfNew setup queue) past
  homes_if_new [] met = tt
  homes_if_new (e ∷ past) met = (λ new. (met.0 new).0, homes_if_new past met.1)

  next_where_new : (past : List Event) → AtEach (MetIfNew setup queue) past → AtEach (IsNew setup queue) past → AtEach (TakesNext setup) past
  next_where_new [] met new = tt
  next_where_new (e ∷ past) met new = ((met.0 new).1, next_where_new past met.1 new.1)

module _ (d : Domain) (b : Back) (domain : WorkState) (desks : List Desk) (all : AllLeft d b domain desks) where
  each_met : (worker : ℕ) → worker < workers_of d.setup d.clients → All (MetAmong d.setup (noted_in (kept_of b BoardHome))) (filter (stands_at d.setup d.clients BoardHome) (noted_of domain desks worker))
  each_met worker low =
      let own : List Stamped = noted_of domain desks worker in
      let p : Stamped → Bool = stands_at d.setup d.clients BoardHome in
      let Met : Stamped → Type 0 = MetAmong d.setup (noted_in (kept_of b BoardHome)) in
      let met : All (λ x. p x ≡ true → Met x) (filter p own) = All-filter p (λ x. p x ≡ true → Met x) own (All-on (λ x. p x ≡ true → Met x) [] own (λ before after x at. (each_shown d b domain desks all worker low before after x at).met)) in
      All-weaker (Contains (filter p own)) Met (λ x here. All-contains (λ y. p y ≡ true → Met y) (filter p own) x met here (All-contains (λ y. p y ≡ true) (filter p own) x (filter_passes p own) here)) (filter p own) (All-contains_itself (filter p own))

  board_met : AtEach (HomePart d.setup) (past_in (noted_in (kept_of b BoardHome)))
  board_met = met_by_workers d.setup d.clients (workers_of d.setup d.clients) (kept_of b) (noted_of domain desks) (desks_are_crew d b domain desks all) BoardHome each_met

  -- what the clock that its lock gave back says of its events
  clock_met : AtEach (HomePart d.setup) (past_in (noted_in (moves_in b.clock.entries)))
  clock_met = subst (λ (l : List Stamped). AtEach (HomePart d.setup) (past_in l)) (sym (bare_moves b.clock.entries)) (all.clock.met d.setup)

  -- what the queue that its lock gave back says of its events
  by_queue : (queue : ℕ) (o : Option (Kept Filling)) → numbered queue b.queues ≡ o → AtEach (MetIfNew d.setup queue) (past_in (noted_in (list_in (option_map (λ (kept : Kept Filling). kept.queue.entries) o))))
  by_queue queue None there = tt
  by_queue queue (Some kept) there =
      let is = all.each queue kept there in
      subst (λ n. AtEach (MetIfNew d.setup n) (past_in (noted_in kept.queue.entries))) is.setting.id (is.reads.met d.setup (record {
        capacity = ap (capacity_of d.setup) is.setting.id ∙ sym is.setting.capacity;
        servers = λ server. ap (λ n. queue_of d.setup server == n) is.setting.id ∙ is.setting.servers server;
      }))

  each_if_new : (queue : ℕ) → AtEach (MetIfNew d.setup queue) (past_in (noted_in (kept_of b (QueueHome queue))))
  each_if_new queue =
      subst (λ (o : Option (List Made)). AtEach (MetIfNew d.setup queue) (past_in (noted_in (list_in o)))) (sym (numbered_map (λ (kept : Kept Filling). kept.queue.entries) queue b.queues)) (by_queue queue (numbered queue b.queues) refl)

  pub new_and_met : AllNew d.setup (kept_of b) × AllMet d.setup (kept_of b)
  new_and_met =
      queues_are_met d.setup d.clients (made_in b.board.notes) (moves_in b.clock.entries) (map (λ (kept : Kept Filling). kept.queue.entries) b.queues) b.own (workers_of d.setup d.clients) (noted_of domain desks)
      (length-map b.queues (λ (kept : Kept Filling). kept.queue.entries) ∙ all.queues) (all.own ∙ all.count) (desks_are_crew d b domain desks all) board_met clock_met
      (λ queue. homes_if_new d.setup queue (past_in (noted_in (kept_of b (QueueHome queue)))) (each_if_new queue))

  pub homes_met : AllMet d.setup (kept_of b)
  homes_met = new_and_met.1

  pub takes_next : AllNext d.setup (kept_of b)
  takes_next queue = next_where_new d.setup queue (past_in (noted_in (kept_of b (QueueHome queue)))) (each_if_new queue) (new_and_met.0 queue)

  -- what was seen of a queue held of that front
  pub saw_new : (queue : ℕ) (stamp : Stamp) (P : List Event → Type 0) → SawQueue d.setup queue (noted_in (kept_of b (QueueHome queue))) stamp P → SawFront (noted_in (kept_of b (QueueHome queue))) stamp P
  saw_new queue stamp P saw =
      let whole = ap past_in saw.stands.1 ∙ past_in-append saw.front saw.stands.0 in
      record {
        front = saw.front;
        stands = saw.stands;
        before = saw.before;
        shows = saw.shows (AtEach-later (IsNew d.setup queue) (past_in saw.stands.0) (past_in saw.front) (subst (AtEach (IsNew d.setup queue)) whole (new_and_met.0 queue)));
      }
