-- The end of a run, and homes whose events were met one by one.
use Rattle.std.proofs.Common.{◌≡◌, ◌⊎◌, ℕ, ◌+◌, ◌<◌, true, List, [], length, reverse, inl, inr, refl, sym, ◌∙◌, ap, subst, arith}
use Rattle.std.specs.List.{All, filter}
use Rattle.std.proofs.lemmas.List.Elements.{All-map}
use Rattle.xa_types.specs.declared.setup.Setup.{Setup}
use Rattle.xa_events.specs.declared.event.Event.{Event}
use Rattle.xa_events.specs.Words.{AtEach}
use Rattle.xa_events.specs.State.{State, opening, caller_of}
use Rattle.xa_events.specs.Run.{IsFinal}
use Rattle.xa_events.specs.Laws.{LawOfServers}
use Rattle.xa_events.specs.Homes.{Home}
use Rattle.xa_events.specs.Homes.Home.{QueueHome}
use Rattle.xa_events.specs.Queue.{waiting, is_down, is_closed}
use Rattle.xa_events.specs.Server.{is_gone, was_shut_down, AllGone}
use Rattle.xa_events.specs.Caller.{has_left, AllLeft}
use Rattle.xa_events.specs.Cases.{HomePart}
use Rattle.xa_events.specs.Local.{Local, home_events, worker_events}
use Rattle.xa_events.proofs.Stages.{along, Agree, agree_none, agree_more}
use Rattle.xa_events.proofs.Merge.{local_is_run, gone_here, waiting_own, down_own, closed_own, left_own, gone_own, shut_own}
use Rattle.xa_stamp.specs.declared.home.Stamped.{Stamped}
use Rattle.xa_stamp.specs.Home.{Notes}
use Rattle.xa_stamp.specs.Merge.{IsMerged}
use Rattle.xa_lock.specs.declared.makers.Made.{Made}
use Rattle.xa_lock.specs.Makers.{noted_in}
use Rattle.xa_worker.specs.Seen.{past_in}
use Rattle.xa_worker.specs.Crew.{IsCrew, AllMet, AreHomes, AllOver, MetAmong, stands_at}
use Rattle.xa_worker.proofs.Lists.{All-makers}
use Rattle.xa_worker.proofs.Workers.{Mounts, mounts, one_place, AtEach-from, All-at}
use Rattle.xa_events.proofs.There.{There, there_none, there_more, all_settled}
use Rattle.xa_events.proofs.Servers.{servers_more}
use Rattle.xa_events.specs.Server.{doing}
use Rattle.xa_worker.proofs.Joined.{crew_is_local, own_events, own_home}

laws_of : (setup : Setup) (clients : ℕ) (past : List Event) → Local setup clients past → Agree (record { setup = setup; clients = clients; past = past }) × There (record { setup = setup; clients = clients; past = past }) × LawOfServers past
unfolding doing
laws_of setup clients past l =
    along (λ (s : State). Agree s × There s × LawOfServers s.past) (λ s e case h. (agree_more s e case h.0, there_more s e case h.0 h.1, servers_more s e case h.2)) (reverse past) (opening setup clients) (record { setup = setup; clients = clients; past = past })
    (agree_none setup clients, there_none setup clients, λ server h. refl) (local_is_run setup clients past l)

module _ (setup : Setup) (clients workers : ℕ) (kept : Home → List Made) (noted : ℕ → List Stamped) (crew : IsCrew setup clients workers kept noted) where
  module _ (names : List Home) (homes : List Notes) (events : List Event) (are : AreHomes names kept homes) (is : IsMerged homes events) (wide : clients + length setup.servers < workers) (met : AllMet setup kept) (all : AllOver setup clients kept noted) where
    abbrev past : List Event
    past = reverse events

    own : (worker : ℕ) → 0 < worker → worker < workers → worker_events clients worker past ≡ worker_events clients worker (past_in (noted worker))
    own worker some low = own_events setup clients workers kept noted crew names homes events are is worker some low

    at_queue : (queue : ℕ) → home_events setup clients (QueueHome queue) past ≡ past_in (noted_in (kept (QueueHome queue)))
    at_queue queue = own_home setup clients workers kept noted crew names homes events are is (QueueHome queue)

    all_left : AllLeft clients past
    all_left client low high =
        sym (left_own setup clients past client) ∙ (ap (has_left client) (own client low (omega (arith, high, wide))) ∙ all.left client low high)

    server_over : (server : ℕ) → 0 < server → server < length setup.servers + 1 → (was_shut_down server past ≡ true) ⊎ (is_gone server past ≡ true)
    server_over server low high =
        let its = own (caller_of clients server) (omega (arith, low)) (omega (arith, high, wide)) in
        elim (all.over server low high) [
          | inl shut ↦ inl (sym (shut_own setup clients past server) ∙ (ap (was_shut_down server) its ∙ shut))
          | inr gone ↦ inr (sym (gone_own setup clients past server) ∙ (ap (is_gone server) its ∙ gone))
        ]

    all_empty : (queue : ℕ) → 0 < queue → queue < length setup.queues + 1 → waiting setup queue past ≡ []
    all_empty queue low high = sym (waiting_own setup clients past queue) ∙ (ap (waiting setup queue) (at_queue queue) ∙ all.empty queue low high)

    gone_at_queue : (queue : ℕ) → AllGone setup queue past → AllGone setup queue (home_events setup clients (QueueHome queue) past)
    gone_at_queue queue gone server low high of = subst (λ (q : ℕ). is_gone server (home_events setup clients (QueueHome q) past) ≡ true) of (gone_here setup clients server past ∙ gone server low high of)

    pub crew_is_final : IsFinal (record { setup = setup; clients = clients; past = past })
    crew_is_final =
        let l = crew_is_local setup clients workers kept noted crew names homes events are is met in
        let laws = laws_of setup clients past l in
        record {
          left = all_left;
          settled = all_settled (record { setup = setup; clients = clients; past = past }) laws.0 laws.1 laws.2 all_empty server_over;
          over = server_over;
          closed = λ queue low high. sym (closed_own setup clients past queue) ∙ (ap (is_closed queue) (at_queue queue) ∙ all.closed queue low high);
          down = λ queue low high gone. sym (down_own setup clients past queue) ∙ (ap (is_down queue) (at_queue queue) ∙ all.down queue low high (subst (AllGone setup queue) (at_queue queue) (gone_at_queue queue gone)));
        }

  -- ---- homes whose events were met one by one

  pub met_by_workers : (home : Home) → ((worker : ℕ) → worker < workers → All (MetAmong setup (noted_in (kept home))) (filter (stands_at setup clients home) (noted worker))) → AtEach (HomePart setup) (past_in (noted_in (kept home)))
  met_by_workers home each =
      let held = noted_in (kept home) in
      let M : Stamped → Type 0 = MetAmong setup held in
      let all : All M held = All-map M (λ (entry : Made). entry.noted) (kept home)
      (All-makers workers (λ worker. M) (kept home) (λ worker low. subst (All M) (sym (crew.theirs worker low home)) (each worker low)) (crew.homes home).made) in
      let rise = mounts (crew.homes home).first held (crew.homes home).rises in
      AtEach-from (HomePart setup) held (λ before after x split.
      let m = All-at M before after x (subst (All M) split all) in
      let same = one_place (crew.homes home).first.0 before m.before after m.after x (subst (Mounts (crew.homes home).first.0) split rise) (sym split ∙ m.stands) in
      subst (λ (xs : List Stamped). HomePart setup x.event (past_in xs)) (sym same) m.shows)
