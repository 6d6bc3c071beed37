-- A life of a server, by its worker's own list, in the run.
use Rattle.std.proofs.Common.{◌≡◌, ℕ, ◌<◌, true, List, ◌++◌, map, reverse, append-nil, sym, ◌∙◌, ap, subst, arith, None}
use Rattle.std.specs.List.{All}
use Rattle.std.proofs.lemmas.List.{length-map}
use Rattle.std.proofs.lemmas.List.Elements.{All-weaker}
use Rattle.xa_client_worker.specs.xa_types.Setup.{queue_of}
use Rattle.xa_client_worker.specs.xa_events.Caller.{is_call_of, accepted_in, newest_call}
use Rattle.xa_client_worker.specs.xa_events.Calls.{MadeCalls}
use Rattle.xa_client_worker.specs.xa_events.Cases.{IsShut}
use Rattle.xa_client_worker.specs.xa_events.declared.event.Event.{Event}
use Rattle.xa_client_worker.specs.xa_events.Homes.{of_worker}
use Rattle.xa_client_worker.specs.xa_events.Homes.Home.{QueueHome}
use Rattle.xa_client_worker.specs.xa_events.Local.{worker_events}
use Rattle.xa_client_worker.specs.xa_events.Queue.{is_closed}
use Rattle.xa_client_worker.specs.xa_events.Server.{moves_server}
use Rattle.xa_client_worker.specs.xa_events.State.{caller_of}
use Rattle.xa_client_worker.specs.xa_events.Words.{AtEach, EachNumbered}
use Rattle.xa_client_worker.specs.xa_stamp.declared.home.Stamped.{Stamped}
use Rattle.xa_client_worker.specs.xa_stamp.Home.{Notes}
use Rattle.xa_client_worker.specs.xa_stamp.Merge.{IsMerged}
use Rattle.xa_client_worker.specs.xa_lock.Makers.{noted_in}
use Rattle.xa_client_worker.specs.xa_worker.Seen.{SawFront, SawQueue, past_in}
use Rattle.xa_client_worker.proofs.xa_worker.Calls.{call_of_worker}
use Rattle.xa_client_worker.specs.xa_pipe.declared.turn.Turn.TheVariants.{AwaitsInvoke}
use Rattle.xa_client_worker.specs.xa_pipe.Following.{is_of, IsSent, IsBorneOut, StandsIn}
use Rattle.xa_client_worker.specs.xa_pipe.Life.{Reasons, StopsClosed, StopsSpent, stops_life}
use Rattle.xa_client_worker.specs.xa_pipe.Standing.{LifeState, Ending, invokes_of}
use Rattle.xa_client_worker.proofs.xa_pipe.Followed.{is_life}
use Rattle.xa_client_worker.specs.xa_worker.Work.{WorkState, theirs}
use Rattle.xa_client_worker.specs.xa_desk.declared.domain.Domain.{Domain}
use Rattle.xa_client_worker.specs.xa_desk.declared.desk.Desk.{Desk}
use Rattle.xa_client_worker.specs.xa_desk.Whole.{entries_of}
use Rattle.xa_server_worker.specs.Reasons.{ShowsReason}
use Rattle.xa_server_worker.specs.Lives.{calls_of_all, lives_in, HasStarted, IsLived}
use Rattle.xa_history.specs.Joined.{Back, whole_of, kept_of, noted_of}
use Rattle.xa_history.specs.Ended.{ServerEnd, Ends}
use Rattle.xa_history.specs.Served.{generations_of, lives_of as its_lives, IsAsked, IsLifeOf, IsStarterOf, IsCarried}
use Rattle.xa_history.proofs.Callers.{made_in_merge, over_now}
use Rattle.xa_history.proofs.Going.{one_goes_on}
use Rattle.xa_history.proofs.Homes.{saw_new}
use Rattle.xa_history.proofs.Left.{same_homes, has_left as desk_has_left}
use Rattle.xa_history.proofs.Requests.{closed_before, fails_before}
use Rattle.xa_history.proofs.Numbered.{each_from, each_map}
use Rattle.xa_history.proofs.Own.{is_worker, its_noted}
use Rattle.xa_history.proofs.Readings.{of_life, of_moved, spent_own, stop_of_life}
use Rattle.xa_history.proofs.Shown.{Shown, shown}
use Rattle.xa_history.proofs.Asked.{takes_sent}
use Rattle.xa_history.proofs.SoFar.{of_starts, of_lives, of_asked}

module _ (d : Domain) (b : Back) (domain : WorkState) (desks : List Desk) (servers : List ServerEnd) (homes : List Notes) (Whole : Type 0) (ends : Ends d b domain desks servers homes Whole) (events : List Event) (merged : IsMerged homes events) where
  abbrev past : List Event
  past = reverse events

  abbrev ShownHere : ℕ → ServerEnd → Type 0
  ShownHere server end = Shown d b domain desks servers homes Whole ends events merged server end

  module _ (server : ℕ) (end : ServerEnd) (shows : ShownHere server end) (over : Ending) (lived : IsLived d end.shown.name (queue_of d.setup server) server shows.desk over) where
    abbrev g : ℕ
    g = over.life.generation.0

    abbrev queue : ℕ
    queue = queue_of d.setup server

    abbrev worker : ℕ
    worker = caller_of d.clients server

    abbrev own : List Event
    own = theirs shows.desk.caller.work

    shut_before : over.life.turn ≡ AwaitsInvoke → AtEach (StopsClosed d.setup server g) past
    shut_before idle =
        let some = shows.some in
        let behind : 0 < worker = omega (arith, some) in
        let Saw : List Stamped → List Stamped → Type 0 = λ entries noted. All (λ (x : Stamped). stops_life server g x.event ≡ true → SawQueue d.setup queue entries x.stamp (IsShut d.setup queue)) noted in
        let saw : Saw (noted_in (kept_of b (QueueHome queue))) (noted_of domain desks worker) =
        subst (λ (entries : List Stamped). Saw entries (noted_of domain desks worker)) (same_homes d b (QueueHome queue))
        (subst (Saw (entries_of (whole_of d b) (QueueHome queue))) (sym (its_noted d b domain desks ends.left worker shows.desk behind shows.there))
        (subst (λ (s : ℕ). All (λ (x : Stamped). stops_life s g x.event ≡ true → SawQueue d.setup queue (entries_of (whole_of d b) (QueueHome queue)) x.stamp (IsShut d.setup queue)) shows.desk.caller.work.own) lived.its
        (lived.shut idle (whole_of d b) (one_goes_on d b domain desks ends.left worker shows.desk shows.there)))) in
        closed_before d b domain desks ends.left homes events ends.homes_are merged worker behind (is_worker d b domain desks ends.left worker shows.desk shows.there) queue (stops_life server g)
        (λ e stops. of_life d.clients server g e (stop_of_life d.clients server g e stops))
        (All-weaker (λ (x : Stamped). stops_life server g x.event ≡ true → SawQueue d.setup queue (noted_in (kept_of b (QueueHome queue))) x.stamp (IsShut d.setup queue))
        (λ (x : Stamped). stops_life server g x.event ≡ true → SawFront (noted_in (kept_of b (QueueHome queue))) x.stamp (λ past. is_closed queue past ≡ true))
        (λ x front stops. let f = saw_new d b domain desks ends.left queue x.stamp (IsShut d.setup queue) (front stops) in record { front = f.front; stands = f.stands; before = f.before; shows = f.shows.closed }) (noted_of domain desks worker) saw)

    spent_before : AtEach (StopsSpent d.clients over.life.server.0 g) own → AtEach (StopsSpent d.clients over.life.server.0 g) past
    spent_before spent =
        subst (λ (s : ℕ). AtEach (StopsSpent d.clients s g) past) (sym lived.its) (spent_own d.clients server g d.setup past
        (subst (λ (s : ℕ). AtEach (StopsSpent d.clients s g) (worker_events d.clients worker past)) lived.its (subst (AtEach (StopsSpent d.clients over.life.server.0 g)) (sym shows.own) spent)))

    abbrev Why : Reasons
    Why = ShowsReason d shows.desk

    stands : StandsIn d.setup d.clients Why over own past
    stands = record {
      its = of_worker d.clients worker;
      are = sym shows.own;
      among = subst (λ (s : ℕ). (e : Event) → is_of s g e ≡ true → of_worker d.clients worker e ≡ true) (sym lived.its) (of_life d.clients server g);
      called = subst (λ (s : ℕ). (e : Event) → is_call_of (caller_of d.clients s) e ≡ true → of_worker d.clients worker e ≡ true) (sym lived.its) (call_of_worker d.clients worker);
      moved = subst (λ (s : ℕ). (e : Event) → moves_server s e ≡ true → of_worker d.clients worker e ≡ true) (sym lived.its) (of_moved d.clients server);
      failed = subst (λ (s : ℕ). AtEach (IsBorneOut d.setup d.clients Why (of_worker d.clients worker) s g) past) (sym lived.its)
          (fails_before d b domain desks ends.left homes events ends.homes_are merged server shows.some shows.desk shows.there g);
      sent = subst (λ (s : ℕ). AtEach (IsSent s g (invokes_of over.life)) past) (sym lived.its) (takes_sent d b domain desks servers homes Whole ends events merged server end shows g (invokes_of over.life) lived.handed);
      closed = subst (λ (s : ℕ). over.life.turn ≡ AwaitsInvoke → AtEach (StopsClosed d.setup s g) past) (sym lived.its) shut_before;
      spent = λ finishing. spent_before (lived.spent finishing);
    }

    life_of : IsLifeOf d.setup d.clients past server over
    life_of = (lived.its, lived.named ∙ shows.named, is_life d.setup d.clients Why over own past lived.over_is lived.stopped stands)

  module _ (whole : Whole) where
    all_lives : (server : ℕ) (end : ServerEnd) → ShownHere server end → generations_of end.lives ≡ lives_in server past
    all_lives server end its =
        sym (append-nil (generations_of end.lives)) ∙ (ap (λ (l : List LifeState). generations_of end.lives ++ map (λ (life : LifeState). life.generation) l) (sym (its.shows.none_cut whole)) ∙ of_lives d b domain desks servers homes Whole ends events merged server end its)

    all_asked : (server : ℕ) (end : ServerEnd) → ShownHere server end → All (IsAsked server past) (its_lives end.lives)
    all_asked server end its =
        subst (All (IsAsked server past)) (append-nil (its_lives end.lives)) (subst (λ (l : List LifeState). All (IsAsked server past) (its_lives end.lives ++ l)) (its.shows.none_cut whole) (of_asked d b domain desks servers homes Whole ends events merged server end its))

    starter_of : (server : ℕ) (end : ServerEnd) → ShownHere server end → IsStarterOf d.setup server end.shown past
    starter_of server end its = record {
      its = its.named;
      started = of_starts d b domain desks servers homes Whole ends events merged server end its (λ name n failed. HasStarted name n failed end.shown) (its.shows.started whole);
    }

    lives_of : (server : ℕ) (end : ServerEnd) → ShownHere server end → All (IsLifeOf d.setup d.clients past server) end.lives
    lives_of server end its = All-weaker (IsLived d end.shown.name (queue_of d.setup server) server its.desk) (IsLifeOf d.setup d.clients past server) (life_of server end its) end.lives (its.shows.lived whole)

    calls_of : (server : ℕ) (end : ServerEnd) → ShownHere server end → MadeCalls d.setup d.clients (caller_of d.clients server) (calls_of_all end.lives) past
    calls_of server end its =
        let called = its.shows.called whole in
        made_in_merge d b domain desks ends.left homes events ends.homes_are merged (caller_of d.clients server) its.desk its.there (calls_of_all end.lives) called.fits called.last
        (over_now (calls_of_all end.lives) (newest_call its.desk.caller.work.id.0 (worker_events d.clients its.desk.caller.work.id.0 (past_in its.desk.caller.work.own)))
        (subst (λ (n : ℕ). accepted_in (newest_call its.desk.caller.work.id.0 (worker_events n its.desk.caller.work.id.0 (past_in its.desk.caller.work.own))) ≡ None) (desk_has_left d b domain desks ends.left (caller_of d.clients server) its.desk its.there).is.clients called.over))

    -- what holds of each server that shows its lives
    by_server : (P : ℕ → ServerEnd → Type 0) → ((server : ℕ) (end : ServerEnd) → ShownHere server end → P server end) → EachNumbered P 1 servers
    by_server P holds = each_from P servers (λ server end there. holds server end (shown d b domain desks servers homes Whole ends events merged server end there))

    pub carried : IsCarried (λ (x : ServerEnd). x.shown) d.setup d.clients past (map (λ (x : ServerEnd). x.lives) servers) servers
    carried = record {
      all = ends.count;
      lives_are = record {
        all = length-map servers (λ (x : ServerEnd). x.lives) ∙ ends.count;
        each = each_map (λ server its. generations_of its ≡ lives_in server past) (λ (x : ServerEnd). x.lives) 1 servers (by_server (λ server end. generations_of end.lives ≡ lives_in server past) all_lives);
        asked = each_map (λ server its. All (IsAsked server past) (its_lives its)) (λ (x : ServerEnd). x.lives) 1 servers (by_server (λ server end. All (IsAsked server past) (its_lives end.lives)) all_asked);
      };
      pipes = each_map (λ server its. All (IsLifeOf d.setup d.clients past server) its) (λ (x : ServerEnd). x.lives) 1 servers (by_server (λ server end. All (IsLifeOf d.setup d.clients past server) end.lives) lives_of);
      calls = each_map (λ server its. MadeCalls d.setup d.clients (caller_of d.clients server) (calls_of_all its) past) (λ (x : ServerEnd). x.lives) 1 servers (by_server (λ server end. MadeCalls d.setup d.clients (caller_of d.clients server) (calls_of_all end.lives) past) calls_of);
      each = by_server (λ server end. IsStarterOf d.setup server end.shown past) starter_of;
    }
