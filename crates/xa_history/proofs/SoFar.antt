-- The lives and the starts of each server, by the merge.
use Rattle.std.proofs.Common.{◌≡◌, ℕ, List, ◌++◌, length, map, reverse, Some, sym, ◌∙◌, ap, subst, arith}
use Rattle.std.specs.Prelude.{option_map}
use Rattle.std.specs.List.{All}
use Rattle.std.proofs.lemmas.List.{length-map}
use Rattle.std.proofs.lemmas.List.Elements.{All-weaker}
use Rattle.xa_client_worker.specs.xa_types.Setup.{numbered, queue_of}
use Rattle.xa_client_worker.specs.xa_events.declared.event.Event.{Event}
use Rattle.xa_client_worker.specs.xa_events.Server.{starts}
use Rattle.xa_client_worker.specs.xa_events.Words.{EachNumbered, count}
use Rattle.xa_client_worker.specs.xa_stamp.Home.{Notes}
use Rattle.xa_client_worker.specs.xa_stamp.Merge.{IsMerged}
use Rattle.xa_client_worker.specs.xa_worker.Ending.{list_in}
use Rattle.xa_client_worker.specs.xa_worker.Work.{WorkState, theirs}
use Rattle.xa_client_worker.specs.xa_pipe.Life.{stops_life}
use Rattle.xa_client_worker.specs.xa_pipe.Standing.{LifeState, Ending}
use Rattle.xa_client_worker.specs.xa_desk.declared.domain.Domain.{Domain}
use Rattle.xa_client_worker.specs.xa_desk.declared.desk.Desk.{Desk}
use Rattle.xa_server_worker.specs.Lives.{lives_in, failed_starts, HasStartedSoFar, HandsOn, IsCut}
use Rattle.xa_history.specs.Joined.{Back}
use Rattle.xa_history.specs.Ended.{ServerEnd, Ends}
use Rattle.xa_history.specs.Served.{name_of, generations_of, lives_of, IsAsked, AreLivesOf, AreLivesSoFar, IsStarterSoFar}
use Rattle.xa_history.proofs.Listed.{numbered_map}
use Rattle.xa_history.proofs.Numbered.{numbered_there, each_from}
use Rattle.xa_history.proofs.Readings.{lives_own, starts_own, failed_own, stopped_own}
use Rattle.xa_history.proofs.Shown.{Shown, shown}
use Rattle.xa_history.proofs.Asked.{life_asked}

module _ (d : Domain) (b : Back) (domain : WorkState) (desks : List Desk) (servers : List ServerEnd) (homes : List Notes) (Whole : Type 0) (ends : Ends d b domain desks servers homes Whole) (events : List Event) (merged : IsMerged homes events) where
  abbrev pub past : List Event
  past = reverse events

  abbrev ShownHere : ℕ → ServerEnd → Type 0
  ShownHere server end = Shown d b domain desks servers homes Whole ends events merged server end

  shown_here : (server : ℕ) (end : ServerEnd) → numbered server servers ≡ Some end → ShownHere server end
  shown_here server end is = shown d b domain desks servers homes Whole ends events merged server end is

  module _ (server : ℕ) (end : ServerEnd) (its : ShownHere server end) where
    -- what holds of the starts by the worker's own list holds of them by the merge
    pub of_starts : (P : List ℕ → ℕ → ℕ → Type 0) → P end.shown.name (length (starts server (theirs its.desk.caller.work))) (failed_starts server (theirs its.desk.caller.work)) → P (name_of d.setup server) (length (starts server past)) (failed_starts server past)
    of_starts P holds =
        subst (λ (n : ℕ). P (name_of d.setup server) (length (starts server past)) n) (ap (failed_starts server) (sym its.own) ∙ failed_own d.clients server past)
        (subst (λ (l : List ℕ). P (name_of d.setup server) (length l) (failed_starts server (theirs its.desk.caller.work))) (ap (starts server) (sym its.own) ∙ starts_own d.clients server past)
        (subst (λ (name : List ℕ). P name (length (starts server (theirs its.desk.caller.work))) (failed_starts server (theirs its.desk.caller.work))) its.named holds))

    pub of_lives : generations_of end.lives ++ map (λ (life : LifeState). life.generation) end.cut ≡ lives_in server past
    of_lives = its.shows.lives_are ∙ (ap (lives_in server) (sym its.own) ∙ lives_own d.clients server past)

    -- so it is with INVOKEs
    pub of_asked : All (IsAsked server past) (lives_of end.lives ++ end.cut)
    of_asked = All-weaker (HandsOn d (queue_of d.setup server) server its.desk) (IsAsked server past) (life_asked d b domain desks servers homes Whole ends events merged server end its) (lives_of end.lives ++ end.cut) its.shows.taken

    cut_alive : (life : LifeState) → IsCut end.shown.name server (theirs its.desk.caller.work) life → IsCut (name_of d.setup server) server past life
    cut_alive life is = record {
      cut_off = is.cut_off;
      its = is.its;
      named = is.named ∙ its.named;
      alive = let g : ℕ = life.generation.0 in sym (stopped_own d.clients server g past) ∙ (ap (count (stops_life server g)) its.own ∙ is.alive);
    }

    its_lives : AreLivesOf d.setup past server end.lives end.cut
    its_lives = record { are = of_lives; asked = of_asked; cut_off = All-weaker (IsCut end.shown.name server (theirs its.desk.caller.work)) (IsCut (name_of d.setup server) server past) cut_alive end.cut its.shows.cut_off }

    starter_so_far : IsStarterSoFar d.setup server end.shown past
    starter_so_far = record { its = its.named; started = of_starts (λ name n failed. HasStartedSoFar name n failed end.shown) its.shows.so_far }

  pub starters_so_far : EachNumbered (λ server (x : ServerEnd). IsStarterSoFar d.setup server x.shown past) 1 servers
  starters_so_far = each_from (λ server (x : ServerEnd). IsStarterSoFar d.setup server x.shown past) servers (λ server x is. starter_so_far server x (shown_here server x is))

  list_of : {X : Type 0} (f : ServerEnd → List X) (server : ℕ) (end : ServerEnd) → numbered server servers ≡ Some end → list_in (numbered server (map f servers)) ≡ f end
  list_of f server end is = ap list_in (numbered_map f server servers ∙ ap (option_map f) is)

  pub lives_so_far : AreLivesSoFar d.setup past (map (λ (x : ServerEnd). x.lives) servers) (map (λ (x : ServerEnd). x.cut) servers)
  lives_so_far = record {
    lives_count = let same = length-map servers (λ (x : ServerEnd). x.lives) in let count = ends.count in omega (arith, same, count);
    cut_count = let same = length-map servers (λ (x : ServerEnd). x.cut) in let count = ends.count in omega (arith, same, count);
    each = λ server some low.
        let count = ends.count in
        let one = numbered_there server servers some (omega (arith, low, count)) in
        subst (λ (l : List Ending). AreLivesOf d.setup past server l (list_in (numbered server (map (λ (x : ServerEnd). x.cut) servers)))) (sym (list_of (λ (x : ServerEnd). x.lives) server one.0 one.1))
        (subst (λ (l : List LifeState). AreLivesOf d.setup past server one.0.lives l) (sym (list_of (λ (x : ServerEnd). x.cut) server one.0 one.1)) (its_lives server one.0 (shown_here server one.0 one.1)));
  }
