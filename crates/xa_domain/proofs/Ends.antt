-- What is handed back of a domain is what serving comes to.
use Rattle.std.proofs.Common.{◌≡◌, ℕ, ◌+◌, List, [], ◌∷◌, length, map, reverse, Option, Some, None, inl, inr, refl, sym, ◌∙◌, ap, subst}
use Rattle.std.specs.Prelude.{IfSome, IsSomeAnd, ⊤}
use Rattle.std.specs.List.{All, Contains}
use Rattle.std.specs.declared.vec.Vec.{Vec}
use Rattle.std.specs.declared.alloc.Global.{Global}
use Rattle.std.proofs.lemmas.List.{length-map}
use Rattle.std.proofs.lemmas.List.Elements.{All-nil, All-cons}
use Rattle.xa_boot.specs.xa_types.Setup.{numbered, queue_of}
use Rattle.xa_boot.specs.xa_events.declared.event.Event.{Event}
use Rattle.xa_boot.specs.xa_events.Calls.{MadeCalls}
use Rattle.xa_boot.specs.xa_events.Run.{Run}
use Rattle.xa_boot.specs.xa_events.State.{opening, caller_of}
use Rattle.xa_boot.specs.xa_events.Words.{EachNumbered}
use Rattle.xa_boot.specs.xa_stamp.Home.{Notes}
use Rattle.xa_boot.specs.xa_stamp.Merge.{IsMerged, stamps_of}
use Rattle.xa_boot.specs.xa_worker.declared.work.Halt.{Halt}
use Rattle.xa_boot.specs.xa_worker.declared.work.Halt.TheVariants as halts
use Rattle.xa_boot.specs.xa_pipe.Standing.{LifeState, Ending}
use Rattle.xa_history.specs.xa_script.declared.script.Client.{Client}
use Rattle.xa_boot.specs.xa_server.Served.{StarterShows}
use Rattle.xa_boot.specs.xa_server_worker.Lives.{calls_of_all, ServerShows}
use Rattle.xa_boot.specs.xa_server_worker.Working.{cut_in}
use Rattle.xa_boot.specs.xa_server_worker.declared.working.ServerWorker.{ServerWorker}
use Rattle.xa_boot.specs.xa_desk.declared.domain.Domain.{Domain}
use Rattle.xa_boot.specs.xa_desk.declared.desk.Desk.{Desk}
use Rattle.xa_boot.specs.declared.booting.Booted.{Booted}
use Rattle.xa_history.specs.Ended.{ServerEnd, Ends, EndsWhole}
use Rattle.xa_history.specs.Served.{IsRecorded, IsWorn, IsLifeOf, AreLives, AreLivesSoFar, IsStarterOf, IsStarterSoFar, HasStarters}
use Rattle.xa_history.proofs.Behind.{ends_recorded}
use Rattle.xa_history.proofs.Lawful.{lawful_run}
use Rattle.xa_history.proofs.Recorded.{dense, known_noted, worn_noted}
use Rattle.xa_history.proofs.Merged.{merged_run, merged_made}
use Rattle.xa_history.proofs.History.{ends_history}
use Rattle.xa_history.proofs.SoFar.{lives_so_far, starters_so_far}
use Rattle.xa_history.proofs.Lives.{carried}
use Rattle.xa_domain.specs.declared.handing.Served.{Served}
use Rattle.xa_domain.specs.Gathered.{IsHaltAmong}
use Rattle.xa_domain.specs.Handed.{HandsBack}
use Rattle.xa_domain.specs.Joined.{end_of}
use Rattle.xa_domain.specs.Serving.{HasAll, HasHomes, IsNoneCut, ComesTo, ServeEnds}
use Rattle.xa_domain.proofs.Back.{servers_if}

-- ---- where the run came to its end

module _ (d : Domain) (desks : List Desk) (W : Type 0) (whole : W) where
  cut_of : (n : ℕ) (x : ServerEnd) (o : Option Desk) → IsSomeAnd o (λ desk. ServerShows d x.shown.name (queue_of d.setup n) n desk x.lives x.cut x.shown W) → x.cut ≡ []
  cut_of n x None is = absurd is
  cut_of n x (Some desk) is = is.none_cut whole

  none_cut : (n : ℕ) (servers : List ServerEnd) → EachNumbered (λ k (x : ServerEnd). IsSomeAnd (numbered (d.clients + k) desks) (λ desk. ServerShows d x.shown.name (queue_of d.setup k) k desk x.lives x.cut x.shown W)) n servers → IsNoneCut (map (λ (x : ServerEnd). x.cut) servers)
  none_cut n [] each = All-nil (λ (c : List LifeState). c ≡ [])
  none_cut n (x ∷ servers) each = All-cons (λ (c : List LifeState). c ≡ []) x.cut (map (λ (x : ServerEnd). x.cut) servers) (cut_of n x (numbered (d.clients + n) desks) each.0) (none_cut (n + 1) servers each.1)

-- ---- by server

module _ {L T : Type 0} (shows : T → StarterShows) where
  ends_map : {X : Type 0} (f : ServerEnd → X) (workers : List (ServerWorker L T)) → map f (map (end_of shows) workers) ≡ map (λ (w : ServerWorker L T). f (end_of shows w)) workers
  ends_map f [] = refl
  ends_map f (w ∷ workers) = ap (λ xs. f (end_of shows w) ∷ xs) (ends_map f workers)

  -- what is said of what the workers leave is said of their starters
  of_starters : (P : ℕ → StarterShows → Type 0) (n : ℕ) (workers : List (ServerWorker L T)) → EachNumbered (λ k (x : ServerEnd). P k x.shown) n (map (end_of shows) workers)
      → EachNumbered (λ k starter. P k (shows starter)) n (map (λ (w : ServerWorker L T). w.served.starter) workers)
  of_starters P n [] each = tt
  of_starters P n (w ∷ workers) each = (each.0, of_starters P (n + 1) workers each.1)

module _ {L T : Type 0} (shows : T → StarterShows) (clients : List Client) (booted : Booted L T) (h : Served L T) (count : booted.domain.clients ≡ length clients) (back : HandsBack shows clients booted h) where
  abbrev d : Domain
  d = booted.domain

  abbrev homes : List Notes
  homes = h.homes.homes

  abbrev servers : List ServerEnd
  servers = map (end_of shows) booted.servers.items

  abbrev lives : List (List Ending)
  lives = map (λ (v : Vec Ending Global). v.items) h.lives.items

  abbrev cut : List (List LifeState)
  cut = map cut_in h.cut.items

  lives_same : map (λ (x : ServerEnd). x.lives) servers ≡ lives
  lives_same = ends_map shows (λ (x : ServerEnd). x.lives) booted.servers.items ∙ sym back.lives_are

  cut_same : map (λ (x : ServerEnd). x.cut) servers ≡ cut
  cut_same = ends_map shows (λ (x : ServerEnd). x.cut) booted.servers.items ∙ sym back.cut_are

  starters_say : (P : ℕ → StarterShows → Type 0) → EachNumbered (λ k (x : ServerEnd). P k x.shown) 1 servers → EachNumbered (λ k starter. P k (shows starter)) 1 h.starters.items
  starters_say P each = subst (EachNumbered (λ k starter. P k (shows starter)) 1) (sym back.starters_are) (of_starters shows P 1 booted.servers.items each)

  all_starters : (W : Type 0) → Ends d back.b back.domain back.desks servers homes W → length h.starters.items ≡ length d.setup.servers
  all_starters W ends = ap length back.starters_are ∙ length-map booted.servers.items (λ (w : ServerWorker L T). w.served.starter) ∙ sym (length-map booted.servers.items (end_of shows)) ∙ ends.count

  worn_of : (W : Type 0) → Ends d back.b back.domain back.desks servers homes W → (halt : Halt) → IsHaltAmong back.domain back.desks halt → IsWorn halt homes
  worn_of W ends halts.NoMemory is = tt
  worn_of W ends (halts.Worn stamp) is = (
    is.0,
    subst (Contains (stamps_of homes)) (sym is.0) (elim is.1 [
      | inl at ↦ known_noted d back.b back.domain back.desks homes ends.left ends.homes_are back.domain.stamp back.known at
      | inr its ↦ worn_noted d back.b back.domain back.desks homes ends.left ends.homes_are its.0 its.1 its.2
    ]),
  )

  if_worn : (halt : Option Halt) → IfSome halt (IsHaltAmong back.domain back.desks) → IfSome halt (λ why. IsWorn why homes)
  if_worn None is = tt
  if_worn (Some halt) is = worn_of (h.halt ≡ None) back.ends halt is

  -- all homes are there, and all starters
  has_all : (W : Type 0) → Ends d back.b back.domain back.desks servers homes W → HasAll shows d.setup clients homes h.starters.items
  has_all W ends = record {
    recorded = subst (λ n. IsRecorded d.setup n homes) count (ends_recorded d back.b back.domain back.desks servers homes ends);
    started = all_starters W ends;
  }

  has_homes : (halt : Option Halt) → HasAll shows d.setup clients homes h.starters.items → HasHomes shows d.setup clients halt homes h.starters.items
  has_homes None all = all
  has_homes (Some halts.NoMemory) all = inl all
  has_homes (Some (halts.Worn stamp)) all = all

  has_starters : (halt : Halt) → length h.starters.items ≡ length d.setup.servers → HasStarters halt d.setup h.starters.items
  has_starters halts.NoMemory all = inl all
  has_starters (halts.Worn stamp) all = all

  comes_whole : (W : Type 0) → W → Ends d back.b back.domain back.desks servers homes W → EndsWhole d back.b back.desks (map (λ (c : Client). c.ops) clients) → (events : List Event) → IsMerged homes events → ComesTo shows d.setup clients None events lives cut h.starters.items
  comes_whole W is ends whole events merged =
      let all : Ends d back.b back.domain back.desks servers homes ⊤ = record { left = ends.left; homes_are = ends.homes_are; count = ends.count; names = ends.names; each = servers_if d back.desks W ⊤ (λ any. is) 1 servers ends.each } in
      let went = carried d back.b back.domain back.desks servers homes ⊤ all events merged tt in (
        record {
          machine = ends_history d back.b back.domain back.desks servers homes (map (λ (c : Client). c.ops) clients) clients events all whole refl merged;
          carried = record {
            all = all_starters W ends;
            lives_are = subst (AreLives d.setup (reverse events)) lives_same went.lives_are;
            pipes = subst (λ (n : ℕ). EachNumbered (λ server its. All (IsLifeOf d.setup n (reverse events) server) its) 1 lives) count
                (subst (EachNumbered (λ server its. All (IsLifeOf d.setup d.clients (reverse events) server) its) 1) lives_same went.pipes);
            calls = subst (λ (n : ℕ). EachNumbered (λ server its. MadeCalls d.setup n (caller_of n server) (calls_of_all its) (reverse events)) 1 lives) count
                (subst (EachNumbered (λ server its. MadeCalls d.setup d.clients (caller_of d.clients server) (calls_of_all its) (reverse events)) 1) lives_same went.calls);
            each = starters_say (λ server shown. IsStarterOf d.setup server shown (reverse events)) went.each;
          };
        },
        subst IsNoneCut cut_same (none_cut d back.desks W is 1 servers ends.each),
        ap length (sym cut_same) ∙ (length-map servers (λ (x : ServerEnd). x.cut) ∙ ends.count),
      )

  comes_by : (halt : Option Halt) → Ends d back.b back.domain back.desks servers homes (halt ≡ None) → (halt ≡ None → EndsWhole d back.b back.desks (map (λ (c : Client). c.ops) clients)) → (events : List Event) → IsMerged homes events → ComesTo shows d.setup clients halt events lives cut h.starters.items
  comes_by None ends whole events merged = let none : Option Halt = None in comes_whole (none ≡ None) refl ends (whole refl) events merged
  comes_by (Some halt) ends whole events merged =
      let W : Type 0 = Some halt ≡ None in
      let so_far = lives_so_far d back.b back.domain back.desks servers homes W ends events merged in
      let run = subst (λ n. Run (opening d.setup n) events (record { setup = d.setup; clients = n; past = reverse events })) count (merged_run d back.b back.domain back.desks homes events ends.left ends.homes_are merged) in
      record {
        run = run;
        lawful = lawful_run d.setup (length clients) events (record { setup = d.setup; clients = length clients; past = reverse events }) run;
        made = merged_made d back.b back.domain back.desks homes events ends.left ends.homes_are merged;
        all = has_starters halt (all_starters W ends);
        lives_are = subst (λ c. AreLivesSoFar d.setup (reverse events) lives c) cut_same (subst (λ l. AreLivesSoFar d.setup (reverse events) l (map (λ (x : ServerEnd). x.cut) servers)) lives_same so_far);
        each = starters_say (λ server shown. IsStarterSoFar d.setup server shown (reverse events)) (starters_so_far d back.b back.domain back.desks servers homes W ends events merged);
      }

  pub serve_ends : ServeEnds shows d.setup clients h.halt homes lives cut h.starters.items
  serve_ends =
      let ends = back.ends in
      record {
        homed = has_homes h.halt (has_all (h.halt ≡ None) ends);
        dense = dense d back.b back.domain back.desks homes ends.left ends.homes_are;
        worn = if_worn h.halt back.worn;
        comes = comes_by h.halt ends back.whole;
      }
