-- What the workers leave and what the locks give back make what is handed back.
use Rattle.std.proofs.Common.{◌≡◌, ℕ, zero, suc, ◌+◌, List, [], ◌∷◌, length, map, Option, Some, None, refl, sym, ◌∙◌, ap, subst, arith}
use Rattle.std.specs.Prelude.{IfSome, IsSomeAnd, option_map}
use Rattle.std.specs.List.{All, Contains}
use Rattle.std.proofs.lemmas.List.{length-map}
use Rattle.std.proofs.lemmas.List.Elements.{All-nil, All-cons, All-map, All-contains_itself}
use Rattle.xa_boot.specs.xa_types.declared.call.Op.{Op}
use Rattle.xa_boot.specs.xa_types.declared.setup.ServerSetup.{ServerSetup}
use Rattle.xa_boot.specs.xa_types.Setup.{numbered, queue_of}
use Rattle.xa_boot.specs.xa_events.Words.{EachNumbered}
use Rattle.xa_boot.specs.xa_stamp.declared.home.Stamped.{Stamped}
use Rattle.xa_boot.specs.xa_stamp.Home.{Notes}
use Rattle.xa_boot.specs.xa_lock.Known.{IsPassOf}
use Rattle.xa_boot.specs.xa_cell.declared.tokens.Seat.{Seat}
use Rattle.xa_boot.specs.xa_cell.declared.view.Part.{Part}
use Rattle.xa_boot.specs.xa_worker.Ending.{list_in}
use Rattle.xa_boot.specs.xa_worker.Work.{WorkState}
use Rattle.xa_history.specs.xa_script.declared.script.Client.{Client}
use Rattle.xa_boot.specs.xa_server.Served.{StarterShows}
use Rattle.xa_boot.specs.xa_server_worker.Lives.{ServerShows}
use Rattle.xa_boot.specs.xa_server_worker.declared.working.ServerWorker.{ServerWorker}
use Rattle.xa_boot.specs.xa_caller.declared.cargo.Filling.{Filling}
use Rattle.xa_boot.specs.xa_client_worker.declared.working.ClientWorker.{ClientWorker}
use Rattle.xa_boot.specs.xa_desk.declared.domain.Domain.{Domain}
use Rattle.xa_boot.specs.xa_desk.declared.desk.Desk.{Desk}
use Rattle.xa_boot.specs.xa_desk.declared.stopped.Stopped.{Stopped}
use Rattle.xa_boot.specs.xa_desk.declared.stopped.Stopped.TheVariants.{Here, Elsewhere}
use Rattle.xa_boot.specs.xa_desk.Desks.{IsClockPass, Shows}
use Rattle.xa_boot.specs.xa_desk.Whole.{IsKnown}
use Rattle.xa_history.specs.Served.{HoldAll}
use Rattle.xa_boot.specs.xa_server_worker.Working.{cut_in}
use Rattle.xa_boot.specs.xa_pipe.Standing.{Ending}
use Rattle.std.specs.declared.vec.Vec.{Vec}
use Rattle.std.specs.declared.alloc.Global.{Global}
use Rattle.xa_boot.specs.declared.booting.Booted.{Booted}
use Rattle.xa_boot.specs.Booting.{IsClockFor, work_of}
use Rattle.xa_history.specs.Joined.{Back, AllLeft, HasLeft, whole_of}
use Rattle.xa_history.specs.Ended.{ServerEnd, HasMadeAll}
use Rattle.xa_history.proofs.Listed.{all_mapped, all_numbered, numbered_map}
use Rattle.xa_domain.specs.Working.{EachDone}
use Rattle.xa_domain.specs.declared.gathering.Gathered.{Gathered}
use Rattle.xa_domain.specs.declared.handing.Served.{Served}
use Rattle.xa_domain.specs.Closed.{KnowsHomes, GivesBack}
use Rattle.xa_domain.specs.Gathered.{IsLeftDesk, home_of_desk, HoldTheirs, IsHaltAmong, IsStopAmong, HasGathered}
use Rattle.xa_domain.specs.Handed.{halt_of, HandsBack}
use Rattle.xa_domain.specs.Joined.{end_of, IsJoined}
use Rattle.xa_domain.specs.Leaving.{Leaving, IsLeaving, AreAllTokens, itself_of, leaving_of}
use Rattle.xa_domain.proofs.Listed.{there-weaker}
use Rattle.xa_domain.proofs.Taking.{shows_weaker}
use Rattle.xa_domain.proofs.Itself.{is_booted, goes_on, is_itself, all_closed}

-- ---- why the run halted

went_on : (stopped : Option Stopped) → halt_of stopped ≡ None → stopped ≡ None
went_on None is = refl
went_on (Some (Here halt)) is = absurd (cc is)
went_on (Some Elsewhere) is = absurd (cc is)

halted_so : (itself : WorkState) (desks : List Desk) (stopped : Option Stopped) → IfSome stopped (IsStopAmong itself desks) → IfSome (halt_of stopped) (IsHaltAmong itself desks)
halted_so itself desks None is = tt
halted_so itself desks (Some (Here halt)) is = is
halted_so itself desks (Some Elsewhere) is = tt

-- ---- lists

counts_done : (d : Domain) (n : ℕ) (scripts : List Client) (workers : List ClientWorker) → EachDone d n scripts workers → length scripts ≡ length workers
counts_done d n [] [] done = refl
counts_done d n [] (w ∷ workers) done = absurd done
counts_done d n (s ∷ scripts) [] done = absurd done
counts_done d n (s ∷ scripts) (w ∷ workers) done = ap suc (counts_done d (n + 1) scripts workers done.1)

each_op : (P : ℕ → List Op → Type 0) (n : ℕ) (scripts : List Client) → EachNumbered (λ k (c : Client). P k c.ops) n scripts → EachNumbered P n (map (λ (c : Client). c.ops) scripts)
each_op P n [] each = tt
each_op P n (c ∷ scripts) each = (each.0, each_op P (n + 1) scripts each.1)

names_map : {L T : Type 0} (shows : T → StarterShows) (workers : List (ServerWorker L T)) → map (λ (x : ServerEnd). x.shown.name) (map (end_of shows) workers) ≡ map (λ (w : ServerWorker L T). (shows w.served.starter).name) workers
names_map shows [] = refl
names_map shows (w ∷ workers) = ap (λ (l : List (List ℕ)). (shows w.served.starter).name ∷ l) (names_map shows workers)

seats_map : (desks : List Desk) → map (λ (l : Leaving). l.seat) (map leaving_of desks) ≡ map (λ (desk : Desk). desk.caller.seat) desks
seats_map [] = refl
seats_map (desk ∷ desks) = ap (λ (l : List (Seat Filling)). desk.caller.seat ∷ l) (seats_map desks)

some_if : (P Q : Desk → Type 0) → ((desk : Desk) → P desk → Q desk) → (o : Option Desk) → IsSomeAnd o P → IsSomeAnd o Q
some_if P Q from None is = absurd is
some_if P Q from (Some desk) is = from desk is

pub servers_if : (d : Domain) (desks : List Desk) (V W : Type 0) → (W → V) → (n : ℕ) (servers : List ServerEnd) → EachNumbered (λ k (x : ServerEnd). IsSomeAnd (numbered (d.clients + k) desks) (λ desk. ServerShows d x.shown.name (queue_of d.setup k) k desk x.lives x.cut x.shown V)) n servers
    → EachNumbered (λ k (x : ServerEnd). IsSomeAnd (numbered (d.clients + k) desks) (λ desk. ServerShows d x.shown.name (queue_of d.setup k) k desk x.lives x.cut x.shown W)) n servers
servers_if d desks V W from n [] each = tt
servers_if d desks V W from n (x ∷ servers) each = (
  some_if (λ desk. ServerShows d x.shown.name (queue_of d.setup n) n desk x.lives x.cut x.shown V) (λ desk. ServerShows d x.shown.name (queue_of d.setup n) n desk x.lives x.cut x.shown W)
      (λ desk. shows_weaker d x.shown.name (queue_of d.setup n) n desk x.lives x.cut x.shown V W from)
      (numbered (d.clients + n) desks) each.0,
  servers_if d desks V W from (n + 1) servers each.1,
)

-- what holds of all, by what holds of each with its number
later_one : {X : Type 0} (P : X → Type 0) (x : X) (xs : List X) → ((k : ℕ) (y : X) → numbered k (x ∷ xs) ≡ Some y → P y) → (k : ℕ) (y : X) → numbered k xs ≡ Some y → P y
later_one P x xs holds zero y is = absurd (cc is)
later_one P x xs holds (suc k) y is = holds (suc (suc k)) y is

all_by_number : {X : Type 0} (P : X → Type 0) (xs : List X) → ((k : ℕ) (x : X) → numbered k xs ≡ Some x → P x) → All P xs
all_by_number P [] holds = All-nil P
all_by_number P (x ∷ xs) holds = All-cons P x xs (holds 1 x refl) (all_by_number P xs (later_one P x xs holds))

each_number : {X : Type 0} (P : ℕ → X → Type 0) (n k : ℕ) (xs : List X) (x : X) → EachNumbered P (n + 1) xs → numbered (suc k) xs ≡ Some x → P (n + suc k) x
each_number P n k [] x each is = absurd (cc is)
each_number P n zero (y ∷ xs) x each is = let same : y ≡ x = cc is in let one : n + 1 ≡ n + suc zero = omega arith in subst (λ m. P m x) one (subst (P (n + 1)) same each.0)
each_number P n (suc k) (y ∷ xs) x each is = let next : n + 1 + suc k ≡ n + suc (suc k) = omega arith in subst (λ m. P m x) next (each_number P (n + 1) k xs x each.1 is)

module _ {L T : Type 0} (shows : T → StarterShows) (scripts : List Client) (booted : Booted L T) (joined : IsJoined shows scripts booted) where
  abbrev d : Domain
  d = booted.domain

  abbrev itself : WorkState
  itself = work_of d booted.closer

  pub all_servers : length booted.servers.items ≡ length d.setup.servers
  all_servers = sym (length-map booted.servers.items (λ (w : ServerWorker L T). (shows w.served.starter).name)) ∙ ap length joined.names ∙ length-map d.setup.servers (λ (server : ServerSetup). server.name)

  its_own : IsLeaving d (itself_of d booted.closer)
  its_own =
      let is = joined.closed.is in
      record { seat_of = is.seat; shut = record { asked = λ k. ap (λ (p : Part Filling). p.asked) (is.fresh.parts k) }; board_pass = is.board; queue_passes = is.queues; clock_pass = there-weaker (IsClockFor d.clock 0) (IsPassOf d.clock) (λ pass it. it.lock_is) booted.closer.clock is.clock }

  module _ (g : Gathered L T) (gathered : HasGathered d shows scripts booted.clients.items booted.servers.items booted.closer g) where
    abbrev desks : List Desk
    desks = gathered.desks

    all_desks : length desks ≡ d.clients + length d.setup.servers
    all_desks = gathered.count ∙ ap (λ n. d.clients + n) all_servers

    desk_at : (k : ℕ) (desk : Desk) → numbered k desks ≡ Some desk → IsLeftDesk d k desk
    desk_at zero desk is = absurd (cc is)
    desk_at (suc k) desk is = let sum : 0 + suc k ≡ suc k = omega arith in subst (λ (n : ℕ). IsLeftDesk d n desk) sum (each_number (IsLeftDesk d) 0 k desks desk gathered.each_desk is)

    leaving_at : (k : ℕ) (desk : Desk) → numbered k desks ≡ Some desk → IsLeaving d (leaving_of desk)
    leaving_at k desk is =
        let its = desk_at k desk is in
        record { seat_of = its.is.seat; shut = its.shut; board_pass = its.is.board; queue_passes = its.is.queues; clock_pass = there-weaker (IsClockPass d desk.caller.work) (IsPassOf d.clock) (λ pass it. it.lock) desk.clock its.is.clock }

    pub all_tokens : AreAllTokens d (itself_of d booted.closer) (map leaving_of gathered.desks) g.tokens
    all_tokens =
        let many = length-map desks leaving_of in
        let count = all_desks in
        record {
          tokens_are = gathered.tokens_are;
          all = omega (arith, many, count);
          itself_is = its_own;
          fresh = joined.closed.is.fresh;
          others_are = All-map (IsLeaving d) leaving_of desks (all_by_number (λ (desk : Desk). IsLeaving d (leaving_of desk)) desks leaving_at);
        }

    pub all_callers : length g.callers.items ≡ d.clients + length d.setup.servers
    all_callers =
        sym (length-map g.callers.items (λ (notes : Notes). notes.entries)) ∙ ap length gathered.callers_are ∙ length-map desks (home_of_desk d) ∙ all_desks

    module _ (b : Back) (homes : List Notes) (gives : GivesBack d (itself_of d booted.closer) (map leaving_of gathered.desks) g.callers.items b homes) where
      queues_count : length b.queues ≡ length d.queues.items
      queues_count = gives.count ∙ sym joined.domain_is.queues

      own_are : b.own ≡ map (home_of_desk d) desks
      own_are = gives.own_are ∙ gathered.callers_are

      home_at : (k : ℕ) (desk : Desk) → numbered k desks ≡ Some desk → list_in (numbered desk.caller.work.id.0 b.own) ≡ home_of_desk d desk
      home_at k desk is =
          ap (λ n. list_in (numbered n b.own)) (desk_at k desk is).id ∙ ap (λ (l : List (List Stamped)). list_in (numbered k l)) own_are ∙ ap list_in (numbered_map (home_of_desk d) k desks ∙ ap (option_map (home_of_desk d)) is)

      knows_at : (k : ℕ) (desk : Desk) → numbered k desks ≡ Some desk → KnowsHomes d b (leaving_of desk)
      knows_at k desk is = all_numbered (λ (desk : Desk). KnowsHomes d b (leaving_of desk)) k desks desk (all_mapped (KnowsHomes d b) leaving_of desks gives.others_known) is

      left_at : (k : ℕ) (desk : Desk) → numbered k desks ≡ Some desk → HasLeft d b desk
      left_at k desk is =
          let its = desk_at k desk is in
          let knows = knows_at k desk is in
          record { is = its.is; sound = its.sound; board = knows.board_known; queues = knows.queues_known; clock = knows.clock_known; home = home_at k desk is }

      hold_theirs : HoldTheirs d desks (whole_of d b)
      hold_theirs = all_by_number (λ (desk : Desk). All (Contains ((whole_of d b).callers desk.caller.work.id.0)) (home_of_desk d desk)) desks
          (λ k desk is. subst (λ (l : List Stamped). All (Contains l) (home_of_desk d desk)) (sym (home_at k desk is)) (All-contains_itself (home_of_desk d desk)))

      shown : IsKnown (whole_of d b) booted.closer.seen × Shows d (whole_of d b) itself
      shown = joined.closed.shows (whole_of d b) (goes_on d booted.closer b joined.closed.is gives.itself_known booted.clients.items gives.sound (gathered.keep (whole_of d b) hold_theirs))

      all_left : AllLeft d b itself desks
      all_left = record {
        is = joined.domain_is;
        count = all_desks;
        ids = λ worker desk is. (desk_at worker desk is).id;
        left = all_by_number (HasLeft d b) desks left_at;
        itself = is_itself d booted.closer b joined.closed.is gives.itself_known queues_count shown.1;
        own = ap length own_are ∙ length-map desks (home_of_desk d);
        board = gives.sound;
        reads = gives.reads;
        makers = gives.makers;
        booted = is_booted d booted.closer b joined.closed.is gives.itself_known;
        queues = gives.count;
        each = gives.each;
        clock = gives.clock;
        movers = gives.movers;
        seat = gives.seat;
        seats = gives.seats_are ∙ ap (λ (l : List (Seat Filling)). gives.seat ∷ l) (seats_map desks);
        silent = gives.silent;
        answered = gives.answered;
      }

      pub hands_back : (h : Served L T) → h.halt ≡ halt_of g.stopped → h.homes.homes ≡ homes → h.lives ≡ g.lives → h.cut ≡ g.cut → h.starters ≡ g.starters → HandsBack shows scripts booted h
      hands_back h halt homes_are lives cut starters = record {
        b = b;
        domain = itself;
        desks = desks;
        ends = record {
          left = all_left;
          homes_are = subst (λ (l : List Notes). HoldAll d b l) (sym homes_are) gives.hold;
          count = length-map booted.servers.items (end_of shows) ∙ all_servers;
          names = names_map shows booted.servers.items ∙ joined.names;
          each = servers_if d desks (g.stopped ≡ None) (h.halt ≡ None) (λ none. went_on g.stopped (sym halt ∙ none)) 1 (map (end_of shows) booted.servers.items) gathered.each;
        };
        whole = λ none.
            let going = went_on g.stopped (sym halt ∙ none) in
            record {
              clients = length-map scripts (λ (c : Client). c.ops) ∙ counts_done d 1 scripts booted.clients.items joined.done ∙ joined.all_clients;
              made = each_op (λ k ops. IsSomeAnd (numbered k desks) (HasMadeAll d ops)) 1 scripts (gathered.made going);
              closed = λ queue kept there. all_closed d booted.closer b joined.closed.is gives.itself_known (joined.closed.closed (gathered.itself going)) queue kept there queues_count (gives.each queue kept there);
            };
        halted = halt ∙ ap halt_of gathered.why;
        worn = subst (λ o. IfSome o (IsHaltAmong itself desks)) (sym halt) (halted_so itself desks g.stopped gathered.worn);
        known = shown.0;
        lives_are = ap (λ v. map (λ (l : Vec Ending Global). l.items) v.items) lives ∙ gathered.lives_are;
        cut_are = ap (λ v. map cut_in v.items) cut ∙ gathered.cut_are;
        starters_are = ap (λ v. v.items) starters ∙ gathered.starters_are;
      }
