-- The servers get their desks, the last one first.
use Rattle.std.proofs.Common.{◌≡◌, ℕ, ◌+◌, ◌<◌, List, [], ◌∷◌, ◌++◌, length, map, reverse, Some, refl, sym, ◌∙◌, ap, ap₂, subst, arith, append_assoc, append-nil, length-append}
use Rattle.std.specs.Prelude.{slice_get, option_map}
use Rattle.std.specs.List.{All}
use Rattle.std.proofs.lemmas.Option.{slice_get-map, slice_get_within}
use Rattle.std.proofs.lemmas.List.{reverse-append, length-map}
use Rattle.xa_client_worker.specs.xa_events.Words.{EachNumbered}
use Rattle.xa_client_worker.specs.xa_restart.Rule.{RestartState}
use Rattle.xa_client_worker.specs.xa_server.Served.{StarterShows}
use Rattle.xa_client_worker.specs.xa_types.declared.setup.ServerSetup.{ServerSetup}
use Rattle.xa_server_worker.specs.declared.working.ServerWorker.{ServerWorker}
use Rattle.xa_client_worker.specs.xa_desk.declared.domain.Domain.{Domain}
use Rattle.xa_boot.specs.Booting.{IsNewServer}
use Rattle.xa_boot.specs.Supplies.{restarts_of}
use Rattle.xa_boot.specs.Hiring.{AreHired, HasServers}
use Rattle.xa_boot.proofs.Hired.{all-at}

slice_get-behind : {X : Type 0} (xs ys : List X) (x : X) → slice_get (xs ++ x ∷ ys) (length xs) ≡ Some x
slice_get-behind [] ys x = refl
slice_get-behind (z ∷ xs) ys x = slice_get-behind xs ys x

-- the last of a front stands at the place behind the others
last-at : {X : Type 0} (xs later all : List X) (x : X) → (xs ++ x ∷ []) ++ later ≡ all → slice_get all (length xs) ≡ Some x
last-at xs later all x is = ap (λ l. slice_get l (length xs)) (sym is ∙ append_assoc xs (x ∷ []) later) ∙ slice_get-behind xs later x

module _ {L T : Type 0} (d : Domain) (shows : T → StarterShows) (all : List T) where
  abbrev starter_of : ServerWorker L T → T
  starter_of w = w.served.starter

  -- what stands at each starter's place
  module _ (names : map (λ s. (shows s).name) all ≡ map (λ (server : ServerSetup). server.name) d.setup.servers) where
    pub none_hired : (lives : List RestartState) (servers : List (ServerWorker L T)) → lives ≡ map restarts_of d.setup.servers → servers ≡ [] → AreHired d shows all all lives servers
    none_hired lives servers are none =
        let count = ap length names in
        let starters = length-map all (λ s. (shows s).name) in
        let servers' = length-map d.setup.servers (λ (server : ServerSetup). server.name) in
        let mapped = length-map d.setup.servers restarts_of in
        let same = ap length are in
        record {
          lives_are = ([], append-nil lives ∙ are);
          each_lives = omega (arith, count, starters, servers', mapped, same);
          starters_are = ap (λ (l : List (ServerWorker L T)). all ++ map starter_of (reverse l)) none ∙ append-nil all;
          each = subst (λ (l : List (ServerWorker L T)). EachNumbered (IsNewServer d shows) (length all + 1) (reverse l)) (sym none) tt;
        }

    module _ (left : List T) (starter : T) (lives : List RestartState) (its : RestartState) (servers : List (ServerWorker L T)) (now : List T) (now_lives : List RestartState) (was : now ≡ left ++ starter ∷ []) (were : now_lives ≡ lives ++ its ∷ []) (given : AreHired d shows all now now_lives servers) where
      hired : AreHired d shows all (left ++ starter ∷ []) (lives ++ its ∷ []) servers
      hired = subst (λ l. AreHired d shows all l (lives ++ its ∷ []) servers) was (subst (λ l. AreHired d shows all now l servers) were given)

      same_count : length lives ≡ length left
      same_count = let count = hired.each_lives in let a = length-append lives (its ∷ []) in let b = length-append left (starter ∷ []) in omega (arith, count, a, b)

      starter_at : slice_get all (length left) ≡ Some starter
      starter_at = last-at left (map starter_of (reverse servers)) all starter hired.starters_are

      pub name_at : slice_get (map (λ (server : ServerSetup). server.name) d.setup.servers) (length left) ≡ Some (shows starter).name
      name_at = ap (λ l. slice_get l (length left)) (sym names) ∙ slice_get-map (λ s. (shows s).name) all (length left) ∙ ap (option_map (λ s. (shows s).name)) starter_at

      pub lives_at : slice_get (map restarts_of d.setup.servers) (length left) ≡ Some its
      lives_at = ap (slice_get (map restarts_of d.setup.servers)) (sym same_count) ∙ last-at lives hired.lives_are.0 (map restarts_of d.setup.servers) its hired.lives_are.1

      pub within : length left < length d.setup.servers
      within = let inside = slice_get_within (map restarts_of d.setup.servers) (length left) its lives_at in let mapped = length-map d.setup.servers restarts_of in omega (arith, inside, mapped)

      pub fact_at : (P : T → Type 0) → All P all → P starter
      fact_at P each = all-at P all (length left) starter starter_at each

      pub hired_more : (worker : ServerWorker L T) → worker.served.starter ≡ starter → IsNewServer d shows (length left + 1) worker → AreHired d shows all left lives (servers ++ worker ∷ [])
      hired_more worker is new =
          let turned : reverse (servers ++ worker ∷ []) ≡ worker ∷ reverse servers = reverse-append servers (worker ∷ []) in
          let more = length-append left (starter ∷ []) in
          let next : length (left ++ starter ∷ []) + 1 ≡ length left + 1 + 1 = omega (arith, more) in
          record {
            lives_are = (its ∷ hired.lives_are.0, sym (append_assoc lives (its ∷ []) hired.lives_are.0) ∙ hired.lives_are.1);
            each_lives = same_count;
            starters_are = ap (λ (l : List (ServerWorker L T)). left ++ map starter_of l) turned ∙ ap (λ s. left ++ s ∷ map starter_of (reverse servers)) is ∙ sym (append_assoc left (starter ∷ []) (map starter_of (reverse servers))) ∙ hired.starters_are;
            each = subst (EachNumbered (IsNewServer d shows) (length left + 1)) (sym turned) (new, subst (λ n. EachNumbered (IsNewServer d shows) n (reverse servers)) next hired.each);
          }

  pub all_hired : (left : List T) (lives : List RestartState) (servers : List (ServerWorker L T)) → left ≡ [] → AreHired d shows all left lives servers → HasServers d shows all (reverse servers)
  all_hired left lives servers none hired = record {
    starters_are = ap (λ l. l ++ map starter_of (reverse servers)) (sym none) ∙ hired.starters_are;
    each = subst (λ l. EachNumbered (IsNewServer d shows) (length l + 1) (reverse servers)) none hired.each;
  }

-- each server's worker has its starter's name
pub names_of : {L T : Type 0} (d : Domain) (shows : T → StarterShows) (n : ℕ) (servers : List (ServerWorker L T)) → EachNumbered (IsNewServer d shows) n servers → map (λ (w : ServerWorker L T). w.name) servers ≡ map (λ s. (shows s).name) (map (λ (w : ServerWorker L T). w.served.starter) servers)
names_of d shows n [] each = refl
names_of d shows n (w ∷ servers) each = ap₂ (λ (x : List ℕ) xs. x ∷ xs) (sym each.0.may.name_is) (names_of d shows (n + 1) servers each.1)
