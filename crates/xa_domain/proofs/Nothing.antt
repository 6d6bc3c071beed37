-- Where memory ran out before the domain was booted nothing is handed back, and no server was started.
use Rattle.std.proofs.Common.{◌≡◌, ℕ, zero, suc, ◌+◌, ◌<◌, List, [], ◌∷◌, length, map, Option, Some, None, inl, inr, refl, sym, ◌∙◌, ap, subst, arith}
use Rattle.std.specs.Prelude.{option_map}
use Rattle.std.specs.List.{All}
use Rattle.std.proofs.lemmas.List.{length-map}
use Rattle.std.proofs.lemmas.List.Elements.{All-nil, All-head, All-tail}
use Rattle.std.proofs.lemmas.List.Sorted.{IsPermutation-refl}
use Rattle.xa_boot.specs.xa_types.declared.setup.Setup.{Setup}
use Rattle.xa_boot.specs.xa_types.declared.setup.ServerSetup.{ServerSetup}
use Rattle.xa_boot.specs.xa_types.Setup.{numbered}
use Rattle.xa_boot.specs.xa_events.declared.event.Event.{Event}
use Rattle.xa_boot.specs.xa_events.Server.{starts}
use Rattle.xa_boot.specs.xa_events.Words.{EachNumbered}
use Rattle.xa_boot.specs.xa_stamp.Home.{Notes}
use Rattle.xa_boot.specs.xa_stamp.Merge.{IsDense, IsMerged}
use Rattle.xa_boot.proofs.xa_stamp.Places.{one_merge}
use Rattle.xa_boot.specs.xa_worker.Ending.{list_in}
use Rattle.xa_boot.specs.xa_worker.declared.work.Halt.{Halt}
use Rattle.xa_boot.specs.xa_worker.declared.work.Halt.TheVariants.{NoMemory}
use Rattle.xa_history.specs.xa_script.declared.script.Client.{Client}
use Rattle.xa_boot.specs.xa_pipe.Standing.{LifeState, Ending}
use Rattle.xa_boot.specs.xa_server.Served.{StarterShows}
use Rattle.xa_boot.specs.xa_desk.Made.{IsMade}
use Rattle.xa_boot.specs.xa_server_worker.Lives.{HasStarted, IsCut}
use Rattle.xa_boot.specs.xa_events.State.{opening}
use Rattle.xa_history.proofs.Lawful.{lawful_run}
use Rattle.xa_history.specs.Served.{server_name_in, name_of, IsAsked, AreLivesOf, HasStarters, IsStarterSoFar, IsServedSoFar}
use Rattle.xa_history.proofs.Listed.{numbered_map}
use Rattle.xa_history.proofs.Numbered.{each_at, each_from}
use Rattle.xa_domain.specs.Serving.{ServeEnds}

no_starts : (server : ℕ) → starts server [] ≡ []
unfolding starts
no_starts server = refl

no_lives : (setup : Setup) (server : ℕ) → 0 < server → AreLivesOf setup [] server (list_in (numbered server [])) (list_in (numbered server []))
no_lives setup zero some = absurd (omega (arith, some))
no_lives setup (suc k) some = record { are = refl; asked = All-nil (IsAsked (suc k) []); cut_off = All-nil (IsCut (name_of setup (suc k)) (suc k) []) }

none_merged : IsMerged [] []
none_merged = record { places = []; all = IsPermutation-refl []; ordered = λ k d low high. absurd (omega (arith, high)); theirs = refl }

none_dense : IsDense (record { 0 = 0 }) []
none_dense k d within = absurd (omega (arith, within))

name_in : (o : Option ServerSetup) (name : List ℕ) → option_map (λ (server : ServerSetup). server.name) o ≡ Some name → name ≡ server_name_in o
name_in None name is = absurd (cc is)
name_in (Some server) name is = cc is

module _ {S : Type 0} (shows : S → StarterShows) (setup : Setup) where
  abbrev IsUnasked : S → Type 0
  IsUnasked s = HasStarted (shows s).name 0 0 (shows s)

  abbrev pub EachUnasked : List S → Type 0
  EachUnasked starters = EachNumbered (λ server starter. IsStarterSoFar setup server (shows starter) []) 1 starters

  each_unasked : (n : ℕ) (starters : List S) → All IsUnasked starters → EachNumbered (λ k s. IsUnasked s) n starters
  each_unasked n [] all = tt
  each_unasked n (s ∷ starters) all = (All-head IsUnasked s starters all, each_unasked (n + 1) starters (All-tail IsUnasked s starters all))

  its_name : (starters : List S) → map (λ s. (shows s).name) starters ≡ map (λ (server : ServerSetup). server.name) setup.servers → (n : ℕ) (s : S) → numbered n starters ≡ Some s → (shows s).name ≡ name_of setup n
  its_name starters names n s is = name_in (numbered n setup.servers) (shows s).name
      (sym (numbered_map (λ (server : ServerSetup). server.name) n setup.servers) ∙ (ap (numbered n) (sym names) ∙ (numbered_map (λ s. (shows s).name) n starters ∙ ap (option_map (λ s. (shows s).name)) is)))

  pub unasked : (starters : List S) → map (λ s. (shows s).name) starters ≡ map (λ (server : ServerSetup). server.name) setup.servers → All IsUnasked starters → EachUnasked starters
  unasked starters names all = each_from (λ server starter. IsStarterSoFar setup server (shows starter) []) starters (λ n s is.
      let its = its_name starters names n s is in
      record { its = its; started = inl (subst (λ k. HasStarted (name_of setup n) k 0 (shows s)) (sym (ap length (no_starts n))) (subst (λ name. HasStarted name 0 0 (shows s)) its (each_at (λ k s. IsUnasked s) n starters s (each_unasked 1 starters all) is))) })

  pub each_there : (starters : List S) → map (λ s. (shows s).name) starters ≡ map (λ (server : ServerSetup). server.name) setup.servers → HasStarters NoMemory setup starters
  each_there starters names = inl (sym (length-map starters (λ s. (shows s).name)) ∙ (ap length names ∙ length-map setup.servers (λ (server : ServerSetup). server.name)))

  module _ (clients : List Client) (starters : List S) (all : HasStarters NoMemory setup starters) (none : All IsUnasked starters) (each : EachUnasked starters) where
    none_served : ServeEnds shows setup clients (Some NoMemory) [] [] [] starters
    none_served = record {
      homed = inr (refl, none);
      dense = none_dense;
      worn = tt;
      comes = λ events merged. subst (λ (es : List Event). IsServedSoFar shows NoMemory setup (length clients) es [] [] starters) (sym (one_merge [] events [] merged none_merged))
          (record { run = refl; lawful = lawful_run setup (length clients) [] (opening setup (length clients)) refl; made = All-nil IsMade; all = all; lives_are = record { lives_count = omega arith; cut_count = omega arith; each = λ server some low. no_lives setup server some }; each = each });
    }

    pub none_ends : (halt : Option Halt) (homes : List Notes) (lives : List (List Ending)) (cut : List (List LifeState)) → halt ≡ Some NoMemory → homes ≡ [] → lives ≡ [] → cut ≡ [] → ServeEnds shows setup clients halt homes lives cut starters
    none_ends halt homes lives cut why no_homes none none_cut =
        subst (λ h. ServeEnds shows setup clients h homes lives cut starters) (sym why)
        (subst (λ hs. ServeEnds shows setup clients (Some NoMemory) hs lives cut starters) (sym no_homes)
        (subst (λ ls. ServeEnds shows setup clients (Some NoMemory) [] ls cut starters) (sym none)
        (subst (λ cs. ServeEnds shows setup clients (Some NoMemory) [] [] cs starters) (sym none_cut) none_served)))
