-- A whole run is one so far.
use Rattle.std.proofs.Common.{◌≡◌, ◌∙◌, ℕ, zero, suc, ◌+◌, List, [], ◌∷◌, length, reverse, Option, Some, None, inl, refl, sym, subst, arith}
use Rattle.std.specs.Prelude.{slice_get}
use Rattle.std.specs.List.{All}
use Rattle.std.proofs.lemmas.List.{append-nil}
use Rattle.std.proofs.lemmas.List.Elements.{All-nil}
use Rattle.std.proofs.lemmas.Option.{slice_get_within, get_or_from_slice_get}
use Rattle.xa_domain.specs.xa_types.declared.setup.Setup.{Setup}
use Rattle.xa_domain.specs.xa_types.Setup.{numbered}
use Rattle.xa_domain.specs.xa_events.declared.event.Event.{Event}
use Rattle.xa_domain.specs.xa_events.Words.{EachNumbered}
use Rattle.xa_domain.specs.xa_worker.Ending.{list_in}
use Rattle.xa_domain.specs.xa_worker.declared.work.Halt.TheVariants as halts
use Rattle.xa_domain.specs.xa_script.declared.script.Client.{Client}
use Rattle.xa_domain.specs.xa_pipe.Standing.{LifeState, Ending}
use Rattle.xa_domain.specs.xa_server.Served.{StarterShows}
use Rattle.xa_domain.specs.xa_server_worker.Lives.{lives_in, IsCut}
use Rattle.xa_domain.specs.xa_history.Served.{IsServedSoFar, AreLives, AreLivesOf, AreLivesSoFar, IsAsked, IsStarterOf, IsStarterSoFar, generations_of, lives_of, name_of}
use Rattle.xa_domain.proofs.xa_history.Numbered.{each_at, numbered_there}
use Rattle.xa_domain.specs.Serving.{IsNoneCut, ComesTo}

-- of no server a life was cut
nothing_in : (cut : List (List LifeState)) → IsNoneCut cut → (place : ℕ) (found : Option (List LifeState)) → slice_get cut place ≡ found → list_in found ≡ []
nothing_in cut none place None is = refl
nothing_in cut none place (Some its) is = sym (get_or_from_slice_get cut place its [] is) ∙ none place [] (slice_get_within cut place its is)

none_cut : (cut : List (List LifeState)) → IsNoneCut cut → (server : ℕ) → list_in (numbered server cut) ≡ []
none_cut cut none zero = refl
none_cut cut none (suc place) = nothing_in cut none place (slice_get cut place) refl

lives_so_far : (setup : Setup) (past : List Event) (lives : List (List Ending)) (cut : List (List LifeState)) → AreLives setup past lives → length cut ≡ length setup.servers → IsNoneCut cut
    → AreLivesSoFar setup past lives cut
lives_so_far setup past lives cut are count none = record {
  lives_count = let all = are.all in omega (arith, all);
  cut_count = omega (arith, count);
  each = λ server low high.
      let all = are.all in
      let there = numbered_there server lives low (omega (arith, high, all)) in
      let its = each_at (λ (n : ℕ) (its : List Ending). generations_of its ≡ lives_in n past) server lives there.0 are.each there.1 in
      let asked = each_at (λ (n : ℕ) (its : List Ending). All (IsAsked n past) (lives_of its)) server lives there.0 are.asked there.1 in
      let Are : List Ending → List LifeState → Type 0 = AreLivesOf setup past server in
      subst (λ (o : Option (List Ending)). Are (list_in o) (list_in (numbered server cut))) (sym there.1) (subst (Are there.0) (sym (none_cut cut none server)) (record {
        are = append-nil (generations_of there.0) ∙ its;
        asked = subst (All (IsAsked server past)) (sym (append-nil (lives_of there.0))) asked;
        cut_off = All-nil (IsCut (name_of setup server) server past);
      }));
}

starters_so_far : {S : Type 0} (shows : S → StarterShows) (setup : Setup) (past : List Event) (n : ℕ) (starters : List S)
    → EachNumbered (λ server starter. IsStarterOf setup server (shows starter) past) n starters → EachNumbered (λ server starter. IsStarterSoFar setup server (shows starter) past) n starters
starters_so_far shows setup past n [] each = tt
starters_so_far shows setup past n (starter ∷ starters) each =
    (record { its = let first = each.0 in first.its; started = let first = each.0 in inl first.started }, starters_so_far shows setup past (n + 1) starters each.1)

pub whole_so_far : {S : Type 0} (shows : S → StarterShows) (setup : Setup) (clients : List Client) (events : List Event) (lives : List (List Ending)) (cut : List (List LifeState)) (starters : List S)
    → ComesTo shows setup clients None events lives cut starters → IsServedSoFar shows halts.NoMemory setup (length clients) events lives cut starters
whole_so_far shows setup clients events lives cut starters comes =
    let whole = comes.0 in
    record {
      run = whole.machine.run;
      lawful = whole.machine.lawful;
      made = whole.machine.made;
      all = inl whole.carried.all;
      lives_are = lives_so_far setup (reverse events) lives cut whole.carried.lives_are comes.2 comes.1;
      each = starters_so_far shows setup (reverse events) 1 starters whole.carried.each;
    }
