-- Workers that have left are a crew.
use Rattle.std.proofs.Common.{◌≡◌, ℕ, ◌<◌, ◌≤◌, ◌^◌, Bool, List, [], ◌∷◌, ◌++◌, map, reverse, Option, Some, None, inl, inr, refl, sym, ◌∙◌, ap, subst, arith}
use Rattle.std.specs.Prelude.{option_map}
use Rattle.std.specs.List.{All, filter}
use Rattle.std.proofs.lemmas.Bool.{cases_Bool, cases_lt}
use Rattle.std.proofs.lemmas.List.{reverse-reverse}
use mathlib.Core.Path.{fun_ext}
use Rattle.xa_client_worker.specs.xa_types.declared.stamp.Stamp.{Stamp}
use Rattle.xa_client_worker.specs.xa_types.Setup.{numbered}
use Rattle.xa_client_worker.specs.xa_events.declared.event.Event.{Event}
use Rattle.xa_client_worker.specs.xa_events.Homes.{Home}
use Rattle.xa_client_worker.specs.xa_events.Homes.Home.{BoardHome, QueueHome, ClockHome, CallerHome}
use Rattle.xa_client_worker.specs.xa_events.Local.{worker_events}
use Rattle.xa_client_worker.specs.xa_events.Words.{AtEach}
use Rattle.xa_client_worker.specs.xa_stamp.declared.home.Stamped.{Stamped}
use Rattle.xa_client_worker.specs.xa_stamp.Home.{Rises}
use Rattle.xa_client_worker.specs.xa_lock.declared.makers.Made.{Made}
use Rattle.xa_client_worker.specs.xa_lock.Makers.{noted_in}
use Rattle.xa_client_worker.specs.xa_worker.Crew.{IsCrew, TellsEach, no_stamp, stands_at}
use Rattle.xa_client_worker.specs.xa_worker.Ending.{list_in, workers_of}
use Rattle.xa_client_worker.specs.xa_worker.Seen.{past_in, IsBehind, SawFronts, WasTold}
use Rattle.xa_client_worker.proofs.xa_worker.Growing.{noted_made}
use Rattle.xa_client_worker.proofs.xa_worker.Before.{All-on}
use Rattle.xa_client_worker.proofs.xa_worker.Lists.{filter-yes, filter-no, map-reverse, AtEach-cut}
use Rattle.xa_client_worker.specs.xa_held.declared.kept_board.BoardNote.{BoardNote}
use Rattle.xa_client_worker.specs.xa_held.declared.kept_board.BoardNote.TheVariants.{Opened, By, Looked}
use Rattle.xa_client_worker.specs.xa_held.Board.{Climbs, top, made_in}
use Rattle.xa_client_worker.specs.xa_held.Kept.{Kept}
use Rattle.xa_client_worker.specs.xa_worker.Work.{WorkState}
use Rattle.xa_client_worker.specs.xa_caller.declared.cargo.Filling.{Filling}
use Rattle.xa_client_worker.specs.xa_desk.declared.domain.Domain.{Domain}
use Rattle.xa_client_worker.specs.xa_desk.declared.desk.Desk.{Desk}
use Rattle.xa_client_worker.specs.xa_desk.Whole.{entries_of}
use Rattle.xa_client_worker.specs.xa_desk.Desks.{IsShown}
use Rattle.xa_history.specs.Joined.{Back, whole_of, kept_of, noted_of, AllLeft}
use Rattle.xa_history.proofs.Listed.{numbered_map, nothing_past}
use Rattle.xa_history.proofs.Left.{bare_moves, same_homes, each_worker, has_left, each_left}
use Rattle.xa_history.proofs.Standing.{makers_at}
use Rattle.xa_history.proofs.Going.{one_goes_on}

-- ---- stamps that rise

pub rises-lower : (low high : Stamp) (xs : List Stamped) → low.0 ≤ high.0 → Rises high xs → Rises low xs
rises-lower low high [] le rises = omega (arith, le, rises)
rises-lower low high (x ∷ xs) le rises = (omega (arith, le, rises.0), rises.1)

rises-filter : (p : Stamped → Bool) (low : Stamp) (xs : List Stamped) → Rises low xs → Rises low (filter p xs)
rises-filter p low [] rises = rises
rises-filter p low (x ∷ xs) rises =
    let rest = rises-filter p x.stamp xs rises.1 in
    let first : low.0 < x.stamp.0 = rises.0 in
    elim (cases_Bool (p x)) [
      | inl y ↦ subst (Rises low) (sym (filter-yes p x xs y)) (first, rest)
      | inr n ↦ subst (Rises low) (sym (filter-no p x xs n)) (rises-lower low x.stamp (filter p xs) (omega (arith, first)) rest)
    ]

-- the changes of the board, whose looks don't fall
changes_rise : (least : Stamp) (notes : List BoardNote) → Climbs least.0 notes → top least.0 notes ≤ 2 ^ 63 → Rises least (noted_in (made_in notes))
changes_rise least [] climbs bound = bound
changes_rise least (Opened setup ∷ notes) climbs bound = changes_rise least notes climbs bound
changes_rise least (By made ∷ notes) climbs bound = (climbs.0, changes_rise made.noted.stamp notes climbs.1 bound)
changes_rise least (Looked look ∷ notes) climbs bound = rises-lower least look.stamp (noted_in (made_in notes)) climbs.0 (changes_rise look.stamp notes climbs.1 bound)

-- ---- what workers show

each-weaker : {X : Type 0} (P Q : X → List X → Type 0) → ((x : X) (older : List X) → P x older → Q x older) → (past : List X) → AtEach P past → AtEach Q past
each-weaker P Q from [] each = tt
each-weaker P Q from (x ∷ past) each = (from x past each.0, each-weaker P Q from past each.1)

past_of : (older : List Stamped) → past_in (reverse older) ≡ map (λ (y : Stamped). y.event) older
past_of older = sym (map-reverse (λ (y : Stamped). y.event) (reverse older)) ∙ ap (map (λ (y : Stamped). y.event)) (reverse-reverse older)

module _ (d : Domain) (b : Back) (domain : WorkState) (desks : List Desk) (all : AllLeft d b domain desks) where
  abbrev pub workers : ℕ
  workers = workers_of d.setup d.clients

  abbrev pub held : Home → List Stamped
  held home = noted_in (kept_of b home)

  pub whole_is : entries_of (whole_of d b) ≡ held
  whole_is = fun_ext (same_homes d b)

  -- what a worker shows of an event, behind these older ones
  abbrev Shown : ℕ → Stamped → List Stamped → Type 0
  Shown worker x older = IsShown d (whole_of d b) worker (reverse older) x

  all_shown : (worker : ℕ) → worker < workers → AtEach (Shown worker) (reverse (noted_of domain desks worker))
  all_shown = each_worker d b domain desks all (λ worker own. AtEach (Shown worker) (reverse own)) (subst (λ (n : ℕ). AtEach (Shown n) (reverse domain.own)) all.itself.id all.itself.shows)
      (λ worker desk there. subst (λ (n : ℕ). AtEach (Shown n) (reverse desk.caller.work.own)) (all.ids worker desk there) ((has_left d b domain desks all worker desk there).is.shows (whole_of d b) (one_goes_on d b domain desks all worker desk there)))

  pub each_shown : (worker : ℕ) → worker < workers → (before after : List Stamped) (x : Stamped) → noted_of domain desks worker ≡ before ++ x ∷ after → IsShown d (whole_of d b) worker before x
  each_shown worker low before after x at = subst (λ (own : List Stamped). IsShown d (whole_of d b) worker own x) (reverse-reverse before) (AtEach-cut (Shown worker) (noted_of domain desks worker) before after x (all_shown worker low) at)

  -- and by the homes that were given back
  by_homes : (P : (Home → List Stamped) → List Event → Type 0) (older : List Stamped) → P (entries_of (whole_of d b)) (past_in (reverse older)) → P held (map (λ (y : Stamped). y.event) older)
  by_homes P older holds = subst (P held) (past_of older) (subst (λ (entries : Home → List Stamped). P entries (past_in (reverse older))) whole_is holds)

  all_saw : (worker : ℕ) → worker < workers → AtEach (λ (x : Stamped) older. SawFronts d.setup d.clients held x.stamp x.event (map (λ (y : Stamped). y.event) older)) (reverse (noted_of domain desks worker))
  all_saw worker low = each-weaker (Shown worker) (λ (x : Stamped) older. SawFronts d.setup d.clients held x.stamp x.event (map (λ (y : Stamped). y.event) older))
      (λ x older shown. by_homes (λ entries past. SawFronts d.setup d.clients entries x.stamp x.event past) older shown.grounds.saw) (reverse (noted_of domain desks worker)) (all_shown worker low)

  all_told : (worker : ℕ) → worker < workers → TellsEach d.setup d.clients held worker (noted_of domain desks worker)
  all_told worker low = each-weaker (Shown worker) (λ (x : Stamped) older. WasTold d.setup d.clients held x.stamp (worker_events d.clients worker (map (λ (y : Stamped). y.event) older)) x.event)
      (λ x older shown. by_homes (λ entries past. WasTold d.setup d.clients entries x.stamp (worker_events d.clients worker past) x.event) older shown.grounds.told) (reverse (noted_of domain desks worker)) (all_shown worker low)

  -- ---- the homes

  queue_home : (queue : ℕ) (o : Option (Kept Filling)) → numbered queue b.queues ≡ o → (first : Stamp) × Rises first (noted_in (list_in (option_map (λ (kept : Kept Filling). kept.queue.entries) o)))
  queue_home queue None there = (no_stamp, omega arith)
  queue_home queue (Some kept) there = (kept.queue.first, (all.each queue kept there).sound.rises)

  pub home_rises : (home : Home) → (first : Stamp) × Rises first (held home)
  home_rises BoardHome = (b.board.board.first, changes_rise b.board.board.first b.board.notes all.board.climbs (let latest = all.board.latest in let bound = all.board.bound in omega (arith, latest, bound)))
  home_rises (QueueHome queue) = subst (λ (o : Option (List Made)). (first : Stamp) × Rises first (noted_in (list_in o))) (sym (numbered_map (λ (kept : Kept Filling). kept.queue.entries) queue b.queues)) (queue_home queue (numbered queue b.queues) refl)
  home_rises ClockHome = (no_stamp, subst (Rises no_stamp) (sym (bare_moves b.clock.entries)) all.clock.rises)
  home_rises (CallerHome caller) =
      let its : List Stamped = list_in (numbered caller b.own) in (
        no_stamp,
        subst (Rises no_stamp) (sym (noted_made (record { 0 = caller }) its)) (elim (cases_lt caller workers) [
          | inl low ↦
              let left = each_left d b domain desks all caller low in
              subst (Rises no_stamp) (sym left.home) (rises-filter (stands_at d.setup d.clients (CallerHome caller)) no_stamp (noted_of domain desks caller) left.work.rises)
          | inr high ↦ subst (Rises no_stamp) (sym (nothing_past caller b.own (let own = all.own in let count = all.count in omega (arith, high, own, count)))) (omega arith)
        ]),
      )

  pub desks_are_crew : IsCrew d.setup d.clients workers (kept_of b) (noted_of domain desks)
  desks_are_crew = record {
    last = d.booted;
    homes = λ home. record { first = (home_rises home).0; rises = (home_rises home).1; made = makers_at d b domain desks all home };
    booted = all.booted;
    work = λ worker low.
        let left = each_left d b domain desks all worker low in
        let behind : All (λ (x : Stamped). IsBehind d.booted x.stamp x.event) (noted_of domain desks worker) =
        All-on (λ (x : Stamped). IsBehind d.booted x.stamp x.event) [] (noted_of domain desks worker) (λ before after x at. (each_shown worker low before after x at).behind) in
        record { rises = left.work.rises; may = left.work.may; met = left.work.met; behind = behind; saw = all_saw worker low };
    told = all_told;
    theirs = λ worker low. (each_left d b domain desks all worker low).theirs;
  }
