-- A take stands at one place among the events of its queue, and there the request's last entry is its last entry of all.
use Rattle.std.proofs.Common.{◌≡◌, ℕ, ◌+◌, ◌<◌, Bool, true, List, [], ◌∷◌, ◌++◌, append_assoc, refl, sym, ◌∙◌, ap, subst, arith, eq-eqb}
use Rattle.std.proofs.lemmas.List.Elements.{filter-append}
use Rattle.xa_client_worker.specs.xa_types.declared.setup.Setup.{Setup}
use Rattle.xa_client_worker.specs.xa_types.Setup.{queue_of}
use Rattle.xa_client_worker.specs.xa_events.declared.event.Event.{Event}
use Rattle.xa_client_worker.specs.xa_events.declared.event.Event.TheVariants.{Take}
use Rattle.xa_client_worker.specs.xa_events.declared.event.Taken.{Taken}
use Rattle.xa_client_worker.specs.xa_events.Cases.{Case, HomePart}
use Rattle.xa_client_worker.specs.xa_events.Homes.{at_home}
use Rattle.xa_client_worker.specs.xa_events.Homes.Home.{QueueHome}
use Rattle.xa_client_worker.specs.xa_events.Local.{Local, home_events}
use Rattle.xa_client_worker.specs.xa_events.Queue.{takes, takes_from}
use Rattle.xa_client_worker.specs.xa_events.Request.{is_entry_of}
use Rattle.xa_client_worker.specs.xa_events.Words.{latest, count, AtEach}
use Rattle.xa_client_worker.proofs.xa_events.LastEntry.{IsKnown, Placed}
use Rattle.xa_client_worker.proofs.xa_events.Merge.{state, AllCases, all_cases, known_from, same_home-self}
use Rattle.xa_client_worker.proofs.xa_events.WordsLemmas.{count_yes, counts_earlier}
use Rattle.xa_client_worker.proofs.xa_worker.Lists.{earlier_behind, filter-yes, AtEach-later}

-- ---- lists

-- what holds wherever the list is cut holds at each
splits_behind : {X : Type 0} (Q : X → List X → Type 0) (newer xs : List X) → ((front before : List X) (x : X) → newer ++ xs ≡ front ++ x ∷ before → Q x before) → AtEach Q xs
splits_behind Q newer [] holds = tt
splits_behind Q newer (x ∷ xs) holds = (holds newer xs x refl, splits_behind Q (newer ++ x ∷ []) xs (λ front before y is. holds front before y (sym (append_assoc newer (x ∷ []) xs) ∙ is)))

pub AtEach-splits : {X : Type 0} (Q : X → List X → Type 0) (xs : List X) → ((front before : List X) (x : X) → xs ≡ front ++ x ∷ before → Q x before) → AtEach Q xs
AtEach-splits Q xs holds = splits_behind Q [] xs holds

-- one that passes has one place, by how many before it pass
module _ {X : Type 0} (p : X → Bool) (x : X) (passes : p x ≡ true) where
  fewer : (newer before : List X) → count p before < count p (newer ++ x ∷ before)
  fewer newer before = omega (arith, counts_earlier p (x ∷ before) (newer ++ x ∷ before) (earlier_behind newer (x ∷ before)), count_yes p x before passes)

  one_place : (front other before past : List X) → count p before ≡ count p past → front ++ x ∷ before ≡ other ++ x ∷ past → before ≡ past
  one_place [] [] before past same is = cc is
  one_place [] (y ∷ other) before past same is = let rest : before ≡ other ++ x ∷ past = cc is in absurd (omega (arith, fewer other past, ap (count p) rest, same))
  one_place (y ∷ front) [] before past same is = let rest : front ++ x ∷ before ≡ past = cc is in absurd (omega (arith, fewer front before, ap (count p) rest, same))
  one_place (y ∷ front) (z ∷ other) before past same is = let rest : front ++ x ∷ before ≡ other ++ x ∷ past = cc is in one_place front other before past same rest

-- ---- a take

module _ (setup : Setup) (clients : ℕ) (past : List Event) (local : Local setup clients past) (t : Taken) (front before : List Event) (split : past ≡ front ++ Take t ∷ before) where
  abbrev queue : ℕ
  queue = queue_of setup t.server.0

  abbrev home : List Event → List Event
  home es = home_events setup clients (QueueHome queue) es

  cases : AllCases setup clients (Take t ∷ before)
  cases = AtEach-later (λ e earlier. Case (state setup clients earlier) e) front (Take t ∷ before) (subst (AllCases setup clients) split (all_cases setup clients past local))

  pub known : IsKnown (state setup clients before)
  known = known_from setup clients before cases.1

  here : home past ≡ home front ++ Take t ∷ home before
  here =
      let at = at_home setup clients (QueueHome queue) in
      ap home split ∙ (filter-append at front (Take t ∷ before) ∙ ap (λ es. home front ++ es) (filter-yes at (Take t) before (same_home-self (QueueHome queue))))

  -- wherever it stands there, it is numbered by the takes before it
  number : (newer earlier : List Event) → home past ≡ newer ++ Take t ∷ earlier → t.k ≡ takes setup queue earlier + 1
  number newer earlier is = (AtEach-later (HomePart setup) newer (Take t ∷ earlier) (subst (AtEach (HomePart setup)) is (local.homes (QueueHome queue)))).0.count

  same_before : (newer earlier : List Event) → home past ≡ newer ++ Take t ∷ earlier → home before ≡ earlier
  unfolding takes
  same_before newer earlier is =
      let one = number (home front) (home before) here in
      let other = number newer earlier is in
      one_place (takes_from setup queue) (Take t) (eq-eqb queue queue refl) (home front) newer (home before) earlier (omega (arith, one, other)) (sym here ∙ is)

  pub last_entry : (newer earlier : List Event) → home past ≡ newer ++ Take t ∷ earlier → latest (is_entry_of t.request) earlier ≡ latest (is_entry_of t.request) before
  last_entry newer earlier is =
      ap (latest (is_entry_of t.request)) (sym (same_before newer earlier is))
      ∙ subst (Placed setup clients t.request before) (known.agree.waits queue t.request cases.0.home.waits) (known.placed t.request)
