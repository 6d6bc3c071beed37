-- What a worker's own events say of one of them, on the merge.
use Rattle.std.proofs.Common.{◌≡◌, ℕ, ◌-◌, Bool, true, List, [], ◌∷◌, ◌++◌, append_assoc, map, reverse, Option, Some, None, inl, inr, refl, sym, ◌∙◌, ap, subst, arith, ltb-true}
use Rattle.std.specs.Prelude.{IsSomeAnd, if◌then◌else◌, nat_lt}
use Rattle.std.specs.List.{filter}
use Rattle.std.proofs.lemmas.Bool.{cases_Bool}
use Rattle.std.proofs.lemmas.List.Elements.{filter-append}
use Rattle.xa_types.specs.declared.setup.Setup.{Setup}
use Rattle.xa_types.specs.declared.ids.Generation.{Generation}
use Rattle.xa_types.specs.declared.ids.RequestId.{RequestId}
use Rattle.xa_events.specs.declared.event.Event.{Event}
use Rattle.xa_events.specs.declared.event.Doing.{Doing}
use Rattle.xa_events.specs.declared.event.Doing.TheVariants.{Off, Idle, Busy, Dying}
use Rattle.xa_events.specs.Words.{latest, AtEach}
use Rattle.xa_events.specs.State.{caller_of}
use Rattle.xa_events.specs.Homes.{of_worker, HeldInHand}
use Rattle.xa_events.specs.Server.{doing, held_in, in_hand}
use Rattle.xa_events.specs.Request.{is_entry_of}
use Rattle.xa_events.specs.Local.{worker_events}
use Rattle.xa_events.proofs.LastEntry.{IsKnown}
use Rattle.xa_events.proofs.Merge.{state, AllCases, known_from}
use Rattle.xa_stamp.specs.declared.home.Stamped.{Stamped}
use Rattle.xa_worker.specs.Seen.{past_in}
use Rattle.xa_worker.proofs.Lists.{filter-yes, filter-no, past_in-append, past_in-filter, map-reverse, AtEach-cut, AtEach-later}

-- ---- lists cut at an entry

-- the list is cut at x, and of what stands before x the test passes ys
abbrev CutAt : {X : Type 0} → (X → Bool) → List X → List X → X → Type 0
CutAt {X} p xs ys x = (front : List X) × (back : List X) × (xs ≡ front ++ x ∷ back) × (filter p front ≡ ys)

one_further : {X : Type 0} (p : X → Bool) (w x : X) (xs ys : List X) → p w ≡ true → CutAt p xs ys x → CutAt p (w ∷ xs) (w ∷ ys) x
one_further p w x xs ys passes c = (w ∷ c.0, c.1, ap (λ l. w ∷ l) c.2, filter-yes p w c.0 passes ∙ ap (λ l. w ∷ l) c.3)

-- a cut of what passes is one of the whole
cut_whole : {X : Type 0} (p : X → Bool) (xs ys zs : List X) (x : X) → filter p xs ≡ ys ++ x ∷ zs → CutAt p xs ys x
cut_whole p [] [] zs x is = absurd (cc is)
cut_whole p [] (y ∷ ys) zs x is = absurd (cc is)
cut_whole p (w ∷ xs) [] zs x is =
    elim (cases_Bool (p w)) [
      | inl passes ↦
          let here : w ∷ filter p xs ≡ x ∷ zs = sym (filter-yes p w xs passes) ∙ is in
          let same : w ≡ x = cc here in
          ([], xs, ap (λ z. z ∷ xs) same, refl)
      | inr apart ↦ let c = cut_whole p xs [] zs x (sym (filter-no p w xs apart) ∙ is) in (w ∷ c.0, c.1, ap (λ l. w ∷ l) c.2, filter-no p w c.0 apart ∙ c.3)
    ]
cut_whole p (w ∷ xs) (y ∷ ys) zs x is =
    elim (cases_Bool (p w)) [
      | inl passes ↦
          let here : w ∷ filter p xs ≡ y ∷ (ys ++ x ∷ zs) = sym (filter-yes p w xs passes) ∙ is in
          let same : w ≡ y = cc here in
          let rest : filter p xs ≡ ys ++ x ∷ zs = cc here in
          subst (λ z. CutAt p (w ∷ xs) (z ∷ ys) x) same (one_further p w x xs ys passes (cut_whole p xs ys zs x rest))
      | inr apart ↦ let c = cut_whole p xs (y ∷ ys) zs x (sym (filter-no p w xs apart) ∙ is) in (w ∷ c.0, c.1, ap (λ l. w ∷ l) c.2, filter-no p w c.0 apart ∙ c.3)
    ]

pub twice : {X : Type 0} (p : X → Bool) (xs : List X) → filter p (filter p xs) ≡ filter p xs
twice p [] = refl
twice p (x ∷ xs) =
    elim (cases_Bool (p x)) [
      | inl y ↦ ap (filter p) (filter-yes p x xs y) ∙ (filter-yes p x (filter p xs) y ∙ (ap (λ ys. x ∷ ys) (twice p xs) ∙ sym (filter-yes p x xs y)))
      | inr n ↦ ap (filter p) (filter-no p x xs n) ∙ (twice p xs ∙ sym (filter-no p x xs n))
    ]

-- ---- one worker's entries

-- so many as the worker noted are in the merge, in its order
module _ (clients : ℕ) (merged : List Stamped) (worker : ℕ) (noted : List Stamped) (own : filter (λ (x : Stamped). of_worker clients worker x.event) merged ≡ filter (λ (x : Stamped). of_worker clients worker x.event) noted) where
  abbrev is_own : Stamped → Bool
  is_own x = of_worker clients worker x.event

  pub own_events : worker_events clients worker (past_in merged) ≡ worker_events clients worker (past_in noted)
  own_events = past_in-filter (of_worker clients worker) merged ∙ (ap past_in own ∙ sym (past_in-filter (of_worker clients worker) noted))

  -- what holds of each entry behind those of its worker before it holds of this one behind those in the merge
  pub own_at : (before after : List Stamped) (x : Stamped) → merged ≡ before ++ x ∷ after → of_worker clients worker x.event ≡ true → (P : Stamped → List Event → Type 0)
      → AtEach (λ (y : Stamped) older. P y (worker_events clients worker (map (λ (z : Stamped). z.event) older))) (reverse noted) → P x (worker_events clients worker (past_in before))
  own_at before after x split mine P each =
      let there : filter is_own noted ≡ filter is_own before ++ x ∷ filter is_own after = sym own ∙ (ap (filter is_own) split ∙ (filter-append is_own before (x ∷ after) ∙ ap (λ xs. filter is_own before ++ xs) (filter-yes is_own x after mine))) in
      let c = cut_whole is_own noted (filter is_own before) (filter is_own after) x there in
      let at = AtEach-cut (λ (y : Stamped) older. P y (worker_events clients worker (map (λ (z : Stamped). z.event) older))) noted c.0 c.1 x each c.2 in
      let same : worker_events clients worker (map (λ (y : Stamped). y.event) (reverse c.0)) ≡ worker_events clients worker (past_in before) =
      ap (worker_events clients worker) (map-reverse (λ (y : Stamped). y.event) c.0) ∙ (past_in-filter (of_worker clients worker) c.0 ∙ (ap past_in c.3 ∙ sym (past_in-filter (of_worker clients worker) before))) in
      subst (P x) same at

-- ---- a server that is busy

-- each event up to that of an entry had its case
pub cases_at : (setup : Setup) (clients : ℕ) (merged before after : List Stamped) (x : Stamped) → merged ≡ before ++ x ∷ after → AllCases setup clients (past_in merged) → AllCases setup clients (x.event ∷ past_in before)
cases_at setup clients merged before after x split cases =
    let behind : past_in (x ∷ after) ≡ past_in after ++ x.event ∷ [] = past_in-append (x ∷ []) after in
    let whole : past_in merged ≡ past_in after ++ x.event ∷ past_in before = ap past_in split ∙ (past_in-append before (x ∷ after) ∙ (ap (λ es. es ++ past_in before) behind ∙ append_assoc (past_in after) (x.event ∷ []) (past_in before))) in
    AtEach-later _ (past_in after) (x.event ∷ past_in before) (subst (AllCases setup clients) whole cases)

-- what holds of a run is known before each of its events
pub known_before : (setup : Setup) (clients : ℕ) (merged before after : List Stamped) (x : Stamped) → merged ≡ before ++ x ∷ after → AllCases setup clients (past_in merged) → IsKnown (state setup clients (past_in before))
known_before setup clients merged before after x split cases = known_from setup clients (past_in before) (cases_at setup clients merged before after x split cases).1

-- how its request was sent last, by its own queue as by all events
pub last_seen : (setup : Setup) (clients : ℕ) (past : List Event) → IsKnown (state setup clients past) → (server : ℕ) (generation : Generation) (request : RequestId) → doing server past ≡ Busy generation request
    → (P : Event → Type 0) → HeldInHand setup clients server (λ moment. IsSomeAnd (latest (is_entry_of request) moment) P) past → IsSomeAnd (latest (is_entry_of request) past) P
last_seen setup clients past known server generation request busy P saw =
    subst (λ (o : Option Event). IsSomeAnd o P) (known.seen server generation request busy saw.moment saw.stood saw.taken) saw.held

held_busy : (d : Doing) (request : RequestId) → held_in d ≡ Some request → (generation : Generation) × (d ≡ Busy generation request)
held_busy Off request is = absurd (cc is)
held_busy (Idle g) request is = absurd (cc is)
held_busy (Busy g r) request is = let same : r ≡ request = cc is in (g, ap (Busy g) same)
held_busy (Dying g) request is = absurd (cc is)

-- a caller with a request in hand is the caller of a server that is busy with it
pub hand_busy : (clients caller : ℕ) (past : List Event) (request : RequestId) → in_hand clients caller past ≡ Some request
    → (caller_of clients (caller - clients) ≡ caller) × ((generation : Generation) × (doing (caller - clients) past ≡ Busy generation request))
hand_busy clients caller past request is =
    elim (cases_Bool (nat_lt clients caller)) [
      | inl y ↦
          let behind = ltb-true clients caller y in
          let held : held_in (doing (caller - clients) past) ≡ Some request = sym (ap (λ b. if b then held_in (doing (caller - clients) past) else None) y) ∙ is in
          (omega (arith, behind), held_busy (doing (caller - clients) past) request held)
      | inr n ↦ let none : None ≡ Some request = sym (ap (λ b. if b then held_in (doing (caller - clients) past) else None) n) ∙ is in absurd (cc none)
    ]
