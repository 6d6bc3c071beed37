-- What the domain noted at the boot, and what the board shows of it.
use Rattle.std.proofs.Common.{◌≡◌, ◌⊎◌, ℕ, suc, ◌+◌, ◌≤◌, ◌^◌, Bool, true, false, List, [], ◌∷◌, ◌++◌, length, map, reverse, inl, inr, refl, sym, ◌∙◌, ap, subst, arith, append_assoc, length-append, append-nil}
use Rattle.std.specs.List.{All, Contains, filter}
use Rattle.std.proofs.lemmas.List.{reverse-append, reverse-reverse, length-reverse}
use Rattle.std.proofs.lemmas.List.Elements.{All-nil, All-cons, All-head, All-tail, All-weaker, All-filter, Contains-push, Contains-append_left, Contains-append_right}
use Rattle.xa_client_worker.specs.xa_types.declared.setup.Setup.{Setup}
use Rattle.xa_client_worker.specs.xa_types.declared.stamp.Stamp.{Stamp}
use Rattle.xa_client_worker.specs.xa_events.declared.event.Event.{Event}
use Rattle.xa_client_worker.specs.xa_events.declared.event.Event.TheVariants.{Advertise}
use Rattle.xa_client_worker.specs.xa_events.Cases.{HomePart, WorkerPart}
use Rattle.xa_client_worker.specs.xa_events.Homes.{home_of, same_home, of_worker}
use Rattle.xa_client_worker.specs.xa_events.Homes.Home.{BoardHome, QueueHome}
use Rattle.xa_client_worker.specs.xa_events.Words.{AtEach}
use Rattle.xa_client_worker.specs.xa_stamp.declared.home.Stamped.{Stamped}
use Rattle.xa_client_worker.specs.xa_stamp.Home.{Rises, last_stamp}
use Rattle.xa_client_worker.proofs.xa_stamp.Stamps.{last_stamp-push, Rises-push}
use Rattle.xa_client_worker.specs.xa_lock.Makers.{made_by, noted_in}
use Rattle.xa_client_worker.specs.xa_lock.Pages.{StartsWith}
use Rattle.xa_client_worker.specs.xa_worker.Crew.{IsOfDomain, MayNote, no_stamp, stands_at}
use Rattle.xa_client_worker.specs.xa_worker.Seen.{past_in, IsBehind}
use Rattle.xa_client_worker.proofs.xa_worker.Lists.{filter-yes, filter-none, past_in-filter, map-reverse, AtEach-later, AtEach-cut}
use Rattle.xa_client_worker.proofs.xa_worker.Before.{All-on}
use Rattle.xa_client_worker.proofs.xa_worker.Workers.{AtEach-from, All-at}
use Rattle.xa_client_worker.specs.xa_held.declared.kept_board.BoardNote.TheVariants.{Opened, By}
use Rattle.xa_client_worker.specs.xa_held.Board.{made_in}
use Rattle.xa_client_worker.specs.xa_held.Joins.{changes_at}
use Rattle.xa_client_worker.proofs.xa_held.Fronts.{changes_front}
use Rattle.xa_client_worker.specs.xa_worker.Work.{IsWorkOf}
use Rattle.xa_client_worker.specs.xa_server.Told.{HasStamp}
use Rattle.xa_client_worker.specs.xa_desk.declared.domain.Domain.{Domain}
use Rattle.xa_client_worker.specs.xa_desk.Desks.{HasGrounds, IsGrounded, IsShown}
use Rattle.xa_client_worker.specs.xa_desk.Whole.{Whole, entries_of, IsKnown}
use Rattle.xa_boot.specs.Booting.{IsBoots}
use Rattle.xa_boot.specs.Opening.{IsNextNote, opening, IsBoot}
use Rattle.xa_boot.proofs.Noting.{domain}

-- ---- an event of the boot

of_domain : (e : Event) → IsBoots e → IsOfDomain e
of_domain (Advertise a) b = record { domain = b.0; none = b.1 }
of_domain _ b = absurd b

worker_part : (setup : Setup) (clients : ℕ) (e : Event) (past : List Event) → IsBoots e → WorkerPart setup clients e past
worker_part setup clients (Advertise a) past b = inl (record { domain = b.0; none = b.1 })
worker_part setup clients _ past b = absurd b

on_board : (setup : Setup) (clients : ℕ) (e : Event) → IsBoots e → home_of setup clients e ≡ BoardHome
on_board setup clients (Advertise a) b = refl
on_board setup clients _ b = absurd b

-- it rests on nothing
has_grounds : (d : Domain) (whole : Whole) (worker : ℕ) (own : List Stamped) (stamp : Stamp) (e : Event) → IsBoots e → IsBehind d.booted stamp e × HasGrounds d whole worker own stamp e
has_grounds d whole worker own stamp (Advertise a) b = (tt, record { saw = tt; told = tt; clears = tt })
has_grounds d whole worker own stamp _ b = absurd b

-- ---- the board's home

made_by-in : (own : List Stamped) → noted_in (made_in (map By (made_by domain own))) ≡ own
made_by-in [] = refl
made_by-in (x ∷ own) = ap (λ (l : List Stamped). x ∷ l) (made_by-in own)

pub opening-changes : (setup : Setup) (own : List Stamped) → changes_at (opening setup own) ≡ own
opening-changes setup own = made_by-in own

by_grounded : (own others : List Stamped) → All (IsGrounded others) (map By (made_by domain own))
by_grounded [] others = All-nil (IsGrounded others)
by_grounded (x ∷ own) others = All-cons (IsGrounded others) (By (record { maker = domain; noted = x })) (map By (made_by domain own)) tt (by_grounded own others)

pub opening_grounded : (setup : Setup) (own others : List Stamped) → All (IsGrounded others) (opening setup own)
opening_grounded setup own others = All-cons (IsGrounded others) (Opened setup) (map By (made_by domain own)) tt (by_grounded own others)

-- ---- lists

pub filter-all : {X : Type 0} (p : X → Bool) (xs : List X) → All (λ x. p x ≡ true) xs → filter p xs ≡ xs
filter-all p [] all = refl
filter-all p (x ∷ xs) all = filter-yes p x xs (All-head (λ x. p x ≡ true) x xs all) ∙ ap (λ ys. x ∷ ys) (filter-all p xs (All-tail (λ x. p x ≡ true) x xs all))

module _ (setup : Setup) where
  -- the stamp of the last of these is their number
  last_note : (past : List Stamped) → AtEach (IsNextNote setup) past → (length past ≡ 0) ⊎ HasStamp (reverse past) (record { 0 = length past })
  last_note [] each = inl refl
  last_note (x ∷ older) each =
      let next = each.0.next in
      let stamp : x.stamp.0 ≡ suc (length older) = omega (arith, next) in
      inr (x, subst (λ (l : List Stamped). Contains l x) (sym (reverse-append (x ∷ []) older)) (Contains-append_right (reverse older) (x ∷ []) x (Contains-push [] x)), ap (λ n. record { 0 = n }) stamp)

  rises : (past : List Stamped) → AtEach (IsNextNote setup) past → length past ≤ 2 ^ 63 → Rises no_stamp (reverse past) × (last_stamp no_stamp (reverse past) ≡ length past)
  rises [] each bound = (omega arith, refl)
  rises (x ∷ older) each bound =
      let rest = rises older each.1 (omega (arith, bound)) in
      let next = each.0.next in
      let turned : reverse (x ∷ older) ≡ reverse older ++ x ∷ [] = reverse-append (x ∷ []) older in (
        subst (Rises no_stamp) (sym turned) (Rises-push no_stamp (reverse older) x rest.0 (omega (arith, rest.1, next)) (omega (arith, next, bound))),
        ap (last_stamp no_stamp) turned ∙ last_stamp-push no_stamp (reverse older) x ∙ omega (arith, next),
      )

  module _ (own : List Stamped) (is : IsBoot setup own) where
    turned : reverse (reverse own) ≡ own
    turned = reverse-reverse own

    each_note : (Q : Stamped → Type 0) → ((before after : List Stamped) (x : Stamped) → own ≡ before ++ x ∷ after → IsNextNote setup x (reverse before) → Q x) → All Q own
    each_note Q from = All-on Q [] own (λ before after x at. from before after x at (AtEach-cut (IsNextNote setup) own before after x is.boots at))

    pub all_boots : All (λ (x : Stamped). IsBoots x.event) own
    all_boots = each_note (λ (x : Stamped). IsBoots x.event) (λ before after x at note. note.boots)

    pub all_reached : All (λ (x : Stamped). x.stamp.0 ≤ length own) own
    all_reached = each_note (λ (x : Stamped). x.stamp.0 ≤ length own) (λ before after x at note.
        let next = note.next in
        let turned = length-reverse before in
        let whole = ap length at in
        let parts = length-append before (x ∷ after) in
        omega (arith, next, turned, whole, parts))

    pub all_on_board : (clients : ℕ) → filter (stands_at setup clients BoardHome) own ≡ own
    all_on_board clients =
        filter-all (stands_at setup clients BoardHome) own
        (All-weaker (λ (x : Stamped). IsBoots x.event) (λ (x : Stamped). stands_at setup clients BoardHome x ≡ true) (λ x b. ap (λ h. same_home h BoardHome) (on_board setup clients x.event b)) own all_boots)

    pub none_on_queue : (clients queue : ℕ) → filter (stands_at setup clients (QueueHome queue)) own ≡ []
    none_on_queue clients queue =
        filter-none (stands_at setup clients (QueueHome queue)) own
        (All-weaker (λ (x : Stamped). IsBoots x.event) (λ (x : Stamped). stands_at setup clients (QueueHome queue) x ≡ false) (λ x b. ap (λ h. same_home h (QueueHome queue)) (on_board setup clients x.event b)) own all_boots)

    pub is_work : (clients : ℕ) → IsWorkOf setup clients 0 own
    is_work clients =
        let theirs : List Stamped = filter (λ (x : Stamped). of_worker clients 0 x.event) own in
        let its = All-filter (λ (x : Stamped). of_worker clients 0 x.event) (λ (x : Stamped). IsBoots x.event) own all_boots in
        record {
          rises = subst (Rises no_stamp) turned (rises (reverse own) is.boots (let n = length-reverse own in let bound = is.bound in omega (arith, n, bound))).0;
          may = All-weaker (λ (x : Stamped). IsBoots x.event) (λ (x : Stamped). MayNote clients 0 x.event) (λ x b. inr (of_domain x.event b)) own all_boots;
          met = subst (AtEach (WorkerPart setup clients)) (sym (past_in-filter (of_worker clients 0) own))
              (AtEach-from (WorkerPart setup clients) theirs (λ before after x at. worker_part setup clients x.event (past_in before) (All-at (λ (y : Stamped). IsBoots y.event) before after x (subst (All (λ (y : Stamped). IsBoots y.event)) at its))));
        }

    -- ---- as the board goes on

    module _ (whole : Whole) (begins : StartsWith whole.board.notes (opening setup own)) where
      stands : (rest : List Stamped) × (entries_of whole BoardHome ≡ own ++ rest)
      stands = let front = changes_front whole.board.notes (opening setup own) begins in (front.0, front.1 ∙ ap (λ (l : List Stamped). l ++ front.0) (opening-changes setup own))

      -- the stamp of the last of the first n is known
      known_in : (before after : List Stamped) → own ≡ before ++ after → IsKnown whole (record { 0 = length before })
      known_in before after at =
          let parts : reverse own ≡ reverse after ++ reverse before = ap reverse at ∙ reverse-append before after in
          let each : AtEach (IsNextNote setup) (reverse before) = AtEach-later (IsNextNote setup) (reverse after) (reverse before) (subst (AtEach (IsNextNote setup)) parts is.boots) in
          let count = length-reverse before in
          elim (last_note (reverse before) each) [
            | inl none ↦ inl (sym count ∙ none)
            | inr has ↦
                let here : Contains before has.0 = subst (λ (l : List Stamped). Contains l has.0) (reverse-reverse before) has.1 in
                let all : entries_of whole BoardHome ≡ before ++ (after ++ stands.0) = stands.1 ∙ ap (λ (l : List Stamped). l ++ stands.0) at ∙ append_assoc before after stands.0 in
                inr (inl (BoardHome, (has.0, subst (λ (l : List Stamped). Contains l has.0) (sym all) (Contains-append_left before (after ++ stands.0) has.0 here), has.2 ∙ ap (λ n. record { 0 = n }) count)))
          ]

      pub last_known : IsKnown whole (record { 0 = length own })
      last_known = known_in own [] (sym (append-nil own))

-- ---- what the domain shows of it

module _ (d : Domain) (own : List Stamped) (is : IsBoot d.setup own) (whole : Whole) (begins : StartsWith whole.board.notes (opening d.setup own)) where
  shows_from : (older after : List Stamped) → own ≡ reverse older ++ after → AtEach (IsNextNote d.setup) older → AtEach (λ (x : Stamped) past. IsShown d whole 0 (reverse past) x) older
  shows_from [] after at each = tt
  shows_from (x ∷ older) after at each =
      let split : own ≡ reverse older ++ x ∷ after = at ∙ ap (λ (l : List Stamped). l ++ after) (reverse-append (x ∷ []) older) ∙ append_assoc (reverse older) (x ∷ []) after in
      let on_board = stands d.setup own is whole begins in
      let note : IsNextNote d.setup x older = each.0 in
      let shown : IsShown d whole 0 (reverse older) x = record {
        grounds = (has_grounds d whole 0 (reverse older) x.stamp x.event note.boots).1;
        behind = (has_grounds d whole 0 (reverse older) x.stamp x.event note.boots).0;
        met = λ board. record {
          before = reverse older;
          after = after ++ on_board.0;
          stands = on_board.1 ∙ ap (λ (l : List Stamped). l ++ on_board.0) split ∙ append_assoc (reverse older) (x ∷ after) on_board.0;
          shows = subst (HomePart d.setup x.event) (sym (ap (map (λ (y : Stamped). y.event)) (reverse-reverse older)) ∙ map-reverse (λ (y : Stamped). y.event) (reverse older)) note.met;
        };
        before = record { 0 = length (reverse older) };
        next = note.next ∙ ap (λ n. n + 1) (sym (length-reverse older));
        known_before = known_in d.setup own is whole begins (reverse older) (x ∷ after) split;
      } in
      (shown, shows_from older (x ∷ after) split each.1)

  pub all_shown : AtEach (λ (x : Stamped) older. IsShown d whole 0 (reverse older) x) (reverse own)
  all_shown = shows_from (reverse own) [] (sym (append-nil (reverse (reverse own)) ∙ reverse-reverse own)) is.boots
