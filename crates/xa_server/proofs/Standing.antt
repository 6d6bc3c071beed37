-- From the ends among what a worker noted to the ends at the homes.
use Rattle.std.proofs.Common.{◌≡◌, ℕ, ◌<◌, ◌==◌, Bool, true, List, [], ◌∷◌, inl, inr, sym, subst}
use Rattle.std.specs.List.{All, Contains, filter}
use Rattle.std.proofs.lemmas.List.Elements.{All-nil, All-cons, All-head, All-tail, All-same, All-weaker, All-contains, All-contains_itself}
use Rattle.std.proofs.lemmas.Bool.{cases_Bool}
use Rattle.xa_caller.specs.xa_types.declared.setup.Setup.{Setup}
use Rattle.xa_caller.specs.xa_events.Homes.{Home, home_of}
use Rattle.xa_caller.specs.xa_stamp.declared.home.Stamped.{Stamped}
use Rattle.xa_caller.specs.xa_lock.declared.makers.Made.{Made}
use Rattle.xa_caller.specs.xa_lock.Makers.{maker_of, noted_in}
use Rattle.xa_caller.specs.xa_lock.Pages.{entries_by}
use Rattle.xa_caller.specs.xa_worker.Crew.{stands_at, IsCrew}
use Rattle.xa_caller.proofs.xa_worker.Lists.{filter-yes, filter-no, same_home-is, All-homes}
use Rattle.xa_caller.specs.xa_cell.declared.view.View.{View}
use Rattle.xa_caller.specs.xa_cell.Growing.{Keeps, TakesMore}
use Rattle.xa_caller.specs.xa_cell.Views.{at}
use Rattle.xa_caller.specs.declared.cargo.Filling.{Filling}
use Rattle.std.specs.Prelude.{IfSome, Option, Some, None}
use Rattle.xa_caller.specs.xa_types.declared.ids.RequestId.{RequestId}
use Rattle.xa_caller.specs.xa_types.declared.stamp.Stamp.{Stamp}
use Rattle.xa_caller.specs.xa_types.declared.reply.Answer.{Answer as Reply}
use Rattle.xa_server.specs.Told.{IsEnded, EndedFor, FilledByEnds}
use Rattle.xa_server.specs.Fillings.{EndsAt, HasEnd, AllEnded, StandAt}
use Rattle.xa_server.proofs.Growth.{only_at}

end_at : (setup : Setup) (clients : ℕ) (entries : Home → List Stamped) (own : List Stamped) → StandAt setup clients entries own
    → (request : RequestId) (stamp : Stamp) (answer : Option Reply) → IfSome answer (IsEnded own request stamp) → IfSome answer (EndsAt entries request stamp)
end_at setup clients entries own stand request stamp None e = tt
end_at setup clients entries own stand request stamp (Some answer) e = record {
  home = home_of setup clients e.entry.event;
  entry = e.entry;
  stands = stand e.entry e.stands;
  settles = e.settles;
  where_ = home_of setup clients e.has.0.event;
  has = (e.has.0, stand e.has.0 e.has.1, e.has.2);
}

pub own_ended : (setup : Setup) (clients : ℕ) (entries : Home → List Stamped) (own : List Stamped) (v : View Filling) → StandAt setup clients entries own → FilledByEnds own v → AllEnded entries v
own_ended setup clients entries own v stand each = record {
  each = λ k. All-weaker (EndedFor own) (HasEnd entries) (λ f e. end_at setup clients entries own stand f.opening.request f.answer.stamp f.answer.answer e) (at k v).filled (each k);
}

pub own_kept : (own : List Stamped) (v w : View Filling) → Keeps v w → FilledByEnds own v → FilledByEnds own w
own_kept own v w g each k = All-same (EndedFor own) (at k w).filled (at k v).filled (g.each k).filled (each k)

pub own_taking : (own : List Stamped) (k : ℕ) (a : Filling) (v w : View Filling) → TakesMore k a v w → FilledByEnds own v → FilledByEnds own w
own_taking own k a v w g each =
    only_at (λ j. All (EndedFor own) (at j w).filled) k (All-same (EndedFor own) (at k w).filled (at k v).filled g.filled (each k))
    (λ j ne. All-same (EndedFor own) (at j w).filled (at j v).filled (g.others j ne).filled (each j))

-- ---- a crew's workers

-- what is filtered passes
passing : (p : Stamped → Bool) (xs : List Stamped) → All (λ x. p x ≡ true) (filter p xs)
passing p [] = All-nil (λ x. p x ≡ true)
passing p (x ∷ xs) =
    elim (cases_Bool (p x)) [
      | inl y ↦ subst (All (λ z. p z ≡ true)) (sym (filter-yes p x xs y)) (All-cons (λ z. p z ≡ true) x (filter p xs) y (passing p xs))
      | inr n ↦ subst (All (λ z. p z ≡ true)) (sym (filter-no p x xs n)) (passing p xs)
    ]

-- what holds of all that was noted, holds of what one maker noted
part_of : (P : Stamped → Type 0) (k : ℕ) (es : List Made) → All P (noted_in es) → All P (noted_in (entries_by maker_of k es))
part_of P k [] all = all
part_of P k (e ∷ es) all =
    let rest = part_of P k es (All-tail P e.noted (noted_in es) all) in
    elim (cases_Bool (maker_of e == k)) [
      | inl y ↦ subst (λ (l : List Made). All P (noted_in l)) (sym (filter-yes (λ (x : Made). maker_of x == k) e es y)) (All-cons P e.noted (noted_in (entries_by maker_of k es)) (All-head P e.noted (noted_in es) all) rest)
      | inr n ↦ subst (λ (l : List Made). All P (noted_in l)) (sym (filter-no (λ (x : Made). maker_of x == k) e es n)) rest
    ]

-- what holds of each entry, holds of those that pass, with that they do
both : (P Q R : Stamped → Type 0) (xs : List Stamped) → ((x : Stamped) → P x → Q x → R x) → All P xs → All Q xs → All R xs
both P Q R [] f ps qs = All-nil R
both P Q R (x ∷ xs) f ps qs = All-cons R x xs (f x (All-head P x xs ps) (All-head Q x xs qs)) (both P Q R xs f (All-tail P x xs ps) (All-tail Q x xs qs))

abbrev StandsIn : Setup → ℕ → (Home → List Made) → Stamped → Type 0
StandsIn setup clients kept x = Contains (noted_in (kept (home_of setup clients x.event))) x

pub crew_stands : (setup : Setup) (clients workers : ℕ) (kept : Home → List Made) (noted : ℕ → List Stamped) → IsCrew setup clients workers kept noted → (worker : ℕ) → worker < workers → StandAt setup clients (λ home. noted_in (kept home)) (noted worker)
crew_stands setup clients workers kept noted crew worker one x among =
    All-contains (StandsIn setup clients kept) (noted worker) x (All-homes setup clients (StandsIn setup clients kept) (noted worker) here) among
  where
    here : (home : Home) → All (StandsIn setup clients kept) (filter (stands_at setup clients home) (noted worker))
    here home =
        let at : Stamped → Bool = stands_at setup clients home in
        let entries = noted_in (kept home) in
        both (Contains entries) (λ y. at y ≡ true) (StandsIn setup clients kept) (filter at (noted worker))
        (λ y in_home passes. subst (λ (h : Home). Contains (noted_in (kept h)) y) (sym (same_home-is (home_of setup clients y.event) home passes)) in_home)
        (subst (All (Contains entries)) (crew.theirs worker one home) (part_of (Contains entries) worker (kept home) (All-contains_itself entries))) (passing at (noted worker))
