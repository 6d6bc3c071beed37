-- How many events of its maker a page of a queue knows.
use Rattle.std.proofs.Common.{◌≡◌, ◌≢◌, ℕ, ◌+◌, ◌==◌, Bool, true, false, cond, List, [], ◌∷◌, ◌++◌, inl, inr, refl, sym, ◌∙◌, ap, arith, eq-eqb}
use Rattle.std.specs.List.{All, filter}
use Rattle.std.proofs.lemmas.Bool.{cases_Bool}
use Rattle.std.proofs.lemmas.List.Elements.{All-head, All-tail}
use Rattle.xa_types.specs.declared.setup.Setup.{Setup}
use Rattle.xa_events.specs.declared.event.Event.{Event}
use Rattle.xa_events.specs.Homes.{at_home}
use Rattle.xa_events.specs.Homes.Home.{QueueHome}
use Rattle.xa_events.specs.Words.{count}
use Rattle.xa_stamp.specs.declared.home.Stamped.{Stamped}
use Rattle.xa_lock.specs.declared.makers.Made.{Made}
use Rattle.xa_lock.specs.declared.pass.Page.{Page}
use Rattle.xa_lock.specs.Makers.{maker_of as made_maker, noted_in}
use Rattle.xa_lock.specs.Pages.{Knows, entries_by}
use Rattle.xa_worker.specs.Crew.{stands_at}
use Rattle.xa_worker.specs.Seen.{past_in}
use Rattle.xa_worker.proofs.Lists.{filter-yes, filter-no, past_in-append, past_in-filter, count_part}

pub count_append : {X : Type 0} (p : X → Bool) (xs ys : List X) → count p (xs ++ ys) ≡ count p xs + count p ys
count_append p [] ys = omega arith
count_append p (x ∷ xs) ys = elim (cases_Bool (p x)) [
  | inl y ↦ let rest = count_append p xs ys in ap (λ b. cond b (count p (xs ++ ys) + 1) (count p (xs ++ ys))) y ∙ (let here : count p (x ∷ xs) ≡ count p xs + 1 = ap (λ b. cond b (count p xs + 1) (count p xs)) y in omega (arith, rest, here))
  | inr n ↦ let rest = count_append p xs ys in ap (λ b. cond b (count p (xs ++ ys) + 1) (count p (xs ++ ys))) n ∙ (let here : count p (x ∷ xs) ≡ count p xs = ap (λ b. cond b (count p xs + 1) (count p xs)) n in omega (arith, rest, here))
]

-- one entry more
count_one : (p : Event → Bool) (x : Stamped) (xs : List Stamped) → count p (past_in (x ∷ xs)) ≡ count p (past_in xs) + count p (x.event ∷ [])
count_one p x xs = ap (count p) (past_in-append (x ∷ []) xs) ∙ count_append p (past_in xs) (x.event ∷ [])

-- those of other makers aren't counted
count_by : (p : Event → Bool) (maker : ℕ) (entries : List Made) → All (λ (e : Made). made_maker e ≢ maker → p e.noted.event ≡ false) entries → count p (past_in (noted_in entries)) ≡ count p (past_in (noted_in (entries_by made_maker maker entries)))
count_by p maker [] others = refl
count_by p maker (e ∷ entries) others =
    let test : Made → Bool = λ e. made_maker e == maker in
    let rest = count_by p maker entries (All-tail (λ (e : Made). made_maker e ≢ maker → p e.noted.event ≡ false) e entries others) in
    elim (cases_Bool (test e)) [
      | inl y ↦ count_one p e.noted (noted_in entries) ∙ ap (λ n. n + count p (e.noted.event ∷ [])) rest ∙ sym (count_one p e.noted (noted_in (entries_by made_maker maker entries))) ∙ ap (λ l. count p (past_in (noted_in l))) (sym (filter-yes test e entries y))
      | inr n ↦
          let here : p e.noted.event ≡ false = All-head (λ (e : Made). made_maker e ≢ maker → p e.noted.event ≡ false) e entries others (λ same. absurd (cc (n, eqb-self (made_maker e) maker same))) in
          count_one p e.noted (noted_in entries) ∙ (let none : count p (e.noted.event ∷ []) ≡ 0 = ap (λ b. cond b 1 0) here in omega (arith, none)) ∙ rest ∙ ap (λ l. count p (past_in (noted_in l))) (sym (filter-no test e entries n))
    ]
  where
    eqb-self : (a b : ℕ) → a ≡ b → (a == b) ≡ true
    eqb-self a b same = eq-eqb a b same

-- the events at a queue, among all that a worker noted
count_there : (setup : Setup) (clients queue : ℕ) (test : Event → Bool) → ((e : Event) → test e ≡ true → at_home setup clients (QueueHome queue) e ≡ true) → (own : List Stamped) → count test (past_in (filter (stands_at setup clients (QueueHome queue)) own)) ≡ count test (past_in own)
count_there setup clients queue test there own =
    let here : Event → Bool = at_home setup clients (QueueHome queue) in
    ap (count test) (sym (past_in-filter here own)) ∙ count_part test here there (past_in own)

-- a page whose maker noted so much there knows as many of its events as stand there, where no other noted such
pub own_counted : (setup : Setup) (clients worker queue : ℕ) (test : Event → Bool) → ((e : Event) → test e ≡ true → at_home setup clients (QueueHome queue) e ≡ true) → (p : Page Made) (entries : List Made) (noted : List Stamped) → p.maker ≡ worker → Knows made_maker p entries → noted_in p.own ≡ filter (stands_at setup clients (QueueHome queue)) noted
    → All (λ (e : Made). made_maker e ≢ worker → test e.noted.event ≡ false) entries → count test (past_in (noted_in entries)) ≡ count test (past_in noted)
own_counted setup clients worker queue test there p entries noted maker knows own others =
    count_by test worker entries others ∙ ap (λ n. count test (past_in (noted_in (entries_by made_maker n entries)))) (sym maker) ∙ ap (λ l. count test (past_in (noted_in l))) knows.0 ∙ ap (λ l. count test (past_in l)) own ∙ count_there setup clients queue test there noted
