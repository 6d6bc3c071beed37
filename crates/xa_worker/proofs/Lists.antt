-- Filters of lists, and the events of entries.
use Rattle.std.proofs.Common.{◌≡◌, ℕ, ◌+◌, ◌<◌, ◌==◌, append_assoc, Bool, true, false, cond, List, [], ◌∷◌, ◌++◌, map, reverse, inl, inr, refl, sym, ◌∙◌, ap, subst, eq-eqb, eqb-true}
use Rattle.std.specs.List.{All, filter}
use Rattle.std.proofs.lemmas.Bool.{cases_Bool}
use Rattle.std.proofs.lemmas.List.{append-nil, map-append, reverse-append}
use Rattle.std.proofs.lemmas.List.Elements.{All-nil, All-cons, All-head, All-tail, filter-append}
use Rattle.xa_types.specs.declared.setup.Setup.{Setup}
use Rattle.xa_events.specs.declared.event.Event.{Event}
use Rattle.xa_events.specs.Words.{IsEarlier, AtEach, count}
use Rattle.xa_events.specs.Homes.{Home, same_home, home_of}
use Rattle.xa_events.specs.Homes.Home.{BoardHome, QueueHome, ClockHome, CallerHome}
use Rattle.xa_events.proofs.Merge.{earlier_self, same_home-self}
use Rattle.xa_stamp.specs.declared.home.Stamped.{Stamped}
use Rattle.xa_lock.specs.declared.makers.Made.{Made}
use Rattle.xa_lock.specs.Pages.{entries_by}
use Rattle.xa_lock.specs.Makers.{maker_of, noted_in}
use Rattle.xa_worker.specs.Seen.{past_in}
use Rattle.xa_worker.specs.Crew.{stands_at}

-- ---- filters

pub filter-yes : {X : Type 0} (p : X → Bool) (x : X) (xs : List X) → p x ≡ true → filter p (x ∷ xs) ≡ x ∷ filter p xs
filter-yes p x xs y = ap (λ b. cond b (x ∷ filter p xs) (filter p xs)) y

pub filter-no : {X : Type 0} (p : X → Bool) (x : X) (xs : List X) → p x ≡ false → filter p (x ∷ xs) ≡ filter p xs
filter-no p x xs n = ap (λ b. cond b (x ∷ filter p xs) (filter p xs)) n

cond-map : {X Y : Type 0} (f : X → Y) (x : X) (xs : List X) (ys : List Y) (b : Bool) → ys ≡ map f xs → cond b (f x ∷ ys) ys ≡ map f (cond b (x ∷ xs) xs)
cond-map f x xs ys true e = ap (λ zs. f x ∷ zs) e
cond-map f x xs ys false e = e

pub filter-map : {X Y : Type 0} (p : Y → Bool) (f : X → Y) (xs : List X) → filter p (map f xs) ≡ map f (filter (λ x. p (f x)) xs)
filter-map p f [] = refl
filter-map p f (x ∷ xs) = cond-map f x (filter (λ x. p (f x)) xs) (filter p (map f xs)) (p (f x)) (filter-map p f xs)

filter-one : {X : Type 0} (x : X) (xs : List X) (b : Bool) → reverse xs ++ cond b (x ∷ []) [] ≡ reverse (cond b (x ∷ xs) xs)
filter-one x xs true = sym (reverse-append (x ∷ []) xs)
filter-one x xs false = append-nil (reverse xs)

pub filter-reverse : {X : Type 0} (p : X → Bool) (xs : List X) → filter p (reverse xs) ≡ reverse (filter p xs)
filter-reverse p [] = refl
filter-reverse p (x ∷ xs) =
    ap (filter p) (reverse-append (x ∷ []) xs)
    ∙ (filter-append p (reverse xs) (x ∷ [])
    ∙ (ap (λ ys. ys ++ filter p (x ∷ [])) (filter-reverse p xs)
    ∙ filter-one x (filter p xs) (p x)))

filter-cond : {X : Type 0} (p : X → Bool) (x : X) (xs : List X) (b : Bool) → filter p (cond b (x ∷ xs) xs) ≡ cond b (cond (p x) (x ∷ filter p xs) (filter p xs)) (filter p xs)
filter-cond p x xs true = refl
filter-cond p x xs false = refl

swap : {X : Type 0} (x : X) (xs ys : List X) (a b : Bool) → xs ≡ ys → cond a (cond b (x ∷ xs) xs) xs ≡ cond b (cond a (x ∷ ys) ys) ys
swap x xs ys true true e = ap (λ zs. x ∷ zs) e
swap x xs ys true false e = e
swap x xs ys false true e = e
swap x xs ys false false e = e

-- the order of two filters doesn't matter
pub filter-filter : {X : Type 0} (p q : X → Bool) (xs : List X) → filter p (filter q xs) ≡ filter q (filter p xs)
filter-filter p q [] = refl
filter-filter p q (x ∷ xs) =
    filter-cond p x (filter q xs) (q x) ∙ (swap x (filter p (filter q xs)) (filter q (filter p xs)) (q x) (p x) (filter-filter p q xs) ∙ sym (filter-cond q x (filter p xs) (p x)))

inside : {X : Type 0} (p : X → Bool) (x : X) (xs : List X) (b : Bool) → (p x ≡ true → b ≡ true) → filter p (cond b (x ∷ xs) xs) ≡ cond (p x) (x ∷ filter p xs) (filter p xs)
inside p x xs true h = refl
inside p x xs false h =
    elim (cases_Bool (p x)) [
      | inl y ↦ let e = h y in absurd (cc e)
      | inr n ↦ sym (filter-no p x xs n)
    ]

-- a test that passes no more than another
pub filter-inside : {X : Type 0} (p q : X → Bool) (xs : List X) → All (λ x. p x ≡ true → q x ≡ true) xs → filter p (filter q xs) ≡ filter p xs
filter-inside p q [] h = refl
filter-inside p q (x ∷ xs) h =
    inside p x (filter q xs) (q x) (All-head (λ x. p x ≡ true → q x ≡ true) x xs h)
    ∙ ap (λ ys. cond (p x) (x ∷ ys) ys) (filter-inside p q xs (All-tail (λ x. p x ≡ true → q x ≡ true) x xs h))

pub filter-none : {X : Type 0} (p : X → Bool) (xs : List X) → All (λ x. p x ≡ false) xs → filter p xs ≡ []
filter-none p [] h = refl
filter-none p (x ∷ xs) h = filter-no p x xs (All-head (λ x. p x ≡ false) x xs h) ∙ filter-none p xs (All-tail (λ x. p x ≡ false) x xs h)

All-cond : {X Y : Type 0} (P : Y → Type 0) (f : X → Y) (x : X) (xs : List X) (b : Bool) → All P (map f (cond b (x ∷ xs) xs)) → All P (map f xs)
All-cond P f x xs true h = All-tail P (f x) (map f xs) h
All-cond P f x xs false h = h

All-rest : {X : Type 0} (P : X → Type 0) (x : X) (xs : List X) (b : Bool) → All P (cond b (x ∷ xs) xs) → All P xs
All-rest P x xs true h = All-tail P x xs h
All-rest P x xs false h = h

-- ---- homes

pub same_home-is : (a b : Home) → same_home a b ≡ true → a ≡ b
same_home-is BoardHome BoardHome h = refl
same_home-is (QueueHome a) (QueueHome b) h = ap QueueHome (eqb-true a b h)
same_home-is ClockHome ClockHome h = refl
same_home-is (CallerHome a) (CallerHome b) h = ap CallerHome (eqb-true a b h)
same_home-is _ _ h = cc h

pub same_home-no : (a b : Home) → same_home a b ≡ false → same_home b a ≡ false
same_home-no a b n =
    elim (cases_Bool (same_home b a)) [
      | inl y ↦ let self : same_home a b ≡ true = subst (λ (h : Home). same_home h b ≡ true) (same_home-is b a y) (same_home-self b) in cc (n, self)
      | inr m ↦ m
    ]

pub same_home-sym : (a b : Home) → same_home a b ≡ same_home b a
same_home-sym a b =
    elim (cases_Bool (same_home a b)) [
      | inl y ↦ ap (λ h. same_home h b) (same_home-is a b y) ∙ ap (same_home b) (sym (same_home-is a b y))
      | inr n ↦ n ∙ sym (same_home-no a b n)
    ]

-- ---- what holds of each entry

-- what holds of the entries at each home holds of all
pub All-homes : (setup : Setup) (clients : ℕ) (P : Stamped → Type 0) (xs : List Stamped) → ((home : Home) → All P (filter (stands_at setup clients home) xs)) → All P xs
All-homes setup clients P [] each = All-nil P
All-homes setup clients P (x ∷ xs) each =
    let home = home_of setup clients x.event in
    let here : All P (x ∷ filter (stands_at setup clients home) xs) = subst (All P) (filter-yes (stands_at setup clients home) x xs (same_home-self home)) (each home) in
    All-cons P x xs (All-head P x _ here) (All-homes setup clients P xs (λ home. All-rest P x (filter (stands_at setup clients home) xs) (stands_at setup clients home x) (each home)))

-- what holds of each maker's entries holds of all
pub All-makers : (workers : ℕ) (Q : ℕ → Stamped → Type 0) (entries : List Made) → ((worker : ℕ) → worker < workers → All (Q worker) (noted_in (entries_by maker_of worker entries)))
    → All (λ entry. maker_of entry < workers) entries → All (λ (entry : Made). Q (maker_of entry) entry.noted) entries
All-makers workers Q [] each made = All-nil (λ (entry : Made). Q (maker_of entry) entry.noted)
All-makers workers Q (e ∷ entries) each made =
    let own = All-head (λ entry. maker_of entry < workers) e entries made in
    let here : All (Q (maker_of e)) (noted_in (e ∷ entries_by maker_of (maker_of e) entries)) =
    subst (λ (es : List Made). All (Q (maker_of e)) (noted_in es)) (filter-yes (λ x. maker_of x == maker_of e) e entries (eq-eqb (maker_of e) (maker_of e) refl)) (each (maker_of e) own) in
    All-cons (λ (entry : Made). Q (maker_of entry) entry.noted) e entries (All-head (Q (maker_of e)) e.noted _ here)
    (All-makers workers Q entries (λ worker low. All-cond (Q worker) (λ (entry : Made). entry.noted) e (entries_by maker_of worker entries) (maker_of e == worker) (each worker low)) (All-tail (λ entry. maker_of entry < workers) e entries made))

-- ---- the events of entries

pub past_in-append : (xs ys : List Stamped) → past_in (xs ++ ys) ≡ past_in ys ++ past_in xs
past_in-append xs ys = ap reverse (map-append (λ (x : Stamped). x.event) xs ys) ∙ reverse-append (map (λ (x : Stamped). x.event) xs) (map (λ (x : Stamped). x.event) ys)

pub past_in-filter : (p : Event → Bool) (xs : List Stamped) → filter p (past_in xs) ≡ past_in (filter (λ x. p x.event) xs)
past_in-filter p xs = filter-reverse p (map (λ (x : Stamped). x.event) xs) ∙ ap reverse (filter-map p (λ (x : Stamped). x.event) xs)

pub earlier_behind : {X : Type 0} (newer past : List X) → IsEarlier past (newer ++ past)
earlier_behind [] past = earlier_self past
earlier_behind (e ∷ newer) past = inr (earlier_behind newer past)

-- ---- lists cut at an entry

pub AtEach-later : {X : Type 0} (P : X → List X → Type 0) (newer past : List X) → AtEach P (newer ++ past) → AtEach P past
AtEach-later P [] past h = h
AtEach-later P (e ∷ newer) past h = AtEach-later P newer past h.1

pub map-reverse : {X Y : Type 0} (f : X → Y) (xs : List X) → map f (reverse xs) ≡ reverse (map f xs)
map-reverse f [] = refl
map-reverse f (x ∷ xs) = ap (map f) (reverse-append (x ∷ []) xs) ∙ (map-append f (reverse xs) (x ∷ []) ∙ (ap (λ ys. ys ++ f x ∷ []) (map-reverse f xs) ∙ sym (reverse-append (f x ∷ []) (map f xs))))

-- what holds of each with the older ones, of one at its place
pub AtEach-cut : {X : Type 0} (P : X → List X → Type 0) (xs front back : List X) (x : X) → AtEach P (reverse xs) → xs ≡ front ++ x ∷ back → P x (reverse front)
AtEach-cut P xs front back x each is =
    let whole : reverse xs ≡ reverse back ++ (x ∷ reverse front) = ap reverse (is ∙ sym (append_assoc front (x ∷ []) back)) ∙ (reverse-append (front ++ x ∷ []) back ∙ ap (λ ys. reverse back ++ ys) (reverse-append front (x ∷ []))) in
    (AtEach-later P (reverse back) (x ∷ reverse front) (subst (AtEach P) whole each)).0

-- how many pass both tests, where one asks no more than the other
pub count_part : {X : Type 0} (p q : X → Bool) → ((x : X) → p x ≡ true → q x ≡ true) → (xs : List X) → count p (filter q xs) ≡ count p xs
count_part p q more [] = refl
count_part p q more (x ∷ xs) =
    elim (cases_Bool (q x)) [
      | inl y ↦ ap (count p) (filter-yes q x xs y) ∙ ap (λ n. cond (p x) (n + 1) n) (count_part p q more xs)
      | inr n ↦
          let none : p x ≡ false = elim (cases_Bool (p x)) [ inl y ↦ let k = more x y in absurd (cc (k, n)) | inr m ↦ m ] in
          ap (count p) (filter-no q x xs n) ∙ (count_part p q more xs ∙ sym (ap (λ b. cond b (count p xs + 1) (count p xs)) none))
    ]

-- an earlier moment of a part is the part of an earlier moment of the whole
pub earlier_whole : {X : Type 0} (q : X → Bool) (seen past : List X) → IsEarlier seen (filter q past) → (whole : List X) × IsEarlier whole past × (filter q whole ≡ seen)
earlier_whole q seen [] is = ([], refl, sym is)
earlier_whole q seen (e ∷ past) is =
    elim (cases_Bool (q e)) [
      | inl y ↦
          let there : IsEarlier seen (e ∷ filter q past) = subst (IsEarlier seen) (filter-yes q e past y) is in
          elim there [
            | inl now ↦ (e ∷ past, inl refl, filter-yes q e past y ∙ sym now)
            | inr older ↦ let w = earlier_whole q seen past older in (w.0, inr w.1, w.2)
          ]
      | inr n ↦ let w = earlier_whole q seen past (subst (IsEarlier seen) (filter-no q e past n) is) in (w.0, inr w.1, w.2)
    ]
