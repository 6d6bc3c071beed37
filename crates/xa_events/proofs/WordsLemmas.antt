-- What the words that read a list of events say of one event more.
use Rattle.std.proofs.Common.{if◌then◌else◌, ◌≡◌, ℕ, ◌+◌, ◌≤◌, ◌==◌, ◌||◌, ◌&&◌, Bool, true, false, cond, not, List, [], ◌∷◌, Option, Some, None, inl, inr, ◌⊎◌, refl, sym, ◌∙◌, ap, subst, arith, eq-eqb, eqb-true}
use Rattle.std.specs.Prelude.{IsSomeAnd}
use Rattle.std.specs.List.{filter_map, list_any, cons_option}
use Rattle.std.proofs.Math.Bool.{or-false}
use Rattle.std.proofs.lemmas.Bool.{cases_Bool, cond_both, or_cases, or_left, and_parts, and_from}
use Rattle.std.proofs.lemmas.List.Folds.{list_any-append}
use Rattle.std.proofs.lemmas.Map.Views.{any-filter_same}
use Rattle.xa_types.specs.declared.ids.RequestId.{RequestId}
use Rattle.xa_events.specs.Words.{latest, count, IsEarlier, Was, greatest, same_request, added, without, has}

request_of : ℕ → ℕ → RequestId
request_of caller number = record { caller = record { 0 = caller }; number = number }

pub same_request_is : (a b : RequestId) → same_request a b ≡ true → a ≡ b
unfolding request_of
same_request_is a b h =
    let parts = and_parts (a.caller.0 == b.caller.0) (a.number == b.number) h in
    ap (λ x. request_of x a.number) (eqb-true a.caller.0 b.caller.0 parts.0) ∙ ap (request_of b.caller.0) (eqb-true a.number b.number parts.1)

pub same_request_of : (a b : RequestId) → a ≡ b → same_request a b ≡ true
same_request_of a b e =
    subst (λ x. same_request a x ≡ true) e (and_from (a.caller.0 == a.caller.0) (a.number == a.number) (eq-eqb a.caller.0 a.caller.0 refl) (eq-eqb a.number a.number refl))

pub if_some : {X : Type 0} (b : Bool) (o : Option X) (x : X) → (if b then o else None) ≡ Some x → (b ≡ true) × (o ≡ Some x)
if_some true o x h = (refl, h)
if_some false o x h = cc h

-- ---- one more for latest, count, list_any, filter_map and greatest

pub latest_yes : {X : Type 0} (p : X → Bool) (e : X) (past : List X) → p e ≡ true → latest p (e ∷ past) ≡ Some e
latest_yes p e past h = ap (λ b. cond b (Some e) (latest p past)) h

pub latest_no : {X : Type 0} (p : X → Bool) (e : X) (past : List X) → p e ≡ false → latest p (e ∷ past) ≡ latest p past
latest_no p e past h = ap (λ b. cond b (Some e) (latest p past)) h

pub count_yes : {X : Type 0} (p : X → Bool) (e : X) (past : List X) → p e ≡ true → count p (e ∷ past) ≡ count p past + 1
count_yes p e past h = ap (λ b. cond b (count p past + 1) (count p past)) h

pub count_no : {X : Type 0} (p : X → Bool) (e : X) (past : List X) → p e ≡ false → count p (e ∷ past) ≡ count p past
count_no p e past h = ap (λ b. cond b (count p past + 1) (count p past)) h

pub count_grows : {X : Type 0} (p : X → Bool) (e : X) (past : List X) → count p past ≤ count p (e ∷ past)
count_grows p e past = cond_both (p e) (count p past + 1) (count p past) (λ n. count p past ≤ n) (λ y. omega arith) (λ n. omega arith)

pub counts_earlier : {X : Type 0} (p : X → Bool) (moment now : List X) → IsEarlier moment now → count p moment ≤ count p now
counts_earlier p moment [] is = let same = ap (count p) is in omega (arith, same)
counts_earlier p moment (x ∷ now) (inl is) = let same = ap (count p) is in omega (arith, same)
counts_earlier p moment (x ∷ now) (inr older) = omega (arith, counts_earlier p moment now older, count_grows p x now)

pub list_any_yes : {X : Type 0} (p : X → Bool) (e : X) (past : List X) → p e ≡ true → list_any p (e ∷ past) ≡ true
list_any_yes p e past h = or_left (p e) (list_any p past) h

pub list_any_no : {X : Type 0} (p : X → Bool) (e : X) (past : List X) → p e ≡ false → list_any p (e ∷ past) ≡ list_any p past
list_any_no p e past h = ap (λ b. b || list_any p past) h

pub filter_map_yes : {X Y : Type 0} (f : X → Option Y) (e : X) (past : List X) (y : Y) → f e ≡ Some y → filter_map f (e ∷ past) ≡ y ∷ filter_map f past
filter_map_yes f e past y h = ap (λ o. cons_option o (filter_map f past)) h

pub filter_map_no : {X Y : Type 0} (f : X → Option Y) (e : X) (past : List X) → f e ≡ None → filter_map f (e ∷ past) ≡ filter_map f past
filter_map_no f e past h = ap (λ o. cons_option o (filter_map f past)) h

-- where f gives something of what passes p alone, and none passes
pub none_from : {X Y : Type 0} (f : X → Option Y) (p : X → Bool) → ((x : X) → p x ≡ false → f x ≡ None) → (past : List X) → count p past ≡ 0 → filter_map f past ≡ []
none_from f p unless [] h = refl
none_from f p unless (e ∷ past) h =
    elim (cases_Bool (p e)) [
      | inl y ↦ absurd (omega (arith, h, count_yes p e past y))
      | inr n ↦ filter_map_no f e past (unless e n) ∙ none_from f p unless past (sym (count_no p e past n) ∙ h)
    ]

-- and where one passes at most, what f gave of it is all
pub one_from : {X Y : Type 0} (f : X → Option Y) (p : X → Bool) (P : Y → Type 0) → ((x : X) → p x ≡ false → f x ≡ None) → (past : List X) → count p past ≤ 1
    → Was (λ e before. (p e ≡ true) × IsSomeAnd (f e) P) past → (y : Y) × (filter_map f past ≡ y ∷ []) × P y
one_from f p P unless [] most h = absurd h
one_from {X} {Y} f p P unless (e ∷ past) most (inl h) = here (f e) refl h.1
  where
    here : (o : Option Y) → f e ≡ o → IsSomeAnd o P → (y : Y) × (filter_map f (e ∷ past) ≡ y ∷ []) × P y
    here None is is_there = absurd is_there
    here (Some y) is is_there = (y, filter_map_yes f e past y is ∙ ap (λ ys. y ∷ ys) (none_from f p unless past (omega (arith, most, count_yes p e past h.0))), is_there)
one_from f p P unless (e ∷ past) most (inr h) =
    let old = one_from f p P unless past (omega (arith, most, count_grows p e past)) h in
    elim (cases_Bool (p e)) [
      | inl y ↦ let none = none_from f p unless past (omega (arith, most, count_yes p e past y)) in absurd (cc (none, old.1))
      | inr n ↦ (old.0, filter_map_no f e past (unless e n) ∙ old.1, old.2)
    ]

pub greatest_rises : (low high : ℕ) (ns : List ℕ) → low ≤ high → greatest low ns ≤ greatest high ns
greatest_rises low high [] h = h
greatest_rises low high (n ∷ rest) h = let k = greatest_rises low high rest h in omega (arith, k)

-- one more that is at most m
pub greatest_one_more : (f : List ℕ) (o : Option ℕ) (least m : ℕ) → ((n : ℕ) → o ≡ Some n → n ≤ m) → greatest least f ≤ m → greatest least (cons_option o f) ≤ m
greatest_one_more f None least m h k = k
greatest_one_more f (Some n) least m h k = let j = h n refl in omega (arith, j, k)

-- ---- requests that are kept

pub has_added : (r a : RequestId) (rs : List RequestId) → has r (added (Some a) rs) ≡ (has r rs || same_request r a)
has_added r a rs = list_any-append (same_request r) rs (a ∷ []) ∙ ap (λ b. has r rs || b) (or-false (same_request r a))

pub has_without : (r out : RequestId) (rs : List RequestId) → has r (without (Some out) rs) ≡ (not (same_request r out) && has r rs)
has_without r out rs =
    any-filter_same (same_request r) (λ q. not (same_request q out)) (not (same_request r out)) (λ q h. ap (λ x. not (same_request x out)) (sym (same_request_is r q h))) rs

-- what is there without another was there, and is another
pub without_before : (out : Option RequestId) (rs : List RequestId) (r : RequestId) → has r (without out rs) ≡ true → (has r rs ≡ true) × (out ≡ Some r → ⊥)
without_before None rs r h = (h, λ e. cc e)
without_before (Some out) rs r h =
    let p = and_parts (not (same_request r out)) (has r rs) (sym (has_without r out rs) ∙ h) in
    (p.1, λ e. let n = sym (ap not (same_request_of r out (cc e))) ∙ p.0 in cc n)

-- what is there after one step came in by it, or was there and didn't go out by it
pub kept_before : (new out : Option RequestId) (rs : List RequestId) (r : RequestId) → has r (added new (without out rs)) ≡ true → (new ≡ Some r) ⊎ ((has r rs ≡ true) × (out ≡ Some r → ⊥))
kept_before None out rs r h = inr (without_before out rs r h)
kept_before (Some a) out rs r h =
    elim (or_cases (has r (without out rs)) (same_request r a) (sym (has_added r a (without out rs)) ∙ h)) [
      | inl old ↦ inr (without_before out rs r old)
      | inr new ↦ inl (ap Some (sym (same_request_is r a new)))
    ]

-- ---- what holds of a value that is there

pub some_weaker : {X : Type 0} (P Q : X → Type 0) → ((x : X) → P x → Q x) → (o : Option X) → IsSomeAnd o P → IsSomeAnd o Q
some_weaker P Q weaker None h = absurd h
some_weaker P Q weaker (Some x) h = weaker x h
