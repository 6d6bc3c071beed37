-- Requests that wait, each once: one more, and one less.
use Rattle.std.proofs.Common.{◌≡◌, ℕ, ◌==◌, ◌&&◌, ◌||◌, not, Bool, true, false, cond, List, [], ◌∷◌, ◌++◌, map, reverse, inl, inr, refl, sym, ◌∙◌, ap, eq-eqb, eqb-true}
use Rattle.std.specs.List.{All, filter, list_any, IsDistinct}
use Rattle.std.proofs.Math.Bool.{or-false}
use Rattle.std.proofs.lemmas.Bool.{cases_Bool, or_parts, or_left, or_right, not_from_false}
use Rattle.std.proofs.lemmas.List.{reverse-append}
use Rattle.std.proofs.lemmas.List.Folds.{list_any-append}
use Rattle.std.proofs.lemmas.List.Elements.{All-nil, All-cons, All-head, All-tail, All-from_recursion, recursion_from_All}
use Rattle.std.proofs.lemmas.Map.Keys.{IsDistinct-head, IsDistinct-tail, IsDistinct-cons}
use Rattle.xa_types.specs.declared.ids.RequestId.{RequestId}
use Rattle.xa_events.specs.Words.{same_request}
use Rattle.xa_events.proofs.WordsLemmas.{same_request_of}
use Rattle.xa_queue.proofs.Keeping.{All-without}

pub eqb-flips : (a b : ℕ) → (a == b) ≡ (b == a)
eqb-flips a b =
    elim (cases_Bool (a == b)) [
      | inl so ↦ so ∙ sym (eq-eqb b a (sym (eqb-true a b so)))
      | inr not_so ↦ elim (cases_Bool (b == a)) [
        | inl so ↦ eq-eqb a b (sym (eqb-true b a so)) ∙ sym so
        | inr other ↦ not_so ∙ sym other
      ]
    ]

pub same_request-flips : (a b : RequestId) → same_request a b ≡ same_request b a
same_request-flips a b = ap (λ x. x && (a.number == b.number)) (eqb-flips a.caller.0 b.caller.0) ∙ ap (λ x. (b.caller.0 == a.caller.0) && x) (eqb-flips a.number b.number)

pub none_of : {X : Type 0} (p : X → Bool) (xs : List X) → list_any p xs ≡ false → All (λ x. p x ≡ false) xs
none_of p [] none = All-nil (λ x. p x ≡ false)
none_of p (x ∷ xs) none = let parts = or_parts (p x) (list_any p xs) none in All-cons (λ y. p y ≡ false) x xs parts.0 (none_of p xs parts.1)

pub any_at : {X : Type 0} (p : X → Bool) (xs : List X) (x : X) (ys : List X) → p x ≡ true → list_any p (xs ++ x ∷ ys) ≡ true
any_at p [] x ys so = or_left (p x) (list_any p ys) so
any_at p (y ∷ xs) x ys so = or_right (p y) (list_any p (xs ++ x ∷ ys)) (any_at p xs x ys so)

pub list_any-reverse : {X : Type 0} (p : X → Bool) (xs : List X) → list_any p (reverse xs) ≡ list_any p xs
list_any-reverse p [] = refl
list_any-reverse p (x ∷ xs) =
    ap (list_any p) (reverse-append (x ∷ []) xs) ∙ list_any-append p (reverse xs) (x ∷ []) ∙ ap (λ b. b || (p x || false)) (list_any-reverse p xs) ∙ ap (λ b. list_any p xs || b) (or-false (p x)) ∙ or-flips (list_any p xs) (p x)
  where
    or-flips : (a b : Bool) → (a || b) ≡ (b || a)
    or-flips true true = refl
    or-flips true false = refl
    or-flips false true = refl
    or-flips false false = refl

pub list_any-map : {X Y : Type 0} (p : Y → Bool) (f : X → Y) (xs : List X) → list_any p (map f xs) ≡ list_any (λ x. p (f x)) xs
list_any-map p f [] = refl
list_any-map p f (x ∷ xs) = ap (λ b. p (f x) || b) (list_any-map p f xs)

-- a server or a request that isn't there yet is apart from the others
pub IsDistinct-one_more : {X : Type 0} (same : X → X → Bool) → ((a b : X) → same a b ≡ same b a) → (xs : List X) (x : X) → IsDistinct same xs → list_any (same x) xs ≡ false → IsDistinct same (xs ++ x ∷ [])
IsDistinct-one_more same flips [] x distinct none = IsDistinct-cons same x [] tt distinct
IsDistinct-one_more same flips (y ∷ xs) x distinct none =
    let parts = or_parts (same x y) (list_any (same x) xs) none in
    IsDistinct-cons same y (xs ++ x ∷ [])
    (recursion_from_All (λ z. same y z ≡ false) (xs ++ x ∷ []) (push (λ z. same y z ≡ false) xs x (All-from_recursion (λ z. same y z ≡ false) xs (IsDistinct-head same y xs distinct)) (flips y x ∙ parts.0)))
    (IsDistinct-one_more same flips xs x (IsDistinct-tail same y xs distinct) parts.1)
  where
    push : {X : Type 0} (P : X → Type 0) (xs : List X) (x : X) → All P xs → P x → All P (xs ++ x ∷ [])
    push P [] x all one = All-cons P x [] one all
    push P (y ∷ xs) x all one = All-cons P y (xs ++ x ∷ []) (All-head P y xs all) (push P xs x (All-tail P y xs all) one)

pub IsDistinct-without : {X : Type 0} (same : X → X → Bool) (front : List X) (x : X) (back : List X) → IsDistinct same (front ++ x ∷ back) → IsDistinct same (front ++ back)
IsDistinct-without same [] x back distinct = IsDistinct-tail same x back distinct
IsDistinct-without same (y ∷ front) x back distinct =
    IsDistinct-cons same y (front ++ back)
    (recursion_from_All (λ z. same y z ≡ false) (front ++ back) (All-without (λ z. same y z ≡ false) front x back (All-from_recursion (λ z. same y z ≡ false) (front ++ x ∷ back) (IsDistinct-head same y (front ++ x ∷ back) distinct))))
    (IsDistinct-without same front x back (IsDistinct-tail same y (front ++ x ∷ back) distinct))

All-at : {X : Type 0} (P : X → Type 0) (front : List X) (x : X) (back : List X) → All P (front ++ x ∷ back) → P x
All-at P [] x back all = All-head P x back all
All-at P (y ∷ front) x back all = All-at P front x back (All-tail P y (front ++ x ∷ back) all)

keep_all : {X : Type 0} (p : X → Bool) (xs : List X) → All (λ x. p x ≡ true) xs → filter p xs ≡ xs
keep_all p [] all = refl
keep_all p (x ∷ xs) all = ap (λ b. cond b (x ∷ filter p xs) (filter p xs)) (All-head (λ y. p y ≡ true) x xs all) ∙ ap (λ l. x ∷ l) (keep_all p xs (All-tail (λ y. p y ≡ true) x xs all))

-- a request that waits once goes, and the others stay
pub without-one : (front : List RequestId) (out : RequestId) (back : List RequestId) → IsDistinct same_request (front ++ out ∷ back) → filter (λ request. not (same_request request out)) (front ++ out ∷ back) ≡ front ++ back
without-one [] out back distinct =
    let p : RequestId → Bool = λ request. not (same_request request out) in
    let apart = All-from_recursion (λ z. same_request out z ≡ false) back (IsDistinct-head same_request out back distinct) in
    ap (λ b. cond b (out ∷ filter p back) (filter p back)) (ap not (same_request_of out out refl))
    ∙ keep_all p back (λ k d within. let other = apart k d within in not_from_false _ (same_request-flips _ out ∙ other))
without-one (x ∷ front) out back distinct =
    let p : RequestId → Bool = λ request. not (same_request request out) in
    let apart = All-from_recursion (λ z. same_request x z ≡ false) (front ++ out ∷ back) (IsDistinct-head same_request x (front ++ out ∷ back) distinct) in
    let other = All-at (λ z. same_request x z ≡ false) front out back apart in
    ap (λ b. cond b (x ∷ filter p (front ++ out ∷ back)) (filter p (front ++ out ∷ back))) (not_from_false (same_request x out) other)
    ∙ ap (λ l. x ∷ l) (without-one front out back (IsDistinct-tail same_request x (front ++ out ∷ back) distinct))
