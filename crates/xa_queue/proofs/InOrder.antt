-- The chosen entry is the one that the machine's order of takes names.
use Rattle.std.proofs.Common.{◌≡◌, ℕ, ◌<◌, ◌≤◌, ◌%◌, ◌==◌, Bool, true, false, cond, List, [], ◌∷◌, ◌++◌, map, Some, refl, ◌∙◌, ap, arith}
use Rattle.std.specs.Prelude.{nat_le, slice_get, if◌then◌else◌}
use Rattle.std.specs.List.{All, find, list_all}
use Rattle.std.proofs.lemmas.Bool.{and_from, and_left, and_right, le-leb, lt-leb}
use Rattle.std.proofs.lemmas.List.{map-append}
use Rattle.std.proofs.lemmas.List.Elements.{All-nil, All-cons, All-head, All-tail, All-append}
use Rattle.xa_types.specs.declared.ids.RequestId.{RequestId}
use Rattle.xa_events.specs.Order.{first_of_highest, next_of}
use Rattle.xa_queue.specs.declared.entry.Entry.{Entry}
use Rattle.xa_queue.specs.Line.{IsFirstOfHighest, IsChosen, IsNext}

all_pass : {X : Type 0} (p : X → Bool) (xs : List X) → All (λ x. p x ≡ true) xs → list_all p xs ≡ true
all_pass p [] all = refl
all_pass p (x ∷ xs) all = and_from (p x) (list_all p xs) (All-head (λ y. p y ≡ true) x xs all) (all_pass p xs (All-tail (λ y. p y ≡ true) x xs all))

one_fails : {X : Type 0} (p : X → Bool) (xs : List X) (y : X) (ys : List X) → p y ≡ false → list_all p (xs ++ y ∷ ys) ≡ false
one_fails p [] y ys fails = and_left (p y) (list_all p ys) fails
one_fails p (x ∷ xs) y ys fails = and_right (p x) (list_all p (xs ++ y ∷ ys)) (one_fails p xs y ys fails)

find-first : {X : Type 0} (p : X → Bool) (xs : List X) (y : X) (ys : List X) → All (λ x. p x ≡ false) xs → p y ≡ true → find p (xs ++ y ∷ ys) ≡ Some y
find-first p [] y ys none so = ap (λ b. cond b (Some y) (find p ys)) so
find-first p (x ∷ xs) y ys none so =
    ap (λ b. cond b (Some x) (find p (xs ++ y ∷ ys))) (All-head (λ z. p z ≡ false) x xs none) ∙ find-first p xs y ys (All-tail (λ z. p z ≡ false) x xs none) so

module _ {C : Type 0} where
  abbrev request_of : Entry C → RequestId
  request_of entry = entry.request

  front_of : (P : Entry C → Type 0) (front : List (Entry C)) (entry : Entry C) (back : List (Entry C)) → All P (front ++ entry ∷ back) → All P front × (P entry × All P back)
  front_of P [] entry back all = (All-nil P, (All-head P entry back all, All-tail P entry back all))
  front_of P (x ∷ front) entry back all =
      let rest = front_of P front entry back (All-tail P x (front ++ entry ∷ back) all) in
      (All-cons P x front (All-head P x (front ++ entry ∷ back) all) rest.0, rest.1)

  -- a fact of each, by one of its priority and another of how that compares
  by_priority : (priority : RequestId → ℕ) (P : ℕ → Type 0) (Q : RequestId → Type 0) → ((x : Entry C) → priority x.request ≡ x.priority → P x.priority → Q x.request) → (xs : List (Entry C)) → All (λ x. priority x.request ≡ x.priority) xs → All (λ x. P x.priority) xs → All Q (map request_of xs)
  by_priority priority P Q shows [] is holds = All-nil Q
  by_priority priority P Q shows (x ∷ xs) is holds =
      let I : Entry C → Type 0 = λ y. priority y.request ≡ y.priority in
      let H : Entry C → Type 0 = λ y. P y.priority in
      All-cons Q x.request (map request_of xs) (shows x (All-head I x xs is) (All-head H x xs holds)) (by_priority priority P Q shows xs (All-tail I x xs is) (All-tail H x xs holds))

  highest-found : (priority : RequestId → ℕ) (front back : List (Entry C)) (entry : Entry C) → All (λ x. priority x.request ≡ x.priority) (front ++ entry ∷ back) → IsFirstOfHighest front entry back
      → first_of_highest priority (map request_of front ++ entry.request ∷ map request_of back) ≡ Some entry.request
  highest-found priority front back entry is highest =
      let parts = front_of (λ x. priority x.request ≡ x.priority) front entry back is in
      let xs = map request_of front in
      let ys = map request_of back in
      let all = xs ++ entry.request ∷ ys in
      let own = parts.1.0 in
      let top : RequestId → Type 0 = λ r. nat_le (priority r) (priority entry.request) ≡ true in
      let before : All top xs = by_priority priority (λ n. n < entry.priority) top (λ x same less. le-leb (priority x.request) (priority entry.request) (omega (arith, same, less, own))) front parts.0 highest.before in
      let behind : All top ys = by_priority priority (λ n. n ≤ entry.priority) top (λ x same less. le-leb (priority x.request) (priority entry.request) (omega (arith, same, less, own))) back parts.1.1 highest.behind in
      let itself : top entry.request = le-leb (priority entry.request) (priority entry.request) (omega arith) in
      let loses : RequestId → Type 0 = λ r. list_all (λ other. nat_le (priority other) (priority r)) all ≡ false in
      let lose : All loses xs = by_priority priority (λ n. n < entry.priority) loses (λ x same less. one_fails (λ other. nat_le (priority other) (priority x.request)) xs entry.request ys (lt-leb (priority entry.request) (priority x.request) (omega (arith, same, less, own)))) front parts.0 highest.before in
      find-first (λ r. list_all (λ other. nat_le (priority other) (priority r)) all) xs entry.request ys lose
      (all_pass (λ other. nat_le (priority other) (priority entry.request)) all (All-append top xs (entry.request ∷ ys) before (All-cons top entry.request ys itself behind)))

  chosen-found : (priority : RequestId → ℕ) (oldest : Bool) (front back : List (Entry C)) (entry : Entry C) → All (λ x. priority x.request ≡ x.priority) (front ++ entry ∷ back) → IsChosen oldest front entry back
      → (if oldest then slice_get (map request_of (front ++ entry ∷ back)) 0 else first_of_highest priority (map request_of (front ++ entry ∷ back))) ≡ Some entry.request
  chosen-found priority true front back entry is chosen = ap (λ xs. slice_get (map request_of (xs ++ entry ∷ back)) 0) chosen
  chosen-found priority false front back entry is chosen = ap (first_of_highest priority) (map-append request_of front (entry ∷ back)) ∙ highest-found priority front back entry is chosen

-- as a law
pub next-chosen : {C : Type 0} (priority : RequestId → ℕ) (k : ℕ) (front back : List (Entry C)) (entry : Entry C) → All (λ x. priority x.request ≡ x.priority) (front ++ entry ∷ back) → IsNext k front entry back
    → next_of priority (map (λ x. x.request) (front ++ entry ∷ back)) k ≡ Some entry.request
next-chosen priority k front back entry is next = chosen-found priority (k % 10 == 0) front back entry is next
