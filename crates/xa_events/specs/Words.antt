-- Words that read a list of events, the newest first (this project's own). The readings of the machine are made of these and the kit's.
use Rattle.std.specs.Prelude.{◌≡◌, ◌⊎◌, ℕ, ◌+◌, ◌==◌, ◌&&◌, max, not, Bool, cond, List, [], ◌∷◌, ◌++◌, Option, Some, None}
use Rattle.std.specs.List.{find, filter, list_any}
use Rattle.xa_types.specs.declared.ids.RequestId.{RequestId}

-- the first that passes, which is the newest
abbrev pub latest : {X : Type 0} → (X → Bool) → List X → Option X
latest p past = find p past

-- how many pass
abbrev pub count : {X : Type 0} → (X → Bool) → List X → ℕ
count p [] = 0
count p (e ∷ past) = cond (p e) (count p past + 1) (count p past)

-- the greatest of the numbers and of `least`
abbrev pub greatest : ℕ → List ℕ → ℕ
greatest least [] = least
greatest least (n ∷ rest) = max n (greatest least rest)

abbrev pub same_request : RequestId → RequestId → Bool
same_request a b = (a.caller.0 == b.caller.0) && (a.number == b.number)

-- the list with one more at its end, where there is one
abbrev pub added : Option RequestId → List RequestId → List RequestId
added None requests = requests
added (Some request) requests = requests ++ request ∷ []

-- the list without that one, where there is one
abbrev pub without : Option RequestId → List RequestId → List RequestId
without None requests = requests
without (Some out) requests = filter (λ request. not (same_request request out)) requests

-- the request is among these
abbrev pub has : RequestId → List RequestId → Bool
has request requests = list_any (same_request request) requests

-- the requests that went in and didn't come out since, the oldest first
abbrev pub kept : {X : Type 0} → (X → Option RequestId) → (X → Option RequestId) → List X → List RequestId
kept enters leaves [] = []
kept enters leaves (e ∷ past) = added (enters e) (without (leaves e) (kept enters leaves past))

-- what each gives, the oldest first; an event is handed over with those before it
abbrev pub from_each : {X Y : Type 0} → (X → List X → List Y) → List X → List Y
from_each gives [] = []
from_each gives (e ∷ past) = from_each gives past ++ gives e past

-- P holds of each with its number; the first has number n
abbrev pub EachNumbered : {X : Type 0} → (ℕ → X → Type 0) → ℕ → List X → Type 0
EachNumbered P n [] = Unit {0}
EachNumbered P n (x ∷ xs) = P n x × EachNumbered P (n + 1) xs

-- P holds of each with those before it; the newest stands first
abbrev pub AtEach : {X : Type 0} → (X → List X → Type 0) → List X → Type 0
AtEach P [] = Unit {0}
AtEach P (e ∷ past) = P e past × AtEach P past

-- the list at an earlier moment, or now
abbrev pub IsEarlier : {X : Type 0} → List X → List X → Type 0
IsEarlier earlier [] = earlier ≡ []
IsEarlier earlier (e ∷ past) = (earlier ≡ e ∷ past) ⊎ IsEarlier earlier past

-- P holds of one of these with those before it
abbrev pub Was : {X : Type 0} → (X → List X → Type 0) → List X → Type 0
Was P [] = ⊥
Was P (e ∷ past) = P e past ⊎ Was P past
