-- Starts that are too old count no more.
use Rattle.std.proofs.Common.{◌≡◌, ℕ, ◌+◌, ◌-◌, ◌<◌, ◌≤◌, ◌&&◌, max, Bool, true, false, cond, ◌==◌, nat_lt, List, [], ◌∷◌, ◌++◌, map, reverse, length, Some, refl, sym, ◌∙◌, ap, subst, arith, add_comm, ltb-true, lt-ltb, ne_eqb}
use Rattle.std.specs.List.{filter, count_by}
use Rattle.std.proofs.lemmas.Bool.{false≢true, cond_both, and_parts}
use Rattle.std.proofs.lemmas.List.{map-append, reverse-append}
use Rattle.std.proofs.lemmas.List.Recursion.{is_count_by}
use Rattle.std.proofs.Math.Nat.{le-max_left, le-max_right}
use Rattle.xa_types.specs.declared.setup.ServerSetup.{ServerSetup}
use Rattle.xa_events.specs.Words.{count, greatest}
use Rattle.xa_events.specs.Server.{may_start_as}
use Rattle.xa_events.proofs.WordsLemmas.{count_yes, count_grows}
use Rattle.xa_restart.specs.Rule.{RestartState, IsRuleOf, IsLast, may_start_by}
use Rattle.xa_restart.specs.Within.{is_within}
use Rattle.xa_restart.specs.Kept.{is_nil, Recalls}

-- ---- counts

swapped : (b : Bool) (n : ℕ) → cond b (n + 1) n ≡ cond b (1 + n) n
swapped true n = add_comm n 1
swapped false n = refl

pub count_is : {X : Type 0} (p : X → Bool) (xs : List X) → count p xs ≡ count_by p xs
count_is p xs = is_count_by (count p) p refl (λ x rest. swapped (p x) (count p rest)) xs

pushed : (b c : Bool) (n : ℕ) → cond c (cond b (n + 1) n + 1) (cond b (n + 1) n) ≡ cond b (cond c (n + 1) n + 1) (cond c (n + 1) n)
pushed true true n = refl
pushed true false n = refl
pushed false true n = refl
pushed false false n = refl

pub count_push : {X : Type 0} (p : X → Bool) (xs : List X) (y : X) → count p (xs ++ y ∷ []) ≡ count p (y ∷ xs)
count_push p [] y = refl
count_push p (x ∷ xs) y = ap (λ n. cond (p x) (n + 1) n) (count_push p xs y) ∙ pushed (p y) (p x) (count p xs)

-- what doesn't pass the first test doesn't pass the second
count_kept : {X : Type 0} (p q : X → Bool) → ((x : X) → q x ≡ true → p x ≡ true) → (xs : List X) → count q (filter p xs) ≡ count q xs
count_kept p q wider [] = refl
count_kept {X = X} p q wider (x ∷ xs) =
    let rest = count_kept p q wider xs in
    cond_both (p x) (x ∷ filter p xs) (filter p xs) (λ ys. count q ys ≡ count q (x ∷ xs))
    (λ y. ap (λ n. cond (q x) (n + 1) n) rest)
    (λ n. rest ∙ cond_both (q x) (count q xs + 1) (count q xs) (λ m. count q xs ≡ m) (λ found. absurd (false≢true (sym n ∙ wider x found))) (λ none. refl))

-- ---- within GRACE

within_earlier : (grace now later start : ℕ) → now ≤ later → is_within grace later start ≡ true → is_within grace now start ≡ true
within_earlier grace now later start before within = let less = ltb-true (later - start) grace within in lt-ltb (now - start) grace (omega (arith, less, before))

sized : (b : Bool) (x : ℕ) (xs : List ℕ) (n : ℕ) → length xs ≡ n → length (cond b (x ∷ xs) xs) ≡ cond b (n + 1) n
sized true x xs n same = omega (arith, same)
sized false x xs n same = same

pub filtered_count : (p : ℕ → Bool) (xs : List ℕ) → length (filter p xs) ≡ count p xs
filtered_count p [] = refl
filtered_count p (x ∷ xs) = sized (p x) x (filter p xs) (count p xs) (filtered_count p xs)

one_more : (xs : List ℕ) (y : ℕ) (ys : List ℕ) → is_nil (xs ++ y ∷ []) ≡ is_nil (y ∷ ys)
one_more [] y ys = refl
one_more (x ∷ xs) y ys = refl

pub recalls-more : (grace now : ℕ) (recent starts : List ℕ) → Recalls grace recent starts → IsLast now starts → Recalls grace (filter (is_within grace now) recent ++ now ∷ []) (now ∷ starts)
recalls-more grace now recent starts recalls last = record {
  same = λ later from.
      let before : now ≤ later = omega (arith, from, le-max_left now (greatest 0 starts)) in
      let behind : IsLast later starts = omega (arith, from, le-max_right now (greatest 0 starts)) in
      let w = is_within grace later in
      count_push w (filter (is_within grace now) recent) now
      ∙ ap (λ n. cond (w now) (n + 1) n) (count_kept (is_within grace now) w (λ start. within_earlier grace now later start before) recent ∙ recalls.same later behind);
  some = one_more (filter (is_within grace now) recent) now starts;
}

-- the starts with one more
pub starts-more : (pairs : List (ℕ × Unit {0})) (now : ℕ) → reverse (map (λ pair. pair.0) (pairs ++ (now, tt) ∷ [])) ≡ now ∷ reverse (map (λ pair. pair.0) pairs)
starts-more pairs now = ap reverse (map-append (λ pair. pair.0) pairs ((now, tt) ∷ [])) ∙ reverse-append (map (λ pair. pair.0) pairs) (now ∷ [])

pub is_nil_length : (xs : List ℕ) → (length xs == 0) ≡ is_nil xs
is_nil_length [] = refl
is_nil_length (x ∷ xs) = ne_eqb (length (x ∷ xs)) 0 (λ same. absurd (omega (arith, same)))

-- ---- the rule

-- where a start was made, RESTART and the count decide
pub rule_more : (restart : Bool) (maxgen grace : ℕ) (starts : List ℕ) (now : ℕ) → is_nil starts ≡ false → may_start_by (record { restart = restart; maxgen = maxgen; grace = grace; starts = starts }) now ≡ restart && nat_lt (count (is_within grace now) starts) maxgen
rule_more restart maxgen grace [] now some = absurd (false≢true (sym some))
rule_more restart maxgen grace (last ∷ earlier) now some = refl

pub rule_none : (restart : Bool) (maxgen grace : ℕ) (starts : List ℕ) (now : ℕ) → is_nil starts ≡ true → may_start_by (record { restart = restart; maxgen = maxgen; grace = grace; starts = starts }) now ≡ true
rule_none restart maxgen grace [] now none = refl
rule_none restart maxgen grace (last ∷ earlier) now none = absurd (false≢true none)

-- there is room for one start more where it may be made
pub room_by : (restart : Bool) (maxgen grace : ℕ) (recent starts : List ℕ) (now : ℕ) → Recalls grace recent starts → may_start_by (record { restart = restart; maxgen = maxgen; grace = grace; starts = starts }) now ≡ true → IsLast now starts → (b : Bool) → is_nil starts ≡ b → count (is_within grace now) recent < max 1 maxgen
room_by restart maxgen grace [] starts now recalls may last true none = omega (arith, le-max_left 1 maxgen)
room_by restart maxgen grace (x ∷ recent) starts now recalls may last true none = absurd (false≢true (recalls.some ∙ none))
room_by restart maxgen grace recent starts now recalls may last false some =
    let counted : restart && nat_lt (count (is_within grace now) starts) maxgen ≡ true = sym (rule_more restart maxgen grace starts now some) ∙ may in
    let few = ltb-true (count (is_within grace now) starts) maxgen (and_parts restart (nat_lt (count (is_within grace now) starts) maxgen) counted).1 in
    let same = recalls.same now last in
    omega (arith, few, same, le-max_right 1 maxgen)

rule_of : (server : ServerSetup) (lives : RestartState) (now : ℕ) (starts : List ℕ) → IsRuleOf server lives.restart lives.maxgen lives.grace → may_start_as (Some server) starts now ≡ may_start_by (record lives { starts = starts }) now
rule_of server lives now [] rule = refl
rule_of server lives now (last ∷ earlier) rule =
    ap (λ restart. restart && nat_lt (count (λ tick. nat_lt (now - tick) server.grace) (last ∷ earlier)) server.maxgen) rule.restart
    ∙ ap (λ grace. lives.restart && nat_lt (count (λ tick. nat_lt (now - tick) grace) (last ∷ earlier)) server.maxgen) rule.grace
    ∙ ap (λ maxgen. lives.restart && nat_lt (count (λ tick. nat_lt (now - tick) lives.grace) (last ∷ earlier)) maxgen) rule.maxgen

pub rule_is : (server : ServerSetup) (lives : RestartState) (now : ℕ) → IsRuleOf server lives.restart lives.maxgen lives.grace → may_start_as (Some server) lives.starts now ≡ may_start_by lives now
rule_is server lives now rule = rule_of server lives now lives.starts rule

flag : (b : Bool) → (b ≡ true → ⊥) → b ≡ false
flag true never = absurd (never refl)
flag false never = refl

not_less : (a b : ℕ) → (a < b → ⊥) → nat_lt a b ≡ false
not_less a b never = flag (nat_lt a b) (λ less. never (ltb-true a b less))

-- what passes the second test passes the first
count_fewer : (p q : ℕ → Bool) → ((x : ℕ) → q x ≡ true → p x ≡ true) → (xs : List ℕ) → count q xs ≤ count p xs
count_fewer p q wider [] = omega arith
count_fewer p q wider (x ∷ xs) =
    let rest = count_fewer p q wider xs in
    cond_both (q x) (count q xs + 1) (count q xs) (λ m. m ≤ count p (x ∷ xs))
    (λ found. subst (λ n. count q xs + 1 ≤ n) (sym (count_yes p x xs (wider x found))) (omega (arith, rest)))
    (λ none. omega (arith, rest, count_grows p x xs))

more_no : (restart : Bool) (a b most : ℕ) → a ≤ b → restart && nat_lt a most ≡ false → restart && nat_lt b most ≡ false
more_no true a b most more full = not_less b most (λ fewer. absurd (false≢true (sym full ∙ lt-ltb a most (omega (arith, fewer, more)))))
more_no false a b most more full = refl

earlier_by : (restart : Bool) (maxgen grace : ℕ) (starts : List ℕ) (earlier now : ℕ) → earlier ≤ now → may_start_by (record { restart = restart; maxgen = maxgen; grace = grace; starts = starts }) now ≡ false
    → may_start_by (record { restart = restart; maxgen = maxgen; grace = grace; starts = starts }) earlier ≡ false
earlier_by restart maxgen grace [] earlier now before no_start = absurd (false≢true (sym no_start))
earlier_by restart maxgen grace (last ∷ rest) earlier now before no_start =
    more_no restart (count (is_within grace now) (last ∷ rest)) (count (is_within grace earlier) (last ∷ rest)) maxgen
    (count_fewer (is_within grace earlier) (is_within grace now) (λ start. within_earlier grace earlier now start before) (last ∷ rest)) no_start

pub no_earlier : (lives : RestartState) (earlier now : ℕ) → earlier ≤ now → may_start_by lives now ≡ false → may_start_by lives earlier ≡ false
no_earlier lives earlier now before no_start = earlier_by lives.restart lives.maxgen lives.grace lives.starts earlier now before no_start
