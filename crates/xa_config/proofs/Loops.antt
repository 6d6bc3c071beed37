-- A loop over the elements of an array, or the entries of a table.
use Rattle.std.proofs.Common.{◌≡◌, ℕ, zero, suc, ◌+◌, ◌<◌, ◌≤◌, List, [], ◌∷◌, ◌++◌, length, get_or, take, drop, map, Some, refl, sym, ap, ◌∙◌, subst, arith}
use Rattle.std.proofs.lemmas.List.{drop_more, take_more}
use Rattle.toml.specs.Data.{Data}
use Rattle.toml.specs.View.{view}
use Rattle.toml.specs.declared.value.Value.{Value}
use Rattle.xa_config.specs.declared.refusal.ConfigRefused.{ConfigRefused}
use Rattle.xa_config.specs.Faults.{Fault, fault, at_key, indexed, in_order}
use Rattle.xa_config.specs.Keys.{elements}
use Rattle.xa_config.specs.Meaning.{name_of, names_of}
use Rattle.xa_config.specs.Tables.{at_entry}
use Rattle.xa_config.specs.Document.{first, TellsFirst}
use Rattle.xa_config.proofs.Tells.{tells_at, tells_front}

abbrev pub seen : ℕ → List Value → List Data
seen i vs = map view (take i vs)

abbrev pub unseen : ℕ → List Value → List Data
unseen i vs = map view (drop i vs)

map_last : {A B : Type 0} (f : A → B) (xs : List A) (x : A) → map f (xs ++ x ∷ []) ≡ map f xs ++ f x ∷ []
map_last f [] x = refl
map_last f (y ∷ xs) x = ap (λ ys. f y ∷ ys) (map_last f xs x)

seen_more : (vs : List Value) (i : ℕ) (v : Value) → i < length vs → v ≡ get_or vs i v → seen (i + 1) vs ≡ seen i vs ++ view v ∷ []
seen_more vs i v h is = ap (map view) (take_more vs i v h) ∙ map_last view (take i vs) (get_or vs i v) ∙ ap (λ x. seen i vs ++ view x ∷ []) (sym is)

unseen_more : (vs : List Value) (i : ℕ) (v : Value) → i < length vs → v ≡ get_or vs i v → unseen i vs ≡ view v ∷ unseen (i + 1) vs
unseen_more vs i v h is = ap (map view) (drop_more vs i v h) ∙ ap (λ x. view x ∷ unseen (i + 1) vs) (sym is)

pub length_seen : (vs : List Value) (i : ℕ) → i ≤ length vs → length (seen i vs) ≡ i
length_seen vs zero h = refl
length_seen [] (suc i) h = absurd (omega (arith, h))
length_seen (v ∷ vs) (suc i) h = ap suc (length_seen vs i (omega (arith, h)))

-- the faults from one value on
pub in_order_next : (faults : List Data → Data → List Fault) (vs : List Value) (i : ℕ) (v : Value) → i < length vs → v ≡ get_or vs i v
    → in_order faults (seen i vs) (unseen i vs) ≡ faults (seen i vs) (view v) ++ in_order faults (seen (i + 1) vs) (unseen (i + 1) vs)
in_order_next faults vs i v h is =
    ap (in_order faults (seen i vs)) (unseen_more vs i v h is)
    ∙ ap (λ before. faults (seen i vs) (view v) ++ in_order faults before (unseen (i + 1) vs)) (sym (seen_more vs i v h is))

-- what one more value adds to what is kept
pub kept_more : {A : Type 0} (f : Data → A) (vs : List Value) (i : ℕ) (v : Value) (kept next : List A) (x : A) → i < length vs → v ≡ get_or vs i v
    → kept ≡ map f (seen i vs) → x ≡ f (view v) → next ≡ kept ++ x ∷ [] → next ≡ map f (seen (i + 1) vs)
kept_more f vs i v kept next x h is same new more =
    more ∙ ap (λ xs. xs ++ x ∷ []) same ∙ ap (λ y. map f (seen i vs) ++ y ∷ []) new ∙ sym (map_last f (seen i vs) (view v)) ∙ ap (map f) (sym (seen_more vs i v h is))

-- a value without a fault
pub next_good : (faults : List Data → Data → List Fault) (vs : List Value) (i : ℕ) (v : Value) (all : List Fault) → i < length vs → v ≡ get_or vs i v
    → all ≡ in_order faults (seen i vs) (unseen i vs) → faults (seen i vs) (view v) ≡ [] → all ≡ in_order faults (seen (i + 1) vs) (unseen (i + 1) vs)
next_good faults vs i v all h is same none =
    same ∙ in_order_next faults vs i v h is ∙ ap (λ some. some ++ in_order faults (seen (i + 1) vs) (unseen (i + 1) vs)) none

-- a value with one
pub next_bad : (faults : List Data → Data → List Fault) (vs : List Value) (i : ℕ) (v : Value) (all : List Fault) (refusal : ConfigRefused)
    → i < length vs → v ≡ get_or vs i v → all ≡ in_order faults (seen i vs) (unseen i vs) → TellsFirst (faults (seen i vs) (view v)) refusal
    → TellsFirst all refusal
next_bad faults vs i v all refusal h is same told =
    subst (λ some. TellsFirst some refusal) (sym (same ∙ in_order_next faults vs i v h is)) (tells_front (faults (seen i vs) (view v)) _ refusal told)

taken : (vs : List Value) (i : ℕ) → length vs ≤ i → take i vs ≡ vs
taken [] zero h = refl
taken [] (suc i) h = refl
taken (v ∷ vs) zero h = absurd (omega (arith, h))
taken (v ∷ vs) (suc i) h = ap (λ xs. v ∷ xs) (taken vs i (omega (arith, h)))

dropped : (vs : List Value) (i : ℕ) → length vs ≤ i → drop i vs ≡ []
dropped [] zero h = refl
dropped [] (suc i) h = refl
dropped (v ∷ vs) zero h = absurd (omega (arith, h))
dropped (v ∷ vs) (suc i) h = dropped vs i (omega (arith, h))

pub all_seen : (vs : List Value) (i : ℕ) → length vs ≤ i → seen i vs ≡ map view vs
all_seen vs i h = ap (map view) (taken vs i h)

-- none is left
pub over : (faults : List Data → Data → List Fault) (vs : List Value) (i : ℕ) (all : List Fault) → length vs ≤ i
    → all ≡ in_order faults (seen i vs) (unseen i vs) → all ≡ []
over faults vs i all h same = same ∙ ap (λ rest. in_order faults (seen i vs) (map view rest)) (dropped vs i h)

-- the faults of an element, at its place
abbrev pub at_element : List ℕ → (List Data → Data → List ℕ) → List Data → Data → List Fault
at_element key of before value = at_key (indexed key (length before)) (of before value)

pub elements_are : (key : List ℕ) (of : List Data → Data → List ℕ) (earlier values : List Data) → elements key of earlier values ≡ in_order (at_element key of) earlier values
unfolding elements
elements_are key of earlier values = refl

pub at_good : (key : List ℕ) (of : List Data → Data → List ℕ) (before : List Data) (value : Data) → of before value ≡ [] → at_element key of before value ≡ []
at_good key of before value none = ap (at_key (indexed key (length before))) none

pub at_bad : (key : List ℕ) (of : List Data → Data → List ℕ) (before : List Data) (value : Data) (number place : ℕ) (refusal : ConfigRefused)
    → first (of before value) ≡ Some number → place ≡ length before → TellsFirst (fault (indexed key place) number ∷ []) refusal
    → TellsFirst (at_element key of before value) refusal
at_bad key of before value number place refusal some same told =
    tells_at (indexed key (length before)) (of before value) number refusal some
    (subst (λ n. TellsFirst (fault (indexed key n) number ∷ []) refusal) same told)

pub length_map : {A B : Type 0} (f : A → B) (xs : List A) → length (map f xs) ≡ length xs
length_map f [] = refl
length_map f (x ∷ xs) = ap suc (length_map f xs)

pub length_kept : {A : Type 0} (f : Data → A) (kept : List A) (ds : List Data) → kept ≡ map f ds → length kept ≡ length ds
length_kept f kept ds same = ap length same ∙ length_map f ds

-- where there is room for all values, there is room for the next
pub has_room : {A : Type 0} (f : Data → A) (vs : List Value) (i : ℕ) (kept : List A) (len capacity : ℕ) → i < length vs → kept ≡ map f (seen i vs)
    → len ≡ length kept → length vs ≤ capacity → len < capacity
has_room f vs i kept len capacity h same counted room =
    omega (arith, h, room, counted, length_kept f kept (seen i vs) same, length_seen vs i (omega (arith, h)))

pub room_kept : (n before after : ℕ) → after ≡ before → n ≤ before → n ≤ after
room_kept n before after same room = subst (λ m. n ≤ m) (sym same) room

-- what is asked of an entry, by the names before it
pub at_names : (key : List ℕ) (entry : List ℕ → List (List ℕ) → Data → List Fault) (before : List Data) (d : Data) (names : List (List ℕ))
    → names ≡ names_of before → entry (indexed key (length names)) names d ≡ at_entry key entry before d
at_names key entry before d names same =
    ap (λ ns. entry (indexed key (length ns)) ns d) same ∙ ap (λ n. entry (indexed key n) (names_of before) d) (length_map name_of before)

pub tells_names : (key : List ℕ) (entry : List ℕ → List (List ℕ) → Data → List Fault) (before : List Data) (d : Data) (names : List (List ℕ)) (refusal : ConfigRefused)
    → names ≡ names_of before → TellsFirst (entry (indexed key (length names)) names d) refusal → TellsFirst (at_entry key entry before d) refusal
tells_names key entry before d names refusal same told = subst (λ faults. TellsFirst faults refusal) (at_names key entry before d names same) told
