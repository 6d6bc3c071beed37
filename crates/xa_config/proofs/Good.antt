-- A document without a fault says a good setup: what the single values, arrays and entries come to.
use Rattle.std.proofs.Common.{◌≡◌, ℕ, pos, negsuc, ◌&&◌, ◌||◌, not, Bool, true, false, List, [], ◌∷◌, ◌++◌, length, map, Option, Some, None, unwrap_or, option_map, refl, sym, ap, ◌∙◌}
use Rattle.std.proofs.lemmas.Bool.{and_parts}
use Rattle.std.proofs.lemmas.Slice.Eq.{bytes_eq-Decides}
use Rattle.std.specs.List.{list_all}
use Rattle.std.specs.Str.{bytes_eq}
use Rattle.toml.specs.Data.{Data, string, integer, float, boolean, datetime, array, table, get}
use Rattle.xa_types.specs.Configured.{is_within, is_among, are_distinct, is_valid_program}
use Rattle.xa_types.specs.Name.{is_name}
use Rattle.xa_config.specs.Faults.{Fault, at_key, expects, in_order, dotted}
use Rattle.xa_config.specs.Keys.{optional, needed, needed_array, array_of, elements, where_there, must_be_there}
use Rattle.xa_config.specs.Kinds.{number, program, new_name, name_among, text_in, number_in, truth_in, list_in, list_of}
use Rattle.xa_config.specs.Meaning.{number_at, truth_at, text_at, list_at}
use Rattle.xa_config.proofs.Loops.{at_element, elements_are}

pub parts : {A : Type 0} (xs ys : List A) → xs ++ ys ≡ [] → (xs ≡ []) × (ys ≡ [])
parts [] ys h = (refl, h)
parts (x ∷ xs) ys h = absurd cc

pub no_number : (key numbers : List ℕ) → at_key key numbers ≡ [] → numbers ≡ []
no_number key [] h = refl
no_number key (n ∷ numbers) h = absurd cc

pub holds : (b : Bool) (n : ℕ) → expects b n ≡ [] → b ≡ true
holds true n h = refl
holds false n h = absurd cc

pub not_true : (b : Bool) → not b ≡ true → b ≡ false
not_true true h = absurd cc
not_true false h = refl

pub and_both : (a b : Bool) → a ≡ true → b ≡ true → (a && b) ≡ true
and_both a b h k = ap (λ x. x && b) h ∙ k

number_found : (key : List ℕ) (least most default : ℕ) (found : Option Data) → is_within least most default ≡ true
    → where_there (λ value. at_key key (number least most value)) found ≡ [] → is_within least most (unwrap_or (option_map number_in found) default) ≡ true
unfolding number
number_found key least most default None inside h = inside
number_found key least most default (Some (integer (pos n))) inside h = holds (is_within least most n) 5 (no_number key _ h)
number_found key least most default (Some (integer (negsuc n))) inside h = absurd cc
number_found key least most default (Some (string _)) inside h = absurd cc
number_found key least most default (Some (float _)) inside h = absurd cc
number_found key least most default (Some (boolean _)) inside h = absurd cc
number_found key least most default (Some (datetime _)) inside h = absurd cc
number_found key least most default (Some (array _)) inside h = absurd cc
number_found key least most default (Some (table _)) inside h = absurd cc

pub number_good : (place key : List ℕ) (least most default : ℕ) (entry : Data) → is_within least most default ≡ true
    → optional place key (number least most) entry ≡ [] → is_within least most (number_at key default entry) ≡ true
unfolding optional number_at
number_good place key least most default entry inside h = number_found (dotted place key) least most default (get key entry) inside h

name_found : (key : List ℕ) (good : List ℕ → Bool) (earlier : List (List ℕ)) (found : Option Data)
    → must_be_there key (λ value. at_key key (new_name good earlier value)) found ≡ []
    → (good (unwrap_or (option_map text_in found) []) ≡ true) × (is_among earlier (unwrap_or (option_map text_in found) []) ≡ false)
unfolding new_name
name_found key good earlier None h = absurd cc
name_found key good earlier (Some (string octets)) h =
    let both = parts (expects (good octets) 6) (expects (not (is_among earlier octets)) 7) (no_number key _ h) in
    (holds (good octets) 6 both.0, not_true (is_among earlier octets) (holds (not (is_among earlier octets)) 7 both.1))
name_found key good earlier (Some (integer _)) h = absurd cc
name_found key good earlier (Some (float _)) h = absurd cc
name_found key good earlier (Some (boolean _)) h = absurd cc
name_found key good earlier (Some (datetime _)) h = absurd cc
name_found key good earlier (Some (array _)) h = absurd cc
name_found key good earlier (Some (table _)) h = absurd cc

pub name_good : (place key : List ℕ) (good : List ℕ → Bool) (earlier : List (List ℕ)) (entry : Data) → needed place key (new_name good earlier) entry ≡ []
    → (good (text_at key [] entry) ≡ true) × (is_among earlier (text_at key [] entry) ≡ false)
unfolding needed text_at
name_good place key good earlier entry h = name_found (dotted place key) good earlier (get key entry) h

reference_found : (key : List ℕ) (names : List (List ℕ)) (found : Option Data) → must_be_there key (λ value. at_key key (name_among names value)) found ≡ []
    → is_among names (unwrap_or (option_map text_in found) []) ≡ true
unfolding name_among
reference_found key names None h = absurd cc
reference_found key names (Some (string octets)) h =
    holds (is_among names octets) 8 (parts (expects (is_name octets) 6) (expects (is_among names octets) 8) (no_number key _ h)).1
reference_found key names (Some (integer _)) h = absurd cc
reference_found key names (Some (float _)) h = absurd cc
reference_found key names (Some (boolean _)) h = absurd cc
reference_found key names (Some (datetime _)) h = absurd cc
reference_found key names (Some (array _)) h = absurd cc
reference_found key names (Some (table _)) h = absurd cc

pub reference_good : (place key : List ℕ) (names : List (List ℕ)) (entry : Data) → needed place key (name_among names) entry ≡ []
    → is_among names (text_at key [] entry) ≡ true
unfolding needed text_at
reference_good place key names entry h = reference_found (dotted place key) names (get key entry) h

program_found : (key : List ℕ) (found : Option Data) → where_there (λ value. at_key key (program value)) found ≡ [] → is_valid_program (option_map text_in found) ≡ true
unfolding program
program_found key None h = refl
program_found key (Some (string octets)) h = holds (is_within 1 255 (length octets)) 5 (no_number key _ h)
program_found key (Some (integer _)) h = absurd cc
program_found key (Some (float _)) h = absurd cc
program_found key (Some (boolean _)) h = absurd cc
program_found key (Some (datetime _)) h = absurd cc
program_found key (Some (array _)) h = absurd cc
program_found key (Some (table _)) h = absurd cc

pub program_good : (place key : List ℕ) (entry : Data) → optional place key program entry ≡ [] → is_valid_program (option_map text_in (get key entry)) ≡ true
unfolding optional
program_good place key entry h = program_found (dotted place key) (get key entry) h

array_found : (key : List ℕ) (least most : ℕ) (of : List Data → Data → List ℕ) (found : Option Data)
    → must_be_there key (array_of key least most of) found ≡ []
    → (is_within least most (length (unwrap_or (option_map list_in found) [])) ≡ true)
    × (in_order (at_element key of) [] (unwrap_or (option_map list_in found) []) ≡ [])
unfolding array_of
array_found key least most of None h = absurd cc
array_found key least most of (Some (array items)) h =
    let both = parts (at_key key (expects (is_within least most (length (list_of items))) 5)) (elements key of [] (list_of items)) h in
    (holds (is_within least most (length (list_of items))) 5 (no_number key _ both.0), sym (elements_are key of [] (list_of items)) ∙ both.1)
array_found key least most of (Some (string _)) h = absurd cc
array_found key least most of (Some (integer _)) h = absurd cc
array_found key least most of (Some (float _)) h = absurd cc
array_found key least most of (Some (boolean _)) h = absurd cc
array_found key least most of (Some (datetime _)) h = absurd cc
array_found key least most of (Some (table _)) h = absurd cc

pub array_good : (place key : List ℕ) (least most : ℕ) (of : List Data → Data → List ℕ) (entry : Data) → needed_array place key least most of entry ≡ []
    → (is_within least most (length (list_at key entry)) ≡ true) × (in_order (at_element (dotted place key) of) [] (list_at key entry) ≡ [])
unfolding needed_array list_at
array_good place key least most of entry h = array_found (dotted place key) least most of (get key entry) h

-- what holds of each value without a fault holds of all
pub all_good : (faults : List Data → Data → List Fault) (good : Data → Bool) → ((before : List Data) (d : Data) → faults before d ≡ [] → good d ≡ true)
    → (before ds : List Data) → in_order faults before ds ≡ [] → list_all good ds ≡ true
all_good faults good each before [] h = refl
all_good faults good each before (d ∷ ds) h =
    let both = parts (faults before d) (in_order faults (before ++ d ∷ []) ds) h in
    and_both (good d) (list_all good ds) (each before d both.0) (all_good faults good each (before ++ d ∷ []) ds both.1)

-- each name is new beside those before it
abbrev pub are_new : List (List ℕ) → List (List ℕ) → Bool
are_new earlier [] = true
are_new earlier (name ∷ names) = not (is_among earlier name) && are_new (earlier ++ name ∷ []) names

or_right : (a b : Bool) → b ≡ true → (a || b) ≡ true
or_right true b h = refl
or_right false b h = h

among_last : (name : List ℕ) (earlier : List (List ℕ)) → is_among (earlier ++ name ∷ []) name ≡ true
among_last name [] = ap (λ b. b || false) ((bytes_eq-Decides name name).1 refl)
among_last name (x ∷ earlier) = or_right (bytes_eq name x) _ (among_last name earlier)

among_front : (name other : List ℕ) (earlier : List (List ℕ)) → is_among earlier name ≡ true → is_among (earlier ++ other ∷ []) name ≡ true
among_front name other [] h = absurd cc
among_front name other (x ∷ earlier) h =
    elim (bytes_eq name x) as (λ b. (b || is_among earlier name) ≡ true → (b || is_among (earlier ++ other ∷ []) name) ≡ true) [
      | true ↦ λ e. refl
      | false ↦ λ e. among_front name other earlier e
    ] h

both_ways : (b : Bool) → b ≡ true → not b ≡ true → ⊥
both_ways true h k = absurd cc
both_ways false h k = absurd cc

not_later : (name : List ℕ) (earlier names : List (List ℕ)) → is_among earlier name ≡ true → are_new earlier names ≡ true → is_among names name ≡ false
not_later name earlier [] h new = refl
not_later name earlier (x ∷ names) h new =
    let both = and_parts (not (is_among earlier x)) (are_new (earlier ++ x ∷ []) names) new in
    elim (bytes_eq name x) as (λ b. bytes_eq name x ≡ b → (b || is_among names name) ≡ false) [
      | true ↦ λ same. absurd (both_ways (is_among earlier x) (ap (is_among earlier) (sym ((bytes_eq-Decides name x).0 same)) ∙ h) both.0)
      | false ↦ λ other. not_later name (earlier ++ x ∷ []) names (among_front name x earlier h) both.1
    ] refl

pub distinct : (earlier names : List (List ℕ)) → are_new earlier names ≡ true → are_distinct names ≡ true
distinct earlier [] new = refl
distinct earlier (name ∷ names) new =
    let both = and_parts (not (is_among earlier name)) (are_new (earlier ++ name ∷ []) names) new in
    and_both (not (is_among names name)) (are_distinct names)
    (ap not (not_later name (earlier ++ name ∷ []) names (among_last name earlier) both.1)) (distinct (earlier ++ name ∷ []) names both.1)

map_last : {A B : Type 0} (f : A → B) (xs : List A) (x : A) → map f (xs ++ x ∷ []) ≡ map f xs ++ f x ∷ []
map_last f [] x = refl
map_last f (y ∷ xs) x = ap (λ ys. f y ∷ ys) (map_last f xs x)

all_new : (faults : List Data → Data → List Fault) (f : Data → List ℕ)
    → ((before : List Data) (d : Data) → faults before d ≡ [] → is_among (map f before) (f d) ≡ false)
    → (before ds : List Data) → in_order faults before ds ≡ [] → are_new (map f before) (map f ds) ≡ true
all_new faults f each before [] h = refl
all_new faults f each before (d ∷ ds) h =
    let both = parts (faults before d) (in_order faults (before ++ d ∷ []) ds) h in
    and_both (not (is_among (map f before) (f d))) (are_new (map f before ++ f d ∷ []) (map f ds))
    (ap not (each before d both.0)) (ap (λ names. are_new names (map f ds)) (sym (map_last f before d)) ∙ all_new faults f each (before ++ d ∷ []) ds both.1)

-- names that are each new beside those before them are distinct
pub all_distinct : (faults : List Data → Data → List Fault) (f : Data → List ℕ)
    → ((before : List Data) (d : Data) → faults before d ≡ [] → is_among (map f before) (f d) ≡ false)
    → (ds : List Data) → in_order faults [] ds ≡ [] → are_distinct (map f ds) ≡ true
all_distinct faults f each ds h = distinct [] (map f ds) (all_new faults f each [] ds h)

pub all_map : {A : Type 0} (f : Data → A) (good : A → Bool) (ds : List Data) → list_all good (map f ds) ≡ list_all (λ d. good (f d)) ds
all_map f good [] = refl
all_map f good (d ∷ ds) = ap (λ b. good (f d) && b) (all_map f good ds)

pub map_map : {A B : Type 0} (f : Data → A) (g : A → B) (ds : List Data) → map g (map f ds) ≡ map (λ d. g (f d)) ds
map_map f g [] = refl
map_map f g (d ∷ ds) = ap (λ xs. g (f d) ∷ xs) (map_map f g ds)
