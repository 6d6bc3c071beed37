-- The first key of a table that isn't among those that it may have.
use Rattle.std.proofs.Common.{◌≡◌, ℕ, Bool, true, false, not, ◌||◌, cond, List, [], ◌∷◌, map, Option, Some, None, option_map, String, Global, Bor, string_bytes, refl, sym, ap, ◌∙◌}
use Rattle.std.specs.List.{find, list_any}
use Rattle.std.specs.Map.{keys_of}
use Rattle.std.specs.Str.{bytes_eq}
use Rattle.toml.specs.Data.{Data, Members, string, integer, float, boolean, datetime, array, table, as_table}
use Rattle.toml.specs.View.{members_view}
use Rattle.toml.specs.declared.value.Value.{Value}
use Rattle.xa_config.specs.Document.{first}
use Rattle.xa_config.specs.Keys.{unknown_in}

pub any_map : {A B : Type 0} (f : A → B) (test : B → Bool) (xs : List A) → list_any test (map f xs) ≡ list_any (λ x. test (f x)) xs
any_map f test [] = refl
any_map f test (x ∷ xs) = ap (λ b. test (f x) || b) (any_map f test xs)

chosen : (b : Bool) (key : String Global) (more : List (List ℕ)) (found : Option (String Global)) → first more ≡ option_map string_bytes found
    → first (cond b (string_bytes key ∷ more) more) ≡ option_map string_bytes (cond b (Some key) found)
chosen true key more found h = refl
chosen false key more found h = h

pub first_unknown : (known : List (Bor (List ℕ))) (entries : List (String Global × Value))
    → first (unknown_in (map (λ k. k.now) known) (table (members_view entries)))
    ≡ option_map string_bytes (find (λ key. not (list_any (λ k. bytes_eq (string_bytes key) k.now) known)) (keys_of entries))
unfolding unknown_in
first_unknown known [] = refl
first_unknown known (e ∷ entries) =
    let same = any_map (λ k. k.now) (bytes_eq (string_bytes e.0)) known in
    ap (λ b. first (cond (not b) (string_bytes e.0 ∷ unknown_in (map (λ k. k.now) known) (table (members_view entries))) (unknown_in (map (λ k. k.now) known) (table (members_view entries))))) same
    ∙ chosen (not (list_any (λ k. bytes_eq (string_bytes e.0) k.now) known)) e.0 _ _ (first_unknown known entries)

pub none_first : {A : Type 0} (xs : List A) → first xs ≡ None → xs ≡ []
none_first [] h = refl
none_first (x ∷ xs) h = absurd cc

pub no_keys : (known : List (List ℕ)) (d : Data) → None ≡ as_table d → unknown_in known d ≡ []
unfolding unknown_in
no_keys known (table _) h = absurd cc
no_keys known (string _) h = refl
no_keys known (integer _) h = refl
no_keys known (float _) h = refl
no_keys known (boolean _) h = refl
no_keys known (datetime _) h = refl
no_keys known (array _) h = refl

table_is : (found : Members) (d : Data) → Some found ≡ as_table d → d ≡ table found
table_is found (table more) h = let same : found ≡ more = cc in ap table (sym same)
table_is found (string _) h = absurd cc
table_is found (integer _) h = absurd cc
table_is found (float _) h = absurd cc
table_is found (boolean _) h = absurd cc
table_is found (datetime _) h = absurd cc
table_is found (array _) h = absurd cc

-- the first key of a value that is a table
pub key_found : (known : List (Bor (List ℕ))) (entries : List (String Global × Value)) (d : Data) (found : Option (String Global))
    → Some (members_view entries) ≡ as_table d
    → found ≡ find (λ key. not (list_any (λ k. bytes_eq (string_bytes key) k.now) known)) (keys_of entries)
    → first (unknown_in (map (λ k. k.now) known) d) ≡ option_map string_bytes found
key_found known entries d found h e =
    ap (λ x. first (unknown_in (map (λ k. k.now) known) x)) (table_is (members_view entries) d h) ∙ first_unknown known entries ∙ ap (option_map string_bytes) (sym e)

-- whether a key is none of these
abbrev pub is_other : List (Bor (List ℕ)) → String Global → Bool
is_other known key = not (list_any (λ k. bytes_eq (string_bytes key) k.now) known)

-- the first such key where the next is tested, and where none is left
tested : (known : List (Bor (List ℕ))) (left more all : List (String Global)) (key : String Global) (b : Bool) → left ≡ key ∷ more
    → list_any (λ k. bytes_eq (string_bytes key) k.now) known ≡ b → find (is_other known) left ≡ find (is_other known) all
    → cond (not b) (Some key) (find (is_other known) more) ≡ find (is_other known) all
tested known left more all key b next test same =
    ap (λ x. cond (not x) (Some key) (find (is_other known) more)) (sym test) ∙ ap (find (is_other known)) (sym next) ∙ same

pub next_known : (known : List (Bor (List ℕ))) (left more all : List (String Global)) (key : String Global) → left ≡ key ∷ more
    → list_any (λ k. bytes_eq (string_bytes key) k.now) known ≡ true → find (is_other known) left ≡ find (is_other known) all
    → find (is_other known) more ≡ find (is_other known) all
next_known known left more all key next test same = tested known left more all key true next test same

pub next_unknown : (known : List (Bor (List ℕ))) (left more all : List (String Global)) (key : String Global) → left ≡ key ∷ more
    → list_any (λ k. bytes_eq (string_bytes key) k.now) known ≡ false → find (is_other known) left ≡ find (is_other known) all
    → Some key ≡ find (is_other known) all
next_unknown known left more all key next test same = tested known left more all key false next test same
