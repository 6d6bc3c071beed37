-- The faults of a whole table.
use Rattle.std.proofs.Common.{◌≡◌, ℕ, ◌<◌, ◌≤◌, ◌&&◌, nat_le, Bool, true, false, List, [], ◌∷◌, ◌++◌, length, map, Some, None, Result, Ok, Err, IfOk, unwrap_or, option_map, refl, sym, ap, ◌∙◌, subst, arith}
use Rattle.std.proofs.lemmas.Bool.Decides.{nat_tests}
use Rattle.std.specs.List.{list_all}
use Rattle.toml.specs.Data.{Data, get, as_array}
use Rattle.toml.specs.View.{view, items_view}
use Rattle.toml.specs.declared.value.Value.{Value}
use Rattle.xa_config.specs.declared.refusal.ConfigRefused.{ConfigRefused}
use Rattle.xa_config.specs.Faults.{Fault, fault, at_key, expects, in_order}
use Rattle.xa_config.specs.Kinds.{list_in, is_table}
use Rattle.xa_config.specs.Meaning.{list_at}
use Rattle.xa_config.specs.Tables.{table_faults, at_entry, is_array_of_tables}
use Rattle.xa_config.specs.Document.{TellsFirst, Reads}
use Rattle.xa_config.proofs.Arrays.{list_of_view, array_is, array_found}
use Rattle.xa_config.proofs.Entries.{list_there}
use Rattle.xa_config.proofs.Loops.{length_map}
use Rattle.xa_config.proofs.Tells.{tells_front}

pub tables_absent : (key : List ℕ) (d : Data) → None ≡ get key d → (is_array_of_tables (get key d) ≡ true) × (list_at key d ≡ [])
unfolding list_at
tables_absent key d h = (ap is_array_of_tables (sym h), ap (λ found. unwrap_or (option_map list_in found) []) (sym h))

all_map : (vs : List Value) → list_all is_table (map view vs) ≡ list_all (λ v. is_table (view v)) vs
all_map [] = refl
all_map (v ∷ vs) = ap (λ b. is_table (view v) && b) (all_map vs)

pub tables_there : (key : List ℕ) (d found : Data) (vs : List Value) (all : Bool) → Some found ≡ get key d → Some (items_view vs) ≡ as_array found
    → list_all (λ v. is_table (view v)) vs ≡ all → is_array_of_tables (get key d) ≡ all
tables_there key d found vs all h is same =
    ap is_array_of_tables (sym h) ∙ ap (λ x. is_array_of_tables (Some x)) (array_is (items_view vs) found is)
    ∙ ap (list_all is_table) (list_of_view vs) ∙ all_map vs ∙ same

pub tables_found : (key : List ℕ) (d found : Data) (vs : List Value) → Some found ≡ get key d → Some (items_view vs) ≡ as_array found → list_at key d ≡ map view vs
tables_found key d found vs h is = list_there key d found h ∙ array_found vs found is

table_is : (key : List ℕ) (least most : ℕ) (entry : List ℕ → List (List ℕ) → Data → List Fault) (d : Data) (values : List Data) (a b c : Bool)
    → is_array_of_tables (get key d) ≡ a → list_at key d ≡ values → nat_le least (length values) ≡ b → nat_le (length values) most ≡ c
    → table_faults key least most entry d ≡ at_key key (expects a 4) ++ at_key key (expects b 3) ++ at_key key (expects c 10) ++ in_order (at_entry key entry) [] values
unfolding table_faults
table_is key least most entry d values a b c good same low high =
    ap (λ x. at_key key (expects x 4) ++ at_key key (expects (nat_le least (length (list_at key d))) 3) ++ at_key key (expects (nat_le (length (list_at key d)) most) 10) ++ in_order (at_entry key entry) [] (list_at key d)) good
    ∙ ap (λ xs. at_key key (expects a 4) ++ at_key key (expects (nat_le least (length xs)) 3) ++ at_key key (expects (nat_le (length xs) most) 10) ++ in_order (at_entry key entry) [] xs) same
    ∙ ap (λ x. at_key key (expects a 4) ++ at_key key (expects x 3) ++ at_key key (expects (nat_le (length values) most) 10) ++ in_order (at_entry key entry) [] values) low
    ∙ ap (λ x. at_key key (expects a 4) ++ at_key key (expects b 3) ++ at_key key (expects x 10) ++ in_order (at_entry key entry) [] values) high

told_as : (all front more : List Fault) (refusal : ConfigRefused) → all ≡ front ++ more → TellsFirst front refusal → TellsFirst all refusal
told_as all front more refusal same told = subst (λ faults. TellsFirst faults refusal) (sym same) (tells_front front more refusal told)

pub table_wrong : (key : List ℕ) (least most : ℕ) (entry : List ℕ → List (List ℕ) → Data → List Fault) (d : Data) (refusal : ConfigRefused)
    → is_array_of_tables (get key d) ≡ false → TellsFirst (fault key 4 ∷ []) refusal → TellsFirst (table_faults key least most entry d) refusal
table_wrong key least most entry d refusal bad told =
    told_as _ (fault key 4 ∷ []) _ refusal (table_is key least most entry d (list_at key d) false _ _ bad refl refl refl) told

above : (m n : ℕ) → m < n → nat_le n m ≡ false
above m n h = grind (arith, nat_tests)

below : (m n : ℕ) → m ≤ n → nat_le m n ≡ true
below m n h = grind (arith, nat_tests)

pub table_empty : (key : List ℕ) (least most : ℕ) (entry : List ℕ → List (List ℕ) → Data → List Fault) (d : Data) (vs : List Value) (refusal : ConfigRefused)
    → is_array_of_tables (get key d) ≡ true → list_at key d ≡ map view vs → length vs < least → TellsFirst (fault key 3 ∷ []) refusal
    → TellsFirst (table_faults key least most entry d) refusal
table_empty key least most entry d vs refusal good same few told =
    told_as _ (fault key 3 ∷ []) _ refusal
    (table_is key least most entry d (map view vs) true false _ good same (ap (nat_le least) (length_map view vs) ∙ above (length vs) least few) refl) told

pub table_full : (key : List ℕ) (least most : ℕ) (entry : List ℕ → List (List ℕ) → Data → List Fault) (d : Data) (vs : List Value) (refusal : ConfigRefused)
    → is_array_of_tables (get key d) ≡ true → list_at key d ≡ map view vs → least ≤ length vs → most < length vs → TellsFirst (fault key 10 ∷ []) refusal
    → TellsFirst (table_faults key least most entry d) refusal
table_full key least most entry d vs refusal good same some many told =
    told_as _ (fault key 10 ∷ []) _ refusal
    (table_is key least most entry d (map view vs) true true false good same (ap (nat_le least) (length_map view vs) ∙ below least (length vs) some)
    (ap (λ n. nat_le n most) (length_map view vs) ∙ above most (length vs) many)) told

pub table_left : (key : List ℕ) (least most : ℕ) (entry : List ℕ → List (List ℕ) → Data → List Fault) (d : Data) (vs : List Value)
    → is_array_of_tables (get key d) ≡ true → list_at key d ≡ map view vs → least ≤ length vs → length vs ≤ most
    → table_faults key least most entry d ≡ in_order (at_entry key entry) [] (map view vs)
table_left key least most entry d vs good same some few =
    table_is key least most entry d (map view vs) true true true good same (ap (nat_le least) (length_map view vs) ∙ below least (length vs) some)
    (ap (λ n. nat_le n most) (length_map view vs) ∙ below (length vs) most few)

abbrev pub paired : {A B : Type 0} → A → B → A × B
paired a b = (a, b)

pub both_kept : {A B : Type 0} {a b : A} {m n : B} → a ≡ b → m ≡ n → paired a m ≡ paired b n
both_kept {b = b} {m = m} e f = ap (λ x. paired x m) e ∙ ap (λ x. paired b x) f

-- the rows of a table, where those of its values are read
pub rows_read : {A B : Type 0} (f : Data → A) (g : Data → B) (all faults : List Fault) (values ds : List Data) (result : Result (List A × List B) ConfigRefused)
    → all ≡ faults → values ≡ ds → Reads faults (paired (map f ds) (map g ds)) result → Reads all (paired (map f values) (map g values)) result
rows_read f g all faults values ds result left found read =
    subst (λ xs. Reads all (paired (map f xs) (map g xs)) result) (sym found) (subst (λ some. Reads some (paired (map f ds) (map g ds)) result) (sym left) read)

pub few_rows : {A B : Type 0} (f : Data → A) (g : Data → B) (faults : List Fault) (vs : List Value) (most : ℕ) (result : Result (List A × List B) ConfigRefused)
    → length vs ≤ most → Reads faults (paired (map f (map view vs)) (map g (map view vs))) result → IfOk result (λ found. length found.1 ≤ most)
few_rows f g faults vs most (Ok found) few read =
    subst (λ n. n ≤ most) (sym (ap (λ both. length both.1) read.1 ∙ length_map g (map view vs) ∙ length_map view vs)) few
few_rows f g faults vs most (Err refusal) few read = tt
