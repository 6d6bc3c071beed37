-- The elements of an array, one after the other.
use Rattle.std.proofs.Common.{◌≡◌, ℕ, suc, not, ◌||◌, Bool, true, false, List, [], ◌∷◌, ◌++◌, length, map, Some, None, refl, sym, ap, ◌∙◌, subst}
use Rattle.std.proofs.lemmas.Slice.Eq.{bytes_eq-Decides}
use Rattle.std.specs.List.{list_any}
use Rattle.std.specs.Str.{bytes_eq}
use Rattle.toml.specs.Data.{Data, string, integer, float, boolean, datetime, array, table, as_array, Items}
use Rattle.toml.specs.View.{view, items_view}
use Rattle.toml.specs.declared.value.Value.{Value}
use Rattle.xa_types.specs.Configured.{is_within, is_among}
use Rattle.xa_types.specs.declared.setup.FieldSetup.{FieldSetup}
use Rattle.xa_config.specs.declared.refusal.ConfigRefused.{ConfigRefused}
use Rattle.xa_config.specs.Faults.{fault, at_key, expects}
use Rattle.xa_config.specs.Field.{field_of, is_field, name_part}
use Rattle.xa_config.specs.Keys.{array_of, elements}
use Rattle.xa_config.specs.Kinds.{list_of, list_in, text_in, field, is_kind, kind}
use Rattle.xa_config.specs.Document.{first, TellsFirst}
use Rattle.xa_config.proofs.Tells.{tells_front}
use Rattle.xa_config.proofs.Unknown.{any_map}

pub list_of_view : (vs : List Value) → list_of (items_view vs) ≡ map view vs
list_of_view [] = refl
list_of_view (v ∷ vs) = ap (λ ds. view v ∷ ds) (list_of_view vs)

pub array_is : (items : Items) (d : Data) → Some items ≡ as_array d → d ≡ array items
array_is items (array more) h = let same : items ≡ more = cc in ap array (sym same)
array_is items (string _) h = absurd cc
array_is items (integer _) h = absurd cc
array_is items (float _) h = absurd cc
array_is items (boolean _) h = absurd cc
array_is items (datetime _) h = absurd cc
array_is items (table _) h = absurd cc

pub no_array : (key : List ℕ) (least most : ℕ) (of : List Data → Data → List ℕ) (d : Data) (refusal : ConfigRefused)
    → None ≡ as_array d → TellsFirst (fault key 4 ∷ []) refusal → TellsFirst (array_of key least most of d) refusal
unfolding array_of
no_array key least most of (array more) refusal h told = absurd cc
no_array key least most of (string _) refusal h told = told
no_array key least most of (integer _) refusal h told = told
no_array key least most of (float _) refusal h told = told
no_array key least most of (boolean _) refusal h told = told
no_array key least most of (datetime _) refusal h told = told
no_array key least most of (table _) refusal h told = told

array_seen : (key : List ℕ) (least most : ℕ) (of : List Data → Data → List ℕ) (vs : List Value) →
    array_of key least most of (array (items_view vs)) ≡ at_key key (expects (is_within least most (length vs)) 5) ++ elements key of [] (map view vs)
unfolding array_of
array_seen key least most of vs =
    ap (λ ds. at_key key (expects (is_within least most (length ds)) 5) ++ elements key of [] ds) (list_of_view vs)
    ∙ ap (λ n. at_key key (expects (is_within least most n) 5) ++ elements key of [] (map view vs)) (length_seen vs)
  where
    length_seen : (vs : List Value) → length (map view vs) ≡ length vs
    length_seen [] = refl
    length_seen (v ∷ vs) = ap suc (length_seen vs)

pub array_within : (key : List ℕ) (least most : ℕ) (of : List Data → Data → List ℕ) (vs : List Value) (d : Data)
    → Some (items_view vs) ≡ as_array d → is_within least most (length vs) ≡ true → array_of key least most of d ≡ elements key of [] (map view vs)
array_within key least most of vs d h within =
    ap (array_of key least most of) (array_is (items_view vs) d h) ∙ array_seen key least most of vs
    ∙ ap (λ b. at_key key (expects b 5) ++ elements key of [] (map view vs)) within

pub array_outside : (key : List ℕ) (least most : ℕ) (of : List Data → Data → List ℕ) (vs : List Value) (d : Data) (refusal : ConfigRefused)
    → Some (items_view vs) ≡ as_array d → is_within least most (length vs) ≡ false → TellsFirst (fault key 5 ∷ []) refusal
    → TellsFirst (array_of key least most of d) refusal
array_outside key least most of vs d refusal h outside told =
    let e : array_of key least most of d ≡ (fault key 5 ∷ []) ++ elements key of [] (map view vs) =
    ap (array_of key least most of) (array_is (items_view vs) d h) ∙ array_seen key least most of vs
    ∙ ap (λ b. at_key key (expects b 5) ++ elements key of [] (map view vs)) outside in
    subst (λ faults. TellsFirst faults refusal) (sym e) (tells_front (fault key 5 ∷ []) (elements key of [] (map view vs)) refusal told)

pub array_found : (vs : List Value) (d : Data) → Some (items_view vs) ≡ as_array d → list_in d ≡ map view vs
array_found vs d h = ap list_in (array_is (items_view vs) d h) ∙ list_of_view vs

-- the names of the fields before are those of the elements before
told_field : (octets : List ℕ) (before : List Data) (earlier : List FieldSetup) → earlier ≡ map (λ value. field_of (text_in value)) before
    → is_among (map (λ value. name_part (text_in value)) before) octets ≡ list_any (λ (f : FieldSetup). bytes_eq octets f.name) earlier
told_field octets before earlier same =
    any_map (λ value. name_part (text_in value)) (bytes_eq octets) before
    ∙ sym (any_map (λ value. field_of (text_in value)) (λ (f : FieldSetup). bytes_eq octets f.name) before)
    ∙ ap (list_any (λ (f : FieldSetup). bytes_eq octets f.name)) (sym same)

field_is : (before : List Data) (d : Data) (octets : List ℕ) (good told : Bool) → d ≡ string octets → is_field octets ≡ good
    → is_among (map (λ value. name_part (text_in value)) before) (name_part octets) ≡ told
    → field before d ≡ expects good 9 ++ expects (not told) 7
unfolding field
field_is before d octets good told e g t =
    ap (field before) e ∙ ap (λ b. expects b 9 ++ expects (not (is_among (map (λ value. name_part (text_in value)) before) (name_part octets))) 7) g
    ∙ ap (λ b. expects good 9 ++ expects (not b) 7) t

pub field_doubled : (before : List Data) (d : Data) (octets : List ℕ) (earlier : List FieldSetup) (new : FieldSetup)
    → d ≡ string octets → is_field octets ≡ true → new ≡ field_of octets
    → list_any (λ (f : FieldSetup). bytes_eq new.name f.name) earlier ≡ true
    → earlier ≡ map (λ value. field_of (text_in value)) before → first (field before d) ≡ Some 7
field_doubled before d octets earlier new e g is told same =
    ap first (field_is before d octets true true e g
    (told_field (name_part octets) before earlier same ∙ ap (λ (n : FieldSetup). list_any (λ (f : FieldSetup). bytes_eq n.name f.name) earlier) (sym is) ∙ told))

pub field_good : (before : List Data) (d : Data) (octets : List ℕ) (earlier : List FieldSetup) (new : FieldSetup)
    → d ≡ string octets → is_field octets ≡ true → new ≡ field_of octets
    → list_any (λ (f : FieldSetup). bytes_eq new.name f.name) earlier ≡ false
    → earlier ≡ map (λ value. field_of (text_in value)) before → (field before d ≡ []) × (new ≡ field_of (text_in d))
field_good before d octets earlier new e g is told same = (
  field_is before d octets true false e g
      (told_field (name_part octets) before earlier same ∙ ap (λ (n : FieldSetup). list_any (λ (f : FieldSetup). bytes_eq n.name f.name) earlier) (sym is) ∙ told),
  is ∙ ap (λ x. field_of (text_in x)) (sym e),
)

-- the elements before, as they are read
pub told_text : (octets : List ℕ) (vs : List Value) → is_among (map text_in (map view vs)) octets ≡ list_any (λ value. bytes_eq octets (text_in (view value))) vs
told_text octets vs = any_map text_in (bytes_eq octets) (map view vs) ∙ any_map view (λ value. bytes_eq octets (text_in value)) vs

both_same : (a b : Bool) → (a ≡ true → b ≡ true) → (b ≡ true → a ≡ true) → a ≡ b
both_same true b there back = sym (there refl)
both_same false true there back = back refl
both_same false false there back = refl

bytes_swapped : (xs ys : List ℕ) → bytes_eq xs ys ≡ bytes_eq ys xs
bytes_swapped xs ys =
    both_same _ _ (λ h. (bytes_eq-Decides ys xs).1 (sym ((bytes_eq-Decides xs ys).0 h))) (λ h. (bytes_eq-Decides xs ys).1 (sym ((bytes_eq-Decides ys xs).0 h)))

pub text_told : (octets : List ℕ) (vs : List Value) → is_among (map text_in (map view vs)) octets ≡ list_any (λ value. bytes_eq (text_in (view value)) octets) vs
text_told octets [] = refl
text_told octets (v ∷ vs) =
    ap (λ b. b || is_among (map text_in (map view vs)) octets) (bytes_swapped octets (text_in (view v))) ∙ ap (λ b. bytes_eq (text_in (view v)) octets || b) (text_told octets vs)

pub kind_is : (shapes : List (List ℕ)) (vs : List Value) (d : Data) (octets : List ℕ) (told good : Bool) → d ≡ string octets
    → list_any (λ value. bytes_eq octets (text_in (view value))) vs ≡ told → is_kind shapes octets ≡ good
    → kind shapes (map view vs) d ≡ expects (not told) 7 ++ expects good 8
unfolding kind
kind_is shapes vs d octets told good e t g =
    ap (kind shapes (map view vs)) e
    ∙ ap (λ b. expects (not b) 7 ++ expects (is_kind shapes octets) 8) (told_text octets vs ∙ t) ∙ ap (λ b. expects (not told) 7 ++ expects b 8) g
