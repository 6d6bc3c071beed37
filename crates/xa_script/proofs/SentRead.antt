-- The data of a call: that its parts are read as they say.
use Rattle.std.proofs.Common.{◌≡◌, ℕ, ℤ, zero, suc, ◌+◌, ◌≤◌, ◌<◌, ◌==◌, ◌&&◌, nat_lt, nat_le, not, Bool, true, false, cond, List, [], ◌∷◌, ◌++◌, length, take, drop, replicate, codes, Option, Some, None, is_some, refl, ap, ap₂, sym, ◌∙◌, subst, arith, append_assoc, append-nil, length-append, take-append-drop}
use Rattle.std.specs.Prelude.{option_map}
use Rattle.std.specs.List.{list_all, AllZip, position, position_or_len}
use Rattle.std.specs.Str.{bytes_eq}
use Rattle.std.proofs.lemmas.Bool.{and_parts, and_from, ltb-true}
use Rattle.std.proofs.lemmas.Bool.Decides.{nat_tests}
use Rattle.std.proofs.lemmas.List.{take_at, drop_at, map-append}
use Rattle.xa_types.specs.Name.{is_name, is_graphic, begins_with_dot}
use Rattle.xa_types.specs.Configured.{is_among, are_distinct}
use Rattle.xa_types.specs.declared.setup.Setup.{Setup}
use Rattle.xa_types.specs.declared.data.Data.{Data}
use Rattle.xa_types.specs.declared.data.Data.TheVariants.{Absent, Octet}
use Rattle.xa_buffer.specs.declared.value.FieldValue.{FieldValue}
use Rattle.xa_buffer.specs.declared.value.FieldValue.TheVariants.{Whole}
use Rattle.xa_script.specs.declared.structures.Field.{Field}
use Rattle.xa_script.specs.Parts.{is_space, is_inner, is_end, IsWord, IsInFront, quoted, number_of, AreHex}
use Rattle.xa_script.specs.Words.{◌>>=◌, skip_spaces, cut_word, word_at, name_of, is_quoted, quoted_at, hex_from}
use Rattle.xa_script.specs.Structures.{struct_of}
use Rattle.xa_script.specs.Sent.{signed_of, is_other, IsFieldName, given, IsField, text_field, number_field, given_names, IsData, no_data, text_data, hex_data, fill_data, struct_data}
use Rattle.xa_script.specs.Payload.{text_value, value_at, is_equals, has_field, field_at, one_more, fields_from, struct_at, octet_data, text_at, octets_at, one_octet, fill_at, form_at, payload_at}
use Rattle.xa_script.proofs.Texts.{some_is}
use Rattle.xa_script.proofs.Fronts.{Cut, cut_at, skip_gap, skip_word, cut_is, cut_ends, word_read, word_again, cut_prefix}
use Rattle.xa_script.proofs.Names.{distinct_push, distinct_apart}
use Rattle.xa_script.proofs.PartsRead.{bound, both, AreInFront, front_of, behind_spaces, quoted_read, quoted_again, number_word, signed_word, hex_read, hex_again, one_hex_read, one_hex_again, hex_word, by_among, one_of, none_of}

-- ---- names of fields

graphic_inner : (octet : ℕ) → is_graphic octet ≡ true → is_inner octet ≡ true
graphic_inner octet h = grind (arith, nat_tests, h)

graphics_inner : (octets : List ℕ) → list_all is_graphic octets ≡ true → list_all is_inner octets ≡ true
graphics_inner [] h = refl
graphics_inner (octet ∷ octets) h =
    let parts = and_parts (is_graphic octet) (list_all is_graphic octets) h in
    and_from (is_inner octet) (list_all is_inner octets) (graphic_inner octet parts.0) (graphics_inner octets parts.1)

name_word : (name : List ℕ) → is_name name ≡ true → IsWord name
name_word name h =
    let parts = and_parts (nat_le 1 (length name) && nat_le (length name) 31) (list_all is_graphic name && not (begins_with_dot name)) h in
    let low = (and_parts (nat_le 1 (length name)) (nat_le (length name) 31) parts.0).0 in
    let inner = (and_parts (list_all is_graphic name) (not (begins_with_dot name)) parts.1).0 in
    record { some = grind (arith, nat_tests, low); inner = graphics_inner name inner }

-- ---- the place of `=`

record IsPlace (octets : List ℕ) (place : ℕ) : Type 0 where
  pub cut : octets ≡ take place octets ++ 61 ∷ drop (place + 1) octets
  pub other : list_all is_other (take place octets) ≡ true

abbrev place_in : List ℕ → ℕ
place_in octets = position_or_len is_equals octets

place_by : (b : Bool) (octet : ℕ) (octets : List ℕ) → (octet == 61) ≡ b → (place_in octets < length octets → IsPlace octets (place_in octets))
    → cond (not b) (1 + place_in octets) 0 < length (octet ∷ octets) → IsPlace (octet ∷ octets) (cond (not b) (1 + place_in octets) 0)
place_by true octet octets e more low = let is : octet ≡ 61 = grind (arith, nat_tests, e) in record { cut = ap (λ x. x ∷ octets) is; other = refl }
place_by false octet octets e more low =
    let rest = more (omega (arith, low)) in
    let one : 1 + place_in octets ≡ suc (place_in octets) = omega arith in
    let next : suc (place_in octets) + 1 ≡ suc (place_in octets + 1) = omega arith in
    subst (IsPlace (octet ∷ octets)) (sym one) (record {
      cut = ap (λ x. octet ∷ x) rest.cut ∙ ap (λ n. octet ∷ (take (place_in octets) octets ++ 61 ∷ drop n (octet ∷ octets))) (sym next);
      other = and_from (is_other octet) (list_all is_other (take (place_in octets) octets)) (ap not e) rest.other;
    })

placed : (octets : List ℕ) → place_in octets < length octets → IsPlace octets (place_in octets)
placed [] low = absurd (omega (arith, low))
placed (octet ∷ octets) low = place_by (octet == 61) octet octets refl (placed octets) low

place_read : (octets : List ℕ) (place : ℕ) → position is_equals octets ≡ Some place → IsPlace octets place
place_read octets place h = elim (nat_lt (place_in octets) (length octets)) as (λ b. nat_lt (place_in octets) (length octets) ≡ b → cond b (Some (place_in octets)) None ≡ Some place → IsPlace octets place) [
  | true ↦ λ e k. subst (IsPlace octets) (some_is (place_in octets) place k) (placed octets (ltb-true (place_in octets) (length octets) e))
  | false ↦ λ e k. absurd cc
] refl h

place_long : (name tail : List ℕ) → list_all is_other name ≡ true → place_in (name ++ 61 ∷ tail) ≡ length name
place_long [] tail h = refl
place_long (octet ∷ name) tail h =
    let parts = and_parts (is_other octet) (list_all is_other name) h in
    let more = place_long name tail parts.1 in
    ap (λ b. cond b (1 + place_in (name ++ 61 ∷ tail)) 0) parts.0 ∙ omega (arith, more)

place_again : (name tail : List ℕ) → list_all is_other name ≡ true → position is_equals (name ++ 61 ∷ tail) ≡ Some (length name)
place_again name tail h =
    let long = length-append name (61 ∷ tail) in
    let low : nat_lt (length name) (length (name ++ 61 ∷ tail)) ≡ true = grind (arith, nat_tests, long) in
    ap (λ n. cond (nat_lt n (length (name ++ 61 ∷ tail))) (Some n) None) (place_long name tail h) ∙ ap (λ b. cond b (Some (length name)) None) low

no_place_long : (octets : List ℕ) → list_all is_other octets ≡ true → place_in octets ≡ length octets
no_place_long [] h = refl
no_place_long (octet ∷ octets) h =
    let parts = and_parts (is_other octet) (list_all is_other octets) h in
    let more = no_place_long octets parts.1 in
    ap (λ b. cond b (1 + place_in octets) 0) parts.0 ∙ omega (arith, more)

pub no_place : (octets : List ℕ) → list_all is_other octets ≡ true → is_some (position is_equals octets) ≡ false
no_place octets h =
    let same : nat_lt (length octets) (length octets) ≡ false = grind (arith, nat_tests) in
    ap (λ n. is_some (cond (nat_lt n (length octets)) (Some n) None)) (no_place_long octets h) ∙ ap (λ b. is_some (cond b (Some (length octets)) None)) same

-- ---- values of fields

abbrev Value : Type 0
Value = Option FieldValue × List ℕ

record IsValue (octets : List ℕ) (value : Option FieldValue) (rest : List ℕ) : Type 0 where
  pub part : List ℕ
  pub cut : octets ≡ part ++ rest
  pub ends : is_end rest ≡ true
  pub field : (name : List ℕ) → IsFieldName name → IsField (name ++ 61 ∷ part) (given name value)

value_read : (octets : List ℕ) (value : Option FieldValue) (rest : List ℕ) → value_at octets ≡ Some (value, rest) → IsValue octets value rest
unfolding value_at cut_word
value_read octets value rest h = elim (is_quoted octets) as (λ b. ◌≡◌ {A = Option Value} (cond b (quoted_at octets >>= λ text. Some (text_value text.0, text.1))
    (signed_of (cut_word octets).0 >>= λ number. Some (option_map Whole number, (cut_word octets).1))) (Some (value, rest)) → IsValue octets value rest) [
      | true ↦ λ k.
          let read = bound (quoted_at octets) (λ text. Some (text_value text.0, text.1)) (value, rest) k in
          let is = quoted_read octets read.at.0 read.at.1 read.is in
          subst (λ (v : Value). IsValue octets v.0 v.1) (some_is (text_value read.at.0, read.at.1) (value, rest) read.then)
          (record { part = quoted read.at.0; cut = is.cut; ends = is.ends; field = λ name named. text_field name read.at.0 named })
      | false ↦ λ k.
          let read = bound (signed_of (cut_word octets).0) (λ number. Some (option_map Whole number, (cut_word octets).1)) (value, rest) k in
          subst (λ (v : Value). IsValue octets v.0 v.1) (some_is (option_map Whole read.at, (cut_word octets).1) (value, rest) read.then)
          (record {
            part = (cut_word octets).0;
            cut = sym (take-append-drop (position_or_len is_space octets) octets);
            ends = cut_ends octets;
            field = λ name named. number_field name (cut_word octets).0 read.at named read.is;
          })
    ] h

text_again : (text rest : List ℕ) → is_end rest ≡ true → value_at (quoted text ++ rest) ≡ Some (text_value text, rest)
unfolding value_at
text_again text rest e = both (quoted_at (quoted text ++ rest)) (λ text. Some (text_value text.0, text.1)) (cut_at text rest) _ (quoted_again text rest e) refl

number_again : (word rest : List ℕ) (number : Option ℤ) → is_end rest ≡ true → signed_of word ≡ Some number → value_at (word ++ rest) ≡ Some (option_map Whole number, rest)
unfolding value_at
number_again word rest number e h =
    let is = signed_word word number h in
    let octets = word ++ rest in
    ap (λ b. cond b (quoted_at octets >>= λ text. Some (text_value text.0, text.1)) (signed_of (cut_word octets).0 >>= λ number. Some (option_map Whole number, (cut_word octets).1))) (is.bare rest)
    ∙ ap (λ (c : Cut). signed_of c.0 >>= λ number. Some (option_map Whole number, c.1)) (cut_is word rest is.is_word.inner e)
    ∙ both (signed_of word) (λ number. Some (option_map Whole number, rest)) number _ h refl

-- ---- a field

name_read : (octets name : List ℕ) → name_of octets ≡ Some name → (is_name name ≡ true) × (octets ≡ name)
name_read octets name h = elim (is_name octets) as (λ b. is_name octets ≡ b → cond b (Some octets) None ≡ Some name → (is_name name ≡ true) × (octets ≡ name)) [
  | true ↦ λ e k. let same = some_is octets name k in (ap is_name (sym same) ∙ e, same)
  | false ↦ λ e k. absurd cc
] refl h

abbrev Found : Type 0
Found = Field × List ℕ

abbrev found : Field → List ℕ → Found
found field rest = (field, rest)

record IsFound (octets : List ℕ) (field : Field) (rest : List ℕ) : Type 0 where
  pub part : List ℕ
  pub field_is : IsField part field
  pub front : IsInFront part rest octets

field_read : (octets : List ℕ) (field : Field) (rest : List ℕ) → field_at octets ≡ Some (found field rest) → IsFound octets field rest
unfolding field_at
field_read octets field rest h =
    let behind = skip_spaces octets in
    let place = bound (position is_equals behind) (λ place. name_of (take place behind) >>= λ name. value_at (drop (place + 1) behind) >>= λ value. Some (record { name = name; value = value.0 }, value.1)) (found field rest) h in
    let name = bound (name_of (take place.at behind)) (λ name. value_at (drop (place.at + 1) behind) >>= λ value. Some (record { name = name; value = value.0 }, value.1)) (found field rest) place.then in
    let value = bound (value_at (drop (place.at + 1) behind)) (λ value. Some (record { name = name.at; value = value.0 }, value.1)) (found field rest) name.then in
    let at = place_read behind place.at place.is in
    let named = name_read (take place.at behind) name.at name.is in
    let is = value_read (drop (place.at + 1) behind) value.at.0 value.at.1 value.is in
    let is_named : IsFieldName name.at = record { named = named.0; other = ap (list_all is_other) (sym named.1) ∙ at.other } in
    subst (λ (f : Found). IsFound octets f.0 f.1) (some_is (found (given name.at value.at.0) value.at.1) (found field rest) value.then)
    (record {
      part = name.at ++ 61 ∷ is.part;
      field_is = is.field name.at is_named;
      front = front_of (name.at ++ 61 ∷ is.part) value.at.1 octets
          (at.cut ∙ ap₂ (λ front back. front ++ 61 ∷ back) named.1 is.cut ∙ sym (append_assoc name.at (61 ∷ is.part) value.at.1)) is.ends;
    })

field_behind : (name part rest octets : List ℕ) → IsFieldName name → IsInFront (name ++ 61 ∷ part) rest octets → skip_spaces octets ≡ name ++ 61 ∷ (part ++ rest)
field_behind name part rest octets named front =
    ap skip_spaces (front.cut ∙ ap (λ more. front.gap ++ more) (append_assoc name (61 ∷ part) rest))
    ∙ skip_gap front.gap (name ++ 61 ∷ (part ++ rest)) front.spaces ∙ skip_word name (61 ∷ (part ++ rest)) (name_word name named.named)

field_from : (name part rest octets : List ℕ) (value : Option FieldValue) → IsFieldName name → IsInFront (name ++ 61 ∷ part) rest octets → value_at (part ++ rest) ≡ Some (value, rest)
    → field_at octets ≡ Some (found (given name value) rest)
unfolding field_at
field_from name part rest octets value named front is =
    let behind = field_behind name part rest octets named front in
    let all = name ++ 61 ∷ (part ++ rest) in
    let place = ap (position is_equals) behind ∙ place_again name (part ++ rest) named.other in
    let cut = ap (take (length name)) behind ∙ take_at name (61 ∷ (part ++ rest)) (length name) refl in
    let long = length-append name (61 ∷ []) in
    let back : drop (length name + 1) (skip_spaces octets) ≡ part ++ rest =
    ap (drop (length name + 1)) (behind ∙ sym (append_assoc name (61 ∷ []) (part ++ rest))) ∙ drop_at (name ++ 61 ∷ []) (part ++ rest) (length name + 1) long in
    both (position is_equals (skip_spaces octets)) _ (length name) _ place
    (both (name_of (take (length name) (skip_spaces octets))) _ name _ (ap name_of cut ∙ ap (λ b. cond b (Some name) None) named.named)
    (both (value_at (drop (length name + 1) (skip_spaces octets))) _ (value, rest) _ (ap value_at back ∙ is) refl))

field_again : (part rest octets : List ℕ) (field : Field) → IsField part field → IsInFront part rest octets → field_at octets ≡ Some (found field rest)
field_again part rest octets field (text_field name text named) front = field_from name (quoted text) rest octets (text_value text) named front (text_again text rest front.ends)
field_again part rest octets field (number_field name word number named h) front =
    field_from name word rest octets (option_map Whole number) named front (number_again word rest number front.ends h)

-- what a field begins with
record HasName (part : List ℕ) (field : Field) : Type 0 where
  pub name : List ℕ
  pub value : List ℕ
  pub cut : part ≡ name ++ 61 ∷ value
  pub named : IsFieldName name

name_in : (part : List ℕ) (field : Field) → IsField part field → HasName part field
name_in part field (text_field name text named) = record { name = name; value = quoted text; cut = refl; named = named }
name_in part field (number_field name word number named h) = record { name = name; value = word; cut = refl; named = named }

has_field_again : (part rest octets : List ℕ) (field : Field) → IsField part field → IsInFront part rest octets → has_field octets ≡ true
has_field_again part rest octets field is front =
    let n = name_in part field is in
    let at = subst (λ p. IsInFront p rest octets) n.cut front in
    let behind = field_behind n.name n.value rest octets n.named at in
    let word = name_word n.name n.named.named in
    let inner = cut_prefix n.name (61 ∷ (n.value ++ rest)) word.inner ∙ ap (λ more. n.name ++ more) (cut_prefix (61 ∷ []) (n.value ++ rest) refl) in
    ap (λ octets. is_some (position is_equals (cut_word octets).0)) behind ∙ ap (λ word. is_some (position is_equals word)) inner
    ∙ ap is_some (place_again n.name (cut_word (n.value ++ rest)).0 n.named.other)

-- ---- fields

abbrev Fields : Type 0
Fields = List Field × List ℕ

abbrev fields_at : List Field → List ℕ → Fields
fields_at fields rest = (fields, rest)

record AreFound (first : List Field) (octets : List ℕ) (all : List Field) (rest : List ℕ) : Type 0 where
  pub parts : List (List ℕ)
  pub fields : List Field
  pub all_are : all ≡ first ++ fields
  pub each : AllZip IsField parts fields
  pub distinct : are_distinct (given_names all) ≡ true
  pub front : AreInFront parts rest octets

none_found : (first : List Field) (octets : List ℕ) → are_distinct (given_names first) ≡ true → AreFound first octets first octets
none_found first octets apart = record { parts = []; fields = []; all_are = sym (append-nil first); each = tt; distinct = apart; front = refl }

one_read : (first : List Field) (one : Found) (more : Fields) → one_more first one ≡ Some more → (is_among (given_names first) one.0.name ≡ false) × (fields_at (first ++ one.0 ∷ []) one.1 ≡ more)
one_read first one more h = elim (is_among (given_names first) one.0.name) as (λ b. is_among (given_names first) one.0.name ≡ b → ◌≡◌ {A = Option Fields} (cond b None (Some (first ++ one.0 ∷ [], one.1))) (Some more)
    → (b ≡ false) × (fields_at (first ++ one.0 ∷ []) one.1 ≡ more)) [
      | true ↦ λ e k. absurd cc
      | false ↦ λ e k. (refl, some_is (fields_at (first ++ one.0 ∷ []) one.1) more k)
    ] refl h

fields_read : (n : ℕ) (first : List Field) (octets : List ℕ) (all : List Field) (rest : List ℕ) → are_distinct (given_names first) ≡ true
    → fields_from n first octets ≡ Some (fields_at all rest) → AreFound first octets all rest
unfolding fields_from
fields_read zero first octets all rest apart h =
    subst (λ (f : Fields). AreFound first octets f.0 f.1) (some_is (fields_at first octets) (fields_at all rest) h) (none_found first octets apart)
fields_read (suc n) first octets all rest apart h =
    elim (has_field octets) as (λ b. ◌≡◌ {A = Option Fields} (cond b (field_at octets >>= λ found. one_more first found >>= λ more. fields_from n more.0 more.1) (Some (first, octets))) (Some (fields_at all rest))
    → AreFound first octets all rest) [
      | true ↦ λ k.
          let one = bound (field_at octets) (λ found. one_more first found >>= λ more. fields_from n more.0 more.1) (fields_at all rest) k in
          let more = bound (one_more first one.at) (λ more. fields_from n more.0 more.1) (fields_at all rest) one.then in
          let is = field_read octets one.at.0 one.at.1 one.is in
          let new = one_read first one.at more.at more.is in
          let named = map-append (λ (field : Field). field.name) first (one.at.0 ∷ []) in
          let next = fields_read n (first ++ one.at.0 ∷ []) one.at.1 all rest (ap are_distinct named ∙ distinct_push (given_names first) one.at.0.name apart new.0)
          (ap (λ (f : Fields). fields_from n f.0 f.1) new.1 ∙ more.then) in record {
            parts = is.part ∷ next.parts;
            fields = one.at.0 ∷ next.fields;
            all_are = next.all_are ∙ append_assoc first (one.at.0 ∷ []) next.fields;
            each = (is.field_is, next.each);
            distinct = next.distinct;
            front = (one.at.1, is.front, next.front);
          }
      | false ↦ λ k. subst (λ (f : Fields). AreFound first octets f.0 f.1) (some_is (fields_at first octets) (fields_at all rest) k) (none_found first octets apart)
    ] h

shorter : (part rest octets : List ℕ) (field : Field) → IsField part field → IsInFront part rest octets → length rest < length octets
shorter part rest octets field is front =
    let n = name_in part field is in
    let a = ap length front.cut in
    let b = length-append front.gap (part ++ rest) in
    let c = length-append part rest in
    let d = ap length n.cut in
    let e = length-append n.name (61 ∷ n.value) in
    omega (arith, a, b, c, d, e)

fields_again : (n : ℕ) (first : List Field) (parts : List (List ℕ)) (fields : List Field) (rest octets : List ℕ) → AllZip IsField parts fields → are_distinct (given_names (first ++ fields)) ≡ true
    → AreInFront parts rest octets → has_field rest ≡ false → length octets ≤ n → fields_from n first octets ≡ Some (fields_at (first ++ fields) rest)
unfolding fields_from
fields_again zero first [] [] rest octets each apart front ends low = ap₂ (λ fields octets. Some (fields_at fields octets)) (sym (append-nil first)) front
fields_again (suc n) first [] [] rest octets each apart front ends low =
    ap (λ b. cond b (field_at octets >>= λ found. one_more first found >>= λ more. fields_from n more.0 more.1) (Some (first, octets))) (ap has_field front ∙ ends)
    ∙ ap₂ (λ fields octets. Some (fields_at fields octets)) (sym (append-nil first)) front
fields_again n first [] (field ∷ fields) rest octets each apart front ends low = absurd each
fields_again n first (part ∷ parts) [] rest octets each apart front ends low = absurd each
fields_again zero first (part ∷ parts) (field ∷ fields) rest octets each apart front ends low = absurd (let less = shorter part front.0 octets field each.0 front.1 in omega (arith, less, low))
fields_again (suc n) first (part ∷ parts) (field ∷ fields) rest octets each apart front ends low =
    let less = shorter part front.0 octets field each.0 front.1 in
    let same = append_assoc first (field ∷ []) fields in
    let named = map-append (λ (field : Field). field.name) first (field ∷ fields) in
    let new = distinct_apart (given_names first) (given_names fields) field.name (ap are_distinct (sym named) ∙ apart) in
    ap (λ b. cond b (field_at octets >>= λ found. one_more first found >>= λ more. fields_from n more.0 more.1) (Some (first, octets))) (has_field_again part front.0 octets field each.0 front.1)
    ∙ both (field_at octets) (λ found. one_more first found >>= λ more. fields_from n more.0 more.1) (found field front.0) _ (field_again part front.0 octets field each.0 front.1)
    (both (one_more first (found field front.0)) (λ more. fields_from n more.0 more.1) (fields_at (first ++ field ∷ []) front.0) _ (ap (λ b. cond b None (Some (first ++ field ∷ [], front.0))) new)
    (fields_again n (first ++ field ∷ []) parts fields rest front.0 each.1 (ap (λ fields. are_distinct (given_names fields)) same ∙ apart) front.2 ends (omega (arith, less, low))
    ∙ ap (λ fields. Some (fields_at fields rest)) same))

-- ---- data

abbrev pub Sending : Type 0
Sending = Option Data × List ℕ

abbrev pub sending : Option Data → List ℕ → Sending
sending payload rest = (payload, rest)

pub record IsSent (setup : Setup) (octets : List ℕ) (payload : Option Data) (rest : List ℕ) : Type 0 where
  pub parts : List (List ℕ)
  pub is : IsData setup parts payload
  pub front : AreInFront parts rest octets

text_read : (octets : List ℕ) (payload : Option Data) (rest : List ℕ) → text_at octets ≡ Some (sending payload rest)
    → (said : List ℕ) × (payload ≡ Some (Octet said)) × IsInFront (quoted said) rest octets
unfolding text_at
text_read octets payload rest h =
    let read = bound (quoted_at (skip_spaces octets)) (λ text. Some (octet_data text.0, text.1)) (sending payload rest) h in
    let is = quoted_read (skip_spaces octets) read.at.0 read.at.1 read.is in
    let same = some_is (sending (octet_data read.at.0) read.at.1) (sending payload rest) read.then in
    (read.at.0, sym (ap (λ (s : Sending). s.0) same), subst (λ rest. IsInFront (quoted read.at.0) rest octets) (ap (λ (s : Sending). s.1) same) (front_of (quoted read.at.0) read.at.1 octets is.cut is.ends))

octets_read : (octets : List ℕ) (payload : Option Data) (rest : List ℕ) → octets_at octets ≡ Some (sending payload rest)
    → (word : List ℕ) × (said : List ℕ) × IsWord word × AreHex word said × (payload ≡ Some (Octet said)) × IsInFront word rest octets
unfolding octets_at
octets_read octets payload rest h =
    let word = bound (word_at octets) (λ word. hex_from [] word.0 >>= λ said. Some (octet_data said, word.1)) (sending payload rest) h in
    let said = bound (hex_from [] word.at.0) (λ said. Some (octet_data said, word.at.1)) (sending payload rest) word.then in
    let is = word_read octets word.at.0 word.at.1 word.is in
    let same = some_is (sending (octet_data said.at) word.at.1) (sending payload rest) said.then in
    (word.at.0, said.at, is.0, hex_read word.at.0 said.at said.is, sym (ap (λ (s : Sending). s.0) same), subst (λ rest. IsInFront word.at.0 rest octets) (ap (λ (s : Sending). s.1) same) is.1)

record IsFill (setup : Setup) (octets : List ℕ) (payload : Option Data) (rest : List ℕ) : Type 0 where
  pub count : List ℕ
  pub digits : List ℕ
  pub is : IsData setup (codes "fill" ∷ count ∷ digits ∷ []) payload
  pub front : AreInFront (count ∷ digits ∷ []) rest octets

fill_read : (setup : Setup) (octets : List ℕ) (payload : Option Data) (rest : List ℕ) → fill_at octets ≡ Some (sending payload rest) → IsFill setup octets payload rest
unfolding fill_at
fill_read setup octets payload rest h =
    let count = bound (word_at octets) (λ count. number_of 0 70000 count.0 >>= λ number. word_at count.1 >>= λ word. one_octet word.0 >>= λ octet. Some (octet_data (replicate number octet), word.1)) (sending payload rest) h in
    let number = bound (number_of 0 70000 count.at.0) (λ number. word_at count.at.1 >>= λ word. one_octet word.0 >>= λ octet. Some (octet_data (replicate number octet), word.1)) (sending payload rest) count.then in
    let word = bound (word_at count.at.1) (λ word. one_octet word.0 >>= λ octet. Some (octet_data (replicate number.at octet), word.1)) (sending payload rest) number.then in
    let value = bound (one_octet word.at.0) (λ octet. Some (octet_data (replicate number.at octet), word.at.1)) (sending payload rest) word.then in
    let first = word_read octets count.at.0 count.at.1 count.is in
    let second = word_read count.at.1 word.at.0 word.at.1 word.is in
    subst (λ (s : Sending). IsFill setup octets s.0 s.1) (some_is (sending (octet_data (replicate number.at value.at)) word.at.1) (sending payload rest) value.then)
    (record {
      count = count.at.0;
      digits = word.at.0;
      is = fill_data count.at.0 word.at.0 number.at value.at number.is (one_hex_read word.at.0 value.at value.is);
      front = (count.at.1, first.1, (word.at.1, second.1, refl));
    })

record IsStruct (setup : Setup) (octets : List ℕ) (payload : Option Data) (rest : List ℕ) : Type 0 where
  pub parts : List (List ℕ)
  pub is : IsData setup (codes "c" ∷ parts) payload
  pub front : AreInFront parts rest octets

struct_read : (setup : Setup) (octets : List ℕ) (payload : Option Data) (rest : List ℕ) → struct_at setup octets ≡ Some (sending payload rest) → IsStruct setup octets payload rest
unfolding struct_at
struct_read setup octets payload rest h =
    let subtype = bound (word_at octets) (λ subtype. fields_from (length subtype.1) [] subtype.1 >>= λ given. Some (struct_of setup subtype.0 given.0, given.1)) (sending payload rest) h in
    let fields = bound (fields_from (length subtype.at.1) [] subtype.at.1) (λ given. Some (struct_of setup subtype.at.0 given.0, given.1)) (sending payload rest) subtype.then in
    let first = word_read octets subtype.at.0 subtype.at.1 subtype.is in
    let are = fields_read (length subtype.at.1) [] subtype.at.1 fields.at.0 fields.at.1 refl fields.is in
    let each = subst (AllZip IsField are.parts) (sym are.all_are) are.each in
    subst (λ (s : Sending). IsStruct setup octets s.0 s.1) (some_is (sending (struct_of setup subtype.at.0 fields.at.0) fields.at.1) (sending payload rest) fields.then)
    (record {
      parts = subtype.at.0 ∷ are.parts;
      is = struct_data subtype.at.0 are.parts fields.at.0 first.0 each are.distinct;
      front = (subtype.at.1, first.1, are.front);
    })

abbrev Formed : Setup → List ℕ → Option Data → List ℕ → List ℕ → Type 0
Formed setup octets payload rest form = (parts : List (List ℕ)) × IsData setup (form ∷ parts) payload × AreInFront parts rest octets

abbrev form_words : List (List ℕ)
form_words = codes "none" ∷ codes "text" ∷ codes "octet" ∷ codes "fill" ∷ codes "c" ∷ []

form_known : (setup : Setup) (word octets : List ℕ) (sent : Sending) → form_at setup (cut_at word octets) ≡ Some sent → is_among form_words word ≡ true
form_known setup word octets sent h =
    one_of (bytes_eq word (codes "none")) _ _ sent _ h (λ h. one_of (bytes_eq word (codes "text")) _ _ sent _ h (λ h. one_of (bytes_eq word (codes "octet")) _ _ sent _ h
    (λ h. one_of (bytes_eq word (codes "fill")) _ _ sent _ h (λ h. one_of (bytes_eq word (codes "c")) _ _ sent _ h (λ h. none_of sent h)))))

abbrev FormRead : Setup → List ℕ → Option Data → List ℕ → List ℕ → Type 0
FormRead setup octets payload rest word = form_at setup (cut_at word octets) ≡ Some (sending payload rest) → Formed setup octets payload rest word

form_read : (setup : Setup) (word octets : List ℕ) (payload : Option Data) (rest : List ℕ) → form_at setup (cut_at word octets) ≡ Some (sending payload rest) → Formed setup octets payload rest word
form_read setup word octets payload rest h = by_among (FormRead setup octets payload rest) form_words word (
  λ k. subst (λ (s : Sending). Formed setup octets s.0 s.1 (codes "none")) (some_is (sending (Some Absent) octets) (sending payload rest) k) ([], no_data, refl),
  (
    λ k.
        let read = text_read octets payload rest k in
        subst (λ p. Formed setup octets p rest (codes "text")) (sym read.1) (quoted read.0 ∷ [], text_data read.0, (rest, read.2, refl)),
    (
      λ k.
          let read = octets_read octets payload rest k in
          subst (λ p. Formed setup octets p rest (codes "octet")) (sym read.4) (read.0 ∷ [], hex_data read.0 read.1 read.2 read.3, (rest, read.5, refl)),
      (
        λ k. let read = fill_read setup octets payload rest k in (read.count ∷ read.digits ∷ [], read.is, read.front),
        (λ k. let read = struct_read setup octets payload rest k in (read.parts, read.is, read.front), tt),
      ),
    ),
  ),
) (form_known setup word octets (sending payload rest) h) h

pub payload_read : (setup : Setup) (octets : List ℕ) (payload : Option Data) (rest : List ℕ) → payload_at setup octets ≡ Some (sending payload rest) → IsSent setup octets payload rest
unfolding payload_at
payload_read setup octets payload rest h =
    let form = bound (word_at octets) (form_at setup) (sending payload rest) h in
    let is = word_read octets form.at.0 form.at.1 form.is in
    let read = form_read setup form.at.0 form.at.1 payload rest form.then in
    record { parts = form.at.0 ∷ read.0; is = read.1; front = (form.at.1, is.1, read.2) }

pub closed : (word : List ℕ) → nat_lt 0 (length word) ≡ true → list_all is_inner word ≡ true → IsWord word
closed word some inner = record { some = ltb-true 0 (length word) some; inner = inner }

form_again : (setup : Setup) (word more octets : List ℕ) (sent : Option Sending) → IsWord word → IsInFront word more octets → form_at setup (cut_at word more) ≡ sent → payload_at setup octets ≡ sent
unfolding payload_at
form_again setup word more octets sent is front h = both (word_at octets) (form_at setup) (cut_at word more) sent (word_again octets word more is front) h

text_at_again : (said rest octets : List ℕ) → IsInFront (quoted said) rest octets → text_at octets ≡ Some (sending (Some (Octet said)) rest)
unfolding text_at
text_at_again said rest octets front =
    both (quoted_at (skip_spaces octets)) (λ text. Some (octet_data text.0, text.1)) (cut_at said rest) _ (ap quoted_at (behind_spaces 34 _ rest octets front refl) ∙ quoted_again said rest front.ends) refl

octets_at_again : (word said rest octets : List ℕ) → IsWord word → AreHex word said → IsInFront word rest octets → octets_at octets ≡ Some (sending (Some (Octet said)) rest)
unfolding octets_at
octets_at_again word said rest octets is hex front =
    both (word_at octets) (λ word. hex_from [] word.0 >>= λ said. Some (octet_data said, word.1)) (cut_at word rest) _ (word_again octets word rest is front)
    (both (hex_from [] word) (λ said. Some (octet_data said, rest)) said _ (hex_again word said hex) refl)

one_hex_word : (word : List ℕ) (value : ℕ) → AreHex word (value ∷ []) → IsWord word
one_hex_word [] value h = absurd cc
one_hex_word (high ∷ word) value h = record { some = omega arith; inner = hex_word (high ∷ word) (value ∷ []) h }

fill_at_again : (count digits : List ℕ) (number value : ℕ) (rest octets : List ℕ) → number_of 0 70000 count ≡ Some number → AreHex digits (value ∷ []) → AreInFront (count ∷ digits ∷ []) rest octets
    → fill_at octets ≡ Some (sending (Some (Octet (replicate number value))) rest)
unfolding fill_at
fill_at_again count digits number value rest octets h hex front =
    let last = subst (λ rest. IsInFront digits rest front.0) front.2.2 front.2.1 in
    both (word_at octets) (λ count. number_of 0 70000 count.0 >>= λ number. word_at count.1 >>= λ word. one_octet word.0 >>= λ octet. Some (octet_data (replicate number octet), word.1)) (cut_at count front.0) _
    (word_again octets count front.0 (number_word 0 70000 count number h) front.1)
    (both (number_of 0 70000 count) (λ number. word_at front.0 >>= λ word. one_octet word.0 >>= λ octet. Some (octet_data (replicate number octet), word.1)) number _ h
    (both (word_at front.0) (λ word. one_octet word.0 >>= λ octet. Some (octet_data (replicate number octet), word.1)) (cut_at digits rest) _ (word_again front.0 digits rest (one_hex_word digits value hex) last)
    (both (one_octet digits) (λ octet. Some (octet_data (replicate number octet), rest)) value _ (one_hex_again digits value hex) refl)))

struct_at_again : (setup : Setup) (subtype : List ℕ) (parts : List (List ℕ)) (fields : List Field) (rest octets : List ℕ) → IsWord subtype → AllZip IsField parts fields
    → are_distinct (given_names fields) ≡ true → AreInFront (subtype ∷ parts) rest octets → has_field rest ≡ false → struct_at setup octets ≡ Some (sending (struct_of setup subtype fields) rest)
unfolding struct_at
struct_at_again setup subtype parts fields rest octets is each apart front ends =
    both (word_at octets) (λ subtype. fields_from (length subtype.1) [] subtype.1 >>= λ given. Some (struct_of setup subtype.0 given.0, given.1)) (cut_at subtype front.0) _ (word_again octets subtype front.0 is front.1)
    (both (fields_from (length front.0) [] front.0) (λ given. Some (struct_of setup subtype given.0, given.1)) (fields_at fields rest) _
    (fields_again (length front.0) [] parts fields rest front.0 each apart front.2 ends (omega arith)) refl)

pub payload_again : (setup : Setup) (parts : List (List ℕ)) (payload : Option Data) (rest octets : List ℕ) → IsData setup parts payload → AreInFront parts rest octets → has_field rest ≡ false
    → payload_at setup octets ≡ Some (sending payload rest)
payload_again setup parts payload rest octets no_data front ends =
    form_again setup (codes "none") front.0 octets _ (closed (codes "none") refl refl) front.1 (ap (λ more. Some (sending (Some Absent) more)) front.2)
payload_again setup parts payload rest octets (text_data said) front ends =
    form_again setup (codes "text") front.0 octets _ (closed (codes "text") refl refl) front.1
    (text_at_again said rest front.0 (subst (λ rest. IsInFront (quoted said) rest front.0) front.2.2 front.2.1))
payload_again setup parts payload rest octets (hex_data word said is hex) front ends =
    form_again setup (codes "octet") front.0 octets _ (closed (codes "octet") refl refl) front.1
    (octets_at_again word said rest front.0 is hex (subst (λ rest. IsInFront word rest front.0) front.2.2 front.2.1))
payload_again setup parts payload rest octets (fill_data count digits number value h hex) front ends =
    form_again setup (codes "fill") front.0 octets _ (closed (codes "fill") refl refl) front.1 (fill_at_again count digits number value rest front.0 h hex front.2)
payload_again setup parts payload rest octets (struct_data subtype fields_parts fields is each apart) front ends =
    form_again setup (codes "c") front.0 octets _ (closed (codes "c") refl refl) front.1 (struct_at_again setup subtype fields_parts fields rest front.0 is each apart front.2 ends)
