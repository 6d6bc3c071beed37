-- The fields that are read so far, and the set of their names.
use Rattle.std.proofs.Common.{◌≡◌, ℕ, suc, ◌+◌, ◌-◌, ◌≤◌, ◌<◌, ◌||◌, Bool, true, false, cond, not, List, [], ◌∷◌, ◌++◌, Ordering, Option, Some, None, refl, ap, sym, ◌∙◌, arith}
use Rattle.std.specs.BTreeMap.{is_at}
use Rattle.std.specs.BTreeSet.{BTreeSet, contains, IsEmpty, Updates}
use Rattle.std.specs.Cmp.Lexicographic.{slice_cmp}
use Rattle.std.specs.List.{list_any}
use Rattle.std.specs.Ordering.{nat_cmp}
use Rattle.std.specs.Str.{bytes_eq}
use Rattle.std.proofs.lemmas.Cmp.{nat_list_cmp_total, eq_by_cmp_equiv}
use Rattle.std.proofs.lemmas.Map.Text.{is_eq-slice_cmp}
use denote.Ref.{Bor}
use Rattle.xa_types.specs.Configured.{is_among}
use Rattle.xa_script.specs.declared.structures.Field.{Field}
use Rattle.xa_script.specs.declared.words.ReadError.{ReadError}
use Rattle.xa_script.specs.declared.words.ReadError.TheVariants as errors
use Rattle.xa_script.specs.Words.{◌>>=◌, Fails}
use Rattle.xa_script.specs.Payload.{has_field, field_at, given_names, one_more, fields_from}

abbrev Found : Type 0
Found = Option (List Field × List ℕ)

abbrev found : List Field → List ℕ → Found
found given rest = Some (given, rest)

abbrev Read : Type 0
Read = Option (Field × List ℕ)

abbrev follow : ℕ → List Field → Read → Found
follow n given read = read >>= λ one. one_more given one >>= λ more. fields_from n more.0 more.1

turn : (n i : ℕ) (given : List Field) (rest : List ℕ) → i < n
    → fields_from (n - i) given rest ≡ cond (has_field rest) (follow (n - (i + 1)) given (field_at rest)) (found given rest)
unfolding fields_from
turn n i given rest low = let left : n - i ≡ suc (n - (i + 1)) = omega arith in ap (λ k. fields_from k given rest) left

-- no field follows
pub no_field : (n i : ℕ) (given : List Field) (rest : List ℕ) (all : Found) → i < n → fields_from (n - i) given rest ≡ all → false ≡ has_field rest → all ≡ found given rest
no_field n i given rest all low is none =
    sym is ∙ turn n i given rest low ∙ ap (λ b. cond b (follow (n - (i + 1)) given (field_at rest)) (found given rest)) (sym none)

by_field : (n i : ℕ) (given : List Field) (rest : List ℕ) (all : Found) (read : Read) → i < n → fields_from (n - i) given rest ≡ all → true ≡ has_field rest → field_at rest ≡ read
    → all ≡ follow (n - (i + 1)) given read
by_field n i given rest all read low is some one =
    sym is ∙ turn n i given rest low ∙ ap (λ b. cond b (follow (n - (i + 1)) given (field_at rest)) (found given rest)) (sym some)
    ∙ ap (follow (n - (i + 1)) given) one

-- what follows is no field, or memory ran out
pub bad_field : (n i : ℕ) (given : List Field) (rest : List ℕ) (all : Found) (why : ReadError) → i < n → fields_from (n - i) given rest ≡ all → true ≡ has_field rest
    → Fails why (field_at rest) → Fails why all
bad_field n i given rest all errors.NoForm low is some none = by_field n i given rest all None low is some none
bad_field n i given rest all errors.NoMemory low is some none = tt

-- a field that follows is given already
pub doubled : (n i : ℕ) (given : List Field) (field : Field) (rest behind : List ℕ) (all : Found) → i < n → fields_from (n - i) given rest ≡ all → true ≡ has_field rest
    → field_at rest ≡ Some (field, behind) → true ≡ is_among (given_names given) field.name → all ≡ None
doubled n i given field rest behind all low is some one among =
    by_field n i given rest all (Some (field, behind)) low is some one
    ∙ ap (λ b. (cond b None (found (given ++ field ∷ []) behind)) >>= λ more. fields_from (n - (i + 1)) more.0 more.1) (sym among)

-- one field more
pub goes_on : (n i : ℕ) (given : List Field) (field : Field) (rest behind : List ℕ) (all : Found) → i < n → fields_from (n - i) given rest ≡ all → true ≡ has_field rest
    → field_at rest ≡ Some (field, behind) → false ≡ is_among (given_names given) field.name → fields_from (n - (i + 1)) (given ++ field ∷ []) behind ≡ all
goes_on n i given field rest behind all low is some one among =
    sym (by_field n i given rest all (Some (field, behind)) low is some one
    ∙ ap (λ b. (cond b None (found (given ++ field ∷ []) behind)) >>= λ more. fields_from (n - (i + 1)) more.0 more.1) (sym among))

-- there are no more octets
pub all_given : (n i : ℕ) (given : List Field) (rest : List ℕ) (all : Found) → n ≤ i → fields_from (n - i) given rest ≡ all → all ≡ found given rest
unfolding fields_from
all_given n i given rest all high is = let none : n - i ≡ 0 = omega arith in sym is ∙ ap (λ k. fields_from k given rest) none

-- ---- their names

abbrev in_order : Bor (List ℕ) → Bor (List ℕ) → Ordering
in_order a b = slice_cmp nat_cmp a.now b.now

-- the set has the names of the fields that are given, and no other
abbrev pub Names : List Field → BTreeSet (Bor (List ℕ)) → Type 0
Names given names = (name : Bor (List ℕ)) → contains in_order names name ≡ is_among (given_names given) name.now

pub none_named : (names : BTreeSet (Bor (List ℕ))) → IsEmpty names → Names [] names
none_named names none name = ap (λ keys. list_any (is_at (in_order name)) keys) none

bytes_eq-symm : (a b : List ℕ) → bytes_eq a b ≡ bytes_eq b a
bytes_eq-symm a b = sym (is_eq-slice_cmp a b) ∙ (eq_by_cmp_equiv nat_list_cmp_total).symm a b ∙ is_eq-slice_cmp b a

or_cond : (a b : Bool) → (a || b) ≡ cond a true b
or_cond true b = refl
or_cond false b = refl

is_among-more : (given : List Field) (field : Field) (name : List ℕ)
    → is_among (given_names (given ++ field ∷ [])) name ≡ cond (bytes_eq field.name name) true (is_among (given_names given) name)
is_among-more [] field name = or_cond (bytes_eq name field.name) false ∙ ap (λ b. cond b true false) (bytes_eq-symm name field.name)
is_among-more (other ∷ given) field name = grind (arith, is_among-more given field name)

same_not : (a b : Bool) → not a ≡ not b → a ≡ b
same_not true true same = refl
same_not true false same = cc
same_not false true same = cc
same_not false false same = refl

-- a name is new to the set where it isn't given
pub is_given : (given : List Field) (field : Field) (names : BTreeSet (Bor (List ℕ))) (name : Bor (List ℕ)) (is_new b : Bool) → Names given names → name.now ≡ field.name
    → is_new ≡ not (contains in_order names name) → is_new ≡ not b → b ≡ is_among (given_names given) field.name
is_given given field names name is_new b named same added is =
    same_not b _ (sym is ∙ added ∙ ap not (named name ∙ ap (is_among (given_names given)) same))

-- one name more
pub one_named : (given : List Field) (field : Field) (old new : BTreeSet (Bor (List ℕ))) (name : Bor (List ℕ)) → Names given old → name.now ≡ field.name
    → Updates in_order old new name true → Names (given ++ field ∷ []) new
one_named given field old new name named same put other =
    put.0 other
    ∙ ap (λ b. cond b true (contains in_order old other)) (is_eq-slice_cmp name.now other.now ∙ ap (λ word. bytes_eq word other.now) same)
    ∙ ap (λ b. cond (bytes_eq field.name other.now) true b) (named other)
    ∙ sym (is_among-more given field other.now)
