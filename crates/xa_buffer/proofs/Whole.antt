-- What buffers of some shapes hold.
use Rattle.std.proofs.Common.{◌≡◌, ℕ, ◌==◌, ◌||◌, Bool, true, false, cond, List, length, replicate, Option, Some, None, Result, Ok, Err, refl, sym, ap, ◌∙◌, subst, arith, leb-true, eqb-true}
use Rattle.std.specs.Prelude.{nat_le, IfOk, IsSomeAnd}
use Rattle.std.proofs.lemmas.Bool.{le-leb, eq-eqb}
use Rattle.std.proofs.lemmas.List.{length-replicate}
use Rattle.xa_types.specs.declared.data.Data.{Data}
use Rattle.xa_types.specs.declared.data.Data.TheVariants.{Absent, Octet as OctetData, Struct as StructData}
use Rattle.xa_types.specs.declared.data.Kind.{Kind}
use Rattle.xa_types.specs.declared.data.Kind.TheVariants.{Octet as OctetKind, Struct as StructKind}
use Rattle.xa_types.specs.declared.setup.Setup.{Setup}
use Rattle.xa_types.specs.declared.setup.ShapeSetup.{ShapeSetup}
use Rattle.xa_types.specs.Kind.{is_sound, has_size}
use Rattle.xa_buffer.specs.declared.buffer.Content.{Content}
use Rattle.xa_buffer.specs.declared.buffer.Content.TheVariants.{Octet, Struct}
use Rattle.xa_buffer.specs.declared.refusal.BufferRefused.{BufferRefused}
use Rattle.xa_buffer.specs.declared.refusal.BufferRefused.TheVariants.{BadSize, TooLong, WrongLength}
use Rattle.xa_buffer.specs.declared.value.FieldValue.{FieldValue}
use Rattle.xa_buffer.specs.Layout.{Piece, joined, pieces, zeroed, with_value, then_as, size_of_fields}
use Rattle.xa_buffer.specs.Contents.{shape_of, allocated_as, allocated, with_field, packed, unpacked_as, unpacked}
use Rattle.xa_buffer.specs.Laws.{IsLaidOut, IsOf}
use Rattle.xa_buffer.proofs.Fields.{passed, stays_laid}
use Rattle.xa_buffer.proofs.Laid.{joined-pieces, pieces-joined, laid_pieces, laid_zeroed, length-joined}
use Rattle.xa_buffer.proofs.Shaped.{sound_struct}

-- the pieces are those of that shape
abbrev OfShape : Option ShapeSetup → List Piece → Type 0
OfShape shape parts = IsSomeAnd shape (λ (s : ShapeSetup). IsLaidOut s.fields parts)

-- what a test lets through has what follows from the test
let_through : {X : Type 0} (b : Bool) (x : X) (why : BufferRefused) (P : X → Type 0) → (b ≡ true → P x) → IfOk (cond b (let r : Result X BufferRefused = Ok x in r) (Err why)) P
let_through true x why P holds = holds refl
let_through false x why P holds = tt

allocated_as_of : (shapes : List ShapeSetup) (subtype : List ℕ) (size : ℕ) (o : Option ShapeSetup) → shape_of shapes subtype ≡ o → IfOk (allocated_as subtype size o) (IsOf shapes)
allocated_as_of shapes subtype size None found = tt
allocated_as_of shapes subtype size (Some shape) found =
    let_through ((size == 0) || (size == size_of_fields shape.fields)) (Struct subtype (zeroed shape.fields)) BadSize (IsOf shapes)
    (λ _. subst (λ (o : Option ShapeSetup). OfShape o (zeroed shape.fields)) (sym found) (laid_zeroed shape.fields))

pub allocated_of : (shapes : List ShapeSetup) (kind : Kind) (size : ℕ) → IfOk (allocated shapes kind size) (IsOf shapes)
allocated_of shapes OctetKind size =
    let_through (nat_le size 65536) (Octet (replicate size 0)) BadSize (IsOf shapes)
    (λ small. let most = leb-true size 65536 small in omega (arith, length-replicate {A = ℕ} size 0))
allocated_of shapes (StructKind subtype) size = allocated_as_of shapes subtype size (shape_of shapes subtype) refl

unpacked_as_of : (shapes : List ShapeSetup) (subtype octets : List ℕ) (o : Option ShapeSetup) → shape_of shapes subtype ≡ o → IfOk (unpacked_as subtype octets o) (IsOf shapes)
unpacked_as_of shapes subtype octets None found = tt
unpacked_as_of shapes subtype octets (Some shape) found =
    let_through (length octets == size_of_fields shape.fields) (Struct subtype (pieces shape.fields octets)) WrongLength (IsOf shapes)
    (λ fit. subst (λ (o : Option ShapeSetup). OfShape o (pieces shape.fields octets)) (sym found)
    (laid_pieces shape.fields octets (sym (eqb-true (length octets) (size_of_fields shape.fields) fit))))

pub unpacked_of : (shapes : List ShapeSetup) (payload : Data) → IfOk (unpacked shapes payload) (IsOf shapes)
unpacked_of shapes Absent = tt
unpacked_of shapes (OctetData octets) =
    let_through (nat_le (length octets) 65536) (Octet octets) TooLong (IsOf shapes) (λ small. leb-true (length octets) 65536 small)
unpacked_of shapes (StructData subtype octets) = unpacked_as_of shapes subtype octets (shape_of shapes subtype) refl

-- what came of a good answer has what the answer had
then_has : {X Y : Type 0} (f : X → Y) (r : Result X BufferRefused) (P : Y → Type 0) → ((x : X) → r ≡ Ok x → P (f x)) → IfOk (then_as f r) P
then_has f (Ok x) P has = has x refl
then_has f (Err why) P has = tt

field_laid : (o : Option ShapeSetup) (name : List ℕ) (value : FieldValue) (parts new : List Piece) → with_value name value parts ≡ Ok new → OfShape o parts → OfShape o new
field_laid None name value parts new made laid = absurd laid
field_laid (Some shape) name value parts new made laid = stays_laid name value shape.fields parts new made laid

pub field_stays_of : (shapes : List ShapeSetup) (old : Content) (name : List ℕ) (value : FieldValue) → IsOf shapes old → IfOk (with_field old name value) (IsOf shapes)
field_stays_of shapes (Octet octets) name value of = tt
field_stays_of shapes (Struct subtype parts) name value of =
    then_has (λ (new : List Piece). Struct subtype new) (with_value name value parts) (IsOf shapes)
    (λ new made. field_laid (shape_of shapes subtype) name value parts new made of)

-- ---- packed and unpacked

back_as : (subtype : List ℕ) (parts : List Piece) (o : Option ShapeSetup) → OfShape o parts → unpacked_as subtype (joined parts) o ≡ Ok (Struct subtype parts)
back_as subtype parts None laid = absurd laid
back_as subtype parts (Some shape) laid =
    ap (λ (b : Bool). cond b (let r : Result Content BufferRefused = Ok (Struct subtype (pieces shape.fields (joined parts))) in r) (Err WrongLength))
    (eq-eqb (length (joined parts)) (size_of_fields shape.fields) (length-joined shape.fields parts laid))
    ∙ ap (λ (new : List Piece). let r : Result Content BufferRefused = Ok (Struct subtype new) in r) (pieces-joined shape.fields parts laid)

pub unpacked-packed : (shapes : List ShapeSetup) (content : Content) → IsOf shapes content → unpacked shapes (packed content) ≡ Ok content
unpacked-packed shapes (Octet octets) of =
    ap (λ (b : Bool). cond b (let r : Result Content BufferRefused = Ok (Octet octets) in r) (Err TooLong)) (le-leb (length octets) 65536 of)
unpacked-packed shapes (Struct subtype parts) of = back_as subtype parts (shape_of shapes subtype) of

forth_as : (subtype octets : List ℕ) (o : Option ShapeSetup) (content : Content) → unpacked_as subtype octets o ≡ Ok content → packed content ≡ StructData subtype octets
forth_as subtype octets None content made = cc
forth_as subtype octets (Some shape) content made =
    let parts = passed (length octets == size_of_fields shape.fields) (Struct subtype (pieces shape.fields octets)) content WrongLength made in
    ap packed (sym parts.1)
    ∙ ap (StructData subtype) (joined-pieces shape.fields octets (sym (eqb-true (length octets) (size_of_fields shape.fields) parts.0)))

pub packed-unpacked : (shapes : List ShapeSetup) (payload : Data) (content : Content) → unpacked shapes payload ≡ Ok content → packed content ≡ payload
packed-unpacked shapes Absent content made = cc
packed-unpacked shapes (OctetData octets) content made =
    ap packed (sym (passed (nat_le (length octets) 65536) (Octet octets) content TooLong made).1)
packed-unpacked shapes (StructData subtype octets) content made = forth_as subtype octets (shape_of shapes subtype) content made

pub same_packed : (shapes : List ShapeSetup) (a b : Content) → IsOf shapes a → IsOf shapes b → packed a ≡ packed b → a ≡ b
same_packed shapes a b of_a of_b same =
    let left = unpacked-packed shapes a of_a in
    let right = unpacked-packed shapes b of_b in
    let again = ap (unpacked shapes) same in
    cc

sound_as : (o : Option ShapeSetup) (parts : List Piece) → OfShape o parts → has_size o (length (joined parts)) ≡ true
sound_as None parts laid = absurd laid
sound_as (Some shape) parts laid = eq-eqb (size_of_fields shape.fields) (length (joined parts)) (sym (length-joined shape.fields parts laid))

pub packed_sound : (setup : Setup) (content : Content) → IsOf setup.shapes content → is_sound setup (packed content) ≡ true
packed_sound setup (Octet octets) of = le-leb (length octets) 65536 of
packed_sound setup (Struct subtype parts) of = sound_struct setup subtype (joined parts) ∙ sound_as (shape_of setup.shapes subtype) parts of
