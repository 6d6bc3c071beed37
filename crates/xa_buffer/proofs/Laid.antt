-- The fields of a shape in octets.
use Rattle.std.proofs.Common.{◌≡◌, ℕ, ◌+◌, ◌-◌, ◌≤◌, List, [], ◌∷◌, ◌++◌, length, take, drop, replicate, refl, sym, ap, ap₂, ◌∙◌, arith}
use Rattle.std.proofs.lemmas.List.{take-append-drop, take-replicate, drop-replicate, length-drop, length-take-le, length-append, length-replicate, take_at, drop_at, nil_from_length}
use Rattle.std.proofs.lemmas.List.Sums.{sum_by-cons}
use Rattle.xa_types.specs.declared.setup.FieldSetup.{FieldSetup}
use Rattle.xa_types.specs.Kind.{field_size}
use Rattle.xa_buffer.specs.Layout.{Piece, size_of_fields, joined, pieces, zeroed}
use Rattle.xa_buffer.specs.Laws.{IsLaidOut}

abbrev sized : FieldSetup → ℕ
sized field = field_size field.kind

pub size_of_fields-cons : (field : FieldSetup) (fields : List FieldSetup) → size_of_fields (field ∷ fields) ≡ field_size field.kind + size_of_fields fields
size_of_fields-cons field fields = sum_by-cons sized field fields

-- the octets behind the first field are of the others
pub size_of_rest : (field : FieldSetup) (fields : List FieldSetup) (octets : List ℕ) → size_of_fields (field ∷ fields) ≡ length octets
    → (field_size field.kind ≤ length octets) × (size_of_fields fields ≡ length (drop (field_size field.kind) octets))
size_of_rest field fields octets fit =
    let size = size_of_fields-cons field fields in
    let rest = length-drop (field_size field.kind) octets in
    (omega arith, omega arith)

abbrev piece_of : FieldSetup → List ℕ → Piece
piece_of field octets = record { field = field; octets = octets }

pub pieces-replicate : (fields : List FieldSetup) (n : ℕ) → size_of_fields fields ≡ n → pieces fields (replicate n 0) ≡ zeroed fields
pieces-replicate [] n fit = refl
pieces-replicate (field ∷ fields) n fit =
    let size = size_of_fields-cons field fields in
    let room : field_size field.kind ≤ n = omega arith in
    let others : size_of_fields fields ≡ n - field_size field.kind = omega arith in
    ap₂ (λ (octets : List ℕ) (rest : List Piece). piece_of field octets ∷ rest) (take-replicate (field_size field.kind) n 0 room)
    (ap (pieces fields) (drop-replicate (field_size field.kind) n 0) ∙ pieces-replicate fields (n - field_size field.kind) others)

pub joined-pieces : (fields : List FieldSetup) (octets : List ℕ) → size_of_fields fields ≡ length octets → joined (pieces fields octets) ≡ octets
joined-pieces [] octets fit = sym (nil_from_length octets (sym fit))
joined-pieces (field ∷ fields) octets fit =
    let n = field_size field.kind in
    ap (λ (rest : List ℕ). take n octets ++ rest) (joined-pieces fields (drop n octets) (size_of_rest field fields octets fit).1)
    ∙ take-append-drop n octets

pub pieces-joined : (fields : List FieldSetup) (parts : List Piece) → IsLaidOut fields parts → pieces fields (joined parts) ≡ parts
pieces-joined [] [] laid = refl
pieces-joined [] (piece ∷ parts) laid = absurd laid
pieces-joined (field ∷ fields) [] laid = absurd laid
pieces-joined (field ∷ fields) (piece ∷ parts) laid =
    let n = field_size field.kind in
    ap₂ (λ (first : Piece) (others : List Piece). first ∷ others)
    (ap₂ piece_of (sym laid.0) (take_at piece.octets (joined parts) n laid.1))
    (ap (pieces fields) (drop_at piece.octets (joined parts) n laid.1) ∙ pieces-joined fields parts laid.2)

pub laid_pieces : (fields : List FieldSetup) (octets : List ℕ) → size_of_fields fields ≡ length octets → IsLaidOut fields (pieces fields octets)
laid_pieces [] octets fit = tt
laid_pieces (field ∷ fields) octets fit =
    let rest = size_of_rest field fields octets fit in
    (refl, length-take-le (field_size field.kind) octets rest.0, laid_pieces fields (drop (field_size field.kind) octets) rest.1)

pub laid_zeroed : (fields : List FieldSetup) → IsLaidOut fields (zeroed fields)
laid_zeroed [] = tt
laid_zeroed (field ∷ fields) = (refl, length-replicate (field_size field.kind) 0, laid_zeroed fields)

pub length-joined : (fields : List FieldSetup) (parts : List Piece) → IsLaidOut fields parts → length (joined parts) ≡ size_of_fields fields
length-joined [] [] laid = refl
length-joined [] (piece ∷ parts) laid = absurd laid
length-joined (field ∷ fields) [] laid = absurd laid
length-joined (field ∷ fields) (piece ∷ parts) laid =
    let size = size_of_fields-cons field fields in
    let rest = length-joined fields parts laid.2 in
    let all = length-append piece.octets (joined parts) in
    let here = laid.1 in
    omega arith
