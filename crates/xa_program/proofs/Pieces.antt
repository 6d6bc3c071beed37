-- What is written in pieces, one after another.
use Rattle.std.proofs.Common.{◌≡◌, ℕ, suc, ◌+◌, ◌<◌, List, [], ◌∷◌, ◌++◌, length, take, drop, get_or, Option, Result, Ok, Err, sym, ◌∙◌, ap, subst, arith, append-nil, length-append, drop-cons}
use Rattle.std.specs.List.{flat_map}
use Rattle.std.specs.Result.{OnErr}
use Rattle.std.proofs.lemmas.Grind.{flat_map-append}
use Rattle.std.proofs.lemmas.List.{take_more, take-append-drop, take-append-le}
use Rattle.std.proofs.Math.Seq.{take-append-add}
use Rattle.xa_domain.specs.xa_link.Told.{Grew, GrewByPart}
use Rattle.xa_link.proofs.Pieces.{grew_then}

abbrev pub joined : List (List ℕ) → List ℕ
joined pieces = flat_map (λ piece. piece) pieces

-- the first pieces with the next one
pub joined_more : (pieces : List (List ℕ)) (i : ℕ) (piece : List ℕ) → i < length pieces → piece ≡ get_or pieces i piece → joined (take (i + 1) pieces) ≡ joined (take i pieces) ++ piece
joined_more pieces i piece low is =
    ap joined (take_more pieces i piece low) ∙ (flat_map-append (λ (p : List ℕ). p) (take i pieces) (get_or pieces i piece ∷ [])
    ∙ ap (λ l. joined (take i pieces) ++ l) (append-nil (get_or pieces i piece) ∙ sym is))

-- after the first pieces a part of the next is a part of all
pub part_of_all : (a b d : Option (List ℕ)) (pieces : List (List ℕ)) (i : ℕ) (piece : List ℕ) → i < length pieces → piece ≡ get_or pieces i piece
    → Grew a b (joined (take i pieces)) → GrewByPart b d piece → GrewByPart a d (joined pieces)
part_of_all a b d pieces i piece low is first (n, few, next) =
    let front = joined (take i pieces) in
    let rest = joined (drop (i + 1) pieces) in
    let at : suc i ≡ i + 1 = omega arith in
    let here : drop i pieces ≡ piece ∷ drop (i + 1) pieces = subst (λ k. drop i pieces ≡ piece ∷ drop k pieces) at (drop-cons pieces i piece low ∙ ap (λ p. p ∷ drop (suc i) pieces) (sym is)) in
    let parts : joined pieces ≡ front ++ (piece ++ rest) =
    ap joined (sym (take-append-drop i pieces)) ∙ (flat_map-append (λ (p : List ℕ). p) (take i pieces) (drop i pieces) ∙ ap (λ l. front ++ joined l) here) in
    let whole : take (length front + n) (joined pieces) ≡ front ++ take n piece =
    ap (λ l. take (length front + n) l) parts ∙ (take-append-add front (piece ++ rest) n ∙ ap (λ l. front ++ l) (take-append-le n piece rest (omega (arith, few)))) in
    let size = ap length parts in
    (length front + n, omega (arith, few, size, length-append front (piece ++ rest), length-append piece rest), subst (λ xs. Grew a d xs) (sym whole) (grew_then a b d front (take n piece) first next))

pub on_any : {X E : Type 0} (P : Type 0) (result : Result X E) → P → OnErr result P
on_any P (Ok x) holds = tt
on_any P (Err e) holds = holds
