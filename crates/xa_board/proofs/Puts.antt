-- Rows by their services, queues and routines alone.
use Rattle.std.proofs.Common.{◌≡◌, ℕ, Bool, true, false, ◌==◌, ◌&&◌, not, cond, List, [], ◌∷◌, ◌++◌, map, sym, ◌∙◌, ap, refl}
use Rattle.std.proofs.lemmas.List.{map-append}
use Rattle.std.specs.List.{filter}
use Rattle.std.specs.Str.{bytes_eq}
use Rattle.xa_types.specs.declared.row.Row.{Row}
use Rattle.xa_types.specs.Rows.{Change}
use Rattle.xa_types.specs.Rows.Change.{Put, Remove}
use Rattle.xa_board.specs.Board.{put_of}
use Rattle.xa_board.specs.Changes.{without}

-- the change puts a row of that service on that queue
abbrev is_put_of : List ℕ → ℕ → Change → Bool
is_put_of service queue (Put s q routine) = bytes_eq s service && (q == queue)
is_put_of service queue (Remove s q) = false

map-cond : (b : Bool) (row : Row) (kept : List Row) (rest : List Change) → map put_of kept ≡ rest → map put_of (cond b (row ∷ kept) kept) ≡ cond b (put_of row ∷ rest) rest
map-cond true row kept rest same = ap (λ puts. put_of row ∷ puts) same
map-cond false row kept rest same = same

map-filter : (p : Change → Bool) (rows : List Row) → map put_of (filter (λ row. p (put_of row)) rows) ≡ filter p (map put_of rows)
map-filter p [] = refl
map-filter p (row ∷ rows) = map-cond (p (put_of row)) row (filter (λ r. p (put_of r)) rows) (filter p (map put_of rows)) (map-filter p rows)

-- what is the same of two lists of rows stays so without a service's row
pub without-same : (service : List ℕ) (queue : ℕ) (rows others : List Row) → map put_of rows ≡ map put_of others → map put_of (without service queue rows) ≡ map put_of (without service queue others)
without-same service queue rows others same =
    let p : Change → Bool = λ change. not (is_put_of service queue change) in
    map-filter p rows ∙ ap (filter p) same ∙ sym (map-filter p others)

-- and with one more row
pub push-same : (row other : Row) (rows others : List Row) → put_of row ≡ put_of other → map put_of rows ≡ map put_of others → map put_of (rows ++ row ∷ []) ≡ map put_of (others ++ other ∷ [])
push-same row other rows others put same =
    map-append put_of rows (row ∷ []) ∙ ap (λ puts. puts ++ put_of row ∷ []) same ∙ ap (λ p. map put_of others ++ p ∷ []) put ∙ sym (map-append put_of others (other ∷ []))
