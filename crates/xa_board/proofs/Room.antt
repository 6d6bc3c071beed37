-- There is room for a row that may be put.
use Rattle.std.proofs.Common.{◌≡◌, ℕ, ◌+◌, ◌≤◌, ◌<◌, Bool, true, false, not, cond, List, [], ◌∷◌, length, Option, Some, None, refl, sym, arith}
use Rattle.std.specs.List.{filter, find}
use Rattle.xa_types.specs.declared.row.Row.{Row}
use Rattle.xa_types.specs.Rows.{is_row_of, row_of}
use Rattle.xa_board.specs.Changes.{without, bars_put}
use Rattle.xa_board.proofs.Withdrawn.{filter-le-length}

find-cond : (b : Bool) (x row : Row) (later : Option Row) (kept : List Row) (n : ℕ) → length kept ≤ n → (later ≡ Some row → length kept < n) → cond b (Some x) later ≡ Some row → length (cond (not b) (x ∷ kept) kept) < n + 1
find-cond true x row later kept n most less is = omega (arith, most)
find-cond false x row later kept n most less is = let few = less is in omega (arith, few)

-- a filter leaves out what is found by the contrary
filter-found : (p : Row → Bool) (rows : List Row) (row : Row) → find p rows ≡ Some row → length (filter (λ r. not (p r)) rows) < length rows
filter-found p [] row is = absurd cc
filter-found p (x ∷ rows) row is =
    let others = λ (r : Row). not (p r) in
    let less = find-cond (p x) x row (find p rows) (filter others rows) (length rows) (filter-le-length others rows) (filter-found p rows row) is in
    omega (arith, less)

room-for : (row : Row) (rows : List Row) (found : Option Row) → found ≡ row_of row.service row.queue.0 rows → length rows ≤ 256 → bars_put row rows found ≡ None → length (without row.service row.queue.0 rows) < 256
room-for row rows None is few free =
    let kept = filter-le-length (λ r. not (is_row_of row.service row.queue.0 r)) rows in
    grind (arith, kept, few, free)
room-for row rows (Some found) is few free =
    let less = filter-found (is_row_of row.service row.queue.0) rows found (sym is) in
    omega (arith, less, few)

-- where nothing bars the row, fewer than 256 stand beside it
pub room-to_put : (row : Row) (rows : List Row) → length rows ≤ 256 → bars_put row rows (row_of row.service row.queue.0 rows) ≡ None → length (without row.service row.queue.0 rows) < 256
room-to_put row rows few free = room-for row rows (row_of row.service row.queue.0 rows) refl few free
