-- All rows of a queue withdrawn, one after another.
use Rattle.std.proofs.Common.{◌≡◌, ℕ, ◌+◌, ◌≤◌, Bool, true, false, ◌==◌, ◌&&◌, not, cond, List, [], ◌∷◌, ◌++◌, length, refl, sym, ◌∙◌, ap, subst, arith, append_assoc, append-nil, eq-eqb}
use Rattle.std.specs.List.{All, filter}
use Rattle.std.specs.Str.{bytes_eq}
use Rattle.std.specs.Cmp.Derive.{both_true}
use Rattle.std.proofs.lemmas.Bool.{false≢true}
use Rattle.std.proofs.lemmas.List.Elements.{All-nil, All-cons, All-head, All-tail, All-weaker, filter_passes}
use Rattle.std.proofs.lemmas.List.Sums.{length-filter, count_by-le-length}
use Rattle.std.proofs.lemmas.Slice.Eq.{bytes_eq-Decides}
use Rattle.xa_types.specs.declared.stamp.Stamp.{Stamp}
use Rattle.xa_types.specs.declared.row.Row.{Row}
use Rattle.xa_types.specs.Rows.{is_row_of}
use Rattle.xa_events.specs.declared.event.Event.TheVariants.{Withdraw}
use Rattle.xa_events.specs.declared.event.Withdrawn.{Withdrawn}
use Rattle.xa_stamp.specs.declared.home.Stamped.{Stamped}
use Rattle.xa_board.specs.Board.{BoardState, ReadsAsNoted}
use Rattle.xa_board.specs.Changes.{changed, without, is_on, rows_on, withdrawals}
use Rattle.xa_board.proofs.Noted.{withdrawn-noted}

-- a filter keeps no more than there is
pub filter-le-length : (p : Row → Bool) (rows : List Row) → length (filter p rows) ≤ length rows
filter-le-length p rows = omega (arith, length-filter p rows, count_by-le-length p rows)

-- the rows without the first of these, then without the next
abbrev in_turn : List Row → List Row → List Row
in_turn [] rows = rows
in_turn (row ∷ rest) rows = in_turn rest (without row.service row.queue.0 rows)

in_turn-noted : (gone : List Row) (stamp version : ℕ) (board : BoardState) → ReadsAsNoted board → ReadsAsNoted (record { first = board.first; entries = board.entries ++ withdrawals stamp version gone; rows = in_turn gone board.rows })
in_turn-noted [] stamp version board reads =
    let P : List Stamped → Type 0 = λ entries. ReadsAsNoted (record { first = board.first; entries = entries; rows = board.rows }) in
    subst P (sym (append-nil board.entries)) reads
in_turn-noted (row ∷ rest) stamp version board reads =
    let at : Stamp = record { 0 = stamp + 1 } in
    let w : Withdrawn = record { by = record { 0 = 0 }; op = 0; service = row.service; queue = row.queue; version = version + 1 } in
    let entry : Stamped = record { stamp = at; event = Withdraw w } in
    let kept = without row.service row.queue.0 board.rows in
    let few : length kept ≤ 256 = omega (arith, filter-le-length (λ r. not (is_row_of row.service row.queue.0 r)) board.rows, reads.few) in
    let P : List Stamped → Type 0 = λ entries. ReadsAsNoted (record { first = board.first; entries = entries; rows = in_turn rest kept }) in
    subst P (append_assoc board.entries (entry ∷ []) (withdrawals (stamp + 1) (version + 1) rest))
    (in_turn-noted rest (stamp + 1) (version + 1) (changed board at (Withdraw w) kept) (withdrawn-noted board at w reads few))

-- the row is of another service or another queue than each of these
abbrev none_of : List Row → Row → Bool
none_of [] x = true
none_of (row ∷ rest) x = not (is_row_of row.service row.queue.0 x) && none_of rest x

filter-true : (rows : List Row) → filter (λ x. true) rows ≡ rows
filter-true [] = refl
filter-true (x ∷ rows) = ap (λ rest. x ∷ rest) (filter-true rows)

filter-cond : (b : Bool) (q : Row → Bool) (x : Row) (kept rest : List Row) → filter q kept ≡ rest → filter q (cond b (x ∷ kept) kept) ≡ cond (b && q x) (x ∷ rest) rest
filter-cond true q x kept rest same = ap (λ l. cond (q x) (x ∷ l) l) same
filter-cond false q x kept rest same = same

filter-twice : (p q : Row → Bool) (rows : List Row) → filter q (filter p rows) ≡ filter (λ x. p x && q x) rows
filter-twice p q [] = refl
filter-twice p q (x ∷ rows) = filter-cond (p x) q x (filter p rows) (filter (λ y. p y && q y) rows) (filter-twice p q rows)

in_turn-filter : (gone rows : List Row) → in_turn gone rows ≡ filter (none_of gone) rows
in_turn-filter [] rows = sym (filter-true rows)
in_turn-filter (row ∷ rest) rows = in_turn-filter rest (without row.service row.queue.0 rows) ∙ filter-twice (λ x. not (is_row_of row.service row.queue.0 x)) (none_of rest) rows

filter-agree : (p q : Row → Bool) (rows : List Row) → All (λ x. p x ≡ q x) rows → filter p rows ≡ filter q rows
filter-agree p q [] all = refl
filter-agree p q (x ∷ rows) all =
    ap (λ b. cond b (x ∷ filter p rows) (filter p rows)) (All-head (λ y. p y ≡ q y) x rows all) ∙ ap (λ l. cond (q x) (x ∷ l) l) (filter-agree p q rows (All-tail (λ y. p y ≡ q y) x rows all))

not_both : (a b : Bool) → b ≡ false → not (a && b) ≡ true
not_both true b is = ap not is
not_both false b is = refl

and_false : (a b : Bool) → b ≡ false → (a && b) ≡ false
and_false true b is = is
and_false false b is = refl

false_and : (a b : Bool) → a ≡ true → (not a && b) ≡ false
false_and true b is = refl
false_and false b is = absurd (false≢true is)

-- a row of another queue isn't among those of the queue
none_of-other : (queue : ℕ) (gone : List Row) (x : Row) → All (λ row. is_on queue row ≡ true) gone → is_on queue x ≡ false → none_of gone x ≡ true
none_of-other queue [] x all off = refl
none_of-other queue (row ∷ rest) x all off =
    let on : (row.queue.0 == queue) ≡ true = All-head (λ (r : Row). is_on queue r ≡ true) row rest all in
    let apart : (x.queue.0 == row.queue.0) ≡ false = grind (arith, on, off) in
    both_true (not_both (bytes_eq x.service row.service) (x.queue.0 == row.queue.0) apart) (none_of-other queue rest x (All-tail (λ (r : Row). is_on queue r ≡ true) row rest all) off)

-- each of these rows is one of them
none_of-own : (gone : List Row) → All (λ x. none_of gone x ≡ false) gone
none_of-own [] = All-nil (λ (x : Row). none_of [] x ≡ false)
none_of-own (row ∷ rest) =
    let own : is_row_of row.service row.queue.0 row ≡ true = both_true ((bytes_eq-Decides row.service row.service).1 refl) (eq-eqb row.queue.0 row.queue.0 refl) in
    All-cons (λ (x : Row). none_of (row ∷ rest) x ≡ false) row rest (false_and (is_row_of row.service row.queue.0 row) (none_of rest row) own)
    (All-weaker (λ (x : Row). none_of rest x ≡ false) (λ (x : Row). none_of (row ∷ rest) x ≡ false) (λ x off. and_false (not (is_row_of row.service row.queue.0 x)) (none_of rest x) off) rest (none_of-own rest))

All-cond : (P : Row → Type 0) (b : Bool) (x : Row) (kept : List Row) → All P (cond b (x ∷ kept) kept) → (b ≡ true → P x) × All P kept
All-cond P true x kept all = (λ on. All-head P x kept all, All-tail P x kept all)
All-cond P false x kept all = (λ on. absurd (false≢true on), all)

All-passed : (p : Row → Bool) (P : Row → Type 0) (rows : List Row) → All P (filter p rows) → All (λ x. p x ≡ true → P x) rows
All-passed p P [] all = All-nil (λ (x : Row). p x ≡ true → P x)
All-passed p P (x ∷ rows) all =
    let parts = All-cond P (p x) x (filter p rows) all in
    All-cons (λ (y : Row). p y ≡ true → P y) x rows parts.0 (All-passed p P rows parts.1)

none_of-on : (queue : ℕ) (gone : List Row) (x : Row) (b : Bool) → is_on queue x ≡ b → All (λ row. is_on queue row ≡ true) gone → (is_on queue x ≡ true → none_of gone x ≡ false) → none_of gone x ≡ not (is_on queue x)
none_of-on queue gone x true is all member = member is ∙ sym (ap not is)
none_of-on queue gone x false is all member = none_of-other queue gone x all is ∙ sym (ap not is)

in_turn-on : (queue : ℕ) (rows : List Row) → in_turn (rows_on queue rows) rows ≡ filter (λ row. not (is_on queue row)) rows
in_turn-on queue rows =
    let gone = rows_on queue rows in
    let Member : Row → Type 0 = λ x. is_on queue x ≡ true → none_of gone x ≡ false in
    let Same : Row → Type 0 = λ x. none_of gone x ≡ not (is_on queue x) in
    in_turn-filter gone rows ∙ filter-agree (none_of gone) (λ row. not (is_on queue row)) rows
    (All-weaker Member Same (λ x member. none_of-on queue gone x (is_on queue x) refl (filter_passes (is_on queue) rows) member) rows (All-passed (is_on queue) (λ x. none_of gone x ≡ false) rows (none_of-own gone)))

-- the board reads as its events do once all rows of a queue are withdrawn
pub cleared-noted : (queue stamp version : ℕ) (board : BoardState) → ReadsAsNoted board → ReadsAsNoted (record { first = board.first; entries = board.entries ++ withdrawals stamp version (rows_on queue board.rows); rows = filter (λ row. not (is_on queue row)) board.rows })
cleared-noted queue stamp version board reads =
    let P : List Row → Type 0 = λ left. ReadsAsNoted (record { first = board.first; entries = board.entries ++ withdrawals stamp version (rows_on queue board.rows); rows = left }) in
    subst P (in_turn-on queue board.rows) (in_turn-noted (rows_on queue board.rows) stamp version board reads)
