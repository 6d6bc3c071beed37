-- The rows of a queue, one turn of a loop after another.
use Rattle.std.proofs.Common.{◌≡◌, ◌≢◌, ℕ, ◌+◌, ◌<◌, false, ◌==◌, cond, List, [], ◌∷◌, ◌++◌, length, drop, get_or, sym, ◌∙◌, ap, subst, suc, arith, append_assoc, length-append, eq-eqb, drop-cons}
use Rattle.xa_types.specs.declared.stamp.Stamp.{Stamp}
use Rattle.xa_types.specs.declared.row.Row.{Row}
use Rattle.xa_events.specs.declared.event.Event.TheVariants.{Withdraw}
use Rattle.xa_stamp.specs.declared.home.Stamped.{Stamped}
use Rattle.xa_board.specs.Changes.{is_on, rows_on, withdrawals}

rows_on-cons : (queue : ℕ) (rows : List Row) (i : ℕ) (row : Row) → i < length rows → row ≡ get_or rows i row → rows_on queue (drop i rows) ≡ cond (is_on queue row) (row ∷ rows_on queue (drop (i + 1) rows)) (rows_on queue (drop (i + 1) rows))
rows_on-cons queue rows i row inside is =
    let at : suc i ≡ i + 1 = omega arith in
    let here : drop i rows ≡ row ∷ drop (i + 1) rows = subst (λ k. drop i rows ≡ row ∷ drop k rows) at (drop-cons rows i row inside ∙ ap (λ r. r ∷ drop (suc i) rows) (sym is)) in
    ap (rows_on queue) here

-- a row of the queue is the first of those that are left
pub rows_on-here : (queue : ℕ) (rows : List Row) (i : ℕ) (row : Row) → i < length rows → row ≡ get_or rows i row → row.queue.0 ≡ queue → rows_on queue (drop i rows) ≡ row ∷ rows_on queue (drop (i + 1) rows)
rows_on-here queue rows i row inside is on =
    rows_on-cons queue rows i row inside is ∙ ap (λ b. cond b (row ∷ rows_on queue (drop (i + 1) rows)) (rows_on queue (drop (i + 1) rows))) (eq-eqb row.queue.0 queue on)

-- another row is none of them
pub rows_on-past : (queue : ℕ) (rows : List Row) (i : ℕ) (row : Row) → i < length rows → row ≡ get_or rows i row → row.queue.0 ≢ queue → rows_on queue (drop i rows) ≡ rows_on queue (drop (i + 1) rows)
rows_on-past queue rows i row inside is off =
    let none : (row.queue.0 == queue) ≡ false = grind (arith, off) in
    rows_on-cons queue rows i row inside is ∙ ap (λ b. cond b (row ∷ rows_on queue (drop (i + 1) rows)) (rows_on queue (drop (i + 1) rows))) none

-- the row's withdrawal, noted
abbrev pub withdrawal : Stamp → ℕ → Row → Stamped
withdrawal stamp version row =
    record { stamp = stamp; event = Withdraw (record { by = record { 0 = 0 }; op = 0; service = row.service; queue = row.queue; version = version }) }

-- the first is noted, and then the others are due
pub withdrawals-turn : (entries all : List Stamped) (stamp noted : Stamp) (row : Row) (left : List Row) → noted.0 ≡ stamp.0 + 1 → entries ++ withdrawals stamp.0 (length entries) (row ∷ left) ≡ all → (entries ++ withdrawal noted (length entries + 1) row ∷ []) ++ withdrawals noted.0 (length (entries ++ withdrawal noted (length entries + 1) row ∷ [])) left ≡ all
withdrawals-turn entries all stamp noted row left next whole =
    let e = withdrawal noted (length entries + 1) row in
    let due : ℕ → ℕ → List Stamped = λ n version. entries ++ withdrawal (record { 0 = n }) (length entries + 1) row ∷ withdrawals n version left in
    append_assoc entries (e ∷ []) (withdrawals noted.0 (length (entries ++ e ∷ [])) left) ∙ ap (due noted.0) (length-append entries (e ∷ [])) ∙ ap (λ n. due n (length entries + 1)) next ∙ whole
