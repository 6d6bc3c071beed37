use Rattle.std.proofs.Common.{◌≡◌, ◌+◌, [], ◌∷◌, ◌++◌, List, length, drop, arith, ap, sym, ◌∙◌}
use Rattle.xa_stamp.specs.declared.home.Stamped.{Stamped}
use Rattle.xa_stamp.specs.Home.{last_stamp}
use Rattle.xa_stamp.proofs.Stamps.{last_stamp-push}
use Rattle.xa_board.specs.Changes.{rows_on, withdrawals}
use Rattle.xa_board.proofs.Turns.{rows_on-here, withdrawal, withdrawals-turn}
use Rattle.xa_board.proofs.board.note_withdrawals.Goals as goal

pub loop-row-preserved : goal.loop-row-preserved
loop-row-preserved c =
    let row = c.row-item.result in
    let home = c.loop-row.home in
    let noted = c.in-Ok.noted in
    let left = rows_on c.args.queue.0 (drop (c.loop-row.row-index + 1) c.args.rows.now) in
    let here : rows_on c.args.queue.0 (drop c.loop-row.row-index c.args.rows.now) ≡ row ∷ left = rows_on-here c.args.queue.0 c.args.rows.now c.loop-row.row-index row c.loop-row-test.true c.row-item.is c.if-row-queue.false in
    let more = ap length here in
    let next : noted.0 ≡ c.loop-row.stamp.0 + 1 = omega (arith, c.in-Ok.ensures.stamp.0, c.loop-row.invariant.1) in
    let e : Stamped = withdrawal noted (length home.entries + 1) row in
    let entries : c.note.new.self.entries ≡ home.entries ++ e ∷ [] = c.in-Ok.ensures.entries ∙ ap (λ (l : List Stamped). home.entries ++ withdrawal noted (length l + 1) row ∷ []) c.entries.ensures.value in
    let last : last_stamp c.note.new.self.first c.note.new.self.entries ≡ noted.0 = rw entries (last_stamp-push c.note.new.self.first home.entries e) in
    let all = c.args.home.now.entries ++ withdrawals c.args.seen.0 (length c.args.home.now.entries) (rows_on c.args.queue.0 c.args.rows.now) in
    let whole : home.entries ++ withdrawals c.loop-row.stamp.0 (length home.entries) (row ∷ left) ≡ all = ap (λ l. home.entries ++ withdrawals c.loop-row.stamp.0 (length home.entries) l) (sym here) ∙ c.loop-row.invariant.4 in (
      c.note.ensures.first ∙ c.loop-row.invariant.0,
      omega (arith, last),
      omega (arith, more, c.loop-row.invariant.2, c.note.ensures.room),
      omega (arith, more, c.loop-row.invariant.3, next),
      rw entries (withdrawals-turn home.entries all c.loop-row.stamp noted row left next whole),
    )
