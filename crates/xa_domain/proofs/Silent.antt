-- The domain's own seat lets go of what waits at a queue, and nothing that it fills has an answer.
use Rattle.std.proofs.Common.{◌≡◌, ◌≢◌, ℕ, [], ◌∷◌, ◌++◌, None, sym, ◌∙◌, subst, ⊎_elim}
use Rattle.std.specs.List.{All}
use Rattle.std.proofs.lemmas.List.Elements.{All-push, All-same}
use Rattle.xa_boot.specs.xa_cell.declared.cells.Cells.{Cells}
use Rattle.xa_boot.specs.xa_cell.declared.filler.Filled.{Filled}
use Rattle.xa_boot.specs.xa_cell.declared.filler.Filled.TheVariants.{Delivered, Dropped}
use Rattle.xa_boot.specs.xa_cell.declared.tokens.Seat.{Seat}
use Rattle.xa_boot.specs.xa_cell.declared.tokens.Ticket.{Ticket}
use Rattle.xa_boot.specs.xa_cell.declared.view.Fill.{Fill}
use Rattle.xa_boot.specs.xa_cell.declared.view.View.{View}
use Rattle.xa_boot.specs.xa_cell.Growing.{FillAdds}
use Rattle.xa_boot.specs.xa_cell.Known.{known, SameSeat}
use Rattle.xa_boot.specs.xa_cell.Places.{Stand}
use Rattle.xa_boot.specs.xa_cell.Views.{at, fill}
use Rattle.xa_boot.proofs.xa_cell.Lists.{decided}
use Rattle.xa_boot.specs.xa_caller.declared.cargo.Filling.{Filling}
use Rattle.xa_domain.specs.Locks.{IsSilent}

abbrev pub HasNone : Fill Filling → Type 0
HasNone f = f.answer.answer ≡ None

module _ (ticket : Ticket Filling) (answer : Filling) (none : answer.answer ≡ None) (v w : View Filling) (before : (k : ℕ) → All HasNone (at k v).filled) where
  still_none : (done : Filled Filling) → FillAdds ticket answer v w done → (k : ℕ) → All HasNone (at k w).filled
  still_none Delivered adds k =
      let more = adds.2 in
      ⊎_elim
      (λ (here : k ≡ ticket.cell). subst (λ j. All HasNone (at j w).filled) (sym here)
      (All-same HasNone (at ticket.cell w).filled ((at ticket.cell v).filled ++ fill adds.0 answer ∷ []) more.filled (All-push HasNone (at ticket.cell v).filled (fill adds.0 answer) (before ticket.cell) none)))
      (λ (other : k ≢ ticket.cell). All-same HasNone (at k w).filled (at k v).filled (more.others k other).filled (before k))
      (decided k ticket.cell)
  still_none (Dropped back) adds k = All-same HasNone (at k w).filled (at k v).filled (adds.each k).filled (before k)

pub still_silent : (cells : Cells Filling) (old new : Seat Filling) (ticket : Ticket Filling) (answer : Filling) (done : Filled Filling)
    → FillAdds ticket answer (known old) (known new) done → answer.answer ≡ None → IsSilent cells old → SameSeat cells old new → Stand (known old) (known new) → IsSilent cells new
still_silent cells old new ticket answer done adds none was same stand = record {
  is = same.0;
  shut = record { asked = λ k. (stand.each k).0 ∙ was.shut.asked k };
  silent = still_none ticket answer none (known old) (known new) was.silent done adds;
}
