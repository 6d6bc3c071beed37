use Rattle.std.proofs.Common.{◌≡◌, ◌++◌, [], map, vec_len}
use Rattle.std.specs.List.{All}
use Rattle.xa_lock.specs.Known.{known}
use Rattle.xa_lock.specs.Views.{idle}
use Rattle.xa_lock.proofs.guarded.Guarded.gather.Given as goal

-- the pages of the seat are those of the passes that are gone
abbrev pub invariant-loop-pass : goal.invariant-loop-pass
invariant-loop-pass g l =
    (l.seat.table_id ≡ l.self.table.shared.table_id)
    × (l.seat.me ≡ (idle l.seat.me.0.pages, []))
    × (map known l.passes.items ++ l.seat.me.0.pages ≡ map known l.fn.passes.items)
    × All (λ p. p.badge.table_id ≡ l.self.table.shared.table_id) l.passes.items

abbrev pub decreases-loop-pass : goal.decreases-loop-pass
decreases-loop-pass g l = vec_len l.passes
