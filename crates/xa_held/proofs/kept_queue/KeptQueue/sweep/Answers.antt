use Rattle.std.proofs.Common.{◌≡◌, true, sym, subst}
use Rattle.xa_held.specs.Notes.{is_down_in}
use Rattle.xa_held.specs.Kept.{Kept, notes_of}
use Rattle.xa_held.specs.Inner.{kept_of}
use Rattle.xa_held.proofs.Front.{is_fallen}
use Rattle.xa_held.proofs.Keeping.{sweep_kept}
use Rattle.xa_held.proofs.kept_queue.KeptQueue.sweep.Goals as goal

pub invariant_of-self : goal.invariant_of-self
invariant_of-self g c = sweep_kept c.self.inside c.args.seen c.args.maker c.sweep.result c.sweep.new.self c.sweep.ensures.swept c.sweep.ensures.worn c.self.invariant

pub sweep-requires-clause-down : goal.sweep-requires-clause-down
sweep-requires-clause-down g c =
    is_fallen (kept_of c.self.inside) c.len-waits.ensures.sound
    (subst (λ (k : Kept g.row.A.Denot). is_down_in k.queue.id.0 (notes_of k) ≡ true) (sym c.self.view_is) c.requires.down)
