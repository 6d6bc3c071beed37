use Rattle.std.proofs.Common.{◌≡◌, true, refl, sym, subst}
use Rattle.xa_queue.specs.Queue.{all_gone}
use Rattle.xa_held.specs.Notes.{gone_in}
use Rattle.xa_held.specs.Kept.{Kept, notes_of}
use Rattle.xa_held.specs.Inner.{kept_of}
use Rattle.xa_held.proofs.Front.{is_deserted}
use Rattle.xa_held.proofs.Keeping.{quiet_kept}
use Rattle.xa_held.proofs.kept_queue.KeptQueue.down.Goals as goal

pub down-requires-clause-deserted : goal.down-requires-clause-deserted
down-requires-clause-deserted g c =
    is_deserted (kept_of c.self.inside) c.is_down.ensures.sound
    (subst (λ (k : Kept g.row.A.Denot). all_gone (gone_in (notes_of k)) k.queue.servers ≡ true) (sym c.self.view_is) c.requires.deserted)

pub invariant_of-self-2 : goal.invariant_of-self-2
invariant_of-self-2 g c = quiet_kept c.self.inside c.args.seen c.args.maker c.in_ok-noted.noted _ _ c.down.new.self c.in_ok-noted.ensures.noted refl refl (λ r. refl) tt c.self.invariant
