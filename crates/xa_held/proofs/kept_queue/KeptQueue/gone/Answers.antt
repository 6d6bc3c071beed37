use Rattle.std.proofs.Common.{◌≡◌, ◌+◌, sym, subst}
use Rattle.std.specs.List.{All}
use Rattle.xa_lock.specs.Pages.{entries_by}
use Rattle.xa_held.specs.Notes.{maker_of, IsOther}
use Rattle.xa_held.specs.Kept.{Kept, notes_of}
use Rattle.xa_held.specs.Inner.{kept_of}
use Rattle.xa_held.proofs.Keeping.{is_left, gone_kept}
use Rattle.xa_held.proofs.kept_queue.KeptQueue.gone.Goals as goal

pub gone-requires-clause-left : goal.gone-requires-clause-left
gone-requires-clause-left g c =
    let ours = subst (λ (k : Kept g.row.A.Denot). c.args.maker.0 ≡ k.clients + c.args.server.0) (sym c.self.view_is) c.requires.maker in
    let others = subst (λ (k : Kept g.row.A.Denot). All (IsOther c.args.server) (entries_by maker_of c.args.maker.0 (notes_of k))) (sym c.self.view_is) c.requires.left in
    is_left (kept_of c.self.inside) c.args.server c.args.maker.0 ours c.self.invariant.owners c.len-waits.ensures.sound others

pub invariant_of-self : goal.invariant_of-self
invariant_of-self g c =
    let ours = subst (λ (k : Kept g.row.A.Denot). c.args.maker.0 ≡ k.clients + c.args.server.0) (sym c.self.view_is) c.requires.maker in
    gone_kept c.self.inside c.args.seen c.args.maker c.args.server c.gone.result c.gone.new.self ours c.gone.ensures.noted c.gone.ensures.worn c.self.invariant
