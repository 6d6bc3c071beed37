use Rattle.std.proofs.Common.{◌≡◌, ◌+◌, sym, subst}
use Rattle.std.specs.List.{All}
use Rattle.xa_lock.specs.Pages.{entries_by}
use Rattle.xa_held.specs.Notes.{maker_of, IsOther}
use Rattle.xa_held.specs.Kept.{Kept, notes_of, Becomes}
use Rattle.xa_held.specs.Inner.{kept_of}
use Rattle.xa_held.specs.Steps.{TookAs}
use Rattle.xa_held.proofs.Keeping.{is_left, take_kept, took}
use Rattle.xa_held.proofs.kept_queue.KeptQueue.take.Goals as goal

pub take-requires-clause-left : goal.take-requires-clause-left
take-requires-clause-left g c =
    let ours = subst (λ (k : Kept g.row.A.Denot). c.args.maker.0 ≡ k.clients + c.args.server.0) (sym c.self.view_is) c.requires.maker in
    let others = subst (λ (k : Kept g.row.A.Denot). All (IsOther c.args.server) (entries_by maker_of c.args.maker.0 (notes_of k))) (sym c.self.view_is) c.requires.left in
    is_left (kept_of c.self.inside) c.args.server c.args.maker.0 ours c.self.invariant.owners c.len-waits.ensures.sound others

pub invariant_of-self : goal.invariant_of-self
invariant_of-self g c = take_kept c.self.inside c.args.seen c.args.maker c.args.server c.args.generation c.take.result c.take.new.self c.take.ensures.taken c.take.ensures.worn c.self.invariant

pub returns : goal.returns
returns g c =
    subst (λ (k : Kept g.row.A.Denot). TookAs (Becomes k (kept_of (record { queue = c.take.new.self; clients = c.self.inside.clients; cells = c.self.inside.cells }))) c.args.seen c.args.maker c.args.server c.args.generation c.take.result) c.self.view_is
    (took c.self.inside c.args.seen c.args.maker c.args.server c.args.generation c.take.result c.take.new.self c.take.ensures.taken c.take.ensures.worn c.take.ensures.some c.self.invariant)
