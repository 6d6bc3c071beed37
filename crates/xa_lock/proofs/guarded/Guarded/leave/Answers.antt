use Rattle.std.proofs.Common.{rules, ◌∙◌, ◌∷◌, ap, Some}
use Rattle.atomic_table.specs.Table.{rest}
use Rattle.xa_lock.proofs.Steps.{puts_keep_at}
use Rattle.xa_lock.proofs.guarded.Guarded.leave.Goals as goal

pub swap-found-requires : goal.swap-found-requires
swap-found-requires g c = let now = c.exchange.ensures.3 ∙ ap (λ m. (m.0, (0, Some c.args.held.value) ∷ rest m.1)) c.args.held.turned.out in
    (search rules, search rules, puts_keep_at g.T.Chronicle.entries g.T.Chronicle.maker _ _ _ _ _ _ now c.requires.grew)
