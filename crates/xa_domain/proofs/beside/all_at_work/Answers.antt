use Rattle.std.proofs.Common.{◌≡◌, ◌+◌, get_or, subst, arith}
use Rattle.xa_domain.specs.Beside.{WorkedAt}
use Rattle.xa_domain.proofs.beside.all_at_work.Goals as goal

pub returns : goal.returns
returns g c place w within =
    let same : 0 + place ≡ place = omega arith in
    subst (λ k. WorkedAt g.F.Fn c.args.work.now c.args.shared.now k (get_or c.args.workers.now place w) (get_or c.all_from.new.workers place w)) same (c.all_from.ensures.each place w within)
