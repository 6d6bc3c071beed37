use Rattle.std.proofs.Common.{rules, arith, ◌≡◌, ◌∷◌, length, sym, subst}
use Rattle.xa_domain.specs.Beside.{EachMayWorkFrom, EachWorkedFrom}
use Rattle.xa_domain.proofs.Groups.{first_may, rest_may, all_worked}
use Rattle.xa_domain.proofs.beside.+all.Goals as goal

pub all_from-work_at-requires : goal.all_from-work_at-requires
all_from-work_at-requires g t c =
    let its : c.args.workers.now ≡ c.in-Some.first.now ∷ c.in-Some.rest.now = search rules in
    first_may g.F.Fn c.args.work.now c.args.shared.now c.args.from _ _ (subst (EachMayWorkFrom g.F.Fn c.args.work.now c.args.shared.now c.args.from) its c.requires.may)

pub all_from-first_beside_rest-requires-clause-first : goal.all_from-first_beside_rest-requires-clause-first
all_from-first_beside_rest-requires-clause-first g t c κs within =
    let its : c.args.workers.now ≡ c.in-Some.first.now ∷ c.in-Some.rest.now = search rules in
    first_may g.F.Fn c.args.work.now c.args.shared.now c.args.from _ _ (subst (EachMayWorkFrom g.F.Fn c.args.work.now c.args.shared.now c.args.from) its c.requires.may)

pub all_from-first_beside_rest-requires-clause-rest : goal.all_from-first_beside_rest-requires-clause-rest
all_from-first_beside_rest-requires-clause-rest g t c κs within =
    let its : c.args.workers.now ≡ c.in-Some.first.now ∷ c.in-Some.rest.now = search rules in
    rest_may g.F.Fn c.args.work.now c.args.shared.now c.args.from _ _ (subst (EachMayWorkFrom g.F.Fn c.args.work.now c.args.shared.now c.args.from) its c.requires.may)

pub all_from-returns-then-is_empty : goal.all_from-returns-then-is_empty
all_from-returns-then-is_empty g t c =
    let its : c.args.workers.now ≡ c.in-Some.first.now ∷ c.in-Some.rest.now = search rules in
    let none : length c.in-Some.rest.now ≡ 0 = search rules in
    let worked = c.work_at.ensures in
    subst (λ l. EachWorkedFrom g.F.Fn c.args.work.now c.args.shared.now c.args.from l (c.work_at.new.worker ∷ c.in-Some.rest.now)) (sym its)
    (all_worked g.F.Fn c.args.work.now c.args.shared.now c.args.from _ _ _ _ worked (record { each = λ place w within. absurd (omega (arith, within, none)) }))

pub all_from-returns-else-is_empty : goal.all_from-returns-else-is_empty
all_from-returns-else-is_empty g t c =
    let its : c.args.workers.now ≡ c.in-Some.first.now ∷ c.in-Some.rest.now = search rules in
    let worked = c.first_beside_rest.ensures in
    subst (λ l. EachWorkedFrom g.F.Fn c.args.work.now c.args.shared.now c.args.from l (c.first_beside_rest.new.first ∷ c.first_beside_rest.new.rest)) (sym its)
    (all_worked g.F.Fn c.args.work.now c.args.shared.now c.args.from _ _ _ _ worked.first worked.rest)
