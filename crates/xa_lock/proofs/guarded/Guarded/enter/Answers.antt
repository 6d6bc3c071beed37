use Rattle.std.proofs.Common.{rules, ◌∙◌, ◌∷◌, ap, sym, Some}
use Rattle.atomic_table.specs.Table.{rest}
use Rattle.xa_lock.proofs.Steps.{one_idle}
use Rattle.xa_lock.proofs.guarded.Guarded.enter.Goals as goal

pub take_out-requires-clause-free : goal.take_out-requires-clause-free
take_out-requires-clause-free g c = one_idle _ _ c.into_seat-seat.ensures.me

pub exchange-requires : goal.exchange-requires
exchange-requires g c = let took = c.take_out.ensures.out in let out = ap (λ m. m.1) took.1 in (search rules, (Some took.0, out ∙ ap (λ l. (0, Some took.0) ∷ rest l) (sym out)))
