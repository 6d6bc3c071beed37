use Rattle.std.proofs.Common.{rules}
use Rattle.std.proofs.lemmas.Fn.{filter_same}
use Rattle.xa_machine.proofs.words.take_out.Goals as goal

pub returns-in-Some-clause-items : goal.returns-in-Some-clause-items
returns-in-Some-clause-items c = rw c.in-Some.is (filter_same _ _ _ (λ x b f' k. search rules) _ _ c.retain.ensures.filtered)
