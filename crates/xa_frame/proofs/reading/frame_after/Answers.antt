use Rattle.std.proofs.Common.{List, ℕ, arith, subst}
use Rattle.xa_frame.specs.Reading.{front_at, Stands}
use Rattle.xa_frame.proofs.FieldLemmas.{IsBytes-drop}
use Rattle.xa_frame.proofs.FrontLemmas.{stands_first, within}
use Rattle.xa_frame.proofs.reading.frame_after.Goals as goal

pub returns-clause-first : goal.returns-clause-first
returns-clause-first c =
    let bytes = IsBytes-drop c.args.taken c.args.octets.now (λ i. omega (arith, c.type_inv.octets i)) in
    stands_first _ _ _ _ bytes (subst (λ (xs : List ℕ). Stands c.args.place c.front_at.new.size c.front_at.result (front_at xs)) c.split_at.ensures.back c.front_at.ensures)

pub returns-clause-within : goal.returns-clause-within
returns-clause-within c =
    let bytes = IsBytes-drop c.args.taken c.args.octets.now (λ i. omega (arith, c.type_inv.octets i)) in
    within _ _ _ _ _ c.requires (stands_first _ _ _ _ bytes (subst (λ (xs : List ℕ). Stands c.args.place c.front_at.new.size c.front_at.result (front_at xs)) c.split_at.ensures.back c.front_at.ensures))
