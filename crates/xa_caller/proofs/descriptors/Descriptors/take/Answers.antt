use Rattle.std.proofs.Common.{◌≡◌, ◌+◌, ◌<◌, suc, Some, List, ◌++◌, length, drop, sym, ◌∙◌, ap, subst, arith}
use Rattle.std.specs.Prelude.{take, slice_get}
use Rattle.xa_caller.specs.declared.phase.Open.{Open}
use Rattle.xa_caller.specs.Descriptors.{InOrder, StandsAt}
use Rattle.xa_caller.proofs.Standing.{removed, found-at}
use Rattle.xa_caller.proofs.descriptors.Descriptors.take.Goals as goal

pub returns : goal.returns
returns c =
    let all : List Open = c.self.inside.all.items in
    let i = c.args.place in
    let x : Open = c.remove.result in
    let within = subst (λ (d : InOrder). i < length d.all) (sym c.self.view_is) c.requires in
    let r = removed all i x within c.remove.ensures.value in
    let next : i + 1 ≡ suc i = omega arith in
    let left = c.remove.ensures.by_index.2 ∙ ap (λ n. take i all ++ drop n all) next ∙ r.1 in
    record {
      stood = subst (λ (d : InOrder). (s : StandsAt i x d.all) × (c.remove.new.self.items ≡ s.front ++ s.back)) c.self.view_is (r.0, left);
      is = subst (λ (d : InOrder). slice_get d.all i ≡ Some x) c.self.view_is (found-at all i x within c.remove.ensures.value);
    }
