use Rattle.std.proofs.Common.{◌≡◌, ◌∙◌, ap, subst, ◌-◌, List, Option, Some, None}
use Rattle.std.specs.Prelude.{slice_index_or, slice_set}
use Rattle.xa_desk.specs.Visit.{QueuePass}
use Rattle.xa_desk.proofs.Visiting.{has_at}
use Rattle.xa_desk.proofs.visit.enter.Goals as goal

pub returns-clause-at : goal.returns-clause-at
returns-clause-at g c old is same =
    let k = c.from-place.result - 1 in
    let pass = c.take_from-pass.result in
    record {
      is = is;
      pass = pass;
      has = has_at c.args.domain.now c.args.queue.0 c.from-place.result old pass c.from-place.ensures c.requires.place.0 c.requires.place.1 (subst (λ v. slice_index_or v.items k None ≡ Some pass) same c.take_from-pass.ensures.was);
      taken = ◌∙◌ {A = List (Option QueuePass)} c.take_from-pass.ensures.rest (ap (λ v. slice_set v.items k None) same);
      sees = c.enter.ensures.found;
      knows = c.enter.ensures.knows;
    }
