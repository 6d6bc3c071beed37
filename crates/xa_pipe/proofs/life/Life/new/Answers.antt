use Rattle.std.proofs.Common.{refl, sym, subst}
use Rattle.xa_link.specs.Links.{IsFresh}
use Rattle.xa_pipe.proofs.Courses.{kept_begun}
use Rattle.xa_pipe.proofs.life.Life.new.Goals as goal

pub new-requires-clause-took : goal.new-requires-clause-took
new-requires-clause-took g c = c.requires.took

pub new-requires-clause-gave : goal.new-requires-clause-gave
new-requires-clause-gave g c = c.requires.gave

pub invariant_of-result : goal.invariant_of-result
invariant_of-result g c =
    kept_begun _ c.new-2.ensures c.new-3.ensures refl refl c.new.ensures.wrote c.new.ensures.read (subst (IsFresh c.args.name c.args.generation) (sym c.new.ensures.shows) c.requires)
