use Rattle.std.proofs.Common.{sym, subst, arith}
use Rattle.xa_worker.specs.Work.{WorkState}
use Rattle.xa_caller.specs.Kept.{IsKept}
use Rattle.xa_caller.proofs.caller.Caller.saw.Goals as goal

pub invariant_of-self : goal.invariant_of-self
invariant_of-self c =
    let i = c.self.invariant in
    let w : WorkState = c.self.inside.work in
    let few = i.few in
    subst (λ (v : WorkState). IsKept (record c.self.inside { work = v })) (sym c.saw.ensures) (record {
      sound = record { reads = i.sound.reads; served = i.sound.served };
      holds = i.holds;
      places = i.places;
      seated = i.seated;
      few = omega (arith, few);
    })
