use Rattle.std.proofs.Common.{◌∙◌, sym, subst, refl, arith}
use Rattle.std.proofs.lemmas.List.{length-map}
use Rattle.std.specs.Option.{IsSome}
use mathlib.Core.Option.{some-injective}
use Rattle.xa_lock.specs.Known.{known}
use Rattle.xa_lock.specs.Pages.{Knows}
use Rattle.xa_lock.proofs.Lists.{unmap}
use Rattle.xa_lock.proofs.Steps.{closes_at, ends}
use Rattle.xa_lock.proofs.guarded.Guarded.close.Goals as goal

pub gather-seat-requires-clause-some : goal.gather-seat-requires-clause-some
gather-seat-requires-clause-some g c = omega (arith, c.requires.all, c.args.self.some)

pub unwrap-value-requires : goal.unwrap-value-requires
unwrap-value-requires g c =
    let k = closes_at g.T.Chronicle.entries g.T.Chronicle.maker _ _ _ _ _ _ c.gather-seat.ensures.me (length-map _ known ∙ c.requires.all) c.close_with-closed.ensures.values.2 in
    subst IsSome (some-injective _ _ (sym k.1 ∙ c.take.ensures.value)) refl

pub returns-clause-known : goal.returns-clause-known
returns-clause-known g c =
    let k = closes_at g.T.Chronicle.entries g.T.Chronicle.maker _ _ _ _ _ _ c.gather-seat.ensures.me (length-map _ known ∙ c.requires.all) c.close_with-closed.ensures.values.2 in
    unmap (λ p. Knows g.T.Chronicle.maker p (g.T.Chronicle.entries c.unwrap-value.result)) known _ (ends g.T.Chronicle.entries g.T.Chronicle.maker _ _ _ _ _ k c.take.ensures.value c.unwrap-value.ensures).0

pub returns-clause-makers : goal.returns-clause-makers
returns-clause-makers g c =
    let k = closes_at g.T.Chronicle.entries g.T.Chronicle.maker _ _ _ _ _ _ c.gather-seat.ensures.me (length-map _ known ∙ c.requires.all) c.close_with-closed.ensures.values.2 in
    (ends g.T.Chronicle.entries g.T.Chronicle.maker _ _ _ _ _ k c.take.ensures.value c.unwrap-value.ensures).1
