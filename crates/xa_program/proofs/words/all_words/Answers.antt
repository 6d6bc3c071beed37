use Rattle.std.proofs.Common.{rules, ◌≡◌, ◌++◌, ◌∷◌, [], ◌+◌, ℕ, List, Some, take, sym, subst}
use Rattle.std.specs.Prelude.{IfSome}
use Rattle.xa_domain.specs.xa_link.Arguments.{word_at}
use Rattle.xa_program.proofs.Failing.{none_made}
use Rattle.xa_program.proofs.Given.{taken_none, taken_more, taken_all}
use Rattle.xa_program.proofs.words.all_words.Goals as goal

pub loop-place-preserved : goal.loop-place-preserved
loop-place-preserved g c =
    let items : c.push.new.self.items ≡ c.loop-place.all.items ++ c.in-Some.word ∷ [] = search rules in
    let there : IfSome (g.A.Arguments.words c.args.given.now) (λ ws. Some c.in-Some.word ≡ word_at ws c.loop-place.place) = search rules in
    subst (λ (xs : List (List ℕ)). IfSome (g.A.Arguments.words c.args.given.now) (λ ws. xs ≡ take (c.loop-place.place + 1) ws)) (sym items)
    (taken_more (g.A.Arguments.words c.args.given.now) c.loop-place.all.items c.loop-place.place c.in-Some.word c.loop-place.invariant there)

pub loop-place-init : goal.loop-place-init
loop-place-init g c = taken_none (g.A.Arguments.words c.args.given.now) c.new-all.result.items c.new-all.ensures.items

pub returns-in-None : goal.returns-in-None
returns-in-None g c =
    taken_all (g.A.Arguments.words c.args.given.now) c.loop-place.all.items c.loop-place.place c.in_ok-word.field-0 c.in-None.is c.loop-place.invariant c.in_ok-word.ensures

pub returns-in_err-word : goal.returns-in_err-word
returns-in_err-word g c = none_made c.from_residual.result _ _ c.from_residual.ensures.1

pub returns-in_err-push-in-Some : goal.returns-in_err-push-in-Some
returns-in_err-push-in-Some g c = none_made c.from_residual-in_err-push-in-Some.result _ _ c.from_residual-in_err-push-in-Some.ensures.1
