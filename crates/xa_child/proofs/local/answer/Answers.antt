use Rattle.std.proofs.Common.{rules, refl, subst, sym, ◌≡◌, Ok, ◌++◌}
use Rattle.xa_child.specs.declared.serving.Serving.{Serving}
use Rattle.xa_child.specs.Serving.{TakesUpTo}
use Rattle.xa_child.specs.Turns.{behind}
use Rattle.xa_child.specs.LocalHolds.{Holds}
use Rattle.xa_child.proofs.LocalSteps.{local_holds}
use Rattle.xa_child.proofs.local.answer.Goals as goal

pub returns-clause-holds : goal.returns-clause-holds
returns-clause-holds c = λ name h.
    let fed : Serving = record c.args.serving.now { reader = c.feed.new.self } in
    let read : c.feed.new.self.rest ≡ c.args.serving.now.reader.rest ++ c.args.octets.now = search rules in
    let ok : c.take_all.result ≡ Ok (c.in-Ok.halt, c.in-Ok.due) = search rules in
    let takes : TakesUpTo fed c.take_all.new.self c.in-Ok.due.items c.in-Ok.halt = search (rules, ok, c.take_all.ensures) in
    let on : behind c.in-Ok.halt ≡ Ok c.in-Ok-behind.more = search rules in
    let taken : c.keep.new.taken.items ≡ c.args.taken.now.items ++ c.args.octets.now = search rules in
    let given : c.keep.new.given.items ≡ c.args.given.now.items ++ c.in-Ok.due.items = search rules in
    subst (λ z. Holds name c.in-Ok-behind.more c.take_all.new.self z c.keep.new.given.items) (sym taken)
    (subst (λ z. Holds name c.in-Ok-behind.more c.take_all.new.self (c.args.taken.now.items ++ c.args.octets.now) z) (sym given)
    (local_holds name c.args.taken.now.items c.args.given.now.items c.args.octets.now c.in-Ok.due.items c.args.serving.now fed c.take_all.new.self c.in-Ok.halt c.in-Ok-behind.more on refl c.feed.ensures.place read takes h))
