use Rattle.std.proofs.Common.{rules, subst, refl, sym}
use Rattle.xa_child.specs.declared.serving.Serving.{Serving}
use Rattle.xa_child.specs.Turns.{Hears}
use Rattle.xa_child.proofs.Turned.{hears_no_memory, hears_halted}
use Rattle.xa_child.proofs.working.hear.Goals as goal

pub returns-in_err-feed-clause-hears : goal.returns-in_err-feed-clause-hears
returns-in_err-feed-clause-hears g c = hears_no_memory c.args.serving.now (record c.args.serving.now { reader = c.feed.new.self }) _ _ _ _ _ refl (search rules)

pub returns-in_err-halt-clause-hears : goal.returns-in_err-halt-clause-hears
returns-in_err-halt-clause-hears g c = hears_no_memory c.args.serving.now c.take_all.new.self _ _ _ _ _ refl (search rules)

pub returns-clause-hears : goal.returns-clause-hears
returns-clause-hears g c =
    let fed : Serving = record c.args.serving.now { reader = c.feed.new.self } in
    subst (Hears c.args.serving.now c.take_all.new.self c.args.octets.now _ _ ⊥) (sym c.behind.ensures)
    (hears_halted c.args.serving.now fed c.take_all.new.self c.args.octets.now c.in_ok-halt.due.items _ _ c.in_ok-halt.halt refl c.feed.ensures.place c.in_ok-feed.ensures.ok c.in_ok-halt.ensures (search rules))
