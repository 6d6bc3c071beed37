use Rattle.std.proofs.Common.{ℤ, arith, subst, ap, refl}
use Rattle.std.proofs.Math.Facts.{to_z-of_z}
use Rattle.std.specs.Prelude.{IfOk}
use Rattle.xa_server.specs.xa_caller.Changes.{SetsPriority}
use Rattle.xa_server.specs.xa_caller.Phases.{just_in}
use Rattle.xa_desk.proofs.Prioritizing.{set_goes}
use Rattle.xa_desk.proofs.desk.Desk.set_priority.Goals as goal

pub returns : goal.returns
returns c =
    let d = c.args.domain.now in
    let desk = c.args.self.now in
    let set = c.set_priority.ensures in
    let ok = subst (λ (z : ℤ). IfOk c.set_priority.result (λ stamp. SetsPriority c.args.op c.args.absolute z stamp c.set_priority.new.self desk.caller)) (to_z-of_z c.ranges.amount) set.ok in
    let done = set_goes d desk c.args.op c.args.absolute c.args.amount c.requires.desk (let turn = c.requires.turn in omega (arith, turn)) (ap just_in c.requires.idle) c.set_priority.new.self c.set_priority.result ok set.kept in
    record { leads = done.0; set = ok; halted = set.halted; kept = done.2; rest = refl; fits = done.1 }
