use Rattle.std.proofs.Common.{◌≡◌, false, arith, refl, sym, ◌∙◌, ap, subst}
use Rattle.std.specs.Prelude.{IfOk}
use Rattle.xa_server.specs.xa_types.declared.setup.Setup.{Setup}
use Rattle.xa_server.specs.xa_events.Calls.{is_invalid_call}
use Rattle.xa_server.specs.xa_caller.Phases.{just_in}
use Rattle.xa_desk.proofs.Preparing.{checked_goes}
use Rattle.xa_desk.proofs.desk.Desk.check.Goals as goal

pub check-requires-clause-shapes : goal.check-requires-clause-shapes
check-requires-clause-shapes c = c.requires.domain.shapes ∙ ap (λ (s : Setup). s.shapes) (sym c.requires.desk.setup)

pub returns : goal.returns
returns c =
    let d = c.args.domain.now in
    let desk = c.args.self.now in
    let done = checked_goes d desk c.args.op c.args.ask.now c.requires.desk (let turn = c.requires.turn in omega (arith, turn)) (ap just_in c.requires.idle) c.check.new.self c.check.result c.check.ensures.kept c.check.ensures.refused in
    record { ok = subst (λ (s : Setup). IfOk c.check.result (λ name. (is_invalid_call s c.args.ask.now ≡ false) × (name ≡ c.args.ask.now.service))) c.requires.desk.setup c.check.ensures.ok; kept = done.1; leads = done.0.0; refused = done.2; rest = refl; fits = done.0.1 }
