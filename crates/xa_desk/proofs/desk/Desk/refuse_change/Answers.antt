use Rattle.std.proofs.Common.{ap, refl, arith}
use Rattle.xa_server.specs.xa_caller.Changes.{Refuses}
use Rattle.xa_server.specs.xa_caller.Phases.{just_in}
use Rattle.xa_desk.specs.Advertising.{IsChangeRefusal}
use Rattle.xa_desk.proofs.Fitting.{is_read}
use Rattle.xa_desk.proofs.Refusals.{is_backed, is_change_refusal, refuse_goes, ok_both}
use Rattle.xa_desk.proofs.desk.Desk.refuse_change.Goals as goal

pub returns : goal.returns
returns c =
    let d = c.args.domain.now in
    let desk = c.args.self.now in
    let reads = is_read d desk c.requires.desk c.id-itself.ensures.sound in
    let backed = is_backed d desk c.requires.desk reads c.requires.so.0 c.args.fault c.args.evidence c.requires.so.1 in
    let refuse = c.refuse.ensures in
    let done = refuse_goes d desk c.requires.desk reads c.args.op c.args.fault c.args.evidence backed (let turn = c.requires.turn in omega (arith, turn)) (ap just_in c.requires.idle) c.refuse.new.self c.refuse.result refuse.ok refuse.kept in
    record { leads = done.0; refused = ok_both (λ stamp. Refuses c.args.op c.args.fault c.args.evidence stamp c.refuse.new.self desk.caller) (IsChangeRefusal c.args.fault c.args.evidence) (is_change_refusal d desk c.requires.so.0 c.args.fault c.args.evidence c.requires.so.1) c.refuse.result refuse.ok; halted = refuse.halted; kept = done.2; rest = refl; fits = done.1 }
