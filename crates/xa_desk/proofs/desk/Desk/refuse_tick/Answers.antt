use Rattle.std.proofs.Common.{ℕ, Option, sym, ap, refl, subst, arith}
use Rattle.std.specs.Prelude.{IfSome, ◌≤◌}
use Rattle.xa_server.specs.xa_caller.Changes.{Refuses}
use Rattle.xa_server.specs.xa_caller.Phases.{just_in}
use Rattle.xa_desk.specs.Ticking.{IsTickRefusal}
use Rattle.xa_desk.proofs.Fitting.{is_read}
use Rattle.xa_desk.proofs.Refusals.{refuse_tick_goes, is_tick_refusal, tick_shows, tick_owns, tick_versions, ok_both}
use Rattle.xa_desk.proofs.desk.Desk.refuse_tick.Goals as goal

pub refuse-requires-clause-shows : goal.refuse-requires-clause-shows
refuse-requires-clause-shows c = tick_shows c.args.domain.now c.args.self.now c.requires.desk c.args.n c.args.fault c.args.evidence c.requires.so

pub refuse-requires-clause-own : goal.refuse-requires-clause-own
refuse-requires-clause-own c = tick_owns c.args.domain.now c.args.self.now c.args.n c.args.fault c.args.evidence c.requires.so

pub refuse-requires-clause-recent : goal.refuse-requires-clause-recent
refuse-requires-clause-recent c = subst (λ (o : Option ℕ). IfSome o (λ version. c.args.self.now.caller.least ≤ version)) (sym (tick_versions c.args.domain.now c.args.self.now c.args.n c.args.fault c.args.evidence c.requires.so)) tt

pub returns : goal.returns
returns c =
    let d = c.args.domain.now in
    let desk = c.args.self.now in
    let reads = is_read d desk c.requires.desk c.id-itself.ensures.sound in
    let refuse = c.refuse.ensures in
    let done = refuse_tick_goes d desk c.requires.desk reads c.args.op c.args.n c.args.fault c.args.evidence c.requires.so (let turn = c.requires.turn in omega (arith, turn)) (ap just_in c.requires.idle) c.refuse.new.self c.refuse.result refuse.ok refuse.kept in
    record { leads = done.0; refused = ok_both (λ stamp. Refuses c.args.op c.args.fault c.args.evidence stamp c.refuse.new.self desk.caller) (IsTickRefusal desk.caller c.args.fault c.args.evidence) (is_tick_refusal d desk c.requires.desk c.args.n c.args.fault c.args.evidence c.requires.so) c.refuse.result refuse.ok; halted = refuse.halted; kept = done.2; rest = refl; fits = done.1 }
