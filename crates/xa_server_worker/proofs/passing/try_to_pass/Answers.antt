use Rattle.std.proofs.Common.{refl, sym, ◌∙◌, ap}
use Rattle.xa_desk.specs.xa_queue.declared.entry.Entry.{Entry}
use Rattle.xa_desk.specs.xa_worker.Work.{theirs}
use Rattle.xa_desk.specs.xa_caller.Caller.{CallerState}
use Rattle.xa_desk.specs.xa_caller.Drafts.{Cargo}
use Rattle.xa_desk.specs.Passing.{forwarded_to}
use Rattle.xa_server_worker.specs.declared.passing.Tried.TheVariants as tries
use Rattle.xa_server_worker.proofs.Onward.{back_none, back_seen, forward_done, forward_by, halt_shown, still_out, retaken, tried_from}
use Rattle.xa_server_worker.specs.Reasons.{ShowsReason}
use Rattle.xa_server_worker.proofs.Reasons.{by_stays, tried_stays, tried_more}
use Rattle.xa_server_worker.proofs.passing.try_to_pass.Goals as goal

pub returns-in-Ok : goal.returns-in-Ok
returns-in-Ok g c =
    let goes = c.in-Ok.ensures.goes in
    λ service has. record {
      event = c.args.event;
      done = forward_done c.args.entry c.args.event goes.0 c.args.desk.now.reader.found.version c.requires.passing c.pass.ensures.leads (c.in-Ok.ensures.serving _ c.requires.passing) goes.2;
      by = forward_by (ShowsReason c.args.monitor.now.domain.now c.pass.new.self) (theirs c.args.desk.now.caller.work) c.args.entry c.args.event service c.requires.passing has.rows;
      to_tell = tt;
    }

pub aim_again-requires-clause-passing : goal.aim_again-requires-clause-passing
aim_again-requires-clause-passing g c =
    let not = c.in-Err.ensures in
    (c.args.event, still_out c.args.entry c.in-Err.not_passed.entry c.args.event c.args.slot.now c.pass.new.slot c.pass.new.self not.kept.0 not.back.0 (not.passing _ c.requires.passing))

pub aim_again-requires-clause-tried : goal.aim_again-requires-clause-tried
aim_again-requires-clause-tried g c =
    let d = c.args.monitor.now.domain.now in
    let not = c.in-Err.ensures in
    let new = c.pass.new.self in
    let old = c.args.desk.now in
    let sees = not.kept.1.1 in
    let reader = c.pass.ensures.board.1 in
    let tried = c.requires.tried in
    tried_more d new tried.0 c.args.attempt c.args.event c.in-Err.not_passed.why tried.1 (by_stays old new reader tried.0 c.args.event tried.2) (sym c.halt_by.ensures ∙ c.in-None.is) not.why
    (tried_stays d old new c.pass.ensures.leads (ap (λ (x : CallerState). x.work.id) sees) (ap (λ (x : CallerState). x.work.own) sees) reader tried.0 tried.3)

pub returns-in-None : goal.returns-in-None
returns-in-None g c =
    let not = c.in-Err.ensures in
    let back = back_seen c.pass.ensures.leads not.kept.1 c.pass.ensures.board.0 c.pass.ensures.board.1 in
    λ service has. tried_from c.args.monitor.now.domain.now c.args.slot.now c.pass.new.slot c.aim_again.new.slot c.args.desk.now c.pass.new.self c.aim_again.new.desk not.kept.0 back service c.args.entry.cargo.invocation.payload c.in-Err.not_passed.entry.cargo.invocation.payload c.args.attempt c.aim_again.result
    (ap (λ (e : Entry Cargo). e.cargo.invocation.payload) not.back.0) (c.aim_again.ensures service (back.found service has))

pub retake-requires : goal.retake-requires
retake-requires g c =
    let not = c.in-Err.ensures in
    let way = (still_out c.args.entry c.in-Err.not_passed.entry c.args.event c.args.slot.now c.pass.new.slot c.pass.new.self not.kept.0 not.back.0 (not.passing _ c.requires.passing)).way in
    record { out = (way.busy, way.out) }

pub returns-in-Some : goal.returns-in-Some
returns-in-Some g c =
    let d = c.args.monitor.now.domain.now in
    let not = c.in-Err.ensures in
    let back = back_seen c.pass.ensures.leads not.kept.1 c.pass.ensures.board.0 c.pass.ensures.board.1 in
    let u = c.in-Err.not_passed in
    let passing = still_out c.args.entry u.entry c.args.event c.args.slot.now c.pass.new.slot c.pass.new.self not.kept.0 not.back.0 (not.passing _ c.requires.passing) in
    let halts = halt_shown d (forwarded_to c.args.event) c.pass.new.self u.why c.in-Some.halt (sym c.halt_by.ensures ∙ c.in-Some.is) not.why in
    λ service has. tried_from d c.args.slot.now c.pass.new.slot c.retake.new.self c.args.desk.now c.pass.new.self c.pass.new.self not.kept.0 back service c.args.entry.cargo.invocation.payload c.args.entry.cargo.invocation.payload c.args.attempt (tries.Halted c.in-Some.halt) refl
    (retaken u.entry c.args.event service c.args.entry.cargo.invocation.payload c.args.attempt c.in-Some.halt passing (back_none c.pass.new.self c.pass.ensures.leads.desk) halts c.retake.ensures.hand)
