use Rattle.std.proofs.Common.{refl}
use Rattle.xa_desk.proofs.Fitting.{is_read}
use Rattle.xa_desk.proofs.Replying.{step_goes}
use Rattle.xa_desk.proofs.desk.Desk.look_for_reply.Goals as goal

pub returns : goal.returns
returns c =
    let d = c.args.domain.now in
    let desk = c.args.self.now in
    let goes = step_goes d desk c.call_reply.new.self c.requires.desk c.call_reply.ensures.cells.0 (is_read d desk c.requires.desk c.id-itself.ensures.sound) c.args.expect.now c.call_reply.result c.call_reply.ensures.step in
    record { leads = goes.0; step = c.call_reply.ensures.step; rest = refl; fits = goes.1 }
