use Rattle.std.proofs.Common.{refl}
use Rattle.xa_desk.proofs.Fitting.{is_read}
use Rattle.xa_desk.proofs.Fetching.{get_goes}
use Rattle.xa_desk.proofs.desk.Desk.get.Goals as goal

pub returns : goal.returns
returns c =
    let d = c.args.domain.now in
    let desk = c.args.self.now in
    let goes = get_goes d desk c.args.op c.requires.desk (is_read d desk c.requires.desk c.id-itself.ensures.sound) c.requires.turn c.requires.idle c.reply.new.self c.reply.ensures.cells.0 c.args.descriptor c.args.flags c.args.expect.now c.reply.result c.reply.ensures.step in
    record { leads = goes.0; step = c.reply.ensures.step; rest = refl; fits = goes.1 }
