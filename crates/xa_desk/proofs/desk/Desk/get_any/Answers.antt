use Rattle.std.proofs.Common.{refl}
use Rattle.xa_desk.proofs.Fitting.{is_read}
use Rattle.xa_desk.proofs.Fetching.{any_goes}
use Rattle.xa_desk.proofs.desk.Desk.get_any.Goals as goal

pub returns : goal.returns
returns c =
    let d = c.args.domain.now in
    let desk = c.args.self.now in
    let goes = any_goes d desk c.args.op c.requires.desk (is_read d desk c.requires.desk c.id-itself.ensures.sound) c.requires.turn c.requires.idle c.any.new.self c.any.ensures.cells.0 c.args.flags c.args.expect.now c.any.result c.any.ensures.step in
    record { leads = goes.0; step = c.any.ensures.step; rest = refl; fits = goes.1 }
