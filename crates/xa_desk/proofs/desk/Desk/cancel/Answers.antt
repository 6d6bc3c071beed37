use Rattle.std.proofs.Common.{refl}
use Rattle.xa_desk.proofs.Fitting.{is_read}
use Rattle.xa_desk.proofs.Fetching.{cancel_goes}
use Rattle.xa_desk.proofs.desk.Desk.cancel.Goals as goal

pub returns : goal.returns
returns c =
    let d = c.args.domain.now in
    let desk = c.args.self.now in
    let goes = cancel_goes d desk c.args.op c.requires.desk (is_read d desk c.requires.desk c.id-itself.ensures.sound) c.requires.turn c.requires.idle c.cancel.new.self c.cancel.ensures.cells.0 c.args.descriptor c.cancel.result c.cancel.ensures.cancels in
    record { leads = goes.0; cancels = c.cancel.ensures.cancels; rest = refl; fits = goes.1 }
