use Rattle.std.proofs.Common.{refl}
use Rattle.xa_desk.proofs.Fitting.{is_read}
use Rattle.xa_desk.proofs.Unsending.{prepared_at, may_be, unsent_goes}
use Rattle.xa_desk.proofs.desk.Desk.unsent.Goals as goal

pub unsent-requires-clause-cells : goal.unsent-requires-clause-cells
unsent-requires-clause-cells c = (c.requires.desk.seat, c.requires.found.3.right.table)

pub unsent-requires-clause-prepared : goal.unsent-requires-clause-prepared
unsent-requires-clause-prepared c = prepared_at c.args.domain.now c.args.self.now c.args.self.now.reader.found c.args.entry c.requires.found.0 c.requires.found.1 c.requires.found.3

pub unsent-requires-clause-why : goal.unsent-requires-clause-why
unsent-requires-clause-why c = may_be c.args.domain.now c.args.self.now c.args.self.now.reader.found c.requires.desk c.args.why c.requires.why

pub returns : goal.returns
returns c =
    let d = c.args.domain.now in
    let desk = c.args.self.now in
    let f = c.requires.found in
    let goes = unsent_goes d desk desk.reader.found c.args.entry c.requires.desk f.0 f.1 f.2 f.3 c.unsent.new.self c.unsent.ensures.cells.0 c.args.why c.args.no_block c.unsent.result c.requires.why c.unsent.ensures.unsent (is_read d desk c.requires.desk c.id-itself.ensures.sound) in
    record { leads = goes.0; unsent = c.unsent.ensures.unsent; rest = refl; fits = goes.1 }
