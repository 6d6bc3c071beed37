use Rattle.std.proofs.Common.{Some, refl}
use Rattle.xa_desk.specs.declared.desk.Desk.{Desk}
use Rattle.xa_desk.proofs.Clocks.{ClockStep, clock_pass, read_goes, read_shows}
use Rattle.xa_desk.proofs.Taking.{looked_serves}
use Rattle.xa_desk.proofs.desk.Desk.read_clock.Goals as goal

pub read_at-pass-requires : goal.read_at-pass-requires
read_at-pass-requires g c = record { lock = (clock_pass c.requires.desk c.take_out.ensures.was).lock }

pub returns-clause-reads : goal.returns-clause-reads
returns-clause-reads g c =
    let d = c.args.domain.now in
    let desk = c.args.self.now in
    let new : Desk = record desk { caller = c.saw.new.self; clock = Some c.read_at-pass.result.pass } in
    let step : ClockStep d desk new c.take_out.result c.read_at-pass.result.pass = record { is = c.requires.desk; was = c.take_out.ensures.was; now = refl; board = refl; queues = refl; lock = c.read_at-pass.ensures.lock } in
    record {
      moves = read_goes step c.read_at-pass.result.answer c.read_at-pass.ensures.read c.read_at-pass.result.last c.read_at-pass.ensures.reached c.saw.ensures refl;
      shows = read_shows step c.read_at-pass.result.answer c.read_at-pass.ensures.read c.read_at-pass.result.last c.read_at-pass.ensures.reached c.saw.ensures;
      sees = (c.read_at-pass.result.last, c.saw.ensures);
    }

pub returns-clause-serving : goal.returns-clause-serving
returns-clause-serving g c queue slot serving =
    let desk = c.args.self.now in
    let new : Desk = record desk { caller = c.saw.new.self; clock = Some c.read_at-pass.result.pass } in
    looked_serves c.args.domain.now queue slot desk new (c.read_at-pass.result.last, c.saw.ensures) refl serving
