use Rattle.std.proofs.Common.{sym, subst}
use Rattle.xa_client_worker.specs.xa_types.declared.setup.Setup.{Setup}
use Rattle.xa_client_worker.specs.xa_held.Board.{IsPlaced}
use Rattle.xa_boot.proofs.Noting.{is_placed, passed}
use Rattle.xa_boot.proofs.advertising.Opening.advertise.Goals as goal

pub advertise-requires-clause-placed : goal.advertise-requires-clause-placed
advertise-requires-clause-placed c =
    subst (λ (setup : Setup). IsPlaced setup c.row_for-row.result) (sym c.requires.next.1.by)
    (is_placed c.args.setup.now c.args.service.now.name c.args.queue.0 c.args.service.now.routine c.row_for-row.result c.row_for-row.ensures c.requires.placed)

pub returns : goal.returns
returns c =
    passed c.args.setup.now c.args.service.now.name c.args.queue.0 c.args.service.now.routine c.row_for-row.result c.in-Ok.done c.args.self.now (record { board = c.advertise.new.self; own = c.add.new.self })
    c.row_for-row.ensures c.in-Ok.ensures c.add.ensures
