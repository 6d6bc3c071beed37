use Rattle.std.proofs.Common.{ap}
use Rattle.xa_boot.specs.xa_server.declared.closing.Closing.{Closing}
use Rattle.xa_domain.proofs.Silent.{still_silent}
use Rattle.xa_domain.proofs.homes.let_go.Goals as goal

pub returns : goal.returns
returns c =
    still_silent c.args.cells.now c.args.seat.now c.fill.new.seat c.in-Some.ticket _ c.fill.result c.fill.ensures.more (ap (λ (closing : Closing). closing.answer) c.abandon-ticket.ensures) c.requires.silent c.fill.ensures.seat c.fill.ensures.open
