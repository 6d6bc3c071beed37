use Rattle.xa_program.proofs.Failing.{none_done, none_made}
use Rattle.xa_program.proofs.top.setup_of.Goals as goal

pub returns-in_err-setup-in-Run-clause-found : goal.returns-in_err-setup-in-Run-clause-found
returns-in_err-setup-in-Run-clause-found g c = none_made c.from_residual.result _ _ c.from_residual.ensures.1

pub returns-in_err-setup-in-Run-clause-most : goal.returns-in_err-setup-in-Run-clause-most
returns-in_err-setup-in-Run-clause-most g c = none_made c.from_residual.result _ _ c.from_residual.ensures.1

pub returns-in_err-setup-in-Run-clause-writes : goal.returns-in_err-setup-in-Run-clause-writes
returns-in_err-setup-in-Run-clause-writes g c = none_made c.from_residual.result _ _ c.from_residual.ensures.1

pub returns-in_err-setup-in-Run-clause-configured : goal.returns-in_err-setup-in-Run-clause-configured
returns-in_err-setup-in-Run-clause-configured g c = none_made c.from_residual.result _ _ c.from_residual.ensures.1

pub returns-in_err-setup-in-Run-clause-says : goal.returns-in_err-setup-in-Run-clause-says
returns-in_err-setup-in-Run-clause-says g c = none_made c.from_residual.result _ _ c.from_residual.ensures.1

pub returns-in_err-setup-in-Run-clause-quiet : goal.returns-in_err-setup-in-Run-clause-quiet
returns-in_err-setup-in-Run-clause-quiet g c = none_done c.from_residual.result _ _ c.from_residual.ensures.1

pub returns-in_err-setup-in-Record-clause-found : goal.returns-in_err-setup-in-Record-clause-found
returns-in_err-setup-in-Record-clause-found g c = none_made c.from_residual-in_err-setup-in-Record.result _ _ c.from_residual-in_err-setup-in-Record.ensures.1

pub returns-in_err-setup-in-Record-clause-most : goal.returns-in_err-setup-in-Record-clause-most
returns-in_err-setup-in-Record-clause-most g c = none_made c.from_residual-in_err-setup-in-Record.result _ _ c.from_residual-in_err-setup-in-Record.ensures.1

pub returns-in_err-setup-in-Record-clause-writes : goal.returns-in_err-setup-in-Record-clause-writes
returns-in_err-setup-in-Record-clause-writes g c = none_made c.from_residual-in_err-setup-in-Record.result _ _ c.from_residual-in_err-setup-in-Record.ensures.1

pub returns-in_err-setup-in-Record-clause-configured : goal.returns-in_err-setup-in-Record-clause-configured
returns-in_err-setup-in-Record-clause-configured g c = none_made c.from_residual-in_err-setup-in-Record.result _ _ c.from_residual-in_err-setup-in-Record.ensures.1

pub returns-in_err-setup-in-Record-clause-says : goal.returns-in_err-setup-in-Record-clause-says
returns-in_err-setup-in-Record-clause-says g c = none_made c.from_residual-in_err-setup-in-Record.result _ _ c.from_residual-in_err-setup-in-Record.ensures.1

pub returns-in_err-setup-in-Record-clause-quiet : goal.returns-in_err-setup-in-Record-clause-quiet
returns-in_err-setup-in-Record-clause-quiet g c = none_done c.from_residual-in_err-setup-in-Record.result _ _ c.from_residual-in_err-setup-in-Record.ensures.1

pub returns-in_err-play_setup-in-Play-clause-found : goal.returns-in_err-play_setup-in-Play-clause-found
returns-in_err-play_setup-in-Play-clause-found g c = none_made c.from_residual-in_err-play_setup-in-Play.result _ _ c.from_residual-in_err-play_setup-in-Play.ensures.1

pub returns-in_err-play_setup-in-Play-clause-most : goal.returns-in_err-play_setup-in-Play-clause-most
returns-in_err-play_setup-in-Play-clause-most g c = none_made c.from_residual-in_err-play_setup-in-Play.result _ _ c.from_residual-in_err-play_setup-in-Play.ensures.1

pub returns-in_err-play_setup-in-Play-clause-writes : goal.returns-in_err-play_setup-in-Play-clause-writes
returns-in_err-play_setup-in-Play-clause-writes g c = none_made c.from_residual-in_err-play_setup-in-Play.result _ _ c.from_residual-in_err-play_setup-in-Play.ensures.1

pub returns-in_err-play_setup-in-Play-clause-configured : goal.returns-in_err-play_setup-in-Play-clause-configured
returns-in_err-play_setup-in-Play-clause-configured g c = none_made c.from_residual-in_err-play_setup-in-Play.result _ _ c.from_residual-in_err-play_setup-in-Play.ensures.1

pub returns-in_err-play_setup-in-Play-clause-says : goal.returns-in_err-play_setup-in-Play-clause-says
returns-in_err-play_setup-in-Play-clause-says g c = none_made c.from_residual-in_err-play_setup-in-Play.result _ _ c.from_residual-in_err-play_setup-in-Play.ensures.1

pub returns-in_err-play_setup-in-Play-clause-quiet : goal.returns-in_err-play_setup-in-Play-clause-quiet
returns-in_err-play_setup-in-Play-clause-quiet g c = none_done c.from_residual-in_err-play_setup-in-Play.result _ _ c.from_residual-in_err-play_setup-in-Play.ensures.1
