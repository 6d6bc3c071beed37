use Rattle.xa_server.proofs.Joining.{was_told, each_told}
use Rattle.xa_server.proofs.fillings.answers_were_told.Goals as goal

pub returns : goal.returns
returns c = record { told = was_told; each = each_told }
