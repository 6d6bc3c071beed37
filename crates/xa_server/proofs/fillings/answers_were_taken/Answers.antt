use Rattle.xa_server.proofs.Takings.{has_taken, all_answers}
use Rattle.xa_server.proofs.fillings.answers_were_taken.Goals as goal

pub returns : goal.returns
returns c = record { all = all_answers; one = has_taken }
