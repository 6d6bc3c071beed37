use Rattle.xa_server.proofs.Telling.{given_ended}
use Rattle.xa_server.proofs.laws.given_answers_have_ends.Goals as goal

pub returns : goal.returns
returns c = given_ended
