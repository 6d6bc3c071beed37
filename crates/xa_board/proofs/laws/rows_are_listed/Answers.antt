use Rattle.xa_board.proofs.Listed.{rows-listed, rows_seen-listed}
use Rattle.xa_board.proofs.laws.rows_are_listed.Goals as goal

pub returns : goal.returns
returns c = λ setup board reads all. (rows-listed setup board reads all, rows_seen-listed setup board reads all)
