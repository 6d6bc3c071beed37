use Rattle.xa_lines.proofs.Events.{one_event}
use Rattle.xa_lines.proofs.laws.one_reading.Goals as goal

pub returns : goal.returns
returns c = λ event other x y same. one_event event other x y same
