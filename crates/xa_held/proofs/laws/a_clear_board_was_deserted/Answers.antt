use Rattle.xa_held.proofs.Fronts.{deserted}
use Rattle.xa_held.proofs.laws.a_clear_board_was_deserted.Goals as goal

pub returns : goal.returns
returns g c = λ setup p p' q seen later maker queue look board k cleared booted left less sound stands begins. deserted setup p p' q seen later maker queue look board k cleared booted left less sound stands begins
