use Rattle.xa_held.proofs.Owning.{queue_own, board_own}
use Rattle.xa_held.proofs.laws.own_goes_on.Goals as goal

pub returns-clause-queue : goal.returns-clause-queue
returns-clause-queue g c = λ setup clients home p p' more noted own same stand. queue_own setup clients home noted p p' more own same stand

pub returns-clause-board : goal.returns-clause-board
returns-clause-board g c = λ setup clients home p p' more noted own same stand. board_own setup clients home noted p p' more own same stand
