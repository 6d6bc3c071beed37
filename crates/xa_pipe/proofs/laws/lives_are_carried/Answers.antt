use Rattle.xa_pipe.specs.Life.{MayFail}
use Rattle.xa_pipe.proofs.Followed.{is_life}
use Rattle.xa_pipe.proofs.laws.lives_are_carried.Goals as goal

pub returns : goal.returns
returns c = λ setup clients over own past ended noted stands. is_life setup clients (MayFail setup clients) over own past ended noted stands
