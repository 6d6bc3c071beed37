use Rattle.xa_script.specs.Words.{is_space}
use Rattle.xa_script.proofs.Places.{first_place}
use Rattle.xa_script.proofs.words.place_of_space.Goals as goal

pub returns : goal.returns
returns c = first_place is_space c.args.octets.now c.memchr.result c.memchr.ensures
