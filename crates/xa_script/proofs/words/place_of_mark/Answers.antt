use Rattle.xa_script.specs.Words.{is_marked}
use Rattle.xa_script.proofs.Places.{first_place}
use Rattle.xa_script.proofs.words.place_of_mark.Goals as goal

pub returns : goal.returns
returns c = first_place is_marked c.args.octets.now c.memchr2.result c.memchr2.ensures
