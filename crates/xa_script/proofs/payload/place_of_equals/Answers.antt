use Rattle.xa_script.specs.Payload.{is_equals}
use Rattle.xa_script.proofs.Places.{first_place}
use Rattle.xa_script.proofs.payload.place_of_equals.Goals as goal

pub returns : goal.returns
returns c = first_place is_equals c.args.octets.now c.memchr.result c.memchr.ensures
