use Rattle.xa_script.specs.Draft.{is_line_end}
use Rattle.xa_script.proofs.Places.{first_place}
use Rattle.xa_script.proofs.script.line_len.Goals as goal

pub returns : goal.returns
returns c = first_place is_line_end c.args.octets.now c.memchr.result c.memchr.ensures
