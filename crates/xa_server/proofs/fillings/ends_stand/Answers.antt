use Rattle.xa_server.proofs.Ends.{ends_kept, ends_taking, ends_filling, ends_later}
use Rattle.xa_server.proofs.Calls.{fill_ends}
use Rattle.xa_server.proofs.fillings.ends_stand.Goals as goal

pub returns : goal.returns
returns c = record { keeps = ends_kept; takes = ends_taking; fills = ends_filling; given = fill_ends; entries = ends_later }
