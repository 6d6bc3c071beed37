use Rattle.xa_server.proofs.Growth.{keeps_grows, takes_grows, fills_grows, both_grow}
use Rattle.xa_server.proofs.fillings.seats_see_more.Goals as goal

pub returns : goal.returns
returns c = record { keeps = keeps_grows; takes = takes_grows; fills = fills_grows; both = both_grow }
