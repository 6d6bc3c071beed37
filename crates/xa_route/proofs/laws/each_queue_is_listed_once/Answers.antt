use Rattle.xa_route.proofs.Listing.{AllPairs-listed}
use Rattle.xa_route.proofs.laws.each_queue_is_listed_once.Goals as goal

pub returns : goal.returns
returns c = AllPairs-listed
