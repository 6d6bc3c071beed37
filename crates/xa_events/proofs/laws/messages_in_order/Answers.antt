use Rattle.xa_events.proofs.Ends.{laws_of_conversations}
use Rattle.xa_events.proofs.laws.messages_in_order.Goals as goal

pub returns : goal.returns
returns c setup clients events new run = (laws_of_conversations setup clients events new run).0
