use Rattle.xa_machine.proofs.Boards.{first_shows}
use Rattle.xa_machine.proofs.standing.first_version.Goals as goal

pub returns : goal.returns
returns c = λ setup. rw (c.in_ok-push.ensures.items, c.new-versions.ensures.items) (first_shows setup _ c.new.ensures.items)
