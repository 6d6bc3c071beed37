use Rattle.xa_lock.proofs.Growth.{made-one}
use Rattle.xa_lock.proofs.homes.Kept.of.Goals as goal

pub returns-clause-entries : goal.returns-clause-entries
returns-clause-entries c = rw (c.add.ensures.all, c.reserve.ensures.all, c.new-makers.ensures, c.entries-count.ensures.value) (made-one (record { 0 = 0 }) c.args.home.entries)
