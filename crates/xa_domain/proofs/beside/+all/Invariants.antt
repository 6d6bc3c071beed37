use Rattle.std.proofs.Common.{◌+◌, ◌*◌, length}
use Rattle.xa_domain.proofs.beside.+all.Given as goal

abbrev pub decreases-all_from : goal.decreases-all_from
decreases-all_from g l = 3 * length l.workers.now

abbrev pub decreases-first_beside_rest : goal.decreases-first_beside_rest
decreases-first_beside_rest g l = 3 * length l.rest.now + 2

abbrev pub decreases-first_beside_rest-fork+arg4 : goal.decreases-first_beside_rest-fork+arg4
decreases-first_beside_rest-fork+arg4 g l = 3 * length l.rest.now + 1
