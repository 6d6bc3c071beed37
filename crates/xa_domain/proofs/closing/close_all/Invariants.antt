use Rattle.xa_domain.specs.Closing.{AreClosed, Closes}
use Rattle.xa_domain.proofs.closing.close_all.Given as goal

abbrev pub invariant-loop-place : goal.invariant-loop-place
invariant-loop-place g l = record { closes : Closes l.domain l.fn.closer l.closer; all : AreClosed l.domain l.place l.closer }
