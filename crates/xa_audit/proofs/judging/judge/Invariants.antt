use Rattle.std.proofs.Common.{take}
use Rattle.xa_audit.specs.Verdict.{Leads}
use Rattle.xa_audit.proofs.judging.judge.Given as goal

abbrev pub invariant-loop-i : goal.invariant-loop-i
invariant-loop-i l = Leads l.setup l.fn.clients (take l.i l.events) l.machine
