use Rattle.std.proofs.Common.{◌≡◌, ℕ, ◌<◌, subst, arith}
use Rattle.xa_events.specs.Said.{is_op}
use Rattle.xa_events.specs.Words.{count}
use Rattle.xa_worker.specs.Work.{WorkState, theirs}
use Rattle.xa_worker.proofs.Numbers.{none_yet}
use Rattle.xa_caller.specs.Caller.{CallerState}
use Rattle.xa_caller.proofs.caller.Caller.op.Goals as goal

pub returns-clause-new : goal.returns-clause-new
returns-clause-new c =
    let w : WorkState = c.self.inside.work in
    let called = c.self.invariant.sound.reads.called in
    subst (λ (s : CallerState). (n : ℕ) → s.op < n → count (is_op s.work.id.0 n) (theirs s.work) ≡ 0) c.self.view_is
    (λ n above. none_yet w.setup w.clients w.id.0 w.own c.stamp-itself.ensures.sound n (omega (arith, called, above)))
