use Rattle.std.proofs.Common.{Some, ap}
use Rattle.std.proofs.Math.Logic.{∥∥₁_prop}
use Rattle.xa_caller.specs.Sound.{IsSoundAnswer}
use Rattle.xa_server.proofs.answering.close.Goals as goal

pub returns : goal.returns
returns c sound =
    ap (λ (known : ∥ IsSoundAnswer c.args.answer ∥₁). record { request = Some c.args.entry.request; ticket = Some c.args.entry.cargo.ticket; answer = c.args.answer; stamp = c.args.stamp; sound = known }) (∥∥₁_prop _ (∣ sound ∣₁))
