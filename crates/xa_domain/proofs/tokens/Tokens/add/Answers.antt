use Rattle.xa_domain.proofs.Adding.{adds_tokens}
use Rattle.xa_domain.proofs.tokens.Tokens.add.Goals as goal

pub returns : goal.returns
returns c =
    adds_tokens c.args.seat c.args.board c.args.queues.items c.args.clock c.args.self.now _ c.push_reserved.ensures.items c.push_reserved.ensures.capacity c.add_pass.ensures.added c.add_pass.ensures.capacity c.add_passes.ensures c.add_pass-2.ensures.added c.add_pass-2.ensures.capacity
