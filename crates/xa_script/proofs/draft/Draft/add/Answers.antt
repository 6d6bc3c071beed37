use Rattle.std.proofs.Common.{sym}
use Rattle.xa_script.proofs.Clients.{added}
use Rattle.xa_script.proofs.draft.Draft.add.Goals as goal

pub returns : goal.returns
returns c =
    let inside = c.self.inside in
    added c.args.setup.now inside.done.items _ inside.name inside.ops.items c.push.new.self.items c.args.verb c.args.octets.now c.in-Ok-Some.op c.if-is_none.ensures
    (rw c.in-Ok-Some.field-0-is at c.in-Ok-Some.ensures) (sym c.if-not-is_served.ensures) c.in_ok-push.ensures.items c.self.view_is
