use Rattle.std.proofs.Common.{sym, ap, ◌∙◌}
use Rattle.xa_buffer.specs.Layout.{joined}
use Rattle.xa_buffer.proofs.Laid.{joined-pieces}
use Rattle.xa_buffer.proofs.structure.Structure.octets.Goals as goal

pub returns-clause-value : goal.returns-clause-value
returns-clause-value c =
    c.as_slice.ensures.value ∙ (sym (joined-pieces c.self.inside.fields.items c.self.inside.octets.items c.self.invariant.0) ∙ ap joined c.self.view_is)
