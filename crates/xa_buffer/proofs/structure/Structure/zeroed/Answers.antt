use Rattle.std.proofs.Common.{◌≡◌, sym, ap₂, ◌∙◌, rules, replicate}
use Rattle.xa_buffer.specs.Layout.{pieces}
use Rattle.xa_buffer.proofs.Laid.{pieces-replicate}
use Rattle.xa_buffer.proofs.structure.Structure.zeroed.Goals as goal

pub returns : goal.returns
returns c =
    let octets : c.in_ok-vec.field-0.items ≡ replicate c.size-size.result 0 = search rules in
    ap₂ pieces (c.in_ok-from_slice.ensures.items ∙ c.fields.ensures.value) octets
    ∙ pieces-replicate c.args.shape.now.fields c.size-size.result (sym c.size-size.ensures.value)
