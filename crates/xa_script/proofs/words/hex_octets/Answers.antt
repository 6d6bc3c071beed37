use Rattle.std.proofs.Common.{◌-◌, take, drop, length, ◌∙◌, ap}
use Rattle.xa_script.specs.Words.{hex_from}
use Rattle.xa_script.proofs.Numbers.{one_pair}
use Rattle.xa_script.proofs.words.hex_octets.Goals as goal

pub loop-rest-preserved : goal.loop-rest-preserved
loop-rest-preserved c =
    let digits = c.loop-rest.rest.now in
    ap (λ front. hex_from front (take (length digits - 2) (drop 2 digits))) c.in_ok-push.ensures.items
    ∙ one_pair c.loop-rest.octets.items digits c.in_ok-hex_octet.field-0 c.in-len2-up.len_at_least c.in_ok-hex_octet.ensures ∙ c.loop-rest.invariant
