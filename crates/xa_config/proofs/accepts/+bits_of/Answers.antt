use Rattle.std.proofs.Common.{map, codes, ◌++◌, sym, ◌∙◌}
use Rattle.toml.specs.View.{view}
use Rattle.xa_config.specs.Kinds.{text_in}
use Rattle.xa_config.proofs.Arrays.{text_told}
use Rattle.xa_config.proofs.Bits.{bits_next, byte_is}
use Rattle.xa_config.proofs.accepts.+bits_of.Goals as goal

pub returns-in-len1-up-clause-bits : goal.returns-in-len1-up-clause-bits
returns-in-len1-up-clause-bits t c =
    bits_next (map text_in (map view c.args.values.now)) c.args.shapes.now c.shape-item.result c.from.result c.bits_of.result c.in-len1-up.len_at_least c.shape-item.is
    (c.from.ensures ∙ byte_is _ _ (c.is_shape_listed.ensures ∙ sym (text_told (codes "c:" ++ c.shape-item.result) c.args.values.now))) c.bits_of.ensures.bits
