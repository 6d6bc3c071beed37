use Rattle.std.proofs.Common.{rules, ◌++◌, ◌-◌, arith, ap, ◌∙◌, replicate}
use Rattle.xa_text.proofs.Pairs.{pairs, filled, front_kept, none_behind}
use Rattle.xa_text.proofs.line.push_pairs.Goals as goal

pub returns-clause-ok : goal.returns-clause-ok
returns-clause-ok c =
    let old = c.args.out.now.items in
    let now = c.deref_mut.result.now in
    let at = c.len-at.result in
    let same = pairs c.args.octets.now (λ i. (c.type_inv.octets i).fits) in
    filled at c.resize.new.self.len old now c.encode_to_slice.new.output _ _ (front_kept at c.resize.new.self.len old now (replicate (c.resize.new.self.len - at) 0) (search rules) (omega (arith, c.in_ok-resize.ensures.len, c.saturating_add.ensures)) (search rules)) (none_behind at now (search rules)) (omega (arith, c.in_ok-resize.ensures.len))
    ∙ ap (λ text. old ++ text) ((c.in-Ok.ensures.written) ∙ same)
