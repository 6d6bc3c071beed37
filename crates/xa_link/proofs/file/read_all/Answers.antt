use Rattle.std.proofs.Common.{rules, ◌++◌, take}
use Rattle.xa_link.specs.Told.{Grew}
use Rattle.xa_link.proofs.Pieces.{grew_then, goes_over}
use Rattle.xa_link.proofs.file.read_all.Goals as goal

pub returns-then-n-limit-clause-over : goal.returns-then-n-limit-clause-over
returns-then-n-limit-clause-over g c is =
    let more : Grew (g.S.Source.shows c.loop-n.source).gave (g.S.Source.shows c.read.new.self).gave (take c.in-Ok.n c.read.new.into) = search rules in (
      c.loop-n.all.items ++ take c.in-Ok.n c.read.new.into,
      goes_over c.args.limit c.in-Ok.n c.loop-n.all.items c.read.new.into (search rules) c.loop-n.invariant.short (search rules),
      grew_then _ _ _ c.loop-n.all.items _ c.loop-n.invariant.grew more,
    )
