use Rattle.std.proofs.Common.{[], map, sym, arith}
use Rattle.toml.specs.View.{view}
use Rattle.xa_config.specs.Faults.{dotted}
use Rattle.xa_config.specs.Kinds.{kind}
use Rattle.xa_config.proofs.Loops.{seen, elements_are, at_element, at_good, at_bad, next_good, next_bad, over, length_seen}
use Rattle.xa_config.proofs.entry.Entry.check_kinds.Goals as goal

pub loop-place-init : goal.loop-place-init
loop-place-init c = elements_are (dotted c.args.self.now.place.now c.args.key.now) (kind c.args.shapes.now) [] (map view c.args.values.now)

pub loop-place-preserved : goal.loop-place-preserved
loop-place-preserved c =
    let i = c.loop-place.place in
    let vs = c.args.values.now in
    let v = c.index-values-place.result in
    let key = dotted c.args.self.now.place.now c.args.key.now in
    next_good (at_element key (kind c.args.shapes.now)) vs i v _ c.loop-place-test.true c.index-values-place.is c.loop-place.invariant
    (at_good key (kind c.args.shapes.now) (seen i vs) (view v) c.in-Ok.ensures)

pub returns-in-Err : goal.returns-in-Err
returns-in-Err c =
    let i = c.loop-place.place in
    let vs = c.args.values.now in
    let v = c.index-values-place.result in
    let key = dotted c.args.self.now.place.now c.args.key.now in
    next_bad (at_element key (kind c.args.shapes.now)) vs i v _ _ c.loop-place-test.true c.index-values-place.is c.loop-place.invariant
    (at_bad key (kind c.args.shapes.now) (seen i vs) (view v) c.in-Err.number i _ c.in-Err.ensures (sym (length_seen vs i (omega arith))) c.refuse_element.ensures)

pub returns : goal.returns
returns c =
    let key = dotted c.args.self.now.place.now c.args.key.now in
    over (at_element key (kind c.args.shapes.now)) c.args.values.now c.loop-place.place _ c.loop-place-test.false c.loop-place.invariant
