use Rattle.std.proofs.Common.{[], map, sym, ap, ◌∙◌}
use Rattle.std.proofs.lemmas.Result.{err_from_is_err_and}
use Rattle.toml.specs.View.{view}
use Rattle.xa_config.specs.Faults.{dotted}
use Rattle.xa_config.proofs.Entries.{tells_needed, needed_there, list_there}
use Rattle.xa_config.proofs.Loops.{seen, elements_are, at_element, at_good, at_bad, next_good, next_bad, kept_more, over, all_seen, length_kept, has_room, room_kept}
use Rattle.xa_config.proofs.entry.Entry.list.Goals as goal

pub returns-in_err-values : goal.returns-in_err-values
returns-in_err-values g c =
    let p = err_from_is_err_and c.from_residual.result c.from_residual.ensures.1 in
    rw (p.1, p.2)
    (tells_needed c.args.self.now.place.now c.args.key.now 1 64 (g.E.Elements.faults c.args.of.now) (view c.args.self.now.table.now) (view c.in-Some.value.now) _ c.in-Some.ensures
    (c.in_err-values.ensures.refused (g.E.Elements.faults c.args.of.now)))

pub loop-value-init : goal.loop-value-init
loop-value-init g c =
    let entry = c.args.self.now in
    let faults = g.E.Elements.faults c.args.of.now in
    record {
      kept = c.in-Ok.ensures.items;
      room = c.in-Ok.ensures.capacity;
      left = needed_there entry.place.now c.args.key.now 1 64 faults (view entry.table.now) (view c.in-Some.value.now) c.in-Some.ensures
          ∙ c.in_ok-values.ensures.left faults ∙ elements_are (dotted entry.place.now c.args.key.now) faults [] (map view c.in_ok-values.values.now);
    }

pub push_reserved-requires : goal.push_reserved-requires
push_reserved-requires g c =
    has_room (g.E.Elements.says c.args.of.now) c.in_ok-values.values.now c.loop-value.value-index c.loop-value.elements.items _ _ c.loop-value-test.true c.loop-value.invariant.kept
    c.loop-value.elements.ok.0 c.loop-value.invariant.room

pub loop-value-preserved : goal.loop-value-preserved
loop-value-preserved g c =
    let i = c.loop-value.value-index in
    let vs = c.in_ok-values.values.now in
    let v = c.value-item.result in
    let found = c.in-Ok-judge.ensures (seen i vs) (c.as_slice.ensures.value ∙ c.loop-value.invariant.kept) in
    let key = dotted c.args.self.now.place.now c.args.key.now in
    let faults = g.E.Elements.faults c.args.of.now in
    record {
      kept = kept_more (g.E.Elements.says c.args.of.now) vs i v _ _ _ c.loop-value-test.true c.value-item.is c.loop-value.invariant.kept found.1 c.push_reserved.ensures.items;
      room = room_kept _ _ _ c.push_reserved.ensures.capacity c.loop-value.invariant.room;
      left = next_good (at_element key faults) vs i v _ c.loop-value-test.true c.value-item.is c.loop-value.invariant.left (at_good key faults (seen i vs) (view v) found.0);
    }

pub returns-in-Err : goal.returns-in-Err
returns-in-Err g c =
    let i = c.loop-value.value-index in
    let vs = c.in_ok-values.values.now in
    let v = c.value-item.result in
    let some = c.in-Err.ensures (seen i vs) (c.as_slice.ensures.value ∙ c.loop-value.invariant.kept) in
    let key = dotted c.args.self.now.place.now c.args.key.now in
    let faults = g.E.Elements.faults c.args.of.now in
    next_bad (at_element key faults) vs i v _ _ c.loop-value-test.true c.value-item.is c.loop-value.invariant.left
    (at_bad key faults (seen i vs) (view v) c.in-Err.number c.len.result _ some
    (c.len.ensures ∙ c.loop-value.elements.ok.0 ∙ length_kept (g.E.Elements.says c.args.of.now) _ (seen i vs) c.loop-value.invariant.kept) c.refuse_element.ensures)

pub returns : goal.returns
returns g c =
    let i = c.loop-value.value-index in
    let vs = c.in_ok-values.values.now in
    let key = dotted c.args.self.now.place.now c.args.key.now in
    let says = g.E.Elements.says c.args.of.now in (
      over (at_element key (g.E.Elements.faults c.args.of.now)) vs i _ c.loop-value-test.false c.loop-value.invariant.left,
      c.from_vec.ensures ∙ c.loop-value.invariant.kept ∙ ap (map says) (all_seen vs i c.loop-value-test.false) ∙ ap (map says) (sym c.in_ok-values.ensures.found)
          ∙ ap (map says) (sym (list_there c.args.key.now (view c.args.self.now.table.now) (view c.in-Some.value.now) c.in-Some.ensures)),
    )
