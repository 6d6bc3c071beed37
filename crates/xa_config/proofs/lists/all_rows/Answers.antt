use Rattle.std.proofs.Common.{map, refl, sym, ap, ◌∙◌}
use Rattle.std.proofs.lemmas.Result.{err_from_is_err_and}
use Rattle.toml.specs.View.{view}
use Rattle.xa_config.specs.Meaning.{name_of, names_of}
use Rattle.xa_config.specs.Tables.{at_entry}
use Rattle.xa_config.proofs.Loops.{seen, next_good, next_bad, kept_more, over, all_seen, at_names, tells_names, has_room, room_kept}
use Rattle.xa_config.proofs.Whole.{both_kept}
use Rattle.xa_config.proofs.lists.all_rows.Goals as goal

pub loop-value-preserved : goal.loop-value-preserved
loop-value-preserved g c =
    let rows = c.args.rows.now in
    let key = c.args.key.now in
    let entry = g.R.Rows.faults rows in
    let i = c.loop-value.value-index in
    let vs = c.args.values.now in
    let v = c.value-item.result in
    let found = c.in_ok-row.ensures in
    record {
      kept = kept_more (g.R.Rows.says rows) vs i v _ _ _ c.loop-value-test.true c.value-item.is c.loop-value.invariant.kept found.read.1 c.push_reserved-in-loop-value.ensures.items;
      named = kept_more name_of vs i v _ _ _ c.loop-value-test.true c.value-item.is c.loop-value.invariant.named (c.name.ensures ∙ found.named) c.push_reserved.ensures.items;
      room = room_kept _ _ _ c.push_reserved-in-loop-value.ensures.capacity c.loop-value.invariant.room;
      named_room = room_kept _ _ _ c.push_reserved.ensures.capacity c.loop-value.invariant.named_room;
      left = next_good (at_entry key entry) vs i v _ c.loop-value-test.true c.value-item.is c.loop-value.invariant.left
          (sym (at_names key entry (seen i vs) (view v) _ (c.as_slice.ensures.value ∙ c.loop-value.invariant.named)) ∙ found.read.0);
    }

pub returns-in_err-row : goal.returns-in_err-row
returns-in_err-row g c =
    let key = c.args.key.now in
    let entry = g.R.Rows.faults c.args.rows.now in
    let i = c.loop-value.value-index in
    let vs = c.args.values.now in
    let v = c.value-item.result in
    let p = err_from_is_err_and c.from_residual-in_err-row.result c.from_residual-in_err-row.ensures.1 in
    rw (p.1, p.2)
    (next_bad (at_entry key entry) vs i v _ _ c.loop-value-test.true c.value-item.is c.loop-value.invariant.left
    (tells_names key entry (seen i vs) (view v) _ _ (c.as_slice.ensures.value ∙ c.loop-value.invariant.named) c.in_err-row.ensures.read))

pub returns : goal.returns
returns g c =
    let rows = c.args.rows.now in
    let i = c.loop-value.value-index in
    let vs = c.args.values.now in (
      over (at_entry c.args.key.now (g.R.Rows.faults rows)) vs i _ c.loop-value-test.false c.loop-value.invariant.left,
      both_kept (c.from_vec.ensures ∙ c.loop-value.invariant.kept ∙ ap (map (g.R.Rows.says rows)) (all_seen vs i c.loop-value-test.false))
          (c.from_vec-2.ensures ∙ c.loop-value.invariant.named ∙ ap names_of (all_seen vs i c.loop-value-test.false)),
    )

pub push_reserved-requires : goal.push_reserved-requires
push_reserved-requires g c =
    has_room name_of c.args.values.now c.loop-value.value-index c.loop-value.names.items _ _ c.loop-value-test.true c.loop-value.invariant.named
    c.loop-value.names.ok.0 c.loop-value.invariant.named_room

pub push_reserved-requires-in-loop-value : goal.push_reserved-requires-in-loop-value
push_reserved-requires-in-loop-value g c =
    has_room (g.R.Rows.says c.args.rows.now) c.args.values.now c.loop-value.value-index c.loop-value.kept.items _ _ c.loop-value-test.true c.loop-value.invariant.kept
    c.loop-value.kept.ok.0 c.loop-value.invariant.room

pub loop-value-init : goal.loop-value-init
loop-value-init g c =
    let none = c.in_ok-kept.ensures.none in
    let room = c.in_ok-kept.ensures.room in
    record { kept = none.0; named = none.1; room = room.0; named_room = room.1; left = refl }
