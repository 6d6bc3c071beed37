use Rattle.std.proofs.Common.{map, Some, None, sym, ap, ◌∙◌}
use Rattle.std.specs.List.{find}
use Rattle.toml.specs.View.{view}
use Rattle.xa_config.proofs.Unknown.{is_other, no_keys, key_found, none_first, next_known, next_unknown}
use Rattle.xa_config.proofs.document.unknown_key.Goals as goal

pub returns-in_default : goal.returns-in_default
returns-in_default c = no_keys (map (λ k. k.now) c.args.known.now) (view c.args.value.now) c.in_default.ensures

pub loop-key-preserved : goal.loop-key-preserved
loop-key-preserved c =
    next_known c.args.known.now c.loop-key.key-iterator c.next.new.self c.into_iter-key-iterator.result c.in-Some-key.key.now c.in-Some-key.ensures.steps
    (sym c.is_known.ensures ∙ c.if-not-is_known.false) c.loop-key.invariant

pub returns-then-not-is_known : goal.returns-then-not-is_known
returns-then-not-is_known c =
    let known = c.args.known.now in
    let keys = c.into_iter-key-iterator.ensures.into_iter_gives ∙ c.keys-key-items.ensures.rest in
    key_found known c.in-Some.table.now.entries (view c.args.value.now) (Some c.in-Some-key.key.now) c.in-Some.ensures
    (next_unknown known c.loop-key.key-iterator c.next.new.self c.into_iter-key-iterator.result c.in-Some-key.key.now c.in-Some-key.ensures.steps
    (sym c.is_known.ensures ∙ c.if-not-is_known.true) c.loop-key.invariant ∙ ap (find (is_other known)) keys)
    ∙ ap Some (sym c.as_str.ensures.value)

pub returns : goal.returns
returns c =
    let known = c.args.known.now in
    let keys = c.into_iter-key-iterator.ensures.into_iter_gives ∙ c.keys-key-items.ensures.rest in
    none_first _
    (key_found known c.in-Some.table.now.entries (view c.args.value.now) None c.in-Some.ensures
    (ap (find (is_other known)) (sym c.in-None.ensures.steps.0) ∙ c.loop-key.invariant ∙ ap (find (is_other known)) keys))
