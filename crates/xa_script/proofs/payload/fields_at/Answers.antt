use Rattle.std.proofs.Common.{true, false, length, ◌+◌, ◌-◌, ap, ap₂, sym, ◌∙◌, subst, arith}
use Rattle.std.proofs.lemmas.Result.{err_from_is_err_and}
use Rattle.xa_script.specs.Payload.{fields_from}
use Rattle.xa_script.proofs.FieldsRead.{Names, none_named, is_given, one_named, no_field, bad_field, doubled, goes_on, all_given}
use Rattle.xa_script.proofs.payload.fields_at.Goals as goal

pub loop-turn-init : goal.loop-turn-init
loop-turn-init c = (
  ap₂ (λ n given. fields_from n given c.args.octets.now) (omega arith) c.new-given.ensures.items,
  subst (λ given. Names given c.new-names.result) (sym c.new-given.ensures.items) (none_named c.new-names.result c.new-names.ensures.empty),
)

pub returns-then-not-has_field : goal.returns-then-not-has_field
returns-then-not-has_field c =
    no_field (length c.args.octets.now) c.loop-turn.turn c.loop-turn.given.items c.loop-turn.rest.now _ c.loop-turn-test.true c.loop-turn.invariant.0 c.if-not-has_field.ensures

pub returns-in_err-field : goal.returns-in_err-field
returns-in_err-field c =
    let p = err_from_is_err_and c.from_residual.result c.from_residual.ensures.1 in
    rw (p.1, p.2)
    (bad_field (length c.args.octets.now) c.loop-turn.turn c.loop-turn.given.items c.loop-turn.rest.now _ c.in_err-field.field-0.0 c.loop-turn-test.true c.loop-turn.invariant.0 c.if-not-has_field.ensures c.in_err-field.ensures.found)

pub returns-then-not-is_new : goal.returns-then-not-is_new
returns-then-not-is_new c =
    let given = c.loop-turn.given.items in
    let field = c.in_ok-field.field in
    doubled (length c.args.octets.now) c.loop-turn.turn given field c.loop-turn.rest.now c.in_ok-field.behind.now _ c.loop-turn-test.true c.loop-turn.invariant.0 c.if-not-has_field.ensures
    c.in_ok-field.ensures.found
    (is_given given field c.loop-turn.names c.in_ok-field.name c.in_ok-is_new.is_new true c.loop-turn.invariant.1 c.in_ok-field.ensures.named c.in_ok-is_new.ensures.added c.if-not-is_new.true)

pub loop-turn-preserved : goal.loop-turn-preserved
loop-turn-preserved c =
    let given = c.loop-turn.given.items in
    let field = c.in_ok-field.field in
    let named = c.in_ok-field.ensures.named in (
      ap (λ more. fields_from (length c.args.octets.now - (c.loop-turn.turn + 1)) more c.in_ok-field.behind.now) c.in_ok-push.ensures.items
          ∙ goes_on (length c.args.octets.now) c.loop-turn.turn given field c.loop-turn.rest.now c.in_ok-field.behind.now _ c.loop-turn-test.true c.loop-turn.invariant.0 c.if-not-has_field.ensures
          c.in_ok-field.ensures.found
          (is_given given field c.loop-turn.names c.in_ok-field.name c.in_ok-is_new.is_new false c.loop-turn.invariant.1 named c.in_ok-is_new.ensures.added c.if-not-is_new.false),
      subst (λ more. Names more c.insert.new.self) (sym c.in_ok-push.ensures.items)
          (one_named given field c.loop-turn.names c.insert.new.self c.in_ok-field.name c.loop-turn.invariant.1 named c.in_ok-is_new.ensures.updates),
    )

pub returns : goal.returns
returns c = all_given (length c.args.octets.now) c.loop-turn.turn c.loop-turn.given.items c.loop-turn.rest.now _ c.loop-turn-test.false c.loop-turn.invariant.0
