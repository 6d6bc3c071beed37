use Rattle.std.proofs.Common.{sym, ◌∙◌}
use Rattle.toml.specs.View.{view}
use Rattle.xa_config.specs.Faults.{dotted}
use Rattle.xa_config.proofs.Arrays.{no_array, array_within, array_outside, array_found}
use Rattle.xa_config.proofs.entry.Entry.array.Goals as goal

pub returns-in_default-clause-refused : goal.returns-in_default-clause-refused
returns-in_default-clause-refused c of =
    no_array (dotted c.args.self.now.place.now c.args.key.now) c.args.least c.args.most of (view c.args.value.now) _ c.in_default.ensures c.refuse.ensures

pub returns-then-not-has_length-clause-refused : goal.returns-then-not-has_length-clause-refused
returns-then-not-has_length-clause-refused c of =
    array_outside (dotted c.args.self.now.place.now c.args.key.now) c.args.least c.args.most of c.in-Some.values.now (view c.args.value.now) _ c.in-Some.ensures
    (sym c.has_length.ensures ∙ c.if-not-has_length.true) c.refuse-then-not-has_length.ensures

pub returns-clause-found : goal.returns-clause-found
returns-clause-found c = array_found c.in-Some.values.now (view c.args.value.now) c.in-Some.ensures

pub returns-clause-left : goal.returns-clause-left
returns-clause-left c of =
    array_within (dotted c.args.self.now.place.now c.args.key.now) c.args.least c.args.most of c.in-Some.values.now (view c.args.value.now) c.in-Some.ensures
    (sym c.has_length.ensures ∙ c.if-not-has_length.false)
