use Rattle.std.proofs.Common.{sym, ◌∙◌, ap}
use Rattle.std.specs.List.{position}
use Rattle.xa_caller.specs.Caller.{CallerState}
use Rattle.xa_caller.specs.Descriptors.{is_at}
use Rattle.xa_caller.proofs.Standing.{not_numbered}
use Rattle.xa_caller.proofs.Unsent.{cancels_refused, cancels_found}
use Rattle.xa_caller.proofs.caller.Caller.cancel.Goals as goal

pub returns-in_default-clause-cancels : goal.returns-in_default-clause-cancels
returns-in_default-clause-cancels c =
    let at = ap (λ (t : CallerState). position (is_at c.args.descriptor) t.out) (sym c.self.view_is) in
    let none = not_numbered c.args.self.now.out c.args.descriptor (at ∙ sym c.find.ensures ∙ c.in_default.is) in
    cancels_refused c.args.op c.args.descriptor c.refuse.result c.refuse.new.self c.args.self.now none c.refuse.ensures.ok c.refuse.ensures.halted c.refuse.ensures.kept

pub returns-clause-cancels : goal.returns-clause-cancels
returns-clause-cancels c =
    let at = ap (λ (t : CallerState). position (is_at c.args.descriptor) t.out) (sym c.self.view_is) in
    cancels_found c.args.op c.args.descriptor c.in-Some.place c.cancel_at.result c.cancel_at.new.self c.args.self.now (at ∙ sym c.find.ensures ∙ c.in-Some.is) c.cancel_at.ensures.ok c.cancel_at.ensures.halted c.cancel_at.ensures.kept
