use Rattle.std.proofs.Common.{rules, ◌≡◌, ℕ, ◌<◌, Bool, Ok, Err, IfErr, sym, ◌∙◌, subst, false}
use Rattle.xa_calls.specs.Telling.{IsQuiet, IsNoWant, LookNotes, NotesOne, Closes}
use Rattle.xa_calls.proofs.Going.{looks_on, waits_on}
use Rattle.xa_calls.proofs.Noting.{quiet_one}
use Rattle.xa_calls.proofs.calling.await_reply.Goals as goal

pub returns-in_err-is_told-clause-goes : goal.returns-in_err-is_told-clause-goes
returns-in_err-is_told-clause-goes g c = looks_on c.args.monitor.now.domain.now false c.args.ask.now c.args.desk.now.caller.op c.args.desk.now c.loop.desk c.is_told.new.desk c.loop.invariant.goes c.loop.invariant.waiting c.is_told.ensures.goes

pub returns-then-branch-clause-goes : goal.returns-then-branch-clause-goes
returns-then-branch-clause-goes g c = looks_on c.args.monitor.now.domain.now false c.args.ask.now c.args.desk.now.caller.op c.args.desk.now c.loop.desk c.is_told.new.desk c.loop.invariant.goes c.loop.invariant.waiting c.is_told.ensures.goes

pub returns-then-is_some-clause-goes : goal.returns-then-is_some-clause-goes
returns-then-is_some-clause-goes g c = looks_on c.args.monitor.now.domain.now false c.args.ask.now c.args.desk.now.caller.op c.args.desk.now c.loop.desk c.is_told.new.desk c.loop.invariant.goes c.loop.invariant.waiting c.is_told.ensures.goes

pub is_told-requires-clause-some : goal.is_told-requires-clause-some
is_told-requires-clause-some g c = subst (λ (n : ℕ). 0 < n) (sym c.loop.invariant.waiting.made) c.requires.some

pub returns-in_err-is_told-clause-quiet : goal.returns-in_err-is_told-clause-quiet
returns-in_err-is_told-clause-quiet g c =
    let same : c.from_residual.result ≡ Err c.in_err-is_told.field-0.0 = search rules in
    let notes = c.in_err-is_told.ensures.notes in
    subst (λ r. IfErr r (λ stopped. IsQuiet c.args.desk.now c.is_told.new.desk × IsNoWant stopped)) (sym same) (notes.0 ∙ c.loop.invariant.quiet, notes.1)

pub returns-then-branch-clause-notes : goal.returns-then-branch-clause-notes
returns-then-branch-clause-notes g c =
    let op : ℕ = c.args.desk.now.caller.op in
    quiet_one op Closes c.args.desk.now c.loop.desk c.is_told.new.desk c.loop.invariant.goes.same c.loop.invariant.quiet
    (subst (λ (n : ℕ). NotesOne n Closes c.loop.desk c.is_told.new.desk) c.loop.invariant.waiting.made
    (subst (λ (told : Bool). LookNotes c.loop.desk.caller.op (Ok told) c.loop.desk c.is_told.new.desk) c.if-branch.true c.in_ok-is_told.ensures.notes))

pub returns-then-is_some-clause-quiet : goal.returns-then-is_some-clause-quiet
returns-then-is_some-clause-quiet g c =
    (subst (λ (told : Bool). LookNotes c.loop.desk.caller.op (Ok told) c.loop.desk c.is_told.new.desk) c.if-branch.false c.in_ok-is_told.ensures.notes ∙ c.loop.invariant.quiet, tt)

pub loop-preserved : goal.loop-preserved
loop-preserved g c = record {
  goes = looks_on c.args.monitor.now.domain.now false c.args.ask.now c.args.desk.now.caller.op c.args.desk.now c.loop.desk c.is_told.new.desk c.loop.invariant.goes c.loop.invariant.waiting c.is_told.ensures.goes;
  waiting = waits_on c.args.monitor.now.domain.now false c.args.ask.now c.args.desk.now.caller.op c.loop.desk c.is_told.new.desk c.in_ok-is_told.field-0 c.if-branch.false c.loop.invariant.waiting c.in_ok-is_told.ensures.told;
  active = c.is_told.ensures.active;
  quiet = subst (λ (told : Bool). LookNotes c.loop.desk.caller.op (Ok told) c.loop.desk c.is_told.new.desk) c.if-branch.false c.in_ok-is_told.ensures.notes ∙ c.loop.invariant.quiet;
}
