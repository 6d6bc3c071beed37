use Rattle.std.proofs.Common.{rules, ◌≡◌, ◌+◌, ℕ, Bool, true, false, Ok, Err, IfErr, inl, sym, ◌∙◌, ap, subst}
use Rattle.xa_calls.specs.Going.{IsReady, GotAs, get_by}
use Rattle.xa_calls.specs.Telling.{NotesOne, Gives, GotNotes, StoppedIn}
use Rattle.xa_calls.proofs.Given.{told_given, within_quiet}
use Rattle.xa_calls.proofs.Going.{performs_trans}
use Rattle.xa_calls.proofs.Noting.{quiet_one}
use Rattle.xa_calls.proofs.getting.get.Goals as goal

pub is_over-requires-clause-ready : goal.is_over-requires-clause-ready
is_over-requires-clause-ready g c = subst (λ (n : ℕ). IsReady c.args.monitor.now.domain.now n c.loop.desk) (sym c.loop.invariant.ready.made) c.loop.invariant.ready

pub is_over-requires-clause-turn : goal.is_over-requires-clause-turn
is_over-requires-clause-turn g c = c.requires.turn ∙ ap (λ (n : ℕ). n + 1) (sym c.loop.invariant.ready.made)

pub returns-in_err-is_over-clause-goes : goal.returns-in_err-is_over-clause-goes
returns-in_err-is_over-clause-goes g c = performs_trans c.args.monitor.now.domain.now c.args.op (get_by c.args.wanted.descriptor c.args.wanted.flags c.args.wanted.expect.now) c.args.desk.now c.loop.desk c.is_over.new.desk c.loop.invariant.goes c.is_over.ensures.goes

pub returns-then-branch-clause-goes : goal.returns-then-branch-clause-goes
returns-then-branch-clause-goes g c = performs_trans c.args.monitor.now.domain.now c.args.op (get_by c.args.wanted.descriptor c.args.wanted.flags c.args.wanted.expect.now) c.args.desk.now c.loop.desk c.is_over.new.desk c.loop.invariant.goes c.is_over.ensures.goes

pub returns-then-is_some-clause-goes : goal.returns-then-is_some-clause-goes
returns-then-is_some-clause-goes g c = performs_trans c.args.monitor.now.domain.now c.args.op (get_by c.args.wanted.descriptor c.args.wanted.flags c.args.wanted.expect.now) c.args.desk.now c.loop.desk c.is_over.new.desk c.loop.invariant.goes c.is_over.ensures.goes

pub returns-in_err-is_over-clause-within : goal.returns-in_err-is_over-clause-within
returns-in_err-is_over-clause-within g c =
    let same : c.from_residual.result ≡ Err c.in_err-is_over.field-0.0 = search rules in
    subst (λ r. IfErr r (λ stopped. StoppedIn c.args.op stopped c.args.desk.now c.is_over.new.desk)) (sym same)
    (within_quiet c.args.op c.in_err-is_over.field-0.0 c.args.desk.now c.loop.desk c.is_over.new.desk c.loop.invariant.goes.same c.loop.invariant.quiet c.in_err-is_over.ensures.notes)

pub returns-then-branch-clause-told : goal.returns-then-branch-clause-told
returns-then-branch-clause-told g c =
    let goes = performs_trans c.args.monitor.now.domain.now c.args.op (get_by c.args.wanted.descriptor c.args.wanted.flags c.args.wanted.expect.now) c.args.desk.now c.loop.desk c.is_over.new.desk c.loop.invariant.goes c.is_over.ensures.goes in
    told_given c.given_at.result c.args.op c.args.desk.now c.is_over.new.desk goes.same c.given_at.ensures
    (quiet_one c.args.op Gives c.args.desk.now c.loop.desk c.is_over.new.desk c.loop.invariant.goes.same c.loop.invariant.quiet
    (subst (λ (over : Bool). GotNotes c.args.op (Ok over) c.loop.desk c.is_over.new.desk) c.if-branch.true c.in_ok-is_over.ensures.notes))

pub returns-then-is_some-clause-within : goal.returns-then-is_some-clause-within
returns-then-is_some-clause-within g c = inl (subst (λ (over : Bool). GotNotes c.args.op (Ok over) c.loop.desk c.is_over.new.desk) c.if-branch.false c.in_ok-is_over.ensures.notes ∙ c.loop.invariant.quiet)

pub loop-preserved : goal.loop-preserved
loop-preserved g c =
    let ready = subst (λ (over : Bool). GotAs c.args.monitor.now.domain.now c.loop.desk.caller.op c.args.op (Ok over) c.is_over.new.desk) c.if-branch.false c.in_ok-is_over.ensures.got in
    record {
      goes = performs_trans c.args.monitor.now.domain.now c.args.op (get_by c.args.wanted.descriptor c.args.wanted.flags c.args.wanted.expect.now) c.args.desk.now c.loop.desk c.is_over.new.desk c.loop.invariant.goes c.is_over.ensures.goes;
      ready = subst (λ (n : ℕ). IsReady c.args.monitor.now.domain.now n c.is_over.new.desk) c.loop.invariant.ready.made ready;
      active = c.is_over.ensures.active;
      quiet = subst (λ (over : Bool). GotNotes c.args.op (Ok over) c.loop.desk c.is_over.new.desk) c.if-branch.false c.in_ok-is_over.ensures.notes ∙ c.loop.invariant.quiet;
    }
