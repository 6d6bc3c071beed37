use Rattle.std.proofs.Common.{◌≡◌, ◌+◌, ◌<◌, ℕ, sym, subst, arith}
use Rattle.xa_calls.specs.declared.telling.Told.{Told}
use Rattle.xa_calls.specs.Telling.{IsTold}
use Rattle.xa_calls.proofs.Changed.{change_active, change_goes, change_left, change_told, seen_left, seen_quiet}
use Rattle.xa_calls.proofs.Noting.{may_still}
use Rattle.xa_calls.proofs.calling.change.Goals as goal

above : (op before : ℕ) → op ≡ before + 1 → 0 < op
above op before turn = omega (arith, turn)

pub returns-in_err-refused-clause-goes : goal.returns-in_err-refused-clause-goes
returns-in_err-refused-clause-goes g c =
    let d = c.args.monitor.now.domain.now in
    let old = c.args.desk.now in
    let new = c.change.new.self in
    change_goes d c.args.op old new c.args.change.now c.in_err-refused.ensures.moves c.in_err-refused.ensures.fits (seen_left d c.args.op old new c.in_err-refused.ensures.kept)

pub returns-in_err-refused-clause-active : goal.returns-in_err-refused-clause-active
returns-in_err-refused-clause-active g c =
    let d = c.args.monitor.now.domain.now in
    let old = c.args.desk.now in
    let new = c.change.new.self in
    may_still old new (seen_left d c.args.op old new c.in_err-refused.ensures.kept).same (seen_quiet d c.args.op old new c.in_err-refused.ensures.kept) c.requires.active

pub returns-clause-goes : goal.returns-clause-goes
returns-clause-goes g c =
    let d = c.args.monitor.now.domain.now in
    let old = c.args.desk.now in
    let new = c.change.new.self in
    change_goes d c.args.op old new c.args.change.now c.in_ok-refused.ensures.moves c.in_ok-refused.ensures.fits (change_left d c.args.op old new c.in_ok-refused.refused c.in_ok-refused.ensures.made)

pub returns-clause-active : goal.returns-clause-active
returns-clause-active g c =
    let d = c.args.monitor.now.domain.now in
    let old = c.args.desk.now in
    let new = c.change.new.self in
    let made = c.in_ok-refused.ensures.made in
    change_active d c.args.op old new c.in_ok-refused.refused (above c.args.op old.caller.op c.requires.turn) made (change_left d c.args.op old new c.in_ok-refused.refused made).same c.requires.active

pub returns-clause-told : goal.returns-clause-told
returns-clause-told g c =
    let d = c.args.monitor.now.domain.now in
    let old = c.args.desk.now in
    let new = c.change.new.self in
    let made = c.in_ok-refused.ensures.made in
    subst (λ (t : Told). IsTold t c.args.op old new) (sym c.told_by_error.ensures)
    (change_told d c.args.op old new c.in_ok-refused.refused (above c.args.op old.caller.op c.requires.turn) made (change_left d c.args.op old new c.in_ok-refused.refused made).same)
