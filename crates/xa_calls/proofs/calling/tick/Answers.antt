use Rattle.std.proofs.Common.{◌≡◌, ◌+◌, ◌<◌, ℕ, sym, subst, arith}
use Rattle.xa_calls.specs.declared.telling.Told.{Told}
use Rattle.xa_calls.specs.Telling.{IsTold}
use Rattle.xa_calls.proofs.Changed.{seen_left, seen_quiet}
use Rattle.xa_calls.proofs.Ticked.{tick_active, tick_goes, tick_left, tick_told}
use Rattle.xa_calls.proofs.Noting.{may_still}
use Rattle.xa_calls.proofs.calling.tick.Goals as goal

above : (op before : ℕ) → op ≡ before + 1 → 0 < op
above op before turn = omega (arith, turn)

pub returns-in_err-told-clause-goes : goal.returns-in_err-told-clause-goes
returns-in_err-told-clause-goes g c =
    let d = c.args.monitor.now.domain.now in
    let old = c.args.desk.now in
    let new = c.tick.new.self in
    tick_goes d c.args.op old new c.args.n c.in_err-told.ensures.moves c.in_err-told.ensures.fits (seen_left d c.args.op old new c.in_err-told.ensures.kept)

pub returns-in_err-told-clause-active : goal.returns-in_err-told-clause-active
returns-in_err-told-clause-active g c =
    let d = c.args.monitor.now.domain.now in
    let old = c.args.desk.now in
    let new = c.tick.new.self in
    may_still old new (seen_left d c.args.op old new c.in_err-told.ensures.kept).same (seen_quiet d c.args.op old new c.in_err-told.ensures.kept) c.requires.active

pub returns-clause-goes : goal.returns-clause-goes
returns-clause-goes g c =
    let d = c.args.monitor.now.domain.now in
    let old = c.args.desk.now in
    let new = c.tick.new.self in
    tick_goes d c.args.op old new c.args.n c.in_ok-told.ensures.moves c.in_ok-told.ensures.fits (tick_left d c.args.op old new c.in_ok-told.told c.in_ok-told.ensures.made)

pub returns-clause-active : goal.returns-clause-active
returns-clause-active g c =
    let d = c.args.monitor.now.domain.now in
    let old = c.args.desk.now in
    let new = c.tick.new.self in
    let made = c.in_ok-told.ensures.made in
    tick_active d c.args.op old new c.in_ok-told.told (above c.args.op old.caller.op c.requires.turn) made (tick_left d c.args.op old new c.in_ok-told.told made).same c.requires.active

pub returns-clause-told : goal.returns-clause-told
returns-clause-told g c =
    let d = c.args.monitor.now.domain.now in
    let old = c.args.desk.now in
    let new = c.tick.new.self in
    let made = c.in_ok-told.ensures.made in
    subst (λ (t : Told). IsTold t c.args.op old new) (sym c.told_by_clock.ensures)
    (tick_told d c.args.op old new c.in_ok-told.told (above c.args.op old.caller.op c.requires.turn) made (tick_left d c.args.op old new c.in_ok-told.told made).same)
