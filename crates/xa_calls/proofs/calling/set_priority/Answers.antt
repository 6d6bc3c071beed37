use Rattle.std.proofs.Common.{◌≡◌, ℕ, ℤ, ◌+◌, ◌<◌, w32, to_z, of_z, inl, ap, subst, arith}
use Rattle.std.proofs.Math.Facts.{to_z-of_z}
use Rattle.xa_desk.specs.xa_types.declared.call.Op.TheVariants.{Priority}
use Rattle.xa_desk.specs.Steps.{FitsOp}
use Rattle.xa_desk.specs.declared.desk.Desk.{Desk}
use Rattle.xa_desk.specs.Looks.{LookShowed}
use Rattle.xa_calls.specs.Resting.{SawFull}
use Rattle.xa_calls.specs.Telling.{Closes}
use Rattle.xa_calls.proofs.Resting.{set_noted}
use Rattle.xa_calls.proofs.Seating.{set_fills}
use Rattle.xa_calls.proofs.Going.{set_same, performs_by}
use Rattle.xa_calls.proofs.Noting.{may_on, sets_one}
use Rattle.xa_calls.proofs.calling.set_priority.Goals as goal

above : (op before : ℕ) → op ≡ before + 1 → 0 < op
above op before turn = omega (arith, turn)

pub returns-clause-goes : goal.returns-clause-goes
returns-clause-goes g c =
    let desk = c.args.desk.now in
    let new = c.set_priority.new.self in
    let set = c.set_priority.ensures in
    let d = c.args.monitor.now.domain.now in
    let amount : ℤ = to_z w32 (of_z w32 c.args.amount) in
    performs_by d c.args.op (Priority c.args.absolute c.args.amount) desk new set.leads (subst (λ (z : ℤ). FitsOp d c.args.op (Priority c.args.absolute z) desk new) (to_z-of_z c.ranges.amount) set.fits)
    (set_same c.args.op c.args.absolute amount c.set_priority.result desk new set.set set.kept) (set_fills c.args.op c.args.absolute amount c.set_priority.result desk new set.set set.kept) (ap (λ (desk : Desk). desk.board) set.rest)
    (set_noted (LookShowed desk new) (SawFull d desk new) c.args.op c.args.absolute amount c.set_priority.result desk new set.set set.kept)

pub returns-in_err-set_priority-clause-goes : goal.returns-in_err-set_priority-clause-goes
returns-in_err-set_priority-clause-goes g c =
    let desk = c.args.desk.now in
    let new = c.set_priority.new.self in
    let set = c.set_priority.ensures in
    let d = c.args.monitor.now.domain.now in
    let amount : ℤ = to_z w32 (of_z w32 c.args.amount) in
    performs_by d c.args.op (Priority c.args.absolute c.args.amount) desk new set.leads (subst (λ (z : ℤ). FitsOp d c.args.op (Priority c.args.absolute z) desk new) (to_z-of_z c.ranges.amount) set.fits)
    (set_same c.args.op c.args.absolute amount c.set_priority.result desk new set.set set.kept) (set_fills c.args.op c.args.absolute amount c.set_priority.result desk new set.set set.kept) (ap (λ (desk : Desk). desk.board) set.rest)
    (set_noted (LookShowed desk new) (SawFull d desk new) c.args.op c.args.absolute amount c.set_priority.result desk new set.set set.kept)

pub returns-clause-notes : goal.returns-clause-notes
returns-clause-notes g c = inl (sets_one c.args.op c.args.absolute (to_z w32 (of_z w32 c.args.amount)) c.in_ok-set_priority.field-0 c.args.desk.now c.set_priority.new.self (above c.args.op c.args.desk.now.caller.op c.requires.turn) c.in_ok-set_priority.ensures.set)

pub returns-clause-active : goal.returns-clause-active
returns-clause-active g c =
    let old = c.args.desk.now in
    let new = c.set_priority.new.self in
    may_on c.args.op Closes old new (set_same c.args.op c.args.absolute (to_z w32 (of_z w32 c.args.amount)) c.set_priority.result old new c.set_priority.ensures.set c.set_priority.ensures.kept)
    (sets_one c.args.op c.args.absolute (to_z w32 (of_z w32 c.args.amount)) c.in_ok-set_priority.field-0 old new (above c.args.op old.caller.op c.requires.turn) c.in_ok-set_priority.ensures.set) c.requires.active
