use Rattle.std.proofs.Common.{◌≡◌, ℕ, ◌+◌, max, length, ap, subst, arith, OnOk}
use Rattle.xa_caller.specs.Caller.{CallerState}
use Rattle.xa_caller.proofs.Reading.{none_out}
use Rattle.xa_server.proofs.noting.make_room.Goals as goal

pub returns-clause-ok : goal.returns-clause-ok
returns-clause-ok c =
    let s : CallerState = c.args.caller.now in
    let empty = ap length (none_out s c.id-itself.ensures.sound c.requires.idle c.requires.none) in
    let same : length s.out + c.args.room ≡ c.args.room = omega (arith, empty) in
    subst (λ (n : ℕ). OnOk c.reserve.result (c.reserve.new.self ≡ record s { work = record s.work { room = max s.work.room n } })) same c.reserve.ensures.ok

pub returns-clause-none : goal.returns-clause-none
returns-clause-none c = none_out c.args.caller.now c.id-itself.ensures.sound c.requires.idle c.requires.none
