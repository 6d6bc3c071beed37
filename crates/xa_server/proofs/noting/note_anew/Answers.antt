use Rattle.std.proofs.Common.{◌<◌, List, length, sym, ◌∙◌, ap, subst, arith}
use Rattle.xa_caller.specs.declared.phase.Open.{Open}
use Rattle.xa_caller.specs.Caller.{CallerState}
use Rattle.xa_caller.proofs.xa_worker.Noting.{on_ok}
use Rattle.xa_server.proofs.noting.note_anew.Goals as goal

pub note-requires-clause-room : goal.note-requires-clause-room
note-requires-clause-room c =
    let made = on_ok c.make_room.result (sym c.is_err.ensures.value ∙ c.if-is_err.false) c.make_room.ensures.ok in
    let none = ap (λ (t : CallerState). t.out) made ∙ c.make_room.ensures.none in
    let room = ap (λ (t : CallerState). t.work.room) made in
    subst (λ (out : List Open). length out < c.make_room.new.caller.work.room) (sym none) (omega (arith, room, c.requires.room.0))
