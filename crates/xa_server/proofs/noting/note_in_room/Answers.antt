use Rattle.std.proofs.Common.{◌<◌, List, length, sym, subst}
use Rattle.xa_caller.specs.declared.phase.Open.{Open}
use Rattle.xa_caller.specs.Caller.{CallerState}
use Rattle.xa_caller.proofs.Reading.{none_out}
use Rattle.xa_server.proofs.noting.note_in_room.Goals as goal

pub note-requires-clause-room : goal.note-requires-clause-room
note-requires-clause-room c =
    let s : CallerState = c.args.caller.now in
    subst (λ (out : List Open). length out < s.work.room) (sym (none_out s c.id-itself.ensures.sound c.requires.idle c.requires.none)) c.requires.room
