use Rattle.std.proofs.Common.{ap, arith}
use Rattle.xa_types.specs.Found.{FoundRows}
use Rattle.xa_caller.proofs.caller.Caller.turn_down.Goals as goal

pub refuse-requires-clause-shows : goal.refuse-requires-clause-shows
refuse-requires-clause-shows c =
    let floor = c.id-itself.ensures.sound.reads.floor in
    let version = ap (λ (f : FoundRows). f.version) c.found.view_is in
    omega (arith, floor, c.requires.recent, version)

pub refuse-requires-2-clause-shows : goal.refuse-requires-2-clause-shows
refuse-requires-2-clause-shows c =
    let floor = c.id-itself.ensures.sound.reads.floor in
    let version = ap (λ (f : FoundRows). f.version) c.found.view_is in
    omega (arith, floor, c.requires.recent, version)
