use Rattle.std.proofs.Common.{refl, arith}
use Rattle.xa_boot.proofs.Dealt.{hired}
use Rattle.xa_boot.proofs.staff.Staff.next.Goals as goal

pub returns : goal.returns
returns c =
    let some = c.requires.some in
    hired c.args.self.now _ _ c.last_of-room.result (omega (arith, some)) refl refl c.requires.full c.last_of.ensures c.last_of-2.ensures c.last_of-3.ensures c.last_of-4.ensures c.last_of-room.ensures c.last_passes.ensures
