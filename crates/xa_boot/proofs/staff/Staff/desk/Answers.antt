use Rattle.std.proofs.Common.{List, [], None, length, ap, ◌∙◌, arith}
use Rattle.xa_client_worker.specs.xa_stamp.declared.home.Stamped.{Stamped}
use Rattle.xa_client_worker.specs.xa_worker.Work.{WorkState}
use Rattle.xa_client_worker.specs.xa_caller.declared.phase.Phase.TheVariants.{Idle}
use Rattle.xa_boot.proofs.Seated.{new_desk}
use Rattle.xa_boot.proofs.staff.Staff.desk.Goals as goal

pub returns : goal.returns
returns c =
    let d = c.args.domain.now in
    let old = c.args.self.now in
    let hires = c.next-seat.ensures in
    let staff = hires.staff d c.requires.staff in
    let some = c.requires.some in
    let left = hires.left in
    record {
      left = left;
      own = hires.own;
      full = hires.full;
      staff = staff;
      desk_is = new_desk d old.own c.next-seat.new.self.left c.next-seat.result c.new.result c.next-seat.new.self.version (omega (arith, some, left)) c.requires.staff.boot (hires.is_post d c.requires.staff) c.requires.staff.booted
          (staff.version ∙ ap (λ (l : List Stamped). length l) hires.own)
          (c.new.ensures ∙ ap (λ (w : WorkState). record { work = w; seat = c.next-seat.result.seat; op = 0; sent = 0; least = c.next-seat.new.self.version; priority = None; out = []; phase = Idle }) c.new-work.ensures);
    }
