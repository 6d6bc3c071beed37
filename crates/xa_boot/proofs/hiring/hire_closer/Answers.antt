use Rattle.std.proofs.Common.{◌≡◌, sym, subst, arith}
use Rattle.xa_client_worker.specs.xa_worker.declared.own.Own.{Own}
use Rattle.xa_boot.specs.Staffing.{IsPost}
use Rattle.xa_boot.proofs.Seated.{new_closer}
use Rattle.xa_boot.proofs.hiring.hire_closer.Goals as goal

pub returns : goal.returns
returns c =
    let d = c.args.domain.now in
    let hires = c.next-seat.ensures in
    let staff = hires.staff d c.requires.left.staff in
    let left = hires.left in
    let number = c.requires.left.number in
    let none : c.next-seat.new.self.left ≡ 0 = omega (arith, left, number) in
    let post : IsPost d c.next-seat.new.self.own 0 c.next-seat.result = subst (λ n. IsPost d c.next-seat.new.self.own n c.next-seat.result) none
    (subst (λ (own : Own). IsPost d own c.next-seat.new.self.left c.next-seat.result) (sym hires.own) (hires.is_post d c.requires.left.staff)) in
    new_closer d c.next-seat.new.self.own c.next-seat.result staff.boot post staff.booted
