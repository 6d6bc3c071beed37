use Rattle.std.proofs.Common.{◌≤◌, [], refl, sym, ap, subst, arith}
use Rattle.xa_types.specs.declared.setup.Setup.{Setup}
use Rattle.xa_events.specs.Board.{boot}
use Rattle.xa_cell.specs.declared.tokens.Seat.{Seat}
use Rattle.xa_cell.specs.Known.{known, IsNew, IsSeatOf}
use Rattle.xa_caller.specs.declared.cargo.Filling.{Filling}
use Rattle.xa_worker.specs.Work.{WorkState}
use Rattle.xa_caller.specs.Caller.{CallerState}
use Rattle.xa_trials_callers.specs.Callers.{IsClient, Rests}
use Rattle.xa_trials_callers.proofs.Calling.{boot_few}
use Rattle.xa_trials_objects.proofs.Seats.{last}
use Rattle.xa_trials_callers.proofs.clients.open.Goals as goal

pub new-caller-requires-clause-seat : goal.new-caller-requires-clause-seat
new-caller-requires-clause-seat g c = last (λ (s : Seat Filling). IsNew s.first s.count (known s)) [] _ _ c.only_seat-seat.ensures c.in-Ok.ensures.new

pub new-caller-requires-clause-least : goal.new-caller-requires-clause-least
new-caller-requires-clause-least g c = subst (λ (s : Setup). boot s ≤ 256) (sym (ap (λ (w : WorkState). w.setup) c.new-work.ensures)) (boot_few c.args.setup.now c.requires)

pub returns-clause-rests : goal.returns-clause-rests
returns-clause-rests g c =
    let setup = c.args.setup.now in
    let seat = last (IsSeatOf c.in-Ok.cells) [] _ _ c.only_seat-seat.ensures c.in-Ok.ensures.table in
    let its = subst (λ (w : WorkState). IsClient setup 0 w.setup w.clients w.id.0 0 256) (sym c.new-work.ensures) (record { configured = refl; client = refl; number = refl; low = omega arith }) in
    subst (λ (s : CallerState). Rests setup c.in-Ok.cells 0 s) (sym c.new-caller.ensures) (seat, its, refl)
