-- What the worker's seat filled stays, as its caller goes on.
use Rattle.std.proofs.Common.{◌≡◌, ℕ, ℤ, Bool, Option, Some, None, Result, Ok, Err, inl, inr, sym, ap, subst}
use Rattle.std.specs.Prelude.{IfOk, OnErr}
use Rattle.xa_desk.specs.xa_types.declared.data.Data.{Data}
use Rattle.xa_desk.specs.xa_types.declared.data.Kind.{Kind}
use Rattle.xa_desk.specs.xa_types.declared.fault.Fault.{Fault}
use Rattle.xa_desk.specs.xa_types.declared.setup.Setup.{Setup}
use Rattle.xa_desk.specs.xa_types.declared.stamp.Stamp.{Stamp}
use Rattle.xa_desk.specs.xa_types.Found.{FoundRows}
use Rattle.xa_desk.specs.xa_events.declared.event.Evidence.{Evidence}
use Rattle.xa_desk.specs.xa_cell.declared.tokens.Seat.{Seat}
use Rattle.xa_desk.specs.xa_cell.declared.view.View.{View}
use Rattle.xa_desk.specs.xa_cell.Calls.{TookAs}
use Rattle.xa_desk.specs.xa_cell.Changes.{looked}
use Rattle.xa_desk.specs.xa_cell.Growing.{Keeps}
use Rattle.xa_desk.specs.xa_cell.Known.{known}
use Rattle.xa_desk.specs.xa_cell.Views.{at}
use Rattle.xa_desk.proofs.xa_cell.Growing.{looked_keeps, withdrawn_keeps, more_behind}
use Rattle.xa_desk.proofs.xa_server.Calls.{began_keeps, full_keeps, asked_looked, took_is_more}
use Rattle.xa_desk.proofs.xa_server.Growth.{only_at}
use Rattle.xa_desk.specs.xa_worker.declared.work.Halt.{Halt}
use Rattle.xa_desk.specs.xa_caller.declared.cargo.Filling.{Filling}
use Rattle.xa_desk.specs.xa_caller.declared.outcomes.Prepared.{Prepared}
use Rattle.xa_desk.specs.xa_caller.declared.outcomes.Step.{Step}
use Rattle.xa_desk.specs.xa_caller.declared.outcomes.Step.TheVariants as steps
use Rattle.xa_desk.specs.xa_caller.declared.outcomes.Stop.{Stop}
use Rattle.xa_desk.specs.xa_caller.declared.outcomes.Stop.TheVariants as stops
use Rattle.xa_desk.specs.xa_caller.declared.outcomes.Why.{Why}
use Rattle.xa_desk.specs.xa_caller.declared.phase.Phase.TheVariants.{Idle}
use Rattle.xa_desk.specs.xa_caller.Caller.{CallerState}
use Rattle.xa_desk.specs.xa_caller.Changes.{Prepares, SetsPriority, StopsAs, StepsAs}
use Rattle.xa_desk.specs.xa_caller.Unsent.{ChecksAs, UnsentAs, EndsAs, refused_for, other_step}
use Rattle.xa_desk.specs.declared.desk.Desk.{Desk}
use Rattle.xa_calls.specs.Going.{FillsNone}

-- the seat is the same
pub seat_fills : (old new : Desk) → new.caller.seat ≡ old.caller.seat → FillsNone old new
seat_fills old new is k = ap (λ (s : Seat Filling). (at k (known s)).filled) is

-- or it took and filled nothing
keeps_fills : (old new : Desk) → Keeps (known old.caller.seat) (known new.caller.seat) → FillsNone old new
keeps_fills old new keeps k = (keeps.each k).filled

pub prepared_fills : (setup : Setup) (op : ℕ) (payload : Data) (found : FoundRows) (prepared : Prepared) (old new : Desk) {cells : _} → Prepares setup cells op payload found prepared new.caller old.caller → FillsNone old new
prepared_fills setup op payload found prepared old new {cells} makes = keeps_fills old new (began_keeps cells _ old.caller.seat new.caller.seat makes.draft.asked.place prepared.entry.cargo.ticket makes.began)

pub checks_fills : (op : ℕ) (stop : Stop) (old new : Desk) → ChecksAs op stop new.caller old.caller → FillsNone old new
checks_fills op (stops.Refused stamp) old new checks = seat_fills old new (ap (λ (c : CallerState). c.seat) checks.made)
checks_fills op (stops.Halt halt) old new checks = seat_fills old new (ap (λ (c : CallerState). c.seat) checks.1)

pub stopped_fills : (setup : Setup) (op : ℕ) (payload : Data) (found : FoundRows) (stop : Stop) (old new : Desk) → StopsAs setup op payload found stop new.caller old.caller → FillsNone old new
stopped_fills setup op payload found (stops.Refused stamp) old new (inl (none, inl (empty, refuses))) = seat_fills old new (ap (λ (c : CallerState). c.seat) refuses.made)
stopped_fills setup op payload found (stops.Refused stamp) old new (inl (none, inr (some, refuses))) = seat_fills old new (ap (λ (c : CallerState). c.seat) refuses.made)
stopped_fills setup op payload found (stops.Refused stamp) old new (inr (some, limits)) =
    keeps_fills old new (subst (λ (s : Seat Filling). Keeps (known old.caller.seat) (known s)) (sym (ap (λ (c : CallerState). c.seat) limits.refuses.made)) (full_keeps old.caller.seat limits.seat limits.taken))
stopped_fills setup op payload found (stops.Halt halt) old new (halts, inl kept) = seat_fills old new (ap (λ (c : CallerState). c.seat) kept)
stopped_fills setup op payload found (stops.Halt halt) old new (halts, inr over) =
    keeps_fills old new (subst (λ (s : Seat Filling). Keeps (known old.caller.seat) (known s)) (sym (ap (λ (c : CallerState). c.seat) over.made)) (full_keeps old.caller.seat over.seat over.taken))

ends_seat : (op : ℕ) (refused : Option (Fault × Evidence)) (other step : Step) (new left : CallerState) → EndsAs op refused other step new left → new.seat ≡ left.seat
ends_seat op (Some (fault, evidence)) other (steps.Told stamp) new left ends = ap (λ (c : CallerState). c.seat) ends.made
ends_seat op (Some (fault, evidence)) other (steps.Halt halt) new left ends = ap (λ (c : CallerState). c.seat) ends.1
ends_seat op (Some (fault, evidence)) other steps.Wait new left ends = absurd ends
ends_seat op (Some (fault, evidence)) other steps.Halted new left ends = absurd ends
ends_seat op None other step new left ends = ap (λ (c : CallerState). c.seat) ends.1

pub unsent_fills : (cell : ℕ) (why : Why) (no_block : Bool) (step : Step) (old new : Desk) → UnsentAs cell why no_block step new.caller old.caller → FillsNone old new
unsent_fills cell why no_block step old new unsent =
    let back : Keeps (known old.caller.seat) (known unsent.seat) = subst (Keeps (known old.caller.seat)) (sym unsent.back) (withdrawn_keeps cell (known old.caller.seat)) in
    keeps_fills old new (subst (λ (s : Seat Filling). Keeps (known old.caller.seat) (known s)) (sym (ends_seat unsent.draft.op (refused_for unsent.draft why no_block) (other_step why) step new.caller (record old.caller { seat = unsent.seat; phase = Idle }) unsent.ends)) back)

-- an answer was taken
took_fills : (cell : ℕ) (filling : Filling) (old new : Desk) → TookAs cell filling (looked cell 0 (known old.caller.seat)) (known new.caller.seat) → FillsNone old new
took_fills cell filling old new took =
    let v : View Filling = known old.caller.seat in
    let w : View Filling = known new.caller.seat in
    let more = more_behind cell filling v (looked cell 0 v) w (asked_looked cell 0 v) (looked_keeps cell 0 v) (took_is_more cell filling (looked cell 0 v) w took) in
    only_at (λ j. (at j w).filled ≡ (at j v).filled) cell more.filled (λ j apart. (more.others j apart).filled)

pub looks_fills : (expect : Option Kind) (step : Step) (old new : Desk) → StepsAs expect step new.caller old.caller → FillsNone old new
looks_fills expect (steps.Told stamp) old new answers = took_fills answers.sent.place.cell answers.filling old new answers.took
looks_fills expect steps.Wait old new waits = keeps_fills old new (subst (Keeps (known old.caller.seat)) (sym waits.2) (looked_keeps waits.0.place.cell 1 (known old.caller.seat)))
looks_fills expect (steps.Halt halt) old new loses = took_fills loses.sent.place.cell loses.filling old new loses.took
looks_fills expect steps.Halted old new abandons = took_fills abandons.sent.place.cell abandons.filling old new abandons.took

pub set_fills : (op : ℕ) (absolute : Bool) (amount : ℤ) (r : Result Stamp Halt) (old new : Desk) → IfOk r (λ stamp. SetsPriority op absolute amount stamp new.caller old.caller) → OnErr r (new ≡ old) → FillsNone old new
set_fills op absolute amount (Ok stamp) old new sets kept = seat_fills old new (ap (λ (c : CallerState). c.seat) sets.made)
set_fills op absolute amount (Err halt) old new sets kept = seat_fills old new (ap (λ (desk : Desk). desk.caller.seat) kept)
