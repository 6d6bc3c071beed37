-- What a request comes to that no queue took, from what its refusal left.
use Rattle.std.proofs.Common.{◌≡◌, ℕ, ◌+◌, max, false, length, Bool, List, [], ◌∷◌, Some, None, Result, Ok, Err, zero, suc, map, inl, inr, refl, sym, ◌∙◌, subst}
use Rattle.std.specs.Prelude.{IfOk, IfErr, OnErr, IsSome, slice_get}
use Rattle.std.specs.List.{All, find, position}
use Rattle.xa_types.specs.declared.data.Data.{Data}
use Rattle.xa_types.specs.declared.row.Row.{Row}
use Rattle.xa_types.specs.declared.setup.Setup.{Setup}
use Rattle.xa_types.specs.declared.fault.Fault.TheVariants.{Limit, BadDesc}
use Rattle.xa_types.specs.Found.{FoundRows}
use Rattle.xa_types.specs.Kind.{kind_of, is_accepted}
use Rattle.xa_events.specs.declared.event.Evidence.TheVariants.{Cells, Descriptor}
use Rattle.xa_cell.specs.Calls.{AllTaken}
use Rattle.std.proofs.lemmas.List.Elements.{All-head, All-tail}
use Rattle.xa_types.specs.declared.fault.Fault.{Fault}
use Rattle.xa_types.specs.declared.stamp.Stamp.{Stamp}
use Rattle.xa_events.specs.declared.event.Evidence.{Evidence}
use Rattle.xa_cell.specs.declared.tokens.Seat.{Seat}
use Rattle.xa_cell.specs.Known.{known}
use Rattle.xa_cell.specs.Changes.{withdrawn}
use Rattle.xa_worker.specs.declared.work.Halt.{Halt}
use Rattle.xa_worker.specs.Work.{HaltsAt}
use Rattle.xa_caller.specs.declared.cargo.Filling.{Filling}
use Rattle.xa_caller.specs.declared.phase.Draft.{Draft}
use Rattle.xa_caller.specs.declared.phase.Phase.TheVariants.{Idle, Prepared}
use Rattle.xa_caller.specs.declared.outcomes.Step.{Step}
use Rattle.xa_caller.specs.declared.outcomes.Why.{Why}
use Rattle.xa_caller.specs.Caller.{CallerState, room_to_send}
use Rattle.xa_caller.specs.Changes.{Refuses, StopsAs, CancelsAt, CancelsAs, stop}
use Rattle.xa_caller.specs.Descriptors.{is_at}
use Rattle.xa_caller.specs.Phases.{request_of}
use Rattle.xa_caller.proofs.Standing.{numbered_so}
use Rattle.xa_events.specs.Cases.{is_numbered}
use Rattle.xa_caller.specs.Unsent.{step, refused_for, other_step, EndsAs, UnsentAs}

-- what stands at a place of a list has what all have
pub at-all : {X : Type 0} (P : X → Type 0) (xs : List X) (k : ℕ) (x : X) → slice_get xs k ≡ Some x → All P xs → P x
at-all P [] k x is all = absurd (cc is)
at-all P (y ∷ ys) zero x is all = subst P (cc is) (All-head P y ys all)
at-all P (y ∷ ys) (suc k) x is all = at-all P ys k x is (All-tail P y ys all)

module _ (cell : ℕ) (why : Why) (no_block : Bool) (draft : Draft) (seat : Seat Filling) (new left old : CallerState) (was : old.phase ≡ Prepared draft) (back : known seat ≡ withdrawn cell (known old.seat))
    (made : left ≡ record old { seat = seat; phase = Idle }) where
  ends_as : (step : Step) → EndsAs draft.op (refused_for draft why no_block) (other_step why) step new left → UnsentAs cell why no_block step new old
  ends_as step ends = record { draft = draft; was = was; seat = seat; back = back; ends = subst (EndsAs draft.op (refused_for draft why no_block) (other_step why) step new) made ends }

  ended : (fault : Fault) (evidence : Evidence) (result : Result Stamp Halt) → IfOk result (λ stamp. Refuses draft.op fault evidence stamp new left) → IfErr result (HaltsAt left.work.stamp) → OnErr result (new ≡ left) → EndsAs draft.op (Some (fault, evidence)) (other_step why) (step result) new left
  ended fault evidence (Ok stamp) refuses halted kept = refuses
  ended fault evidence (Err halt) refuses halted kept = (halted, kept)

  pub unsent_refused : (fault : Fault) (evidence : Evidence) → refused_for draft why no_block ≡ Some (fault, evidence) → (op : ℕ) → op ≡ draft.op → (result : Result Stamp Halt) (s : Step) → s ≡ step result
      → IfOk result (λ stamp. Refuses op fault evidence stamp new left) → IfErr result (HaltsAt left.work.stamp) → OnErr result (new ≡ left) → UnsentAs cell why no_block s new old
  unsent_refused fault evidence is op same result s steps refuses halted kept =
      ends_as s (subst (λ o. EndsAs draft.op o (other_step why) s new left) (sym is) (subst (λ t. EndsAs draft.op (Some (fault, evidence)) (other_step why) t new left) (sym steps)
      (ended fault evidence result (subst (λ n. IfOk result (λ stamp. Refuses n fault evidence stamp new left)) same refuses) halted kept)))

  pub unsent_other : refused_for draft why no_block ≡ None → (s : Step) → s ≡ other_step why → new ≡ left → UnsentAs cell why no_block s new old
  unsent_other is s steps kept = ends_as s (subst (λ o. EndsAs draft.op o (other_step why) s new left) (sym is) (steps, kept))

-- where all cells are in use the call is refused for that, or stops behind its looks
pub limits_from : (setup : Setup) (op n : ℕ) (payload : Data) (found : FoundRows) (row : Row) (r : Result Stamp Halt) (new mid old : CallerState) (seat : Seat Filling) → find (λ (one : Row). is_accepted setup one.accepts (kind_of payload)) found.rows ≡ Some row
    → IfOk r (λ stamp. Refuses op Limit (Cells n) stamp new mid) → IfErr r (HaltsAt mid.work.stamp) → OnErr r (new ≡ mid) → mid ≡ record old { work = record old.work { room = max old.work.room (length old.out + room_to_send) }; seat = seat } → AllTaken old.seat seat → n ≡ old.seat.count → StopsAs setup op payload found (stop r) new old
limits_from setup op n payload found row (Ok stamp) new mid old seat some ok halted kept is taken count =
    inr (subst IsSome (sym some) refl, record { seat = seat; taken = taken; refuses = subst (λ (z : CallerState). Refuses op Limit (Cells old.seat.count) stamp new z) is (subst (λ k. Refuses op Limit (Cells k) stamp new mid) count ok) })
limits_from setup op n payload found row (Err halt) new mid old seat some ok halted kept is taken count =
    (subst (λ (z : CallerState). HaltsAt z.work.stamp halt) is halted, inr (record { seat = seat; taken = taken; made = kept ∙ is }))

-- what a tpcancel of a descriptor that isn't open comes to
pub cancels_refused : (op descriptor : ℕ) (r : Result Stamp Halt) (new old : CallerState) → is_numbered descriptor (map request_of old.out) ≡ false → IfOk r (λ stamp. Refuses op BadDesc (Descriptor descriptor) stamp new old) → IfErr r (HaltsAt old.work.stamp) → OnErr r (new ≡ old) → CancelsAs op descriptor r new old
cancels_refused op descriptor (Ok stamp) new old none ok halted kept = inl (none, ok)
cancels_refused op descriptor (Err halt) new old none ok halted kept = (halted, kept)

-- and of one that is
pub cancels_found : (op descriptor place : ℕ) (r : Result Stamp Halt) (new old : CallerState) → position (is_at descriptor) old.out ≡ Some place → IfOk r (λ stamp. CancelsAt op place stamp new old) → IfErr r (HaltsAt old.work.stamp) → OnErr r (new ≡ old) → CancelsAs op descriptor r new old
cancels_found op descriptor place (Ok stamp) new old found ok halted kept = inr (ok.0, ok.1, ok.2, numbered_so old.out descriptor place ok.1 found ok.3, ok.4)
cancels_found op descriptor place (Err halt) new old found ok halted kept = (halted, kept)
