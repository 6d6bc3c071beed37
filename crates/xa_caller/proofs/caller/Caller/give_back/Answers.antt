use Rattle.std.proofs.Common.{◌≡◌, ◌+◌, [], ◌∷◌, length, map, sym, ◌∙◌, subst, arith}
use Rattle.xa_cell.specs.Known.{known}
use Rattle.xa_cell.specs.Places.{OpenAre}
use Rattle.xa_cell.proofs.OpenPlaces.{one_less_open}
use Rattle.xa_worker.specs.Work.{WorkState}
use Rattle.xa_caller.specs.declared.phase.Draft.{Draft}
use Rattle.xa_caller.specs.declared.phase.Phase.TheVariants.{Idle, Prepared}
use Rattle.xa_caller.specs.Phases.{JustIs, place_of, Describes, places_in, drafted}
use Rattle.xa_caller.specs.Caller.{CallerState, view_of}
use Rattle.xa_caller.specs.Kept.{standing_of, Holds, IsSeated}
use Rattle.xa_caller.proofs.Reading.{reads_moved}
use Rattle.xa_caller.proofs.Counting.{seated-freed}
use Rattle.xa_caller.proofs.Ordering.{single_asked}
use Rattle.xa_events.specs.Caller.{accepted_in}
use Rattle.xa_caller.specs.declared.phase.Phase.{Phase}
use Rattle.xa_caller.proofs.Keeping.{settled-withdrawn, out-stays}
use Rattle.xa_caller.proofs.caller.Caller.give_back.Goals as goal

pub invariant_of-self : goal.invariant_of-self
invariant_of-self c =
    let s : CallerState = standing_of c.self.inside in
    let i = c.self.invariant in
    let w : WorkState = c.self.inside.work in
    let draft : Draft = c.draft_in-op.result in
    let was : s.phase ≡ Prepared draft = sym c.take_out.ensures.0 ∙ c.draft_in-op.ensures in
    let idle : c.take_out.new.phase ≡ Idle = c.take_out.ensures.1 in
    let cell = draft.asked.place.cell in
    let held = subst (Holds w.setup w.id s.seat w.room s.op s.sent s.least s.priority c.self.inside.out) was i.holds in
    let are : OpenAre (place_of draft.asked ∷ map place_of s.out) (known s.seat) = subst (λ p. OpenAre (places_in s.out p) (known s.seat)) was i.places in
    let seated = subst (λ p. IsSeated w.clients w.id s.seat (length (places_in s.out p)) (length (view_of w).unanswered + drafted p)) was i.seated in
    let asked = single_asked cell draft.asked.request (map place_of s.out) (known s.seat) seated.single are in
    let room = held.0 in
    record {
      sound = record { reads = reads_moved w.setup _ s.op s.sent s.least s.priority s.out s.out s.phase c.take_out.new.phase (subst (λ p. Describes s.out p (view_of w).descriptors) (sym idle) (subst (λ p. Describes s.out p (view_of w).descriptors) was i.sound.reads.descriptors)) (subst (λ (p : Phase). JustIs s.out p (accepted_in (view_of w).called)) (sym idle) (subst (λ (p : Phase). JustIs s.out p (accepted_in (view_of w).called)) was i.sound.reads.just)) i.sound.reads; served = i.sound.served };
      holds = subst (Holds w.setup w.id c.withdraw.new.seat w.room s.op s.sent s.least s.priority c.self.inside.out) (sym idle) (omega (arith, room), out-stays c.args.cells.now w.id s.seat c.withdraw.new.seat s.out s.sent c.withdraw.ensures.seat held.1);
      places = subst (λ p. OpenAre (places_in s.out p) (known c.withdraw.new.seat)) (sym idle) (one_less_open [] (map place_of s.out) draft.asked.request s.seat are c.withdraw.ensures.shut);
      seated = subst (λ p. IsSeated w.clients w.id c.withdraw.new.seat (length (places_in s.out p)) (length (view_of w).unanswered + drafted p)) (sym idle)
          (seated-freed c.args.cells.now w.clients w.id s.seat c.withdraw.new.seat c.withdraw.ensures.seat _ _ seated cell draft.asked.request (length (map place_of s.out)) (length (view_of w).unanswered + 0) held.3 held.4 asked c.withdraw.ensures.shut
          (settled-withdrawn cell draft.asked.request (known s.seat) (known c.withdraw.new.seat) asked c.withdraw.ensures.known) (omega arith) (omega arith));
      few = i.few;
    }
