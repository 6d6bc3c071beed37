use Rattle.std.proofs.Common.{refl, ◌≡◌, ◌+◌, ◌≤◌, List, [], None, length, sym, subst, arith}
use Rattle.xa_cell.specs.Known.{known}
use Rattle.xa_cell.specs.Places.{OpenAre}
use Rattle.xa_cell.proofs.OpenPlaces.{none_open}
use Rattle.xa_caller.specs.declared.phase.Open.{Open}
use Rattle.xa_caller.specs.declared.phase.Phase.TheVariants.{Idle}
use Rattle.xa_caller.specs.Phases.{places_in}
use Rattle.xa_caller.specs.Caller.{IsSound, view_of}
use Rattle.xa_caller.specs.Kept.{IsSeated, AreOut}
use Rattle.xa_caller.proofs.Counting.{seated-new, seated-more}
use Rattle.xa_caller.proofs.Reading.{reads_nothing}
use Rattle.xa_caller.proofs.caller.Caller.new.Goals as goal

pub invariant_of-result : goal.invariant_of-result
invariant_of-result c =
    let w = c.args.work in
    let seat = c.args.seat in
    let none : c.new.result.all ≡ [] = c.new.ensures in
    record {
      sound = subst (λ (l : List Open). IsSound (record { work = w; seat = seat; op = 0; sent = 0; least = c.args.least; priority = None; out = l; phase = Idle })) (sym none) (record { reads = reads_nothing w c.args.least c.requires.work c.requires.least; served = λ other. refl });
      holds = subst (λ (l : List Open). (length l ≤ w.room) × AreOut w.id seat l 0) (sym none) (omega arith, record { mine = tt; rise = omega arith });
      places = subst (λ (l : List Open). OpenAre (places_in l Idle) (known seat)) (sym none) (none_open c.requires.seat);
      seated = subst (λ (l : List Open). IsSeated w.clients w.id seat (length (places_in l Idle)) (length (view_of w).unanswered + 0)) (sym none) (seated-more w.clients w.id seat 0 0 (length (view_of w).unanswered + 0) (omega arith) (seated-new w.clients w.id seat c.requires.cells c.requires.seat));
      few = omega arith;
    }
