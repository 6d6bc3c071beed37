use Rattle.std.proofs.Common.{[], ◌∷◌, ◌++◌, map, sym, ◌∙◌, ap, subst, arith, length-append, append_assoc}
use Rattle.std.proofs.lemmas.List.{map-append}
use Rattle.xa_cell.specs.Known.{known}
use Rattle.xa_cell.specs.Places.{OpenAre}
use Rattle.xa_cell.specs.Changes.{looked}
use Rattle.xa_cell.proofs.OpenPlaces.{is_among, still_open}
use Rattle.xa_cell.proofs.Viewed.{stand_trans}
use Rattle.xa_caller.specs.declared.phase.Open.{Open}
use Rattle.xa_caller.specs.Phases.{place_of}
use Rattle.xa_caller.proofs.Standing.{parts_at}
use Rattle.xa_caller.proofs.Fetching.{next_of, pending_more}
use Rattle.xa_caller.proofs.getting.first_come.Goals as goal

pub look-requires-clause-place : goal.look-requires-clause-place
look-requires-clause-place c =
    let o : Open = c.get.result.now in
    let stood = parts_at c.args.out.now.all c.loop-place.place o c.get.ensures in
    let are = still_open c.requires.open_ c.loop-place.invariant.stand in
    is_among (map place_of stood.front) (map place_of stood.back) o.place.cell o.request
    (subst (λ l. OpenAre l (known c.loop-place.seat)) (ap (map place_of) stood.is ∙ map-append place_of stood.front (o ∷ stood.back)) are)

pub returns-in-Come-clause-looks : goal.returns-in-Come-clause-looks
returns-in-Come-clause-looks c =
    let o : Open = c.get.result.now in
    let passed = c.loop-place.invariant.passed in
    let next = next_of c.args.out.now.all passed.0 passed.1 c.loop-place.place o passed.2 passed.3 c.get.ensures in
    record {
      sent = o;
      stood = record { front = passed.0; back = next.0; is = passed.2 ∙ ap (λ l. passed.0 ++ l) next.1; before = passed.3 };
      view = c.in-Come.ensures.known.0 ∙ ap (looked o.place.cell 0) passed.4;
      settled = c.in-Come.ensures.known.1;
    }

pub loop-place-preserved : goal.loop-place-preserved
loop-place-preserved c =
    let o : Open = c.get.result.now in
    let i = c.loop-place.invariant in
    let passed = i.passed in
    let next = next_of c.args.out.now.all passed.0 passed.1 c.loop-place.place o passed.2 passed.3 c.get.ensures in
    let more = length-append passed.0 (o ∷ []) in
    let count = passed.3 in
    let seat = c.look.ensures.seat in
    record {
      same = (seat.0, seat.1 ∙ i.same.1, seat.2 ∙ i.same.2);
      stand = stand_trans (known c.args.seat.now) (known c.loop-place.seat) (known c.look.new.seat) i.stand c.look.ensures.open;
      passed = (passed.0 ++ o ∷ [], next.0, passed.2 ∙ ap (λ l. passed.0 ++ l) next.1 ∙ sym (append_assoc passed.0 (o ∷ []) next.0), omega (arith, more, count), c.in-Pending.ensures.known ∙ ap (looked o.place.cell 1) passed.4 ∙ sym (pending_more passed.0 o (known c.args.seat.now)));
    }
