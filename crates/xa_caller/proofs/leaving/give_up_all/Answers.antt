use Rattle.std.proofs.Common.{◌≡◌, ◌++◌, ◌∷◌, [], List, refl, sym, ◌∙◌, ap, subst, append_assoc}
use Rattle.xa_types.specs.declared.ids.CallerId.{CallerId}
use Rattle.xa_types.specs.declared.ids.RequestId.{RequestId}
use Rattle.xa_events.specs.declared.event.Event.TheVariants.{Cancel}
use Rattle.xa_events.specs.declared.event.Cancelled.{Cancelled}
use Rattle.xa_cell.specs.Known.{known}
use Rattle.xa_worker.specs.Work.{WorkState, noted_here}
use Rattle.xa_caller.specs.declared.phase.Open.{Open}
use Rattle.xa_caller.specs.Kept.{IsLeaving}
use Rattle.xa_caller.proofs.Standing.{same_at}
use Rattle.xa_caller.proofs.Departing.{fills_trans, gives_next, gave_first, gives_more, first_taken, first_of}
use Rattle.xa_caller.proofs.leaving.give_up_all.Goals as goal

pub note-requires-clause-next : goal.note-requires-clause-next
note-requires-clause-next c =
    let w : WorkState = c.loop-work.work in
    let o : Open = c.get.result.now in
    let rest = first_of c.loop-work.out.all o c.get.ensures in
    let x : Cancelled = record { by = c.id.result; op = 0; request = o.request } in
    gives_next w c.loop-work.seat o rest.0 x (subst (IsLeaving w c.loop-work.seat) rest.1 c.loop-work.invariant.leaving) c.id.ensures.value refl refl

pub loop-work-preserved : goal.loop-work-preserved
loop-work-preserved c =
    let w : WorkState = c.loop-work.work in
    let i = c.loop-work.invariant in
    let o : Open = c.take.result in
    let left : List Open = c.take.new.self.all in
    let all = first_taken c.loop-work.out.all left o c.take.ensures.stood in
    let same : c.get.result.now ≡ o = same_at c.loop-work.out.all 0 c.get.result.now o c.get.ensures c.take.ensures.is in
    let its = ap (λ (z : Open). z.request) same in
    let x : Cancelled = record { by = c.id.result; op = 0; request = c.get.result.now.request } in
    let new = c.drop_place.new.seat in
    let seat = c.drop_place.ensures.cells in
    let made = c.in_ok-note.ensures.noted in
    let event : CallerId → RequestId → WorkState = λ id r. noted_here (record { stamp = c.in_ok-note.field-0; event = Cancel (record { by = id; op = 0; request = r }) }) w in
    record {
      same = (seat.0, seat.1 ∙ i.same.1, seat.2 ∙ i.same.2);
      filled = fills_trans (known c.args.seat.now) (known c.loop-work.seat) (known new) i.filled c.drop_place.ensures.filled;
      leaving = subst (λ (v : WorkState). IsLeaving v new left) (sym made) (gave_first c.args.cells.now w c.loop-work.seat new o left c.in_ok-note.field-0 x (subst (IsLeaving w c.loop-work.seat) all i.leaving) c.id.ensures.value its seat c.drop_place.ensures.shut);
      given = (
        i.given.0 ++ o ∷ [],
        i.given.1 ∙ ap (λ (l : List Open). i.given.0 ++ l) all ∙ sym (append_assoc i.given.0 (o ∷ []) left),
        gives_more i.given.0 o c.note.new.self w c.args.work.now i.given.2 (c.in_ok-note.field-0, c.in_ok-note.ensures.stamp.0, made ∙ ap (λ id. event id c.get.result.now.request) c.id.ensures.value ∙ ap (event w.id) its),
      );
      id = ap (λ (v : WorkState). v.id) made ∙ i.id;
    }
