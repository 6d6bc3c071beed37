use Rattle.std.proofs.Common.{◌≡◌, ◌+◌, ◌<◌, List, length, sym, ◌∙◌, ap, subst, arith}
use Rattle.xa_events.specs.declared.event.Event.{Event}
use Rattle.xa_events.specs.Views.{CallerView}
use Rattle.xa_stamp.specs.declared.home.Stamped.{Stamped}
use Rattle.xa_worker.specs.Work.{WorkState, IsNext, noted}
use Rattle.xa_caller.specs.Caller.{CallerState, Reads, IsSound, view_of}
use Rattle.xa_caller.specs.Kept.{standing_of, Holds, IsSeated}
use Rattle.xa_caller.specs.Phases.{places_in, drafted}
use Rattle.xa_types.specs.declared.ids.RequestId.{RequestId}
use Rattle.xa_caller.proofs.Reading.{view-more, reads_aside, owed_aside}
use Rattle.xa_caller.proofs.caller.Caller.noted.Goals as goal

pub invariant_of-self : goal.invariant_of-self
invariant_of-self c =
    let s : CallerState = standing_of c.self.inside in
    let i = c.self.invariant in
    let w : WorkState = c.self.inside.work in
    let e : Event = c.args.event.value in
    let x : Stamped = record { stamp = c.args.stamp; event = e } in
    let next : IsNext w e = subst (λ (t : CallerState). IsNext t.work e) (sym c.self.view_is) c.requires.next in
    let made : c.noted.new.self ≡ noted x w = c.noted.ensures.noted in
    let later = subst (λ (t : CallerState). t.work.stamp.0 < c.args.stamp.0) (sym c.self.view_is) c.requires.later in
    let higher = ap (λ (v : WorkState). v.stamp.0) made in
    record {
      sound = subst (λ (v : WorkState). IsSound (record s { work = v })) (sym made) (record {
        reads = subst (λ (view : CallerView). Reads w.setup view s.op s.sent s.least s.priority s.out s.phase) (sym (view-more w x next.its)) (reads_aside w.setup w.clients w.id.0 e (view_of w) s.op s.sent s.least s.priority s.out s.phase c.requires.kind i.sound.reads);
        served = i.sound.served;
      });
      holds = subst (λ (v : WorkState). Holds v.setup v.id s.seat v.room s.op s.sent s.least s.priority c.self.inside.out s.phase) (sym made) i.holds;
      places = i.places;
      seated = subst (λ (v : WorkState). IsSeated v.clients v.id s.seat (length (places_in s.out s.phase)) (length (view_of v).unanswered + drafted s.phase)) (sym made)
          (subst (λ (l : List RequestId). IsSeated w.clients w.id s.seat (length (places_in s.out s.phase)) (length l + drafted s.phase)) (sym (ap (λ (view : CallerView). view.unanswered) (view-more w x next.its) ∙ owed_aside w.clients w.id.0 e (view_of w) c.requires.kind)) i.seated);
      few = omega (arith, i.few, higher, later);
    }
