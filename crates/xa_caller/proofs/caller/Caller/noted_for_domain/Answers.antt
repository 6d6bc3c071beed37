use Rattle.std.proofs.Common.{◌≡◌, ◌+◌, ◌<◌, List, length, sym, ◌∙◌, ap, subst, arith}
use Rattle.xa_events.specs.declared.event.Event.{Event}
use Rattle.xa_events.specs.Views.{caller_view}
use Rattle.xa_stamp.specs.declared.home.Stamped.{Stamped}
use Rattle.xa_worker.specs.Work.{WorkState, theirs, noted}
use Rattle.xa_caller.specs.Phases.{places_in, drafted}
use Rattle.xa_caller.specs.Caller.{CallerState, Reads}
use Rattle.xa_caller.specs.Kept.{standing_of, IsSeated, IsKept}
use Rattle.xa_caller.proofs.caller.Caller.noted_for_domain.Goals as goal

pub invariant_of-self : goal.invariant_of-self
invariant_of-self c =
    let s : CallerState = standing_of c.self.inside in
    let i = c.self.invariant in
    let w : WorkState = c.self.inside.work in
    let x : Stamped = record { stamp = c.args.stamp; event = c.args.event.value } in
    let made : c.noted_for_domain.new.self ≡ noted x w = c.noted_for_domain.ensures.noted in
    let same : theirs (noted x w) ≡ theirs w = ap theirs (sym made) ∙ c.noted_for_domain.ensures.theirs in
    let later = subst (λ (t : CallerState). t.work.stamp.0 < c.args.stamp.0) (sym c.self.view_is) c.requires.later in
    let few = i.few in
    subst (λ (v : WorkState). IsKept (record c.self.inside { work = v })) (sym made) (record {
      sound = record { reads = subst (λ (es : List Event). Reads w.setup (caller_view w.clients w.id.0 es) s.op s.sent s.least s.priority s.out s.phase) (sym same) i.sound.reads; served = i.sound.served };
      holds = i.holds;
      places = i.places;
      seated = subst (λ (es : List Event). IsSeated w.clients w.id s.seat (length (places_in s.out s.phase)) (length (caller_view w.clients w.id.0 es).unanswered + drafted s.phase)) (sym same) i.seated;
      few = omega (arith, few, later);
    })
