use Rattle.std.proofs.Common.{◌≡◌, ◌<◌, ◌≤◌, None, sym, ◌∙◌, ap, subst, arith}
use Rattle.xa_events.specs.declared.event.Event.{Event}
use Rattle.xa_events.specs.Views.{CallerView}
use Rattle.xa_stamp.specs.declared.home.Stamped.{Stamped}
use Rattle.xa_worker.specs.Work.{WorkState, IsNext, noted}
use Rattle.xa_caller.specs.declared.phase.Phase.TheVariants.{Idle}
use Rattle.xa_caller.specs.Caller.{CallerState, Reads, IsSound, view_of}
use Rattle.xa_caller.specs.Kept.{standing_of}
use Rattle.xa_caller.proofs.Keeping.{kept-idle, idle_room}
use Rattle.xa_caller.proofs.Reading.{view-more, reads_forwarded, owed_forwarded}
use Rattle.xa_caller.proofs.caller.Caller.forwarded.Goals as goal

pub invariant_of-self : goal.invariant_of-self
invariant_of-self c =
    let s : CallerState = standing_of c.self.inside in
    let i = c.self.invariant in
    let w : WorkState = c.self.inside.work in
    let e : Event = c.args.event.value in
    let v = c.args.version in
    let x : Stamped = record { stamp = c.args.stamp; event = e } in
    let next : IsNext w e = subst (λ (t : CallerState). IsNext t.work e) (sym c.self.view_is) c.requires.next in
    let made : c.noted.new.self ≡ noted x w = c.noted.ensures.noted in
    let idle : s.phase ≡ Idle = ap (λ (t : CallerState). t.phase) c.self.view_is ∙ c.requires.idle in
    let later = subst (λ (t : CallerState). t.work.stamp.0 < c.args.stamp.0) (sym c.self.view_is) c.requires.later in
    let recent = subst (λ (t : CallerState). t.least ≤ v) (sym c.self.view_is) c.requires.recent in
    let higher = ap (λ (u : WorkState). u.stamp.0) made in
    let room = ap (λ (u : WorkState). u.room) made in
    let some = idle_room c.self.inside i idle in
    kept-idle c.self.inside c.noted.new.self s.op v None i idle
    (subst (λ (u : WorkState). IsSound (record s { work = u; least = v; priority = None })) (sym made) (record {
      reads = subst (λ (view : CallerView). Reads w.setup view s.op s.sent v None s.out s.phase) (sym (view-more w x next.its)) (reads_forwarded w.setup w.clients w.id.0 e (view_of w) s.op s.sent s.least v s.priority s.out s.phase c.requires.kind next.its recent i.sound.reads);
      served = i.sound.served;
    }))
    (ap (λ (u : WorkState). u.clients) made) (ap (λ (u : WorkState). u.id) made) (omega (arith, room, some)) (ap (λ (u : WorkState). (view_of u).unanswered) made ∙ ap (λ (view : CallerView). view.unanswered) (view-more w x next.its) ∙ owed_forwarded w.clients w.id.0 v e (view_of w) c.requires.kind) (omega (arith, i.few, higher, later))
