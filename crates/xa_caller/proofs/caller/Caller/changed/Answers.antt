use Rattle.std.proofs.Common.{◌≡◌, ◌≤◌, ◌<◌, true, sym, ◌∙◌, ap, subst, arith}
use Rattle.xa_events.specs.declared.event.Event.{Event}
use Rattle.xa_events.specs.Caller.{is_serving}
use Rattle.xa_worker.specs.Work.{WorkState, noted, theirs}
use Rattle.xa_caller.specs.declared.phase.Phase.TheVariants.{Idle}
use Rattle.xa_caller.specs.Caller.{CallerState, IsSound, view_of}
use Rattle.xa_caller.specs.Changes.{IsChangeBy}
use Rattle.xa_caller.specs.Kept.{standing_of}
use Rattle.xa_caller.proofs.Keeping.{kept-idle, idle_room}
use Rattle.xa_caller.proofs.Next.{changes_next, change_aside}
use Rattle.xa_caller.proofs.Reading.{reads_changed, owed_changed}
use Rattle.xa_caller.proofs.caller.Caller.changed.Goals as goal

pub noted-requires-clause-next : goal.noted-requires-clause-next
noted-requires-clause-next c =
    let s : CallerState = standing_of c.self.inside in
    let next = ap (λ (t : CallerState). t.op) c.self.view_is in
    changes_next s c.self.invariant.sound (subst (λ (t : CallerState). is_serving t.work.clients t.work.id.0 (theirs t.work) ≡ true) (sym c.self.view_is) c.requires.active) c.args.op c.args.version c.args.event.value (omega (arith, next, c.requires.turn))
    (subst (λ (t : CallerState). IsChangeBy t c.args.op c.args.version c.args.event.value) (sym c.self.view_is) c.requires.change)

pub noted-requires-clause-home : goal.noted-requires-clause-home
noted-requires-clause-home c =
    change_aside (standing_of c.self.inside) c.args.op c.args.version c.args.event.value (subst (λ (t : CallerState). IsChangeBy t c.args.op c.args.version c.args.event.value) (sym c.self.view_is) c.requires.change)

pub invariant_of-self : goal.invariant_of-self
invariant_of-self c =
    let s : CallerState = standing_of c.self.inside in
    let i = c.self.invariant in
    let w : WorkState = c.self.inside.work in
    let e : Event = c.args.event.value in
    let made : c.noted.new.self ≡ noted (record { stamp = c.args.stamp; event = e }) w = c.noted.ensures.noted in
    let next = ap (λ (t : CallerState). t.op) c.self.view_is in
    let idle : s.phase ≡ Idle = ap (λ (t : CallerState). t.phase) c.self.view_is ∙ c.requires.idle in
    let change = subst (λ (t : CallerState). IsChangeBy t c.args.op c.args.version e) (sym c.self.view_is) c.requires.change in
    let recent = subst (λ (t : CallerState). t.least ≤ c.args.version) (sym c.self.view_is) c.requires.recent in
    let later = subst (λ (t : CallerState). t.work.stamp.0 < c.args.stamp.0) (sym c.self.view_is) c.requires.later in
    let higher = ap (λ (v : WorkState). v.stamp.0) made in
    let room = ap (λ (v : WorkState). v.room) made in
    let some = idle_room c.self.inside i idle in
    kept-idle c.self.inside c.noted.new.self c.args.op c.args.version s.priority i idle
    (subst (λ (v : WorkState). IsSound (record s { work = v; op = c.args.op; least = c.args.version })) (sym made) (record { reads = reads_changed s c.args.stamp c.args.op c.args.version e change (omega (arith, next, c.requires.turn)) recent idle i.sound.reads; served = i.sound.served }))
    (ap (λ (v : WorkState). v.clients) made) (ap (λ (v : WorkState). v.id) made) (omega (arith, room, some)) (ap (λ (v : WorkState). (view_of v).unanswered) made ∙ owed_changed s c.args.stamp c.args.op c.args.version e change) (omega (arith, i.few, higher, later))
