use Rattle.std.proofs.Common.{◌≡◌, ◌≤◌, ◌<◌, ◌+◌, true, refl, sym, ◌∙◌, ap, subst, arith}
use Rattle.xa_events.specs.declared.event.Event.{Event}
use Rattle.xa_events.specs.Caller.{is_client}
use Rattle.xa_stamp.specs.declared.home.Stamped.{Stamped}
use Rattle.xa_types.specs.declared.ids.CallerId.{CallerId}
use Rattle.xa_worker.specs.Work.{WorkState, IsNext, noted}
use Rattle.xa_caller.specs.declared.phase.Phase.TheVariants.{Idle}
use Rattle.xa_caller.specs.Caller.{CallerState, IsSound, view_of}
use Rattle.xa_caller.specs.Changes.{tick_of}
use Rattle.xa_caller.specs.Kept.{standing_of}
use Rattle.xa_caller.proofs.Keeping.{kept-idle, idle_room}
use Rattle.xa_caller.proofs.Next.{ticks_next}
use Rattle.xa_caller.proofs.Reading.{reads_ticked, owed_ticked}
use Rattle.xa_caller.proofs.caller.Caller.ticked.Goals as goal

pub noted-requires-clause-next : goal.noted-requires-clause-next
noted-requires-clause-next c =
    let s : CallerState = standing_of c.self.inside in
    let told : c.of.result.value ≡ tick_of c.id-by.result c.args.op c.args.now = c.of.ensures in
    let next = ap (λ (t : CallerState). t.op) c.self.view_is in
    subst (IsNext s.work) (sym told) (subst (λ (id : CallerId). IsNext s.work (tick_of id c.args.op c.args.now)) (sym c.id-by.ensures.value)
    (ticks_next s c.self.invariant.sound (subst (λ (t : CallerState). is_client t.work.clients t.work.id.0 ≡ true) (sym c.self.view_is) c.requires.client) c.args.op c.args.now (omega (arith, next, c.requires.turn))))

pub invariant_of-self : goal.invariant_of-self
invariant_of-self c =
    let s : CallerState = standing_of c.self.inside in
    let i = c.self.invariant in
    let w : WorkState = c.self.inside.work in
    let e : Event = tick_of w.id c.args.op c.args.now in
    let made : c.noted.new.self ≡ noted (record { stamp = c.args.stamp; event = e }) w = c.noted.ensures.noted ∙ ap (λ (x : Event). noted (record { stamp = c.args.stamp; event = x }) w) c.of.ensures ∙ ap (λ (id : CallerId). noted (record { stamp = c.args.stamp; event = tick_of id c.args.op c.args.now }) w) c.id-by.ensures.value in
    let next = ap (λ (t : CallerState). t.op) c.self.view_is in
    let idle : s.phase ≡ Idle = ap (λ (t : CallerState). t.phase) c.self.view_is ∙ c.requires.idle in
    let later = subst (λ (t : CallerState). t.work.stamp.0 < c.args.stamp.0) (sym c.self.view_is) c.requires.later in
    let higher = ap (λ (v : WorkState). v.stamp.0) made in
    let room = ap (λ (v : WorkState). v.room) made in
    let some = idle_room c.self.inside i idle in
    kept-idle c.self.inside c.noted.new.self c.args.op s.least s.priority i idle
    (subst (λ (v : WorkState). IsSound (record s { work = v; op = c.args.op })) (sym made) (record { reads = reads_ticked s c.args.stamp c.args.op c.args.now (omega (arith, next, c.requires.turn)) idle i.sound.reads; served = i.sound.served }))
    (ap (λ (v : WorkState). v.clients) made) (ap (λ (v : WorkState). v.id) made) (omega (arith, room, some)) (ap (λ (v : WorkState). (view_of v).unanswered) made ∙ owed_ticked s c.args.stamp c.args.op c.args.now) (omega (arith, i.few, higher, later))
