use Rattle.std.proofs.Common.{◌≡◌, Some, w32, to_z, of_z, sym, ◌∙◌, ap, subst, arith}
use Rattle.xa_events.specs.declared.event.Event.TheVariants.{Priority}
use Rattle.xa_events.specs.declared.event.Prioritized.{Prioritized}
use Rattle.xa_events.specs.Views.{CallerView}
use Rattle.xa_stamp.specs.declared.home.Stamped.{Stamped}
use Rattle.xa_worker.specs.Work.{WorkState, noted}
use Rattle.xa_caller.specs.declared.phase.Phase.TheVariants.{Idle}
use Rattle.xa_caller.specs.Caller.{CallerState, Reads, IsSound, MayCall, view_of}
use Rattle.xa_caller.specs.Kept.{standing_of, IsKept}
use Rattle.xa_caller.proofs.Keeping.{kept-idle, idle_room}
use Rattle.xa_caller.proofs.Next.{sets_next}
use Rattle.xa_caller.proofs.Reading.{view-more, reads_set}
use Rattle.xa_caller.proofs.caller.Caller.set_priority.Goals as goal

pub note_anew-requires-clause-next : goal.note_anew-requires-clause-next
note_anew-requires-clause-next c =
    let s : CallerState = standing_of c.self.inside in
    let p : Prioritized = record { by = c.id.result; op = c.args.op; absolute = c.args.absolute; amount = to_z w32 (of_z w32 c.args.amount) } in
    let next = ap (λ (t : CallerState). t.op) c.self.view_is in
    sets_next s c.self.invariant.sound (subst MayCall (sym c.self.view_is) c.requires.active) p c.id.ensures.value (omega (arith, next, c.requires.turn))

pub invariant_of-self-2 : goal.invariant_of-self-2
invariant_of-self-2 c =
    let s : CallerState = standing_of c.self.inside in
    let i = c.self.invariant in
    let w : WorkState = c.self.inside.work in
    let p : Prioritized = record { by = c.id.result; op = c.args.op; absolute = c.args.absolute; amount = to_z w32 (of_z w32 c.args.amount) } in
    let x : Stamped = record { stamp = c.in_ok-stamp.stamp; event = Priority p } in
    let made : c.note_anew.new.self ≡ noted x w = c.in_ok-stamp.ensures.noted in
    let by : p.by.0 ≡ w.id.0 = ap (λ id. id.0) c.id.ensures.value in
    let idle : s.phase ≡ Idle = ap (λ (t : CallerState). t.phase) c.self.view_is ∙ c.requires.idle in
    let higher = ap (λ (v : WorkState). v.stamp.0) made in
    let room = ap (λ (v : WorkState). v.room) made in
    let some = idle_room c.self.inside i idle in
    kept-idle c.self.inside c.note_anew.new.self c.args.op s.least (Some (p.absolute, p.amount)) i idle
    (subst (λ (v : WorkState). IsSound (record s { work = v; op = c.args.op; priority = Some (p.absolute, p.amount) })) (sym made) (record {
      reads = subst (λ (view : CallerView). Reads w.setup view c.args.op s.sent s.least (Some (p.absolute, p.amount)) s.out s.phase) (sym (view-more w x by))
          (reads_set w.setup w.clients w.id.0 p (view_of w) s.op s.sent s.least s.priority s.out s.phase by (omega (arith, c.requires.turn)) idle i.sound.reads);
      served = i.sound.served;
    }))
    (ap (λ (v : WorkState). v.clients) made) (ap (λ (v : WorkState). v.id) made) (omega (arith, room, some)) (ap (λ (v : WorkState). (view_of v).unanswered) made ∙ ap (λ (view : CallerView). view.unanswered) (view-more w x by)) (omega (arith, i.few, higher, c.in_ok-stamp.ensures.stamp))

pub invariant_of-self : goal.invariant_of-self
invariant_of-self c = subst (λ (v : WorkState). IsKept (record c.self.inside { work = v })) (sym c.in_err-stamp.ensures.kept) c.self.invariant
