use Rattle.std.proofs.Common.{◌≡◌, ◌<◌, length, ◌∙◌, sym, ap, subst, arith}
use Rattle.xa_events.specs.Views.{CallerView}
use Rattle.xa_stamp.specs.declared.home.Stamped.{Stamped}
use Rattle.xa_worker.specs.Work.{WorkState, IsNext, noted_here}
use Rattle.xa_caller.specs.declared.phase.Phase.TheVariants.{Idle}
use Rattle.xa_caller.specs.Caller.{CallerState, Reads, IsSound, view_of}
use Rattle.xa_caller.specs.Kept.{standing_of, IsKept}
use Rattle.xa_caller.specs.Serving.{raised, version_ended}
use Rattle.xa_caller.proofs.Reading.{view-more, reads_served, owed_served}
use Rattle.xa_caller.proofs.Keeping.{kept-idle}
use Rattle.xa_caller.proofs.caller.Caller.note.Goals as goal

pub invariant_of-self-2 : goal.invariant_of-self-2
invariant_of-self-2 c =
    let s : CallerState = standing_of c.self.inside in
    let i = c.self.invariant in
    let w : WorkState = c.self.inside.work in
    let x : Stamped = record { stamp = c.in_ok-stamp.stamp; event = c.args.event } in
    let next : IsNext w c.args.event = subst (λ (t : CallerState). IsNext t.work c.args.event) (sym c.self.view_is) c.requires.next in
    let made : c.note.new.self ≡ noted_here x w = c.in_ok-stamp.ensures.noted in
    let idle : s.phase ≡ Idle = ap (λ (t : CallerState). t.phase) c.self.view_is ∙ c.requires.idle in
    let least : c.raised-least.result ≡ raised (version_ended c.args.event) s.least = c.raised-least.ensures ∙ ap (λ o. raised o s.least) c.version_ended.ensures in
    let higher = ap (λ (v : WorkState). v.stamp.0) made in
    let room = ap (λ (v : WorkState). v.room) made in
    let some = subst (λ (t : CallerState). length t.out < t.work.room) (sym c.self.view_is) c.requires.room in
    let viewed : view_of c.note.new.self ≡ _ = ap view_of made ∙ view-more w x next.its in
    kept-idle c.self.inside c.note.new.self s.op c.raised-least.result s.priority i idle
    (subst (λ (v : WorkState). IsSound (record s { work = v; least = c.raised-least.result })) (sym made) (record {
      reads = subst (λ n. Reads w.setup (view_of (noted_here x w)) s.op s.sent n s.priority s.out s.phase) (sym least)
          (subst (λ (view : CallerView). Reads w.setup view s.op s.sent (raised (version_ended c.args.event) s.least) s.priority s.out s.phase) (sym (view-more w x next.its)) (reads_served w.setup w.clients w.id.0 c.args.event (view_of w) s.op s.sent s.least s.priority s.out s.phase c.requires.kind i.sound.reads));
      served = i.sound.served;
    }))
    (ap (λ (v : WorkState). v.clients) made) (ap (λ (v : WorkState). v.id) made) (omega (arith, room, some)) (ap (λ (view : CallerView). view.unanswered) viewed ∙ owed_served w.clients w.id.0 c.args.event (view_of w) c.requires.kind) (omega (arith, i.few, higher, c.in_ok-stamp.ensures.stamp))

pub invariant_of-self : goal.invariant_of-self
invariant_of-self c = subst (λ (v : WorkState). IsKept (record c.self.inside { work = v })) (sym c.in_err-stamp.ensures.kept) c.self.invariant
