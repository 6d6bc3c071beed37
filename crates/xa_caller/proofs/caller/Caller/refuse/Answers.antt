use Rattle.std.proofs.Common.{◌≡◌, ◌≤◌, sym, ◌∙◌, ap, subst, arith}
use Rattle.xa_events.specs.declared.event.Event.TheVariants.{Refuse}
use Rattle.xa_events.specs.declared.event.Refused.{Refused}
use Rattle.xa_events.specs.Views.{CallerView}
use Rattle.xa_stamp.specs.declared.home.Stamped.{Stamped}
use Rattle.xa_worker.specs.Work.{WorkState, noted, theirs}
use Rattle.xa_caller.specs.declared.phase.Phase.TheVariants.{Idle}
use Rattle.xa_caller.specs.Caller.{CallerState, Reads, IsSound, MayCall, view_of}
use Rattle.xa_caller.proofs.Next.{refuses_next}
use Rattle.xa_events.specs.Cases.{ShowsItself, IsOwnEvidence}
use Rattle.xa_caller.specs.Kept.{standing_of, IsKept}
use Rattle.xa_caller.proofs.Keeping.{kept-idle, idle_room}
use Rattle.xa_caller.proofs.Reading.{view-more, reads_refused}
use Rattle.std.specs.Prelude.{IfSome}
use Rattle.xa_events.specs.Caller.{version_in}
use Rattle.xa_caller.specs.Phases.{least_by}
use Rattle.xa_caller.proofs.caller.Caller.refuse.Goals as goal

pub note_anew-requires-clause-next : goal.note_anew-requires-clause-next
note_anew-requires-clause-next c =
    let s : CallerState = standing_of c.self.inside in
    let r : Refused = record { by = c.id-by.result; op = c.args.op; fault = c.args.fault; evidence = c.args.evidence } in
    let next = ap (λ (t : CallerState). t.op) c.self.view_is in
    refuses_next s c.self.invariant.sound (subst MayCall (sym c.self.view_is) c.requires.active) r c.id-by.ensures.value (omega (arith, next, c.requires.turn))
    (subst (λ (t : CallerState). ShowsItself t.work.setup t.work.clients t.work.id.0 c.args.fault c.args.evidence (theirs t.work)) (sym c.self.view_is) c.requires.shows)
    (subst (λ (t : CallerState). IsOwnEvidence t.work.clients t.work.id c.args.evidence (theirs t.work)) (sym c.self.view_is) c.requires.own)

pub invariant_of-self-2 : goal.invariant_of-self-2
invariant_of-self-2 c =
    let s : CallerState = standing_of c.self.inside in
    let i = c.self.invariant in
    let w : WorkState = c.self.inside.work in
    let r : Refused = record { by = c.id-by.result; op = c.args.op; fault = c.args.fault; evidence = c.args.evidence } in
    let x : Stamped = record { stamp = c.in_ok-stamp.stamp; event = Refuse r } in
    let made : c.note_anew.new.self ≡ noted x w = c.in_ok-stamp.ensures.noted in
    let by : r.by.0 ≡ w.id.0 = ap (λ id. id.0) c.id-by.ensures.value in
    let idle : s.phase ≡ Idle = ap (λ (t : CallerState). t.phase) c.self.view_is ∙ c.requires.idle in
    let recent = subst (λ (t : CallerState). IfSome (version_in c.args.evidence) (λ v. t.least ≤ v)) (sym c.self.view_is) c.requires.recent in
    let higher = ap (λ (v : WorkState). v.stamp.0) made in
    let room = ap (λ (v : WorkState). v.room) made in
    let some = idle_room c.self.inside i idle in
    kept-idle c.self.inside c.note_anew.new.self c.args.op c.least_by-least.result s.priority i idle
    (subst (λ (v : WorkState). IsSound (record s { work = v; op = c.args.op; least = c.least_by-least.result })) (sym made) (record {
      reads = subst (λ least. Reads w.setup (view_of (noted x w)) c.args.op s.sent least s.priority s.out s.phase) (sym c.least_by-least.ensures)
          (subst (λ (view : CallerView). Reads w.setup view c.args.op s.sent (least_by (version_in c.args.evidence) s.least) s.priority s.out s.phase) (sym (view-more w x by))
          (reads_refused w.setup w.clients w.id.0 r (view_of w) s.op s.sent s.least s.priority s.out s.phase by (omega (arith, c.requires.turn)) recent idle i.sound.reads));
      served = i.sound.served;
    }))
    (ap (λ (v : WorkState). v.clients) made) (ap (λ (v : WorkState). v.id) made) (omega (arith, room, some)) (ap (λ (v : WorkState). (view_of v).unanswered) made ∙ ap (λ (view : CallerView). view.unanswered) (view-more w x by)) (omega (arith, i.few, higher, c.in_ok-stamp.ensures.stamp))

pub invariant_of-self : goal.invariant_of-self
invariant_of-self c = subst (λ (v : WorkState). IsKept (record c.self.inside { work = v })) (sym c.in_err-stamp.ensures.kept) c.self.invariant
