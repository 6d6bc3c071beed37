use Rattle.std.proofs.Common.{◌≡◌, ◌+◌, ◌&&◌, ◌==◌, true, List, length, map, sym, ◌∙◌, ap, subst, arith}
use Rattle.std.specs.List.{list_all}
use Rattle.std.proofs.lemmas.List.{length-map}
use Rattle.xa_types.specs.declared.ids.RequestId.{RequestId}
use Rattle.xa_events.specs.declared.event.Event.TheVariants.{NotYet}
use Rattle.xa_events.specs.declared.event.Unready.{Unready}
use Rattle.xa_events.specs.Views.{CallerView}
use Rattle.xa_events.specs.Words.{has}
use Rattle.xa_stamp.specs.declared.home.Stamped.{Stamped}
use Rattle.xa_worker.specs.Work.{WorkState, noted}
use Rattle.xa_caller.specs.declared.phase.Open.{Open}
use Rattle.xa_caller.specs.declared.phase.Phase.TheVariants.{Idle}
use Rattle.xa_caller.specs.Phases.{Describes, request_of}
use Rattle.xa_caller.specs.Caller.{CallerState, Reads, IsSound, MayCall, view_of}
use Rattle.xa_caller.specs.Getting.{AreAmong}
use Rattle.xa_caller.specs.Kept.{standing_of, Holds, IsKept}
use Rattle.xa_caller.proofs.Next.{unready_next}
use Rattle.xa_caller.proofs.Keeping.{kept-idle, idle_room}
use Rattle.xa_caller.proofs.Reading.{view-more}
use Rattle.xa_caller.proofs.Fetching.{reads_unready, all_own}
use Rattle.xa_caller.proofs.caller.Caller.not_yet.Goals as goal

pub note_anew-requires-clause-next : goal.note_anew-requires-clause-next
note_anew-requires-clause-next c =
    let s : CallerState = standing_of c.self.inside in
    let i = c.self.invariant in
    let w : WorkState = c.self.inside.work in
    let idle : s.phase ≡ Idle = ap (λ (t : CallerState). t.phase) c.self.view_is ∙ c.requires.idle in
    let held = subst (Holds w.setup w.id s.seat w.room s.op s.sent s.least s.priority c.self.inside.out) idle i.holds in
    let u : Unready = record { by = c.id.result; op = c.args.op; requests = c.from_vec.result } in
    let looks : List Open = c.requires.looks.0 in
    let is : u.requests ≡ map request_of looks = c.from_vec.ensures ∙ c.requires.looks.1 in
    let among : AreAmong looks s.out = subst (λ (t : CallerState). AreAmong looks t.out) (sym c.self.view_is) c.requires.looks.3 in
    let turn = ap (λ (t : CallerState). t.op) c.self.view_is in
    let long = ap length is in
    let same = length-map looks request_of in
    let some = c.requires.looks.2 in
    let described : (view_of w).descriptors ≡ map request_of s.out = subst (λ p. Describes s.out p (view_of w).descriptors) idle i.sound.reads.descriptors in
    unready_next s i.sound (subst MayCall (sym c.self.view_is) c.requires.active) u c.id.ensures.value (omega (arith, turn, c.requires.turn)) (omega (arith, long, same, some))
    (subst (λ (l : List RequestId). list_all (λ (r : RequestId). (r.caller.0 == w.id.0) && has r (view_of w).descriptors) l ≡ true) (sym is) (all_own w.id s.seat.first (s.seat.first + s.seat.count) (view_of w).descriptors s.out looks held.1.mine described among))

pub invariant_of-self : goal.invariant_of-self
invariant_of-self c =
    let s : CallerState = standing_of c.self.inside in
    let i = c.self.invariant in
    let w : WorkState = c.self.inside.work in
    let u : Unready = record { by = c.id.result; op = c.args.op; requests = c.from_vec.result } in
    let x : Stamped = record { stamp = c.in-Ok.stamp; event = NotYet u } in
    let made : c.note_anew.new.self ≡ noted x w = c.in-Ok.ensures.noted in
    let by : u.by.0 ≡ w.id.0 = ap (λ id. id.0) c.id.ensures.value in
    let idle : s.phase ≡ Idle = ap (λ (t : CallerState). t.phase) c.self.view_is ∙ c.requires.idle in
    let higher = ap (λ (v : WorkState). v.stamp.0) made in
    let room = ap (λ (v : WorkState). v.room) made in
    let some = idle_room c.self.inside i idle in
    kept-idle c.self.inside c.note_anew.new.self c.args.op s.least s.priority i idle
    (subst (λ (v : WorkState). IsSound (record s { work = v; op = c.args.op })) (sym made) (record {
      reads = subst (λ (view : CallerView). Reads w.setup view c.args.op s.sent s.least s.priority s.out s.phase) (sym (view-more w x by))
          (reads_unready w.setup w.clients w.id.0 u (view_of w) s.op s.sent s.least s.priority s.out s.phase by (omega (arith, c.requires.turn)) idle i.sound.reads);
      served = i.sound.served;
    }))
    (ap (λ (v : WorkState). v.clients) made) (ap (λ (v : WorkState). v.id) made) (omega (arith, room, some)) (ap (λ (v : WorkState). (view_of v).unanswered) made ∙ ap (λ (view : CallerView). view.unanswered) (view-more w x by)) (omega (arith, i.few, higher, c.in-Ok.ensures.stamp))

pub invariant_of-self-in-Err : goal.invariant_of-self-in-Err
invariant_of-self-in-Err c = subst (λ (v : WorkState). IsKept (record c.self.inside { work = v })) (sym c.in-Err.ensures.kept) c.self.invariant
