use Rattle.std.proofs.Common.{◌≡◌, ◌+◌, ◌<◌, None, Some, List, [], ◌∷◌, ◌++◌, length, map, sym, ◌∙◌, ap, subst, arith, length-append}
use Rattle.xa_types.specs.declared.ids.RequestId.{RequestId}
use Rattle.xa_events.specs.declared.event.Event.{Event}
use Rattle.xa_events.specs.declared.event.Event.TheVariants.{Accept}
use Rattle.xa_events.specs.Views.{CallerView}
use Rattle.xa_stamp.specs.declared.home.Stamped.{Stamped}
use Rattle.xa_cell.specs.Known.{known}
use Rattle.xa_cell.specs.Places.{OpenAre}
use Rattle.xa_worker.specs.Work.{WorkState, IsNext, noted}
use Rattle.xa_caller.specs.declared.phase.Phase.TheVariants.{Prepared, Sent}
use Rattle.xa_caller.specs.Phases.{JustIs, request_of, Describes, places_in, drafted}
use Rattle.xa_caller.specs.Caller.{CallerState, Reads, IsSound, MayCall, view_of}
use Rattle.xa_caller.proofs.Next.{accepts_next}
use Rattle.xa_caller.specs.Kept.{standing_of, Holds, IsSeated}
use Rattle.xa_caller.proofs.Reading.{view-more, reads_accepted, owed_accepted}
use Rattle.xa_caller.proofs.Counting.{seated-more}
use Rattle.xa_caller.proofs.Ordering.{out-push}
use Rattle.xa_caller.proofs.Keeping.{room_left}
use Rattle.xa_caller.specs.declared.phase.Phase.{Phase}
use Rattle.xa_caller.proofs.caller.Caller.sent.Goals as goal

pub noted-requires-clause-next : goal.noted-requires-clause-next
noted-requires-clause-next c =
    let s : CallerState = standing_of c.self.inside in
    let i = c.self.invariant in
    let w : WorkState = c.self.inside.work in
    let draft = c.draft_in-op.result in
    let was : s.phase ≡ Prepared draft = sym c.take_out.ensures.0 ∙ c.draft_in-op.ensures in
    let d = (subst (Holds w.setup w.id s.seat w.room s.op s.sent s.least s.priority c.self.inside.out) was i.holds).5 in
    let recent = d.recent in
    let version = d.version in
    subst (IsNext w) (sym d.is) (accepts_next s i.sound (subst MayCall (sym c.self.view_is) c.requires.active) d.accepted d.by d.next d.mine d.mode d.sound (omega (arith, recent, version)) d.priority_is (room_left c.self.inside draft i was))

pub invariant_of-self : goal.invariant_of-self
invariant_of-self c =
    let s : CallerState = standing_of c.self.inside in
    let i = c.self.invariant in
    let w : WorkState = c.self.inside.work in
    let draft = c.draft_in-op.result in
    let was : s.phase ≡ Prepared draft = sym c.take_out.ensures.0 ∙ c.draft_in-op.ensures in
    let held = subst (Holds w.setup w.id s.seat w.room s.op s.sent s.least s.priority c.self.inside.out) was i.holds in
    let d = held.5 in
    let x : Stamped = record { stamp = c.args.stamp; event = Accept d.accepted } in
    let made : c.noted.new.self ≡ noted x w = c.noted.ensures.noted ∙ ap (λ (e : Event). noted (record { stamp = c.args.stamp; event = e }) w) d.is in
    let by : d.accepted.by.0 ≡ w.id.0 = ap (λ id. id.0) d.by in
    let later = subst (λ (t : CallerState). t.work.stamp.0 < c.args.stamp.0) (sym c.self.view_is) c.requires.later in
    let higher = ap (λ (v : WorkState). v.stamp.0) made in
    let mine = sym d.request ∙ d.mine in
    let number = ap (λ (r : RequestId). r.number) mine in
    let before = ap (λ (l : List RequestId). l ++ d.accepted.request ∷ []) (subst (λ p. Describes s.out p (view_of w).descriptors) was i.sound.reads.descriptors) in
    let owed : (view_of (noted x w)).unanswered ≡ (view_of w).unanswered ++ d.accepted.request ∷ [] = ap (λ (view : CallerView). view.unanswered) (view-more w x by) ∙ owed_accepted w.clients w.id.0 d.accepted (view_of w) by d.mode in
    let one = ap length owed in
    let many = length-append (view_of w).unanswered (d.accepted.request ∷ []) in
    let seated = subst (λ p. IsSeated w.clients w.id s.seat (length (places_in s.out p)) (length (view_of w).unanswered + drafted p)) was i.seated in
    let out = out-push w.id s.seat s.out draft.asked s.sent (s.sent + 1) held.1 (ap (λ (r : RequestId). r.caller) mine) held.3 held.4 (omega (arith, number)) (omega (arith, number)) in
    let now : c.set.new.phase ≡ Sent draft.asked = c.set.ensures in
    record {
      sound = subst (λ (v : WorkState). IsSound (record s { work = v; op = draft.op; sent = s.sent + 1; least = draft.version; priority = None; phase = c.set.new.phase })) (sym made) (record {
        reads = subst (λ (view : CallerView). Reads w.setup view draft.op (s.sent + 1) draft.version None s.out c.set.new.phase) (sym (view-more w x by))
            (reads_accepted w.setup w.clients w.id.0 d.accepted (view_of w) s.op s.sent s.least draft.op draft.version s.priority s.out s.out s.phase c.set.new.phase by (omega (arith, d.next)) d.mode d.of_draft d.version d.recent (ap (λ (r : RequestId). r.number) d.mine)
            (subst (λ p. Describes s.out p ((view_of w).descriptors ++ d.accepted.request ∷ [])) (sym now) (before ∙ ap (λ r. map request_of s.out ++ r ∷ []) d.request)) (subst (λ (p : Phase). JustIs s.out p (Some d.accepted.request)) (sym now) (ap Some d.request)) i.sound.reads);
        served = i.sound.served;
      });
      holds = subst (λ (v : WorkState). Holds v.setup v.id s.seat v.room draft.op (s.sent + 1) draft.version None c.self.inside.out c.set.new.phase) (sym made) (subst (Holds w.setup w.id s.seat w.room draft.op (s.sent + 1) draft.version None c.self.inside.out) (sym now)
          (held.0, out, omega (arith, d.next, d.of_draft)));
      places = subst (λ p. OpenAre (places_in s.out p) (known s.seat)) (sym now) (subst (λ p. OpenAre (places_in s.out p) (known s.seat)) was i.places);
      seated = subst (λ (v : WorkState). IsSeated v.clients v.id s.seat (length (places_in s.out c.set.new.phase)) (length (view_of v).unanswered + drafted c.set.new.phase)) (sym made) (subst (λ p. IsSeated w.clients w.id s.seat (length (places_in s.out p)) (length (view_of (noted x w)).unanswered + drafted p)) (sym now)
          (seated-more w.clients w.id s.seat _ (length (view_of w).unanswered + 1) (length (view_of (noted x w)).unanswered + 0) (omega (arith, one, many)) seated));
      few = omega (arith, i.few, higher, later);
    }
