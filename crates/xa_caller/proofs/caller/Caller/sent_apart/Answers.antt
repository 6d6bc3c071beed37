use Rattle.std.proofs.Common.{◌≡◌, ◌+◌, ◌<◌, true, None, List, [], ◌∷◌, ◌++◌, length, map, sym, ◌∙◌, ap, subst, arith, length-append}
use Rattle.xa_types.specs.declared.ids.RequestId.{RequestId}
use Rattle.xa_events.specs.declared.event.Event.{Event}
use Rattle.xa_events.specs.declared.event.Event.TheVariants.{Accept}
use Rattle.xa_events.specs.Caller.{is_client}
use Rattle.xa_events.specs.Views.{CallerView}
use Rattle.xa_stamp.specs.declared.home.Stamped.{Stamped}
use Rattle.xa_cell.specs.Known.{known}
use Rattle.xa_cell.specs.Places.{OpenAre}
use Rattle.xa_worker.specs.Work.{WorkState, IsNext, noted}
use Rattle.xa_caller.specs.declared.phase.Phase.TheVariants.{Idle, Prepared}
use Rattle.xa_caller.specs.Phases.{request_of, place_of, Describes, places_in, drafted}
use Rattle.xa_caller.specs.Caller.{CallerState, Reads, MayCall, view_of}
use Rattle.xa_caller.proofs.Next.{accepts_next}
use Rattle.xa_caller.specs.Kept.{standing_of, Holds, IsSeated, IsKept}
use Rattle.xa_caller.specs.Changes.{SendsApart}
use Rattle.std.proofs.lemmas.Bool.{false≢true}
use Rattle.std.proofs.lemmas.List.{map-append, length-map}
use Rattle.xa_caller.proofs.Reading.{view-more, reads_accepted, owed_accepted}
use Rattle.xa_caller.proofs.Counting.{seated-more}
use Rattle.xa_caller.proofs.Ordering.{out-push, turned}
use Rattle.xa_caller.proofs.Keeping.{room_left}
use Rattle.xa_caller.specs.declared.phase.Phase.{Phase}
use Rattle.xa_caller.specs.declared.phase.Open.{Open}
use Rattle.xa_caller.proofs.caller.Caller.sent_apart.Goals as goal

pub noted-requires-clause-next : goal.noted-requires-clause-next
noted-requires-clause-next c =
    let s : CallerState = standing_of c.self.inside in
    let i = c.self.invariant in
    let w : WorkState = c.self.inside.work in
    let draft = c.draft_in-op.result in
    let was : s.phase ≡ Prepared draft = sym c.take_out.ensures.0 ∙ c.draft_in-op.ensures in
    let d = (subst (Holds w.setup w.id s.seat w.room s.op s.sent s.least s.priority c.self.inside.out) was i.holds).5 in
    let recent = d.recent in
    let version = d.version in
    subst (IsNext w) (sym d.is) (accepts_next s i.sound (subst MayCall (sym c.self.view_is) c.requires.active) d.accepted d.by d.next d.mine d.mode d.sound (omega (arith, recent, version)) d.priority_is (room_left c.self.inside draft i was))

pub invariant_of-self : goal.invariant_of-self
invariant_of-self c =
    let s : CallerState = standing_of c.self.inside in
    let i = c.self.invariant in
    let w : WorkState = c.self.inside.work in
    let draft = c.draft_in-op.result in
    let was : s.phase ≡ Prepared draft = sym c.take_out.ensures.0 ∙ c.draft_in-op.ensures in
    let held = subst (Holds w.setup w.id s.seat w.room s.op s.sent s.least s.priority c.self.inside.out) was i.holds in
    let d = held.5 in
    let x : Stamped = record { stamp = c.args.stamp; event = Accept d.accepted } in
    let made : c.noted.new.self ≡ noted x w = c.noted.ensures.noted ∙ ap (λ (e : Event). noted (record { stamp = c.args.stamp; event = e }) w) d.is in
    let by : d.accepted.by.0 ≡ w.id.0 = ap (λ id. id.0) d.by in
    let later = subst (λ (t : CallerState). t.work.stamp.0 < c.args.stamp.0) (sym c.self.view_is) c.requires.later in
    let higher = ap (λ (v : WorkState). v.stamp.0) made in
    let mine = sym d.request ∙ d.mine in
    let number = ap (λ (r : RequestId). r.number) mine in
    let before = ap (λ (l : List RequestId). l ++ d.accepted.request ∷ []) (subst (λ p. Describes s.out p (view_of w).descriptors) was i.sound.reads.descriptors) in
    let owed : (view_of (noted x w)).unanswered ≡ (view_of w).unanswered ++ d.accepted.request ∷ [] = ap (λ (view : CallerView). view.unanswered) (view-more w x by) ∙ owed_accepted w.clients w.id.0 d.accepted (view_of w) by d.mode in
    let one = ap length owed in
    let many = length-append (view_of w).unanswered (d.accepted.request ∷ []) in
    let seated = subst (λ p. IsSeated w.clients w.id s.seat (length (places_in s.out p)) (length (view_of w).unanswered + drafted p)) was i.seated in
    let out = out-push w.id s.seat s.out draft.asked s.sent (s.sent + 1) held.1 (ap (λ (r : RequestId). r.caller) mine) held.3 held.4 (omega (arith, number)) (omega (arith, number)) in
    let idle : c.take_out.new.phase ≡ Idle = c.take_out.ensures.1 in
    let after : List Open = s.out ++ draft.asked ∷ [] in
    let pushed : c.push.new.self.all ≡ after = c.push.ensures in
    let phase = c.take_out.new.phase in
    let out' = c.push.new.self in
    let room = held.0 in
    let long = length-append s.out (draft.asked ∷ []) in
    let same = length-map s.out place_of in
    let more = length-map after place_of in
    let places : OpenAre (map place_of after) (known s.seat) = subst (λ l. OpenAre l (known s.seat)) (sym (map-append place_of s.out (draft.asked ∷ [])))
    (turned draft.asked.place.cell draft.asked.request (map place_of s.out) (known s.seat) seated.single (subst (λ p. OpenAre (places_in s.out p) (known s.seat)) was i.places)) in
    let opens : length (map place_of after) ≡ length (places_in s.out (Prepared draft)) = omega (arith, long, same, more) in
    let shape = before ∙ sym (map-append request_of s.out (draft.asked ∷ []) ∙ ap (λ r. map request_of s.out ++ r ∷ []) (sym d.request)) in
    let kept : (l : List Open) (p : Phase) → l ≡ after → p ≡ Idle → IsKept (record c.self.inside { work = noted x w; op = draft.op; sent = s.sent + 1; least = draft.version; priority = None; out = record { all = l; room = out'.room }; phase = p }) = λ l p is its.
    subst (λ (m : List Open). IsKept (record c.self.inside { work = noted x w; op = draft.op; sent = s.sent + 1; least = draft.version; priority = None; out = record { all = m; room = out'.room }; phase = p })) (sym is)
    (subst (λ (q : Phase). IsKept (record c.self.inside { work = noted x w; op = draft.op; sent = s.sent + 1; least = draft.version; priority = None; out = record { all = after; room = out'.room }; phase = q })) (sym its) (record {
      sound = record {
        reads = subst (λ (view : CallerView). Reads w.setup view draft.op (s.sent + 1) draft.version None after Idle) (sym (view-more w x by))
            (reads_accepted w.setup w.clients w.id.0 d.accepted (view_of w) s.op s.sent s.least draft.op draft.version s.priority s.out after s.phase Idle by (omega (arith, d.next)) d.mode d.of_draft d.version d.recent (ap (λ (r : RequestId). r.number) d.mine) shape (λ none. let end = ap length none in absurd (omega (arith, long, end))) i.sound.reads);
        served = λ other. absurd (false≢true (sym other ∙ subst (λ (t : CallerState). is_client t.work.clients t.work.id.0 ≡ true) (sym c.self.view_is) c.requires.client));
      };
      holds = (omega (arith, room, long), out);
      places = places;
      seated = subst (λ n. IsSeated w.clients w.id s.seat n (length (view_of (noted x w)).unanswered + 0)) (sym opens) (seated-more w.clients w.id s.seat _ (length (view_of w).unanswered + 1) (length (view_of (noted x w)).unanswered + 0) (omega (arith, one, many)) seated);
      few = omega (arith, i.few, later);
    })) in
    subst (λ (v : WorkState). IsKept (record c.self.inside { work = v; op = draft.op; sent = s.sent + 1; least = draft.version; priority = None; out = out'; phase = phase })) (sym made) (kept out'.all phase pushed idle)

pub returns-clause-sends : goal.returns-clause-sends
returns-clause-sends c =
    let s : CallerState = standing_of c.self.inside in
    let draft = c.draft_in-op.result in
    let event = draft.event.value in
    let w' : WorkState = noted (record { stamp = c.args.stamp; event = event }) c.self.inside.work in
    subst (SendsApart c.args.stamp _) c.self.view_is (record {
      draft = draft;
      was = sym c.take_out.ensures.0 ∙ c.draft_in-op.ensures;
      made = ap (λ (v : WorkState). record s { work = v; op = draft.op; sent = s.sent + 1; least = draft.version; priority = None; out = c.push.new.self.all; phase = c.take_out.new.phase }) c.noted.ensures.noted
          ∙ ap (λ (l : List Open). record s { work = w'; op = draft.op; sent = s.sent + 1; least = draft.version; priority = None; out = l; phase = c.take_out.new.phase }) c.push.ensures
          ∙ ap (λ (p : Phase). record s { work = w'; op = draft.op; sent = s.sent + 1; least = draft.version; priority = None; out = s.out ++ draft.asked ∷ []; phase = p }) c.take_out.ensures.1;
    })
