use Rattle.std.proofs.Common.{◌≡◌, ◌+◌, ◌-◌, List, ◌∷◌, ◌++◌, length, map, Some, None, refl, sym, ◌∙◌, ap, subst, arith, length-append}
use Rattle.std.proofs.lemmas.List.{map-append, length-map}
use Rattle.xa_types.specs.declared.ids.RequestId.{RequestId}
use Rattle.xa_events.specs.declared.event.Event.TheVariants.{Cancel}
use Rattle.xa_events.specs.declared.event.Cancelled.{Cancelled}
use Rattle.xa_events.specs.Views.{CallerView}
use Rattle.xa_events.specs.Words.{without}
use Rattle.xa_stamp.specs.declared.home.Stamped.{Stamped}
use Rattle.xa_cell.specs.Known.{known}
use Rattle.xa_cell.specs.Places.{OpenAre}
use Rattle.xa_cell.proofs.OpenPlaces.{is_among, one_less_open}
use Rattle.xa_worker.specs.Work.{WorkState, noted_here}
use Rattle.xa_caller.specs.declared.phase.Open.{Open}
use Rattle.xa_caller.specs.declared.phase.Phase.{Phase}
use Rattle.xa_caller.specs.declared.phase.Phase.TheVariants.{Idle}
use Rattle.xa_caller.specs.Phases.{JustIs, request_of, place_of, Describes, places_in, drafted}
use Rattle.xa_caller.specs.Caller.{CallerState, Reads, MayCall, view_of}
use Rattle.xa_caller.specs.Kept.{standing_of, Holds, IsSeated, IsKept, AreOut}
use Rattle.xa_caller.proofs.Counting.{seated-cancelled}
use Rattle.xa_caller.proofs.Keeping.{out-stays}
use Rattle.xa_caller.proofs.Next.{cancels_next}
use Rattle.xa_caller.proofs.Ordering.{out-at, out-less, out-without, middle_asked, none_within}
use Rattle.xa_caller.proofs.Reading.{view-more, reads_cancelled}
use Rattle.xa_caller.proofs.Standing.{parts_at, same_at}
use Rattle.xa_caller.proofs.caller.Caller.cancel_at.Goals as goal

pub note-requires-clause-next : goal.note-requires-clause-next
note-requires-clause-next c =
    let s : CallerState = standing_of c.self.inside in
    let i = c.self.invariant in
    let w : WorkState = c.self.inside.work in
    let idle : s.phase ≡ Idle = ap (λ (t : CallerState). t.phase) c.self.view_is ∙ c.requires.idle in
    let held = subst (Holds w.setup w.id s.seat w.room s.op s.sent s.least s.priority c.self.inside.out) idle i.holds in
    let sent : Open = c.get.result.now in
    let at = parts_at s.out c.args.place sent c.get.ensures in
    let x : Cancelled = record { by = c.id.result; op = c.args.op; request = sent.request } in
    let next = ap (λ (t : CallerState). t.op) c.self.view_is in
    let mine = (out-at w.id s.seat at.front at.back sent s.sent (subst (λ (l : List Open). AreOut w.id s.seat l s.sent) at.is held.1)).0 in
    cancels_next s i.sound (subst MayCall (sym c.self.view_is) c.requires.active) x (map request_of at.front) (map request_of at.back) c.id.ensures.value (omega (arith, next, c.requires.turn)) mine
    (subst (λ p. Describes s.out p (view_of w).descriptors) idle i.sound.reads.descriptors ∙ ap (map request_of) at.is ∙ map-append request_of at.front (sent ∷ at.back))

pub cancel-requires-clause-place : goal.cancel-requires-clause-place
cancel-requires-clause-place c =
    let s : CallerState = standing_of c.self.inside in
    let idle : s.phase ≡ Idle = ap (λ (t : CallerState). t.phase) c.self.view_is ∙ c.requires.idle in
    let sent : Open = c.take.result in
    let at = parts_at s.out c.args.place sent c.take.ensures.is in
    let are = subst (λ (l : List Open). OpenAre (map place_of l) (known s.seat)) at.is (subst (λ p. OpenAre (places_in s.out p) (known s.seat)) idle c.self.invariant.places) in
    is_among (map place_of at.front) (map place_of at.back) sent.place.cell sent.request (subst (λ l. OpenAre l (known s.seat)) (map-append place_of at.front (sent ∷ at.back)) are)

pub invariant_of-self-2 : goal.invariant_of-self-2
invariant_of-self-2 c =
    let s : CallerState = standing_of c.self.inside in
    let i = c.self.invariant in
    let w : WorkState = c.self.inside.work in
    let idle : s.phase ≡ Idle = ap (λ (t : CallerState). t.phase) c.self.view_is ∙ c.requires.idle in
    let held = subst (Holds w.setup w.id s.seat w.room s.op s.sent s.least s.priority c.self.inside.out) idle i.holds in
    let sent : Open = c.take.result in
    let same : c.get.result.now ≡ sent = same_at s.out c.args.place c.get.result.now sent c.get.ensures c.take.ensures.is in
    let stood = c.take.ensures.stood in
    let front : List Open = stood.0.front in
    let back : List Open = stood.0.back in
    let left : c.take.new.self.all ≡ front ++ back = stood.1 in
    let x : Cancelled = record { by = c.id.result; op = c.args.op; request = sent.request } in
    let e : Stamped = record { stamp = c.in-Ok.stamp; event = Cancel x } in
    let made : c.note.new.self ≡ noted_here e w = c.in-Ok.ensures.noted ∙ ap (λ (o : Open). noted_here (record { stamp = c.in-Ok.stamp; event = Cancel (record { by = c.id.result; op = c.args.op; request = o.request }) }) w) same in
    let by : x.by.0 ≡ w.id.0 = ap (λ id. id.0) c.id.ensures.value in
    let next = ap (λ (t : CallerState). t.op) c.self.view_is in
    let higher = ap (λ (v : WorkState). v.stamp.0) made in
    let new = c.cancel.new.seat in
    let all = subst (λ (l : List Open). AreOut w.id s.seat l s.sent) stood.0.is held.1 in
    let out = out-stays c.args.cells.now w.id s.seat new (front ++ back) s.sent c.cancel.ensures.seat (out-less w.id s.seat front back sent s.sent all) in
    let are = subst (λ l. OpenAre l (known s.seat)) (map-append place_of front (sent ∷ back)) (subst (λ (l : List Open). OpenAre (map place_of l) (known s.seat)) stood.0.is (subst (λ p. OpenAre (places_in s.out p) (known s.seat)) idle i.places)) in
    let asked = middle_asked (map place_of front) (map place_of back) sent.place.cell sent.request (known s.seat) i.seated.single are in
    let long = ap length stood.0.is in
    let n1 = length-append front (sent ∷ back) in
    let n2 = length-append front back in
    let n3 = length-map s.out place_of in
    let n4 = length-map (front ++ back) place_of in
    let room = held.0 in
    let shape = subst (λ p. Describes (front ++ back) p (without (Some sent.request) (view_of w).descriptors)) (sym idle)
    (ap (without (Some sent.request)) (subst (λ p. Describes s.out p (view_of w).descriptors) idle i.sound.reads.descriptors ∙ ap (map request_of) stood.0.is) ∙ out-without w.id s.seat front back sent s.sent all) in
    let seated = subst (λ p. IsSeated w.clients w.id s.seat (length (places_in s.out p)) (length (view_of w).unanswered + drafted p)) idle i.seated in
    subst (λ (v : WorkState). IsKept (record c.self.inside { work = v; seat = new; op = c.args.op; out = c.take.new.self })) (sym made)
    (subst (λ (l : List Open). IsKept (record c.self.inside { work = noted_here e w; seat = new; op = c.args.op; out = record { all = l; room = c.take.new.self.room } })) (sym left) (record {
      sound = record {
        reads = subst (λ (view : CallerView). Reads w.setup view c.args.op s.sent s.least s.priority (front ++ back) s.phase) (sym (view-more w e by))
            (reads_cancelled w.setup w.clients w.id.0 x (view_of w) s.op s.sent s.least c.args.op s.priority s.out (front ++ back) s.phase s.phase by (omega (arith, c.requires.turn)) refl shape (subst (λ (p : Phase). JustIs (front ++ back) p None) (sym idle) (λ none. refl)) i.sound.reads);
        served = λ other. absurd (none_within s.out front back sent stood.0.is (i.sound.served other));
      };
      holds = subst (Holds w.setup w.id new (w.room - 1) c.args.op s.sent s.least s.priority (record { all = front ++ back; room = c.take.new.self.room })) (sym idle) (omega (arith, room, long, n1, n2), out);
      places = subst (λ p. OpenAre (places_in (front ++ back) p) (known new)) (sym idle) (subst (λ l. OpenAre l (known new)) (sym (map-append place_of front back)) (one_less_open (map place_of front) (map place_of back) sent.request s.seat are c.cancel.ensures.shut));
      seated = subst (λ p. IsSeated w.clients w.id new (length (places_in (front ++ back) p)) (length (view_of (noted_here e w)).unanswered + drafted p)) (sym idle)
          (subst (λ (l : List RequestId). IsSeated w.clients w.id new (length (map place_of (front ++ back))) (length l + 0)) (sym (ap (λ (view : CallerView). view.unanswered) (view-more w e by)))
          (seated-cancelled c.args.cells.now w.clients w.id s.seat new c.cancel.ensures.seat _ _ seated sent.place.cell sent.request (length (map place_of (front ++ back))) asked c.cancel.ensures.shut (omega (arith, long, n1, n2, n3, n4))));
      few = omega (arith, i.few, c.in-Ok.ensures.stamp);
    }))
