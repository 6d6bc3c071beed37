-- A caller whose request that is out is answered, lost, or looked at.
use Rattle.std.proofs.Common.{◌≡◌, ℕ, ◌+◌, ◌-◌, ◌<◌, ◌≤◌, ◌&&◌, ◌==◌, true, List, [], ◌∷◌, ◌++◌, length, map, Option, Some, None, Bool, ℤ, Result, Ok, Err, refl, sym, ◌∙◌, ap, subst, arith, length-append, append_assoc, eq-eqb}
use Rattle.std.specs.Prelude.{slice_get, OnErr, IfOk, IfErr}
use Rattle.std.specs.List.{list_all}
use Rattle.std.proofs.lemmas.Bool.{and_from}
use Rattle.std.proofs.lemmas.List.{map-append, length-map}
use Rattle.xa_types.specs.declared.ids.CallerId.{CallerId}
use Rattle.xa_types.specs.declared.ids.RequestId.{RequestId}
use Rattle.xa_types.specs.declared.stamp.Stamp.{Stamp}
use Rattle.xa_types.specs.declared.setup.Setup.{Setup}
use Rattle.xa_types.specs.declared.fault.Fault.TheVariants.{BadDesc}
use Rattle.xa_events.specs.declared.event.Event.TheVariants.{Answer, NotYet}
use Rattle.xa_events.specs.declared.event.Evidence.TheVariants.{Descriptor}
use Rattle.xa_events.specs.declared.event.Replied.{Replied}
use Rattle.xa_events.specs.declared.event.Unready.{Unready}
use Rattle.xa_events.specs.Caller.{accepted_in, op_of, is_call_of}
use Rattle.xa_events.specs.Words.{has, without}
use Rattle.xa_events.specs.Views.{newer, CallerView, caller_after}
use Rattle.xa_stamp.specs.declared.home.Stamped.{Stamped}
use Rattle.xa_cell.specs.declared.cells.Cells.{Cells}
use Rattle.xa_cell.specs.declared.tokens.Seat.{Seat}
use Rattle.xa_cell.specs.declared.view.View.{View}
use Rattle.xa_cell.specs.Views.{at}
use Rattle.xa_cell.specs.Known.{known, SameSeat}
use Rattle.xa_cell.specs.Places.{OpenAre, Shuts}
use Rattle.xa_cell.specs.Changes.{looked}
use Rattle.xa_cell.proofs.OpenPlaces.{is_among, one_less_open}
use Rattle.xa_worker.specs.declared.work.Halt.{Halt}
use Rattle.xa_worker.specs.Work.{WorkState, HaltsAt, noted}
use Rattle.xa_caller.specs.declared.caller.Caller.TheInside.{Inside}
use Rattle.xa_caller.specs.declared.cargo.Filling.{Filling}
use Rattle.xa_caller.specs.declared.phase.Open.{Open}
use Rattle.xa_caller.specs.declared.phase.Phase.{Phase}
use Rattle.xa_caller.specs.declared.phase.Phase.TheVariants.{Idle, Lost}
use Rattle.xa_caller.specs.Descriptors.{InOrder}
use Rattle.xa_caller.specs.Phases.{JustIs, Describes, request_of, place_of, places_in, drafted}
use Rattle.xa_caller.specs.Caller.{CallerState, Reads, view_of}
use Rattle.xa_caller.specs.Changes.{Refuses}
use Rattle.xa_caller.specs.Unsent.{step}
use Rattle.xa_caller.specs.Kept.{Holds, IsSeated, IsKept, AreMine, AreOut}
use Rattle.xa_caller.specs.Getting.{after_pending, AreAmong, BadDescriptor}
use Rattle.xa_caller.proofs.Counting.{seated-more, seated-freed, seated-cancelled}
use Rattle.xa_caller.proofs.Keeping.{out-stays}
use Rattle.xa_caller.proofs.Next.{has_one}
use Rattle.xa_caller.proofs.Ordering.{out-at, out-less, out-without, middle_asked, mine-at, none_within}
use Rattle.xa_caller.proofs.Reading.{view-more, reads_answered, owed_answered, reads_moved, is_numbered}

-- ---- a request that is out, whose cell is taken

module _ (c : Inside) (i : IsKept c) (idle : c.phase ≡ Idle) (front back : List Open) (sent : Open) (is : c.out.all ≡ front ++ sent ∷ back) where
  held : (length c.out.all ≤ c.work.room) × AreOut c.work.id c.seat c.out.all c.sent
  held = subst (Holds c.work.setup c.work.id c.seat c.work.room c.op c.sent c.least c.priority c.out) idle i.holds

  all : AreOut c.work.id c.seat (front ++ sent ∷ back) c.sent
  all = subst (λ (l : List Open). AreOut c.work.id c.seat l c.sent) is held.1

  are : OpenAre (map place_of front ++ place_of sent ∷ map place_of back) (known c.seat)
  are = subst (λ l. OpenAre l (known c.seat)) (map-append place_of front (sent ∷ back)) (subst (λ (l : List Open). OpenAre (map place_of l) (known c.seat)) is (subst (λ p. OpenAre (places_in c.out.all p) (known c.seat)) idle i.places))

  pub fetch-open : 0 < length (at sent.place.cell (known c.seat)).asked
  fetch-open = is_among (map place_of front) (map place_of back) sent.place.cell sent.request are

  pub fetch-asked : (at sent.place.cell (known c.seat)).asked ≡ sent.request ∷ []
  fetch-asked = middle_asked (map place_of front) (map place_of back) sent.place.cell sent.request (known c.seat) i.seated.single are

  pub fetch-mine : sent.request.caller ≡ c.work.id
  fetch-mine = (out-at c.work.id c.seat front back sent c.sent all).0

  pub fetch-described : (view_of c.work).descriptors ≡ map request_of front ++ sent.request ∷ map request_of back
  fetch-described = subst (λ p. Describes c.out.all p (view_of c.work).descriptors) idle i.sound.reads.descriptors ∙ ap (map request_of) is ∙ map-append request_of front (sent ∷ back)

  module _ (cells : Cells Filling) (t : Seat Filling) (same : SameSeat cells c.seat t) (shut : Shuts sent.place.cell (known c.seat) (known t)) where
    fewer : length (map place_of c.out.all) ≡ length (map place_of (front ++ back)) + 1
    fewer =
        let long = ap length is in
        let n1 = length-append front (sent ∷ back) in
        let n2 = length-append front back in
        let n3 = length-map c.out.all place_of in
        let n4 = length-map (front ++ back) place_of in
        omega (arith, long, n1, n2, n3, n4)

    places-less : OpenAre (map place_of (front ++ back)) (known t)
    places-less = subst (λ l. OpenAre l (known t)) (sym (map-append place_of front back)) (one_less_open (map place_of front) (map place_of back) sent.request c.seat are shut)

    seated-idle : IsSeated c.work.clients c.work.id c.seat (length (map place_of c.out.all)) (length (view_of c.work).unanswered + 0)
    seated-idle = subst (λ p. IsSeated c.work.clients c.work.id c.seat (length (places_in c.out.all p)) (length (view_of c.work).unanswered + drafted p)) idle i.seated

    -- its answer is lost
    pub kept-lost : (w : WorkState) (stamp : Stamp) (out : InOrder) (phase : Phase) → w ≡ record c.work { stamp = stamp } → c.work.stamp.0 ≤ stamp.0 → out.all ≡ front ++ back → phase ≡ Lost sent.request → IsKept (record c { work = w; seat = t; out = out; phase = phase })
    kept-lost w stamp out phase work more left lost =
        subst (λ (v : WorkState). IsKept (record c { work = v; seat = t; out = out; phase = phase })) (sym work)
        (subst (λ (p : Phase). IsKept (record c { work = record c.work { stamp = stamp }; seat = t; out = out; phase = p })) (sym lost)
        (subst (λ (l : List Open). IsKept (record c { work = record c.work { stamp = stamp }; seat = t; out = record { all = l; room = out.room }; phase = Lost sent.request })) (sym left) (record {
          sound = record { reads = reads_moved c.work.setup (view_of c.work) c.op c.sent c.least c.priority c.out.all (front ++ back) c.phase (Lost sent.request) tt tt i.sound.reads; served = λ other. absurd (none_within c.out.all front back sent is (i.sound.served other)) };
          holds = tt;
          places = places-less;
          seated = seated-cancelled cells c.work.clients c.work.id c.seat t same _ _ seated-idle sent.place.cell sent.request (length (map place_of (front ++ back))) fetch-asked shut fewer;
          few = omega (arith, i.few, more);
        })))

    -- the caller is told it, by that call
    pub kept-answered : (w : WorkState) (seen stamp : Stamp) (a : Replied) (out : InOrder) → 1 ≤ (at sent.place.cell (known t)).settled → a.by ≡ c.work.id → a.op ≡ c.op + 1 → a.request ≡ sent.request
        → w ≡ noted (record { stamp = stamp; event = Answer a }) (record c.work { stamp = seen; room = c.work.room - 1 }) → c.work.stamp.0 ≤ stamp.0 → out.all ≡ front ++ back → IsKept (record c { work = w; seat = t; op = a.op; out = out })
    kept-answered w seen stamp a out settled by op its work more left =
        let x : Stamped = record { stamp = stamp; event = Answer a } in
        let w1 : WorkState = record c.work { stamp = seen; room = c.work.room - 1 } in
        let by' : a.by.0 ≡ c.work.id.0 = ap (λ id. id.0) by in
        let shape : Describes (front ++ back) c.phase (without (Some a.request) (view_of c.work).descriptors) = subst (λ (r : RequestId). Describes (front ++ back) c.phase (without (Some r) (view_of c.work).descriptors)) (sym its) (subst (λ p. Describes (front ++ back) p (without (Some sent.request) (view_of c.work).descriptors)) (sym idle)
        (ap (without (Some sent.request)) (subst (λ p. Describes c.out.all p (view_of c.work).descriptors) idle i.sound.reads.descriptors ∙ ap (map request_of) is) ∙ out-without c.work.id c.seat front back sent c.sent all)) in
        let owing = owed_answered c.work.setup c.work.clients c.work.id.0 a (view_of c.work) c.op c.sent c.least c.priority c.out.all c.phase by' i.sound.reads in
        let owed = ap (λ (view : CallerView). length view.unanswered) (view-more w1 x by') in
        let at' = out-at c.work.id c.seat front back sent c.sent all in
        let room = held.0 in
        let long = ap length is in
        let n1 = length-append front (sent ∷ back) in
        let n2 = length-append front back in
        let above : 0 < a.op = omega (arith, op) in
        subst (λ (v : WorkState). IsKept (record c { work = v; seat = t; op = a.op; out = out })) (sym work)
        (subst (λ (l : List Open). IsKept (record c { work = noted x w1; seat = t; op = a.op; out = record { all = l; room = out.room } })) (sym left) (record {
          sound = record {
            reads = subst (λ (view : CallerView). Reads c.work.setup view a.op c.sent c.least c.priority (front ++ back) c.phase) (sym (view-more w1 x by'))
                (reads_answered c.work.setup c.work.clients c.work.id.0 a (view_of c.work) c.op c.sent c.least a.op c.priority c.out.all (front ++ back) c.phase c.phase by' above refl shape (subst (λ (p : Phase). JustIs (front ++ back) p None) (sym idle) (λ none. refl)) i.sound.reads);
            served = λ other. absurd (none_within c.out.all front back sent is (i.sound.served other));
          };
          holds = subst (Holds c.work.setup c.work.id t (c.work.room - 1) a.op c.sent c.least c.priority (record { all = front ++ back; room = out.room })) (sym idle)
              (omega (arith, room, long, n1, n2), out-stays cells c.work.id c.seat t (front ++ back) c.sent same (out-less c.work.id c.seat front back sent c.sent all));
          places = subst (λ p. OpenAre (places_in (front ++ back) p) (known t)) (sym idle) places-less;
          seated = subst (λ p. IsSeated c.work.clients c.work.id t (length (places_in (front ++ back) p)) (length (view_of (noted x w1)).unanswered + drafted p)) (sym idle)
              (seated-freed cells c.work.clients c.work.id c.seat t same _ _ (seated-more c.work.clients c.work.id c.seat _ _ (length (view_of (noted x w1)).unanswered + 0 + 1) (omega (arith, owing, owed)) seated-idle) sent.place.cell sent.request (length (map place_of (front ++ back)))
              (length (view_of (noted x w1)).unanswered + 0) at'.1 at'.2 fetch-asked shut settled fewer (omega arith));
          few = omega (arith, i.few, more);
        }))

-- ---- no answer has come

pub reads_unready : (setup : Setup) (clients worker : ℕ) (u : Unready) (view : CallerView) (op n least : ℕ) (priority : Option (Bool × ℤ)) (out : List Open) (phase : Phase) → u.by.0 ≡ worker → 0 < u.op → phase ≡ Idle
    → Reads setup view op n least priority out phase → Reads setup (caller_after clients worker (NotYet u) view) u.op n least priority out phase
reads_unready setup clients worker u view op n least priority out phase by above idle reads =
    let is_call = is_numbered worker u.by.0 u.op by above in
    record {
      called = ap (λ b. op_of (newer b (NotYet u) view.called)) is_call;
      just = subst (λ (q : Phase). JustIs out q (accepted_in (newer (is_call_of worker (NotYet u)) (NotYet u) view.called))) (sym idle) (λ none. ap (λ b. accepted_in (newer b (NotYet u) view.called)) is_call);
      accepted = reads.accepted;
      descriptors = reads.descriptors;
      floor = reads.floor;
      stands = reads.stands;
      stays = reads.stays;
      set = reads.set;
      unconnected = reads.unconnected;
      ascend = reads.ascend;
    }

-- those that are out are the caller's own, and open
pub all_own : (id : CallerId) (first last : ℕ) (descriptors : List RequestId) (out looks : List Open) → AreMine id first last out → descriptors ≡ map request_of out → AreAmong looks out
    → list_all (λ (r : RequestId). (r.caller.0 == id.0) && has r descriptors) (map request_of looks) ≡ true
all_own id first last descriptors out [] mine is among = refl
all_own id first last descriptors out (o ∷ looks) mine is among =
    let one = among.0 in
    let its = (mine-at id first last one.0 one.1 o (subst (AreMine id first last) one.2 mine)).0 in
    let listed = is ∙ ap (map request_of) one.2 ∙ map-append request_of one.0 (o ∷ one.1) in
    and_from _ _ (and_from (o.request.caller.0 == id.0) (has o.request descriptors) (eq-eqb o.request.caller.0 id.0 (ap (λ (i : CallerId). i.0) its)) (subst (λ (l : List RequestId). has o.request l ≡ true) (sym listed) (has_one (map request_of one.0) (map request_of one.1) o.request)))
    (all_own id first last descriptors out looks mine is among.1)

-- all that are out are among themselves
pub among_self : (front os : List Open) → AreAmong os (front ++ os)
among_self front [] = tt
among_self front (o ∷ os) = ((front, os, refl), subst (AreAmong os) (append_assoc front (o ∷ []) os) (among_self (front ++ o ∷ []) os))

-- ---- looks

pub pending_more : (front : List Open) (o : Open) (v : View Filling) → after_pending (front ++ o ∷ []) v ≡ looked o.place.cell 1 (after_pending front v)
pending_more [] o v = refl
pending_more (p ∷ front) o v = pending_more front o (looked p.place.cell 1 v)

-- what stands next behind those in front
pub next_of : (all front back : List Open) (n : ℕ) (o : Open) → all ≡ front ++ back → length front ≡ n → slice_get all n ≡ Some o → (rest : List Open) × (back ≡ o ∷ rest)
next_of all front back n o is count found = go front back o (subst (λ (l : List Open). slice_get l (length front) ≡ Some o) is (subst (λ k. slice_get all k ≡ Some o) (sym count) found))
  where
    go : (front back : List Open) (o : Open) → slice_get (front ++ back) (length front) ≡ Some o → (rest : List Open) × (back ≡ o ∷ rest)
    go [] [] o found = absurd (cc found)
    go [] (x ∷ back) o found = (back, ap (λ (y : Open). y ∷ back) (cc found))
    go (x ∷ front) back o found = go front back o found

pub none_behind : (all front back : List Open) → all ≡ front ++ back → length all ≤ length front → all ≡ front
none_behind all front back is most = is ∙ go front back (omega (arith, most, ap length is))
  where
    go : (front back : List Open) → length (front ++ back) ≤ length front → front ++ back ≡ front
    go [] [] least = refl
    go [] (x ∷ back) least = absurd (omega (arith, least))
    go (x ∷ front) back least = ap (λ (l : List Open). x ∷ l) (go front back (omega (arith, least)))

-- ---- a descriptor that isn't open

pub bad_descriptor : (op descriptor : ℕ) (r : Result Stamp Halt) (new old : CallerState) → IfOk r (λ stamp. Refuses op BadDesc (Descriptor descriptor) stamp new old) → IfErr r (HaltsAt old.work.stamp) → OnErr r (new ≡ old) → BadDescriptor op descriptor (step r) new old
bad_descriptor op descriptor (Ok stamp) new old ok halted kept = ok
bad_descriptor op descriptor (Err halt) new old ok halted kept = (halted, kept)
