-- How a caller is kept: with more room at its home, and with its cells.
use Rattle.std.proofs.Common.{◌≡◌, ℕ, zero, suc, ◌+◌, ◌<◌, ◌≤◌, max, List, [], ◌∷◌, ◌++◌, length, map, refl, sym, ◌∙◌, ap, subst, arith, inl, inr, if◌then◌else◌, Result, Ok, Err, Option, Bool, ℤ, true}
use Rattle.std.proofs.lemmas.Bool.{false≢true, cases_Bool}
use Rattle.std.proofs.lemmas.List.{length-map}
use Rattle.std.specs.Prelude.{OnOk, OnErr, is_err, slice_set}
use Rattle.xa_types.specs.declared.ids.CallerId.{CallerId}
use Rattle.xa_types.specs.declared.ids.RequestId.{RequestId}
use Rattle.xa_types.specs.declared.setup.Setup.{Setup}
use Rattle.xa_events.specs.Caller.{accepted_in, is_client, descriptor_limit}
use Rattle.xa_cell.specs.declared.cells.Cells.{Cells}
use Rattle.xa_cell.specs.declared.tokens.Seat.{Seat}
use Rattle.xa_cell.specs.declared.view.Part.{Part}
use Rattle.xa_cell.specs.declared.view.View.{View}
use Rattle.xa_cell.specs.Views.{nth, at, opening, fill}
use Rattle.xa_cell.specs.Changes.{withdrawn}
use Rattle.xa_cell.specs.Known.{known, SameSeat}
use Rattle.xa_cell.specs.Places.{OpenAre, Stand, Opens}
use Rattle.xa_cell.specs.Calls.{TookAs}
use Rattle.xa_worker.specs.Work.{WorkState}
use Rattle.xa_caller.specs.declared.caller.Caller.TheInside.{Inside}
use Rattle.xa_caller.specs.declared.cargo.Filling.{Filling}
use Rattle.xa_caller.specs.declared.phase.Open.{Open}
use Rattle.xa_caller.specs.declared.phase.Draft.{Draft}
use Rattle.xa_caller.specs.declared.phase.Phase.{Phase}
use Rattle.xa_caller.specs.declared.phase.Phase.TheVariants.{Idle, Prepared, Sent, Lost}
use Rattle.xa_caller.specs.Descriptors.{InOrder}
use Rattle.xa_caller.specs.Phases.{JustIs, request_of, place_of, Describes, places_in, drafted}
use Rattle.xa_caller.specs.Caller.{IsSound, view_of, room_to_send}
use Rattle.xa_caller.specs.Kept.{standing_of, Holds, IsDraft, IsSeated, IsKept, AreMine, AreOut}
use Rattle.xa_caller.proofs.Reading.{reads_moved}
use Rattle.xa_cell.proofs.OpenPlaces.{still_open, one_more_open}
use Rattle.xa_caller.proofs.Counting.{opens_least, seated-stand, seated-opened}

holds-more : (setup : Setup) (id : CallerId) (seat : Seat Filling) (room more op sent least : ℕ) (priority : Option (Bool × ℤ)) (out : InOrder) (phase : Phase) → Holds setup id seat room op sent least priority out phase → Holds setup id seat (max room more) op sent least priority out phase
holds-more setup id seat room more op sent least priority out Idle h = let some = h.0 in (omega (arith, some), h.1)
holds-more setup id seat room more op sent least priority out (Prepared draft) h = let some = h.0 in (omega (arith, some), h.1, h.2, h.3, h.4, h.5)
holds-more setup id seat room more op sent least priority out (Sent sent') h = let some = h.0 in (omega (arith, some), h.1, h.2)
holds-more setup id seat room more op sent least priority out (Lost request) h = tt

pub more_room : (c : Inside) (w : WorkState) (more : ℕ) → IsKept c → w ≡ record c.work { room = max c.work.room more } → IsKept (record c { work = w })
more_room c w more i is =
    subst (λ (v : WorkState). IsKept (record c { work = v })) (sym is) (record {
      sound = record { reads = i.sound.reads; served = i.sound.served };
      holds = holds-more c.work.setup c.work.id c.seat c.work.room more c.op c.sent c.least c.priority c.out c.phase i.holds;
      places = i.places;
      seated = i.seated;
      few = i.few;
    })

pub reserved : {X Y : Type 0} (c : Inside) (w : WorkState) (more : ℕ) (r : Result X Y) → IsKept c → OnOk r (w ≡ record c.work { room = max c.work.room more }) → OnErr r (w ≡ c.work) → IsKept (record c { work = w })
reserved c w more (Ok x) i ok kept = more_room c w more i ok
reserved c w more (Err y) i ok kept = subst (λ (v : WorkState). IsKept (record c { work = v })) (sym kept) i

pub on_err : {X Y P : Type 0} (r : Result X Y) → is_err r ≡ true → OnErr r P → P
on_err (Ok x) failed holds = absurd (false≢true failed)
on_err (Err y) failed holds = holds

-- ---- cells

nth-set : (ps : List (Part Filling)) (k : ℕ) (p : Part Filling) (q : RequestId) → (nth ps k).asked ≡ q ∷ [] → nth (slice_set ps k p) k ≡ p
nth-set [] k p q asked = cc asked
nth-set (x ∷ ps) zero p q asked = refl
nth-set (x ∷ ps) (suc k) p q asked = nth-set ps k p q asked

-- a cell whose answer was taken is free, and so is one that was given back
pub settled-took : (k : ℕ) (a : Filling) (v w : View Filling) → TookAs k a v w → 1 ≤ (at k w).settled
settled-took k a v w t =
    let after : Part Filling = record (at k v) { asked = []; settled = 1; taken = (at k v).taken ++ fill (opening (at k v).count t.0) a ∷ [] } in
    let one : (at k w).settled ≡ 1 = ap (λ (x : View Filling). (at k x).settled) t.2 ∙ ap (λ (x : Part Filling). x.settled) (nth-set v.parts k after t.0 t.1) in
    omega (arith, one)

pub settled-withdrawn : (k : ℕ) (q : RequestId) (v w : View Filling) → (at k v).asked ≡ q ∷ [] → w ≡ withdrawn k v → 1 ≤ (at k w).settled
settled-withdrawn k q v w asked is =
    let after : Part Filling = record (at k v) { asked = []; settled = 1 } in
    let one : (at k w).settled ≡ 1 = ap (λ (x : View Filling). (at k x).settled) is ∙ ap (λ (x : Part Filling). x.settled) (nth-set v.parts k after q asked) in
    omega (arith, one)

-- the same requests are out, where the seat is the same
pub out-stays : (cells : Cells Filling) (id : CallerId) (s t : Seat Filling) (out : List Open) (sent : ℕ) → SameSeat cells s t → AreOut id s out sent → AreOut id t out sent
out-stays cells id s t out sent same o = record {
  mine = subst (λ (n : ℕ). AreMine id t.first (t.first + n) out) (sym same.2) (subst (λ (n : ℕ). AreMine id n (n + s.count) out) (sym same.1) o.mine);
  rise = o.rise;
}

-- no more requests are out than places are open
pub few_out : (c : Inside) → IsKept c → length c.out.all ≤ 50
few_out c i =
    let most = opens_least c.work.clients c.work.id c.seat (length (places_in c.out.all c.phase)) (length (view_of c.work).unanswered + drafted c.phase) i.seated in
    let fewer = fewer_out c.out.all c.phase in
    let limit = small_limit c.work.clients c.work.id.0 in
    omega (arith, most, fewer, limit)
  where
    small_limit : (clients caller : ℕ) → descriptor_limit clients caller ≤ 50
    small_limit clients caller = elim (cases_Bool (is_client clients caller)) [
      | inl y ↦ subst (λ n. n ≤ 50) (sym (ap (λ b. if b then 50 else 16) y)) (omega arith)
      | inr n ↦ subst (λ n. n ≤ 50) (sym (ap (λ b. if b then 50 else 16) n)) (omega arith)
    ]

    fewer_out : (out : List Open) (phase : Phase) → length out ≤ length (places_in out phase)
    fewer_out out Idle = let n = length-map out place_of in omega (arith, n)
    fewer_out out (Prepared draft) = let n = length-map out place_of in omega (arith, n)
    fewer_out out (Sent sent') = let n = length-map out place_of in omega (arith, n)
    fewer_out out (Lost request) = let n = length-map out place_of in omega (arith, n)

-- a caller whose call is over is kept with other work, where as many requests are owed an answer
pub kept-idle : (c : Inside) (v : WorkState) (op least : ℕ) (priority : Option (Bool × ℤ)) → IsKept c → c.phase ≡ Idle → IsSound (record (standing_of c) { work = v; op = op; least = least; priority = priority }) → v.clients ≡ c.work.clients → v.id ≡ c.work.id → length c.out.all ≤ v.room
    → (view_of v).unanswered ≡ (view_of c.work).unanswered → c.sent ≤ v.stamp.0 → IsKept (record c { work = v; op = op; least = least; priority = priority })
kept-idle c v op least priority i idle sound clients id room owed few =
    let held = subst (Holds c.work.setup c.work.id c.seat c.work.room c.op c.sent c.least c.priority c.out) idle i.holds in
    let opens = length (places_in c.out.all c.phase) in
    record {
      sound = sound;
      holds = subst (Holds v.setup v.id c.seat v.room op c.sent least priority c.out) (sym idle) (room, subst (λ (d : CallerId). AreOut d c.seat c.out.all c.sent) (sym id) held.1);
      places = i.places;
      seated = subst (λ (n : ℕ). IsSeated n v.id c.seat opens (length (view_of v).unanswered + drafted c.phase)) (sym clients) (subst (λ (d : CallerId). IsSeated c.work.clients d c.seat opens (length (view_of v).unanswered + drafted c.phase)) (sym id)
          (subst (λ (l : List RequestId). IsSeated c.work.clients c.work.id c.seat opens (length l + drafted c.phase)) (sym owed) i.seated));
      few = few;
    }

-- so much room there is
pub idle_room : (c : Inside) → IsKept c → c.phase ≡ Idle → length c.out.all ≤ c.work.room
idle_room c i idle = (subst (Holds c.work.setup c.work.id c.seat c.work.room c.op c.sent c.least c.priority c.out) idle i.holds).0

-- a caller that has a draft may have one descriptor more
pub room_left : (c : Inside) (draft : Draft) → IsKept c → c.phase ≡ Prepared draft → length (view_of c.work).descriptors < descriptor_limit c.work.clients c.work.id.0
room_left c draft i was =
    let most = opens_least c.work.clients c.work.id c.seat (length (places_in c.out.all c.phase)) (length (view_of c.work).unanswered + drafted c.phase) i.seated in
    let open' = ap length (subst (λ p. Describes c.out.all p (view_of c.work).descriptors) was i.sound.reads.descriptors) in
    let place = ap (λ p. length (places_in c.out.all p)) was in
    let n = length-map c.out.all request_of in
    let m = length-map c.out.all place_of in
    omega (arith, most, open', place, n, m)

-- so is one that has room for more requests that are out
pub kept-out : (c : Inside) (out : InOrder) → IsKept c → c.phase ≡ Idle → out.all ≡ c.out.all → IsKept (record c { out = out })
kept-out c out i idle same =
    let held = subst (Holds c.work.setup c.work.id c.seat c.work.room c.op c.sent c.least c.priority c.out) idle i.holds in
    record {
      sound = subst (λ (l : List Open). IsSound (record (standing_of c) { out = l })) (sym same) i.sound;
      holds = subst (Holds c.work.setup c.work.id c.seat c.work.room c.op c.sent c.least c.priority out) (sym idle) (subst (λ (l : List Open). (length l ≤ c.work.room) × AreOut c.work.id c.seat l c.sent) (sym same) held);
      places = subst (λ (l : List Open). OpenAre (places_in l c.phase) (known c.seat)) (sym same) i.places;
      seated = subst (λ (l : List Open). IsSeated c.work.clients c.work.id c.seat (length (places_in l c.phase)) (length (view_of c.work).unanswered + drafted c.phase)) (sym same) i.seated;
      few = i.few;
    }

-- so is one whose cells were looked at
pub kept-looked : (cells : Cells Filling) (c : Inside) (t : Seat Filling) → IsKept c → c.phase ≡ Idle → SameSeat cells c.seat t → Stand (known c.seat) (known t) → IsKept (record c { seat = t })
kept-looked cells c t i idle same stand =
    let held = subst (Holds c.work.setup c.work.id c.seat c.work.room c.op c.sent c.least c.priority c.out) idle i.holds in
    record {
      sound = record { reads = i.sound.reads; served = i.sound.served };
      holds = subst (Holds c.work.setup c.work.id t c.work.room c.op c.sent c.least c.priority c.out) (sym idle) (held.0, out-stays cells c.work.id c.seat t c.out.all c.sent same held.1);
      places = still_open i.places stand;
      seated = seated-stand cells c.work.clients c.work.id c.seat t same _ _ i.seated stand;
      few = i.few;
    }

-- and one that has a draft, with a cell of its own
pub kept-drafted : (cells : Cells Filling) (c : Inside) (t : Seat Filling) (draft : Draft) → IsKept c → c.phase ≡ Idle → SameSeat cells c.seat t → Opens draft.asked.place.cell draft.asked.request (known c.seat) (known t) → c.seat.first ≤ draft.asked.place.cell → draft.asked.place.cell < c.seat.first + c.seat.count
    → length c.out.all + room_to_send ≤ c.work.room → 0 < c.out.room → IsDraft c.work.setup c.work.id c.op c.sent c.least c.priority draft → IsKept (record c { seat = t; phase = Prepared draft })
kept-drafted cells c t draft i idle same o low high room spare d =
    let held = subst (Holds c.work.setup c.work.id c.seat c.work.room c.op c.sent c.least c.priority c.out) idle i.holds in
    let seated = subst (λ p. IsSeated c.work.clients c.work.id c.seat (length (places_in c.out.all p)) (length (view_of c.work).unanswered + drafted p)) idle i.seated in
    let one = seated-opened cells c.work.clients c.work.id c.seat t same _ _ seated draft.asked.place.cell draft.asked.request low high o in
    let more : length (map place_of c.out.all) + 1 ≡ suc (length (map place_of c.out.all)) = omega arith in
    let owed : length (view_of c.work).unanswered + 0 + 1 ≡ length (view_of c.work).unanswered + 1 = omega arith in
    record {
      sound = record { reads = reads_moved c.work.setup (view_of c.work) c.op c.sent c.least c.priority c.out.all c.out.all c.phase (Prepared draft) (subst (λ p. Describes c.out.all p (view_of c.work).descriptors) idle i.sound.reads.descriptors) (subst (λ p. JustIs c.out.all p (accepted_in (view_of c.work).called)) idle i.sound.reads.just) i.sound.reads; served = i.sound.served };
      holds = (room, out-stays cells c.work.id c.seat t c.out.all c.sent same held.1, spare, subst (λ n. n ≤ draft.asked.place.cell) (sym same.1) low, subst (λ n. draft.asked.place.cell < n + t.count) (sym same.1) (subst (λ n. draft.asked.place.cell < c.seat.first + n) (sym same.2) high), d);
      places = one_more_open (subst (λ p. OpenAre (places_in c.out.all p) (known c.seat)) idle i.places) o;
      seated = subst (λ n. IsSeated c.work.clients c.work.id t n (length (view_of c.work).unanswered + 1)) more (subst (λ n. IsSeated c.work.clients c.work.id t (length (map place_of c.out.all) + 1) n) owed one);
      few = i.few;
    }

-- and one whose seat filled or looked, wherever the call stands
holds-seat : (cells : Cells Filling) (setup : Setup) (id : CallerId) (seat t : Seat Filling) (room op sent least : ℕ) (priority : Option (Bool × ℤ)) (out : InOrder) (phase : Phase) → SameSeat cells seat t → Holds setup id seat room op sent least priority out phase → Holds setup id t room op sent least priority out phase
holds-seat cells setup id seat t room op sent least priority out Idle same h = (h.0, out-stays cells id seat t out.all sent same h.1)
holds-seat cells setup id seat t room op sent least priority out (Prepared draft) same h =
    (h.0, out-stays cells id seat t out.all sent same h.1, h.2, subst (λ n. n ≤ draft.asked.place.cell) (sym same.1) h.3, subst (λ n. draft.asked.place.cell < n + t.count) (sym same.1) (subst (λ n. draft.asked.place.cell < seat.first + n) (sym same.2) h.4), h.5)
holds-seat cells setup id seat t room op sent least priority out (Sent sent') same h = (h.0, out-stays cells id seat t (out.all ++ sent' ∷ []) sent same h.1, h.2)
holds-seat cells setup id seat t room op sent least priority out (Lost request) same h = tt

pub kept-filled : (cells : Cells Filling) (c : Inside) (t : Seat Filling) → IsKept c → SameSeat cells c.seat t → Stand (known c.seat) (known t) → IsKept (record c { seat = t })
kept-filled cells c t i same stand = record {
  sound = record { reads = i.sound.reads; served = i.sound.served };
  holds = holds-seat cells c.work.setup c.work.id c.seat t c.work.room c.op c.sent c.least c.priority c.out c.phase same i.holds;
  places = still_open i.places stand;
  seated = seated-stand cells c.work.clients c.work.id c.seat t same _ _ i.seated stand;
  few = i.few;
}
