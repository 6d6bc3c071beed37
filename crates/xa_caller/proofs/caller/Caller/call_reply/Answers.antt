use Rattle.std.proofs.Common.{◌∷◌, ◌≡◌, ◌+◌, ◌++◌, List, length, map, Some, None, inr, append-nil, [], refl, sym, ◌∙◌, ap, subst, arith}
use Rattle.xa_events.specs.declared.event.Event.{Event}
use Rattle.xa_events.specs.declared.event.Event.TheVariants.{Answer}
use Rattle.xa_events.specs.declared.event.Replied.{Replied}
use Rattle.xa_events.specs.Views.{CallerView}
use Rattle.xa_stamp.specs.declared.home.Stamped.{Stamped}
use Rattle.xa_cell.specs.Known.{known}
use Rattle.xa_cell.specs.Places.{OpenAre}
use Rattle.xa_cell.proofs.OpenPlaces.{still_open, one_less_open}
use Rattle.xa_worker.specs.Work.{WorkState, IsNext, noted, seeing}
use Rattle.xa_caller.specs.declared.phase.Open.{Open}
use Rattle.xa_caller.specs.declared.phase.Phase.{Phase}
use Rattle.xa_caller.specs.declared.phase.Phase.TheVariants.{Idle, Sent, Lost}
use Rattle.xa_caller.specs.Phases.{JustIs, request_of, place_of, Describes, places_in, drafted}
use Rattle.xa_caller.specs.Caller.{CallerState, Reads, IsSound, MayCall, view_of}
use Rattle.xa_caller.proofs.Next.{answers_next}
use Rattle.xa_caller.specs.Kept.{standing_of, Holds, IsSeated, AreOut}
use Rattle.xa_caller.proofs.Keeping.{settled-took, out-stays}
use Rattle.xa_caller.proofs.Reading.{view-more, reads_answered, owed_answered, reads_moved}
use Rattle.xa_caller.proofs.Counting.{seated-stand, seated-more, seated-freed, seated-cancelled}
use Rattle.xa_caller.proofs.Ordering.{out-at, out-less, out-without, single_asked}
use Rattle.xa_caller.proofs.Spelled.{filled_sound, told_sound}
use Rattle.xa_events.specs.Caller.{accepted_in}
use Rattle.xa_events.specs.Words.{without}
use Rattle.std.proofs.lemmas.List.{map-append}
use Rattle.std.proofs.Common.{◌-◌}
use Rattle.xa_worker.specs.Work.{noted_here}
use Rattle.xa_types.specs.declared.ids.CallerId.{CallerId}
use Rattle.xa_types.specs.declared.reply.Answer.{Answer as Reply}
use Rattle.xa_cell.specs.Calls.{TookAs}
use Rattle.xa_caller.specs.declared.cargo.Filling.{Filling}
use Rattle.xa_worker.specs.declared.work.Halt.TheVariants.{Worn}
use Rattle.xa_caller.specs.Changes.{Answers, Loses, Abandons}
use Rattle.xa_caller.proofs.caller.Caller.call_reply.Goals as goal

pub invariant_of-self-in-Ok : goal.invariant_of-self-in-Ok
invariant_of-self-in-Ok c =
    let s : CallerState = standing_of c.self.inside in
    let i = c.self.invariant in
    let w : WorkState = c.self.inside.work in
    let sent : Open = c.sent_in-open.result in
    let was : s.phase ≡ Sent sent = sym c.take_out.ensures.0 ∙ c.sent_in-open.ensures in
    let idle : c.take_out.new.phase ≡ Idle = c.take_out.ensures.1 in
    let held = subst (Holds w.setup w.id s.seat w.room s.op s.sent s.least s.priority c.self.inside.out) was i.holds in
    let a : Replied = record { by = c.id.result; op = s.op; request = sent.request; answer = c.told.result } in
    let x : Stamped = record { stamp = c.in-Ok.stamp; event = Answer a } in
    let w1 : WorkState = record (seeing c.take-answer.result.stamp w) { room = w.room - 1 } in
    let made : c.note.new.self ≡ noted x w1 = c.in-Ok.ensures.noted ∙ ap (noted_here x) c.saw.ensures in
    let by : a.by.0 ≡ w.id.0 = ap (λ id. id.0) (c.id.ensures.value ∙ ap (λ (v : WorkState). v.id) c.saw.ensures) in
    let seen = ap (λ (v : WorkState). v.stamp.0) c.saw.ensures in
    let higher = ap (λ (v : WorkState). v.stamp.0) made in
    let mid = c.look.new.seat in
    let new = c.take-answer.new.seat in
    let are = still_open (subst (λ p. OpenAre (places_in s.out p) (known s.seat)) was i.places) c.look.ensures.open in
    let seated = seated-stand c.args.cells.now w.clients w.id s.seat mid c.look.ensures.seat _ _ (subst (λ p. IsSeated w.clients w.id s.seat (length (places_in s.out p)) (length (view_of w).unanswered + drafted p)) was i.seated) c.look.ensures.open in
    let asked = single_asked sent.place.cell sent.request (map place_of s.out) (known mid) seated.single are in
    let out = out-stays c.args.cells.now w.id mid new (s.out ++ sent ∷ []) s.sent c.take-answer.ensures.seat (out-stays c.args.cells.now w.id s.seat mid (s.out ++ sent ∷ []) s.sent c.look.ensures.seat held.1) in
    let at = out-at w.id mid s.out [] sent s.sent (out-stays c.args.cells.now w.id s.seat mid (s.out ++ sent ∷ []) s.sent c.look.ensures.seat held.1) in
    let left = subst (λ p. Describes s.out p (without (Some sent.request) (view_of w).descriptors)) (sym idle)
    (ap (without (Some sent.request)) (subst (λ p. Describes s.out p (view_of w).descriptors) was i.sound.reads.descriptors ∙ sym (map-append request_of s.out (sent ∷ []))) ∙ out-without w.id new s.out [] sent s.sent out ∙ ap (map request_of) (append-nil s.out)) in
    let owing = owed_answered w.setup w.clients w.id.0 a (view_of w) s.op s.sent s.least s.priority s.out s.phase by i.sound.reads in
    let owed = ap (λ (view : CallerView). length view.unanswered) (view-more w1 x by) in
    let room = held.0 in
    record {
      sound = subst (λ (v : WorkState). IsSound (record s { work = v; seat = new; phase = c.take_out.new.phase })) (sym made) (record {
        reads = subst (λ (view : CallerView). Reads w.setup view s.op s.sent s.least s.priority s.out c.take_out.new.phase) (sym (view-more w1 x by))
            (reads_answered w.setup w.clients w.id.0 a (view_of w) s.op s.sent s.least s.op s.priority s.out s.out s.phase c.take_out.new.phase by held.2 refl left (subst (λ (p : Phase). JustIs s.out p None) (sym idle) (λ none. refl)) i.sound.reads);
        served = i.sound.served;
      });
      holds = subst (λ (v : WorkState). Holds v.setup v.id new v.room s.op s.sent s.least s.priority c.self.inside.out c.take_out.new.phase) (sym made) (subst (Holds w.setup w.id new (w.room - 1) s.op s.sent s.least s.priority c.self.inside.out) (sym idle)
          (omega (arith, room), subst (λ (l : List Open). AreOut w.id new l s.sent) (append-nil s.out) (out-less w.id new s.out [] sent s.sent out)));
      places = subst (λ p. OpenAre (places_in s.out p) (known new)) (sym idle) (one_less_open [] (map place_of s.out) sent.request mid are c.take-answer.ensures.shut);
      seated = subst (λ (v : WorkState). IsSeated v.clients v.id new (length (places_in s.out c.take_out.new.phase)) (length (view_of v).unanswered + drafted c.take_out.new.phase)) (sym made) (subst (λ p. IsSeated w.clients w.id new (length (places_in s.out p)) (length (view_of (noted x w1)).unanswered + drafted p)) (sym idle)
          (seated-freed c.args.cells.now w.clients w.id mid new c.take-answer.ensures.seat _ _ (seated-more w.clients w.id mid _ _ (length (view_of (noted x w1)).unanswered + 0 + 1) (omega (arith, owing, owed)) seated) sent.place.cell sent.request (length (map place_of s.out)) (length (view_of (noted x w1)).unanswered + 0) at.1 at.2 asked c.take-answer.ensures.shut
          (settled-took sent.place.cell c.take-answer.result (known mid) (known new) c.take-answer.ensures.known) (omega arith) (omega arith)));
      few = omega (arith, i.few, higher, seen, c.in-Ok.ensures.stamp);
    }

pub returns-in-Ok-clause-step : goal.returns-in-Ok-clause-step
returns-in-Ok-clause-step c =
    let s : CallerState = standing_of c.self.inside in
    let w : WorkState = c.self.inside.work in
    let sent : Open = c.sent_in-open.result in
    let filling : Filling = c.take-answer.result in
    let idle : c.take_out.new.phase ≡ Idle = c.take_out.ensures.1 in
    let by = c.id.ensures.value ∙ ap (λ (v : WorkState). v.id) c.saw.ensures in
    let w1 : WorkState = record (seeing filling.stamp w) { room = w.room - 1 } in
    let told : Event → CallerState = λ e. record s { work = noted (record { stamp = c.in-Ok.stamp; event = e }) w1; seat = c.take-answer.new.seat; phase = Idle } in
    let reply : CallerId → Reply → Event = λ id answer. Answer (record { by = id; op = s.op; request = sent.request; answer = answer }) in
    let made = ap (λ (v : WorkState). record s { work = v; seat = c.take-answer.new.seat; phase = c.take_out.new.phase }) (c.in-Ok.ensures.noted ∙ ap (noted_here (record { stamp = c.in-Ok.stamp; event = reply c.id.result c.told.result })) c.saw.ensures)
    ∙ ap (λ (p : Phase). record s { work = noted (record { stamp = c.in-Ok.stamp; event = reply c.id.result c.told.result }) w1; seat = c.take-answer.new.seat; phase = p }) idle
    ∙ ap (λ (id : CallerId). told (reply id c.told.result)) by ∙ ap (λ (answer : Reply). told (reply w.id answer)) c.told.ensures in
    let seen = ap (λ (v : WorkState). v.stamp.0) c.saw.ensures in
    subst (Answers c.args.expect.now c.in-Ok.stamp _) c.self.view_is (record {
      sent = sent;
      was = sym c.take_out.ensures.0 ∙ c.sent_in-open.ensures;
      room = (subst (Holds w.setup w.id s.seat w.room s.op s.sent s.least s.priority c.self.inside.out) (sym c.take_out.ensures.0 ∙ c.sent_in-open.ensures) c.self.invariant.holds).0;
      asked = let was = sym c.take_out.ensures.0 ∙ c.sent_in-open.ensures in single_asked sent.place.cell sent.request (map place_of s.out) (known s.seat) c.self.invariant.seated.single (subst (λ p. OpenAre (places_in s.out p) (known s.seat)) was c.self.invariant.places);
      filling = filling;
      reply = c.in-Some.answer;
      says = c.in-Some.is;
      sound = told_sound c.args.expect.now c.in-Some.answer (filled_sound filling.answer c.in-Some.answer c.in-Some.is filling.sound);
      took = subst (λ v. TookAs sent.place.cell filling v (known c.take-answer.new.seat)) c.in-Come.ensures.known.0 c.take-answer.ensures.known;
      noted = record { next = c.in-Ok.ensures.stamp.0 ∙ ap (λ n. n + 1) seen; bound = c.in-Ok.ensures.stamp.1; made = made };
    })

pub invariant_of-self-in-Err : goal.invariant_of-self-in-Err
invariant_of-self-in-Err c =
    let s : CallerState = standing_of c.self.inside in
    let i = c.self.invariant in
    let w : WorkState = c.self.inside.work in
    let sent : Open = c.sent_in-open.result in
    let was : s.phase ≡ Sent sent = sym c.take_out.ensures.0 ∙ c.sent_in-open.ensures in
    let lost : c.set-in-Err.new.phase ≡ Lost sent.request = c.set-in-Err.ensures in
    let w1 : WorkState = seeing c.take-answer.result.stamp w in
    let made : c.note.new.self ≡ w1 = c.in-Err.ensures.kept ∙ c.saw.ensures in
    let higher = ap (λ (v : WorkState). v.stamp.0) made in
    let mid = c.look.new.seat in
    let new = c.take-answer.new.seat in
    let are = still_open (subst (λ p. OpenAre (places_in s.out p) (known s.seat)) was i.places) c.look.ensures.open in
    let seated = seated-stand c.args.cells.now w.clients w.id s.seat mid c.look.ensures.seat _ _ (subst (λ p. IsSeated w.clients w.id s.seat (length (places_in s.out p)) (length (view_of w).unanswered + drafted p)) was i.seated) c.look.ensures.open in
    let asked = single_asked sent.place.cell sent.request (map place_of s.out) (known mid) seated.single are in
    record {
      sound = subst (λ (v : WorkState). IsSound (record s { work = v; seat = new; phase = c.set-in-Err.new.phase })) (sym made) (record { reads = reads_moved w.setup (view_of w) s.op s.sent s.least s.priority s.out s.out s.phase c.set-in-Err.new.phase (subst (λ p. Describes s.out p (view_of w).descriptors) (sym lost) tt) (subst (λ (p : Phase). JustIs s.out p (accepted_in (view_of w).called)) (sym lost) tt) i.sound.reads; served = i.sound.served });
      holds = subst (Holds c.note.new.self.setup c.note.new.self.id new c.note.new.self.room s.op s.sent s.least s.priority c.self.inside.out) (sym lost) tt;
      places = subst (λ p. OpenAre (places_in s.out p) (known new)) (sym lost) (one_less_open [] (map place_of s.out) sent.request mid are c.take-answer.ensures.shut);
      seated = subst (λ (v : WorkState). IsSeated v.clients v.id new (length (places_in s.out c.set-in-Err.new.phase)) (length (view_of v).unanswered + drafted c.set-in-Err.new.phase)) (sym made) (subst (λ p. IsSeated w.clients w.id new (length (places_in s.out p)) (length (view_of w1).unanswered + drafted p)) (sym lost)
          (seated-cancelled c.args.cells.now w.clients w.id mid new c.take-answer.ensures.seat _ _ seated sent.place.cell sent.request (length (map place_of s.out)) asked c.take-answer.ensures.shut (omega arith)));
      few = omega (arith, i.few, higher);
    }

pub returns-in-Err-clause-step : goal.returns-in-Err-clause-step
returns-in-Err-clause-step c =
    let s : CallerState = standing_of c.self.inside in
    let w : WorkState = c.self.inside.work in
    let sent : Open = c.sent_in-open.result in
    let filling : Filling = c.take-answer.result in
    let w1 : WorkState = seeing filling.stamp w in
    let lost : c.set-in-Err.new.phase ≡ Lost sent.request = c.set-in-Err.ensures in
    let made : c.note.new.self ≡ w1 = c.in-Err.ensures.kept ∙ c.saw.ensures in
    let seen = ap (λ (v : WorkState). v.stamp.0) c.saw.ensures in
    let worn = sym seen ∙ c.in-Err.ensures.worn.0 in
    subst (Loses (Worn c.in-Err.worn.0) _) c.self.view_is (record {
      sent = sent;
      was = sym c.take_out.ensures.0 ∙ c.sent_in-open.ensures;
      filling = filling;
      reply = c.in-Some.answer;
      says = c.in-Some.is;
      took = subst (λ v. TookAs sent.place.cell filling v (known c.take-answer.new.seat)) c.in-Come.ensures.known.0 c.take-answer.ensures.known;
      worn = worn;
      last = ap (λ n. Worn (record { 0 = n })) (c.in-Err.ensures.worn.1 ∙ sym worn);
      made = ap (λ (v : WorkState). record s { work = v; seat = c.take-answer.new.seat; phase = c.set-in-Err.new.phase }) made ∙ ap (λ (p : Phase). record s { work = w1; seat = c.take-answer.new.seat; phase = p }) lost;
    })

pub invariant_of-self-in_default : goal.invariant_of-self-in_default
invariant_of-self-in_default c =
    let s : CallerState = standing_of c.self.inside in
    let i = c.self.invariant in
    let w : WorkState = c.self.inside.work in
    let sent : Open = c.sent_in-open.result in
    let was : s.phase ≡ Sent sent = sym c.take_out.ensures.0 ∙ c.sent_in-open.ensures in
    let lost : c.set-in_default.new.phase ≡ Lost sent.request = c.set-in_default.ensures in
    let w1 : WorkState = w in
    let made : c.self.inside.work ≡ w1 = refl in
    let higher = ap (λ (v : WorkState). v.stamp.0) made in
    let mid = c.look.new.seat in
    let new = c.take-answer.new.seat in
    let are = still_open (subst (λ p. OpenAre (places_in s.out p) (known s.seat)) was i.places) c.look.ensures.open in
    let seated = seated-stand c.args.cells.now w.clients w.id s.seat mid c.look.ensures.seat _ _ (subst (λ p. IsSeated w.clients w.id s.seat (length (places_in s.out p)) (length (view_of w).unanswered + drafted p)) was i.seated) c.look.ensures.open in
    let asked = single_asked sent.place.cell sent.request (map place_of s.out) (known mid) seated.single are in
    record {
      sound = subst (λ (v : WorkState). IsSound (record s { work = v; seat = new; phase = c.set-in_default.new.phase })) (sym made) (record { reads = reads_moved w.setup (view_of w) s.op s.sent s.least s.priority s.out s.out s.phase c.set-in_default.new.phase (subst (λ p. Describes s.out p (view_of w).descriptors) (sym lost) tt) (subst (λ (p : Phase). JustIs s.out p (accepted_in (view_of w).called)) (sym lost) tt) i.sound.reads; served = i.sound.served });
      holds = subst (Holds w.setup w.id new w.room s.op s.sent s.least s.priority c.self.inside.out) (sym lost) tt;
      places = subst (λ p. OpenAre (places_in s.out p) (known new)) (sym lost) (one_less_open [] (map place_of s.out) sent.request mid are c.take-answer.ensures.shut);
      seated = subst (λ (v : WorkState). IsSeated v.clients v.id new (length (places_in s.out c.set-in_default.new.phase)) (length (view_of v).unanswered + drafted c.set-in_default.new.phase)) (sym made) (subst (λ p. IsSeated w.clients w.id new (length (places_in s.out p)) (length (view_of w1).unanswered + drafted p)) (sym lost)
          (seated-cancelled c.args.cells.now w.clients w.id mid new c.take-answer.ensures.seat _ _ seated sent.place.cell sent.request (length (map place_of s.out)) asked c.take-answer.ensures.shut (omega arith)));
      few = omega (arith, i.few, higher);
    }

pub returns-in_default-clause-step : goal.returns-in_default-clause-step
returns-in_default-clause-step c =
    let s : CallerState = standing_of c.self.inside in
    let sent : Open = c.sent_in-open.result in
    let filling : Filling = c.take-answer.result in
    let lost : c.set-in_default.new.phase ≡ Lost sent.request = c.set-in_default.ensures in
    subst (Abandons _) c.self.view_is (record {
      sent = sent;
      was = sym c.take_out.ensures.0 ∙ c.sent_in-open.ensures;
      filling = filling;
      none = c.in_default.is;
      took = subst (λ v. TookAs sent.place.cell filling v (known c.take-answer.new.seat)) c.in-Come.ensures.known.0 c.take-answer.ensures.known;
      made = ap (λ (p : Phase). record s { seat = c.take-answer.new.seat; phase = p }) lost;
    })

pub note-requires-clause-next : goal.note-requires-clause-next
note-requires-clause-next c =
    let s : CallerState = standing_of c.self.inside in
    let i = c.self.invariant in
    let w : WorkState = c.self.inside.work in
    let sent : Open = c.sent_in-open.result in
    let was : s.phase ≡ Sent sent = sym c.take_out.ensures.0 ∙ c.sent_in-open.ensures in
    let held = subst (Holds w.setup w.id s.seat w.room s.op s.sent s.least s.priority c.self.inside.out) was i.holds in
    let a : Replied = record { by = c.id.result; op = s.op; request = sent.request; answer = c.told.result } in
    let by = c.id.ensures.value ∙ ap (λ (v : WorkState). v.id) c.saw.ensures in
    let just = subst (λ (p : Phase). JustIs s.out p (accepted_in (view_of w).called)) was i.sound.reads.just in
    let next : IsNext w (Answer a) = answers_next s i.sound (subst MayCall (sym c.self.view_is) c.requires.active) a (map request_of s.out) [] by (inr (refl, just)) (out-at w.id s.seat s.out [] sent s.sent held.1).0 (subst (λ p. Describes s.out p (view_of w).descriptors) was i.sound.reads.descriptors) in
    subst (λ (v : WorkState). IsNext v (Answer a)) (sym c.saw.ensures) (record { its = next.its; met = next.met })

pub invariant_of-self : goal.invariant_of-self
invariant_of-self c =
    let s : CallerState = standing_of c.self.inside in
    let i = c.self.invariant in
    let w : WorkState = c.self.inside.work in
    let sent : Open = c.sent_in-open.result in
    let was : s.phase ≡ Sent sent = sym c.take_out.ensures.0 ∙ c.sent_in-open.ensures in
    let back : c.set.new.phase ≡ s.phase = c.set.ensures ∙ sym was in
    let held = subst (Holds w.setup w.id s.seat w.room s.op s.sent s.least s.priority c.self.inside.out) was i.holds in
    let mid = c.look.new.seat in
    record {
      sound = subst (λ (p : Phase). IsSound (record s { seat = mid; phase = p })) (sym back) (record { reads = i.sound.reads; served = i.sound.served });
      holds = subst (Holds w.setup w.id mid w.room s.op s.sent s.least s.priority c.self.inside.out) (sym c.set.ensures) (held.0, out-stays c.args.cells.now w.id s.seat mid (s.out ++ sent ∷ []) s.sent c.look.ensures.seat held.1, held.2);
      places = subst (λ p. OpenAre (places_in s.out p) (known mid)) (sym back) (still_open i.places c.look.ensures.open);
      seated = subst (λ p. IsSeated w.clients w.id mid (length (places_in s.out p)) (length (view_of w).unanswered + drafted p)) (sym back) (seated-stand c.args.cells.now w.clients w.id s.seat mid c.look.ensures.seat _ _ i.seated c.look.ensures.open);
      few = i.few;
    }
