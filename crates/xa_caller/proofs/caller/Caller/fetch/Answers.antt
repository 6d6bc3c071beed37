use Rattle.std.proofs.Common.{◌≡◌, ◌+◌, ◌-◌, ◌<◌, ◌++◌, List, map, inl, refl, sym, ◌∙◌, ap, subst, arith}
use Rattle.std.specs.Prelude.{IfSome, slice_get}
use Rattle.xa_types.specs.declared.ids.CallerId.{CallerId}
use Rattle.xa_types.specs.declared.reply.Answer.{Answer as Reply}
use Rattle.xa_events.specs.declared.event.Event.{Event}
use Rattle.xa_events.specs.declared.event.Event.TheVariants.{Answer}
use Rattle.xa_events.specs.declared.event.Replied.{Replied}
use Rattle.xa_cell.specs.Views.{at}
use Rattle.xa_cell.specs.Known.{known}
use Rattle.xa_worker.specs.Work.{WorkState, IsNext, noted, noted_here, seeing}
use Rattle.xa_worker.specs.declared.work.Halt.TheVariants.{Worn}
use Rattle.xa_caller.specs.declared.cargo.Filling.{Filling}
use Rattle.xa_caller.specs.declared.phase.Open.{Open}
use Rattle.xa_caller.specs.declared.phase.Phase.{Phase}
use Rattle.xa_caller.specs.declared.phase.Phase.TheVariants.{Idle, Lost}
use Rattle.xa_caller.specs.declared.outcomes.Step.TheVariants as steps
use Rattle.xa_caller.specs.Phases.{request_of}
use Rattle.xa_caller.specs.Caller.{CallerState, MayCall}
use Rattle.xa_caller.specs.Getting.{FetchesAt}
use Rattle.xa_caller.specs.Kept.{standing_of}
use Rattle.xa_caller.proofs.Keeping.{settled-took}
use Rattle.xa_caller.proofs.Next.{answers_next}
use Rattle.xa_caller.proofs.Fetching.{fetch-open, fetch-asked, fetch-mine, fetch-described, kept-lost, kept-answered}
use Rattle.xa_caller.proofs.Spelled.{filled_sound, told_sound}
use Rattle.xa_caller.proofs.caller.Caller.fetch.Goals as goal

pub take-answer-requires-clause-come : goal.take-answer-requires-clause-come
take-answer-requires-clause-come c =
    let s : CallerState = standing_of c.self.inside in
    let idle : s.phase ≡ Idle = ap (λ (t : CallerState). t.phase) c.self.view_is ∙ c.requires.idle in
    let stood = c.take.ensures.stood.0 in
    let come = subst (λ (t : CallerState). IfSome (slice_get t.out c.args.place) (λ o. 0 < (at o.place.cell (known t.seat)).settled)) (sym c.self.view_is) c.requires.come in
    (fetch-open c.self.inside c.self.invariant idle stood.front stood.back c.take.result stood.is, subst (λ o. IfSome o (λ (p : Open). 0 < (at p.place.cell (known s.seat)).settled)) c.take.ensures.is come)

pub invariant_of-self : goal.invariant_of-self
invariant_of-self c =
    let s : CallerState = standing_of c.self.inside in
    let idle : s.phase ≡ Idle = ap (λ (t : CallerState). t.phase) c.self.view_is ∙ c.requires.idle in
    let stood = c.take.ensures.stood.0 in
    kept-lost c.self.inside c.self.invariant idle stood.front stood.back c.take.result stood.is c.args.cells.now c.take-answer.new.seat c.take-answer.ensures.seat c.take-answer.ensures.shut c.self.inside.work c.self.inside.work.stamp c.take.new.self c.set.new.phase refl (omega arith) c.take.ensures.stood.1 c.set.ensures

pub returns-in_default-clause-step : goal.returns-in_default-clause-step
returns-in_default-clause-step c =
    let s : CallerState = standing_of c.self.inside in
    let sent : Open = c.take.result in
    let stood = c.take.ensures.stood.0 in
    subst (λ (old : CallerState). FetchesAt c.args.op c.args.expect.now c.args.place steps.Halted (record s { seat = c.take-answer.new.seat; out = c.take.new.self.all; phase = c.set.new.phase }) old) c.self.view_is (
      sent,
      stood,
      record {
        filling = c.take-answer.result;
        none = c.in_default.is;
        took = c.take-answer.ensures.known;
        made = ap (λ (p : Phase). record s { seat = c.take-answer.new.seat; out = c.take.new.self.all; phase = p }) c.set.ensures ∙ ap (λ (l : List Open). record s { seat = c.take-answer.new.seat; out = l; phase = Lost sent.request }) c.take.ensures.stood.1;
      },
    )

pub note-requires-clause-next : goal.note-requires-clause-next
note-requires-clause-next c =
    let s : CallerState = standing_of c.self.inside in
    let w : WorkState = c.self.inside.work in
    let i = c.self.invariant in
    let idle : s.phase ≡ Idle = ap (λ (t : CallerState). t.phase) c.self.view_is ∙ c.requires.idle in
    let sent : Open = c.take.result in
    let stood = c.take.ensures.stood.0 in
    let a : Replied = record { by = c.id.result; op = c.args.op; request = sent.request; answer = c.told.result } in
    let by = c.id.ensures.value ∙ ap (λ (v : WorkState). v.id) c.saw.ensures in
    let turn = ap (λ (t : CallerState). t.op) c.self.view_is in
    let next : IsNext w (Answer a) = answers_next s i.sound (subst MayCall (sym c.self.view_is) c.requires.active) a (map request_of stood.front) (map request_of stood.back) by (inl (omega (arith, turn, c.requires.turn)))
    (fetch-mine c.self.inside i idle stood.front stood.back sent stood.is) (fetch-described c.self.inside i idle stood.front stood.back sent stood.is) in
    subst (λ (v : WorkState). IsNext v (Answer a)) (sym c.saw.ensures) (record { its = next.its; met = next.met })

pub invariant_of-self-in-Ok : goal.invariant_of-self-in-Ok
invariant_of-self-in-Ok c =
    let s : CallerState = standing_of c.self.inside in
    let w : WorkState = c.self.inside.work in
    let i = c.self.invariant in
    let idle : s.phase ≡ Idle = ap (λ (t : CallerState). t.phase) c.self.view_is ∙ c.requires.idle in
    let sent : Open = c.take.result in
    let stood = c.take.ensures.stood.0 in
    let a : Replied = record { by = c.id.result; op = c.args.op; request = sent.request; answer = c.told.result } in
    let by = c.id.ensures.value ∙ ap (λ (v : WorkState). v.id) c.saw.ensures in
    let turn = ap (λ (t : CallerState). t.op) c.self.view_is in
    let seen = ap (λ (v : WorkState). v.stamp.0) c.saw.ensures in
    let made = c.in-Ok.ensures.noted ∙ ap (noted_here (record { stamp = c.in-Ok.stamp; event = Answer a })) c.saw.ensures in
    kept-answered c.self.inside i idle stood.front stood.back sent stood.is c.args.cells.now c.take-answer.new.seat c.take-answer.ensures.seat c.take-answer.ensures.shut c.note.new.self (seeing c.take-answer.result.stamp w).stamp c.in-Ok.stamp a c.take.new.self
    (settled-took sent.place.cell c.take-answer.result (known s.seat) (known c.take-answer.new.seat) c.take-answer.ensures.known) by (omega (arith, turn, c.requires.turn)) refl made (omega (arith, seen, c.in-Ok.ensures.stamp)) c.take.ensures.stood.1

pub invariant_of-self-in-Err : goal.invariant_of-self-in-Err
invariant_of-self-in-Err c =
    let s : CallerState = standing_of c.self.inside in
    let w : WorkState = c.self.inside.work in
    let idle : s.phase ≡ Idle = ap (λ (t : CallerState). t.phase) c.self.view_is ∙ c.requires.idle in
    let stood = c.take.ensures.stood.0 in
    kept-lost c.self.inside c.self.invariant idle stood.front stood.back c.take.result stood.is c.args.cells.now c.take-answer.new.seat c.take-answer.ensures.seat c.take-answer.ensures.shut c.note.new.self (seeing c.take-answer.result.stamp w).stamp c.take.new.self c.set-in-Err.new.phase (c.in-Err.ensures.kept ∙ c.saw.ensures) (omega arith) c.take.ensures.stood.1 c.set-in-Err.ensures

pub returns-in-Ok-clause-step : goal.returns-in-Ok-clause-step
returns-in-Ok-clause-step c =
    let s : CallerState = standing_of c.self.inside in
    let w : WorkState = c.self.inside.work in
    let i = c.self.invariant in
    let idle : s.phase ≡ Idle = ap (λ (t : CallerState). t.phase) c.self.view_is ∙ c.requires.idle in
    let sent : Open = c.take.result in
    let filling : Filling = c.take-answer.result in
    let stood = c.take.ensures.stood.0 in
    let by = c.id.ensures.value ∙ ap (λ (v : WorkState). v.id) c.saw.ensures in
    let w1 : WorkState = record (seeing filling.stamp w) { room = w.room - 1 } in
    let told : List Open → Event → CallerState = λ l e. record s { work = noted (record { stamp = c.in-Ok.stamp; event = e }) w1; seat = c.take-answer.new.seat; op = c.args.op; out = l } in
    let reply : CallerId → Reply → Event = λ id answer. Answer (record { by = id; op = c.args.op; request = sent.request; answer = answer }) in
    let made = ap (λ (v : WorkState). record s { work = v; seat = c.take-answer.new.seat; op = c.args.op; out = c.take.new.self.all }) (c.in-Ok.ensures.noted ∙ ap (noted_here (record { stamp = c.in-Ok.stamp; event = reply c.id.result c.told.result })) c.saw.ensures)
    ∙ ap (λ (l : List Open). told l (reply c.id.result c.told.result)) c.take.ensures.stood.1
    ∙ ap (λ (id : CallerId). told (stood.front ++ stood.back) (reply id c.told.result)) by ∙ ap (λ (answer : Reply). told (stood.front ++ stood.back) (reply w.id answer)) c.told.ensures in
    let seen = ap (λ (v : WorkState). v.stamp.0) c.saw.ensures in
    subst (λ (old : CallerState). FetchesAt c.args.op c.args.expect.now c.args.place (steps.Told c.in-Ok.stamp) (record s { work = c.note.new.self; seat = c.take-answer.new.seat; op = c.args.op; out = c.take.new.self.all }) old) c.self.view_is (
      sent,
      stood,
      record {
        was = stood.is;
        asked = fetch-asked c.self.inside i idle stood.front stood.back sent stood.is;
        filling = filling;
        reply = c.in-Some.answer;
        says = c.in-Some.is;
        sound = told_sound c.args.expect.now c.in-Some.answer (filled_sound filling.answer c.in-Some.answer c.in-Some.is filling.sound);
        took = c.take-answer.ensures.known;
        noted = record { next = c.in-Ok.ensures.stamp.0 ∙ ap (λ n. n + 1) seen; bound = c.in-Ok.ensures.stamp.1; made = made };
      },
    )

pub returns-in-Err-clause-step : goal.returns-in-Err-clause-step
returns-in-Err-clause-step c =
    let s : CallerState = standing_of c.self.inside in
    let w : WorkState = c.self.inside.work in
    let sent : Open = c.take.result in
    let filling : Filling = c.take-answer.result in
    let stood = c.take.ensures.stood.0 in
    let w1 : WorkState = seeing filling.stamp w in
    let made : c.note.new.self ≡ w1 = c.in-Err.ensures.kept ∙ c.saw.ensures in
    let seen = ap (λ (v : WorkState). v.stamp.0) c.saw.ensures in
    let worn = sym seen ∙ c.in-Err.ensures.worn.0 in
    subst (λ (old : CallerState). FetchesAt c.args.op c.args.expect.now c.args.place (steps.Halt (Worn c.in-Err.worn.0)) (record s { work = c.note.new.self; seat = c.take-answer.new.seat; out = c.take.new.self.all; phase = c.set-in-Err.new.phase }) old) c.self.view_is (
      sent,
      stood,
      record {
        filling = filling;
        reply = c.in-Some.answer;
        says = c.in-Some.is;
        took = c.take-answer.ensures.known;
        worn = worn;
        last = ap (λ n. Worn (record { 0 = n })) (c.in-Err.ensures.worn.1 ∙ sym worn);
        made = ap (λ (v : WorkState). record s { work = v; seat = c.take-answer.new.seat; out = c.take.new.self.all; phase = c.set-in-Err.new.phase }) made
            ∙ ap (λ (p : Phase). record s { work = w1; seat = c.take-answer.new.seat; out = c.take.new.self.all; phase = p }) c.set-in-Err.ensures
            ∙ ap (λ (l : List Open). record s { work = w1; seat = c.take-answer.new.seat; out = l; phase = Lost sent.request }) c.take.ensures.stood.1;
      },
    )
