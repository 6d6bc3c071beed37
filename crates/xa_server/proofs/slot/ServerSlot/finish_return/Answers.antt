use Rattle.std.proofs.Math.Facts.{to_z-of_z}
use Rattle.xa_caller.specs.xa_events.declared.event.Outcome.TheVariants.{BadReturn}
use Rattle.std.proofs.Common.{◌≡◌, ℤ, if◌then◌else◌, true, Option, None, refl, sym, ◌∙◌, ap, subst}
use Rattle.xa_caller.specs.xa_types.declared.reply.Answer.{Answer}
use Rattle.xa_caller.specs.xa_events.declared.event.Doing.{Doing}
use Rattle.xa_caller.specs.xa_events.declared.event.Ended.{Ended}
use Rattle.xa_caller.specs.xa_events.declared.event.Event.TheVariants.{End}
use Rattle.xa_caller.specs.xa_events.declared.event.Outcome.{Outcome}
use Rattle.xa_caller.specs.xa_events.Caller.{version_of}
use Rattle.xa_caller.specs.xa_events.Cases.{may_end_so}
use Rattle.xa_caller.specs.xa_events.Conversation.{connections}
use Rattle.xa_caller.specs.xa_events.Finishing.{returned, return_by}
use Rattle.xa_caller.specs.xa_events.Server.{after_end}
use Rattle.xa_caller.specs.xa_frame.Spelling.{IsAnswer}
use Rattle.xa_caller.specs.xa_queue.declared.entry.Entry.{Entry}
use Rattle.xa_caller.specs.xa_worker.Work.{WorkState, IsNext, theirs, noted_here}
use Rattle.xa_server.specs.declared.slot.ServerSlot.{ServerSlot}
use Rattle.xa_server.specs.declared.slot.Last.{Last}
use Rattle.xa_caller.specs.Drafts.{Cargo}
use Rattle.xa_server.specs.Doings.{life_in, last_by}
use Rattle.xa_server.specs.Noting.{with_room}
use Rattle.xa_server.specs.Slot.{Stands}
use Rattle.xa_server.specs.Changes.{Closes, Finishes}
use Rattle.xa_server.proofs.Reading.{holding, return_is, return_may, end_of, may_ended, finished_stands}
use Rattle.xa_server.proofs.Spelled.{answer_sound}
use Rattle.xa_server.proofs.slot.ServerSlot.finish_return.Goals as goal

pub note_anew-requires-clause-next : goal.note_anew-requires-clause-next
note_anew-requires-clause-next c =
    let s : ServerSlot = c.args.self.now in
    let w : WorkState = c.args.caller.now.work in
    let h = holding s.doing s.hand c.requires.stands.hand c.requires.busy in
    let may = return_may w.setup c.args.sound c.args.value c.args.code c.args.payload c.requires.sound in
    let is = c.outcome_by-outcome.ensures ∙ ap (λ (z : ℤ). if c.args.sound then returned c.args.value z c.args.payload else BadReturn) (to_z-of_z c.ranges.code) in
    subst (λ (e : Ended). IsNext w (End e)) (sym (c.end_with-ended.ensures h.0 h.1))
    (may_ended s w c.requires.stands.tables (end_of s h.0 c.outcome_by-outcome.result) refl h.2
    (subst (λ o. may_end_so w.setup o ≡ true) (sym is) may.0) (subst (λ o. version_of o ≡ None) (sym is) may.1))

pub close-requires : goal.close-requires
close-requires c =
    let as_said = c.outcome_by-outcome.ensures ∙ ap (λ (z : ℤ). if c.args.sound then returned c.args.value z c.args.payload else BadReturn) (to_z-of_z c.ranges.code) in
    answer_sound c.args.caller.now.work.setup c.args.sound c.args.value c.args.code c.args.payload c.requires.configured c.ranges.code c.requires.sound c.outcome_by-outcome.result c.in-Ok.answer as_said c.in-Ok.ensures

pub returns-clause-ok : goal.returns-clause-ok
returns-clause-ok c =
    let s : ServerSlot = c.args.self.now in
    let w : WorkState = c.args.caller.now.work in
    let h = holding s.doing s.hand c.requires.stands.hand c.requires.busy in
    let o : Outcome = c.outcome_by-outcome.result in
    let noted = c.in_ok-stamp.ensures.noted in
    let stamp = c.in_ok-stamp.stamp in
    let as_said = c.outcome_by-outcome.ensures ∙ ap (λ (z : ℤ). if c.args.sound then returned c.args.value z c.args.payload else BadReturn) (to_z-of_z c.ranges.code) in
    let is : o ≡ return_by w.setup (connections w.id.0 (theirs w)) c.args.value c.args.code c.args.payload =
    as_said ∙ return_is w.setup (connections w.id.0 (theirs w)) c.args.sound c.args.value c.args.code c.args.payload c.requires.stands.tables.worker.unconnected c.requires.sound in
    let doing : c.after_end-doing.result ≡ after_end o (life_in s.doing) = c.after_end-doing.ensures ∙ ap (after_end o) c.life_in.ensures in
    let sound : IsAnswer c.in-Ok.answer = answer_sound w.setup c.args.sound c.args.value c.args.code c.args.payload c.requires.configured c.ranges.code c.requires.sound o c.in-Ok.answer as_said c.in-Ok.ensures in
    subst (λ (o : Outcome). Finishes o c.close.result (record s { doing = c.after_end-doing.result; hand = c.take_out.new.hand; last = c.last_by-last.result }) s c.note_anew.new.caller.work w) is (record {
      stamp = stamp;
      ended = record s { doing = after_end o (life_in s.doing); last = last_by o };
      ends = record {
        entry = h.0;
        in_hand = h.1;
        busy = h.2;
        noted = record {
          next = noted.next;
          bound = noted.bound;
          made = noted.made ∙ ap (λ (e : Ended). noted_here (record { stamp = stamp; event = End e }) (with_room 3 w)) (c.end_with-ended.ensures h.0 h.1);
        };
        left = refl;
      };
      left = ap (λ (d : Doing). record s { doing = d; hand = c.take_out.new.hand; last = c.last_by-last.result }) doing
          ∙ ap (λ hand. record s { doing = after_end o (life_in s.doing); hand = hand; last = c.last_by-last.result }) c.take_out.ensures.now
          ∙ ap (λ (l : Last). record s { doing = after_end o (life_in s.doing); hand = None; last = l }) c.last_by-last.ensures;
      closes = subst (λ (a : Answer). Closes a stamp s.hand c.close.result) c.in-Ok.ensures (record { entry = c.take_out.result; in_hand = c.take_out.ensures.was; sound = sound; is = c.close.ensures sound });
    })

pub returns-clause-stands : goal.returns-clause-stands
returns-clause-stands c =
    let s : ServerSlot = c.args.self.now in
    let w : WorkState = c.args.caller.now.work in
    let h = holding s.doing s.hand c.requires.stands.hand c.requires.busy in
    let o : Outcome = c.outcome_by-outcome.result in
    let noted = c.in_ok-stamp.ensures.noted in
    let stamp = c.in_ok-stamp.stamp in
    let doing : c.after_end-doing.result ≡ after_end o (life_in s.doing) = c.after_end-doing.ensures ∙ ap (after_end o) c.life_in.ensures in
    let new : Doing → Option (Entry Cargo) → Last → ServerSlot = λ d hand last. record s { doing = d; hand = hand; last = last } in
    subst (λ (v : WorkState). Stands (new c.after_end-doing.result c.take_out.new.hand c.last_by-last.result) v) (sym noted.made)
    (subst (λ (e : Ended). Stands (new c.after_end-doing.result c.take_out.new.hand c.last_by-last.result) (noted_here (record { stamp = stamp; event = End e }) (with_room 3 w))) (sym (c.end_with-ended.ensures h.0 h.1))
    (subst (λ (d : Doing). Stands (new d c.take_out.new.hand c.last_by-last.result) (noted_here (record { stamp = stamp; event = End (end_of s h.0 o) }) (with_room 3 w))) (sym doing)
    (subst (λ hand. Stands (new (after_end o (life_in s.doing)) hand c.last_by-last.result) (noted_here (record { stamp = stamp; event = End (end_of s h.0 o) }) (with_room 3 w))) (sym c.take_out.ensures.now)
    (subst (λ (l : Last). Stands (new (after_end o (life_in s.doing)) None l) (noted_here (record { stamp = stamp; event = End (end_of s h.0 o) }) (with_room 3 w))) (sym c.last_by-last.ensures)
    (finished_stands s w c.requires.stands h.0 o stamp noted.next)))))

pub note_anew-requires-clause-none : goal.note_anew-requires-clause-none
note_anew-requires-clause-none c = c.requires.stands.tables.worker.none
