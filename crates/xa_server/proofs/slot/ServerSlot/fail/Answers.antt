use Rattle.std.proofs.Common.{Option, refl, sym, ◌∙◌, ap, subst}
use Rattle.xa_caller.specs.xa_types.declared.ids.Generation.{Generation}
use Rattle.xa_caller.specs.xa_events.declared.event.Doing.TheVariants.{Idle}
use Rattle.xa_caller.specs.xa_events.declared.event.Ended.{Ended}
use Rattle.xa_caller.specs.xa_events.declared.event.Event.TheVariants.{End}
use Rattle.xa_caller.specs.xa_events.declared.event.Outcome.TheVariants.{BadForward}
use Rattle.xa_caller.specs.xa_queue.declared.entry.Entry.{Entry}
use Rattle.xa_caller.specs.xa_worker.Work.{WorkState, IsNext, noted_here}
use Rattle.xa_caller.specs.Caller.{CallerState}
use Rattle.xa_caller.specs.Drafts.{Cargo}
use Rattle.xa_caller.specs.Serving.{raised, version_ended}
use Rattle.xa_server.specs.declared.slot.ServerSlot.{ServerSlot}
use Rattle.xa_server.specs.declared.slot.Last.TheVariants.{Well}
use Rattle.xa_server.specs.Doings.{life_in}
use Rattle.xa_server.specs.Noting.{with_room}
use Rattle.xa_server.specs.Slot.{Stands}
use Rattle.xa_server.proofs.Reading.{holding, end_of, finished_stands}
use Rattle.xa_server.proofs.Onward.{may_failed}
use Rattle.xa_server.proofs.slot.ServerSlot.fail.Goals as goal

pub note_anew-requires-clause-next : goal.note_anew-requires-clause-next
note_anew-requires-clause-next c =
    let s : ServerSlot = c.args.self.now in
    let h = holding s.doing s.hand c.requires.stands.hand c.requires.busy in
    subst (λ (e : Ended). IsNext c.args.caller.now.work (End e)) (sym (c.end_with-ended.ensures h.0 h.1))
    (may_failed s c.args.caller.now c.requires.stands.tables c.id-itself.ensures.sound h.0 h.2 c.args.version c.requires.recent)

pub returns-clause-ok : goal.returns-clause-ok
returns-clause-ok c =
    let s : ServerSlot = c.args.self.now in
    let old : CallerState = c.args.caller.now in
    let new : CallerState = c.note_anew.new.caller in
    let h = holding s.doing s.hand c.requires.stands.hand c.requires.busy in
    let noted = c.in_ok-stamp.ensures.noted in
    let stamp = c.in_ok-stamp.stamp in
    let is = c.end_with-ended.ensures h.0 h.1 in
    record {
      finishes = record {
        stamp = stamp;
        ended = record s { doing = Idle (life_in s.doing); last = Well };
        ends = record {
          entry = h.0;
          in_hand = h.1;
          busy = h.2;
          noted = record { next = noted.next; bound = noted.bound; made = noted.made ∙ ap (λ (e : Ended). noted_here (record { stamp = stamp; event = End e }) (with_room 3 old.work)) is };
          left = refl;
        };
        left = ap (λ g. record s { doing = Idle g; hand = c.take_out.new.hand; last = Well }) c.life_in-life.ensures ∙ ap (λ hand. record s { doing = Idle (life_in s.doing); hand = hand; last = Well }) c.take_out.ensures.now;
        closes = record { entry = c.take_out.result; in_hand = c.take_out.ensures.was; sound = tt; is = c.close.ensures tt };
      };
      rest = c.in_ok-stamp.ensures.rest ∙ ap (λ (e : Ended). record old { work = new.work; least = raised (version_ended (End e)) old.least }) is;
    }

pub returns-clause-stands : goal.returns-clause-stands
returns-clause-stands c =
    let s : ServerSlot = c.args.self.now in
    let w : WorkState = c.args.caller.now.work in
    let h = holding s.doing s.hand c.requires.stands.hand c.requires.busy in
    let noted = c.in_ok-stamp.ensures.noted in
    let stamp = c.in_ok-stamp.stamp in
    let new : Generation → Option (Entry Cargo) → ServerSlot = λ g hand. record s { doing = Idle g; hand = hand; last = Well } in
    subst (λ (v : WorkState). Stands (new c.life_in-life.result c.take_out.new.hand) v) (sym noted.made)
    (subst (λ (e : Ended). Stands (new c.life_in-life.result c.take_out.new.hand) (noted_here (record { stamp = stamp; event = End e }) (with_room 3 w))) (sym (c.end_with-ended.ensures h.0 h.1))
    (subst (λ g. Stands (new g c.take_out.new.hand) (noted_here (record { stamp = stamp; event = End (end_of s h.0 (BadForward c.args.version)) }) (with_room 3 w))) (sym c.life_in-life.ensures)
    (subst (λ hand. Stands (new (life_in s.doing) hand) (noted_here (record { stamp = stamp; event = End (end_of s h.0 (BadForward c.args.version)) }) (with_room 3 w))) (sym c.take_out.ensures.now)
    (finished_stands s w c.requires.stands h.0 (BadForward c.args.version) stamp noted.next))))

pub note_anew-requires-clause-none : goal.note_anew-requires-clause-none
note_anew-requires-clause-none c = c.requires.stands.tables.worker.none
