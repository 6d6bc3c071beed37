use Rattle.std.proofs.Common.{Option, sym, ◌∙◌, ap, subst}
use Rattle.xa_caller.specs.xa_types.declared.reply.Answer.{Answer}
use Rattle.xa_caller.specs.xa_frame.Spelling.{IsAnswer}
use Rattle.xa_caller.specs.xa_queue.declared.entry.Entry.{Entry}
use Rattle.xa_caller.specs.Drafts.{Cargo}
use Rattle.xa_server.specs.declared.slot.ServerSlot.{ServerSlot}
use Rattle.xa_server.specs.Changes.{Closes, Stops}
use Rattle.xa_server.proofs.Spelled.{death_sound}
use Rattle.xa_server.proofs.slot.ServerSlot.die_busy.Goals as goal

pub close-requires : goal.close-requires
close-requires c = subst IsAnswer (sym c.death_reply.ensures) (death_sound c.args.cause)

pub returns-in-Ok-clause-ok : goal.returns-in-Ok-clause-ok
returns-in-Ok-clause-ok c =
    let ends = c.in_ok-stamp.ensures.ok in
    let lost : ServerSlot = c.lose.new.self in
    let sound : IsAnswer c.death_reply.result = subst IsAnswer (sym c.death_reply.ensures) (death_sound c.args.cause) in
    record {
      stamp = c.in_ok-stamp.stamp;
      stop = c.in-Ok.field-0;
      ended = lost;
      between = c.lose.new.caller.work;
      ends = ends;
      stops = subst (λ (hand : Option (Entry Cargo)). Stops c.args.cause c.in-Ok.field-0 c.stopped.new.self (record lost { hand = hand }) c.stopped.new.caller.work c.lose.new.caller.work) c.take_out-entry.ensures.now c.in-Ok.ensures.ok;
      closes = subst (λ (a : Answer). Closes a c.in_ok-stamp.stamp c.args.self.now.hand c.close.result) c.death_reply.ensures (record {
        entry = c.take_out-entry.result;
        in_hand = sym (ap (λ (u : ServerSlot). u.hand) ends.left) ∙ c.take_out-entry.ensures.was;
        sound = sound;
        is = c.close.ensures sound;
      });
    }
