use Rattle.std.proofs.Common.{◌≡◌, ℕ, true, false, cond, refl, ap, sym, ◌∙◌, subst, arith, List, ◌==◌, append-nil, eq-eqb}
use Rattle.std.proofs.lemmas.Bool.{or_left}
use Rattle.xa_events.specs.declared.event.Event.TheVariants.{Down}
use Rattle.xa_lock.specs.declared.makers.Made.{Made}
use Rattle.xa_queue.specs.Queue.{QueueState, none_left}
use Rattle.xa_queue.specs.Reading.{ReadsAsNoted}
use Rattle.xa_queue.specs.Kept.{standing_of}
use Rattle.xa_queue.proofs.OneMore.{reads-noted}
use Rattle.xa_queue.proofs.Ending.{went_down}
use Rattle.xa_queue.proofs.Lasting.{sound-noted, grown}
use Rattle.xa_queue.proofs.queue.Queue.down.Goals as goal

pub invariant_of-self : goal.invariant_of-self
invariant_of-self g c =
    let q : QueueState g.row.C.Denot = standing_of c.self.inside in
    let i = c.self.invariant in
    let left : QueueState g.row.C.Denot = record q { down = true } in
    let deserted : none_left q ≡ true = ap (λ (s : QueueState g.row.C.Denot). none_left s) c.self.view_is ∙ c.requires.deserted in
    let entries = c.add.ensures.entries in
    let up : q.down ≡ false = ap (λ (s : QueueState g.row.C.Denot). s.down) c.self.view_is ∙ c.requires.up in
    record {
      reads = subst (λ l. ReadsAsNoted (record left { entries = l })) (sym {A = List Made} entries)
          (reads-noted c.in_ok-stamp.stamp c.args.maker (Down q.id) q left (record { id = refl; capacity = refl; servers = refl; first = refl; entries = refl }) i.reads
          (λ setup fits new read. went_down setup q i.some deserted up fits read));
      sound = sound-noted c.args.seen c.in_ok-stamp.stamp c.args.maker (Down q.id) q left c.self.inside.kept c.add.new.self i.first refl c.in_ok-stamp.ensures entries i.sound
          (record { same = record { id = refl; capacity = refl; servers = refl; first = refl; entries = refl }; few = i.sound.few; deserted = λ _. deserted; own = i.sound.own; once = i.sound.once; given_up = sym (append-nil q.gone); shut = refl; fallen = sym (or_left (q.id.0 == q.id.0) q.down (eq-eqb q.id.0 q.id.0 refl)) });
      first = i.first ∙ sym c.add.ensures.first;
      known = i.known;
      some = i.some;
      most = i.most;
      servers = i.servers;
      ages = let more = grown c.self.inside.kept.entries c.add.new.self.entries _ entries c.self.inside.line.next i.ages in omega (arith, more);
      takes = let more = grown c.self.inside.kept.entries c.add.new.self.entries _ entries c.self.inside.takes i.takes in omega (arith, more);
      room = let one = ap {B = ℕ} (λ b. cond b 0 1) up in omega (arith, one, i.room, c.add.ensures.room);
      places = i.places;
    }
