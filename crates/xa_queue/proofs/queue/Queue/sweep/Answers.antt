use Rattle.std.proofs.Common.{◌≡◌, ◌+◌, ◌∷◌, ◌++◌, [], List, length, true, refl, ap, sym, ◌∙◌, subst, arith}
use Rattle.xa_events.specs.declared.event.Event.{Event}
use Rattle.xa_events.specs.declared.event.Event.TheVariants.{Sweep}
use Rattle.xa_lock.specs.declared.makers.Made.{Made}
use Rattle.xa_queue.specs.declared.entry.Entry.{Entry}
use Rattle.xa_queue.specs.Queue.{QueueState}
use Rattle.xa_queue.specs.Reading.{ReadsAsNoted}
use Rattle.xa_queue.specs.Kept.{standing_of}
use Rattle.xa_queue.proofs.OneMore.{reads-noted}
use Rattle.xa_queue.proofs.Leaving.{swept}
use Rattle.xa_queue.proofs.Lasting.{sound-noted, quiet, one_less, grown}
use Rattle.xa_queue.proofs.queue.Queue.sweep.Goals as goal

pub invariant_of-self : goal.invariant_of-self
invariant_of-self g c =
    let q : QueueState g.row.C.Denot = standing_of c.self.inside in
    let i = c.self.invariant in
    let entry = c.take-entry.result in
    let out = c.take-entry.ensures.taken in
    let rest : List (Entry g.row.C.Denot) = c.take-entry.new.self.waiting in
    let was : q.waiting ≡ entry ∷ rest = out.was ∙ ap (λ front. front ++ entry ∷ out.back) out.chosen ∙ ap (λ l. entry ∷ l) (sym (out.left ∙ ap (λ front. front ++ out.back) out.chosen)) in
    let left : QueueState g.row.C.Denot = record q { waiting = rest } in
    let e : Event = Sweep (record { request = entry.request; queue = q.id }) in
    let down : q.down ≡ true = ap (λ (s : QueueState g.row.C.Denot). s.down) c.self.view_is ∙ c.requires.down in
    let entries = c.add.ensures.entries in
    let fewer : length q.waiting ≡ length rest + 1 = one_less [] entry rest q.waiting was in
    record {
      reads = subst (λ l. ReadsAsNoted (record left { entries = l })) (sym {A = List Made} entries)
          (reads-noted c.in_ok-stamp.stamp c.args.maker e q left (record { id = refl; capacity = refl; servers = refl; first = refl; entries = refl }) i.reads
          (λ setup fits new read. swept setup q entry rest was down read));
      sound = sound-noted c.args.seen c.in_ok-stamp.stamp c.args.maker e q left c.self.inside.kept c.add.new.self i.first refl c.in_ok-stamp.ensures entries i.sound
          (quiet e q rest q.takes refl refl refl (omega (arith, fewer, i.sound.few)) i.sound);
      first = i.first ∙ sym c.add.ensures.first;
      known = i.known;
      some = i.some;
      most = i.most;
      servers = i.servers;
      ages = let more = grown c.self.inside.kept.entries c.add.new.self.entries _ entries c.self.inside.line.next i.ages in omega (arith, more, c.take-entry.ensures.next);
      takes = let more = grown c.self.inside.kept.entries c.add.new.self.entries _ entries c.self.inside.takes i.takes in omega (arith, more);
      room = omega (arith, fewer, i.room, c.add.ensures.room);
      places = i.places;
    }
