use Rattle.std.proofs.Common.{◌≡◌, ◌+◌, ◌++◌, List, length, true, false, refl, ap, sym, ◌∙◌, subst, arith}
use Rattle.xa_events.specs.declared.event.Event.{Event}
use Rattle.xa_lock.specs.declared.makers.Made.{Made}
use Rattle.xa_queue.specs.declared.entry.Entry.{Entry}
use Rattle.xa_lock.specs.Makers.{noted_in}
use Rattle.xa_queue.specs.Queue.{QueueState, has_server}
use Rattle.xa_queue.specs.Reading.{ReadsAsNoted}
use Rattle.xa_queue.specs.Changes.{taken}
use Rattle.xa_queue.specs.Kept.{standing_of}
use Rattle.xa_queue.proofs.OneMore.{reads-noted}
use Rattle.xa_queue.proofs.Leaving.{took, is_up}
use Rattle.xa_queue.proofs.Lasting.{sound-noted, quiet, one_less, few_rise, grown, length-noted_in}
use Rattle.xa_queue.proofs.queue.Queue.take.Goals as goal

pub overflow_add-k : goal.overflow_add-k
overflow_add-k g c =
    let i = c.self.invariant in
    let few = few_rise c.self.inside.first (noted_in c.self.inside.kept.entries) i.sound.rises in
    omega (arith, few, length-noted_in c.self.inside.kept.entries, i.takes)

pub invariant_of-self : goal.invariant_of-self
invariant_of-self g c =
    let q : QueueState g.row.C.Denot = standing_of c.self.inside in
    let i = c.self.invariant in
    let server = c.args.server in
    let entry = c.take-entry.result in
    let out = c.take-entry.ensures.taken in
    let rest : List (Entry g.row.C.Denot) = out.front ++ out.back in
    let left : QueueState g.row.C.Denot = record q { waiting = rest; takes = q.takes + 1 } in
    let e : Event = taken entry server c.args.generation q in
    let own : has_server server q.servers ≡ true = ap (λ (s : QueueState g.row.C.Denot). has_server server s.servers) c.self.view_is ∙ c.requires.own in
    let stays : has_server server q.gone ≡ false = ap (λ (s : QueueState g.row.C.Denot). has_server server s.gone) c.self.view_is ∙ c.requires.left in
    let up : q.down ≡ false = is_up q server i.sound own stays in
    let entries = c.add.ensures.entries in
    let fewer : length q.waiting ≡ length rest + 1 = one_less out.front entry out.back q.waiting out.was in
    let shorter : length c.take-entry.new.self.waiting ≡ length rest = ap length out.left in
    record {
      reads = subst (λ w. ReadsAsNoted (record left { entries = c.add.new.self.entries; waiting = w })) (sym {A = List (Entry g.row.C.Denot)} out.left) (subst (λ l. ReadsAsNoted (record left { entries = l })) (sym {A = List Made} entries)
          (reads-noted c.in_ok-stamp.stamp c.args.maker e q left (record { id = refl; capacity = refl; servers = refl; first = refl; entries = refl }) i.reads
          (λ setup fits new read. took setup q server c.args.generation out.front entry out.back out.was out.chosen up own fits read)));
      sound = sound-noted c.args.seen c.in_ok-stamp.stamp c.args.maker e q (record q { waiting = c.take-entry.new.self.waiting; takes = q.takes + 1 }) c.self.inside.kept c.add.new.self i.first refl c.in_ok-stamp.ensures entries i.sound
          (quiet e q c.take-entry.new.self.waiting (q.takes + 1) refl refl refl (omega (arith, fewer, shorter, i.sound.few)) i.sound);
      first = i.first ∙ sym c.add.ensures.first;
      known = i.known;
      some = i.some;
      most = i.most;
      servers = i.servers;
      ages = let more = grown c.self.inside.kept.entries c.add.new.self.entries _ entries c.self.inside.line.next i.ages in omega (arith, more, c.take-entry.ensures.next);
      takes = grown c.self.inside.kept.entries c.add.new.self.entries _ entries c.self.inside.takes i.takes;
      room = omega (arith, fewer, shorter, i.room, c.add.ensures.room);
      places = i.places;
    }
