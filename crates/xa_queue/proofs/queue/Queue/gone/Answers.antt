use Rattle.std.proofs.Common.{◌≡◌, ◌+◌, ◌≤◌, ◌∷◌, [], length, true, false, refl, ap, sym, ◌∙◌, subst, arith, length-append, List}
use Rattle.xa_types.specs.declared.ids.ServerId.{ServerId}
use Rattle.xa_events.specs.declared.event.Event.TheVariants.{Gone}
use Rattle.xa_lock.specs.declared.makers.Made.{Made}
use Rattle.xa_queue.specs.Queue.{QueueState, IsSound, has_server}
use Rattle.xa_queue.specs.Reading.{ReadsAsNoted}
use Rattle.xa_queue.specs.Changes.{with_gone}
use Rattle.xa_queue.specs.Kept.{standing_of, servers_left}
use Rattle.xa_queue.proofs.OneMore.{reads-noted}
use Rattle.xa_queue.proofs.Leaving.{not_all_gone}
use Rattle.xa_queue.proofs.Ending.{gave_up}
use Rattle.xa_queue.proofs.Lasting.{sound-noted, own-noted, once-noted, left-less, grown}
use Rattle.xa_queue.proofs.queue.Queue.gone.Goals as goal

pub add-requires-clause-room : goal.add-requires-clause-room
add-requires-clause-room g c =
    let own : has_server c.args.server c.self.inside.servers.items ≡ true = ap (λ (s : QueueState g.row.C.Denot). has_server c.args.server s.servers) c.self.view_is ∙ c.requires.own in
    let stays : has_server c.args.server c.self.inside.gone.items ≡ false = ap (λ (s : QueueState g.row.C.Denot). has_server c.args.server s.gone) c.self.view_is ∙ c.requires.left in
    let less = left-less c.args.server c.self.inside.gone.items c.self.inside.servers.items own stays in
    omega (arith, less, c.self.invariant.room)

pub push_reserved-requires : goal.push_reserved-requires
push_reserved-requires g c =
    let own : has_server c.args.server c.self.inside.servers.items ≡ true = ap (λ (s : QueueState g.row.C.Denot). has_server c.args.server s.servers) c.self.view_is ∙ c.requires.own in
    let stays : has_server c.args.server c.self.inside.gone.items ≡ false = ap (λ (s : QueueState g.row.C.Denot). has_server c.args.server s.gone) c.self.view_is ∙ c.requires.left in
    let less = left-less c.args.server c.self.inside.gone.items c.self.inside.servers.items own stays in
    let len = c.self.inside.gone.ok in
    omega (arith, less, len, c.self.invariant.places)

pub invariant_of-self : goal.invariant_of-self
invariant_of-self g c =
    let q : QueueState g.row.C.Denot = standing_of c.self.inside in
    let i = c.self.invariant in
    let server = c.args.server in
    let left : QueueState g.row.C.Denot = with_gone server q in
    let own : has_server server q.servers ≡ true = ap (λ (s : QueueState g.row.C.Denot). has_server server s.servers) c.self.view_is ∙ c.requires.own in
    let stays : has_server server q.gone ≡ false = ap (λ (s : QueueState g.row.C.Denot). has_server server s.gone) c.self.view_is ∙ c.requires.left in
    let entries = c.add.ensures.entries in
    let items = c.push_reserved.ensures.items in
    let less = left-less server q.gone q.servers own stays in
    let fewer = subst (λ gone. length (servers_left gone q.servers) + 1 ≤ length (servers_left q.gone q.servers)) (sym {A = List ServerId} items) less in
    let longer : length c.push_reserved.new.self.items ≡ length q.gone + 1 = ap length items ∙ length-append q.gone (server ∷ []) in
    record {
      reads = subst (λ gone. ReadsAsNoted (record left { entries = c.add.new.self.entries; gone = gone })) (sym {A = List ServerId} items) (subst (λ l. ReadsAsNoted (record left { entries = l })) (sym {A = List Made} entries)
          (reads-noted c.in_ok-stamp.stamp c.args.maker (Gone server) q left (record { id = refl; capacity = refl; servers = refl; first = refl; entries = refl }) i.reads
          (λ setup fits new read. gave_up setup q server i.known own stays fits read)));
      sound = subst (λ gone. IsSound (record left { entries = c.add.new.self.entries; gone = gone })) (sym {A = List ServerId} items)
          (sound-noted c.args.seen c.in_ok-stamp.stamp c.args.maker (Gone server) q left c.self.inside.kept c.add.new.self i.first refl c.in_ok-stamp.ensures entries i.sound
          (record { same = record { id = refl; capacity = refl; servers = refl; first = refl; entries = refl }; few = i.sound.few; deserted = λ down. absurd (not_all_gone server q.gone q.servers own stays (i.sound.deserted down)); own = own-noted q server i.sound own; once = once-noted q server i.sound stays; given_up = refl; shut = refl; fallen = refl }));
      first = i.first ∙ sym c.add.ensures.first;
      known = i.known;
      some = i.some;
      most = i.most;
      servers = i.servers;
      ages = let more = grown c.self.inside.kept.entries c.add.new.self.entries _ entries c.self.inside.line.next i.ages in omega (arith, more);
      takes = let more = grown c.self.inside.kept.entries c.add.new.self.entries _ entries c.self.inside.takes i.takes in omega (arith, more);
      room = omega (arith, fewer, i.room, c.add.ensures.room);
      places = omega (arith, fewer, longer, i.places, c.push_reserved.ensures.capacity);
    }
