use Rattle.std.proofs.Common.{◌≡◌, ◌+◌, ◌<◌, ◌^◌, ◌∷◌, ◌++◌, [], None, List, length, refl, ap, sym, ◌∙◌, subst, arith, length-append}
use Rattle.xa_lock.specs.declared.makers.Made.{Made}
use Rattle.xa_queue.specs.declared.entry.Entry.{Entry}
use Rattle.xa_queue.specs.Line.{InLine}
use Rattle.xa_queue.specs.Queue.{QueueState}
use Rattle.xa_queue.specs.Reading.{ReadsAsNoted}
use Rattle.xa_queue.specs.Changes.{IsEntry, larger, next_stamp, put_refused, with_entry}
use Rattle.xa_queue.specs.Kept.{standing_of}
use Rattle.xa_queue.proofs.OneMore.{reads-noted}
use Rattle.xa_queue.proofs.Entering.{IsOpen, entered, is_open}
use Rattle.xa_queue.proofs.Lasting.{sound-noted, quiet, ends-nothing, next-noted, grown, few_left, one_most, on_ok}
use Rattle.xa_queue.proofs.queue.Queue.put.Goals as goal

pub add-requires-clause-later : goal.add-requires-clause-later
add-requires-clause-later g c =
    let q : QueueState g.row.C.Denot = standing_of c.self.inside in
    let fresh = subst (λ (s : QueueState g.row.C.Denot). (larger c.args.seen s < 2 ^ 63) × (c.in-Ok.stamp ≡ next_stamp c.args.seen s)) (sym c.self.view_is) c.in-Ok.ensures.stamp in
    let stamp = next-noted c.args.seen c.in-Ok.stamp q c.reserve.new.self (c.self.invariant.first ∙ sym c.reserve.ensures.first) c.reserve.ensures.entries fresh in
    omega (arith, stamp.0)

pub invariant_of-self-2 : goal.invariant_of-self-2
invariant_of-self-2 g c =
    let q : QueueState g.row.C.Denot = standing_of c.self.inside in
    let i = c.self.invariant in
    let entry = c.args.entry in
    let left : QueueState g.row.C.Denot = with_entry entry q in
    let allowed : put_refused c.args.seen q ≡ None = ap (λ (s : QueueState g.row.C.Denot). put_refused c.args.seen s) c.self.view_is ∙ c.in-Ok.ensures.allowed in
    let its : IsEntry q.id entry c.args.event = subst (λ (s : QueueState g.row.C.Denot). IsEntry s.id entry c.args.event) (sym c.self.view_is) c.requires.event in
    let free : IsOpen q = is_open c.args.seen q i.sound.few allowed in
    let pushed = c.in_default.ensures.pushed in
    let waiting = ap (λ (line : InLine g.row.C.Denot). line.waiting) pushed in
    let fresh = subst (λ (s : QueueState g.row.C.Denot). (larger c.args.seen s < 2 ^ 63) × (c.in-Ok.stamp ≡ next_stamp c.args.seen s)) (sym c.self.view_is) c.in-Ok.ensures.stamp in
    let stamp = next-noted c.args.seen c.in-Ok.stamp q c.reserve.new.self (i.first ∙ sym c.reserve.ensures.first) c.reserve.ensures.entries fresh in
    let added = c.add.ensures.entries in
    let entries = added ∙ ap (λ (l : List Made). l ++ record { maker = c.args.maker; noted = record { stamp = c.in-Ok.stamp; event = c.args.event } } ∷ []) c.reserve.ensures.entries in
    let more : length c.push.new.self.waiting ≡ length q.waiting + 1 = ap length waiting ∙ length-append q.waiting (entry ∷ []) in
    let reserved = on_ok c.reserve.result (sym c.is_err.ensures.value ∙ c.if-is_err.false) c.reserve.ensures.room in
    let next = ap (λ (line : InLine g.row.C.Denot). line.next) pushed in
    let age = c.entries.ensures.count in
    record {
      reads = subst (λ w. ReadsAsNoted (record left { entries = c.add.new.self.entries; waiting = w })) (sym {A = List (Entry g.row.C.Denot)} waiting) (subst (λ l. ReadsAsNoted (record left { entries = l })) (sym {A = List Made} entries)
          (reads-noted c.in-Ok.stamp c.args.maker c.args.event q left (record { id = refl; capacity = refl; servers = refl; first = refl; entries = refl }) i.reads
          (λ setup fits new read. entered setup q c.args.event entry its fits free new read)));
      sound =
          let nothing = ends-nothing q.id entry c.args.event its in
          sound-noted c.args.seen c.in-Ok.stamp c.args.maker c.args.event q (record q { waiting = c.push.new.self.waiting }) c.reserve.new.self c.add.new.self (i.first ∙ sym c.reserve.ensures.first) c.reserve.ensures.entries stamp added i.sound
          (quiet c.args.event q c.push.new.self.waiting q.takes nothing.0 nothing.1 nothing.2 (omega (arith, more, free.room)) i.sound);
      first = i.first ∙ sym (c.add.ensures.first ∙ c.reserve.ensures.first);
      known = i.known;
      some = i.some;
      most = i.most;
      servers = i.servers;
      ages = let grows = grown c.self.inside.kept.entries c.add.new.self.entries _ entries (length c.self.inside.kept.entries) (omega arith) in omega (arith, grows, next, age);
      takes = let grows = grown c.self.inside.kept.entries c.add.new.self.entries _ entries c.self.inside.takes i.takes in omega (arith, grows);
      room =
          let lines = c.len.ensures in
          let some = few_left c.self.inside.gone.items c.self.inside.servers.items in
          let servers = c.self.inside.servers.ok in
          let down = one_most c.self.inside.down in
          let shut = one_most c.self.inside.closed in
          omega (arith, more, reserved, lines, some, servers, down, shut, c.add.ensures.room);
      places = i.places;
    }
