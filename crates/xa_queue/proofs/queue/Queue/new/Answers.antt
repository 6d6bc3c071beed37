use Rattle.std.proofs.Common.{◌≡◌, [], List, length, ap, sym, ◌∙◌, subst, arith}
use Rattle.xa_types.specs.declared.ids.ServerId.{ServerId}
use Rattle.xa_lock.specs.Makers.{made_by}
use Rattle.xa_queue.specs.Line.{InLine}
use Rattle.xa_queue.specs.Queue.{QueueState, IsSound}
use Rattle.xa_queue.specs.Reading.{ReadsAsNoted}
use Rattle.xa_queue.specs.Changes.{opened}
use Rattle.xa_queue.specs.Kept.{servers_left}
use Rattle.xa_queue.proofs.Lasting.{left-all}
use Rattle.xa_queue.proofs.Opened.{reads-opened, sound-opened}
use Rattle.xa_queue.proofs.queue.Queue.new.Goals as goal

pub invariant_of-result : goal.invariant_of-result
invariant_of-result g c =
    let line = c.in_ok-line.ensures in
    let waiting = ap (λ (l : InLine g.row.C.Denot). l.waiting) line in
    let none : c.reserve.new.self.entries ≡ [] = c.reserve.ensures.entries ∙ c.in_ok-kept.ensures.entries ∙ ap (made_by (record { 0 = 0 })) c.new.ensures.entries in
    let gone = c.in_ok-gone.ensures.items in
    let empty : QueueState g.row.C.Denot = opened c.args.id c.args.capacity c.in_ok-servers.servers.items c.args.first in
    let all : (gone' : List ServerId) → gone' ≡ [] → length (servers_left gone' c.in_ok-servers.servers.items) ≡ length c.args.servers.now = λ gone' is. ap (λ l. length (servers_left l c.in_ok-servers.servers.items)) is ∙ ap length (left-all c.in_ok-servers.servers.items ∙ c.in_ok-servers.ensures.items) in
    let left = all c.in_ok-gone.gone.items gone in
    let waits : length c.in_ok-line.line.waiting ≡ 0 = ap length waiting in
    let new : (P : QueueState g.row.C.Denot → Type 0) → P empty → P (record empty { entries = c.reserve.new.self.entries; waiting = c.in_ok-line.line.waiting; gone = c.in_ok-gone.gone.items }) =
    λ P holds. subst (λ l. P (record empty { entries = l; waiting = c.in_ok-line.line.waiting; gone = c.in_ok-gone.gone.items })) (sym none) (subst (λ l. P (record empty { waiting = l; gone = c.in_ok-gone.gone.items })) (sym waiting) (subst (λ l. P (record empty { gone = l })) (sym gone) holds)) in
    record {
      reads = new ReadsAsNoted (reads-opened c.args.id c.args.capacity c.in_ok-servers.servers.items c.args.first);
      sound = new IsSound (sound-opened c.args.id c.args.capacity c.in_ok-servers.servers.items c.args.first c.requires.first);
      first = sym (c.reserve.ensures.first ∙ c.in_ok-kept.ensures.first ∙ c.new.ensures.first);
      known = c.requires.id;
      some = omega (arith, c.requires.capacity.0);
      most = c.requires.capacity.1;
      servers = let are = ap length c.in_ok-servers.ensures.items in omega (arith, are, c.requires.servers);
      ages = let next = ap (λ (l : InLine g.row.C.Denot). l.next) line in omega (arith, next);
      takes = omega arith;
      room = omega (arith, left, waits, c.in_ok-reserve.ensures.room);
      places = let nobody : length c.in_ok-gone.gone.items ≡ 0 = ap length gone in omega (arith, left, nobody, c.in_ok-gone.ensures.exact);
    }
