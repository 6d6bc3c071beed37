use Rattle.std.proofs.Common.{◌≡◌, ◌∷◌, [], length, reverse, sym, ◌∙◌, ap, subst, arith, length-append}
use Rattle.std.proofs.lemmas.List.{reverse-append, length-reverse}
use Rattle.xa_client_worker.specs.xa_events.Words.{EachNumbered}
use Rattle.xa_client_worker.specs.declared.working.ClientWorker.TheVariants.{Ready}
use Rattle.xa_boot.specs.Booting.{IsNewClient}
use Rattle.xa_boot.proofs.Hired.{new_client}
use Rattle.xa_boot.proofs.hiring.hire_clients.Goals as goal

pub loop-preserved : goal.loop-preserved
loop-preserved c =
    let d = c.args.domain.now in
    let inv = c.loop.invariant in
    let total = inv.left in
    let seats = c.desk.ensures in
    let left = seats.left in
    let less = c.loop-test.true in
    let items = c.push_reserved.ensures.items in
    let longer = ap length items in
    let more = length-append c.loop.clients.items (Ready c.desk.result ∷ []) in
    let count = inv.count in
    let room = inv.room in
    let capacity = c.push_reserved.ensures.capacity in
    let turned : reverse c.push_reserved.new.self.items ≡ Ready c.desk.result ∷ reverse c.loop.clients.items = ap reverse items ∙ reverse-append c.loop.clients.items (Ready c.desk.result ∷ []) in
    let new = new_client d c.desk.new.self.left c.desk.result (omega (arith, total, left, less)) (omega (arith, total, left)) seats.desk_is in
    record {
      left = omega (arith, total, left);
      full = seats.full;
      staff = seats.staff;
      own = seats.own ∙ inv.own;
      count = omega (arith, longer, more, count);
      each = subst (EachNumbered (IsNewClient d) c.desk.new.self.left) (sym turned) (new, subst (λ n. EachNumbered (IsNewClient d) n (reverse c.loop.clients.items)) (sym left) inv.each);
      room = omega (arith, room, capacity);
    }

pub returns : goal.returns
returns c =
    let d = c.args.domain.now in
    let inv = c.loop.invariant in
    let total = inv.left in
    let count = inv.count in
    let last = c.loop.auto.counter-end in
    let all = c.loop-test.false in
    let number : c.loop.staff.left ≡ 1 = omega (arith, total, last, all) in
    let items = c.reverse.ensures.items in
    let turned = length-reverse c.loop.clients.items in
    let same = ap length items in
    record {
      left = record { number = number; full = inv.full; staff = inv.staff };
      own = inv.own;
      clients = record {
        count = omega (arith, same, turned, count, last, all);
        each = subst (EachNumbered (IsNewClient d) 1) (sym items) (subst (λ n. EachNumbered (IsNewClient d) n (reverse c.loop.clients.items)) number inv.each);
      };
    }
