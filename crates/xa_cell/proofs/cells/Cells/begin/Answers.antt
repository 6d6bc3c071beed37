use Rattle.std.proofs.Common.{arith, ◌∙◌, ◌≡◌, ◌<◌, ◌≤◌, ◌+◌, ◌∷◌, [], ap, sym, subst, refl, length}
use Rattle.xa_cell.specs.Views.{opening, at}
use Rattle.xa_cell.specs.Changes.{looked, opened}
use Rattle.xa_cell.specs.Places.{Opens}
use Rattle.xa_cell.specs.Rule.{word}
use Rattle.xa_cell.specs.Calls.{after_looks}
use Rattle.xa_cell.proofs.Lists.{none_in}
use Rattle.xa_cell.proofs.Viewed.{looked_at}
use Rattle.xa_cell.proofs.Looking.{looks_caller, looks_beyond, opened_opens}
use Rattle.xa_cell.proofs.Seats.{empty_of, caller_is}
use Rattle.xa_cell.specs.Growing.{Keeps}
use Rattle.xa_cell.proofs.Growing.{keeps_trans, looks_keep, looked_keeps, opened_keeps}
use Rattle.xa_cell.proofs.cells.Cells.begin.Goals as goal

pub invariant_of-seat : goal.invariant_of-seat
invariant_of-seat g c = let s = c.args.seat.now in record {
  empty = empty_of _ (c.find.ensures.seat.1 ∙ ap (λ m. m.1) s.empty);
  caller = caller_is _ _ _ _ _ _ (ap (λ t. t.words) c.find.ensures.seat.0) refl c.find.ensures.caller;
}

pub open-ticket-requires-clause-free : goal.open-ticket-requires-clause-free
open-ticket-requires-clause-free g c = let s = c.args.seat.now in let f = s.first in let n = s.count in let cells = s.inner.table_id.words in let v = s.inner.me.0 in let room = s.caller.room in let d = c.in-Some.ensures.found in let at_ = d.1 in let high = d.2 in let k = c.in-Some.cell in
    let before = looks_caller f n cells f d.0 v s.caller (omega arith) in let here = looked_at f n cells k (after_looks f d.0 v) before (omega arith) 0 in let beyond = looks_beyond f n cells f k d.0 v s.caller (omega arith) (omega arith) in record {
      low = (omega arith);
      high = high;
      shut = ap (λ w. length (at k w).asked) d.4 ∙ (ap (λ p. length p.asked) here ∙ (ap (λ p. length p.asked) beyond ∙ d.5));
      settled = ap (λ w. (at k w).settled) d.4 ∙ ap (λ p. p.settled) here;
      word_is = d.6 ∙ ap (λ m. word m 0 0) (sym (ap (λ w. (at k w).count) d.4 ∙ (ap (λ p. p.count) here ∙ ap (λ p. p.count) beyond)));
    }

pub returns-in-Some-clause-ok : goal.returns-in-Some-clause-ok
returns-in-Some-clause-ok g c = let s = c.args.seat.now in let f = s.first in let n = s.count in let cells = s.inner.table_id.words in let v = s.inner.me.0 in let room = s.caller.room in let d = c.in-Some.ensures.found in let at_ = d.1 in let high = d.2 in let k = c.in-Some.cell in let q = c.args.request in
    let before = looks_caller f n cells f d.0 v s.caller (omega arith) in let here = looked_at f n cells k (after_looks f d.0 v) before (omega arith) 0 in let beyond = looks_beyond f n cells f k d.0 v s.caller (omega arith) (omega arith) in let o = c.open-ticket.ensures in record {
      unspent = d.0;
      cell = at_;
      own = high;
      none_free = d.3;
      view = o.known ∙ ap (opened k q) d.4;
      ticket_cell = o.ticket.of_cell;
      names = o.ticket.names ∙ ap (λ m. opening (m + 1) q ∷ []) (ap (λ w. (at k w).count) d.4 ∙ (ap (λ p. p.count) here ∙ ap (λ p. p.count) beyond));
      table = o.ticket.table;
    }

pub returns-in-Some-clause-open : goal.returns-in-Some-clause-open
returns-in-Some-clause-open g c = let s = c.args.seat.now in let v = s.inner.me.0 in let room = s.caller.room in let d = c.in-Some.ensures.found in let high = d.2 in let k = c.in-Some.cell in let q = c.args.request in
    let opens = subst (Opens k q v) (sym c.open-ticket.ensures.known) (opened_opens s.first s.count s.inner.table_id.words k q c.find.new.seat.me.0 c.find.ensures.caller (omega arith) v c.find.ensures.stand (none_in (at k v).asked d.5)) in
    let one = ap length opens.asked in (omega arith, opens)

pub returns-in-Some-clause-keeps : goal.returns-in-Some-clause-keeps
returns-in-Some-clause-keeps g c = let s = c.args.seat.now in let v = s.inner.me.0 in let d = c.in-Some.ensures.found in let k = c.in-Some.cell in let q = c.args.request in
    let x = after_looks s.first d.0 v in
    subst (Keeps v) (sym (c.open-ticket.ensures.known ∙ ap (opened k q) d.4)) (keeps_trans v x _ (looks_keep s.first d.0 v) (keeps_trans x (looked k 0 x) _ (looked_keeps k 0 x) (opened_keeps k q (looked k 0 x))))

pub returns-in-None-clause-keeps : goal.returns-in-None-clause-keeps
returns-in-None-clause-keeps g c = let s = c.args.seat.now in let v = s.inner.me.0 in let d = c.in-None.ensures.found in subst (Keeps v) (sym d.3) (looks_keep s.first d.0 v)
