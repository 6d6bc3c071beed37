use Rattle.std.proofs.Common.{arith, ◌∙◌, ◌≡◌, ◌<◌, ◌∷◌, ap, sym, subst, refl, []}
use Rattle.xa_cell.specs.Views.{at}
use Rattle.xa_cell.specs.Tokens.{view_of, only_tickets, without_tickets}
use Rattle.xa_cell.proofs.OpenStep.{opens_keep}
use Rattle.xa_cell.proofs.SplitStep.{tickets_split_at}
use Rattle.xa_cell.proofs.Viewed.{opened_caller}
use Rattle.xa_cell.proofs.Looking.{begun_idle, begun_left, begun_names, begun_ticket}
use Rattle.xa_cell.proofs.Seats.{empty_of, caller_is, ticket_is}
use Rattle.xa_cell.proofs.cells.Cells.open.Goals as goal

pub compare_exchange_with-requires : goal.compare_exchange_with-requires
compare_exchange_with-requires g c = let s = c.args.seat.now in let k = c.args.cell in let f = c.requires.free in let high = f.high in let room = s.caller.room in let wide = s.caller.wide in let is = f.word_is in
    let words = ap (λ t. t.words) c.requires.table in let sized = c.args.self.now.sized.0 in
    (c.requires.table, omega arith, opens_keep _ _ _ k s.inner.me.0 s.inner.me.1 _ _ _ (omega arith) (omega arith) is (omega arith) (s.caller.own k f.low high) f.shut f.settled)

pub split_seat-requires : goal.split_seat-requires
split_seat-requires g c = let s = c.args.seat.now in let k = c.args.cell in let q = c.args.request in let f = c.requires.free in let high = f.high in let room = s.caller.room in let one = s.caller.one in
    let e = c.compare_exchange_with.ensures in let m = e.2.1 q refl in
    (e.0 ∙ c.requires.table, c.args.self.now.some.1, tickets_split_at _ _ _ _ (ap (λ z. z.0) m) (omega arith) (begun_idle s.first s.count s.inner.table_id.words k q s.inner.me.0 s.caller (omega arith)))

pub invariant_of-seat : goal.invariant_of-seat
invariant_of-seat g c = let s = c.args.seat.now in let k = c.args.cell in let q = c.args.request in let f = c.requires.free in let high = f.high in let room = s.caller.room in let cells = s.inner.table_id.words in let inside : k < cells = omega arith in
    let e = c.compare_exchange_with.ensures in let m = e.2.1 q refl in let x = c.split_seat.ensures in record {
      empty = empty_of _ (ap (λ z. z.1) x.2 ∙ (ap (λ z. z.1) m ∙ ap (λ z. z.1) s.empty));
      caller = caller_is _ _ _ _ _ _ (ap (λ t. t.words) (x.0 ∙ e.0)) (ap (λ z. z.0) x.2 ∙ (ap (λ z. without_tickets z.0) m ∙ begun_left s.first s.count cells k q s.inner.me.0 s.caller inside)) (opened_caller s.first s.count cells k s.inner.me.0 s.caller inside q f.low high);
    }

pub invariant_of-result : goal.invariant_of-result
invariant_of-result g c = let s = c.args.seat.now in let k = c.args.cell in let q = c.args.request in let f = c.requires.free in let high = f.high in let room = s.caller.room in let cells = s.inner.table_id.words in let inside : k < cells = omega arith in
    let e = c.compare_exchange_with.ensures in let m = e.2.1 q refl in let x = c.split_seat.ensures in let b = c.into_badge-badge.ensures in
    let is = ap view_of b.2 ∙ (ap (λ z. z.0) x.4 ∙ ap (λ z. only_tickets z.0) m) in record {
      one = b.2 ∙ ap (λ v. v ∷ []) (sym (ap view_of b.2));
      ticket = ticket_is k k cells _ _ _ refl (ap (λ t. t.words) (b.0 ∙ (x.3 ∙ e.0))) is (begun_ticket s.first s.count cells k q s.inner.me.0 s.caller inside);
    }

pub returns-clause-known : goal.returns-clause-known
returns-clause-known g c = let s = c.args.seat.now in let k = c.args.cell in let q = c.args.request in let f = c.requires.free in let high = f.high in let room = s.caller.room in
    let m = c.compare_exchange_with.ensures.2.1 q refl in
    ap (λ z. z.0) c.split_seat.ensures.2 ∙ (ap (λ z. without_tickets z.0) m ∙ begun_left s.first s.count s.inner.table_id.words k q s.inner.me.0 s.caller (omega arith))

pub returns-clause-ticket : goal.returns-clause-ticket
returns-clause-ticket g c = let s = c.args.seat.now in let k = c.args.cell in let q = c.args.request in let f = c.requires.free in let high = f.high in let room = s.caller.room in
    let e = c.compare_exchange_with.ensures in let m = e.2.1 q refl in let x = c.split_seat.ensures in let b = c.into_badge-badge.ensures in
    let is = ap view_of b.2 ∙ (ap (λ z. z.0) x.4 ∙ ap (λ z. only_tickets z.0) m) in record {
      table = b.0 ∙ (x.3 ∙ (e.0 ∙ c.requires.table));
      of_cell = refl;
      names = ap (λ w. (at k w).tickets) is ∙ begun_names s.first s.count s.inner.table_id.words k q s.inner.me.0 s.caller (omega arith);
    }
