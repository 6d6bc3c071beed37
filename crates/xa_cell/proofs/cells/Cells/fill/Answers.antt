use Rattle.std.proofs.Common.{arith, ◌∙◌, ◌≡◌, ◌<◌, ◌-◌, ◌+◌, ◌%◌, ◌∷◌, [], ap, sym, subst, refl, Some, None}
use Rattle.atomic_table.specs.Table.{rest}
use Rattle.xa_cell.specs.declared.view.Carried.TheVariants.{Answer}
use Rattle.xa_cell.specs.Views.{at}
use Rattle.xa_cell.specs.Places.{Stand}
use Rattle.xa_cell.specs.Rule.{word}
use Rattle.xa_cell.specs.Steps.{placed, delivered, too_late, cleared}
use Rattle.xa_cell.specs.Tokens.{view_of}
use Rattle.xa_cell.proofs.JoinStep.{joins_keep}
use Rattle.xa_cell.proofs.PlaceStep.{places_at}
use Rattle.xa_cell.proofs.FillStep.{fills_at}
use Rattle.xa_cell.proofs.ClearStep.{clears_at}
use Rattle.xa_cell.proofs.Viewed.{filled_caller, filled_stands, dropped_caller, dropped_stands, inside_parts}
use Rattle.xa_cell.proofs.Joining.{ticket_of, armed, armed_at, armed_long, holding, holding_at, holding_long, tardy, tardy_at, tardy_long, joined_me, placed_me, delivered_me, late_me, cleared_me}
use Rattle.xa_cell.proofs.Seats.{empty_of, caller_is, ticket_is, moved_slot, has_slot, slot_found}
use Rattle.xa_cell.specs.Growing.{Keeps, FillsMore}
use Rattle.xa_cell.proofs.Growing.{filled_more, dropped_keeps}
use Rattle.xa_cell.proofs.cells.Cells.fill.Goals as goal

pub join_seat-requires : goal.join_seat-requires
join_seat-requires g c = let e = c.into_seat.ensures in (c.requires.0, e.0 ∙ c.requires.1, e.3, c.args.self.now.some.1, joins_keep _ _ _ _ _)

pub load-word-requires : goal.load-word-requires
load-word-requires g c = let s = c.args.seat.now in let k = c.args.ticket.cell in let v = s.inner.me.0 in let cells = s.inner.table_id.words in let t = view_of c.args.ticket.badge.views in
    let is = ticket_is k k _ cells t t refl (ap (λ z. z.words) (c.requires.0 ∙ sym c.requires.1)) refl c.args.ticket.ticket in let inside = is.inside in let o = ticket_of k cells t is in
    let j = c.join_seat.ensures in let m1 = joined_me s.first s.count cells k v s.caller inside t o.0 is o.1 s.inner.me _ _ j.2 refl (ap (λ m. m.1) s.empty) (ap view_of c.into_seat.ensures.2) in
    let words = ap (λ z. z.words) c.requires.0 in let sized = c.args.self.now.sized.0 in let one = s.caller.one in
    let here = armed_at s.first s.count cells k v s.caller inside o.0 in
    (j.0 ∙ c.requires.0, omega arith, places_at _ _ _ k _ (armed k o.0 v) o.0 [] m1 (omega arith) (armed_long s.first s.count cells k v s.caller inside o.0) (omega arith) (ap (λ p. p.tickets) here) (ap (λ p. p.filling) here ∙ (s.caller.calm k).filling))

pub compare_exchange-found-requires : goal.compare_exchange-found-requires
compare_exchange-found-requires g c = let s = c.args.seat.now in let k = c.args.ticket.cell in let v = s.inner.me.0 in let cells = s.inner.table_id.words in let t = view_of c.args.ticket.badge.views in
    let is = ticket_is k k _ cells t t refl (ap (λ z. z.words) (c.requires.0 ∙ sym c.requires.1)) refl c.args.ticket.ticket in let inside = is.inside in let o = ticket_of k cells t is in
    let j = c.join_seat.ensures in let m1 = joined_me s.first s.count cells k v s.caller inside t o.0 is o.1 s.inner.me _ _ j.2 refl (ap (λ m. m.1) s.empty) (ap view_of c.into_seat.ensures.2) in
    let words = ap (λ z. z.words) c.requires.0 in let sized = c.args.self.now.sized.0 in let one = s.caller.one in
    let l = c.load-word.ensures in let m2 = placed_me s.first s.count cells k v s.caller inside o.0 _ _ l.2.0 m1 in
    let a = c.args.answer in let m3 = moved_slot _ _ (holding k o.0 v) k None (Some (Answer a)) [] m2 refl c.exchange.ensures.3 in let here = holding_at s.first s.count cells k v s.caller inside o.0 in
    let before = armed_at s.first s.count cells k v s.caller inside o.0 in let w = l.2.1 o.0 (ap (λ m. (at k m.0).tickets) m1 ∙ ap (λ p. p.tickets) before) in let open_ = w.0 in let small = w.1 in let found = w.2 in
    let p = c.with_state-pending.ensures in let q = c.with_state-filled.ensures in
    (c.exchange.ensures.0 ∙ (l.0 ∙ (j.0 ∙ c.requires.0)), omega arith, fills_at _ _ _ k _ (holding k o.0 v) o.0 a _ _ m3 (omega arith) (holding_long s.first s.count cells k v s.caller inside o.0) (omega arith) (omega arith) (omega arith) (ap (λ p. p.tickets) here) (ap (λ p. p.filling) here))

pub invariant_of-seat : goal.invariant_of-seat
invariant_of-seat g c = let s = c.args.seat.now in let k = c.args.ticket.cell in let v = s.inner.me.0 in let cells = s.inner.table_id.words in let t = view_of c.args.ticket.badge.views in
    let is = ticket_is k k _ cells t t refl (ap (λ z. z.words) (c.requires.0 ∙ sym c.requires.1)) refl c.args.ticket.ticket in let inside = is.inside in let o = ticket_of k cells t is in
    let j = c.join_seat.ensures in let m1 = joined_me s.first s.count cells k v s.caller inside t o.0 is o.1 s.inner.me _ _ j.2 refl (ap (λ m. m.1) s.empty) (ap view_of c.into_seat.ensures.2) in
    let l = c.load-word.ensures in let m2 = placed_me s.first s.count cells k v s.caller inside o.0 _ _ l.2.0 m1 in
    let a = c.args.answer in let m3 = moved_slot _ _ (holding k o.0 v) k None (Some (Answer a)) [] m2 refl c.exchange.ensures.3 in let here = holding_at s.first s.count cells k v s.caller inside o.0 in
    let x = c.compare_exchange-found.ensures in let y = x.2 o.0 a (ap (λ m. (at k m.0).tickets) m3 ∙ ap (λ p. p.tickets) here) (ap (λ m. m.1) m3) in
    let m4 = delivered_me s.first s.count cells k v s.caller inside o.0 a _ _ _ (y.0 c.if-is_first.true) m3 in
    record {
      empty = empty_of _ (ap (λ m. m.1) m4);
      caller = caller_is _ _ _ _ _ _ (ap (λ z. z.words) (x.0 ∙ (c.exchange.ensures.0 ∙ (l.0 ∙ j.0)))) (ap (λ m. m.0) m4) (filled_caller s.first s.count cells k v s.caller inside o.0 a);
    }

pub returns-then-is_first-clause-known : goal.returns-then-is_first-clause-known
returns-then-is_first-clause-known g c = let s = c.args.seat.now in let k = c.args.ticket.cell in let v = s.inner.me.0 in let cells = s.inner.table_id.words in let t = view_of c.args.ticket.badge.views in
    let is = ticket_is k k _ cells t t refl (ap (λ z. z.words) (c.requires.0 ∙ sym c.requires.1)) refl c.args.ticket.ticket in let inside = is.inside in let o = ticket_of k cells t is in
    let j = c.join_seat.ensures in let m1 = joined_me s.first s.count cells k v s.caller inside t o.0 is o.1 s.inner.me _ _ j.2 refl (ap (λ m. m.1) s.empty) (ap view_of c.into_seat.ensures.2) in
    let l = c.load-word.ensures in let m2 = placed_me s.first s.count cells k v s.caller inside o.0 _ _ l.2.0 m1 in
    let a = c.args.answer in let m3 = moved_slot _ _ (holding k o.0 v) k None (Some (Answer a)) [] m2 refl c.exchange.ensures.3 in let here = holding_at s.first s.count cells k v s.caller inside o.0 in
    let x = c.compare_exchange-found.ensures in let y = x.2 o.0 a (ap (λ m. (at k m.0).tickets) m3 ∙ ap (λ p. p.tickets) here) (ap (λ m. m.1) m3) in
    let m4 = delivered_me s.first s.count cells k v s.caller inside o.0 a _ _ _ (y.0 c.if-is_first.true) m3 in
    (o.0, o.1, ap (λ m. m.0) m4)

pub returns-then-is_first-clause-open : goal.returns-then-is_first-clause-open
returns-then-is_first-clause-open g c = let s = c.args.seat.now in let k = c.args.ticket.cell in let v = s.inner.me.0 in let cells = s.inner.table_id.words in let t = view_of c.args.ticket.badge.views in
    let is = ticket_is k k _ cells t t refl (ap (λ z. z.words) (c.requires.0 ∙ sym c.requires.1)) refl c.args.ticket.ticket in let inside = is.inside in let o = ticket_of k cells t is in
    let j = c.join_seat.ensures in let m1 = joined_me s.first s.count cells k v s.caller inside t o.0 is o.1 s.inner.me _ _ j.2 refl (ap (λ m. m.1) s.empty) (ap view_of c.into_seat.ensures.2) in
    let l = c.load-word.ensures in let m2 = placed_me s.first s.count cells k v s.caller inside o.0 _ _ l.2.0 m1 in
    let a = c.args.answer in let m3 = moved_slot _ _ (holding k o.0 v) k None (Some (Answer a)) [] m2 refl c.exchange.ensures.3 in let here = holding_at s.first s.count cells k v s.caller inside o.0 in
    let x = c.compare_exchange-found.ensures in let y = x.2 o.0 a (ap (λ m. (at k m.0).tickets) m3 ∙ ap (λ p. p.tickets) here) (ap (λ m. m.1) m3) in
    let m4 = delivered_me s.first s.count cells k v s.caller inside o.0 a _ _ _ (y.0 c.if-is_first.true) m3 in
    subst (Stand v) (sym (ap (λ m. m.0) m4)) (filled_stands s.first s.count cells k v s.caller inside o.0 a)

pub exchange-back-requires : goal.exchange-back-requires
exchange-back-requires g c = let s = c.args.seat.now in let k = c.args.ticket.cell in let v = s.inner.me.0 in let cells = s.inner.table_id.words in let t = view_of c.args.ticket.badge.views in
    let is = ticket_is k k _ cells t t refl (ap (λ z. z.words) (c.requires.0 ∙ sym c.requires.1)) refl c.args.ticket.ticket in let inside = is.inside in let o = ticket_of k cells t is in
    let j = c.join_seat.ensures in let m1 = joined_me s.first s.count cells k v s.caller inside t o.0 is o.1 s.inner.me _ _ j.2 refl (ap (λ m. m.1) s.empty) (ap view_of c.into_seat.ensures.2) in
    let l = c.load-word.ensures in let m2 = placed_me s.first s.count cells k v s.caller inside o.0 _ _ l.2.0 m1 in
    let a = c.args.answer in let m3 = moved_slot _ _ (holding k o.0 v) k None (Some (Answer a)) [] m2 refl c.exchange.ensures.3 in let here = holding_at s.first s.count cells k v s.caller inside o.0 in
    let x = c.compare_exchange-found.ensures in let y = x.2 o.0 a (ap (λ m. (at k m.0).tickets) m3 ∙ ap (λ p. p.tickets) here) (ap (λ m. m.1) m3) in
    let l4 = late_me s.first s.count cells k v s.caller inside o.0 _ _ _ (y.1 c.if-is_first.false) m3 in
    (x.0 ∙ (c.exchange.ensures.0 ∙ (l.0 ∙ (j.0 ∙ c.requires.0))), has_slot _ _ k (Some (Answer a)) [] l4)

pub fetch_sub-requires : goal.fetch_sub-requires
fetch_sub-requires g c = let s = c.args.seat.now in let k = c.args.ticket.cell in let v = s.inner.me.0 in let cells = s.inner.table_id.words in let t = view_of c.args.ticket.badge.views in
    let is = ticket_is k k _ cells t t refl (ap (λ z. z.words) (c.requires.0 ∙ sym c.requires.1)) refl c.args.ticket.ticket in let inside = is.inside in let o = ticket_of k cells t is in
    let j = c.join_seat.ensures in let m1 = joined_me s.first s.count cells k v s.caller inside t o.0 is o.1 s.inner.me _ _ j.2 refl (ap (λ m. m.1) s.empty) (ap view_of c.into_seat.ensures.2) in
    let words = ap (λ z. z.words) c.requires.0 in let sized = c.args.self.now.sized.0 in let one = s.caller.one in
    let l = c.load-word.ensures in let m2 = placed_me s.first s.count cells k v s.caller inside o.0 _ _ l.2.0 m1 in
    let a = c.args.answer in let m3 = moved_slot _ _ (holding k o.0 v) k None (Some (Answer a)) [] m2 refl c.exchange.ensures.3 in let here = holding_at s.first s.count cells k v s.caller inside o.0 in
    let x = c.compare_exchange-found.ensures in let y = x.2 o.0 a (ap (λ m. (at k m.0).tickets) m3 ∙ ap (λ p. p.tickets) here) (ap (λ m. m.1) m3) in
    let l4 = late_me s.first s.count cells k v s.caller inside o.0 _ _ _ (y.1 c.if-is_first.false) m3 in
    let l5 = moved_slot _ _ (tardy k o.0 v) k (Some (Answer a)) None [] l4 refl c.exchange-back.ensures.3 in let late = tardy_at s.first s.count cells k v s.caller inside o.0 in
    (c.exchange-back.ensures.0 ∙ (x.0 ∙ (c.exchange.ensures.0 ∙ (l.0 ∙ (j.0 ∙ c.requires.0)))), omega arith, clears_at _ _ _ k _ (tardy k o.0 v) o.0 l5 (omega arith) (tardy_long s.first s.count cells k v s.caller inside o.0) (ap (λ p. p.tickets) late) (ap (λ p. p.late) late))

pub invariant_of-seat-2 : goal.invariant_of-seat-2
invariant_of-seat-2 g c = let s = c.args.seat.now in let k = c.args.ticket.cell in let v = s.inner.me.0 in let cells = s.inner.table_id.words in let t = view_of c.args.ticket.badge.views in
    let is = ticket_is k k _ cells t t refl (ap (λ z. z.words) (c.requires.0 ∙ sym c.requires.1)) refl c.args.ticket.ticket in let inside = is.inside in let o = ticket_of k cells t is in
    let j = c.join_seat.ensures in let m1 = joined_me s.first s.count cells k v s.caller inside t o.0 is o.1 s.inner.me _ _ j.2 refl (ap (λ m. m.1) s.empty) (ap view_of c.into_seat.ensures.2) in
    let l = c.load-word.ensures in let m2 = placed_me s.first s.count cells k v s.caller inside o.0 _ _ l.2.0 m1 in
    let a = c.args.answer in let m3 = moved_slot _ _ (holding k o.0 v) k None (Some (Answer a)) [] m2 refl c.exchange.ensures.3 in let here = holding_at s.first s.count cells k v s.caller inside o.0 in
    let x = c.compare_exchange-found.ensures in let y = x.2 o.0 a (ap (λ m. (at k m.0).tickets) m3 ∙ ap (λ p. p.tickets) here) (ap (λ m. m.1) m3) in
    let l4 = late_me s.first s.count cells k v s.caller inside o.0 _ _ _ (y.1 c.if-is_first.false) m3 in
    let l5 = moved_slot _ _ (tardy k o.0 v) k (Some (Answer a)) None [] l4 refl c.exchange-back.ensures.3 in let late = tardy_at s.first s.count cells k v s.caller inside o.0 in
    let z = c.fetch_sub.ensures in let l6 = cleared_me s.first s.count cells k v s.caller inside o.0 _ _ _ (z.2 o.0 (ap (λ m. (at k m.0).tickets) l5 ∙ ap (λ p. p.tickets) late)) l5 in
    record {
      empty = empty_of _ (ap (λ m. m.1) l6);
      caller = caller_is _ _ _ _ _ _ (ap (λ z. z.words) (z.0 ∙ (c.exchange-back.ensures.0 ∙ (x.0 ∙ (c.exchange.ensures.0 ∙ (l.0 ∙ j.0)))))) (ap (λ m. m.0) l6) (dropped_caller s.first s.count cells k v s.caller inside o.0);
    }

pub answer_in-requires : goal.answer_in-requires
answer_in-requires g c = let s = c.args.seat.now in let k = c.args.ticket.cell in let v = s.inner.me.0 in let cells = s.inner.table_id.words in let t = view_of c.args.ticket.badge.views in
    let is = ticket_is k k _ cells t t refl (ap (λ z. z.words) (c.requires.0 ∙ sym c.requires.1)) refl c.args.ticket.ticket in let inside = is.inside in let o = ticket_of k cells t is in
    let j = c.join_seat.ensures in let m1 = joined_me s.first s.count cells k v s.caller inside t o.0 is o.1 s.inner.me _ _ j.2 refl (ap (λ m. m.1) s.empty) (ap view_of c.into_seat.ensures.2) in
    let l = c.load-word.ensures in let m2 = placed_me s.first s.count cells k v s.caller inside o.0 _ _ l.2.0 m1 in
    let a = c.args.answer in let m3 = moved_slot _ _ (holding k o.0 v) k None (Some (Answer a)) [] m2 refl c.exchange.ensures.3 in let here = holding_at s.first s.count cells k v s.caller inside o.0 in
    let x = c.compare_exchange-found.ensures in let y = x.2 o.0 a (ap (λ m. (at k m.0).tickets) m3 ∙ ap (λ p. p.tickets) here) (ap (λ m. m.1) m3) in
    let l4 = late_me s.first s.count cells k v s.caller inside o.0 _ _ _ (y.1 c.if-is_first.false) m3 in
    (a, sym (slot_found _ _ _ _ _ _ (ap (λ m. m.1) l4) c.exchange-back.ensures.2))

pub returns-clause-known : goal.returns-clause-known
returns-clause-known g c = let s = c.args.seat.now in let k = c.args.ticket.cell in let v = s.inner.me.0 in let cells = s.inner.table_id.words in let t = view_of c.args.ticket.badge.views in
    let is = ticket_is k k _ cells t t refl (ap (λ z. z.words) (c.requires.0 ∙ sym c.requires.1)) refl c.args.ticket.ticket in let inside = is.inside in let o = ticket_of k cells t is in
    let j = c.join_seat.ensures in let m1 = joined_me s.first s.count cells k v s.caller inside t o.0 is o.1 s.inner.me _ _ j.2 refl (ap (λ m. m.1) s.empty) (ap view_of c.into_seat.ensures.2) in
    let l = c.load-word.ensures in let m2 = placed_me s.first s.count cells k v s.caller inside o.0 _ _ l.2.0 m1 in
    let a = c.args.answer in let m3 = moved_slot _ _ (holding k o.0 v) k None (Some (Answer a)) [] m2 refl c.exchange.ensures.3 in let here = holding_at s.first s.count cells k v s.caller inside o.0 in
    let x = c.compare_exchange-found.ensures in let y = x.2 o.0 a (ap (λ m. (at k m.0).tickets) m3 ∙ ap (λ p. p.tickets) here) (ap (λ m. m.1) m3) in
    let l4 = late_me s.first s.count cells k v s.caller inside o.0 _ _ _ (y.1 c.if-is_first.false) m3 in
    let l5 = moved_slot _ _ (tardy k o.0 v) k (Some (Answer a)) None [] l4 refl c.exchange-back.ensures.3 in let late = tardy_at s.first s.count cells k v s.caller inside o.0 in
    let z = c.fetch_sub.ensures in let l6 = cleared_me s.first s.count cells k v s.caller inside o.0 _ _ _ (z.2 o.0 (ap (λ m. (at k m.0).tickets) l5 ∙ ap (λ p. p.tickets) late)) l5 in
    let found = slot_found _ _ _ _ _ _ (ap (λ m. m.1) l4) c.exchange-back.ensures.2 in let same : c.answer_in.result ≡ a = cc (found, c.answer_in.ensures) in
    (o.0, o.1, (same, ap (λ m. m.0) l6))

pub returns-clause-open : goal.returns-clause-open
returns-clause-open g c = let s = c.args.seat.now in let k = c.args.ticket.cell in let v = s.inner.me.0 in let cells = s.inner.table_id.words in let t = view_of c.args.ticket.badge.views in
    let is = ticket_is k k _ cells t t refl (ap (λ z. z.words) (c.requires.0 ∙ sym c.requires.1)) refl c.args.ticket.ticket in let inside = is.inside in let o = ticket_of k cells t is in
    let j = c.join_seat.ensures in let m1 = joined_me s.first s.count cells k v s.caller inside t o.0 is o.1 s.inner.me _ _ j.2 refl (ap (λ m. m.1) s.empty) (ap view_of c.into_seat.ensures.2) in
    let l = c.load-word.ensures in let m2 = placed_me s.first s.count cells k v s.caller inside o.0 _ _ l.2.0 m1 in
    let a = c.args.answer in let m3 = moved_slot _ _ (holding k o.0 v) k None (Some (Answer a)) [] m2 refl c.exchange.ensures.3 in let here = holding_at s.first s.count cells k v s.caller inside o.0 in
    let x = c.compare_exchange-found.ensures in let y = x.2 o.0 a (ap (λ m. (at k m.0).tickets) m3 ∙ ap (λ p. p.tickets) here) (ap (λ m. m.1) m3) in
    let l4 = late_me s.first s.count cells k v s.caller inside o.0 _ _ _ (y.1 c.if-is_first.false) m3 in
    let l5 = moved_slot _ _ (tardy k o.0 v) k (Some (Answer a)) None [] l4 refl c.exchange-back.ensures.3 in let late = tardy_at s.first s.count cells k v s.caller inside o.0 in
    let z = c.fetch_sub.ensures in let l6 = cleared_me s.first s.count cells k v s.caller inside o.0 _ _ _ (z.2 o.0 (ap (λ m. (at k m.0).tickets) l5 ∙ ap (λ p. p.tickets) late)) l5 in
    subst (Stand v) (sym (ap (λ m. m.0) l6)) (dropped_stands s.first s.count cells k v s.caller inside o.0)

pub returns-then-is_first-clause-more : goal.returns-then-is_first-clause-more
returns-then-is_first-clause-more g c = let s = c.args.seat.now in let k = c.args.ticket.cell in let v = s.inner.me.0 in let cells = s.inner.table_id.words in let t = view_of c.args.ticket.badge.views in
    let is = ticket_is k k _ cells t t refl (ap (λ z. z.words) (c.requires.0 ∙ sym c.requires.1)) refl c.args.ticket.ticket in let h = returns-then-is_first-clause-known g c in
    (h.0, h.1, subst (FillsMore k h.0 c.args.answer v) (sym h.2) (filled_more k h.0 c.args.answer v (inside_parts s.first s.count cells k v s.caller is.inside)))

pub returns-clause-more : goal.returns-clause-more
returns-clause-more g c = let k = c.args.ticket.cell in let v = c.args.seat.now.inner.me.0 in let h = returns-clause-known g c in subst (Keeps v) (sym h.2.1) (dropped_keeps k h.0 v)
