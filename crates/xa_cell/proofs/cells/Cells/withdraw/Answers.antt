use Rattle.std.proofs.Common.{arith, ◌∙◌, ◌≡◌, ◌<◌, ap, sym, subst, refl, length}
use Rattle.xa_cell.specs.Views.{at}
use Rattle.xa_cell.specs.Places.{Shuts}
use Rattle.xa_cell.specs.Joined.{both}
use Rattle.xa_cell.specs.Steps.{withdrew}
use Rattle.xa_cell.specs.Tokens.{view_of}
use Rattle.xa_cell.proofs.JoinStep.{joins_keep}
use Rattle.xa_cell.proofs.FreeStep.{withdraws_at}
use Rattle.xa_cell.proofs.Viewed.{withdrawn_caller, withdrawn_shuts}
use Rattle.xa_cell.proofs.Joining.{ticket_of, armed, armed_at, armed_long, joined_me, withdrew_is}
use Rattle.xa_cell.proofs.Seats.{empty_of, caller_is, ticket_is}
use Rattle.xa_cell.specs.Growing.{Keeps}
use Rattle.xa_cell.proofs.Growing.{withdrawn_keeps}
use Rattle.xa_cell.proofs.cells.Cells.withdraw.Goals as goal

pub join_seat-requires : goal.join_seat-requires
join_seat-requires g c = let e = c.into_seat.ensures in (c.requires.table.0, e.0 ∙ c.requires.table.1, e.3, c.args.self.now.some.1, joins_keep _ _ _ _ _)

pub fetch_sub-requires : goal.fetch_sub-requires
fetch_sub-requires g c = let s = c.args.seat.now in let k = c.args.place.cell in let v = s.inner.me.0 in let open_ = c.requires.place.0 in let range = s.caller.mine k open_ in let high = range.1 in let room = s.caller.room in let few = s.caller.few k in let cells = s.inner.table_id.words in let inside : k < cells = omega arith in
    let words = ap (λ t. t.words) c.requires.table.0 in let sized = c.args.self.now.sized.0 in let t = view_of c.args.ticket.badge.views in
    let is = ticket_is _ k _ cells t t (sym c.requires.place.1) (ap (λ z. z.words) (c.requires.table.0 ∙ sym c.requires.table.1)) refl c.args.ticket.ticket in let o = ticket_of k cells t is in
    let j = c.join_seat.ensures in let now = joined_me s.first s.count cells k v s.caller inside t o.0 is o.1 s.inner.me _ _ j.2 refl (ap (λ m. m.1) s.empty) (ap view_of c.into_seat.ensures.2) in let here = armed_at s.first s.count cells k v s.caller inside o.0 in
    (j.0 ∙ c.requires.table.0, omega arith, withdraws_at _ _ _ k _ (armed k o.0 v) o.0 _ now (omega arith) (armed_long s.first s.count cells k v s.caller inside o.0) (ap (λ p. length p.owners) here ∙ s.caller.own k range.0 high) (ap (λ p. length p.asked) here ∙ omega arith) (ap (λ p. p.tickets) here) (ap (λ p. p.filling) here ∙ (s.caller.calm k).filling))

pub invariant_of-seat : goal.invariant_of-seat
invariant_of-seat g c = let s = c.args.seat.now in let k = c.args.place.cell in let v = s.inner.me.0 in let range = s.caller.mine k c.requires.place.0 in let high = range.1 in let room = s.caller.room in let cells = s.inner.table_id.words in let inside : k < cells = omega arith in
    let t = view_of c.args.ticket.badge.views in let is = ticket_is _ k _ cells t t (sym c.requires.place.1) (ap (λ z. z.words) (c.requires.table.0 ∙ sym c.requires.table.1)) refl c.args.ticket.ticket in let o = ticket_of k cells t is in
    let j = c.join_seat.ensures in let now = joined_me s.first s.count cells k v s.caller inside t o.0 is o.1 s.inner.me _ _ j.2 refl (ap (λ m. m.1) s.empty) (ap view_of c.into_seat.ensures.2) in let x = c.fetch_sub.ensures in record {
      empty = empty_of _ (ap (λ m. m.1) x.2 ∙ ap (λ m. m.1) now);
      caller = caller_is _ _ _ _ _ _ (ap (λ z. z.words) (x.0 ∙ j.0)) (ap (λ m. m.0) x.2 ∙ (ap (λ m. withdrew k m.0) now ∙ withdrew_is s.first s.count cells k v s.caller inside o.0)) (withdrawn_caller s.first s.count cells k v s.caller inside);
    }

pub returns-clause-known : goal.returns-clause-known
returns-clause-known g c = let s = c.args.seat.now in let k = c.args.place.cell in let v = s.inner.me.0 in let range = s.caller.mine k c.requires.place.0 in let high = range.1 in let room = s.caller.room in let cells = s.inner.table_id.words in let inside : k < cells = omega arith in
    let t = view_of c.args.ticket.badge.views in let is = ticket_is _ k _ cells t t (sym c.requires.place.1) (ap (λ z. z.words) (c.requires.table.0 ∙ sym c.requires.table.1)) refl c.args.ticket.ticket in let o = ticket_of k cells t is in
    let j = c.join_seat.ensures in let now = joined_me s.first s.count cells k v s.caller inside t o.0 is o.1 s.inner.me _ _ j.2 refl (ap (λ m. m.1) s.empty) (ap view_of c.into_seat.ensures.2) in
    ap (λ m. m.0) c.fetch_sub.ensures.2 ∙ (ap (λ m. withdrew k m.0) now ∙ withdrew_is s.first s.count cells k v s.caller inside o.0)

pub returns-clause-shut : goal.returns-clause-shut
returns-clause-shut g c = let s = c.args.seat.now in let k = c.args.place.cell in let v = s.inner.me.0 in let range = s.caller.mine k c.requires.place.0 in let high = range.1 in let room = s.caller.room in let cells = s.inner.table_id.words in let inside : k < cells = omega arith in
    let t = view_of c.args.ticket.badge.views in let is = ticket_is _ k _ cells t t (sym c.requires.place.1) (ap (λ z. z.words) (c.requires.table.0 ∙ sym c.requires.table.1)) refl c.args.ticket.ticket in let o = ticket_of k cells t is in
    let j = c.join_seat.ensures in let now = joined_me s.first s.count cells k v s.caller inside t o.0 is o.1 s.inner.me _ _ j.2 refl (ap (λ m. m.1) s.empty) (ap view_of c.into_seat.ensures.2) in
    subst (Shuts k v) (sym (ap (λ m. m.0) c.fetch_sub.ensures.2 ∙ (ap (λ m. withdrew k m.0) now ∙ withdrew_is s.first s.count cells k v s.caller inside o.0))) (withdrawn_shuts s.first s.count cells k v s.caller inside)

pub returns-clause-keeps : goal.returns-clause-keeps
returns-clause-keeps g c = let k = c.args.place.cell in let v = c.args.seat.now.inner.me.0 in subst (Keeps v) (sym (returns-clause-known g c)) (withdrawn_keeps k v)
