-- A ticket comes into a caller's seat, and is spent there.
use Rattle.std.proofs.Common.{◌≡◌, ◌≢◌, ℕ, zero, suc, ◌+◌, ◌<◌, ◌≤◌, List, [], ◌∷◌, ◌++◌, length, set, sym, refl, ap, ◌∙◌, subst, arith, append-nil, None}
use Rattle.atomic_table.specs.Table.{rest}
use Rattle.xa_types.specs.declared.ids.RequestId.{RequestId}
use Rattle.xa_cell.specs.declared.view.Opening.{Opening}
use Rattle.xa_cell.specs.declared.view.Deed.{Deed}
use Rattle.xa_cell.specs.declared.view.Part.{Part}
use Rattle.xa_cell.specs.declared.view.View.{View}
use Rattle.xa_cell.specs.declared.view.Act.TheVariants.{Withdrawn}
use Rattle.xa_cell.specs.Views.{blank, nth, at, fill}
use Rattle.xa_cell.specs.Changes.{took, withdrawn, filled, dropped}
use Rattle.xa_cell.specs.Joined.{with, all_with, both}
use Rattle.xa_cell.specs.Steps.{placed, delivered, too_late, cleared, taking, freed, withdrew}
use Rattle.xa_cell.specs.Tokens.{IsCalm, IsBare, IsCaller, IsTicket}
use Rattle.xa_cell.proofs.Lists.{none_in, one_in, with_blank}
use Rattle.xa_cell.proofs.OneCell.{SlotOf}
use Rattle.xa_cell.proofs.Lifting.{MineOf, viewed}
use Rattle.xa_cell.proofs.Viewed.{put_is, put_again, put_long, inside_parts}

module _ {A : Type 0} where
  bare_is : (p : Part A) (ts : List Opening) → IsBare p → p.tickets ≡ ts → p ≡ record blank { tickets = ts }
  bare_is p ts b e i = record {
    owners = none_in p.owners b.owners i;
    count = b.count i;
    asked = none_in p.asked b.asked i;
    settled = b.settled i;
    tickets = e i;
    filling = b.filling i;
    taking = b.taking i;
    late = b.late i;
    given_up = none_in p.given_up b.given_up i;
    dropped = none_in p.dropped b.dropped i;
    taken = none_in p.taken b.taken i;
    filled = none_in p.filled b.filled i;
  }

  -- a part into which a ticket comes
  with_ticket : (p : Part A) (o : Opening) → p.tickets ≡ [] → with p (record blank { tickets = o ∷ [] }) ≡ record p { tickets = o ∷ [] }
  with_ticket p o none_ i = record (with_blank p i) { tickets = (ap (λ l. l ++ o ∷ []) none_) i }

  all_with_none : (ps ts : List (Part A)) → length ts ≤ length ps → ((j : ℕ) → nth ts j ≡ blank) → all_with ps ts ≡ ps
  all_with_none [] [] le h = refl
  all_with_none [] (t ∷ ts) le h = absurd (omega arith)
  all_with_none (p ∷ ps) [] le h = refl
  all_with_none (p ∷ ps) (t ∷ ts) le h = λ i. (ap (with p) (h 0) ∙ with_blank p) i ∷ all_with_none ps ts (omega arith) (λ j. h (suc j)) i

  all_with_one : (ps ts : List (Part A)) (k : ℕ) (o : Opening) → length ts ≤ length ps → k < length ps → nth ts k ≡ record blank { tickets = o ∷ [] } → ((j : ℕ) → j ≢ k → nth ts j ≡ blank) → (nth ps k).tickets ≡ []
      → all_with ps ts ≡ set ps k (record (nth ps k) { tickets = o ∷ [] })
  all_with_one [] ts k o le lt here others none_ = absurd (omega arith)
  all_with_one (p ∷ ps) [] k o le lt here others none_ = let n = ap (λ (z : Part A). length z.tickets) here in absurd (omega arith)
  all_with_one (p ∷ ps) (t ∷ ts) zero o le lt here others none_ = λ i. (ap (with p) here ∙ with_ticket p o none_) i ∷ all_with_none ps ts (omega arith) (λ j. others (suc j) (λ e. omega arith)) i
  all_with_one (p ∷ ps) (t ∷ ts) (suc k) o le lt here others none_ = λ i. (ap (with p) (others 0 (λ e. omega arith)) ∙ with_blank p) i ∷ all_with_one ps ts k o (omega arith) (omega arith) here (λ j ne. others (suc j) (λ e. ne (omega arith))) none_ i

  -- the caller's view with the ticket
  abbrev pub armed : ℕ → Opening → View A → View A
  armed k o v = viewed v k (record (at k v) { tickets = o ∷ [] }) v.deeds

  -- and with the slot
  abbrev pub holding : ℕ → Opening → View A → View A
  holding k o v = viewed v k (record (at k v) { tickets = o ∷ []; filling = 1 }) v.deeds

  abbrev pub tardy : ℕ → Opening → View A → View A
  tardy k o v = viewed v k (record (at k v) { tickets = o ∷ []; filling = 1; late = 1 }) (too_late k o v).deeds

  pub ticket_of : (k cells : ℕ) (t : View A) → IsTicket k cells t → (o : Opening) × ((at k t).tickets ≡ o ∷ [])
  ticket_of k cells t is = one_in (at k t).tickets is.one

  module _ (first count cells k : ℕ) (v : View A) (c : IsCaller first count cells v) (inside : k < cells) where
    long : k < length v.parts
    long = inside_parts first count cells k v c inside

    none_there : (at k v).tickets ≡ []
    none_there = none_in (at k v).tickets (c.calm k).tickets

    pub joined_is : (t : View A) (o : Opening) → IsTicket k cells t → (at k t).tickets ≡ o ∷ [] → both v t ≡ armed k o v
    joined_is t o is names = let w1 = c.wide in let w2 = is.wide in
        let callers : v.callers ++ t.callers ≡ v.callers = ap (λ l. v.callers ++ l) (none_in t.callers is.nobody) ∙ append-nil v.callers in
        let deeds : v.deeds ++ t.deeds ≡ v.deeds = ap (λ l. v.deeds ++ l) (none_in t.deeds is.idle) ∙ append-nil v.deeds in
        let parts = all_with_one v.parts t.parts k o (omega arith) long (bare_is (at k t) (o ∷ []) (is.bare k) names) (λ j ne. bare_is (at j t) [] (is.bare j) (none_in (at j t).tickets (is.others j ne))) none_there in
        λ i. record { callers = callers i; parts = parts i; deeds = deeds i }

    pub armed_at : (o : Opening) → at k (armed k o v) ≡ record (at k v) { tickets = o ∷ [] }
    armed_at o = put_is v k (record (at k v) { tickets = o ∷ [] }) v.deeds long

    pub holding_at : (o : Opening) → at k (holding k o v) ≡ record (at k v) { tickets = o ∷ []; filling = 1 }
    holding_at o = put_is v k (record (at k v) { tickets = o ∷ []; filling = 1 }) v.deeds long

    pub tardy_at : (o : Opening) → at k (tardy k o v) ≡ record (at k v) { tickets = o ∷ []; filling = 1; late = 1 }
    tardy_at o = put_is v k (record (at k v) { tickets = o ∷ []; filling = 1; late = 1 }) (too_late k o v).deeds long

    -- the part is there still
    pub armed_long : (o : Opening) → k < length (armed k o v).parts
    armed_long o = put_long v k (record (at k v) { tickets = o ∷ [] }) v.deeds long

    pub holding_long : (o : Opening) → k < length (holding k o v).parts
    holding_long o = put_long v k (record (at k v) { tickets = o ∷ []; filling = 1 }) v.deeds long

    pub tardy_long : (o : Opening) → k < length (tardy k o v).parts
    tardy_long o = put_long v k (record (at k v) { tickets = o ∷ []; filling = 1; late = 1 }) (too_late k o v).deeds long

    -- the seat behind the join
    pub joined_me : (t : View A) (o : Opening) → IsTicket k cells t → (at k t).tickets ≡ o ∷ [] → (m n : MineOf A) (x : View A) → n ≡ (both m.0 x, m.1) → m.0 ≡ v → m.1 ≡ [] → t ≡ x → n ≡ (armed k o v, [])
    joined_me t o is names m n x e em none_ same = e ∙ (λ i. (both (em i) (sym same i), none_ i)) ∙ (λ i. (joined_is t o is names i, []))

    pub placed_is : (o : Opening) → placed k (armed k o v) ≡ holding k o v
    placed_is o = let parts = put_again v k (record (at k v) { tickets = o ∷ [] }) v.deeds long (λ (q : Part A). record q { filling = 1 }) in λ i. record { callers = v.callers; parts = parts i; deeds = v.deeds }

    pub late_is : (o : Opening) → too_late k o (holding k o v) ≡ tardy k o v
    late_is o = let parts = put_again v k (record (at k v) { tickets = o ∷ []; filling = 1 }) v.deeds long (λ (q : Part A). record q { late = 1 }) in λ i. record { callers = v.callers; parts = parts i; deeds = (too_late k o v).deeds }

    pub delivered_is : (o : Opening) (a : A) → delivered k o a (holding k o v) ≡ filled k o a v
    delivered_is o a = let p = at k v in let f = (c.calm k).filling in
        let parts = put_again v k (record p { tickets = o ∷ []; filling = 1 }) v.deeds long (λ (q : Part A). record q { tickets = []; filling = 0; filled = q.filled ++ fill o a ∷ [] }) in
        let part : record p { tickets = []; filling = 0; filled = p.filled ++ fill o a ∷ [] } ≡ record p { filled = p.filled ++ fill o a ∷ [] } = λ i. record p { tickets = sym none_there i; filling = sym f i; filled = p.filled ++ fill o a ∷ [] } in
        let whole = parts ∙ ap (set v.parts k) part in λ i. record { callers = v.callers; parts = whole i; deeds = (filled k o a v).deeds }

    pub cleared_is : (o : Opening) → cleared k o (tardy k o v) ≡ dropped k o v
    cleared_is o = let p = at k v in let f = (c.calm k).filling in let l = (c.calm k).late in
        let parts = put_again v k (record p { tickets = o ∷ []; filling = 1; late = 1 }) (too_late k o v).deeds long (λ (q : Part A). record q { tickets = []; filling = 0; late = 0; dropped = q.dropped ++ o.number ∷ [] }) in
        let part : record p { tickets = []; filling = 0; late = 0; dropped = p.dropped ++ o.number ∷ [] } ≡ record p { dropped = p.dropped ++ o.number ∷ [] } = λ i. record p { tickets = sym none_there i; filling = sym f i; late = sym l i; dropped = p.dropped ++ o.number ∷ [] } in
        let whole = parts ∙ ap (set v.parts k) part in λ i. record { callers = v.callers; parts = whole i; deeds = (dropped k o v).deeds }

    -- the seat behind the steps of a fill
    pub placed_me : (o : Opening) (m n : MineOf A) → n ≡ (placed k m.0, (k, None) ∷ m.1) → m ≡ (armed k o v, []) → n ≡ (holding k o v, (k, None) ∷ [])
    placed_me o m n e em = e ∙ (ap (λ (z : MineOf A). let y : MineOf A = (placed k z.0, (k, None) ∷ z.1) in y) em ∙ ap (λ (w : View A). let y : MineOf A = (w, (k, None) ∷ []) in y) (placed_is o))

    pub late_me : (o : Opening) (h : List (ℕ × SlotOf A)) (m n : MineOf A) → n ≡ (too_late k o m.0, m.1) → m ≡ (holding k o v, h) → n ≡ (tardy k o v, h)
    late_me o h m n e em = e ∙ (ap (λ (z : MineOf A). let y : MineOf A = (too_late k o z.0, z.1) in y) em ∙ ap (λ (w : View A). let y : MineOf A = (w, h) in y) (late_is o))

    pub delivered_me : (o : Opening) (a : A) (h : List (ℕ × SlotOf A)) (m n : MineOf A) → n ≡ (delivered k o a m.0, []) → m ≡ (holding k o v, h) → n ≡ (filled k o a v, [])
    delivered_me o a h m n e em = e ∙ (ap (λ (z : MineOf A). let y : MineOf A = (delivered k o a z.0, []) in y) em ∙ ap (λ (w : View A). let y : MineOf A = (w, []) in y) (delivered_is o a))

    pub cleared_me : (o : Opening) (x : SlotOf A) (m n : MineOf A) → n ≡ (cleared k o m.0, rest m.1) → m ≡ (tardy k o v, (k, x) ∷ []) → n ≡ (dropped k o v, [])
    cleared_me o x m n e em = e ∙ (ap (λ (z : MineOf A). let y : MineOf A = (cleared k o z.0, rest z.1) in y) em ∙ ap (λ (w : View A). let y : MineOf A = (w, []) in y) (cleared_is o))

    pub withdrew_is : (o : Opening) → withdrew k (armed k o v) ≡ withdrawn k v
    withdrew_is o = let p = at k v in let w : View A = armed k o v in
        let step : Part A → View A = λ (q : Part A). record { callers = v.callers; parts = set w.parts k (record q { asked = []; settled = 1; tickets = [] }); deeds = v.deeds ++ (record { cell = k; opening = q.count; requests = q.asked; act = Withdrawn }) ∷ [] } in
        let here : withdrew k w ≡ step (record p { tickets = o ∷ [] }) = ap step (armed_at o) in
        let part : record p { asked = []; settled = 1; tickets = [] } ≡ record p { asked = []; settled = 1 } = λ i. record p { asked = []; settled = 1; tickets = sym none_there i } in
        let twice = put_again v k (record p { tickets = o ∷ [] }) v.deeds long (λ (q : Part A). record p { asked = []; settled = 1; tickets = [] }) in
        let whole = twice ∙ ap (set v.parts k) part in
        here ∙ (λ i. record { callers = v.callers; parts = whole i; deeds = (withdrawn k v).deeds })

    -- the answer is taken and the cell freed
    pub taking_at : (q : RequestId) (a : A) → at k (taking k q a v) ≡ record (at k v) { taking = 1; taken = (at k v).taken ++ fill (record { number = (at k v).count; request = q }) a ∷ [] }
    taking_at q a = put_is v k (record (at k v) { taking = 1; taken = (at k v).taken ++ fill (record { number = (at k v).count; request = q }) a ∷ [] }) v.deeds long

    pub taking_long : (q : RequestId) (a : A) → k < length (taking k q a v).parts
    taking_long q a = put_long v k (record (at k v) { taking = 1; taken = (at k v).taken ++ fill (record { number = (at k v).count; request = q }) a ∷ [] }) v.deeds long

    pub freed_is : (q : RequestId) (a : A) → freed k (taking k q a v) ≡ took k q a v
    freed_is q a = let p = at k v in let t = (c.calm k).taking in let es = p.taken ++ fill (record { number = p.count; request = q }) a ∷ [] in
        let parts = put_again v k (record p { taking = 1; taken = es }) v.deeds long (λ (z : Part A). record z { asked = []; settled = 1; taking = 0 }) in
        let part : record p { asked = []; settled = 1; taking = 0; taken = es } ≡ record p { asked = []; settled = 1; taken = es } = λ i. record p { asked = []; settled = 1; taking = sym t i; taken = es } in
        let whole = parts ∙ ap (set v.parts k) part in λ i. record { callers = v.callers; parts = whole i; deeds = v.deeds }
