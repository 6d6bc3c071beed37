-- join: a seat comes into another with all that its view holds.
use Rattle.std.proofs.Common.{◌≡◌, ◌≢◌, ℕ, ◌+◌, ◌<◌, ◌≤◌, List, [], ◌∷◌, ◌++◌, map, length, get_or, set, sym, refl, ap, ◌∙◌, subst, arith, length-append, ◌⊎◌, inl, inr, ⊎_elim}
use Rattle.std.proofs.lemmas.List.Elements.{All-nil, All-weaker, All-append}
use mathlib.Core.Option.{some}
use lib.ListN.{get_elem?}
use Rattle.atomic_table.specs.Table.{Joins}
use Rattle.atomic_table.proofs.Lists.{at_map, set_else}
use Rattle.xa_types.specs.declared.ids.RequestId.{RequestId}
use Rattle.xa_cell.specs.declared.view.Opening.{Opening}
use Rattle.xa_cell.specs.declared.view.Fill.{Fill}
use Rattle.xa_cell.specs.declared.view.Part.{Part}
use Rattle.xa_cell.specs.declared.view.View.{View}
use Rattle.xa_cell.specs.Views.{opening, blank, at}
use Rattle.xa_cell.specs.Counts.{times, among}
use Rattle.xa_cell.specs.Tokens.{spent}
use Rattle.xa_cell.specs.Joined.{with, both}
use Rattle.xa_cell.specs.Rule.{total, WasFilled, owns, unspent_in, held, Owner, Other, Fits, Cell, Idle, OfCallers, Ruled}
use Rattle.xa_cell.proofs.Lists.{total_set, total_two, at_each, map_set, nth_with, All-none, among_append, times_append, was_joined}
use Rattle.xa_cell.proofs.OneCell.{Spot, AtHome, fits, other_fits, content_grows}

module _ {A : Type 0} where
  join_sides : (n op un : ℕ) (q : RequestId) (p r : Part A) → owns p + owns r ≤ 1 → Owner n op un q p ⊎ Other p → Owner n op un q r ⊎ Other r → Owner n op un q (with p r) ⊎ Other (with p r)
  join_sides n op un q p r few f g =
      let lo : owns (with p r) ≡ owns p + owns r = length-append p.owners r.owners in let la : length (with p r).asked ≡ length p.asked + length r.asked = length-append p.asked r.asked in ⊎_elim
      (λ (x : Owner n op un q p). ⊎_elim (λ (y : Owner n op un q r). let m = x.one in let l = y.one in absurd (omega arith))
      (λ (y : Other r). let x0 = x.one in let x1 = x.count in let x2 = x.asked in let x3 = x.settled in let x4 = x.taking in let x5 = x.alone in let y0 = y.none_ in let y1 = y.count in let y2 = y.asked in let y3 = y.settled in let y4 = y.taking in
      inl (record { one = (omega arith); count = (omega arith); asked = (omega arith); request = All-append (λ (o : RequestId). o ≡ q) p.asked r.asked x.request (All-none (λ (o : RequestId). o ≡ q) r.asked y2); settled = (omega arith); taking = (omega arith); alone = (omega arith) })) g)
      (λ (x : Other p). ⊎_elim
      (λ (y : Owner n op un q r). let x0 = y.one in let x1 = y.count in let x2 = y.asked in let x3 = y.settled in let x4 = y.taking in let x5 = y.alone in let y0 = x.none_ in let y1 = x.count in let y2 = x.asked in let y3 = x.settled in let y4 = x.taking in
      inl (record { one = (omega arith); count = (omega arith); asked = (omega arith); request = All-append (λ (o : RequestId). o ≡ q) p.asked r.asked (All-none (λ (o : RequestId). o ≡ q) p.asked y2) y.request; settled = (omega arith); taking = (omega arith); alone = (omega arith) }))
      (λ (y : Other r). let x0 = x.none_ in let x1 = x.count in let x2 = x.asked in let x3 = x.settled in let x4 = x.taking in let y0 = y.none_ in let y1 = y.count in let y2 = y.asked in let y3 = y.settled in let y4 = y.taking in
      inr (record { none_ = (omega arith); count = (omega arith); asked = (omega arith); settled = (omega arith); taking = (omega arith) })) g) f

  join_cell : (z : Spot A) (other : ℕ) (r : Part A) → other ≢ z.id → get_elem? z.ps other ≡ some r → Cell z.w z.home (set (set z.ps z.id (with z.p r)) other blank)
  join_cell z other r ne there =
      let c = z.c in let p = z.p in let ps = z.ps in let id = z.id in let here = z.here in
      let pr : Part A = with p r in let mid : List (Part A) = set ps id pr in let after : List (Part A) = set mid other blank in
      let mid_at : get_elem? mid other ≡ some r = set_else ps id other pr ne ∙ there in
      let oo = c.one_owner in let ot = c.one_ticket in let few = c.few in
      let two_o = total_two owns ps id other p r (λ h. ne (sym h)) here there in let two_t = total_two unspent_in ps id other p r (λ h. ne (sym h)) here there in
      let lo : owns pr ≡ owns p + owns r = length-append p.owners r.owners in let lt : unspent_in pr ≡ unspent_in p + unspent_in r = length-append p.tickets r.tickets in
      let a1 = total_set owns ps id p pr here in let a2 = total_set owns mid other r blank mid_at in
      let b1 = total_set unspent_in ps id p pr here in let b2 = total_set unspent_in mid other r blank mid_at in
      let h1 = total_set held ps id p pr here in let h2 = total_set held mid other r blank mid_at in
      let f = fits z in let g = c.each other r there in
      let grow : (e : Fill A) → WasFilled ps e → WasFilled after e = λ e k. was_joined ps id other p r e here there (λ h. ne (sym h)) k in
      let f1 = f.filling in let f2 = f.late in let f3 = f.cancelled in let g1 = g.filling in let g2 = g.late in let g3 = g.cancelled in
      let joined : Fits after c.n c.open_ c.unspent c.q pr = record {
        side = join_sides c.n c.open_ c.unspent c.q p r (omega arith) f.side g.side;
        tickets = All-append (λ (o : Opening). o ≡ opening c.n c.q) p.tickets r.tickets f.tickets g.tickets;
        filling = (omega arith);
        late = (omega arith);
        cancelled = (omega arith);
        dropped = All-append (λ (x : ℕ). x + c.unspent ≤ c.n) p.dropped r.dropped f.dropped g.dropped;
        given_up = All-append (λ (x : ℕ). x + c.open_ ≤ c.n) p.given_up r.given_up f.given_up g.given_up;
        filled = All-append (λ (e : Fill A). e.opening.number + c.unspent ≤ c.n) p.filled r.filled f.filled g.filled;
        taken = All-append (WasFilled after) p.taken r.taken (All-weaker (WasFilled ps) (WasFilled after) grow p.taken f.taken) (All-weaker (WasFilled ps) (WasFilled after) grow r.taken g.taken);
      } in
      let moved : (y : Part A) → Fits ps c.n c.open_ c.unspent c.q y → Fits after c.n c.open_ c.unspent c.q y = λ y k. other_fits ps after c.n c.open_ c.unspent c.n c.open_ c.unspent c.q c.q y grow (omega arith) (omega arith) c.opened (λ o. o) (inr (refl, refl, omega arith)) k in
      let le = c.opened in
      let empty : Fits after c.n c.open_ c.unspent c.q blank = record {
        side = inr (record { none_ = refl; count = refl; asked = refl; settled = refl; taking = refl });
        tickets = All-nil (λ (o : Opening). o ≡ opening c.n c.q);
        filling = (omega arith);
        late = (omega arith);
        cancelled = (omega arith);
        dropped = All-nil (λ (x : ℕ). x + c.unspent ≤ c.n);
        given_up = All-nil (λ (x : ℕ). x + c.open_ ≤ c.n);
        filled = All-nil (λ (e : Fill A). e.opening.number + c.unspent ≤ c.n);
        taken = All-nil (WasFilled after);
      } in record {
        n = c.n;
        open_ = c.open_;
        unspent = c.unspent;
        q = c.q;
        opened = c.opened;
        word_is = c.word_is;
        one_owner = (omega arith);
        one_ticket = (omega arith);
        few = c.few;
        cancelled = λ a e. let y1 = total_set (λ (y : Part A). among c.n y.given_up) ps id p pr here in let y2 = total_set (λ (y : Part A). among c.n y.given_up) mid other r blank mid_at in let tgm = among_append c.n p.given_up r.given_up in let old = c.cancelled a e in omega arith;
        dropped = λ m. let y1 = total_set (λ (y : Part A). among m y.given_up) ps id p pr here in let y2 = total_set (λ (y : Part A). among m y.given_up) mid other r blank mid_at in let tgm = among_append m p.given_up r.given_up in
            let d1 = total_set (λ (y : Part A). among m y.dropped) ps id p pr here in let d2 = total_set (λ (y : Part A). among m y.dropped) mid other r blank mid_at in let tdm = among_append m p.dropped r.dropped in let old = c.dropped m in omega arith;
        filled_once = λ m. let y1 = total_set (λ (y : Part A). among m y.given_up) ps id p pr here in let y2 = total_set (λ (y : Part A). among m y.given_up) mid other r blank mid_at in let tgm = among_append m p.given_up r.given_up in
            let x1 = total_set (λ (y : Part A). times m y.filled) ps id p pr here in let x2 = total_set (λ (y : Part A). times m y.filled) mid other r blank mid_at in let tm = times_append m p.filled r.filled in let old = c.filled_once m in omega arith;
        waiting = let w = c.waiting in let totals : (m : ℕ) → (total (λ (y : Part A). times m y.taken) after ≡ total (λ (y : Part A). times m y.taken) ps) × (total (λ (y : Part A). times m y.filled) after ≡ total (λ (y : Part A). times m y.filled) ps) =
            λ m. let y1 = total_set (λ (y : Part A). times m y.taken) ps id p pr here in let y2 = total_set (λ (y : Part A). times m y.taken) mid other r blank mid_at in let ty = times_append m p.taken r.taken in
            let x1 = total_set (λ (y : Part A). times m y.filled) ps id p pr here in let x2 = total_set (λ (y : Part A). times m y.filled) mid other r blank mid_at in let tx = times_append m p.filled r.filled in (omega arith, omega arith) in record {
              waits = w.waits;
              none_waits = w.none_waits;
              one_waits = λ lt. let one = w.one_waits lt in let k1 = total_set (λ (y : Part A). y.taking) ps id p pr here in let k2 = total_set (λ (y : Part A). y.taking) mid other r blank mid_at in omega arith;
              here = (let t = totals c.n in let t0 = t.0 in let t1 = t.1 in let h = w.here in omega arith);
              before = λ m ne. let t = totals m in let t0 = t.0 in let t1 = t.1 in let h = w.before m ne in omega arith;
            };
        each = at_each (Fits after c.n c.open_ c.unspent c.q) mid other blank empty (λ j y apart e. at_each (Fits after c.n c.open_ c.unspent c.q) ps id pr joined (λ i x apart' k. moved x (c.each i x k)) j y e);
        slot = ⊎_elim (λ (k : (total held ps ≡ 0) × AtHome z.home ps c.n c.open_ c.unspent c.q). let y = k.0 in
            inl ((omega arith), (k.1.0, k.1.1, content_grows ps after c.n c.open_ c.unspent c.q k.1.0 grow k.1.2)))
            (λ (k : total held ps ≡ 1). inr (omega arith)) c.slot;
      }

  pub joins_keep : (limits : List ℕ) (id other : ℕ) (v w : View A) → Joins (Ruled limits) id v other w (both v w) spent
  joins_keep limits id other v w s r here ne there =
      let vw : View A = both v w in let mid = set s.views id vw in
      let at_other : get_elem? s.views other ≡ some w = sym (set_else s.views id other vw ne) ∙ there in
      let more : length (v.callers ++ w.callers) ≡ length v.callers + length w.callers = length-append v.callers w.callers in
      let of_both : OfCallers vw = λ n k. let a = r.each id v here (omega arith) k in let b = r.each other w at_other (omega arith) k in
      subst Idle (sym (nth_with v.parts w.parts k)) ((λ i. a.0 i ++ b.0 i), (λ i. a.1 i ++ b.1 i), (let x = a.2 in let y = b.2 in omega arith), length-append (at k v).owners (at k w).owners ∙ (let x = a.3 in let y = b.3 in omega arith), (λ i. a.4 i ++ b.4 i)) in
      let of_spent : OfCallers spent = λ n k. (refl, refl, refl, refl, refl) in
      record {
        wide = r.wide;
        deep = r.deep;
        callers = (let a = total_set (λ (y : View A). length y.callers) s.views id v vw here in let b = total_set (λ (y : View A). length y.callers) mid other w spent there in let e = r.callers in omega arith);
        each = at_each OfCallers mid other spent of_spent (λ j u apart e. at_each OfCallers s.views id vw of_both (λ i y n f. r.each i y f) j u e);
        cell = λ k lt. let z : Spot A = record { w = get_or s.words k 0; home = get_elem? s.homes k; ps = map (at k) s.views; c = r.cell k lt; id = id; p = at k v; here = at_map (at k) s.views id v here } in
            let cell = join_cell z other (at k w) ne (at_map (at k) s.views other w at_other) in
            let col : map (at k) (set mid other spent) ≡ set (set (map (at k) s.views) id (with (at k v) (at k w))) other blank =
            map_set (at k) mid other spent ∙ ap (λ (q : List (Part A)). set q other blank) (map_set (at k) s.views id vw ∙ ap (λ (q : Part A). set (map (at k) s.views) id q) (nth_with v.parts w.parts k)) in
            subst (λ (q : List (Part A)). Cell (get_or s.words k 0) (get_elem? s.homes k) q) (sym col) cell;
      }
