-- take: the owner loads the word, and from then on it has the slot with the answer.
use Rattle.std.proofs.Common.{◌≡◌, ◌≢◌, ℕ, ◌+◌, ◌<◌, ◌≤◌, ◌==◌, List, [], ◌∷◌, ◌++◌, length, set, sym, refl, ap, ◌∙◌, subst, arith, Some, inl, inr, ⊎_elim, eq-eqb, ne_eqb}
use Rattle.std.proofs.lemmas.List.Elements.{All-nil, All-cons, All-head, All-append}
use Rattle.std.specs.List.{All}
use mathlib.Core.Option.{none, some, some-injective}
use lib.ListN.{get_elem?}
use Rattle.atomic_table.specs.Table.{step, takes as takes_slot, Allows}
use Rattle.xa_types.specs.declared.ids.RequestId.{RequestId}
use Rattle.xa_cell.specs.declared.view.Fill.{Fill}
use Rattle.xa_cell.specs.declared.view.Part.{Part}
use Rattle.xa_cell.specs.declared.view.View.{View}
use Rattle.xa_cell.specs.declared.view.Carried.TheVariants.{Answer}
use Rattle.xa_cell.specs.Views.{opening, fill, at}
use Rattle.xa_cell.specs.Counts.{once, times}
use Rattle.xa_cell.specs.Dealing.{cells_in}
use Rattle.xa_cell.specs.Rule.{total, WasFilled, owns, unspent_in, held, Owner, Other, Cell, Ruled}
use Rattle.xa_cell.specs.Steps.{taking, takes}
use Rattle.xa_cell.proofs.Lists.{decided, total_set, total_one, total_zero, times_append}
use Rattle.xa_cell.proofs.OneCell.{SlotOf, HomeOf, Spot, fits, owner, at_home, lone_owner, grown, quiet, keeps_filled}
use Rattle.xa_cell.proofs.Lifting.{Site, spot, out}

module _ {A : Type 0} where
  -- what the owner's part says of its request
  request_is : (z : Spot A) (q : RequestId) → owns z.p ≡ 1 → z.p.asked ≡ q ∷ [] → (z.c.open_ ≡ 1) × (q ≡ z.c.q)
  request_is z q own is = let o = owner z own in let a = o.asked in let b : length z.p.asked ≡ 1 = ap length is in
      ((omega arith), All-head (λ (y : RequestId). y ≡ z.c.q) q [] (subst (All (λ (y : RequestId). y ≡ z.c.q)) is o.request))

  take_cell : (z : Spot A) (q : RequestId) → owns z.p ≡ 1 → z.p.asked ≡ q ∷ [] → 0 < z.p.settled → z.p.taking ≡ 0
      → (a : A) × (z.home ≡ some (some (Some (Answer a)))) × ((home' : HomeOf A) → Cell z.w home' (set z.ps z.id (record z.p { taking = 1; taken = z.p.taken ++ fill (opening z.p.count q) a ∷ [] })))
  take_cell z q own is settled idle =
      let c = z.c in let p = z.p in let ps = z.ps in let id = z.id in let here = z.here in
      let o = owner z own in let ft = fits z in let rq = request_is z q own is in let op = rq.0 in
      let s = o.settled in let un : c.unspent ≡ 0 = omega arith in let ot = c.one_ticket in
      let no_ticket : (j : ℕ) (r : Part A) → get_elem? ps j ≡ some r → unspent_in r ≡ 0 = λ j r e. let t = total_one unspent_in ps j r e in omega arith in
      let none_has : (j : ℕ) (r : Part A) → get_elem? ps j ≡ some r → held r ≡ 0 = λ j r e. let t = no_ticket j r e in let fr = (c.each j r e).filling in
      ⊎_elim (λ (same : j ≡ id). let f : r.taking ≡ p.taking = ap (λ (y : Part A). y.taking) (some-injective r p (sym e ∙ (ap (get_elem? ps) same ∙ here))) in let k : held r ≡ 0 = omega arith in k)
      (λ (ne : j ≢ id). let y = lone_owner z own j r ne e in ⊎_elim (λ (h : Owner c.n c.open_ c.unspent c.q r). let x = h.one in absurd (omega arith)) (λ (h : Other r). let x = h.taking in let k : held r ≡ 0 = omega arith in k) (c.each j r e).side) (decided j id) in
      let x = at_home z none_has in let got = x.2.filled op un in let a : A = got.0 in
      let e0 : Fill A = fill (opening p.count q) a in
      let p' : Part A = record p { taking = 1; taken = p.taken ++ e0 ∷ [] } in
      let mine = no_ticket id p here in let fl = ft.filling in
      let one_held : total held (set ps id p') ≡ 1 = (let b = total_set held ps id p p' here in let y = total_zero held ps none_has in omega arith) in
      let found : WasFilled ps e0 = subst (WasFilled ps) (λ i. fill (opening (sym o.count i) (sym rq.1 i)) a) got.2 in (
        a,
        x.1 ∙ ap (λ (y : SlotOf A). let h : HomeOf A = some (some y) in h) got.1,
        λ home'. quiet z p' home' refl refl refl refl refl (record {
          waits = 0;
          none_waits = λ lt. refl;
          one_waits = λ lt. let b = total_set (λ (y : Part A). y.taking) ps id p p' here in let none_ = total_zero (λ (y : Part A). y.taking) ps (λ j r e. let y = none_has j r e in omega arith) in omega arith;
          here = (let h = c.waiting.here in let one = c.waiting.one_waits (omega arith) in let none_ = total_zero (λ (y : Part A). y.taking) ps (λ j r e. let y = none_has j r e in omega arith) in
              let a' = total_set (λ (y : Part A). times c.n y.taken) ps id p p' here in let b = total_set (λ (y : Part A). times c.n y.filled) ps id p p' here in let ta = times_append c.n p.taken (e0 ∷ []) in
              let le : once (p.count == c.n) ≡ 1 = ap once (eq-eqb p.count c.n o.count) in omega arith);
          before = λ m ne. let h = c.waiting.before m ne in let a' = total_set (λ (y : Part A). times m y.taken) ps id p p' here in let b = total_set (λ (y : Part A). times m y.filled) ps id p p' here in let ta = times_append m p.taken (e0 ∷ []) in
              let le : once (p.count == m) ≡ 0 = ap once (ne_eqb p.count m (λ e. ne (sym e ∙ o.count))) in omega arith;
        }) (record {
          side = inl (record { one = o.one; count = o.count; asked = o.asked; request = o.request; settled = o.settled; taking = (omega arith); alone = (omega arith) });
          tickets = ft.tickets;
          filling = ft.filling;
          late = ft.late;
          cancelled = ft.cancelled;
          given_up = ft.given_up;
          dropped = ft.dropped;
          filled = ft.filled;
          taken = All-append (WasFilled (set ps id p')) p.taken (e0 ∷ []) (keeps_filled z p' refl)
              (All-cons (WasFilled (set ps id p')) e0 [] (grown z p' (λ e h. h) e0 found) (All-nil (WasFilled (set ps id p'))));
        }) (inr one_held),
      )

  pub takes_keep : (limits : List ℕ) (slots id k : ℕ) (v : View A) (q : RequestId) (h : List (ℕ × SlotOf A)) → k < cells_in limits → k < length v.parts → 0 < length v.callers → owns (at k v) ≡ 1 → (at k v).asked ≡ q ∷ [] → 0 < (at k v).settled → (at k v).taking ≡ 0
      → Allows (Ruled limits) slots id (v, h) k (λ n. n) (takes (step slots k 0 0 none) (v, h))
  takes_keep limits slots id k v q h inside long of_caller own is settled idle s r deep here small =
      let z : Site A = record { limits = limits; id = id; k = k; v = v; inside = inside; long = long; s = s; r = r; here = here } in
      let l = take_cell (spot z) q own is settled idle in (
        taking k q l.0 v,
        takes_slot k (Some (Answer l.0)),
        l.1,
        out z (record (at k v) { taking = 1; taken = (at k v).taken ++ fill (opening (at k v).count q) l.0 ∷ [] }) v.deeds (λ n. absurd (omega arith)) l.2,
        (q, l.0, is, refl),
      )
