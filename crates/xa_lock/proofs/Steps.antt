-- Each step of a lock keeps its rule.
use Rattle.std.proofs.Common.{◌≡◌, ◌≢◌, ℕ, zero, suc, ◌+◌, ◌<◌, ◌==◌, true, false, true≢false, List, [], ◌∷◌, ◌++◌, get_or, set, sym, refl, ap, ◌∙◌, subst, arith, length-set, get_or-set_same, length-append, Option, Some, inl, inr, ⊎_elim}
use Rattle.std.proofs.lemmas.List.Elements.{All-nil, All-cons, All-head, All-tail, All-weaker, All-append}
use Rattle.std.specs.List.{All}
use mathlib.Core.Logic.{dite}
use native.Mathlib.Decide.{ℕ_discrete}
use mathlib.Core.Option.{none, some, some-injective, some-ne-none}
use mathlib.Core.Option as maybe
use prog.Atomic.{either}
use Rattle.std.specs.Option.{unwrap_or}
use lib.ListN.{get_elem?, length}
use Rattle.atomic_table.specs.Table.{State, Me, Act, Step, step, keeps, takes, gives, stepped, Valid, carried_after, Allows, Splits, Joins, Final, Seen, opening}
use Rattle.atomic_table.proofs.Lists.{at_set, at_snoc, at_longer, set_here, set_else, set_again, exchanged}
use Rattle.xa_lock.specs.declared.pass.Page.{Page}
use Rattle.xa_lock.specs.declared.pass.SeatView.{SeatView}
use Rattle.xa_lock.specs.Pages.{StartsWith, Knows, GrewBy, page, mine, page_seeing, page_leaving}
use Rattle.xa_lock.specs.Views.{idle, holding, IsIdle, first_only, but_first, before, first_pages}
use Rattle.xa_lock.specs.Rule.{once, times, holders, IsPlaced, Locked, Takes, Puts}
use Rattle.xa_lock.proofs.Lists.{total_set, total_snoc, total_one, total_two, set_mine, times-append, times_mine, elsewhere, length-first_pages, once_each, starts_itself, leaving_page, other_page, first_known}

-- the word of the table after it changed
word_after : (words : List ℕ) (k : ℕ) → length words ≡ 1 → get_or (set words 0 k) 0 0 ≡ k
word_after words k wide = get_or-set_same words 0 k 0 (omega (arith, wide))

module _ {E : Type 0} where
  -- what holds of the new view and of the others
  at_each : (F : SeatView E → Type 0) (l : List (SeatView E)) (id : ℕ) (w : SeatView E) → F w → ((j : ℕ) (u : SeatView E) → j ≢ id → get_elem? l j ≡ some u → F u) → (j : ℕ) (u : SeatView E) → get_elem? (set l id w) j ≡ some u → F u
  at_each F l id w here there j u e = ⊎_elim (λ (h : (j ≡ id) × (w ≡ u)). subst F h.1 here) (λ (h : (j ≢ id) × (get_elem? l j ≡ some u)). there j u h.0 h.1) (at_set l id j w u e)

  -- the value is out with one of these seats, and not with the other, so they are two
  apart : (l : List (SeatView E)) (i j : ℕ) (v w : SeatView E) → get_elem? l i ≡ some v → get_elem? l j ≡ some w → v.holds ≡ false → w.holds ≡ true → j ≢ i
  apart l i j v w at there free out e = true≢false (sym out ∙ (ap (λ (z : SeatView E). z.holds) (some-injective w v (sym there ∙ (ap (get_elem? l) e ∙ at))) ∙ free))

  -- where the value is out with one seat, it is this one
  only_holder : (l : List (SeatView E)) (i j : ℕ) (v w : SeatView E) → holders l ≡ 1 → get_elem? l i ≡ some v → get_elem? l j ≡ some w → v.holds ≡ true → w.holds ≡ true → v ≡ w
  only_holder l i j v w one at there mine' theirs = dite (ℕ_discrete i j)
      (λ (e : i ≡ j). some-injective v w (sym at ∙ (ap (get_elem? l) e ∙ there)))
      (λ (ne : i ≢ j). let two = total_two (λ (z : SeatView E). once z.holds) l i j v w ne at there in let a : once v.holds ≡ 1 = ap once mine' in let b : once w.holds ≡ 1 = ap once theirs in absurd (omega arith))

  -- a view changes that doesn't hold the value, neither before nor after
  holders_stay : (l : List (SeatView E)) (id : ℕ) (v w : SeatView E) → get_elem? l id ≡ some v → v.holds ≡ false → w.holds ≡ false → holders (set l id w) ≡ holders l
  holders_stay l id v w at free free' = let sums = total_set (λ (z : SeatView E). once z.holds) l id v w at in let a : once v.holds ≡ 0 = ap once free in let b : once w.holds ≡ 0 = ap once free' in omega arith

module _ {T E : Type 0} (entries : T → List E) (maker : E → ℕ) where
  abbrev L : ℕ → State (Option T) (SeatView E) → Type 0
  L all s = Locked entries maker all s

  abbrev Fits : ℕ → List E → Page E → Type 0
  Fits all log p = (p.maker < all) × Knows maker p log

  abbrev Suits : ℕ → List E → SeatView E → Type 0
  Suits all log v = (v.holds ≡ true → length v.pages ≡ 1) × All (Fits all log) v.pages

  -- a view changes that doesn't hold the value, and the value stays where it was
  slot_stays : (word : ℕ) (homes : List (maybe.Option (Option T))) (views : List (SeatView E)) (log : List E) (id : ℕ) (v w : SeatView E) → get_elem? views id ≡ some v → v.holds ≡ false → w.holds ≡ false
      → IsPlaced entries maker word homes views log → IsPlaced entries maker word homes (set views id w) log
  slot_stays word homes views log id v w at free free' (inl home) = inl (home.0, holders_stay views id v w at free free' ∙ home.1, home.2, home.3, home.4)
  slot_stays word homes views log id v w at free free' (inr out) = inr (
    out.0,
    holders_stay views id v w at free free' ∙ out.1,
    out.2,
    out.3,
    set_else views id out.2 w (apart views id out.2 v out.3 at out.4 free out.5) ∙ out.4,
    out.5,
    out.6,
  )

  pub opens : (all : ℕ) (x : T) → 0 < all → All (λ e. maker e ≡ 0) (entries x) → L all (opening (0 ∷ []) (Some x ∷ []) (idle (first_pages (entries x) 0 all)))
  opens all x some_one first = let long = length-first_pages (entries x) 0 all in record {
    log = entries x;
    wide = refl;
    deep = refl;
    shares = (omega arith);
    single = λ k. let one = once_each (entries x) k 0 all in omega arith;
    each = λ j v e. subst (Suits all (entries x)) (only j v e) fits;
    made = All-weaker (λ e. maker e ≡ 0) (λ e. maker e < all) (λ e h. omega arith) (entries x) first;
    slot = inl (refl, refl, x, refl, refl);
  }
    where
      v0 : SeatView E
      v0 = idle (first_pages (entries x) 0 all)

      fits : Suits all (entries x) v0
      fits = ((λ out. absurd (true≢false (sym out))), first_known maker all (entries x) 0 all first (omega arith))

      only : (j : ℕ) (v : SeatView E) → get_elem? (v0 ∷ []) j ≡ some v → v0 ≡ v
      only zero v e = some-injective v0 v e
      only (suc j) v e = absurd (some-ne-none v (sym e))

  -- the word changes, and the page of an idle seat, though not its maker
  changes : (all : ℕ) (s : State (Option T) (SeatView E)) (r : L all s) (id k : ℕ) (p q : Page E) (w : SeatView E) (homes : List (maybe.Option (Option T))) → get_elem? s.views id ≡ some (idle (p ∷ []))
      → length homes ≡ 1 → w.pages ≡ q ∷ [] → q.maker ≡ p.maker → Knows maker q r.log → IsPlaced entries maker k homes (set s.views id w) r.log
      → L all (record { words = set s.words 0 k; homes = homes; views = set s.views id w })
  changes all s r id k p q w homes at deep one same fits slotted =
      let v : SeatView E = idle (p ∷ []) in
      let long : length w.pages ≡ 1 = ap (λ (l : List (Page E)). length l) one in
      let pages = total_set (λ (u : SeatView E). length u.pages) s.views id v w at in let a = r.shares in
      let low : p.maker < all = (All-head (Fits all r.log) p [] (r.each id v at).1).0 in
      let mine' : All (Fits all r.log) (q ∷ []) = All-cons (Fits all r.log) q [] (subst (λ (m : ℕ). m < all) (sym same) low, fits) (All-nil (Fits all r.log)) in
      record {
        log = r.log;
        wide = length-set s.words 0 k ∙ r.wide;
        deep = deep;
        shares = (omega arith);
        single = λ m. let less = r.single m in let alike = total_set (λ u. times m u.pages) s.views id v w at in
            let equal : times m w.pages ≡ times m v.pages = ap (times m) one ∙ ap (λ (n : ℕ). times m (page n q.own q.seen ∷ [])) same in omega arith;
        each = at_each (Suits all r.log) s.views id w ((λ out. long), subst (All (Fits all r.log)) (sym one) mine') (λ j u ne e. r.each j u e);
        made = r.made;
        slot = subst (λ (n : ℕ). IsPlaced entries maker n homes (set s.views id w) r.log) (sym (word_after s.words k r.wide)) slotted;
      }

  module _ (all slots id k : ℕ) (st : Step (Option T)) (p : Page E) (s : State (Option T) (SeatView E)) (r : L all s) (at : get_elem? s.views id ≡ some (idle (p ∷ []))) (lifted : 0 < k) where
    abbrev me : Me (Option T) (SeatView E)
    me = (idle (p ∷ []), [])

    abbrev Goes : Type 0
    Goes = (w : SeatView E) × (a : Act (Option T)) × Valid s.homes [] a × L all (stepped s 0 k id [] w a) × Takes entries maker st me (get_or s.words 0 0) (w, carried_after [] a)

    known : Knows maker p r.log
    known = (All-head (Fits all r.log) p [] (r.each id me.0 at).1).1

    -- the word was free
    hit : get_or s.words 0 0 ≡ 0 → IsPlaced entries maker (get_or s.words 0 0) s.homes s.views r.log → Goes
    hit free (inl home) = let x : T = home.2 in let q : Page E = page_seeing p (entries x) in let w : SeatView E = holding q in let homes = set s.homes 0 none in
        let sums = total_set (λ (z : SeatView E). once z.holds) s.views id me.0 w at in let none_out : holders s.views ≡ 0 = home.1 in
        let saw : Knows maker p (entries x) = subst (Knows maker p) (sym home.4) known in (
          w,
          takes 0 (Some x),
          home.3,
          changes all s r id k p q w homes at (length-set s.homes 0 none ∙ r.deep) refl refl (known.0, subst (λ (l : List E). StartsWith l (entries x)) home.4 (starts_itself (entries x)))
              (inr (lifted, omega arith, id, w, set_mine s.views id me.0 w at, refl, home.4)),
          ((λ _. (x, refl, saw)), λ other. absurd (other free)),
        )
    hit free (inr out) = let some_out : 0 < get_or s.words 0 0 = out.0 in absurd (omega arith)

    -- the word wasn't free
    miss : get_or s.words 0 0 ≢ 0 → IsPlaced entries maker (get_or s.words 0 0) s.homes s.views r.log → Goes
    miss other (inl home) = absurd (other home.0)
    miss other (inr out) = (
      me.0,
      keeps,
      tt,
      changes all s r id k p p me.0 s.homes at r.deep refl refl known
          (subst (λ l. IsPlaced entries maker k s.homes l r.log) (sym (set_again s.views id me.0 at)) (inr (lifted, out.1, out.2, out.3, out.4, out.5, out.6))),
      ((λ free. absurd (other free)), λ _. refl),
    )

  -- a step after which the word isn't 0
  pub takes_keep : (all slots id : ℕ) (st : Step (Option T)) (f : ℕ → ℕ) (p : Page E) → ((n : ℕ) → 0 < f n) → Allows (L all) slots id (idle (p ∷ []), []) 0 f (Takes entries maker st (idle (p ∷ []), []))
  takes_keep all slots id st f p lifts s r deep at small = dite (ℕ_discrete (get_or s.words 0 0) 0)
      (λ free. hit all slots id (f (get_or s.words 0 0)) st p s r at (lifts (get_or s.words 0 0)) free r.slot)
      (λ other. miss all slots id (f (get_or s.words 0 0)) st p s r at (lifts (get_or s.words 0 0)) other r.slot)

  abbrev held_or : T → List (ℕ × Option T) → T
  held_or d [] = d
  held_or d (x ∷ xs) = unwrap_or x.1 d

  module _ (all id : ℕ) (p : Page E) (s : State (Option T) (SeatView E)) (r : L all s) (at : get_elem? s.views id ≡ some (holding p)) where
    -- the value is out with this seat, and with no other
    is_out : IsPlaced entries maker (get_or s.words 0 0) s.homes s.views r.log → (holders s.views ≡ 1) × (p.seen ≡ r.log)
    is_out (inl home) = let none_out : holders s.views ≡ 0 = home.1 in let one = total_one (λ (z : SeatView E). once z.holds) s.views id (holding p) at in absurd (omega arith)
    is_out (inr out) = (out.1, ap (λ (z : SeatView E). (mine z).seen) (only_holder s.views id out.2 (holding p) out.3 out.1 at out.4 refl out.5) ∙ out.6)

    -- no other view has a page of this maker
    none_there : (j : ℕ) (u : SeatView E) → j ≢ id → get_elem? s.views j ≡ some u → times p.maker u.pages ≡ 0
    none_there j u ne e = let two = total_two (λ (z : SeatView E). times p.maker z.pages) s.views id j (holding p) u (λ h. ne (sym h)) at e in let one = r.single p.maker in let here = times_mine p [] in omega arith

  pub puts_keep : (all slots id : ℕ) (st : Step (Option T)) (p : Page E) (y : T) → GrewBy maker p.maker p.seen (entries y)
      → Allows (L all) slots id (holding p, (0, Some y) ∷ []) 0 (λ _. 0) (Puts entries maker st (holding p, (0, Some y) ∷ []))
  puts_keep all slots id st p y grew s r wide at small =
      let v : SeatView E = holding p in
      let q : Page E = page_leaving p (entries y) in
      let w : SeatView E = idle (q ∷ []) in
      let deep : 1 ≡ length s.homes = sym r.deep in
      let out = is_out all id p s r at r.slot in let log : p.seen ≡ r.log = out.1 in let one_out : holders s.views ≡ 1 = out.0 in
      let sums = total_set (λ (z : SeatView E). once z.holds) s.views id v w at in
      let pages = total_set (λ (u : SeatView E). length u.pages) s.views id v w at in let a = r.shares in
      let was = All-head (Fits all r.log) p [] (r.each id v at).1 in let low = was.0 in
      let none_out : holders (set s.views id w) ≡ 0 = omega arith in (
        w,
        gives,
        tt,
        record {
          log = entries y;
          wide = length-set s.words 0 0 ∙ r.wide;
          deep = length-set s.homes 0 (some (Some y)) ∙ r.deep;
          shares = (omega arith);
          single = λ k. let one = r.single k in let same = total_set (λ u. times k u.pages) s.views id v w at in omega arith;
          each = at_each (Suits all (entries y)) s.views id w
              ((λ _. refl), All-cons (Fits all (entries y)) q [] (low, leaving_page maker r.log (entries y) p was.1 log grew) (All-nil (Fits all (entries y))))
              (λ j u ne e. let old = r.each j u e in (
                old.0,
                elsewhere {P = Fits all r.log} {Q = Fits all (entries y)} p.maker (λ z other fits. (fits.0, other_page maker r.log (entries y) p z other log grew fits.1)) u.pages (none_there all id p s r at j u ne e) old.1,
              ));
          made = subst (All (λ e. maker e < all)) (sym grew.1) (All-append (λ e. maker e < all) p.seen grew.0 (subst (All (λ e. maker e < all)) (sym log) r.made)
              (All-weaker (λ e. maker e ≡ p.maker) (λ e. maker e < all) (λ e h. subst (λ (m : ℕ). m < all) (sym h) low) grew.0 grew.2));
          slot = inl (word_after s.words 0 r.wide, none_out, y, set_here s.homes 0 (some (Some y)) (omega arith), refl);
        },
        λ z e. ap (λ (t : T). let m : Me (Option T) (SeatView E) = (idle (page_leaving p (entries t) ∷ []), []) in m) (ap (held_or y) e),
      )

  -- the same of a seat that is known by an equation
  pub swap_keeps : (all slots id k : ℕ) (m : Me (Option T) (SeatView E)) → IsIdle m → 0 < k → Allows (L all) slots id m 0 (λ _. k) (Takes entries maker (step slots 0 k 0 none) m)
  swap_keeps all slots id k m is lifted = subst (λ (z : Me (Option T) (SeatView E)). Allows (L all) slots id z 0 (λ _. k) (Takes entries maker (step slots 0 k 0 none) z)) (sym is)
      (takes_keep all slots id (step slots 0 k 0 none) (λ _. k) (mine m.0) (λ _. lifted))

  pub exchange_keeps : (all slots id k : ℕ) (m : Me (Option T) (SeatView E)) → IsIdle m → 0 < k → Allows (L all) slots id m 0 (λ n. either (n == 0) k n) (Takes entries maker (step slots 0 0 k none) m)
  exchange_keeps all slots id k m is lifted = subst (λ (z : Me (Option T) (SeatView E)). Allows (L all) slots id z 0 (λ n. either (n == 0) k n) (Takes entries maker (step slots 0 0 k none) z)) (sym is)
      (takes_keep all slots id (step slots 0 0 k none) (λ n. either (n == 0) k n) (mine m.0) (λ n. exchanged n 0 k (λ j. 0 < j) (λ _. lifted) (λ ne. omega (arith, ne))))

  pub puts_keep_at : (all slots id : ℕ) (p : Page E) (y : T) (m : Me (Option T) (SeatView E)) → m ≡ (holding p, (0, Some y) ∷ []) → GrewBy maker p.maker p.seen (entries y)
      → Allows (L all) slots id m 0 (λ _. 0) (Puts entries maker (step slots 0 0 0 none) m)
  puts_keep_at all slots id p y m is grew = subst (λ (z : Me (Option T) (SeatView E)). Allows (L all) slots id z 0 (λ _. 0) (Puts entries maker (step slots 0 0 0 none) z)) (sym is)
      (puts_keep all slots id (step slots 0 0 0 none) p y grew)

  splits : (all id : ℕ) (ps : List (Page E)) → 0 < length ps → Splits (L all) id (idle ps) (but_first (idle ps)) (first_only (idle ps))
  splits all id [] some_page s r at = absurd (omega arith)
  splits all id (p ∷ ps) some_page s r at =
      let v : SeatView E = idle (p ∷ ps) in
      let left : SeatView E = idle ps in
      let right : SeatView E = idle (p ∷ []) in
      let mid : List (SeatView E) = set s.views id left in
      let was = (r.each id v at).1 in
      let F : Page E → Type 0 = Fits all r.log in
      let pages = total_set (λ (u : SeatView E). length u.pages) s.views id v left at in let pages' = total_snoc (λ (u : SeatView E). length u.pages) mid right in
      let a = r.shares in
      record {
        log = r.log;
        wide = r.wide;
        deep = r.deep;
        shares = (omega arith);
        single = λ k. let one = r.single k in let same = total_set (λ u. times k u.pages) s.views id v left at in let same' = total_snoc (λ u. times k u.pages) mid right in omega arith;
        each = λ j u e. ⊎_elim
            (λ (h : get_elem? mid j ≡ some u). at_each (Suits all r.log) s.views id left ((λ out. absurd (true≢false (sym out))), All-tail F p ps was) (λ i z ne f. r.each i z f) j u h)
            (λ (h : right ≡ u). subst (Suits all r.log) h ((λ _. refl), All-cons F p [] (All-head F p ps was) (All-nil F)))
            (at_snoc mid right u j e);
        made = r.made;
        slot = longer (get_or s.words 0 0) s.homes mid r.log right refl (slot_stays (get_or s.words 0 0) s.homes s.views r.log id v left at refl refl r.slot);
      }
    where
      -- a new view that doesn't hold the value
      longer : (word : ℕ) (homes : List (maybe.Option (Option T))) (views : List (SeatView E)) (log : List E) (w : SeatView E) → w.holds ≡ false → IsPlaced entries maker word homes views log → IsPlaced entries maker word homes (views ++ w ∷ []) log
      longer word homes views log w free (inl home) = let more = total_snoc (λ (z : SeatView E). once z.holds) views w in let b : once w.holds ≡ 0 = ap once free in let none_out : holders views ≡ 0 = home.1 in
          inl (home.0, omega arith, home.2, home.3, home.4)
      longer word homes views log w free (inr out) = let more = total_snoc (λ (z : SeatView E). once z.holds) views w in let b : once w.holds ≡ 0 = ap once free in let one_out : holders views ≡ 1 = out.1 in
          inr (out.0, omega arith, out.2, out.3, at_longer views (w ∷ []) out.2 out.3 out.4, out.5, out.6)

  pub splits_keep : (all id : ℕ) (m : Me (Option T) (SeatView E)) → m ≡ (idle m.0.pages, []) → 0 < length m.0.pages → Splits (L all) id m.0 (but_first m.0) (first_only m.0)
  splits_keep all id m is some_page = subst (λ (z : SeatView E). Splits (L all) id z (but_first z) (first_only z)) (sym (ap (λ (z : Me (Option T) (SeatView E)). z.0) is)) (splits all id m.0.pages some_page)

  joins : (all id other : ℕ) (ps qs : List (Page E)) → Joins (L all) id (idle ps) other (idle qs) (before (idle ps) (idle qs)) (idle [])
  joins all id other ps qs s r at ne there =
      let v : SeatView E = idle ps in
      let w : SeatView E = idle qs in
      let both : SeatView E = idle (qs ++ ps) in
      let spent : SeatView E = idle [] in
      let mid : List (SeatView E) = set s.views id both in
      let at_other : get_elem? s.views other ≡ some w = sym (set_else s.views id other both ne) ∙ there in
      let F : Page E → Type 0 = Fits all r.log in
      let pages = total_set (λ (u : SeatView E). length u.pages) s.views id v both at in let pages' = total_set (λ (u : SeatView E). length u.pages) mid other w spent there in
      let long : length (qs ++ ps) ≡ length qs + length ps = length-append qs ps in
      let a = r.shares in
      record {
        log = r.log;
        wide = r.wide;
        deep = r.deep;
        shares = (omega arith);
        single = λ k. let one = r.single k in let same = total_set (λ u. times k u.pages) s.views id v both at in let same' = total_set (λ u. times k u.pages) mid other w spent there in let sum = times-append k qs ps in omega arith;
        each = at_each (Suits all r.log) mid other spent ((λ out. absurd (true≢false (sym out))), All-nil F)
            (λ j u apart e. at_each (Suits all r.log) s.views id both ((λ out. absurd (true≢false (sym out))), All-append F qs ps (r.each other w at_other).1 (r.each id v at).1) (λ i z n f. r.each i z f) j u e);
        made = r.made;
        slot = slot_stays (get_or s.words 0 0) s.homes mid r.log other w spent there refl refl (slot_stays (get_or s.words 0 0) s.homes s.views r.log id v both at refl refl r.slot);
      }

  pub joins_keep : (all id other : ℕ) (m n : Me (Option T) (SeatView E)) → m ≡ (idle m.0.pages, []) → n ≡ (idle n.0.pages, []) → Joins (L all) id m.0 other n.0 (before m.0 n.0) (idle [])
  joins_keep all id other m n is js = subst (λ (z : SeatView E × SeatView E). Joins (L all) id z.0 other z.1 (before z.0 z.1) (idle []))
      (λ i. (sym (ap (λ (z : Me (Option T) (SeatView E)). z.0) is) i, sym (ap (λ (z : Me (Option T) (SeatView E)). z.0) js) i)) (joins all id other m.0.pages n.0.pages)

  -- what the list has in the end, where one seat has all pages
  abbrev pub Closes : ℕ → List (Page E) → List (Option T) → Type 0
  Closes all ps xs = (x : T) × (get_elem? xs 0 ≡ some (Some x)) × All (λ p. Knows maker p (entries x)) ps × All (λ e. maker e < all) (entries x)

  closes : (all id : ℕ) (ps : List (Page E)) (xs : List (Option T)) → length ps ≡ all → (s : State (Option T) (SeatView E)) (r : L all s) → get_elem? s.views id ≡ some (idle ps)
      → ((k : ℕ) (y : Option T) → get_elem? s.homes k ≡ some (some y) → get_elem? xs k ≡ some y) → IsPlaced entries maker (get_or s.words 0 0) s.homes s.views r.log → Closes all ps xs
  closes all id ps xs long s r at values (inl home) = let x : T = home.2 in (
    x,
    values 0 (Some x) home.3,
    All-weaker (Fits all r.log) (λ p. Knows maker p (entries x)) (λ p h. subst (λ (l : List E). Knows maker p l) (sym home.4) h.1) ps (r.each id (idle ps) at).1,
    subst (All (λ e. maker e < all)) (sym home.4) r.made,
  )
  closes all id ps xs long s r at values (inr out) =
      let one : length out.3.pages ≡ 1 = (r.each out.2 out.3 out.4).0 out.5 in
      let ne : out.2 ≢ id = apart s.views id out.2 (idle ps) out.3 at out.4 refl out.5 in
      let two = total_two (λ (z : SeatView E). length z.pages) s.views id out.2 (idle ps) out.3 (λ e. ne (sym e)) at out.4 in let a = r.shares in absurd (omega arith)

  pub closes_at : (all id : ℕ) (ps : List (Page E)) (m : Me (Option T) (SeatView E)) (ws : List ℕ) (xs : List (Option T)) → m ≡ (idle ps, []) → length ps ≡ all → Final (Seen (L all) id m.0) ws xs → Closes all ps xs
  closes_at all id ps m ws xs is long final = let f = subst (λ (z : SeatView E). Final (Seen (L all) id z) ws xs) (ap (λ (z : Me (Option T) (SeatView E)). z.0) is) final in
      closes all id ps xs long f.0 f.1.0 f.1.1 f.4 f.1.0.slot

  -- the value that is taken out of the closed table
  pub ends : (all : ℕ) (ps : List (Page E)) (xs : List (Option T)) (o : Option T) (u : T) → Closes all ps xs → get_elem? xs 0 ≡ some o → o ≡ Some u → All (λ p. Knows maker p (entries u)) ps × All (λ e. maker e < all) (entries u)
  ends all ps xs o u k at is = let e : k.0 ≡ u = ap (λ (z : Option T). unwrap_or z u) (some-injective (Some k.0) o (sym k.1 ∙ at) ∙ is) in
      (subst (λ (t : T). All (λ p. Knows maker p (entries t)) ps) e k.2, subst (λ (t : T). All (λ z. maker z < all) (entries t)) e k.3)

pub idle_is : {T E : Type 0} (ps : List (Page E)) (m : Me (Option T) (SeatView E)) → m ≡ (idle ps, []) → m ≡ (idle m.0.pages, [])
idle_is {T} {E} ps m is = subst (λ (z : Me (Option T) (SeatView E)). z ≡ (idle z.0.pages, [])) (sym is) refl

pub one_idle : {T E : Type 0} (p : Page E) (m : Me (Option T) (SeatView E)) → m ≡ (idle (p ∷ []), []) → IsIdle m
one_idle {T} {E} p m is = subst (λ (z : Me (Option T) (SeatView E)). IsIdle z) (sym is) refl
