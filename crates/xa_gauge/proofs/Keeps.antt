-- Each step of a gauge keeps its rule.
use Rattle.std.proofs.Common.{◌≡◌, ◌≢◌, ℕ, eqb, ◌+◌, ◌-◌, ◌<◌, ◌≤◌, List, [], ◌∷◌, ◌++◌, length, get_or, set, sym, refl, ap, ◌∙◌, subst, arith, length-set, length-append, get_or-set_same, ⊎_elim}
use mathlib.Core.Logic.{dite}
use native.Mathlib.Decide.{ℕ_discrete}
use mathlib.Core.Option.{none, some}
use prog.Atomic.{either}
use lib.ListN.{get_elem?}
use Rattle.atomic_table.specs.Table.{State, Me, keeps, step, stepped, Valid, carried_after, Act, Allows, Splits, Joins}
use Rattle.atomic_table.proofs.Lists.{at_set, set_again, exchanged}
use Rattle.xa_gauge.specs.declared.moves.Limits.{Limits}
use Rattle.xa_gauge.specs.declared.moves.Move.{Move}
use Rattle.xa_gauge.specs.declared.moves.Move.TheVariants.{Up, Down, Full, Empty}
use Rattle.xa_gauge.specs.declared.moves.Knows.{Knows}
use Rattle.xa_gauge.specs.Gauge.{nothing, knows, after, May, Entry, level, own, ups_of, downs_of, Legal, noted, total, Fits, Gauged, Ordered, looks_up, looks_down, goes_up, goes_down, counts}
use Rattle.xa_gauge.proofs.Orders.{own_mine, own_other, level_after, legal_after, moved, stays_low, set_got, at_below, at_end, total_set, total_end, part_of, only}

module _ (key : Limits) (s : State ℕ Knows) (r : Gauged key s) (id : ℕ) (v : Knows) (at : get_elem? s.views id ≡ some v) (part : 0 < v.parts) where
  abbrev now : ℕ
  now = level key.start r.hist

  mine : (v.of ≡ key) × (own id r.hist ≡ v.moves)
  mine = (r.each id v at).0 part

  stays : Gauged key (record { words = set s.words 0 (get_or s.words 0 0); homes = s.homes; views = set s.views id v })
  stays = subst (λ (t : List ℕ × List Knows). Gauged key (record { words = t.0; homes = s.homes; views = t.1 })) (λ i. (sym (set_got s.words) i, sym (set_again s.views id v at) i)) r

  -- the state after a call that may end so
  goes : (m : Move) (x : ℕ) → May key.full now m → x ≡ after now m → Gauged key (record { words = set s.words 0 x; homes = s.homes; views = set s.views id (noted v m) })
  goes m x may is =
      let w : Knows = noted v m in
      let hist : List Entry = r.hist ++ (id, m) ∷ [] in
      let long : 1 ≡ length s.words = sym r.one in
      let next : level key.start hist ≡ after now m = level_after key.start r.hist (id, m) in
      let change : after now m + downs_of m ≡ now + ups_of m = moved key.full now m may in
      let parts = total_set (λ u. u.parts) s.views id v w at in
      let ups = total_set (λ u. u.ups) s.views id v w at in
      let downs = total_set (λ u. u.downs) s.views id v w at in
      let b = r.balance in let sh = r.shares in
      record {
        hist = hist;
        one = length-set s.words 0 x ∙ r.one;
        word = get_or-set_same s.words 0 x 0 (omega arith) ∙ (is ∙ sym next);
        low = subst (λ (k : ℕ). k ≤ key.full) (sym next) (stays_low key.full now m may r.low);
        small = r.small;
        legal = legal_after key.full key.start r.hist (id, m) r.legal may;
        each = λ j u e. ⊎_elim
            (λ (h : (j ≡ id) × (w ≡ u)). subst (λ (y : ℕ × Knows). Fits key hist y.0 y.1) (λ i. (sym h.0 i, h.1 i))
            ((λ _. (mine.0, own_mine id m r.hist ∙ ap (λ l. l ++ m ∷ []) mine.1)), λ (z : v.parts ≡ 0). absurd (omega (arith, z, part))))
            (λ (h : (j ≢ id) × (get_elem? s.views j ≡ some u)). let was = r.each j u h.1 in ((λ p. ((was.0 p).0, own_other j id m r.hist h.0 ∙ (was.0 p).1)), was.1))
            (at_set s.views id j w u e);
        others = λ j le. let wide : length (set s.views id w) ≡ length s.views = length-set s.views id w in
            let below = at_below s.views id v at in
            own_other j id m r.hist (λ e. omega (arith, wide, below, le, e)) ∙ r.others j (omega (arith, wide, le));
        alone = λ one. length-set s.views id w ∙ r.alone one;
        shares = omega arith;
        balance = omega arith;
      }

  -- a call that may end so stands last in the order
  ordered : (m : Move) → May key.full now m → Ordered (noted v m)
  ordered m may =
      let hist : List Entry = r.hist ++ (id, m) ∷ [] in record {
        all = hist;
        pass = id;
        legal = subst (λ (k : Limits). Legal k.full k.start hist) (sym mine.0) (legal_after key.full key.start r.hist (id, m) r.legal may);
        calls = own_mine id m r.hist ∙ ap (λ l. l ++ m ∷ []) mine.1;
        alone = λ one j ne.
            let views = r.alone (sym (ap (λ (k : Limits). k.passes) mine.0) ∙ one) in
            let below = at_below s.views id v at in
            own_other j id m r.hist ne ∙ r.others j (omega (arith, views, below, ne));
      }

module _ (key : Limits) (slots id : ℕ) (me : Me ℕ Knows) (part : 0 < me.0.parts) (of : me.0.of ≡ key) where
  pub looks_up_keep : Allows (Gauged key) slots id me 0 (λ n. n) (looks_up (step slots 0 0 0 none) me)
  looks_up_keep s r wide at small =
      let x : ℕ = get_or s.words 0 0 in
      let full : me.0.of.full ≡ key.full = ap (λ (k : Limits). k.full) of in
      let word : x ≡ level key.start r.hist = r.word in
      dite (ℕ_discrete x me.0.of.full)
      (λ (e : x ≡ me.0.of.full). (noted me.0 Full, keeps, tt, goes key s r id me.0 at part Full x (sym word ∙ (e ∙ full)) word, ((λ _. (refl, ordered key s r id me.0 at part Full (sym word ∙ (e ∙ full)))), λ (ne : x ≢ me.0.of.full). absurd (ne e))))
      (λ (ne : x ≢ me.0.of.full). let low = r.low in (me.0, keeps, tt, stays key s r id me.0 at part, ((λ (e : x ≡ me.0.of.full). absurd (ne e)), λ _. (refl, omega (arith, ne, full, word, low)))))

  pub looks_down_keep : Allows (Gauged key) slots id me 0 (λ n. n) (looks_down (step slots 0 0 0 none) me)
  looks_down_keep s r wide at small =
      let x : ℕ = get_or s.words 0 0 in
      let full : me.0.of.full ≡ key.full = ap (λ (k : Limits). k.full) of in
      let word : x ≡ level key.start r.hist = r.word in
      dite (ℕ_discrete x 0)
      (λ (e : x ≡ 0). (noted me.0 Empty, keeps, tt, goes key s r id me.0 at part Empty x (sym word ∙ e) word, ((λ _. (refl, ordered key s r id me.0 at part Empty (sym word ∙ e))), λ (ne : x ≢ 0). absurd (ne e))))
      (λ (ne : x ≢ 0). let low = r.low in (me.0, keeps, tt, stays key s r id me.0 at part, ((λ (e : x ≡ 0). absurd (ne e)), λ _. (refl, omega (arith, full, word, low)))))

  pub goes_up_keep : (old : ℕ) → old < key.full → Allows (Gauged key) slots id me 0 (λ n. either (eqb n old) (old + 1) n) (goes_up (step slots 0 old (old + 1) none) me)
  goes_up_keep old room s r wide at small =
      let x : ℕ = get_or s.words 0 0 in
      let word : x ≡ level key.start r.hist = r.word in
      exchanged x old (old + 1) (λ y. (w : Knows) × (a : Act ℕ) × Valid s.homes me.1 a × Gauged key (stepped s 0 y id me.1 w a) × goes_up (step slots 0 old (old + 1) none) me x (w, carried_after me.1 a))
      (λ (e : x ≡ old). (noted me.0 Up, keeps, tt, goes key s r id me.0 at part Up (old + 1) (omega (arith, room, e, word)) (omega (arith, e, word)), ((λ _. (refl, ordered key s r id me.0 at part Up (omega (arith, room, e, word)))), λ (ne : x ≢ old). absurd (ne e))))
      (λ (ne : x ≢ old). (me.0, keeps, tt, stays key s r id me.0 at part, ((λ (e : x ≡ old). absurd (ne e)), λ _. refl)))

  pub goes_down_keep : (old : ℕ) → 0 < old → Allows (Gauged key) slots id me 0 (λ n. either (eqb n old) (old - 1) n) (goes_down (step slots 0 old (old - 1) none) me)
  goes_down_keep old some_left s r wide at small =
      let x : ℕ = get_or s.words 0 0 in
      let word : x ≡ level key.start r.hist = r.word in
      exchanged x old (old - 1) (λ y. (w : Knows) × (a : Act ℕ) × Valid s.homes me.1 a × Gauged key (stepped s 0 y id me.1 w a) × goes_down (step slots 0 old (old - 1) none) me x (w, carried_after me.1 a))
      (λ (e : x ≡ old). (noted me.0 Down, keeps, tt, goes key s r id me.0 at part Down (old - 1) (omega (arith, some_left, e, word)) (ap (λ (k : ℕ). k - 1) (sym e ∙ word)), ((λ _. (refl, ordered key s r id me.0 at part Down (omega (arith, some_left, e, word)))), λ (ne : x ≢ old). absurd (ne e))))
      (λ (ne : x ≢ old). (me.0, keeps, tt, stays key s r id me.0 at part, ((λ (e : x ≡ old). absurd (ne e)), λ _. refl)))

pub counts_keep : (key : Limits) (slots id : ℕ) (me : Me ℕ Knows) → 0 < me.0.parts → me.0.parts ≡ key.passes → Allows (Gauged key) slots id me 0 (λ n. n) (counts (step slots 0 0 0 none) me)
counts_keep key slots id me part all s r wide at small =
    let own_key : me.0.of.start ≡ key.start = ap (λ (k : Limits). k.start) ((r.each id me.0 at).0 part).0 in
    let ups : total (λ v. v.ups) s.views ≡ me.0.ups = only (λ v. v.ups) s.views id me.0 at (r.shares ∙ sym all) (λ j u a z. ((r.each j u a).1 z).0) in
    let downs : total (λ v. v.downs) s.views ≡ me.0.downs = only (λ v. v.downs) s.views id me.0 at (r.shares ∙ sym all) (λ j u a z. ((r.each j u a).1 z).1) in
    let word : get_or s.words 0 0 ≡ level key.start r.hist = r.word in
    let b = r.balance in
    let own_full : me.0.of.full ≡ key.full = ap (λ (k : Limits). k.full) ((r.each id me.0 at).0 part).0 in let low = r.low in
    (me.0, keeps, tt, stays key s r id me.0 at part, (refl, omega (arith, own_key, ups, downs, word, b), omega (arith, own_full, word, low)))

pub splits_keep : (key : Limits) (id : ℕ) (v : Knows) → 1 < v.parts → Splits (Gauged key) id v (knows v.of (v.parts - 1) v.moves v.ups v.downs) (knows v.of 1 [] 0 0)
splits_keep key id v two s r at =
    let part : 0 < v.parts = omega (arith, two) in
    let left : Knows = knows v.of (v.parts - 1) v.moves v.ups v.downs in
    let right : Knows = knows v.of 1 [] 0 0 in
    let half : List Knows = set s.views id left in
    let wide : length half ≡ length s.views = length-set s.views id left in
    let mine = (r.each id v at).0 part in
    let p = total_set (λ u. u.parts) s.views id v left at in let p' = total_end (λ u. u.parts) half right in
    let a = total_set (λ u. u.ups) s.views id v left at in let a' = total_end (λ u. u.ups) half right in
    let d = total_set (λ u. u.downs) s.views id v left at in let d' = total_end (λ u. u.downs) half right in
    let b = r.balance in let sh = r.shares in
    record {
      hist = r.hist;
      one = r.one;
      word = r.word;
      low = r.low;
      small = r.small;
      legal = r.legal;
      each = λ j u e. ⊎_elim
          (λ in_half. ⊎_elim
          (λ (h : (j ≡ id) × (left ≡ u)). subst (λ (y : ℕ × Knows). Fits key r.hist y.0 y.1) (λ i. (sym h.0 i, h.1 i)) ((λ _. mine), λ (z : v.parts - 1 ≡ 0). absurd (omega (arith, z, two))))
          (λ (h : (j ≢ id) × (get_elem? s.views j ≡ some u)). r.each j u h.1) (at_set s.views id j left u in_half))
          (λ (h : (j ≡ length half) × (right ≡ u)). subst (λ (y : ℕ × Knows). Fits key r.hist y.0 y.1) (λ i. (sym h.0 i, h.1 i))
          ((λ _. (mine.0, r.others (length half) (omega (arith, wide)))), λ (z : 1 ≡ 0). absurd (omega (arith, z))))
          (at_end half right u j e);
      others = λ j le. let more = length-append half (right ∷ []) in r.others j (omega (arith, le, wide, more));
      alone = λ one. let most = part_of s.views id v at in absurd (omega (arith, one, most, sh, two));
      shares = omega (arith, two);
      balance = omega arith;
    }

pub joins_keep : (key : Limits) (id : ℕ) (v : Knows) (other : ℕ) (w : Knows) → 0 < v.parts → Joins (Gauged key) id v other w (knows v.of (v.parts + w.parts) v.moves (v.ups + w.ups) (v.downs + w.downs)) (knows nothing 0 [] 0 0)
joins_keep key id v other w part s r at apart there =
    let both : Knows = knows v.of (v.parts + w.parts) v.moves (v.ups + w.ups) (v.downs + w.downs) in
    let spent : Knows = knows nothing 0 [] 0 0 in
    let half : List Knows = set s.views id both in
    let mine = (r.each id v at).0 part in
    let p = total_set (λ u. u.parts) s.views id v both at in let p' = total_set (λ u. u.parts) half other w spent there in
    let a = total_set (λ u. u.ups) s.views id v both at in let a' = total_set (λ u. u.ups) half other w spent there in
    let d = total_set (λ u. u.downs) s.views id v both at in let d' = total_set (λ u. u.downs) half other w spent there in
    let b = r.balance in let sh = r.shares in
    record {
      hist = r.hist;
      one = r.one;
      word = r.word;
      low = r.low;
      small = r.small;
      legal = r.legal;
      each = λ j u e. ⊎_elim
          (λ (h : (j ≡ other) × (spent ≡ u)). subst (λ (y : Knows). Fits key r.hist j y) h.1 ((λ (z : 0 < 0). absurd (omega (arith, z))), λ _. (refl, refl)))
          (λ (k : (j ≢ other) × (get_elem? half j ≡ some u)). ⊎_elim
          (λ (h : (j ≡ id) × (both ≡ u)). subst (λ (y : ℕ × Knows). Fits key r.hist y.0 y.1) (λ i. (sym h.0 i, h.1 i)) ((λ _. mine), λ (z : v.parts + w.parts ≡ 0). absurd (omega (arith, z, part))))
          (λ (h : (j ≢ id) × (get_elem? s.views j ≡ some u)). r.each j u h.1) (at_set s.views id j both u k.1))
          (at_set half other j spent u e);
      others = λ j le. let wide = length-set half other spent in let wide' = length-set s.views id both in r.others j (omega (arith, le, wide, wide'));
      alone = λ one. length-set half other spent ∙ (length-set s.views id both ∙ r.alone one);
      shares = omega arith;
      balance = omega arith;
    }
