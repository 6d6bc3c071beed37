-- Lists of views, of pages and of entries.
use Rattle.std.proofs.Common.{◌≡◌, ◌≢◌, ℕ, zero, suc, ◌+◌, ◌<◌, ◌≤◌, ◌==◌, true, false, cond, List, [], ◌∷◌, ◌++◌, map, length, drop, set, sym, refl, ap, subst, ◌∙◌, arith, append-nil, append_assoc, ◌⊎◌, inl, inr, ⊎_elim, eq-eqb, ne_eqb}
use Rattle.std.proofs.Math.Seq.{drop-append_seam}
use Rattle.std.proofs.lemmas.List.Elements.{filter-append, All-nil, All-cons, All-head, All-tail, All-push}
use Rattle.std.specs.List.{All}
use mathlib.Core.Option.{some, some-injective, some-ne-none}
use native.Mathlib.Decide.{ℕ_discrete}
use lib.ListN.{get_elem?, get_or, get_or-map}
use Rattle.xa_lock.specs.declared.pass.Page.{Page}
use Rattle.xa_lock.specs.declared.pass.SeatView.{SeatView}
use Rattle.xa_lock.specs.Pages.{StartsWith, Knows, GrewBy, entries_by, page_leaving, first_own, first_page, first_of}
use Rattle.xa_lock.specs.Views.{rest_of, first_pages}
use Rattle.xa_lock.specs.Rule.{total, times, once}

at_most_one : (a b : ℕ) → once (a == b) ≤ 1
at_most_one a b = elim (a == b) as (λ c. once c ≤ 1) [ true ↦ omega arith | false ↦ omega arith ]

decided : (a b : ℕ) → (a ≡ b) ⊎ (a ≢ b)
decided a b = elim (ℕ_discrete a b) [ yes e ↦ inl e | no ne ↦ inr ne ]

module _ {E : Type 0} where
  pub total_set : (f : SeatView E → ℕ) (l : List (SeatView E)) (i : ℕ) (v w : SeatView E) → get_elem? l i ≡ some v → total f (set l i w) + f v ≡ total f l + f w
  total_set f [] i v w e = absurd (some-ne-none v (sym e))
  total_set f (x ∷ xs) zero v w e = let is : f x ≡ f v = ap f (some-injective x v e) in omega arith
  total_set f (x ∷ xs) (suc i) v w e = let r = total_set f xs i v w e in omega arith

  pub total_snoc : (f : SeatView E → ℕ) (l : List (SeatView E)) (w : SeatView E) → total f (l ++ w ∷ []) ≡ total f l + f w
  total_snoc f [] w = omega arith
  total_snoc f (x ∷ xs) w = let r = total_snoc f xs w in omega arith

  pub total_one : (f : SeatView E → ℕ) (l : List (SeatView E)) (i : ℕ) (v : SeatView E) → get_elem? l i ≡ some v → f v ≤ total f l
  total_one f [] i v e = absurd (some-ne-none v (sym e))
  total_one f (x ∷ xs) zero v e = let is : f x ≡ f v = ap f (some-injective x v e) in omega arith
  total_one f (x ∷ xs) (suc i) v e = let r = total_one f xs i v e in omega arith

  pub total_two : (f : SeatView E → ℕ) (l : List (SeatView E)) (i j : ℕ) (v w : SeatView E) → i ≢ j → get_elem? l i ≡ some v → get_elem? l j ≡ some w → f v + f w ≤ total f l
  total_two f [] i j v w n e g = absurd (some-ne-none v (sym e))
  total_two f (x ∷ xs) zero zero v w n e g = absurd (n refl)
  total_two f (x ∷ xs) zero (suc j) v w n e g = let is : f x ≡ f v = ap f (some-injective x v e) in let r = total_one f xs j w g in omega arith
  total_two f (x ∷ xs) (suc i) zero v w n e g = let is : f x ≡ f w = ap f (some-injective x w g) in let r = total_one f xs i v e in omega arith
  total_two f (x ∷ xs) (suc i) (suc j) v w n e g = let r = total_two f xs i j v w (λ h. n (ap suc h)) e g in omega arith

  pub set_mine : (l : List (SeatView E)) (i : ℕ) (v w : SeatView E) → get_elem? l i ≡ some v → get_elem? (set l i w) i ≡ some w
  set_mine [] i v w e = absurd (some-ne-none v (sym e))
  set_mine (x ∷ xs) zero v w e = refl
  set_mine (x ∷ xs) (suc i) v w e = set_mine xs i v w e

  pub times-append : (k : ℕ) (ps qs : List (Page E)) → times k (ps ++ qs) ≡ times k ps + times k qs
  times-append k [] qs = omega arith
  times-append k (p ∷ ps) qs = let r = times-append k ps qs in omega arith

  pub times_mine : (p : Page E) (ps : List (Page E)) → 1 ≤ times p.maker (p ∷ ps)
  times_mine p ps = let one : once (p.maker == p.maker) ≡ 1 = ap once (eq-eqb p.maker p.maker refl) in omega arith

  times_tail : (k : ℕ) (p : Page E) (ps : List (Page E)) → times k (p ∷ ps) ≡ 0 → (p.maker ≢ k) × (times k ps ≡ 0)
  times_tail k p ps none = ((λ e. let one : once (p.maker == k) ≡ 1 = ap once (eq-eqb p.maker k e) in omega arith), omega arith)

  -- what holds of the pages of other makers, where none of the pages is of this one
  pub elsewhere : {P Q : Page E → Type 0} (k : ℕ) (f : (p : Page E) → p.maker ≢ k → P p → Q p) (ps : List (Page E)) → times k ps ≡ 0 → All P ps → All Q ps
  elsewhere {P} {Q} k f [] none h = All-nil Q
  elsewhere {P} {Q} k f (p ∷ ps) none h = let t = times_tail k p ps none in All-cons Q p ps (f p t.0 (All-head P p ps h)) (elsewhere {P = P} {Q = Q} k f ps t.1 (All-tail P p ps h))

  -- the pages at the start
  pub length-first_pages : (es : List E) (k n : ℕ) → length (first_pages es k n) ≡ n
  length-first_pages es k zero = refl
  length-first_pages es k (suc n) = let r = length-first_pages es (suc k) n in omega arith

  first_pages-at : (es : List E) (from n k : ℕ) (d : Page E) → k < n → get_or (first_pages es from n) k d ≡ first_page (from + k) es
  first_pages-at es from zero k d lt = absurd (omega arith)
  first_pages-at es from (suc n) zero d lt = let same : from ≡ from + 0 = omega arith in ap (λ (i : ℕ). first_page i es) same
  first_pages-at es from (suc n) (suc k) d lt = let same : suc from + k ≡ from + suc k = omega arith in first_pages-at es (suc from) n k d (omega (arith, lt)) ∙ ap (λ (i : ℕ). first_page i es) same

  -- the pages of passes, where in order they are those at the start
  pub first_at : {X : Type 0} (f : X → Page E) (es : List E) (n : ℕ) (xs : List X) → map f xs ≡ first_pages es 0 n → (k : ℕ) (d : X) → k < n → f (get_or xs k d) ≡ first_page k es
  first_at f es n xs same k d lt =
      let here : 0 + k ≡ k = omega arith in
      sym (get_or-map f xs k d) ∙ (ap (λ (l : List (Page E)). get_or l k (f d)) same ∙ (first_pages-at es 0 n k (f d) lt ∙ ap (λ (i : ℕ). first_page i es) here))

  pub none_before : (es : List E) (m k n : ℕ) → m < k → times m (first_pages es k n) ≡ 0
  none_before es m k zero lt = refl
  none_before es m k (suc n) lt = let r = none_before es m (suc k) n (omega arith) in let no : once (k == m) ≡ 0 = ap once (ne_eqb k m (λ e. omega arith)) in omega arith

  pub once_each : (es : List E) (m k n : ℕ) → times m (first_pages es k n) ≤ 1
  once_each es m k zero = omega arith
  once_each es m k (suc n) = ⊎_elim
      (λ (e : k ≡ m). let none : times m (first_pages es (suc k) n) ≡ 0 = none_before es m (suc k) n (omega arith) in let a = at_most_one k m in omega arith)
      (λ (ne : k ≢ m). let no : once (k == m) ≡ 0 = ap once (ne_eqb k m ne) in let r = once_each es m (suc k) n in omega arith)
      (decided k m)

  pub starts_itself : (es : List E) → StartsWith es es
  starts_itself es = ([], sym (append-nil es))

  pub starts_further : (a b c : List E) → StartsWith a b → StartsWith b c → StartsWith a c
  starts_further a b c x y = (y.0 ++ x.0, x.1 ∙ (ap (λ l. l ++ x.0) y.1 ∙ append_assoc c y.0 x.0))

  module _ (maker : E → ℕ) where
    pub by_all : (k : ℕ) (es : List E) → All (λ e. maker e ≡ k) es → entries_by maker k es ≡ es
    by_all k [] h = refl
    by_all k (e ∷ es) h = ap (λ b. cond b (e ∷ entries_by maker k es) (entries_by maker k es)) (eq-eqb (maker e) k (h 0 e (omega arith))) ∙ ap (λ (l : List E). e ∷ l) (by_all k es (All-tail (λ (x : E). maker x ≡ k) e es h))

    pub by_none : (k m : ℕ) (es : List E) → m ≢ k → All (λ e. maker e ≡ m) es → entries_by maker k es ≡ []
    by_none k m [] ne h = refl
    by_none k m (e ∷ es) ne h = ap (λ b. cond b (e ∷ entries_by maker k es) (entries_by maker k es)) (ne_eqb (maker e) k (λ (q : maker e ≡ k). ne (sym (h 0 e (omega arith)) ∙ q))) ∙ by_none k m es ne (All-tail (λ (x : E). maker x ≡ m) e es h)

    -- the page of who leaves
    pub leaving_page : (log es : List E) (p : Page E) → Knows maker p log → p.seen ≡ log → GrewBy maker p.maker p.seen es → Knows maker (page_leaving p es) es
    leaving_page log es p is seen grew =
        let more = grew.0 in
        let parts : entries_by maker p.maker es ≡ entries_by maker p.maker p.seen ++ entries_by maker p.maker more = ap (entries_by maker p.maker) grew.1 ∙ filter-append (λ e. maker e == p.maker) p.seen more in
        let old : entries_by maker p.maker p.seen ≡ p.own = ap (entries_by maker p.maker) seen ∙ is.0 in
        let new : entries_by maker p.maker more ≡ drop (length p.seen) es = by_all p.maker more grew.2 ∙ sym (ap (drop (length p.seen)) grew.1 ∙ drop-append_seam p.seen more) in
        (parts ∙ (ap (λ (l : List E). l ++ entries_by maker p.maker more) old ∙ ap (λ (l : List E). p.own ++ l) new), starts_itself es)

    -- the page of another maker
    pub other_page : (log es : List E) (p q : Page E) → q.maker ≢ p.maker → p.seen ≡ log → GrewBy maker p.maker p.seen es → Knows maker q log → Knows maker q es
    other_page log es p q ne seen grew is =
        let more = grew.0 in
        let parts : entries_by maker q.maker es ≡ entries_by maker q.maker p.seen ++ entries_by maker q.maker more = ap (entries_by maker q.maker) grew.1 ∙ filter-append (λ e. maker e == q.maker) p.seen more in
        let old : entries_by maker q.maker p.seen ≡ q.own = ap (entries_by maker q.maker) seen ∙ is.0 in
        let new : entries_by maker q.maker more ≡ [] = by_none q.maker p.maker more (λ e. ne (sym e)) grew.2 in (
          parts ∙ (ap (λ (l : List E). l ++ entries_by maker q.maker more) old ∙ (ap (λ (l : List E). q.own ++ l) new ∙ append-nil q.own)),
          starts_further es log q.seen (more, grew.1 ∙ ap (λ (l : List E). l ++ more) seen) is.1,
        )

    -- the pages at the start fit the list at the start
    pub first_known : (all : ℕ) (es : List E) (k n : ℕ) → All (λ e. maker e ≡ 0) es → k + n ≤ all → All (λ p. (p.maker < all) × Knows maker p es) (first_pages es k n)
    first_known all es k zero h le = All-nil (λ (p : Page E). (p.maker < all) × Knows maker p es)
    first_known all es k (suc n) h le = All-cons (λ (p : Page E). (p.maker < all) × Knows maker p es) (first_page k es) (first_pages es (suc k) n) (omega arith, (own k, starts_itself es)) (first_known all es (suc k) n h (omega arith))
      where
        own : (j : ℕ) → entries_by maker j es ≡ first_own es j
        own zero = by_all 0 es h
        own (suc j) = by_none (suc j) 0 es (λ e. omega arith) h

  -- a page is dealt out
  pub pages_split : (ps : List (Page E)) → 0 < length ps → first_of ps ∷ rest_of ps ≡ ps
  pages_split [] h = absurd (omega arith)
  pages_split (p ∷ ps) h = refl

  pub length-rest_of : (ps : List (Page E)) → 0 < length ps → length (rest_of ps) + 1 ≡ length ps
  length-rest_of [] h = absurd (omega arith)
  length-rest_of (p ∷ ps) h = omega arith

  pub only_page : (ps : List (Page E)) → length ps ≡ 1 → ps ≡ first_of ps ∷ []
  only_page [] h = absurd (omega arith)
  only_page (p ∷ []) h = refl
  only_page (p ∷ (q ∷ ps)) h = absurd (omega arith)

  pub dealt : (ks ps all : List (Page E)) → 0 < length ps → ks ++ ps ≡ all → (ks ++ first_of ps ∷ []) ++ rest_of ps ≡ all
  dealt ks ps all h e = append_assoc ks (first_of ps ∷ []) (rest_of ps) ∙ (ap (λ (l : List (Page E)). ks ++ l) (pages_split ps h) ∙ e)

  -- the same, behind the step
  pub dealt_out : (ks ks' ps ps' all : List (Page E)) (k : Page E) → ks' ≡ ks ++ k ∷ [] → k ≡ first_of ps → ps' ≡ rest_of ps → 0 < length ps → ks ++ ps ≡ all → ks' ++ ps' ≡ all
  dealt_out ks ks' ps ps' all k more first rest h e = (λ i. (more ∙ ap (λ p. ks ++ p ∷ []) first) i ++ rest i) ∙ dealt ks ps all h e

  pub last_dealt : (ks ks' ps all : List (Page E)) (k : Page E) → ks' ≡ ks ++ k ∷ [] → k ≡ first_of ps → length ps ≡ 1 → ks ++ ps ≡ all → ks' ≡ all
  last_dealt ks ks' ps all k more first one e = more ∙ (ap (λ p. ks ++ p ∷ []) first ∙ (ap (λ l. ks ++ l) (sym (only_page ps one)) ∙ e))

  -- a page is taken back in
  pub gathered : (ks mm ps qs all : List (Page E)) (k : Page E) → mm ≡ ks ++ k ∷ [] → mm ++ ps ≡ all → qs ≡ k ∷ ps → ks ++ qs ≡ all
  gathered ks mm ps qs all k e f g = ap (λ (l : List (Page E)). ks ++ l) g ∙ (sym (append_assoc ks (k ∷ []) ps) ∙ (ap (λ (l : List (Page E)). l ++ ps) (sym e) ∙ f))

pub All_push : {X : Type 0} (P : X → Type 0) (xs ys : List X) (x : X) → ys ≡ xs ++ x ∷ [] → All P xs → P x → All P ys
All_push P xs ys x is all one = subst (All P) (sym is) (All-push P xs x all one)

pub unmap : {X Y : Type 0} (P : Y → Type 0) (f : X → Y) (xs : List X) → All P (map f xs) → All (λ x. P (f x)) xs
unmap {X} P f [] h = All-nil (λ (x : X). P (f x))
unmap {X} P f (x ∷ xs) h = All-cons (λ (z : X). P (f z)) x xs (All-head P (f x) (map f xs) h) (unmap P f xs (All-tail P (f x) (map f xs) h))
