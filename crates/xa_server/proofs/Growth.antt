-- What was taken and filled stands behind each change of a view.
use Rattle.std.proofs.Common.{◌≡◌, ◌≢◌, ℕ, List, [], ◌∷◌, ◌++◌, sym, subst, ⊎_elim}
use Rattle.std.specs.List.{Contains}
use Rattle.std.proofs.lemmas.List.Elements.{Contains-append_left}
use Rattle.xa_caller.specs.xa_cell.declared.view.Fill.{Fill}
use Rattle.xa_caller.specs.xa_cell.declared.view.Opening.{Opening}
use Rattle.xa_caller.specs.xa_cell.declared.view.View.{View}
use Rattle.xa_caller.specs.xa_cell.Growing.{Keeps, TakesMore, FillsMore}
use Rattle.xa_caller.specs.xa_cell.Views.{at, fill}
use Rattle.xa_caller.proofs.xa_cell.Lists.{decided}
use Rattle.xa_server.specs.Growing.{Grows}

-- what holds at k and at each other number
pub only_at : (P : ℕ → Type 0) (k : ℕ) → P k → ((j : ℕ) → j ≢ k → P j) → (j : ℕ) → P j
only_at P k here other j = ⊎_elim (λ (e : j ≡ k). subst P (sym e) here) (λ (ne : j ≢ k). other j ne) (decided j k)

module _ {A : Type 0} where
  -- what is among these is among the same, and among the same with more behind them
  kept : (xs ys : List (Fill A)) (f : Fill A) → ys ≡ xs → Contains xs f → Contains ys f
  kept xs ys f e h = subst (λ l. Contains l f) (sym e) h

  longer : (xs ys : List (Fill A)) (x f : Fill A) → ys ≡ xs ++ x ∷ [] → Contains xs f → Contains ys f
  longer xs ys x f e h = subst (λ l. Contains l f) (sym e) (Contains-append_left xs (x ∷ []) f h)

  pub keeps_grows : (v w : View A) → Keeps v w → Grows v w
  keeps_grows v w g = record {
    taken = λ k f h. kept (at k v).taken (at k w).taken f (g.each k).taken h;
    filled = λ k f h. kept (at k v).filled (at k w).filled f (g.each k).filled h;
  }

  pub takes_grows : (k : ℕ) (a : A) (v w : View A) → TakesMore k a v w → Grows v w
  takes_grows k a v w g = record {
    taken = only_at (λ i. (f : Fill A) → Contains (at i v).taken f → Contains (at i w).taken f) k (λ f h. longer (at k v).taken (at k w).taken (fill g.opening a) f g.taken h)
        (λ j ne f h. kept (at j v).taken (at j w).taken f (g.others j ne).taken h);
    filled = only_at (λ i. (f : Fill A) → Contains (at i v).filled f → Contains (at i w).filled f) k (λ f h. kept (at k v).filled (at k w).filled f g.filled h)
        (λ j ne f h. kept (at j v).filled (at j w).filled f (g.others j ne).filled h);
  }

  pub fills_grows : (k : ℕ) (o : Opening) (a : A) (v w : View A) → FillsMore k o a v w → Grows v w
  fills_grows k o a v w g = record {
    taken = only_at (λ i. (f : Fill A) → Contains (at i v).taken f → Contains (at i w).taken f) k (λ f h. kept (at k v).taken (at k w).taken f g.taken h)
        (λ j ne f h. kept (at j v).taken (at j w).taken f (g.others j ne).taken h);
    filled = only_at (λ i. (f : Fill A) → Contains (at i v).filled f → Contains (at i w).filled f) k (λ f h. longer (at k v).filled (at k w).filled (fill o a) f g.filled h)
        (λ j ne f h. kept (at j v).filled (at j w).filled f (g.others j ne).filled h);
  }

  pub both_grow : (u v w : View A) → Grows u v → Grows v w → Grows u w
  both_grow u v w g h = record { taken = λ k f z. h.taken k f (g.taken k f z); filled = λ k f z. h.filled k f (g.filled k f z) }
