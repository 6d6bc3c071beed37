-- What a pass knows of a list of entries, whatever these are, once it has left.
use Rattle.std.proofs.Common.{◌≡◌, ℕ, List, ◌++◌, drop, length, sym, ap, ◌∙◌, subst}
use Rattle.std.specs.List.{All}
use Rattle.std.proofs.Math.Seq.{drop-append_seam}
use Rattle.xa_lock.specs.declared.pass.Page.{Page}
use Rattle.xa_lock.specs.Pages.{GrewBy, page_seeing, page_leaving}

-- the pass p entered, was q there, found `before`, and left `behind`, which has these entries more
module _ {E : Type 0} (p q : Page E) (before behind more : List E) (found : q ≡ page_seeing p before) (grew : behind ≡ before ++ more) where
  seen_more : behind ≡ q.seen ++ more
  seen_more = grew ∙ ap (λ (l : List E). l ++ more) (sym (ap (λ (z : Page E). z.seen) found))

  pub grown_by : (maker : E → ℕ) → All (λ (z : E). maker z ≡ p.maker) more → GrewBy maker q.maker q.seen behind
  grown_by maker ours = (more, seen_more, subst (λ (n : ℕ). All (λ (z : E). maker z ≡ n) more) (sym (ap (λ (z : Page E). z.maker) found)) ours)

  module _ (q' : Page E) (left : q' ≡ page_leaving q behind) where
    pub same_maker : q'.maker ≡ p.maker
    same_maker = ap (λ (z : Page E). z.maker) left ∙ ap (λ (z : Page E). z.maker) found

    pub own_more : q'.own ≡ p.own ++ more
    own_more =
        ap (λ (z : Page E). z.own) left ∙ ap (λ (l : List E). q.own ++ drop (length q.seen) l) seen_more ∙ ap (λ (l : List E). q.own ++ l) (drop-append_seam q.seen more)
        ∙ ap (λ (z : Page E). z.own ++ more) found
