use Rattle.std.proofs.Common.{append_assoc, ap, sym, arith, length, length-append, length-take, ◌∙◌, ◌≡◌, ◌≤◌, ◌<◌, ◌+◌, ◌-◌, ◌++◌, take, drop, ℕ, List, Option, Some, None, option_map}
use Rattle.std.proofs.Math.Seq.{take-add}
use Rattle.xa_link.specs.Told.{Grew}

pub gave_more : (at n : ℕ) (xs into : List ℕ) → take n into ≡ take n (drop at xs) → take (at + n) xs ≡ take at xs ++ take n into
gave_more at n xs into same = take-add at n xs ∙ ap (λ z. take at xs ++ z) (sym same)

append_more : (xs p : List ℕ) (at n : ℕ) → (xs ++ take at p) ++ take n (drop at p) ≡ xs ++ take (at + n) p
append_more xs p at n = append_assoc xs (take at p) (take n (drop at p)) ∙ ap (λ z. xs ++ z) (sym (take-add at n p))

-- what grew by the first octets, and then by the next
pub grew_on : (a b d : Option (List ℕ)) (p : List ℕ) (at n : ℕ) → Grew a b (take at p) → Grew b d (take n (drop at p)) → Grew a d (take (at + n) p)
grew_on None b d p at n first next =
    next ∙ ap (λ o. option_map (λ xs. xs ++ take n (drop at p)) o) first
grew_on (Some xs) b d p at n first next =
    (next ∙ ap (λ o. option_map (λ ys. ys ++ take n (drop at p)) o) first) ∙ ap Some (append_more xs p at n)

-- what grew, and then grew again
pub grew_then : (a b d : Option (List ℕ)) (xs ys : List ℕ) → Grew a b xs → Grew b d ys → Grew a d (xs ++ ys)
grew_then None b d xs ys first next = next ∙ ap (λ o. option_map (λ zs. zs ++ ys) o) first
grew_then (Some zs) b d xs ys first next =
    (next ∙ ap (λ o. option_map (λ os. os ++ ys) o) first) ∙ ap Some (append_assoc zs xs ys)

-- more than there is room for goes over the limit
pub goes_over : (limit n : ℕ) (xs into : List ℕ) → n ≤ length into → length xs ≤ limit → limit - length xs < n → limit < length (xs ++ take n into)
goes_over limit n xs into bound short over = omega (arith, length-append xs (take n into), length-take n into, bound, short, over)
