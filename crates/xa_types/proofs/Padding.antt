-- A name and the zeros behind it.
use Rattle.std.proofs.Common.{ℕ, ◌≡◌, ◌-◌, List, ◌++◌, length, take, drop, replicate, sym, ap, subst, ◌∙◌, arith}
use Rattle.std.proofs.lemmas.List.{drop-replicate, take-append-le}
use Rattle.std.proofs.Math.Seq.{take-length}
use Rattle.xa_types.specs.Name.{IsName}
use Rattle.xa_types.specs.Padded.{IsPadded, kept}

take_first : (xs ys : List ℕ) → take (length xs) (xs ++ ys) ≡ xs
take_first xs ys = take-append-le (length xs) xs ys (omega arith) ∙ take-length xs

pub padded : (xs : List ℕ) → IsName xs → IsPadded (kept (xs ++ drop (length xs) (replicate 31 0)) (length xs))
padded xs named = record {
  sized = ap length (take_first xs (drop (length xs) (replicate 31 0)));
  padded = ap (λ tail. xs ++ tail) (drop-replicate (length xs) 31 0) ∙ ap (λ front. front ++ replicate (31 - length xs) 0) (sym (take_first xs (drop (length xs) (replicate 31 0))));
  named = subst IsName (sym (take_first xs (drop (length xs) (replicate 31 0)))) named;
}
