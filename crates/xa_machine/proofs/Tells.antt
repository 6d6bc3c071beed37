-- What rows of the board show of a refusal.
use Rattle.std.proofs.Common.{◌≡◌, ◌||◌, ◌==◌, ℕ, ◌+◌, ◌<◌, Bool, true, cond, List, [], ◌∷◌, length, replicate, Option, Some, None, IsSomeAnd, inl, inr, refl, sym, ◌∙◌, ap, arith}
use Rattle.std.specs.List.{find, list_any}
use Rattle.std.specs.Str.{bytes_eq}
use Rattle.std.proofs.lemmas.Bool.{cases_Bool, and_parts}
use Rattle.std.proofs.lemmas.List.{length-replicate}
use Rattle.std.proofs.lemmas.Slice.Eq.{bytes_eq-Decides}
use Rattle.xa_types.specs.declared.row.Row.{Row}
use Rattle.xa_types.specs.Rows.{is_row_of, row_of}
use Rattle.xa_machine.specs.Parts.{is_routine}

any_tells : (f : Row → Bool) (xs : List Row) → list_any f xs ≡ true → (x : Row) × (f x ≡ true)
any_tells f [] h = absurd (cc h)
any_tells f (x ∷ xs) h = elim (cases_Bool (f x)) [
  | inl y ↦ (x, y)
  | inr n ↦ any_tells f xs (sym (ap (λ b. b || list_any f xs) n) ∙ h)
]

found_passes : (p f : Row → Bool) (xs : List Row) (x : Row) → find p xs ≡ Some x → f x ≡ true → (p x ≡ true) × (list_any f xs ≡ true)
found_passes p f [] x is h = absurd (cc is)
found_passes p f (y ∷ xs) x is h = elim (cases_Bool (p y)) [
  | inl own ↦
      let same : Some y ≡ Some x = sym (ap (λ b. cond b (Some y) (find p xs)) own) ∙ is in
      let one : y ≡ x = cc same in
      (sym (ap p one) ∙ own, ap (λ b. b || list_any f xs) (ap f one ∙ h))
  | inr other ↦
      let later = found_passes p f xs x (sym (ap (λ b. cond b (Some y) (find p xs)) other) ∙ is) h in
      (later.0, elim (cases_Bool (f y)) [ inl q ↦ ap (λ b. b || list_any f xs) q | inr q ↦ ap (λ b. b || list_any f xs) q ∙ later.1 ])
]

tells : (routine : List ℕ) (o : Option Row) → is_routine routine o ≡ true → IsSomeAnd o (λ row. row.routine ≡ routine)
tells routine None h = absurd (cc h)
tells routine (Some row) h = (bytes_eq-Decides row.routine routine).0 h

told : (routine : List ℕ) (o : Option Row) → IsSomeAnd o (λ row. row.routine ≡ routine) → is_routine routine o ≡ true
told routine None h = absurd h
told routine (Some row) h = (bytes_eq-Decides row.routine routine).1 h

pub routine_found : (routine : List ℕ) (queue : ℕ) (rows : List Row) → list_any (λ row. is_routine routine (row_of row.service queue rows)) rows ≡ true
    → (service : List ℕ) × IsSomeAnd (row_of service queue rows) (λ row. row.routine ≡ routine)
routine_found routine queue rows h =
    let one = any_tells (λ row. is_routine routine (row_of row.service queue rows)) rows h in
    (one.0.service, tells routine (row_of one.0.service queue rows) one.1)

pub found_routine : (routine : List ℕ) (queue : ℕ) (rows : List Row) (service : List ℕ) → IsSomeAnd (row_of service queue rows) (λ row. row.routine ≡ routine)
    → list_any (λ row. is_routine routine (row_of row.service queue rows)) rows ≡ true
found_routine routine queue rows service h = here (row_of service queue rows) refl h
  where
    f : Row → Bool
    f row = is_routine routine (row_of row.service queue rows)

    here : (o : Option Row) → row_of service queue rows ≡ o → IsSomeAnd o (λ row. row.routine ≡ routine) → list_any f rows ≡ true
    here None is k = absurd k
    here (Some row) is k =
        let own = (found_passes (is_row_of service queue) (λ x. true) rows row is refl).0 in
        let same : row.service ≡ service = (bytes_eq-Decides row.service service).0 (and_parts (bytes_eq row.service service) (row.queue.0 == queue) own).0 in
        let passes : f row ≡ true = ap (λ s. is_routine routine (row_of s queue rows)) same ∙ (ap (is_routine routine) is ∙ told routine (Some row) k) in
        (found_passes (is_row_of service queue) f rows row is passes).1

-- ---- some service has no row

abbrev longest : List Row → ℕ
longest [] = 0
longest (row ∷ rows) = length row.service + longest rows

filled : ℕ → List ℕ
filled n = replicate n 0

length_filled : (n : ℕ) → length (filled n) ≡ n
unfolding filled
length_filled n = length-replicate n 0

too_long : (queue n : ℕ) (rows : List Row) → longest rows < n → row_of (filled n) queue rows ≡ None
too_long queue n [] l = refl
too_long queue n (row ∷ rows) l = elim (cases_Bool (is_row_of (filled n) queue row)) [
  | inl own ↦
      let same : row.service ≡ filled n = (bytes_eq-Decides row.service (filled n)).0 (and_parts (bytes_eq row.service (filled n)) (row.queue.0 == queue) own).0 in
      let many : length row.service ≡ n = ap length same ∙ length_filled n in
      absurd (omega (arith, many, l))
  | inr other ↦ ap (λ b. cond b (Some row) (row_of (filled n) queue rows)) other ∙ too_long queue n rows (omega (arith, l))
]

pub lacks_row : (queue : ℕ) (rows : List Row) → (service : List ℕ) × (row_of service queue rows ≡ None)
lacks_row queue rows = (filled (longest rows + 1), too_long queue (longest rows + 1) rows (omega arith))
