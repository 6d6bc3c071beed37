-- Stamps of a home: its last one, and that they rise when one is noted.
use Rattle.std.proofs.Common.{ℕ, ◌≡◌, ◌-◌, ◌<◌, ◌≤◌, ◌^◌, suc, zero, List, [], ◌∷◌, ◌++◌, length, slice_index_or, refl, ap, ◌∙◌, arith}
use Rattle.std.specs.List.{All, AllPairs}
use Rattle.std.proofs.lemmas.List.Elements.{All-nil, All-cons, All-weaker}
use Rattle.std.proofs.lemmas.List.Kept.{AllPairs-cons}
use Rattle.xa_types.specs.declared.stamp.Stamp.{Stamp}
use Rattle.xa_stamp.specs.declared.home.Stamped.{Stamped}
use Rattle.xa_stamp.specs.Home.{Rises, last_stamp}

-- what is noted is the last
pub last_stamp-push : (first : Stamp) (entries : List Stamped) (e : Stamped) → last_stamp first (entries ++ e ∷ []) ≡ e.stamp.0
last_stamp-push first [] e = refl
last_stamp-push first (x ∷ entries) e = last_stamp-push x.stamp entries e

last_stamp-at : (first : Stamp) (entries : List Stamped) (k : ℕ) (d : Stamped) → suc k ≡ length entries → (slice_index_or entries k d).stamp.0 ≡ last_stamp first entries
last_stamp-at first [] k d is = absurd (omega (arith, is))
last_stamp-at first (x ∷ []) zero d is = refl
last_stamp-at first (x ∷ []) (suc k) d is = absurd (omega (arith, is))
last_stamp-at first (x ∷ y ∷ entries) zero d is = absurd (omega (arith, is))
last_stamp-at first (x ∷ y ∷ entries) (suc k) d is = last_stamp-at x.stamp (y ∷ entries) k d (omega (arith, is))

-- the last entry has the last stamp
pub last_stamp-read : (first : Stamp) (entries read : List Stamped) (e : Stamped) → read ≡ entries → 1 ≤ length read → e ≡ slice_index_or read (length read - 1) e → e.stamp.0 ≡ last_stamp first entries
last_stamp-read first entries read e same some is =
    rw (← same) (ap (λ s. s.stamp.0) is ∙ last_stamp-at first read (length read - 1) e (omega (arith, some)))

-- the last stamp is at most 2^63
pub Rises-last : (first : Stamp) (entries : List Stamped) → Rises first entries → last_stamp first entries ≤ 2 ^ 63
Rises-last first [] rises = rises
Rises-last first (x ∷ entries) rises = Rises-last x.stamp entries rises.1

-- a greater stamp keeps them rising
pub Rises-push : (first : Stamp) (entries : List Stamped) (e : Stamped) → Rises first entries → last_stamp first entries < e.stamp.0 → e.stamp.0 ≤ 2 ^ 63 → Rises first (entries ++ e ∷ [])
Rises-push first [] e rises above bound = (above, bound)
Rises-push first (x ∷ entries) e rises above bound = (rises.0, Rises-push x.stamp entries e rises.1 above bound)

above_first : (first : Stamp) (entries : List Stamped) → Rises first entries → All (λ e. first.0 < e.stamp.0) entries
above_first first [] rises = All-nil (λ (e : Stamped). first.0 < e.stamp.0)
above_first first (x ∷ entries) rises =
    All-cons (λ (e : Stamped). first.0 < e.stamp.0) x entries rises.0 (All-weaker (λ (e : Stamped). x.stamp.0 < e.stamp.0) (λ (e : Stamped). first.0 < e.stamp.0) (λ e less. omega (arith, less, rises.0)) entries (above_first x.stamp entries rises.1))

-- each stamp is below all later ones
pub Rises-pairs : (first : Stamp) (entries : List Stamped) → Rises first entries → AllPairs (λ earlier later. earlier.stamp.0 < later.stamp.0) entries
Rises-pairs first [] rises = λ i j d less within. absurd (omega (arith, within))
Rises-pairs first (x ∷ entries) rises =
    AllPairs-cons (λ (earlier : Stamped) (later : Stamped). earlier.stamp.0 < later.stamp.0) x entries (above_first x.stamp entries rises.1) (Rises-pairs x.stamp entries rises.1)
