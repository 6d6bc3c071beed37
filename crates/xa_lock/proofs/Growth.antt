-- Entries with their makers, where both lists grow.
use Rattle.std.proofs.Common.{◌≡◌, List, [], ◌∷◌, ◌++◌, length, replicate, refl, ap, arith}
use Rattle.std.proofs.lemmas.List.Elements.{All-nil, All-cons}
use Rattle.std.specs.List.{All}
use Rattle.xa_types.specs.declared.ids.CallerId.{CallerId}
use Rattle.xa_stamp.specs.declared.home.Stamped.{Stamped}
use Rattle.xa_lock.specs.declared.makers.Made.{Made}
use Rattle.xa_lock.specs.Pages.{GrewBy}
use Rattle.xa_lock.specs.Makers.{made, made_by, maker_of, noted_in}

-- as many of one maker as there are entries
pub made-one : (maker : CallerId) (entries : List Stamped) → made (replicate (length entries) maker) entries ≡ made_by maker entries
made-one maker [] = refl
made-one maker (e ∷ es) = ap (λ (l : List Made). record { maker = maker; noted = e } ∷ l) (made-one maker es)

-- entries and makers are added at the end
pub made-append : (maker : CallerId) (makers : List CallerId) (entries more : List Stamped) → length makers ≡ length entries
    → made (makers ++ replicate (length more) maker) (entries ++ more) ≡ made makers entries ++ made_by maker more
made-append maker [] [] more same = made-one maker more
made-append maker [] (e ∷ es) more same = absurd (omega (arith, same))
made-append maker (m ∷ ms) [] more same = absurd (omega (arith, same))
made-append maker (m ∷ ms) (e ∷ es) more same = ap (λ (l : List Made). record { maker = m; noted = e } ∷ l) (made-append maker ms es more (omega (arith, same)))

pub all_made_by : (maker : CallerId) (entries : List Stamped) → All (λ e. maker_of e ≡ maker.0) (made_by maker entries)
all_made_by maker [] = All-nil (λ (e : Made). maker_of e ≡ maker.0)
all_made_by maker (e ∷ es) = All-cons (λ (z : Made). maker_of z ≡ maker.0) (record { maker = maker; noted = e }) (made_by maker es) refl (all_made_by maker es)

pub made_grows : (maker : CallerId) (makers : List CallerId) (entries more : List Stamped) → length makers ≡ length entries
    → GrewBy maker_of maker.0 (made makers entries) (made (makers ++ replicate (length more) maker) (entries ++ more))
made_grows maker makers entries more same = (made_by maker more, made-append maker makers entries more same, all_made_by maker more)

-- what was noted stays without the makers
pub noted_in-made : (makers : List CallerId) (entries : List Stamped) → length makers ≡ length entries → noted_in (made makers entries) ≡ entries
noted_in-made [] [] same = refl
noted_in-made [] (e ∷ es) same = absurd (omega (arith, same))
noted_in-made (m ∷ ms) [] same = refl
noted_in-made (m ∷ ms) (e ∷ es) same = ap (λ (l : List Stamped). e ∷ l) (noted_in-made ms es (omega (arith, same)))
