-- The requests of a caller that are out, in ascending order.
use Rattle.std.proofs.Common.{◌≡◌, ◌≢◌, ℕ, suc, ◌+◌, ◌<◌, ◌≤◌, ◌==◌, ◌&&◌, not, cond, Bool, true, false, List, [], ◌∷◌, ◌++◌, length, map, Some, inl, inr, refl, sym, ◌∙◌, ap, subst, arith, eq-eqb, ne_eqb, append-nil}
use Rattle.std.specs.List.{filter}
use Rattle.std.proofs.lemmas.Bool.{cases_Bool}
use Rattle.std.proofs.lemmas.List.{map-append}
use Rattle.xa_types.specs.declared.ids.CallerId.{CallerId}
use Rattle.xa_types.specs.declared.ids.RequestId.{RequestId}
use Rattle.xa_events.specs.Words.{same_request, without}
use Rattle.xa_events.proofs.WordsLemmas.{same_request_of, same_request_is}
use Rattle.xa_cell.specs.declared.tokens.Seat.{Seat}
use Rattle.xa_cell.specs.declared.view.View.{View}
use Rattle.xa_cell.specs.Views.{at}
use Rattle.xa_cell.specs.Places.{OpenAre, requests_at}
use Rattle.xa_caller.specs.declared.cargo.Filling.{Filling}
use Rattle.xa_caller.specs.declared.phase.Open.{Open}
use Rattle.xa_caller.specs.Phases.{request_of}
use Rattle.xa_caller.specs.Caller.{Ascends}
use Rattle.xa_caller.specs.Kept.{AreMine, AreOut}

-- one is among these, so that there are some
pub none_within : (all front back : List Open) (one : Open) → all ≡ front ++ one ∷ back → all ≡ [] → ⊥
none_within all [] back one is none = cc (is, none)
none_within all (x ∷ front) back one is none = cc (is, none)

pub ascends-weaker : (low high more : ℕ) (rs : List RequestId) → high ≤ more → Ascends low rs high → Ascends low rs more
ascends-weaker low high more [] less a = omega (arith, less, a)
ascends-weaker low high more (r ∷ rs) less a = (a.0, ascends-weaker r.number high more rs less a.1)

pub ascends-push : (low high more : ℕ) (rs : List RequestId) (r : RequestId) → Ascends low rs high → high < r.number → r.number ≤ more → Ascends low (rs ++ r ∷ []) more
ascends-push low high more [] r a above least = (omega (arith, a, above), least)
ascends-push low high more (q ∷ rs) r a above least = (a.0, ascends-push q.number high more rs r a.1 above least)

ascends-lower : (low lower high : ℕ) (rs : List RequestId) → lower ≤ low → Ascends low rs high → Ascends lower rs high
ascends-lower low lower high [] less a = omega (arith, less, a)
ascends-lower low lower high (r ∷ rs) less a = let above = a.0 in (omega (arith, less, above), a.1)

pub ascends-out : (low high : ℕ) (front back : List RequestId) (r : RequestId) → Ascends low (front ++ r ∷ back) high → Ascends low (front ++ back) high
ascends-out low high [] back r a = ascends-lower r.number low high back (let above = a.0 in omega (arith, above)) a.1
ascends-out low high (q ∷ front) back r a = (a.0, ascends-out q.number high front back r a.1)

ascends-at : (low high : ℕ) (front back : List RequestId) (r : RequestId) → Ascends low (front ++ r ∷ back) high → (low < r.number) × (r.number ≤ high)
ascends-at low high [] back r a = (a.0, up r.number high back a.1)
  where
    up : (low high : ℕ) (rs : List RequestId) → Ascends low rs high → low ≤ high
    up low high [] a = a
    up low high (r ∷ rs) a = let rest = up r.number high rs a.1 in let above = a.0 in omega (arith, rest, above)
ascends-at low high (q ∷ front) back r a = let rest = ascends-at q.number high front back r a.1 in let above = a.0 in (omega (arith, above, rest.0), rest.1)

pub ascends-last : (low high : ℕ) (rs : List RequestId) (r : RequestId) → Ascends low (rs ++ r ∷ []) high → (low < r.number) × (r.number ≤ high)
ascends-last low high rs r a = ascends-at low high rs [] r a

and-no : (a : Bool) → (a && false) ≡ false
and-no true = refl
and-no false = refl

-- one whose number is another isn't the same
apart : (q r : RequestId) → q.number ≢ r.number → same_request q r ≡ false
apart q r ne = ap (λ b. (q.caller.0 == r.caller.0) && b) (ne_eqb q.number r.number ne) ∙ and-no (q.caller.0 == r.caller.0)

is_other : RequestId → RequestId → Bool
is_other r q = not (same_request q r)

-- those behind it, or above it, aren't it
none_behind : (r : RequestId) (low high : ℕ) (rs : List RequestId) → r.number ≤ low → Ascends low rs high → filter (λ q. not (same_request q r)) rs ≡ rs
none_behind r low high [] least a = refl
none_behind r low high (q ∷ rs) least a =
    let above = a.0 in
    ap (λ b. cond (not b) (q ∷ filter (λ q. not (same_request q r)) rs) (filter (λ q. not (same_request q r)) rs)) (apart q r (λ e. absurd (omega (arith, above, least, e)))) ∙ ap (λ l. q ∷ l) (none_behind r q.number high rs (omega (arith, above, least)) a.1)

-- without one of them the others stay in their order
pub without_one : (low high : ℕ) (front back : List RequestId) (r : RequestId) → Ascends low (front ++ r ∷ back) high → without (Some r) (front ++ r ∷ back) ≡ front ++ back
without_one low high [] back r a =
    ap (λ b. cond (not b) (r ∷ filter (λ q. not (same_request q r)) back) (filter (λ q. not (same_request q r)) back)) (same_request_of r r refl) ∙ none_behind r r.number high back (omega arith) a.1
without_one low high (q ∷ front) back r a =
    let ahead = (ascends-at q.number high front back r a.1).0 in
    ap (λ b. cond (not b) (q ∷ filter (λ q. not (same_request q r)) (front ++ r ∷ back)) (filter (λ q. not (same_request q r)) (front ++ r ∷ back))) (apart q r (λ e. absurd (omega (arith, ahead, e)))) ∙ ap (λ l. q ∷ l) (without_one q.number high front back r a.1)

-- of those in ascending order one less is left at most
pub without_least : (low high : ℕ) (rs : List RequestId) (r : RequestId) → Ascends low rs high → (length rs ≤ length (without (Some r) rs) + 1) × Ascends low (without (Some r) rs) high
without_least low high [] r a = (omega arith, a)
without_least low high (q ∷ rs) r a =
    elim (cases_Bool (same_request q r)) [
      | inl same ↦
          let is = ap (λ (z : RequestId). z.number) (same_request_is q r same) in
          let left : without (Some r) (q ∷ rs) ≡ rs = ap (λ b. cond (not b) (q ∷ filter (λ q. not (same_request q r)) rs) (filter (λ q. not (same_request q r)) rs)) same ∙ none_behind r q.number high rs (omega (arith, is)) a.1 in
          subst (λ (l : List RequestId). (suc (length rs) ≤ length l + 1) × Ascends low l high) (sym left) (omega arith, ascends-lower q.number low high rs (let above = a.0 in omega (arith, above)) a.1)
      | inr other ↦
          let rest = without_least q.number high rs r a.1 in
          let left : without (Some r) (q ∷ rs) ≡ q ∷ without (Some r) rs = ap (λ b. cond (not b) (q ∷ filter (λ q. not (same_request q r)) rs) (filter (λ q. not (same_request q r)) rs)) other in
          subst (λ (l : List RequestId). (suc (length rs) ≤ length l + 1) × Ascends low l high) (sym left) (let least = rest.0 in omega (arith, least), (a.0, rest.1))
    ]

-- ---- those that are out

pub mine-push : (id : CallerId) (first last : ℕ) (os : List Open) (o : Open) → AreMine id first last os → o.request.caller ≡ id → first ≤ o.place.cell → o.place.cell < last → AreMine id first last (os ++ o ∷ [])
mine-push id first last [] o mine its low high = (its, low, high, tt)
mine-push id first last (p ∷ os) o mine its low high = (mine.0, mine.1, mine.2, mine-push id first last os o mine.3 its low high)

pub mine-out : (id : CallerId) (first last : ℕ) (front back : List Open) (o : Open) → AreMine id first last (front ++ o ∷ back) → AreMine id first last (front ++ back)
mine-out id first last [] back o mine = mine.3
mine-out id first last (p ∷ front) back o mine = (mine.0, mine.1, mine.2, mine-out id first last front back o mine.3)

pub mine-at : (id : CallerId) (first last : ℕ) (front back : List Open) (o : Open) → AreMine id first last (front ++ o ∷ back) → (o.request.caller ≡ id) × (first ≤ o.place.cell) × (o.place.cell < last)
mine-at id first last [] back o mine = (mine.0, mine.1, mine.2)
mine-at id first last (p ∷ front) back o mine = mine-at id first last front back o mine.3

module _ (id : CallerId) (seat : Seat Filling) where
  pub out-push : (os : List Open) (o : Open) (sent more : ℕ) → AreOut id seat os sent → o.request.caller ≡ id → seat.first ≤ o.place.cell → o.place.cell < seat.first + seat.count → sent < o.request.number → o.request.number ≤ more → AreOut id seat (os ++ o ∷ []) more
  out-push os o sent more out its low high above least = record {
    mine = mine-push id seat.first (seat.first + seat.count) os o out.mine its low high;
    rise = subst (λ (l : List RequestId). Ascends 0 l more) (sym (map-append request_of os (o ∷ []))) (ascends-push 0 sent more (map request_of os) o.request out.rise above least);
  }

  rises : (front back : List Open) (o : Open) (sent : ℕ) → AreOut id seat (front ++ o ∷ back) sent → Ascends 0 (map request_of front ++ o.request ∷ map request_of back) sent
  rises front back o sent out = subst (λ (l : List RequestId). Ascends 0 l sent) (map-append request_of front (o ∷ back)) out.rise

  pub out-less : (front back : List Open) (o : Open) (sent : ℕ) → AreOut id seat (front ++ o ∷ back) sent → AreOut id seat (front ++ back) sent
  out-less front back o sent out = record {
    mine = mine-out id seat.first (seat.first + seat.count) front back o out.mine;
    rise = subst (λ (l : List RequestId). Ascends 0 l sent) (sym (map-append request_of front back)) (ascends-out 0 sent (map request_of front) (map request_of back) o.request (rises front back o sent out));
  }

  pub out-without : (front back : List Open) (o : Open) (sent : ℕ) → AreOut id seat (front ++ o ∷ back) sent → without (Some o.request) (map request_of (front ++ o ∷ back)) ≡ map request_of (front ++ back)
  out-without front back o sent out =
      ap (without (Some o.request)) (map-append request_of front (o ∷ back)) ∙ without_one 0 sent (map request_of front) (map request_of back) o.request (rises front back o sent out) ∙ sym (map-append request_of front back)

  pub out-at : (front back : List Open) (o : Open) (sent : ℕ) → AreOut id seat (front ++ o ∷ back) sent → (o.request.caller ≡ id) × (seat.first ≤ o.place.cell) × (o.place.cell < seat.first + seat.count)
  out-at front back o sent out = mine-at id seat.first (seat.first + seat.count) front back o out.mine

-- ---- open places

requests-append : (k : ℕ) (ps qs : List (ℕ × RequestId)) → requests_at k (ps ++ qs) ≡ requests_at k ps ++ requests_at k qs
requests-append k [] qs = refl
requests-append k (p ∷ ps) qs =
    elim (cases_Bool (p.0 == k)) [
      | inl here ↦ ap (λ b. cond b (p.1 ∷ requests_at k (ps ++ qs)) (requests_at k (ps ++ qs))) here ∙ ap (λ l. p.1 ∷ l) (requests-append k ps qs) ∙ ap (λ b. cond b (p.1 ∷ requests_at k ps) (requests_at k ps) ++ requests_at k qs) (sym here)
      | inr other ↦ ap (λ b. cond b (p.1 ∷ requests_at k (ps ++ qs)) (requests_at k (ps ++ qs))) other ∙ requests-append k ps qs ∙ ap (λ b. cond b (p.1 ∷ requests_at k ps) (requests_at k ps) ++ requests_at k qs) (sym other)
    ]

empty_behind : (q : RequestId) (l : List RequestId) → suc (length l) ≤ 1 → l ≡ []
empty_behind q [] most = refl
empty_behind q (r ∷ l) most = absurd (omega (arith, most))

-- the first of the open places may stand last, where at each cell one is open at most
pub turned : (k : ℕ) (q : RequestId) (ps : List (ℕ × RequestId)) (v : View Filling) → ((j : ℕ) → length (at j v).asked ≤ 1) → OpenAre ((k, q) ∷ ps) v → OpenAre (ps ++ (k, q) ∷ []) v
turned k q ps v single are = record { asked = each }
  where
    each : (j : ℕ) → (at j v).asked ≡ requests_at j (ps ++ (k, q) ∷ [])
    each j =
        elim (cases_Bool (k == j)) [
          | inl here ↦
              let was : (at j v).asked ≡ q ∷ requests_at j ps = are.asked j ∙ ap (λ b. cond b (q ∷ requests_at j ps) (requests_at j ps)) here in
              let none : requests_at j ps ≡ [] = empty_behind q (requests_at j ps) (subst (λ (l : List RequestId). length l ≤ 1) was (single j)) in
              was ∙ ap (λ l. q ∷ l) none ∙ sym (requests-append j ps ((k, q) ∷ []) ∙ ap (λ l. l ++ cond (k == j) (q ∷ []) []) none ∙ ap (λ b. cond b (q ∷ []) []) here)
          | inr other ↦
              are.asked j ∙ ap (λ b. cond b (q ∷ requests_at j ps) (requests_at j ps)) other ∙ sym (requests-append j ps ((k, q) ∷ []) ∙ ap (λ b. requests_at j ps ++ cond b (q ∷ []) []) other ∙ append-nil (requests_at j ps))
        ]

-- the request whose place is open at a cell
pub single_asked : (k : ℕ) (q : RequestId) (ps : List (ℕ × RequestId)) (v : View Filling) → ((j : ℕ) → length (at j v).asked ≤ 1) → OpenAre ((k, q) ∷ ps) v → (at k v).asked ≡ q ∷ []
single_asked k q ps v single are =
    let was : (at k v).asked ≡ q ∷ requests_at k ps = are.asked k ∙ ap (λ b. cond b (q ∷ requests_at k ps) (requests_at k ps)) (eq-eqb k k refl) in
    was ∙ ap (λ l. q ∷ l) (empty_behind q (requests_at k ps) (subst (λ (l : List RequestId). length l ≤ 1) was (single k)))

-- so in the middle of a list
pub middle_asked : (ps qs : List (ℕ × RequestId)) (k : ℕ) (q : RequestId) (v : View Filling) → ((j : ℕ) → length (at j v).asked ≤ 1) → OpenAre (ps ++ (k, q) ∷ qs) v → (at k v).asked ≡ q ∷ []
middle_asked ps qs k q v single are =
    let here : requests_at k ((k, q) ∷ qs) ≡ q ∷ requests_at k qs = ap (λ b. cond b (q ∷ requests_at k qs) (requests_at k qs)) (eq-eqb k k refl) in
    let was : (at k v).asked ≡ requests_at k ps ++ q ∷ requests_at k qs = are.asked k ∙ requests-append k ps ((k, q) ∷ qs) ∙ ap (λ l. requests_at k ps ++ l) here in
    was ∙ alone q (requests_at k ps) (requests_at k qs) (subst (λ (l : List RequestId). length l ≤ 1) was (single k))
  where
    alone : (q : RequestId) (l m : List RequestId) → length (l ++ q ∷ m) ≤ 1 → l ++ q ∷ m ≡ q ∷ []
    alone q [] m most = ap (λ l. q ∷ l) (empty_behind q m most)
    alone q (r ∷ l) m most = let some = longer q l m in absurd (omega (arith, most, some))
      where
        longer : (q : RequestId) (l m : List RequestId) → 1 ≤ length (l ++ q ∷ m)
        longer q [] m = omega arith
        longer q (r ∷ l) m = omega arith
