-- The looks of a call that looks for a FREE cell, and what it opens there.
use Rattle.std.proofs.Common.{◌≡◌, ◌≢◌, ℕ, suc, ◌+◌, ◌<◌, ◌≤◌, List, [], ◌∷◌, ◌++◌, map, length, set, sym, refl, ap, ◌∙◌, subst, arith, length-set, ⊎_elim}
use Rattle.std.proofs.lemmas.List.{length-map}
use Rattle.xa_types.specs.declared.ids.RequestId.{RequestId}
use Rattle.xa_cell.specs.declared.view.Part.{Part}
use Rattle.xa_cell.specs.declared.view.View.{View}
use Rattle.xa_cell.specs.Views.{opening, at}
use Rattle.xa_cell.specs.Changes.{looked, opened}
use Rattle.xa_cell.specs.Places.{StandsAt, Stand, Opens}
use Rattle.xa_cell.specs.Calls.{after_looks, NoneFree}
use Rattle.xa_cell.specs.Steps.{begun}
use Rattle.xa_cell.specs.Tokens.{ticket_part, rest_part, without_tickets, only_tickets, IsBare, IsCaller, IsTicket}
use Rattle.xa_cell.proofs.Lists.{decided, map_set, map_same, nth_map, none_in}
use Rattle.xa_cell.proofs.Viewed.{put_is, put_else, looked_caller, looked_else, stands_same, inside_parts}

module _ {A : Type 0} where
  pub looks_caller : (first count cells k : ℕ) (us : List ℕ) (v : View A) → IsCaller first count cells v → k + length us ≤ cells → IsCaller first count cells (after_looks k us v)
  looks_caller first count cells k [] v c high = c
  looks_caller first count cells k (u ∷ us) v c high = looks_caller first count cells (suc k) us (looked k u v) (looked_caller first count cells k v c (omega arith) u) (omega arith)

  -- what lies behind the looks is as it was
  pub looks_beyond : (first count cells k j : ℕ) (us : List ℕ) (v : View A) → IsCaller first count cells v → k + length us ≤ cells → k + length us ≤ j → at j (after_looks k us v) ≡ at j v
  looks_beyond first count cells k j [] v c high beyond = refl
  looks_beyond first count cells k j (u ∷ us) v c high beyond = looks_beyond first count cells (suc k) j us (looked k u v) (looked_caller first count cells k v c (omega arith) u) (omega arith) (omega arith)
      ∙ looked_else first count cells k v c (omega arith) u j (λ e. omega arith)

  -- one look more
  pub looks_snoc : (k n u : ℕ) (us : List ℕ) (v : View A) → k + length us ≡ n → after_looks k (us ++ u ∷ []) v ≡ looked n u (after_looks k us v)
  looks_snoc k n u [] v e = let same : k ≡ n = omega arith in ap (λ (i : ℕ). looked i u v) same
  looks_snoc k n u (x ∷ us) v e = looks_snoc (suc k) n u us (looked k x v) (omega arith)

  pub none_free_snoc : (k n u : ℕ) (us : List ℕ) (v : View A) → k + length us ≡ n → NoneFree k us v → 0 < length (at n v).asked + u → (at n v).settled + u ≤ 1 → NoneFree k (us ++ u ∷ []) v
  none_free_snoc k n u [] v e h more still = let same : k ≡ n = omega arith in subst (λ (i : ℕ). (0 < length (at i v).asked + u) × ((at i v).settled + u ≤ 1) × Unit {0}) (sym same) (more, still, tt)
  none_free_snoc k n u (x ∷ us) v e h more still = (h.0, h.1, none_free_snoc (suc k) n u us v (omega arith) h.2 more still)

  module _ (first count cells k : ℕ) (q : RequestId) (v : View A) (c : IsCaller first count cells v) (inside : k < cells) where
    abbrev begun_part : Part A
    begun_part = record (at k v) { count = (at k v).count + 1; asked = q ∷ []; settled = 0; tickets = opening ((at k v).count + 1) q ∷ [] }

    begun_at : at k (begun k q v) ≡ begun_part
    begun_at = put_is v k begun_part (begun k q v).deeds (inside_parts first count cells k v c inside)

    begun_else : (j : ℕ) → j ≢ k → at j (begun k q v) ≡ at j v
    begun_else j ne = put_else v k begun_part (begun k q v).deeds j ne

    -- a view with an open ticket has no slot
    pub begun_idle : (j : ℕ) → (at j (begun k q v)).filling ≡ 0
    begun_idle j = ⊎_elim (λ (e : j ≡ k). ap (λ (i : ℕ). (at i (begun k q v)).filling) e ∙ (ap (λ (z : Part A). z.filling) begun_at ∙ (c.calm k).filling))
        (λ (ne : j ≢ k). ap (λ (z : Part A). z.filling) (begun_else j ne) ∙ (c.calm j).filling) (decided j k)

    rest_same : (j : ℕ) → rest_part (at j v) ≡ at j v
    rest_same j = let t = none_in (at j v).tickets (c.calm j).tickets in let f = (c.calm j).filling in let l = (c.calm j).late in λ i. record (at j v) { tickets = sym t i; filling = sym f i; late = sym l i }

    -- what is left of the view once the ticket is cut off
    pub begun_left : without_tickets (begun k q v) ≡ opened k q v
    begun_left = let t = none_in (at k v).tickets (c.calm k).tickets in let f = (c.calm k).filling in let l = (c.calm k).late in
        let part : rest_part begun_part ≡ record (at k v) { count = (at k v).count + 1; asked = q ∷ []; settled = 0 } = λ i. record (at k v) { count = (at k v).count + 1; asked = q ∷ []; settled = 0; tickets = sym t i; filling = sym f i; late = sym l i } in
        let parts = map_set rest_part v.parts k begun_part ∙ ((λ i. set (map_same rest_part v.parts rest_same i) k (part i))) in
        λ i. record { callers = v.callers; parts = parts i; deeds = (begun k q v).deeds }

    ticket_at : (j : ℕ) → at j (only_tickets (begun k q v)) ≡ ticket_part (at j (begun k q v))
    ticket_at j = nth_map ticket_part (begun k q v).parts j refl

    -- what the ticket names
    pub begun_names : (at k (only_tickets (begun k q v))).tickets ≡ opening ((at k v).count + 1) q ∷ []
    begun_names = ap (λ (z : Part A). z.tickets) (ticket_at k) ∙ ap (λ (z : Part A). z.tickets) begun_at

    pub begun_ticket : IsTicket k cells (only_tickets (begun k q v))
    begun_ticket = record {
      nobody = refl;
      idle = refl;
      wide = length-map (begun k q v).parts ticket_part ∙ (length-set v.parts k begun_part ∙ c.wide);
      inside = inside;
      one = ap length begun_names;
      others = λ j ne. ap (λ (z : Part A). length z.tickets) (ticket_at j) ∙ (ap (λ (z : Part A). length z.tickets) (begun_else j ne) ∙ (c.calm j).tickets);
      bare = λ j. subst IsBare (sym (ticket_at j)) (record { owners = refl; count = refl; asked = refl; settled = refl; filling = begun_idle j; taking = refl; late = begun_late j; given_up = refl; dropped = refl; taken = refl; filled = refl });
    }
      where
        begun_late : (j : ℕ) → (at j (begun k q v)).late ≡ 0
        begun_late j = ⊎_elim (λ (e : j ≡ k). ap (λ (i : ℕ). (at i (begun k q v)).late) e ∙ (ap (λ (z : Part A). z.late) begun_at ∙ (c.calm k).late))
            (λ (ne : j ≢ k). ap (λ (z : Part A). z.late) (begun_else j ne) ∙ (c.calm j).late) (decided j k)

    pub opened_at : at k (opened k q v) ≡ record (at k v) { count = (at k v).count + 1; asked = q ∷ []; settled = 0 }
    opened_at = put_is v k (record (at k v) { count = (at k v).count + 1; asked = q ∷ []; settled = 0 }) (opened k q v).deeds (inside_parts first count cells k v c inside)

    -- a place is opened behind looks at which the others stood
    pub opened_opens : (u : View A) → Stand u v → (at k u).asked ≡ [] → Opens k q u (opened k q v)
    opened_opens u stand shut = record {
      shut = shut;
      asked = ap (λ (z : Part A). z.asked) opened_at;
      others = λ j ne. let e = put_else v k (record (at k v) { count = (at k v).count + 1; asked = q ∷ []; settled = 0 }) (opened k q v).deeds j ne in let s = ap (λ (z : Part A). z.settled) e in let h = stand.each j in let le = h.1 in (ap (λ (z : Part A). z.asked) e ∙ h.0, omega arith);
    }
