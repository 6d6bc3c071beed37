-- One cell, and the part that the stepping seat has of it: what is known there, and what a step has to show.
use Rattle.std.proofs.Common.{◌≡◌, ◌≢◌, ℕ, ◌+◌, ◌<◌, ◌≤◌, List, [], ◌∷◌, length, set, sym, refl, ap, ◌∙◌, subst, arith, Option, None, ◌⊎◌, inl, inr, ⊎_elim}
use Rattle.std.proofs.lemmas.List.Elements.{All-nil, All-head, All-weaker}
use Rattle.std.specs.List.{All}
use mathlib.Core.Option.{some, some-injective}
use mathlib.Core.Option as maybe
use lib.ListN.{get_elem?}
use Rattle.xa_types.specs.declared.ids.RequestId.{RequestId}
use Rattle.xa_cell.specs.declared.view.Opening.{Opening}
use Rattle.xa_cell.specs.declared.view.Fill.{Fill}
use Rattle.xa_cell.specs.declared.view.Part.{Part}
use Rattle.xa_cell.specs.declared.view.Carried.{Carried}
use Rattle.xa_cell.specs.Views.{opening, fill}
use Rattle.xa_cell.specs.Counts.{times, among}
use Rattle.xa_cell.specs.Rule.{total, word, IsIn, WasFilled, owns, unspent_in, held, Owner, Other, Fits, Content, Slotted, Waits, Cell}
use Rattle.xa_cell.proofs.Lists.{decided, total_set, total_one, total_two, total_zero, at_each, All-none, was_set, times_none, among_none}

-- what a slot has
abbrev pub SlotOf : Type 0 → Type 0
SlotOf A = Option (Carried A)

-- where a slot is
abbrev pub HomeOf : Type 0 → Type 0
HomeOf A = maybe.Option (maybe.Option (SlotOf A))

-- a cell, and the part p of the seat whose view is the one with that number
pub record Spot (A : Type 0) : Type 0 where
  pub w : ℕ
  pub home : HomeOf A
  pub ps : List (Part A)
  pub c : Cell w home ps
  pub id : ℕ
  pub p : Part A
  pub here : get_elem? ps id ≡ some p

module _ {A : Type 0} where
  pub other_fits : (all all' : List (Part A)) (n op un n' op' un' : ℕ) (q q' : RequestId) (r : Part A) → ((e : Fill A) → WasFilled all e → WasFilled all' e)
      → n + un' ≤ n' + un → n + op' ≤ n' + op → op' ≤ 1 → (Owner n op un q r → Owner n' op' un' q' r) → (unspent_in r ≡ 0) ⊎ ((n' ≡ n) × (q' ≡ q) × (op' ≤ op))
      → Fits all n op un q r → Fits all' n' op' un' q' r
  other_fits all all' n op un n' op' un' q q' r grow le le_op one own tick f = record {
    side = ⊎_elim (λ (h : Owner n op un q r). inl (own h)) (λ (h : Other r). inr h) f.side;
    tickets = ⊎_elim (λ (h : unspent_in r ≡ 0). All-none (λ (t : Opening). t ≡ opening n' q') r.tickets h)
        (λ (h : (n' ≡ n) × (q' ≡ q) × (op' ≤ op)). subst (λ (z : ℕ × RequestId). All (λ (t : Opening). t ≡ opening z.0 z.1) r.tickets) (λ i. (sym h.0 i, sym h.1 i)) f.tickets) tick;
    filling = f.filling;
    late = f.late;
    cancelled = ⊎_elim (λ (h : unspent_in r ≡ 0). let a = f.filling in let b = f.late in let k : r.late + op' ≤ 1 = omega arith in k) (λ (h : (n' ≡ n) × (q' ≡ q) × (op' ≤ op)). let a = f.cancelled in let b = h.2 in let k : r.late + op' ≤ 1 = omega arith in k) tick;
    dropped = All-weaker (λ (d : ℕ). d + un ≤ n) (λ (d : ℕ). d + un' ≤ n') (λ d h. omega arith) r.dropped f.dropped;
    given_up = All-weaker (λ (g : ℕ). g + op ≤ n) (λ (g : ℕ). g + op' ≤ n') (λ g h. omega arith) r.given_up f.given_up;
    filled = All-weaker (λ (e : Fill A). e.opening.number + un ≤ n) (λ (e : Fill A). e.opening.number + un' ≤ n') (λ e h. omega arith) r.filled f.filled;
    taken = All-weaker (WasFilled all) (WasFilled all') grow r.taken f.taken;
  }

  pub owner_side : (all : List (Part A)) (n op un : ℕ) (q : RequestId) (p : Part A) → owns p ≡ 1 → Fits all n op un q p → Owner n op un q p
  owner_side all n op un q p own f = ⊎_elim (λ (h : Owner n op un q p). h) (λ (h : Other p). let z = h.none_ in absurd (omega arith)) f.side

  -- the owner's side of a part does not read the ticket's
  pub resided : (n op un : ℕ) (q : RequestId) (p : Part A) (ts : List Opening) (f l : ℕ) (es gs : List (Fill A)) → Owner n op un q p ⊎ Other p
      → Owner n op un q (record p { tickets = ts; filling = f; late = l; taken = es; filled = gs }) ⊎ Other (record p { tickets = ts; filling = f; late = l; taken = es; filled = gs })
  resided n op un q p ts f l es gs s = ⊎_elim (λ (o : Owner n op un q p). inl (record { one = o.one; count = o.count; asked = o.asked; request = o.request; settled = o.settled; taking = o.taking; alone = o.alone }))
      (λ (o : Other p). inr (record { none_ = o.none_; count = o.count; asked = o.asked; settled = o.settled; taking = o.taking })) s

  -- where the ticket is unspent, no seat takes from the slot
  pub no_taking : (all : List (Part A)) (n op un : ℕ) (q : RequestId) (p : Part A) → un ≡ 1 → op ≤ 1 → Fits all n op un q p → p.taking ≡ 0
  no_taking all n op un q p one le f = ⊎_elim (λ (h : Owner n op un q p). let z = h.alone in let k : p.taking ≡ 0 = omega arith in k) (λ (h : Other p). h.taking) f.side

  pub content_grows : (all all' : List (Part A)) (n op un : ℕ) (q : RequestId) (x : SlotOf A) → ((e : Fill A) → WasFilled all e → WasFilled all' e) → Content all n op un q x → Content all' n op un q x
  content_grows all all' n op un q x grow k = record { pending = k.pending; closed = k.closed; filled = λ o u. let f = k.filled o u in (f.0, f.1, grow (fill (opening n q) f.0) f.2) }

  -- the slot is at home with this, by the rule
  abbrev pub AtHome : HomeOf A → List (Part A) → ℕ → ℕ → ℕ → RequestId → Type 0
  AtHome home ps n op un q = (x : SlotOf A) × (home ≡ some (some x)) × Content ps n op un q x

  module _ (z : Spot A) where
    pub fits : Fits z.ps z.c.n z.c.open_ z.c.unspent z.c.q z.p
    fits = z.c.each z.id z.p z.here

    pub owner : owns z.p ≡ 1 → Owner z.c.n z.c.open_ z.c.unspent z.c.q z.p
    owner own = owner_side z.ps z.c.n z.c.open_ z.c.unspent z.c.q z.p own fits

    pub lone_owner : owns z.p ≡ 1 → (j : ℕ) (r : Part A) → j ≢ z.id → get_elem? z.ps j ≡ some r → owns r ≡ 0
    lone_owner own j r ne e = let two = total_two owns z.ps z.id j z.p r (λ h. ne (sym h)) z.here e in let one = z.c.one_owner in omega arith

    pub lone_ticket : 1 ≤ unspent_in z.p → (j : ℕ) (r : Part A) → j ≢ z.id → get_elem? z.ps j ≡ some r → unspent_in r ≡ 0
    lone_ticket own j r ne e = let two = total_two unspent_in z.ps z.id j z.p r (λ h. ne (sym h)) z.here e in let one = z.c.one_ticket in let few = z.c.few in omega arith

    pub ticket_is : 1 ≤ unspent_in z.p → z.c.unspent ≡ 1
    ticket_is own = let t = total_one unspent_in z.ps z.id z.p z.here in let one = z.c.one_ticket in let few = z.c.few in omega arith

    pub not_owner : owns z.p ≡ 1 → {n' op' un' : ℕ} {q' : RequestId} (j : ℕ) (r : Part A) → j ≢ z.id → get_elem? z.ps j ≡ some r → Owner z.c.n z.c.open_ z.c.unspent z.c.q r → Owner n' op' un' q' r
    not_owner own j r ne e o = let y = lone_owner own j r ne e in let x = o.one in absurd (omega arith)

    -- no seat has the slot where none may
    pub at_home : ((j : ℕ) (r : Part A) → get_elem? z.ps j ≡ some r → held r ≡ 0) → AtHome z.home z.ps z.c.n z.c.open_ z.c.unspent z.c.q
    at_home none_has = let y = total_zero held z.ps none_has in ⊎_elim (λ (h : (total held z.ps ≡ 0) × AtHome z.home z.ps z.c.n z.c.open_ z.c.unspent z.c.q). h.1) (λ (h : total held z.ps ≡ 1). absurd (omega arith)) z.c.slot

    -- the seat has the slot
    pub one_holds : 1 ≤ held z.p → total held z.ps ≡ 1
    one_holds has = let one = total_one held z.ps z.id z.p z.here in ⊎_elim (λ (h : (total held z.ps ≡ 0) × AtHome z.home z.ps z.c.n z.c.open_ z.c.unspent z.c.q). let y = h.0 in absurd (omega arith)) (λ (h : total held z.ps ≡ 1). h) z.c.slot

    -- what the ticket of the part names
    pub ticket_names : (t : Opening) → z.p.tickets ≡ t ∷ [] → (1 ≤ unspent_in z.p) × (t ≡ opening z.c.n z.c.q)
    ticket_names t is = let n : unspent_in z.p ≡ 1 = ap length is in ((omega arith), All-head (λ (o : Opening). o ≡ opening z.c.n z.c.q) t [] (subst (All (λ (o : Opening). o ≡ opening z.c.n z.c.q)) is fits.tickets))

    -- no other seat has the slot where this one has the ticket
    pub others_free : 1 ≤ unspent_in z.p → z.p.filling ≡ 0 → (j : ℕ) (r : Part A) → get_elem? z.ps j ≡ some r → held r ≡ 0
    others_free own idle j r e = let un = ticket_is own in let nt = no_taking z.ps z.c.n z.c.open_ z.c.unspent z.c.q r un z.c.opened (z.c.each j r e) in let fr = (z.c.each j r e).filling in
        ⊎_elim (λ (same : j ≡ z.id). let f : r.filling ≡ z.p.filling = ap (λ (y : Part A). y.filling) (some-injective r z.p (sym e ∙ (ap (get_elem? z.ps) same ∙ z.here))) in let k : held r ≡ 0 = omega arith in k)
        (λ (ne : j ≢ z.id). let y = lone_ticket own j r ne e in let k : held r ≡ 0 = omega arith in k) (decided j z.id)

    -- at an opening whose place is open and whose ticket is unspent, nothing was filled or given up
    pub none_filled : z.c.unspent ≡ 1 → (m : ℕ) → m ≡ z.c.n → total (λ (y : Part A). times m y.filled) z.ps ≡ 0
    none_filled un m em = total_zero (λ (y : Part A). times m y.filled) z.ps (λ j r e. times_none m r.filled
        (All-weaker (λ (y : Fill A). y.opening.number + z.c.unspent ≤ z.c.n) (λ (y : Fill A). y.opening.number + 1 ≤ m) (λ y h. omega arith) r.filled (z.c.each j r e).filled))

    pub none_given : z.c.open_ ≡ 1 → (m : ℕ) → m ≡ z.c.n → total (λ (y : Part A). among m y.given_up) z.ps ≡ 0
    none_given op m em = total_zero (λ (y : Part A). among m y.given_up) z.ps (λ j r e. among_none m r.given_up
        (All-weaker (λ (g : ℕ). g + z.c.open_ ≤ z.c.n) (λ (g : ℕ). g + 1 ≤ m) (λ g h. omega arith) r.given_up (z.c.each j r e).given_up))

    module _ (p' : Part A) where
      abbrev pub after : List (Part A)
      after = set z.ps z.id p'

      pub grown : ((e : Fill A) → IsIn e z.p.filled → IsIn e p'.filled) → (e : Fill A) → WasFilled z.ps e → WasFilled after e
      grown f e h = was_set z.ps z.id z.p p' e z.here (f e) h

      pub same_once : p'.filled ≡ z.p.filled → p'.given_up ≡ z.p.given_up → (m : ℕ) → total (λ (y : Part A). times m y.filled) after + total (λ (y : Part A). among m y.given_up) after ≤ 1
      same_once e eg m = let g = total_set (λ (y : Part A). among m y.given_up) z.ps z.id z.p p' z.here in let same_g : among m p'.given_up ≡ among m z.p.given_up = ap (among m) eg in
          let t = total_set (λ (y : Part A). times m y.filled) z.ps z.id z.p p' z.here in let same : times m p'.filled ≡ times m z.p.filled = ap (times m) e in let one = z.c.filled_once m in omega arith

      pub same_given : p'.given_up ≡ z.p.given_up → (m : ℕ) → total (λ (y : Part A). among m y.given_up) after ≡ total (λ (y : Part A). among m y.given_up) z.ps
      same_given eg m = let g = total_set (λ (y : Part A). among m y.given_up) z.ps z.id z.p p' z.here in let same : among m p'.given_up ≡ among m z.p.given_up = ap (among m) eg in omega arith

      pub same_dropped : p'.given_up ≡ z.p.given_up → p'.dropped ≡ z.p.dropped → (m : ℕ) → total (λ (y : Part A). among m y.dropped) after ≤ total (λ (y : Part A). among m y.given_up) after
      same_dropped eg ed m = let g = same_given eg m in let d = total_set (λ (y : Part A). among m y.dropped) z.ps z.id z.p p' z.here in let same : among m p'.dropped ≡ among m z.p.dropped = ap (among m) ed in let old = z.c.dropped m in omega arith

      pub slot_same : held p' ≡ held z.p → ((e : Fill A) → IsIn e z.p.filled → IsIn e p'.filled) → Slotted z.home after z.c.n z.c.open_ z.c.unspent z.c.q
      slot_same same f = let t = total_set held z.ps z.id z.p p' z.here in
          ⊎_elim (λ (h : (total held z.ps ≡ 0) × AtHome z.home z.ps z.c.n z.c.open_ z.c.unspent z.c.q).
          let y = h.0 in inl ((omega arith), (h.1.0, h.1.1, content_grows z.ps after z.c.n z.c.open_ z.c.unspent z.c.q h.1.0 (grown f) h.1.2)))
          (λ (h : total held z.ps ≡ 1). inr (omega arith)) z.c.slot

      same_total : (m : ℕ) (f : Part A → List (Fill A)) → f p' ≡ f z.p → total (λ (y : Part A). times m (f y)) after ≡ total (λ (y : Part A). times m (f y)) z.ps
      same_total m f e = let t = total_set (λ (y : Part A). times m (f y)) z.ps z.id z.p p' z.here in let same : times m (f p') ≡ times m (f z.p) = ap (times m) e in omega arith

      -- what was taken and filled stays, and nothing waits
      pub no_waits : p'.taken ≡ z.p.taken → p'.filled ≡ z.p.filled → (op' un' : ℕ) → op' ≤ un' → z.c.waiting.waits ≡ 0 → Waits after z.c.n op' un'
      no_waits et ef op' un' le none_ = let w = z.c.waiting in let h = w.here in let a = same_total z.c.n (λ (y : Part A). y.taken) et in let b = same_total z.c.n (λ (y : Part A). y.filled) ef in record {
        waits = 0;
        none_waits = λ lt. refl;
        one_waits = λ lt. absurd (omega arith);
        here = (omega arith);
        before = λ m ne. same_total m (λ (y : Part A). y.taken) et ∙ (w.before m ne ∙ sym (same_total m (λ (y : Part A). y.filled) ef));
      }

      pub same_waits : p'.taken ≡ z.p.taken → p'.filled ≡ z.p.filled → p'.taking ≡ z.p.taking → Waits after z.c.n z.c.open_ z.c.unspent
      same_waits et ef ek = let w = z.c.waiting in let h = w.here in let a = same_total z.c.n (λ (y : Part A). y.taken) et in let b = same_total z.c.n (λ (y : Part A). y.filled) ef in let t = total_set (λ (y : Part A). y.taking) z.ps z.id z.p p' z.here in record {
        waits = w.waits;
        none_waits = w.none_waits;
        one_waits = λ lt. let one = w.one_waits lt in omega arith;
        here = (omega arith);
        before = λ m ne. same_total m (λ (y : Part A). y.taken) et ∙ (w.before m ne ∙ sym (same_total m (λ (y : Part A). y.filled) ef));
      }

      pub changed : (w' : ℕ) (home' : HomeOf A) (n' op' un' : ℕ) (q' : RequestId) → op' ≤ 1 → un' ≤ 1 → w' ≡ word n' op' un' → owns p' ≡ owns z.p → unspent_in p' + z.c.unspent ≡ unspent_in z.p + un'
          → ((e : Fill A) → IsIn e z.p.filled → IsIn e p'.filled) → ((m : ℕ) → total (λ (y : Part A). times m y.filled) after + total (λ (y : Part A). among m y.given_up) after ≤ 1)
          → z.c.n + un' ≤ n' + z.c.unspent → z.c.n + op' ≤ n' + z.c.open_
          → (op' ≡ 0 → un' ≡ 1 → total (λ (y : Part A). among n' y.given_up) after ≡ 1) → ((m : ℕ) → total (λ (y : Part A). among m y.dropped) after ≤ total (λ (y : Part A). among m y.given_up) after)
          → ((j : ℕ) (r : Part A) → j ≢ z.id → get_elem? z.ps j ≡ some r → Owner z.c.n z.c.open_ z.c.unspent z.c.q r → Owner n' op' un' q' r)
          → ((j : ℕ) (r : Part A) → j ≢ z.id → get_elem? z.ps j ≡ some r → (unspent_in r ≡ 0) ⊎ ((n' ≡ z.c.n) × (q' ≡ z.c.q) × (op' ≤ z.c.open_)))
          → Waits after n' op' un' → Fits after n' op' un' q' p' → Slotted home' after n' op' un' q' → Cell w' home' after
      changed w' home' n' op' un' q' one few is own tick f once_ le le_op can drop_ owners tickets waiting mine slot = let a = total_set owns z.ps z.id z.p p' z.here in let b = total_set unspent_in z.ps z.id z.p p' z.here in
          let oo = z.c.one_owner in let ot = z.c.one_ticket in record {
            n = n';
            open_ = op';
            unspent = un';
            q = q';
            opened = one;
            word_is = is;
            one_owner = (omega arith);
            one_ticket = (omega arith);
            few = few;
            filled_once = once_;
            cancelled = can;
            dropped = drop_;
            waiting = waiting;
            each = at_each (Fits after n' op' un' q') z.ps z.id p' mine
                (λ j r ne e. other_fits z.ps after z.c.n z.c.open_ z.c.unspent n' op' un' z.c.q q' r (grown f) le le_op one (owners j r ne e) (tickets j r ne e) (z.c.each j r e));
            slot = slot;
          }

      -- a step of which the other seats learn nothing
      pub quiet : (home' : HomeOf A) → owns p' ≡ owns z.p → unspent_in p' ≡ unspent_in z.p → p'.filled ≡ z.p.filled → p'.given_up ≡ z.p.given_up → p'.dropped ≡ z.p.dropped
          → Waits after z.c.n z.c.open_ z.c.unspent → Fits after z.c.n z.c.open_ z.c.unspent z.c.q p' → Slotted home' after z.c.n z.c.open_ z.c.unspent z.c.q → Cell z.w home' after
      quiet home' own tick f eg ed waiting mine slot = changed z.w home' z.c.n z.c.open_ z.c.unspent z.c.q z.c.opened z.c.few z.c.word_is own (omega arith) (λ e h. subst (IsIn e) (sym f) h) (same_once f eg) (omega arith) (omega arith)
          (λ a b. same_given eg z.c.n ∙ z.c.cancelled a b) (same_dropped eg ed) (λ j r ne e o. o) (λ j r ne e. inr (refl, refl, omega arith)) waiting mine slot

      -- what was taken is filled still
      pub keeps_filled : p'.filled ≡ z.p.filled → All (WasFilled after) z.p.taken
      keeps_filled f = All-weaker (WasFilled z.ps) (WasFilled after) (grown (λ e h. subst (IsIn e) (sym f) h)) z.p.taken fits.taken
