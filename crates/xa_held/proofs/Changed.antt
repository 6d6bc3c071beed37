-- A change of the board that a pass made met what is asked of the board's changes before it, and so among those that stand there in the end.
use Rattle.std.proofs.Common.{◌≡◌, ◌⊎◌, ◌<◌, ◌≤◌, ℕ, ◌==◌, ◌&&◌, Bool, true, false, cond, if◌then◌else◌, List, [], ◌∷◌, ◌++◌, map, length, Option, Some, None, IfSome, IsSome, arith, eq-eqb, Ok, inl, inr, refl, sym, ◌∙◌, ap, subst, append_assoc}
use Rattle.std.specs.Prelude.{slice_get, option_map, nat_lt}
use Rattle.std.specs.Str.{bytes_eq}
use Rattle.std.specs.Option.{option_or}
use Rattle.std.proofs.lemmas.List.{length-map}
use Rattle.std.specs.List.{filter, find}
use Rattle.std.specs.Cmp.Derive.{both_true}
use Rattle.std.proofs.lemmas.Bool.{cases_Bool, false≢true, ltb-true, ltb-false}
use Rattle.std.proofs.lemmas.Grind.{flat_map-append}
use Rattle.std.proofs.lemmas.List.{map-append}
use Rattle.std.proofs.lemmas.Slice.Eq.{bytes_eq-Decides}
use Rattle.xa_types.specs.declared.ids.CallerId.{CallerId}
use Rattle.xa_types.specs.declared.ids.QueueId.{QueueId}
use Rattle.xa_types.specs.declared.row.Row.{Row}
use Rattle.xa_types.specs.declared.setup.Setup.{Setup}
use Rattle.xa_types.specs.declared.stamp.Stamp.{Stamp}
use Rattle.xa_types.specs.Rows.{Change, configured, is_row_of, row_of}
use Rattle.xa_events.specs.declared.event.Event.{Event}
use Rattle.xa_events.specs.Board.{rows_of_version}
use Rattle.xa_events.specs.Cases.{HomePart}
use Rattle.xa_stamp.specs.declared.home.Stamped.{Stamped}
use Rattle.xa_stamp.specs.declared.told.Noted.{Noted}
use Rattle.xa_lock.specs.declared.makers.Made.{Made}
use Rattle.xa_lock.specs.declared.pass.Page.{Page}
use Rattle.xa_lock.specs.Makers.{noted_in}
use Rattle.xa_lock.specs.Pages.{StartsWith}
use Rattle.xa_worker.specs.Crew.{MetAmong}
use Rattle.xa_worker.specs.Seen.{past_in}
use Rattle.xa_board.specs.declared.board.Changed.{Changed}
use Rattle.xa_board.specs.Board.{past_of, version_of, put_of}
use Rattle.xa_board.specs.Changes.{is_on, bars_put, bars_withdrawal}
use Rattle.xa_held.specs.declared.kept_board.BoardNote.{BoardNote}
use Rattle.xa_held.specs.declared.kept_board.BoardNote.TheVariants.{By}
use Rattle.xa_held.specs.declared.kept_board.Clearing.TheVariants.{Withdrew}
use Rattle.xa_held.specs.Board.{Held, made_of, made_in}
use Rattle.xa_held.specs.BoardSteps.{change, AdvertisedAs, WithdrewAs, ClearedAs}
use Rattle.xa_held.specs.BoardVisits.{BoardVisits}
use Rattle.xa_held.specs.Joins.{changes_at}
use Rattle.xa_held.proofs.Fronts.{changes_front}

-- the first row of a queue stands among the rows that the changes leave
some_if : {X : Type 0} (b : Bool) (x : X) (o : Option X) → IsSome o → IsSome (cond b (Some x) o)
some_if true x o some = refl
some_if false x o some = some

some_on : (queue : ℕ) (row : Row) (rows others : List Row) → map put_of rows ≡ map put_of others → slice_get (filter (is_on queue) rows) 0 ≡ Some row → IsSome (find (is_row_of row.service queue) others)
some_on queue row [] others same first = absurd (cc first)
some_on queue row (x ∷ rows) [] same first = absurd (cc same)
some_on queue row (x ∷ rows) (y ∷ others) same first =
    let p : Row → Bool = is_row_of row.service queue in
    elim (cases_Bool (is_on queue x)) [
      | inl on ↦
          let here : slice_get (x ∷ filter (is_on queue) rows) 0 ≡ Some row = sym (ap (λ b. slice_get (cond b (x ∷ filter (is_on queue) rows) (filter (is_on queue) rows)) 0) on) ∙ first in
          let it : x ≡ row = cc here in
          let services : x.service ≡ y.service = cc same in
          let queues : x.queue.0 ≡ y.queue.0 = cc same in
          let service : y.service ≡ row.service = sym services ∙ ap (λ (r : Row). r.service) it in
          let is : p y ≡ true = both_true ((bytes_eq-Decides y.service row.service).1 service) (ap (λ n. n == queue) (sym queues) ∙ on) in
          subst (λ b. IsSome (cond b (Some y) (find p others))) (sym is) refl
      | inr off ↦
          let rest : map put_of rows ≡ map put_of others = cc same in
          some_if (p y) y (find p others) (some_on queue row rows others rest (sym (ap (λ b. slice_get (cond b (x ∷ filter (is_on queue) rows) (filter (is_on queue) rows)) 0) off) ∙ first))
    ]

-- rows that the same changes put
pub same_found : (service : List ℕ) (queue : ℕ) (rows others : List Row) → map put_of rows ≡ map put_of others → option_map put_of (row_of service queue rows) ≡ option_map put_of (row_of service queue others)
same_found service queue [] [] same = refl
same_found service queue [] (y ∷ others) same = absurd (cc same)
same_found service queue (x ∷ rows) [] same = absurd (cc same)
same_found service queue (x ∷ rows) (y ∷ others) same =
    let p : Row → Bool = is_row_of service queue in
    let services : x.service ≡ y.service = cc same in
    let queues : x.queue.0 ≡ y.queue.0 = cc same in
    let puts : put_of x ≡ put_of y = cc same in
    let rest : map put_of rows ≡ map put_of others = cc same in
    let hits : p x ≡ p y = ap (λ (s : List ℕ). bytes_eq s service && (x.queue.0 == queue)) services ∙ ap (λ (n : ℕ). bytes_eq y.service service && (n == queue)) queues in
    let found : Bool → Row → List Row → Option Change = λ b z others. option_map put_of (cond b (Some z) (row_of service queue others)) in
    elim (cases_Bool (p y)) [
      | inl on ↦ ap (λ (b : Bool). found b x rows) (hits ∙ on) ∙ (ap Some puts ∙ sym (ap (λ (b : Bool). found b y others) on))
      | inr off ↦ ap (λ (b : Bool). found b x rows) (hits ∙ off) ∙ (same_found service queue rows others rest ∙ sym (ap (λ (b : Bool). found b y others) off))
    ]

none_first : {A : Type 0} (a b : Option A) → option_or a b ≡ None → a ≡ None
none_first None b none = refl
none_first (Some x) b none = absurd (cc none)

if_none : {A : Type 0} (b : Bool) (x : A) → (if b then None else Some x) ≡ None → b ≡ true
if_none true x none = refl
if_none false x none = absurd (cc none)

if_some_none : {A : Type 0} (b : Bool) (x : A) → (if b then Some x else None) ≡ None → b ≡ false
if_some_none false x none = refl
if_some_none true x none = absurd (cc none)

-- a row that isn't barred may be put among the rows that the changes leave
may_put : (row : Row) (rows others : List Row) → map put_of rows ≡ map put_of others → length rows ≤ 256 → bars_put row rows (row_of row.service row.queue.0 rows) ≡ None
    → IfSome (row_of row.service row.queue.0 others) (λ (standing : Row). standing.routine ≡ row.routine) × ((length others < 256) ⊎ IsSome (row_of row.service row.queue.0 others))
may_put row rows others same few none = by (row_of row.service row.queue.0 rows) (row_of row.service row.queue.0 others) (same_found row.service row.queue.0 rows others same) none
  where
    as_many : length rows ≡ length others
    as_many = sym (length-map rows put_of) ∙ (ap length same ∙ length-map others put_of)

    less : {n m : ℕ} → n ≡ m → n ≤ 256 → (n == 256) ≡ false → m < 256
    less {n} {m} is le other = elim (cases_Bool (nat_lt n 256)) [
      | inl lower ↦ let low = ltb-true n 256 lower in omega (arith, is, low)
      | inr upper ↦ let least = ltb-false n 256 upper in absurd (false≢true (sym other ∙ eq-eqb n 256 (omega (arith, le, least))))
    ]

    by : (o o' : Option Row) → option_map put_of o ≡ option_map put_of o' → bars_put row rows o ≡ None → IfSome o' (λ (standing : Row). standing.routine ≡ row.routine) × ((length others < 256) ⊎ IsSome o')
    by (Some x) (Some y) found free = let routines : x.routine ≡ y.routine = cc found in (sym routines ∙ (bytes_eq-Decides x.routine row.routine).0 (if_none (bytes_eq x.routine row.routine) _ free), inr refl)
    by (Some x) None found free = absurd (cc found)
    by None (Some y) found free = absurd (cc found)
    by None None found free = let below = if_some_none (length rows == 256) _ free in (tt, inl (less as_many few below))

-- a row that stands may be withdrawn
may_withdraw : (service : List ℕ) (queue : ℕ) (rows others : List Row) → map put_of rows ≡ map put_of others → bars_withdrawal (row_of service queue rows) ≡ None → IsSome (row_of service queue others)
may_withdraw service queue rows others same none = by (row_of service queue rows) (row_of service queue others) (same_found service queue rows others same) none
  where
    by : (o o' : Option Row) → option_map put_of o ≡ option_map put_of o' → bars_withdrawal o ≡ None → IsSome o'
    by (Some x) (Some y) found free = refl
    by (Some x) None found free = absurd (cc found)
    by None o' found free = absurd (cc free)

module _ (setup : Setup) (p p' : Page BoardNote) (maker : CallerId) (board : Held) (begins : StartsWith board.notes p'.seen) where
  -- what the board met as the pass found it
  change_met : (noted : Noted) {How : Held → Held → Type 0} (v : BoardVisits p p' (change maker noted) How) → HomePart setup noted.event.value (past_of v.old.board) → MetAmong setup (changes_at board.notes) (record { stamp = noted.stamp; event = noted.event.value })
  change_met noted v met =
      let m : Made = record { maker = maker; noted = record { stamp = noted.stamp; event = noted.event.value } } in
      let on = changes_front board.notes p'.seen begins in
      let found : List Stamped = changes_at v.old.notes in
      let seen : changes_at p'.seen ≡ found ++ m.noted ∷ [] =
      ap changes_at (v.saw ∙ v.grew) ∙ ap noted_in (flat_map-append made_of v.old.notes (By m ∷ [])) ∙ map-append (λ (z : Made). z.noted) (made_in v.old.notes) (m ∷ []) in
      record {
        before = found;
        after = on.0;
        stands = on.1 ∙ ap (λ (l : List Stamped). l ++ on.0) seen ∙ append_assoc found (m.noted ∷ []) on.0;
        shows = subst (λ (l : List Stamped). HomePart setup noted.event.value (past_in l)) (sym v.was.noted) met;
      }

  -- a row that the domain withdraws stood there
  pub withdrawal_met : (seen : Stamp) (queue : QueueId) (noted : Noted) → ClearedAs (BoardVisits p p') seen maker queue (Ok (Withdrew noted)) → MetAmong setup (changes_at board.notes) (record { stamp = noted.stamp; event = noted.event.value })
  withdrawal_met seen queue noted v =
      let how = v.how in
      let row : Row = how.0 in
      change_met noted v (subst (λ (e : Event). HomePart setup e (past_of v.old.board)) (sym how.2.event_is) (record {
        stands = some_on queue.0 row v.old.board.rows (rows_of_version setup (past_of v.old.board) (version_of v.old.board)) (v.read.standing setup) how.1;
        version = refl;
      }))

  -- a row that the domain advertises at the boot is the one that comes next there
  pub boot_met : (seen : Stamp) (by : CallerId) (op : ℕ) (row : Row) (done : Changed) (v : AdvertisedAs (BoardVisits p p') seen maker by op row (Ok done)) → by.0 ≡ 0 → slice_get (configured setup) (version_of v.old.board) ≡ Some (put_of row)
      → MetAmong setup (changes_at board.notes) (record { stamp = done.noted.stamp; event = done.noted.event.value })
  boot_met seen by op row done v domain booting =
      let how = v.how in
      change_met done.noted v (subst (λ (e : Event). HomePart setup e (past_of v.old.board)) (sym how.1.event_is) (inl (record {
        domain = domain;
        booting = booting;
        version = ap (λ (n : ℕ × Stamp). n.0) how.1.next;
      })))

  -- a row that a server advertises wasn't barred
  pub put_met : (seen : Stamp) (by : CallerId) (op : ℕ) (row : Row) (done : Changed) (v : AdvertisedAs (BoardVisits p p') seen maker by op row (Ok done)) → 0 < by.0
      → MetAmong setup (changes_at board.notes) (record { stamp = done.noted.stamp; event = done.noted.event.value })
  put_met seen by op row done v server =
      let how = v.how in
      let may = may_put row v.old.board.rows (rows_of_version setup (past_of v.old.board) (version_of v.old.board)) (v.read.standing setup) v.read.few (none_first _ _ how.0) in
      change_met done.noted v (subst (λ (e : Event). HomePart setup e (past_of v.old.board)) (sym how.1.event_is) (inr (record {
        server = server;
        same = may.0;
        room = may.1;
        version = ap (λ (n : ℕ × Stamp). n.0) how.1.next;
      })))

  -- and one that it withdraws stood there
  pub taken_met : (seen : Stamp) (by : CallerId) (op : ℕ) (service : List ℕ) (queue : QueueId) (done : Changed) (v : WithdrewAs (BoardVisits p p') seen maker by op service queue (Ok done))
      → MetAmong setup (changes_at board.notes) (record { stamp = done.noted.stamp; event = done.noted.event.value })
  taken_met seen by op service queue done v =
      let how = v.how in
      change_met done.noted v (subst (λ (e : Event). HomePart setup e (past_of v.old.board)) (sym how.1.event_is) (record {
        stands = may_withdraw service queue.0 v.old.board.rows (rows_of_version setup (past_of v.old.board) (version_of v.old.board)) (v.read.standing setup) (none_first _ _ how.0);
        version = ap (λ (n : ℕ × Stamp). n.0) how.1.next;
      }))
