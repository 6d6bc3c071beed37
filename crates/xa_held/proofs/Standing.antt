-- What a look-up found stands by the machine's events.
use Rattle.std.proofs.Common.{◌≡◌, ℕ, ◌==◌, ◌&&◌, ◌<◌, ◌≤◌, not, Bool, true, false, cond, List, [], ◌∷◌, ◌++◌, map, inl, inr, Option, Some, None, refl, sym, ap, ◌∙◌, subst, arith, eq-eqb, eqb-true, ⊎_elim, length}
use Rattle.xa_types.specs.Kind.{is_accepted, kind_of}
use Rattle.std.specs.Prelude.{IsSomeAnd}
use Rattle.std.specs.List.{All, filter, find, Contains}
use Rattle.std.specs.Str.{bytes_eq}
use Rattle.std.specs.Cmp.Derive.{both_true}
use Rattle.std.proofs.lemmas.Bool.{cases_Bool, and_parts}
use Rattle.std.proofs.lemmas.Slice.Eq.{bytes_eq-Decides}
use Rattle.std.proofs.lemmas.List.Elements.{All-nil, All-cons, All-head, All-tail, All-weaker, All-filter, All-push, filter_passes, All-contains, All-contains_itself}
use Rattle.std.proofs.lemmas.List.{nil_from_length}
use Rattle.xa_types.specs.declared.data.Data.{Data}
use Rattle.xa_types.specs.declared.row.Row.{Row}
use Rattle.xa_types.specs.declared.setup.Setup.{Setup}
use Rattle.xa_types.specs.declared.setup.ServiceSetup.{ServiceSetup}
use Rattle.xa_types.specs.declared.stamp.Stamp.{Stamp}
use Rattle.xa_types.specs.Found.{FoundRows}
use Rattle.xa_types.specs.Setup.{service_named}
use Rattle.xa_types.specs.Rows.{Change, rows, row_with, row_for, row_of, is_row_of, same_truth}
use Rattle.xa_types.specs.Rows.Change.{Put, Remove}
use Rattle.xa_events.specs.declared.event.Event.{Event}
use Rattle.xa_events.specs.Board.{published, changes, rows_of_version, listed_in}
use Rattle.xa_events.specs.Cases.{RowStands, RowAdmits}
use Rattle.xa_stamp.specs.declared.home.Stamped.{Stamped}
use Rattle.xa_stamp.specs.Home.{last_stamp}
use Rattle.xa_lock.specs.declared.pass.Page.{Page}
use Rattle.xa_lock.specs.Pages.{StartsWith}
use Rattle.xa_worker.specs.Seen.{past_in, SawFront}
use Rattle.xa_cell.proofs.Lists.{below}
use Rattle.xa_board.specs.Board.{BoardState, ReadsAsNoted, IsAsConfigured, past_of, version_of, stamp_of, put_of, rows_seen}
use Rattle.xa_board.specs.Reader.{Finds}
use Rattle.xa_board.proofs.Noted.{rows_of_version-last}
use Rattle.xa_board.proofs.Listed.{rows-configured, rows_seen-listed}
use Rattle.xa_held.specs.declared.kept_board.BoardNote.{BoardNote}
use Rattle.xa_held.specs.declared.kept_board.BoardNote.TheVariants.{Opened, By, Looked}
use Rattle.xa_held.specs.Board.{Held, IsPlaced, Climbs}
use Rattle.xa_held.specs.BoardVisits.{SeesBoard, BoardVisits, ReachesBoard}
use Rattle.xa_held.specs.Joins.{changes_at}
use Rattle.xa_held.proofs.Fronts.{changes_front, version_grows}

-- ---- one row of a service stands on a queue

abbrev is_same : Row → Row → Bool
is_same a b = is_row_of a.service a.queue.0 b

same_of : (a b : Row) → is_same a b ≡ true → is_same b a ≡ true
same_of a b so =
    let parts = and_parts (bytes_eq b.service a.service) (b.queue.0 == a.queue.0) so in
    both_true ((bytes_eq-Decides a.service b.service).1 (sym ((bytes_eq-Decides b.service a.service).0 parts.0))) (eq-eqb a.queue.0 b.queue.0 (sym (eqb-true b.queue.0 a.queue.0 parts.1)))

not_same_of : (a b : Row) → is_same a b ≡ false → is_same b a ≡ false
not_same_of a b apart = elim (cases_Bool (is_same b a)) [ inl y ↦ let so = same_of b a y in absurd (cc (so, apart)) | inr n ↦ n ]

same_self : (a : Row) → is_same a a ≡ true
same_self a = both_true ((bytes_eq-Decides a.service a.service).1 refl) (eq-eqb a.queue.0 a.queue.0 refl)

-- none behind each is of its service and its queue
abbrev Once : List Row → Type 0
Once [] = Unit {0}
Once (x ∷ xs) = All (λ y. is_same x y ≡ false) xs × Once xs

Once-filter : (p : Row → Bool) (xs : List Row) → Once xs → Once (filter p xs)
Once-filter p [] once = tt
Once-filter p (x ∷ xs) once = elim (cases_Bool (p x)) [
  | inl y ↦ subst (λ (b : Bool). Once (cond b (x ∷ filter p xs) (filter p xs))) (sym y) (All-filter p (λ (z : Row). is_same x z ≡ false) xs once.0, Once-filter p xs once.1)
  | inr n ↦ subst (λ (b : Bool). Once (cond b (x ∷ filter p xs) (filter p xs))) (sym n) (Once-filter p xs once.1)
]

Once-push : (xs : List Row) (z : Row) → All (λ y. is_same y z ≡ false) xs → Once xs → Once (xs ++ z ∷ [])
Once-push [] z other once = (All-nil (λ (y : Row). is_same z y ≡ false), tt)
Once-push (x ∷ xs) z other once = (
  All-push (λ (y : Row). is_same x y ≡ false) xs z once.0 (All-head (λ (y : Row). is_same y z ≡ false) x xs other),
  Once-push xs z (All-tail (λ (y : Row). is_same y z ≡ false) x xs other) once.1,
)

put_of-row_with : (configured : Option ServiceSetup) (service : List ℕ) (queue : ℕ) (routine : List ℕ) → put_of (row_with configured service queue routine) ≡ Put service queue routine
put_of-row_with None service queue routine = refl
put_of-row_with (Some configured) service queue routine = refl

-- the row that is put is of the service and the queue of the change
no_other : (service : List ℕ) (queue : ℕ) (z : Row) (routine : List ℕ) → put_of z ≡ Put service queue routine → (xs : List Row) → All (λ y. is_same y z ≡ false) (filter (λ row. not (is_row_of service queue row)) xs)
no_other service queue z routine is xs =
    let services : z.service ≡ service = cc is in
    let queues : z.queue.0 ≡ queue = cc is in
    All-weaker (λ (y : Row). not (is_row_of service queue y) ≡ true) (λ (y : Row). is_same y z ≡ false)
    (λ y kept. not_same_of z y (ap (λ s. is_row_of s z.queue.0 y) services ∙ ap (λ n. is_row_of service n y) queues ∙ not-true (is_row_of service queue y) kept))
    (filter (λ row. not (is_row_of service queue row)) xs) (filter_passes (λ row. not (is_row_of service queue row)) xs)
  where
    not-true : (b : Bool) → not b ≡ true → b ≡ false
    not-true true not_so = absurd (cc not_so)
    not-true false not_so = refl

rows-once : (setup : Setup) (made : List Change) → Once (rows setup made)
rows-once setup [] = tt
rows-once setup (Put service queue routine ∷ made) =
    let p : Row → Bool = λ row. not (is_row_of service queue row) in
    Once-push (filter p (rows setup made)) (row_for setup service queue routine) (no_other service queue (row_for setup service queue routine) routine (put_of-row_with (service_named setup service) service queue routine) (rows setup made))
    (Once-filter p (rows setup made) (rows-once setup made))
rows-once setup (Remove service queue ∷ made) = Once-filter (λ row. not (is_row_of service queue row)) (rows setup made) (rows-once setup made)

-- so each of them is found
abbrev Finds-in : List Row → Row → Type 0
Finds-in whole y = row_of y.service y.queue.0 whole ≡ Some y

each-found : (xs : List Row) → Once xs → All (Finds-in xs) xs
each-found [] once = All-nil (Finds-in [])
each-found (x ∷ xs) once = All-cons (Finds-in (x ∷ xs)) x xs (ap (λ b. cond b (Some x) (find (is_row_of x.service x.queue.0) xs)) (same_self x)) (behind xs once.0 (each-found xs once.1))
  where
    behind : (ys : List Row) → All (λ (y : Row). is_same x y ≡ false) ys → All (Finds-in xs) ys → All (Finds-in (x ∷ xs)) ys
    behind [] others found = All-nil (Finds-in (x ∷ xs))
    behind (y ∷ ys) others found =
        let apart : is_same y x ≡ false = not_same_of x y (All-head (λ (z : Row). is_same x z ≡ false) y ys others) in
        All-cons (Finds-in (x ∷ xs)) y ys (ap (λ b. cond b (Some x) (find (is_row_of y.service y.queue.0) xs)) apart ∙ All-head (Finds-in xs) y ys found)
        (behind ys (All-tail (λ (z : Row). is_same x z ≡ false) y ys others) (All-tail (Finds-in xs) y ys found))

-- a row of the board stands so by the changes
abbrev Stands : Setup → List Row → Row → Type 0
Stands setup whole x = row_of x.service x.queue.0 whole ≡ Some (row_for setup x.service x.queue.0 x.routine)

across : (setup : Setup) (whole standing others : List Row) → map put_of standing ≡ map put_of others → All (Finds-in whole) others → All (IsAsConfigured setup) others → All (Stands setup whole) standing
across setup whole [] [] same found configured = All-nil (Stands setup whole)
across setup whole [] (y ∷ others) same found configured = absurd (cc same)
across setup whole (x ∷ standing) [] same found configured = absurd (cc same)
across setup whole (x ∷ standing) (y ∷ others) same found configured =
    let services : x.service ≡ y.service = cc same in
    let queues : x.queue.0 ≡ y.queue.0 = cc same in
    let routines : x.routine ≡ y.routine = cc same in
    let rest : map put_of standing ≡ map put_of others = cc same in
    let here : row_of x.service x.queue.0 whole ≡ row_of y.service y.queue.0 whole = ap (λ s. row_of s x.queue.0 whole) services ∙ ap (λ n. row_of y.service n whole) queues in
    let put : row_for setup x.service x.queue.0 x.routine ≡ row_for setup y.service y.queue.0 y.routine =
    ap (λ s. row_for setup s x.queue.0 x.routine) services ∙ ap (λ n. row_for setup y.service n x.routine) queues ∙ ap (λ r. row_for setup y.service y.queue.0 r) routines in
    All-cons (Stands setup whole) x standing (here ∙ All-head (Finds-in whole) y others found ∙ ap (λ (r : Row). Some r) (All-head (IsAsConfigured setup) y others configured ∙ sym put))
    (across setup whole standing others rest (All-tail (Finds-in whole) y others found) (All-tail (IsAsConfigured setup) y others configured))

stands-all : (setup : Setup) (board : BoardState) → ReadsAsNoted board → All (Stands setup (rows_of_version setup (past_of board) (version_of board))) board.rows
stands-all setup board reads =
    let last = rows_of_version-last setup (past_of board) in
    let made = changes (past_of board) in
    subst (λ (whole : List Row). All (Stands setup whole) board.rows) (sym last)
    (across setup (rows setup made) board.rows (rows setup made) (reads.standing setup ∙ ap (map put_of) last) (each-found (rows setup made) (rows-once setup made)) (rows-configured setup made))

-- rows of a service that are as configured are so by its name
abbrev IsRowOf : Setup → List ℕ → Row → Type 0
IsRowOf setup name row = row ≡ row_for setup name row.queue.0 row.routine

by_name : (setup : Setup) (name : List ℕ) (row : Row) (other : Bool) → (bytes_eq row.service name && other) ≡ true → IsAsConfigured setup row → IsRowOf setup name row
by_name setup name row other passes is =
    let same : row.service ≡ name = (bytes_eq-Decides row.service name).0 (and_parts (bytes_eq row.service name) other passes).0 in
    is ∙ ap (λ (s : List ℕ). row_for setup s row.queue.0 row.routine) same

all_by_name : (setup : Setup) (name : List ℕ) (wanted : Bool) (rows : List Row) → All (λ row. (bytes_eq row.service name && same_truth row.conversational wanted) ≡ true) rows → All (IsAsConfigured setup) rows → All (IsRowOf setup name) rows
all_by_name setup name wanted [] passed all = All-nil (IsRowOf setup name)
all_by_name setup name wanted (row ∷ rows) passed all =
    let P : Row → Type 0 = λ row. (bytes_eq row.service name && same_truth row.conversational wanted) ≡ true in
    All-cons (IsRowOf setup name) row rows (by_name setup name row (same_truth row.conversational wanted) (All-head P row rows passed) (All-head (IsAsConfigured setup) row rows all))
    (all_by_name setup name wanted rows (All-tail P row rows passed) (All-tail (IsAsConfigured setup) row rows all))

-- ---- what a pass saw

-- no stamp of a change is greater than the last change's
below_last : (notes : List BoardNote) (least : ℕ) (first : Stamp) → first.0 ≤ least → Climbs least notes → (first.0 ≤ last_stamp first (changes_at notes)) × All (λ (x : Stamped). x.stamp.0 ≤ last_stamp first (changes_at notes)) (changes_at notes)
below_last [] least first low climbs = (omega arith, All-nil (λ (x : Stamped). x.stamp.0 ≤ first.0))
below_last (Opened s ∷ notes) least first low climbs = below_last notes least first low climbs
below_last (By m ∷ notes) least first low climbs =
    let rest = below_last notes m.noted.stamp.0 m.noted.stamp (omega arith) climbs.1 in
    (omega (arith, climbs.0, rest.0, low), All-cons (λ (x : Stamped). x.stamp.0 ≤ last_stamp m.noted.stamp (changes_at notes)) m.noted (changes_at notes) rest.0 rest.1)
below_last (Looked l ∷ notes) least first low climbs = below_last notes l.stamp.0 first (omega (arith, climbs.0, low)) climbs.1

last_low : (first : Stamp) (entries : List Stamped) (n : ℕ) → All (λ (x : Stamped). x.stamp.0 ≤ n) entries → 0 < length entries → last_stamp first entries ≤ n
last_low first [] n all some = absurd (omega (arith, some))
last_low first (x ∷ []) n all some = All-head (λ (x : Stamped). x.stamp.0 ≤ n) x [] all
last_low first (x ∷ y ∷ rest) n all some = last_low x.stamp (y ∷ rest) n (All-tail (λ (x : Stamped). x.stamp.0 ≤ n) x (y ∷ rest) all) (omega arith)

its_service : (configured : Option ServiceSetup) (service : List ℕ) (queue : ℕ) (routine : List ℕ) → (row_with configured service queue routine).service ≡ service
its_service None service queue routine = refl
its_service (Some c) service queue routine = refl

as_wanted : (b w : Bool) → same_truth b w ≡ true → b ≡ w
as_wanted true true is = refl
as_wanted true false is = cc (sym is)
as_wanted false true is = cc is
as_wanted false false is = refl

module _ (p p' : Page BoardNote) (now : List BoardNote) (name : List ℕ) (wanted : Bool) (found : FoundRows) (stamp : Stamp) where
  abbrev Looks : Type 0
  Looks = BoardVisits p p' [] (λ old new. (new ≡ old) × (found.version ≡ version_of old.board) × Finds old.board name wanted found)

  -- no change that the pass saw has a greater stamp than the last one
  pub seen_below : (visits : Looks) → All (λ (x : Stamped). x.stamp.0 ≤ found.stamp.0) (changes_at p'.seen)
  seen_below visits =
      let first : Stamp = visits.new.board.first in
      let last : stamp_of visits.new.board ≡ found.stamp.0 = ap (λ (h : Held). stamp_of h.board) visits.how.0 ∙ sym visits.how.2.stamp in
      let lasts : last_stamp first (changes_at visits.new.notes) ≡ stamp_of visits.new.board = ap (last_stamp first) visits.sound.noted in
      subst (λ (l : List BoardNote). All (λ (x : Stamped). x.stamp.0 ≤ found.stamp.0) (changes_at l)) (sym visits.saw)
      (All-weaker (λ (x : Stamped). x.stamp.0 ≤ last_stamp first (changes_at visits.new.notes)) (λ (x : Stamped). x.stamp.0 ≤ found.stamp.0) (λ x low. omega (arith, low, lasts, last)) (changes_at visits.new.notes) (below_last visits.new.notes first.0 first (omega arith) visits.sound.climbs).1)

  -- what holds of the board that was found was seen of a front
  saw : (P : List Event → Type 0) (visits : Looks) → StartsWith now p'.seen → (0 < found.version → found.stamp.0 < stamp.0) → P (past_of visits.old.board) → SawFront (changes_at now) stamp P
  saw P visits begins less shows =
      let front : changes_at p'.seen ≡ visits.new.board.entries = ap changes_at visits.saw ∙ visits.sound.noted in
      let same : visits.new.board ≡ visits.old.board = ap (λ (h : Held). h.board) visits.how.0 in
      record {
        front = changes_at p'.seen;
        stands = changes_front now p'.seen begins;
        before = ⊎_elim
            (λ (some : 0 < found.version). let later = less some in All-weaker (λ (x : Stamped). x.stamp.0 ≤ found.stamp.0) (λ (x : Stamped). x.stamp.0 < stamp.0) (λ x low. omega (arith, low, later)) (changes_at p'.seen) (seen_below visits))
            (λ (none : found.version ≤ 0). let length_is = visits.reads.changes in let version_is = ap version_of same in
            subst (All (λ (x : Stamped). x.stamp.0 < stamp.0)) (sym (front ∙ nil_from_length visits.new.board.entries (omega (arith, none, length_is, version_is, visits.how.1)))) (All-nil (λ (x : Stamped). x.stamp.0 < stamp.0)))
            (below 0 found.version);
        shows = subst (λ (l : List Stamped). P (past_in l)) (sym front) (subst (λ (b : BoardState). P (past_of b)) (sym same) shows);
      }

  pub found_grows : Looks → published (past_in (changes_at p.seen)) ≤ found.version
  found_grows visits =
      let least = version_grows p.seen visits.new (subst (λ (h : Held). StartsWith h.notes p.seen) (sym visits.how.0) visits.knew.1) visits.sound in
      let same : version_of visits.new.board ≡ version_of visits.old.board = ap (λ (h : Held). version_of h.board) visits.how.0 in
      omega (arith, least, same, visits.how.1)

  pub version_seen : Looks → StartsWith now p'.seen → (0 < found.version → found.stamp.0 < stamp.0) → SawFront (changes_at now) stamp (λ past. found.version ≡ published past)
  version_seen visits begins less = saw (λ past. found.version ≡ published past) visits begins less visits.how.1

  -- the rows of the board that was found are as the setup gives them, which the pass saw
  all_placed : (setup : Setup) (visits : Looks) → SeesBoard setup p → All (IsPlaced setup) visits.old.board.rows
  all_placed setup visits sees =
      let is : visits.new.setup ≡ setup = visits.same ∙ visits.setup setup sees in
      let same : visits.new.board ≡ visits.old.board = ap (λ (h : Held). h.board) visits.how.0 in
      subst (λ (b : BoardState). All (IsPlaced setup) b.rows) same (subst (λ (s : Setup). All (IsPlaced s) visits.new.board.rows) is visits.sound.placed)

  as_configured : (setup : Setup) (visits : Looks) → SeesBoard setup p → All (IsAsConfigured setup) visits.old.board.rows
  as_configured setup visits sees = All-weaker (IsPlaced setup) (IsAsConfigured setup) (λ row is. is.configured) visits.old.board.rows (all_placed setup visits sees)

  pub found_placed : (setup : Setup) → Looks → SeesBoard setup p → All (IsPlaced setup) found.rows
  found_placed setup visits sees =
      subst (All (IsPlaced setup)) (sym visits.how.2.rows) (All-filter (λ row. bytes_eq row.service name && same_truth row.conversational wanted) (IsPlaced setup) visits.old.board.rows (all_placed setup visits sees))

  pub found_configured : (setup : Setup) → Looks → SeesBoard setup p → All (λ row. row ≡ row_for setup name row.queue.0 row.routine) found.rows
  found_configured setup visits sees =
      let test : Row → Bool = λ row. bytes_eq row.service name && same_truth row.conversational wanted in
      let rows : List Row = visits.old.board.rows in
      subst (All (IsRowOf setup name)) (sym visits.how.2.rows)
      (all_by_name setup name wanted (filter test rows) (filter_passes test rows) (All-filter test (IsAsConfigured setup) rows (as_configured setup visits sees)))

  pub found_listed : (setup : Setup) → Looks → SeesBoard setup p → StartsWith now p'.seen → (0 < found.version → found.stamp.0 < stamp.0) → SawFront (changes_at now) stamp (λ past. (found.version ≤ published past) × (listed_in setup past found.version name wanted ≡ found.rows))
  found_listed setup visits sees begins less =
      let board : BoardState = visits.old.board in
      let same : visits.new.board ≡ board = ap (λ (h : Held). h.board) visits.how.0 in
      let seen : rows_seen name wanted board.rows ≡ listed_in setup (past_of board) (version_of board) name wanted = rows_seen-listed setup board (subst ReadsAsNoted same visits.reads) (as_configured setup visits sees) name wanted in
      saw (λ past. (found.version ≤ published past) × (listed_in setup past found.version name wanted ≡ found.rows)) visits begins less
      (omega (arith, visits.how.1), ap (λ (v : ℕ). listed_in setup (past_of board) v name wanted) visits.how.1 ∙ sym seen ∙ sym visits.how.2.rows)

  pub found_stands : (setup : Setup) (conversational : Bool) (routine : List ℕ) (payload : Data) → Looks → StartsWith now p'.seen → (0 < found.version → found.stamp.0 < stamp.0)
      → All (λ row. RowAdmits setup conversational routine payload (row_for setup row.service row.queue.0 row.routine) → SawFront (changes_at now) stamp (RowStands setup found.version row.service row.queue.0 (RowAdmits setup conversational routine payload))) found.rows
  found_stands setup conversational routine payload visits begins less =
      let P : Row → Type 0 = RowAdmits setup conversational routine payload in
      let board : BoardState = visits.old.board in
      let same : visits.new.board ≡ board = ap (λ (h : Held). h.board) visits.how.0 in
      let reads : ReadsAsNoted board = subst ReadsAsNoted same visits.reads in
      let whole : List Row = rows_of_version setup (past_of board) (version_of board) in
      let all : All (Stands setup whole) board.rows = stands-all setup board reads in
      let test : Row → Bool = λ row. bytes_eq row.service name && same_truth row.conversational wanted in
      let those : All (Stands setup whole) found.rows = subst (All (Stands setup whole)) (sym visits.how.2.rows) (All-filter test (Stands setup whole) board.rows all) in
      All-weaker (Stands setup whole) (λ row. P (row_for setup row.service row.queue.0 row.routine) → SawFront (changes_at now) stamp (RowStands setup found.version row.service row.queue.0 P))
      (λ row stands admits. saw (RowStands setup found.version row.service row.queue.0 P) visits begins less (record {
        version = omega (arith, visits.how.1);
        row = subst (λ (v : ℕ). IsSomeAnd (row_of row.service row.queue.0 (rows_of_version setup (past_of board) v)) P) (sym visits.how.1) (subst (λ (o : Option Row). IsSomeAnd o P) (sym stands) admits);
      })) found.rows those

  -- each row that takes the kind of the data stands there, for a call that is or isn't of a conversation
  pub found_admits : (setup : Setup) (payload : Data) → Looks → SeesBoard setup p → StartsWith now p'.seen → (0 < found.version → found.stamp.0 < stamp.0)
      → All (λ row. is_accepted setup row.accepts (kind_of payload) ≡ true → SawFront (changes_at now) stamp (RowStands setup found.version name row.queue.0 (RowAdmits setup wanted row.routine payload))) found.rows
  found_admits setup payload visits sees begins less =
      let test : Row → Bool = λ row. bytes_eq row.service name && same_truth row.conversational wanted in
      let passed : All (λ (row : Row). test row ≡ true) found.rows = subst (All (λ (row : Row). test row ≡ true)) (sym visits.how.2.rows) (filter_passes test visits.old.board.rows) in
      let rows = found_configured setup visits sees in
      let placed = found_placed setup visits sees in
      All-weaker (Contains found.rows) (λ (row : Row). is_accepted setup row.accepts (kind_of payload) ≡ true → SawFront (changes_at now) stamp (RowStands setup found.version name row.queue.0 (RowAdmits setup wanted row.routine payload)))
      (λ row here accepts.
      let Admits : Row → Type 0 = RowAdmits setup wanted row.routine payload in
      let its : row ≡ row_for setup name row.queue.0 row.routine = All-contains (λ (r : Row). r ≡ row_for setup name r.queue.0 r.routine) found.rows row rows here in
      let as_given = (All-contains (IsPlaced setup) found.rows row placed here).configured in
      let kind = as_wanted row.conversational wanted (and_parts (bytes_eq row.service name) (same_truth row.conversational wanted) (All-contains (λ (r : Row). test r ≡ true) found.rows row passed here)).1 in
      let admits : Admits row = record { its_routine = refl; its_kind = kind; kind = accepts } in
      subst (λ (service : List ℕ). SawFront (changes_at now) stamp (RowStands setup found.version service row.queue.0 Admits)) (ap (λ (r : Row). r.service) its ∙ its_service (service_named setup name) name row.queue.0 row.routine)
      (All-contains (λ (r : Row). Admits (row_for setup r.service r.queue.0 r.routine) → SawFront (changes_at now) stamp (RowStands setup found.version r.service r.queue.0 Admits)) found.rows row
      (found_stands setup wanted row.routine payload visits begins less) here (subst Admits as_given admits))) found.rows (All-contains_itself found.rows)

module _ {p p' : Page BoardNote} {name : List ℕ} {wanted : Bool} {found : FoundRows} (looks : BoardVisits p p' [] (λ old new. (new ≡ old) × (found.version ≡ version_of old.board) × Finds old.board name wanted found)) where
  changes_are : changes_at p'.seen ≡ looks.new.board.entries
  changes_are = ap changes_at looks.saw ∙ looks.sound.noted

  -- the version that was found has been seen
  pub found_seen : found.version ≡ published (past_in (changes_at p'.seen))
  found_seen = looks.how.1 ∙ ap (λ (h : Held). version_of h.board) (sym looks.how.0) ∙ ap (λ (l : List Stamped). published (past_in l)) (sym changes_are)

  -- and where it has a change its stamp is below any that is behind all that was seen
  pub found_later : (last stamp : Stamp) → All (λ (x : Stamped). x.stamp.0 ≤ last.0) (changes_at p'.seen) → last.0 < stamp.0 → 0 < found.version → found.stamp.0 < stamp.0
  found_later last stamp reached less more =
      let count : found.version ≡ length (changes_at p'.seen) = found_seen ∙ ap (λ (l : List Stamped). published (past_in l)) changes_are ∙ looks.reads.changes ∙ ap length (sym changes_are) in
      let first : Stamp = looks.new.board.first in
      let is_last = looks.how.2.stamp ∙ ap (λ (h : Held). stamp_of h.board) (sym looks.how.0) ∙ ap (last_stamp first) (sym changes_are) in
      let low = last_low first (changes_at p'.seen) last.0 reached (omega (arith, count, more)) in
      omega (arith, less, is_last, low)
