-- A board reads as its events do also once a change is noted.
use Rattle.std.proofs.Common.{◌≡◌, ◌+◌, ◌-◌, ◌≤◌, List, [], ◌∷◌, ◌++◌, length, map, reverse, drop, Option, Some, None, refl, sym, ◌∙◌, ap, arith, length-append}
use Rattle.std.proofs.lemmas.List.{map-append, reverse-append}
use Rattle.std.specs.List.{cons_option}
use Rattle.xa_types.specs.declared.stamp.Stamp.{Stamp}
use Rattle.xa_types.specs.declared.row.Row.{Row}
use Rattle.xa_types.specs.declared.setup.Setup.{Setup}
use Rattle.xa_types.specs.declared.setup.ServiceSetup.{ServiceSetup}
use Rattle.xa_types.specs.Setup.{service_named}
use Rattle.xa_types.specs.Rows.{Change, rows, row_with, row_for}
use Rattle.xa_types.specs.Rows.Change.{Put, Remove}
use Rattle.xa_events.specs.declared.event.Event.{Event}
use Rattle.xa_events.specs.declared.event.Event.TheVariants.{Advertise, Withdraw}
use Rattle.xa_events.specs.declared.event.Advertised.{Advertised}
use Rattle.xa_events.specs.declared.event.Withdrawn.{Withdrawn}
use Rattle.xa_events.specs.Board.{change_in, changes, published, rows_of_version}
use Rattle.xa_stamp.specs.declared.home.Stamped.{Stamped}
use Rattle.xa_board.specs.Board.{BoardState, past_of, version_of, put_of, ReadsAsNoted}
use Rattle.xa_board.specs.Changes.{changed, without}
use Rattle.xa_board.proofs.Puts.{without-same, push-same}

past-push : (entries : List Stamped) (e : Stamped) → reverse (map (λ noted. noted.event) (entries ++ e ∷ [])) ≡ e.event ∷ reverse (map (λ noted. noted.event) entries)
past-push entries e =
    let event : Stamped → Event = λ noted. noted.event in
    ap reverse (map-append event entries (e ∷ [])) ∙ reverse-append (map event entries) (e.event ∷ [])

changes-push : (e : Event) (past : List Event) (change : Change) → change_in e ≡ Some change → changes (e ∷ past) ≡ change ∷ changes past
unfolding changes
changes-push e past change is = ap (λ made. cons_option made (changes past)) is

published-push : (e : Event) (past : List Event) (change : Change) → change_in e ≡ Some change → published (e ∷ past) ≡ published past + 1
unfolding published
published-push e past change is = let more = ap length (changes-push e past change is) in omega (arith, more)

-- the rows of the last version are those that all changes leave
pub rows_of_version-last : (setup : Setup) (past : List Event) → rows_of_version setup past (published past) ≡ rows setup (changes past)
unfolding rows_of_version published
rows_of_version-last setup past =
    let none : length (changes past) - length (changes past) ≡ 0 = omega arith in
    ap (λ k. rows setup (drop k (changes past))) none

-- a change is noted, after which the rows are so changed as its rows are
noted : (board : BoardState) (stamp : Stamp) (e : Event) (change : Change) (left : List Row) → change_in e ≡ Some change → ReadsAsNoted board → ((setup : Setup) (made : List Change) → map put_of board.rows ≡ map put_of (rows setup made) → map put_of left ≡ map put_of (rows setup (change ∷ made))) → length left ≤ 256 → ReadsAsNoted (changed board stamp e left)
noted board stamp e change left is reads turns few =
    let entry : Stamped = record { stamp = stamp; event = e } in
    let past = past-push board.entries entry in
    let more : length (board.entries ++ entry ∷ []) ≡ length board.entries + 1 = length-append board.entries (entry ∷ []) in
    record {
      changes = ap published past ∙ published-push e (past_of board) change is ∙ ap (λ n. n + 1) reads.changes ∙ sym more;
      standing = λ setup.
          let old : map put_of board.rows ≡ map put_of (rows setup (changes (past_of board))) = reads.standing setup ∙ ap (map put_of) (rows_of_version-last setup (past_of board)) in
          let new : rows_of_version setup (past_of (changed board stamp e left)) (version_of (changed board stamp e left)) ≡ rows setup (change ∷ changes (past_of board)) =
          ap (λ events. rows_of_version setup events (published events)) past ∙ rows_of_version-last setup (e ∷ past_of board) ∙ ap (rows setup) (changes-push e (past_of board) change is) in
          turns setup (changes (past_of board)) old ∙ sym (ap (map put_of) new);
      few = few;
    }

put_of-row_with : (configured : Option ServiceSetup) (row : Row) → put_of row ≡ put_of (row_with configured row.service row.queue.0 row.routine)
put_of-row_with None row = refl
put_of-row_with (Some configured) row = refl

-- a row is advertised
pub advertised-noted : (board : BoardState) (stamp : Stamp) (a : Advertised) (row : Row) → a.service ≡ row.service → a.queue ≡ row.queue → a.routine ≡ row.routine → ReadsAsNoted board → length (without row.service row.queue.0 board.rows ++ row ∷ []) ≤ 256 → ReadsAsNoted (changed board stamp (Advertise a) (without row.service row.queue.0 board.rows ++ row ∷ []))
advertised-noted board stamp a row service queue routine reads few =
    let change : Change = Put row.service row.queue.0 row.routine in
    let is : change_in (Advertise a) ≡ Some change = ap (λ s. Some (Put s a.queue.0 a.routine)) service ∙ ap (λ q. Some (Put row.service q.0 a.routine)) queue ∙ ap (λ r. Some (Put row.service row.queue.0 r)) routine in
    noted board stamp (Advertise a) change (without row.service row.queue.0 board.rows ++ row ∷ []) is reads
    (λ setup made same. push-same row (row_for setup row.service row.queue.0 row.routine) (without row.service row.queue.0 board.rows) (without row.service row.queue.0 (rows setup made)) (put_of-row_with (service_named setup row.service) row) (without-same row.service row.queue.0 board.rows (rows setup made) same))
    few

-- a service is withdrawn
pub withdrawn-noted : (board : BoardState) (stamp : Stamp) (w : Withdrawn) → ReadsAsNoted board → length (without w.service w.queue.0 board.rows) ≤ 256 → ReadsAsNoted (changed board stamp (Withdraw w) (without w.service w.queue.0 board.rows))
withdrawn-noted board stamp w reads few =
    noted board stamp (Withdraw w) (Remove w.service w.queue.0) (without w.service w.queue.0 board.rows) refl reads (λ setup made same. without-same w.service w.queue.0 board.rows (rows setup made) same) few

-- nothing is noted yet
pub new-noted : (first : Stamp) → ReadsAsNoted (record { first = first; entries = []; rows = [] })
unfolding published changes
new-noted first = record { changes = refl; standing = λ setup. ap (map put_of) (sym (rows_of_version-last setup [])); few = omega arith }
