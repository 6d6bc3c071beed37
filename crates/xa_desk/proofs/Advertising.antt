-- What a desk knows and shows goes on, as its server changes the board by a call.
use Rattle.std.proofs.Common.{◌≡◌, ◌⊎◌, ◌<◌, ◌≤◌, ℕ, ◌+◌, ◌^◌, ◌==◌, max, Bool, true, false, List, [], ◌∷◌, length, map, Option, Some, None, inl, inr, refl, sym, ◌∙◌, ap, subst, append-nil, arith, ltb-true, if◌then◌else◌, eqb-true}
use Rattle.std.specs.Prelude.{nat_lt, option_map, IfSome, IsSomeAnd}
use Rattle.std.specs.Option.{option_or}
use Rattle.std.specs.Str.{bytes_eq}
use Rattle.std.proofs.lemmas.List.{length-append, length-map}
use Rattle.std.proofs.lemmas.List.Elements.{All-nil, All-cons}
use Rattle.xa_server.specs.xa_types.declared.call.Op.{Op}
use Rattle.xa_server.specs.xa_types.declared.ids.CallerId.{CallerId}
use Rattle.xa_server.specs.xa_types.declared.row.Row.{Row}
use Rattle.xa_server.specs.xa_types.declared.stamp.Stamp.{Stamp}
use Rattle.xa_server.specs.xa_events.declared.event.Event.{Event}
use Rattle.xa_server.specs.xa_events.Board.{published}
use Rattle.xa_server.specs.xa_events.Caller.{op_in, is_call_of}
use Rattle.xa_server.specs.xa_events.Calls.{awaits_answer}
use Rattle.xa_server.specs.xa_events.Homes.{home_of}
use Rattle.xa_server.specs.xa_events.Homes.Home.{BoardHome}
use Rattle.xa_server.specs.xa_stamp.declared.home.Stamped.{Stamped}
use Rattle.xa_server.specs.xa_stamp.Home.{last_stamp}
use Rattle.xa_server.specs.xa_lock.declared.pass.LockPass.{LockPass}
use Rattle.xa_server.specs.xa_lock.Known.{known as page_of}
use Rattle.xa_server.specs.xa_lock.Pages.{StartsWith}
use Rattle.xa_server.specs.xa_worker.Calls.{FitsOwn}
use Rattle.xa_server.specs.xa_worker.Crew.{MetAmong}
use Rattle.xa_server.specs.xa_worker.Seen.{past_in}
use Rattle.xa_server.specs.xa_worker.Work.{WorkState, seeing}
use Rattle.xa_server.specs.xa_worker.declared.work.Halt.TheVariants as halts
use Rattle.xa_server.specs.xa_types.Rows.{row_of, row_for, row_with}
use Rattle.xa_server.specs.xa_types.Setup.{service_named}
use Rattle.xa_server.specs.xa_types.declared.setup.Setup.{Setup}
use Rattle.xa_server.specs.xa_types.declared.setup.ServiceSetup.{ServiceSetup}
use Rattle.xa_server.specs.xa_types.declared.ids.QueueId.{QueueId}
use Rattle.xa_server.specs.xa_events.declared.event.Event.TheVariants.{Advertise}
use Rattle.xa_server.specs.xa_events.Cases.{rows_now}
use Rattle.xa_board.specs.Board.{version_of, put_of}
use Rattle.xa_board.specs.Changes.{larger, bars_put, bars_withdrawal, advertise_refused, withdraw_refused}
use Rattle.xa_board.specs.declared.board.BoardRefused.{BoardRefused}
use Rattle.xa_board.specs.declared.board.BoardRefused.TheVariants as refusals
use Rattle.xa_board.specs.declared.board.Changed.{Changed}
use Rattle.xa_server.specs.xa_held.declared.kept_board.BoardNote.{BoardNote}
use Rattle.xa_server.specs.xa_held.Board.{Held, raised}
use Rattle.xa_server.specs.xa_held.BoardSteps.{change, Makes}
use Rattle.xa_server.specs.xa_held.BoardVisits.{BoardVisits, ReachesBoard}
use Rattle.xa_server.specs.xa_held.Joins.{changes_at}
use Rattle.xa_server.proofs.xa_held.Changed.{same_found}
use Rattle.xa_server.proofs.xa_held.Climbing.{ended}
use Rattle.xa_server.proofs.xa_held.Fronts.{reached_last}
use Rattle.xa_server.specs.xa_caller.Caller.{CallerState}
use Rattle.xa_server.specs.xa_caller.Changes.{changed_by}
use Rattle.xa_server.specs.xa_caller.Phases.{just_in}
use Rattle.xa_desk.specs.declared.domain.Domain.{Domain}
use Rattle.xa_desk.specs.declared.desk.Desk.{Desk}
use Rattle.xa_desk.specs.Whole.{Whole, IsKnown, entries_of}
use Rattle.xa_desk.specs.Made.{IsMade}
use Rattle.xa_desk.specs.Advertising.{BarsPut, BarsWithdrawal, rows_seen}
use Rattle.xa_desk.specs.Desks.{IsGrounded, GoesOn, HasGrounds, IsShown, Leads, page_in}
use Rattle.xa_desk.specs.Serving.{halt_by, seen_by}
use Rattle.xa_desk.specs.Steps.{FitsOp}
use Rattle.xa_desk.proofs.Boarding.{BoardStep, board_front, stamp_known, reach_known, least_before, version_rises, board_moves, board_seen_leads}
use Rattle.xa_desk.proofs.Cleared.{EndsAt, seen_reached, seen_known}
use Rattle.xa_desk.proofs.Fitting.{its_events, call_over, one_more_fits}
use Rattle.xa_desk.proofs.Leading.{Grew, grew_one, is_behind, one_leads, starts_trans}
use Rattle.xa_desk.proofs.Visiting.{larger_known}

module _ {d : Domain} {desk new : Desk} {p p' : LockPass BoardNote} (step : BoardStep d desk new p p') (seen : Stamp) (saw : seen ≡ desk.caller.work.stamp) (maker : CallerId) where
  abbrev w : WorkState
  w = desk.caller.work

  same_stamp : seen.0 ≡ w.stamp.0
  same_stamp = ap (λ (s : Stamp). s.0) saw

  -- ---- the change was made

  module _ (done : Changed) (event : Event) (Extra : Held → Type 0) (Rows : Held → List Row)
      (v : BoardVisits (page_of p) (page_of p') (change maker done.noted) (λ old now. Extra old × Makes seen done.version done.noted event (Rows old) old now)) where
    abbrev its : Stamped
    its = record { stamp = done.noted.stamp; event = done.noted.event.value }

    event_is : done.noted.event.value ≡ event
    event_is = v.how.1.event_is

    higher : done.noted.stamp.0 ≡ larger (raised seen v.old) v.old.board + 1
    higher = ap (λ (n : ℕ × Stamp). n.1.0) v.how.1.next

    rises : w.stamp.0 < done.noted.stamp.0
    rises = omega (arith, higher, same_stamp)

    -- it made the last version that the pass saw
    version_on : version_of v.new.board ≡ version_of v.old.board + 1
    version_on = v.reads.changes ∙ (ap (λ b. length b.entries) v.how.1.board ∙ (length-append v.old.board.entries _ ∙ ap (λ (n : ℕ). n + 1) (sym v.read.changes)))

    version_now : done.version ≡ published (past_in (changes_at (page_of p').seen))
    version_now = ap (λ (n : ℕ × Stamp). n.0) v.how.1.next ∙ (sym version_on ∙ sym (ap (λ (l : List Stamped). published (past_in l)) (ap changes_at v.saw ∙ v.sound.noted)))

    pub recent : desk.caller.least ≤ done.version
    recent = let least = least_before step in let rise = version_rises step v in let now = version_now in omega (arith, least, rise, now)

    module _ (op : ℕ) (kind : IsMade event) (home : home_of d.setup d.clients event ≡ BoardHome) (caller : new.caller ≡ changed_by done.noted.stamp op done.version done.noted.event.value desk.caller)
        (met : (whole : Whole) → GoesOn d whole new → MetAmong d.setup (changes_at whole.board.notes) its) (grounds : (whole : Whole) → GoesOn d whole desk → HasGrounds d whole w.id.0 w.own done.noted.stamp event) where
      grew : Grew w new.caller.work (its ∷ [])
      grew = grew_one w new.caller.work w.room its (ap (λ (c : CallerState). c.work) caller) rises (subst IsMade (sym event_is) kind)

      front : (whole : Whole) → GoesOn d whole new → StartsWith whole.board.notes v.old.notes
      front whole on = starts_trans whole.board.notes v.new.notes v.old.notes (subst (StartsWith whole.board.notes) v.saw (board_front step whole on)) (change maker done.noted, v.grew)

      last_known : (whole : Whole) → GoesOn d whole new → IsKnown whole v.old.last
      last_known whole on = elim (ended v.old v.was) [ inl none ↦ inl none | inr has ↦ stamp_known whole v.old.notes (front whole on) v.old.last has ]

      shown : (whole : Whole) → GoesOn d whole new → GoesOn d whole desk → IsShown d whole w.id.0 w.own its
      shown whole on back =
          let booted = step.is.booted in
          let behind : last_stamp v.old.board.first v.old.board.entries ≤ v.old.last.0 = v.was.behind in
          record {
            behind = is_behind d.booted done.noted.stamp done.noted.event.value (omega (arith, rises, booted));
            grounds = subst (HasGrounds d whole w.id.0 w.own done.noted.stamp) (sym event_is) (grounds whole back);
            met = λ board. met whole on;
            before = record { 0 = max w.stamp.0 v.old.last.0 };
            next = omega (arith, higher, same_stamp, behind);
            known_before = larger_known whole w.stamp v.old.last (step.is.known_stamp whole back) (last_known whole on);
          }

      pub change_leads : Leads d desk new
      change_leads =
          let stamp : new.caller.work.stamp ≡ done.noted.stamp = ap (λ (c : CallerState). c.work.stamp) caller in
          let least : new.caller.least ≡ done.version = ap (λ (c : CallerState). c.least) caller in
          let now = version_now in
          one_leads its step.is
          (board_moves step v grew (All-cons (λ (x : Stamped). home_of d.setup d.clients x.event ≡ BoardHome) its [] (ap (home_of d.setup d.clients) event_is ∙ home) (All-nil (λ (x : Stamped). home_of d.setup d.clients x.event ≡ BoardHome))) (ap (λ (c : CallerState). c.seat) caller)
          (All-cons (IsGrounded new.caller.work.own) _ [] tt (All-nil (IsGrounded new.caller.work.own))) (omega (arith, least, now))
          (reached_last (page_of p').seen v.new v.saw v.sound new.caller.work.stamp (v.how.1.last ∙ sym stamp))) stamp shown

      -- and fits that call
      pub change_fits : (call : Op) → op_in done.noted.event.value ≡ op → is_call_of w.id.0 done.noted.event.value ≡ true → ((ops : List Op) → awaits_answer ops (Some done.noted.event.value) ≡ false) → just_in desk.caller.phase ≡ None → ((whole : Whole) → GoesOn d whole new → FitsOwn d.setup d.clients (entries_of whole) done.noted.stamp call done.noted.event.value (its_events d desk)) → FitsOp d op call desk new
      change_fits call op_is called over none fits = one_more_fits d desk new its change_leads grew op call op_is called (λ ops its_fits next. call_over d desk ops its_fits none) (λ idle ops numbers. over ops) fits

-- ---- a row of the service

parts_with : (o : Option ServiceSetup) (service : List ℕ) (queue : ℕ) (routine : List ℕ) (P : List ℕ → ℕ → List ℕ → Type 0) → P service queue routine → P (row_with o service queue routine).service (row_with o service queue routine).queue.0 (row_with o service queue routine).routine
parts_with None service queue routine P holds = holds
parts_with (Some configured) service queue routine P holds = holds

parts_back : (o : Option ServiceSetup) (service : List ℕ) (queue : ℕ) (routine : List ℕ) (P : List ℕ → ℕ → List ℕ → Type 0) → P (row_with o service queue routine).service (row_with o service queue routine).queue.0 (row_with o service queue routine).routine → P service queue routine
parts_back None service queue routine P holds = holds
parts_back (Some configured) service queue routine P holds = holds

-- what holds of its words holds of those of which it was made
pub of_row : (setup : Setup) (row : Row) (service : List ℕ) (queue : ℕ) (routine : List ℕ) → row ≡ row_for setup service queue routine → (P : List ℕ → ℕ → List ℕ → Type 0) → P row.service row.queue.0 row.routine → P service queue routine
of_row setup row service queue routine is P holds = parts_back (service_named setup service) service queue routine P (subst (λ (r : Row). P r.service r.queue.0 r.routine) is holds)

-- its event
pub put_event : (setup : Setup) (row : Row) (service : List ℕ) (queue : QueueId) (routine : List ℕ) (by caller : CallerId) (op version : ℕ) → row ≡ row_for setup service queue.0 routine → by ≡ caller
    → Advertise (record { by = by; op = op; service = row.service; queue = row.queue; routine = row.routine; version = version }) ≡ Advertise (record { by = caller; op = op; service = service; queue = queue; routine = routine; version = version })
put_event setup row service queue routine by caller op version is same =
    of_row setup row service queue.0 routine is (λ s q r. Advertise (record { by = by; op = op; service = row.service; queue = row.queue; routine = row.routine; version = version }) ≡ Advertise (record { by = caller; op = op; service = s; queue = record { 0 = q }; routine = r; version = version }))
    (ap (λ (c : CallerId). Advertise (record { by = c; op = op; service = row.service; queue = row.queue; routine = row.routine; version = version })) same)

-- ---- the change was refused

-- no end of stamps
abbrev IsPlain : BoardRefused → Type 0
IsPlain why = halt_by why ≡ halts.NoMemory

near_or : (bar : Option BoardRefused) → IfSome bar IsPlain → (n : ℕ) (b : Bool) → nat_lt (2 ^ 63) (n + 1) ≡ b → n ≤ 2 ^ 63 → (why : BoardRefused) → option_or bar (if b then Some (refusals.Worn (record { 0 = n })) else None) ≡ Some why → EndsAt n (halt_by why)
near_or (Some x) plain n b is low why same = let it : x ≡ why = cc same in subst (λ (y : BoardRefused). EndsAt n (halt_by y)) it (subst (EndsAt n) (sym plain) tt)
near_or None plain n true is low why same = let it : refusals.Worn (record { 0 = n }) ≡ why = cc same in let above = ltb-true (2 ^ 63) (n + 1) is in subst (λ (y : BoardRefused). EndsAt n (halt_by y)) it (omega (arith, above, low), refl)
near_or None plain n false is low why same = absurd (cc same)

plain_if : (b : Bool) (x : BoardRefused) → IsPlain x → IfSome (if b then None else Some x) IsPlain
plain_if true x plain = tt
plain_if false x plain = plain

plain_then : (b : Bool) (x : BoardRefused) → IsPlain x → IfSome (if b then Some x else None) IsPlain
plain_then true x plain = plain
plain_then false x plain = tt

plain_put : (row : Row) (rows : List Row) (standing : Option Row) → IfSome (bars_put row rows standing) IsPlain
plain_put row rows (Some standing) = plain_if (bytes_eq standing.routine row.routine) (refusals.Match standing.routine) refl
plain_put row rows None = plain_then (length rows == 256) refusals.Full refl

pub put_ends : (row : Row) (seen : Stamp) → seen.0 ≤ 2 ^ 63 → (why : BoardRefused) (old : Held) → last_stamp old.board.first old.board.entries ≤ old.last.0 → old.last.0 ≤ 2 ^ 63 → advertise_refused (raised seen old) row old.board ≡ Some why → EndsAt (max seen.0 old.last.0) (halt_by why)
put_ends row seen low why old behind bound bar =
    let n : ℕ = larger (raised seen old) old.board in
    let is : n ≡ max seen.0 old.last.0 = omega (arith, behind) in
    let standing : Option Row = row_of row.service row.queue.0 old.board.rows in
    subst (λ (m : ℕ). EndsAt m (halt_by why)) is (near_or (bars_put row old.board.rows standing) (plain_put row old.board.rows standing) n (nat_lt (2 ^ 63) (n + 1)) refl (omega (arith, is, bound, low)) why bar)

plain_withdrawal : (standing : Option Row) → IfSome (bars_withdrawal standing) IsPlain
plain_withdrawal (Some standing) = tt
plain_withdrawal None = refl

pub withdraw_ends : (service : List ℕ) (queue : ℕ) (seen : Stamp) → seen.0 ≤ 2 ^ 63 → (why : BoardRefused) (old : Held) → last_stamp old.board.first old.board.entries ≤ old.last.0 → old.last.0 ≤ 2 ^ 63 → withdraw_refused (raised seen old) service queue old.board ≡ Some why → EndsAt (max seen.0 old.last.0) (halt_by why)
withdraw_ends service queue seen low why old behind bound bar =
    let n : ℕ = larger (raised seen old) old.board in
    let is : n ≡ max seen.0 old.last.0 = omega (arith, behind) in
    let standing : Option Row = row_of service queue old.board.rows in
    subst (λ (m : ℕ). EndsAt m (halt_by why)) is (near_or (bars_withdrawal standing) (plain_withdrawal standing) n (nat_lt (2 ^ 63) (n + 1)) refl (omega (arith, is, bound, low)) why bar)

-- stamps came to their end, or none did
worn_only : (b : Bool) (stamp : Stamp) (why : BoardRefused) → (if b then Some (refusals.Worn stamp) else None) ≡ Some why → why ≡ refusals.Worn stamp
worn_only true stamp why same = cc same
worn_only false stamp why same = absurd (cc same)

module _ (row : Row) (rows others : List Row) (same : map put_of rows ≡ map put_of others) where
  abbrev Bars : BoardRefused → Type 0
  Bars why = BarsPut row.service row.queue.0 row.routine why others

  as_many : length rows ≡ length others
  as_many = sym (length-map rows put_of) ∙ (ap length same ∙ length-map others put_of)

  -- the rows that the changes leave bar it by the same row
  pub put_barred : (b : Bool) (stamp : Stamp) (why : BoardRefused) → option_or (bars_put row rows (row_of row.service row.queue.0 rows)) (if b then Some (refusals.Worn stamp) else None) ≡ Some why → Bars why
  put_barred b stamp why = by (row_of row.service row.queue.0 rows) (row_of row.service row.queue.0 others) refl (same_found row.service row.queue.0 rows others same)
    where
      worn : (if b then Some (refusals.Worn stamp) else None) ≡ Some why → Bars why
      worn is = subst Bars (sym (worn_only b stamp why is)) tt

      match_ : (x y : Row) → x.routine ≡ y.routine → row_of row.service row.queue.0 others ≡ Some y → (apart : Bool) → bytes_eq x.routine row.routine ≡ apart → option_or (if apart then None else Some (refusals.Match x.routine)) (if b then Some (refusals.Worn stamp) else None) ≡ Some why → Bars why
      match_ x y routines its true equal is = worn is
      match_ x y routines its false differ is = let it : refusals.Match x.routine ≡ why = cc is in subst Bars it (differ, subst (λ (o : Option Row). IsSomeAnd o (λ (r : Row). r.routine ≡ x.routine)) (sym its) (sym routines))

      full : (row_of row.service row.queue.0 others ≡ None) → (most : Bool) → (length rows == 256) ≡ most → option_or (if most then Some refusals.Full else None) (if b then Some (refusals.Worn stamp) else None) ≡ Some why → Bars why
      full none true most is = let it : refusals.Full ≡ why = cc is in subst Bars it (sym as_many ∙ eqb-true (length rows) 256 most, none)
      full none false less is = worn is

      by : (o o' : Option Row) → row_of row.service row.queue.0 others ≡ o' → option_map put_of o ≡ option_map put_of o' → option_or (bars_put row rows o) (if b then Some (refusals.Worn stamp) else None) ≡ Some why → Bars why
      by (Some x) (Some y) its found is = let routines : x.routine ≡ y.routine = cc found in match_ x y routines its (bytes_eq x.routine row.routine) refl is
      by (Some x) None its found is = absurd (cc found)
      by None (Some y) its found is = absurd (cc found)
      by None None its found is = full its (length rows == 256) refl is

-- none stands that could be withdrawn
pub withdrawal_barred : (service : List ℕ) (queue : ℕ) (rows others : List Row) → map put_of rows ≡ map put_of others → (b : Bool) (stamp : Stamp) (why : BoardRefused) → option_or (bars_withdrawal (row_of service queue rows)) (if b then Some (refusals.Worn stamp) else None) ≡ Some why → BarsWithdrawal service queue why others
withdrawal_barred service queue rows others same b stamp why = by (row_of service queue rows) (row_of service queue others) refl (same_found service queue rows others same)
  where
    by : (o o' : Option Row) → row_of service queue others ≡ o' → option_map put_of o ≡ option_map put_of o' → option_or (bars_withdrawal o) (if b then Some (refusals.Worn stamp) else None) ≡ Some why → BarsWithdrawal service queue why others
    by (Some x) o' its found is = subst (λ (y : BoardRefused). BarsWithdrawal service queue y others) (sym (worn_only b stamp why is)) tt
    by None (Some y) its found is = absurd (cc found)
    by None None its found is = let it : refusals.NoEnt ≡ why = cc is in subst (λ (y : BoardRefused). BarsWithdrawal service queue y others) it its

module _ {d : Domain} {desk new : Desk} {p p' : LockPass BoardNote} (step : BoardStep d desk new p p') (seen : Stamp) (saw : seen ≡ desk.caller.work.stamp) (low : seen.0 ≤ 2 ^ 63) (barred : Held → Option BoardRefused) (why : BoardRefused) (last : Stamp)
    (v : BoardVisits (page_of p) (page_of p') [] (λ old now. (now ≡ old) × ((barred old ≡ Some why) ⊎ (why ≡ refusals.NoMemory))))
    (ends : (old : Held) → last_stamp old.board.first old.board.entries ≤ old.last.0 → old.last.0 ≤ 2 ^ 63 → barred old ≡ Some why → EndsAt (max seen.0 old.last.0) (halt_by why))
    (caller : new.caller ≡ record desk.caller { work = seeing (seen_by (halt_by why) last) desk.caller.work }) where
  near : EndsAt (max seen.0 v.old.last.0) (halt_by why)
  near = elim v.how.1 [ inl bar ↦ ends v.old v.was.behind v.was.bound bar | inr memory ↦ subst (λ (x : BoardRefused). EndsAt (max seen.0 v.old.last.0) (halt_by x)) (sym memory) tt ]

  stood_first : (whole : Whole) → GoesOn d whole new → StartsWith whole.board.notes v.old.notes
  stood_first whole on = subst (StartsWith whole.board.notes) (v.saw ∙ (v.grew ∙ append-nil v.old.notes)) (board_front step whole on)

  end_known : (whole : Whole) → GoesOn d whole new → GoesOn d whole desk → IsKnown whole (record { 0 = max seen.0 v.old.last.0 })
  end_known whole on back = larger_known whole seen v.old.last (subst (IsKnown whole) (sym saw) (step.is.known_stamp whole back)) (elim (ended v.old v.was) [ inl none ↦ inl none | inr has ↦ stamp_known whole v.old.notes (stood_first whole on) v.old.last has ])

  pub barred_leads : ReachesBoard (page_of p') last → Leads d desk new
  barred_leads reaches =
      board_seen_leads step v refl (All-nil (IsGrounded desk.caller.work.own)) (seen_by (halt_by why) last) caller (seen_reached (page_of p') (halt_by why) last _ near reaches)
      (λ whole on back. seen_known whole (halt_by why) last _ near (reach_known step whole on last reaches) (end_known whole on back))

  -- the rows that the pass saw last are those that stood
  pub rows_stood : map put_of v.old.board.rows ≡ map put_of (rows_seen d new)
  rows_stood =
      let entries : changes_at (page_of p').seen ≡ v.old.board.entries = ap changes_at v.saw ∙ (v.sound.noted ∙ ap (λ (h : Held). h.board.entries) v.how.0) in
      v.read.standing d.setup ∙ ap (λ (l : List Stamped). map put_of (rows_now d.setup (past_in l))) (sym entries ∙ ap (λ (o : Option (LockPass BoardNote)). changes_at (page_in o).seen) (sym step.now))
