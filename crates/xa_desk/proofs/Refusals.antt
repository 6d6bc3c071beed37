-- What a desk knows and shows goes on, as a call that would change the board or the clock is refused.
use Rattle.std.proofs.Common.{◌≡◌, ◌≤◌, ◌<◌, ◌&&◌, ℕ, true, false, List, length, Option, Some, None, refl, sym, ◌∙◌, ap, subst, arith}
use Rattle.std.specs.Prelude.{IfSome, IsSomeAnd, IfOk, OnErr, Result, Ok, Err, ◌+◌}
use Rattle.std.specs.List.{All}
use Rattle.std.proofs.lemmas.List.{map-append}
use Rattle.std.proofs.lemmas.List.Elements.{All-weaker}
use Rattle.xa_server.specs.xa_types.declared.call.Op.{Op}
use Rattle.xa_server.specs.xa_types.declared.call.Op.TheVariants.{Advertise, Unadvertise, Tick}
use Rattle.xa_server.specs.xa_types.declared.fault.Fault.{Fault}
use Rattle.xa_server.specs.xa_types.declared.fault.Fault.TheVariants.{Proto, Inval, Match, Limit, NoEnt}
use Rattle.xa_server.specs.xa_types.declared.row.Row.{Row}
use Rattle.xa_server.specs.xa_types.declared.stamp.Stamp.{Stamp}
use Rattle.xa_server.specs.xa_events.declared.event.Event.{Event}
use Rattle.xa_server.specs.xa_events.declared.event.Evidence.{Evidence}
use Rattle.xa_server.specs.xa_events.declared.event.Evidence.TheVariants.{Role, Argument, Clock, Routine, Rows, NoRow}
use Rattle.xa_server.specs.xa_events.Local.{worker_events}
use Rattle.xa_server.specs.xa_events.Board.{boot, published}
use Rattle.xa_server.specs.xa_events.Caller.{newest_call, version_in, versions, tick_of, tick_floor, is_client}
use Rattle.xa_server.specs.xa_events.Clock.{is_shown, now}
use Rattle.xa_server.specs.xa_events.Cases.{Shows, ShowsItself, IsOwnEvidence, queue_by}
use Rattle.xa_server.specs.xa_types.Rows.{row_of}
use Rattle.xa_server.specs.xa_events.Calls.{TickRefused}
use Rattle.xa_server.specs.xa_events.Words.{greatest}
use Rattle.xa_server.proofs.xa_events.Merge.{versions_own}
use Rattle.xa_server.specs.xa_stamp.declared.home.Stamped.{Stamped}
use Rattle.xa_server.specs.xa_lock.declared.makers.Made.{Made}
use Rattle.xa_server.specs.xa_lock.declared.pass.LockPass.{LockPass}
use Rattle.xa_server.specs.xa_lock.Makers.{noted_in}
use Rattle.xa_server.specs.xa_lock.Pages.{StartsWith}
use Rattle.xa_server.specs.xa_worker.Calls.{FitsOwn, AdvertiseRefusedOwn, UnadvertiseRefusedOwn}
use Rattle.xa_server.specs.xa_worker.declared.work.Halt.{Halt}
use Rattle.xa_server.specs.xa_worker.Seen.{past_in, SawRows, SawEvidence, ToldEvidence}
use Rattle.xa_server.specs.xa_worker.Work.{WorkState, seeing, theirs}
use Rattle.xa_server.specs.xa_held.declared.kept_board.BoardNote.{BoardNote}
use Rattle.xa_server.specs.xa_held.Joins.{changes_at}
use Rattle.xa_server.proofs.xa_held.Fronts.{changes_front}
use Rattle.xa_server.specs.xa_caller.Caller.{CallerState}
use Rattle.xa_server.specs.xa_caller.Changes.{refused, Refuses}
use Rattle.xa_server.specs.xa_caller.Phases.{just_in}
use Rattle.xa_desk.specs.declared.domain.Domain.{Domain}
use Rattle.xa_desk.specs.declared.desk.Desk.{Desk}
use Rattle.xa_desk.specs.Advertising.{IsChange, MovesAtBoard, rows_seen, BarsPut, BarsWithdrawal, AdvertiseRefusedBy, UnadvertiseRefusedBy, IsChangeRefusal, ChangeRefusedBy, RefusedBy}
use Rattle.xa_desk.specs.Ticking.{TickRefusedBy, IsTickRefusal}
use Rattle.xa_ticks.proofs.Ticking.{shown_now}
use Rattle.xa_board.specs.declared.board.BoardRefused.{BoardRefused}
use Rattle.xa_board.specs.declared.board.BoardRefused.TheVariants as refusals
use Rattle.xa_server.specs.xa_types.Name.{is_name}
use Rattle.xa_server.specs.xa_worker.Going.{FitEach}
use Rattle.xa_desk.specs.Made.{IsRefusal}
use Rattle.xa_desk.specs.Whole.{Whole, entries_of}
use Rattle.xa_desk.specs.Desks.{GoesOn, IsDesk, IsBoardPass, IsClockPass, IsThere, Leads, IsOver, FitsCalls, page_in, board_page, clock_page, shown_to}
use Rattle.xa_desk.specs.Steps.{FitsOp}
use Rattle.xa_desk.proofs.Fitting.{its_events, IsRead}
use Rattle.xa_desk.proofs.Leading.{leads_trans, starts_same, starts_trans}
use Rattle.xa_desk.proofs.Refusing.{same_as, refuse_leads, refused_on}
use Rattle.xa_desk.proofs.Stopping.{same_leads}

-- no tick that the pass saw has a greater stamp than the worker
reached_there : (d : Domain) (w : WorkState) (pass : Option (LockPass Made)) → IsThere (IsClockPass d w) pass → All (λ (x : Stamped). x.stamp.0 ≤ w.stamp.0) (noted_in (page_in pass).seen)
reached_there d w None none = absurd none
reached_there d w (Some pass) is = is.reached

floor_there : (d : Domain) (w : WorkState) (pass : Option (LockPass Made)) → IsThere (IsClockPass d w) pass → tick_floor w.clients w.id.0 (theirs w) ≤ now (past_in (noted_in (page_in pass).seen))
floor_there d w None none = absurd none
floor_there d w (Some pass) is = is.floor

-- no change that the pass saw has a greater stamp than the worker
reached_in : (d : Domain) (w : WorkState) (pass : Option (LockPass BoardNote)) → IsThere (IsBoardPass d w) pass → All (λ (x : Stamped). x.stamp.0 ≤ w.stamp.0) (changes_at (page_in pass).seen)
reached_in d w None none = absurd none
reached_in d w (Some pass) is = is.reached

module _ (d : Domain) (desk : Desk) (is : IsDesk d desk) (reads : IsRead d desk) where
  abbrev w : WorkState
  w = desk.caller.work

  abbrev seen : List Stamped
  seen = changes_at (board_page desk).seen

  -- the rows that stood as the pass saw the board last are of a version that the caller may read
  module _ (own : List Event) (same : versions d.clients w.id.0 own ≡ versions d.clients w.id.0 (its_events d desk)) (stamp : Stamp) (less : w.stamp.0 < stamp.0) (whole : Whole) (on : GoesOn d whole desk) where
    saw_rows : (P : List Row → Type 0) → P (rows_seen d desk) → SawRows d.setup d.clients (entries_of whole) stamp w.id P own
    saw_rows P shown =
        let floor = reads.floor in
        let least = is.least in (
          published (past_in seen),
          subst (λ (vs : List ℕ). greatest (boot d.setup) vs ≤ published (past_in seen)) (sym same) (omega (arith, floor, least)),
          record {
            front = seen;
            stands = changes_front whole.board.notes (board_page desk).seen on.board;
            before = All-weaker (λ (x : Stamped). x.stamp.0 ≤ w.stamp.0) (λ (x : Stamped). x.stamp.0 < stamp.0) (λ x le. omega (arith, le, less)) seen (reached_in d w desk.board is.board);
            shows = (omega arith, shown);
          },
        )

  -- what shows that it is refused rightly
  pub record IsBacked (fault : Fault) (evidence : Evidence) : Type 0 where
    pub no_version : version_in evidence ≡ None
    pub kind : IsRefusal fault evidence
    pub timely : IfSome (tick_of evidence) (λ tick. tick ≤ shown_to desk)
    pub saw : (stamp : Stamp) → w.stamp.0 < stamp.0 → (whole : Whole) → GoesOn d whole desk → SawEvidence d.setup d.clients (entries_of whole) stamp w.id evidence (past_in w.own)
    pub told : (stamp : Stamp) (whole : Whole) → ToldEvidence d.setup d.clients (entries_of whole) stamp w.id evidence (its_events d desk)

  all_versions : versions d.clients w.id.0 (past_in w.own) ≡ versions d.clients w.id.0 (its_events d desk)
  all_versions = sym (versions_own d.setup d.clients (past_in w.own) w.id.0)

  put_backed : (service routine : List ℕ) (fault : Fault) (evidence : Evidence) → AdvertiseRefusedBy d desk service routine fault evidence → IsBacked fault evidence
  put_backed service routine Proto Role so = record { no_version = refl; kind = tt; timely = tt; saw = λ stamp less whole on. tt; told = λ stamp whole. tt }
  put_backed service routine Inval Argument so = record { no_version = refl; kind = tt; timely = tt; saw = λ stamp less whole on. tt; told = λ stamp whole. tt }
  put_backed service routine Match (Routine found) so = record { no_version = refl; kind = tt; timely = tt; saw = λ stamp less whole on. saw_rows (past_in w.own) all_versions stamp less whole on (Shows (queue_by d.setup d.clients w.id.0) (Routine found)) (service, so.2.1); told = λ stamp whole. tt }
  put_backed service routine Limit (Rows n) so = record { no_version = refl; kind = tt; timely = tt; saw = λ stamp less whole on. saw_rows (past_in w.own) all_versions stamp less whole on (Shows (queue_by d.setup d.clients w.id.0) (Rows n)) (so.2, so.3.0); told = λ stamp whole. tt }
  put_backed service routine _ _ so = absurd so

  withdrawal_backed : (service : List ℕ) (fault : Fault) (evidence : Evidence) → UnadvertiseRefusedBy d desk service fault evidence → IsBacked fault evidence
  withdrawal_backed service Proto Role so = record { no_version = refl; kind = tt; timely = tt; saw = λ stamp less whole on. tt; told = λ stamp whole. tt }
  withdrawal_backed service Inval Argument so = record { no_version = refl; kind = tt; timely = tt; saw = λ stamp less whole on. tt; told = λ stamp whole. tt }
  withdrawal_backed service NoEnt NoRow so = record { no_version = refl; kind = tt; timely = tt; saw = λ stamp less whole on. saw_rows (past_in w.own) all_versions stamp less whole on (Shows (queue_by d.setup d.clients w.id.0) NoRow) (service, so.2); told = λ stamp whole. tt }
  withdrawal_backed service _ _ so = absurd so

  -- the tick that the clock showed last
  pub tick_backed : (n : ℕ) (fault : Fault) (evidence : Evidence) → TickRefusedBy d desk n fault evidence → IsBacked fault evidence
  tick_backed n Proto Role so = record { no_version = refl; kind = tt; timely = tt; saw = λ stamp less whole on. tt; told = λ stamp whole. tt }
  tick_backed n Limit (Clock tick) so = record {
    no_version = refl;
    kind = tt;
    timely = let same = so.2 in omega (arith, same);
    saw = λ stamp less whole on. record {
      front = noted_in (clock_page desk).seen;
      stands = (noted_in on.clock.0, ap noted_in on.clock.1 ∙ map-append (λ (m : Made). m.noted) (clock_page desk).seen on.clock.0);
      before = All-weaker (λ (x : Stamped). x.stamp.0 ≤ w.stamp.0) (λ (x : Stamped). x.stamp.0 < stamp.0) (λ x le. omega (arith, le, less)) (noted_in (clock_page desk).seen) (reached_there d w desk.clock is.clock);
      shows = subst (λ (k : ℕ). is_shown k (past_in (noted_in (clock_page desk).seen)) ≡ true) (sym so.2) (shown_now (past_in (noted_in (clock_page desk).seen)));
    };
    told = λ stamp whole. tt;
  }
  tick_backed n _ _ so = absurd so

  pub is_backed : (change : Op) (fault : Fault) (evidence : Evidence) → ChangeRefusedBy d desk change fault evidence → IsBacked fault evidence
  is_backed (Advertise service routine) fault evidence so = put_backed service routine fault evidence so
  is_backed (Unadvertise service) fault evidence so = withdrawal_backed service fault evidence so
  is_backed _ fault evidence so = absurd so

  -- the refusal was noted
  module _ (op : ℕ) (fault : Fault) (evidence : Evidence) (backed : IsBacked fault evidence) (above : 0 < op) (none : just_in desk.caller.phase ≡ None) (stamp : Stamp) (new : CallerState) (refuses : Refuses op fault evidence stamp new desk.caller) where
    abbrev Next : Desk
    Next = record desk { caller = new }

    next : stamp.0 ≡ w.stamp.0 + 1
    next = refuses.next

    shown : IfSome (version_in evidence) (λ v. v ≤ published (past_in seen))
    shown = subst (λ (v : Option ℕ). IfSome v (λ n. n ≤ published (past_in seen))) (sym backed.no_version) tt

    pub refused_leads : Leads d desk Next
    refused_leads =
        refuse_leads d desk desk.caller new op fault evidence stamp is (same_as d desk is) refuses shown backed.kind backed.timely (backed.saw stamp (omega (arith, next))) (λ whole on. backed.told stamp whole)

    fits_so : (call : Op) → ((whole : Whole) → GoesOn d whole desk → FitsOwn d.setup d.clients (entries_of whole) stamp call (refused op fault evidence desk.caller) (its_events d desk)) → FitsOp d op call desk Next
    fits_so call fits =
        refused_on d desk desk.caller new op fault evidence stamp is (same_as d desk is) refuses shown backed.kind backed.timely (backed.saw stamp (omega (arith, next))) (λ whole on. backed.told stamp whole) call above none fits

    -- and fits a call that is refused so
    module _ (whole : Whole) (on : GoesOn d whole desk) where
      put_fits : (service routine : List ℕ) (its : Fault) (shows : Evidence) → AdvertiseRefusedBy d desk service routine its shows → AdvertiseRefusedOwn d.setup d.clients (entries_of whole) stamp w.id service routine its shows (its_events d desk)
      put_fits service routine Proto Role so = so
      put_fits service routine Inval Argument so = so
      put_fits service routine Match (Routine found) so = (so.0, so.1, so.2.0, saw_rows (its_events d desk) refl stamp (omega (arith, next)) whole on (λ rows. IsSomeAnd (row_of service (queue_by d.setup d.clients w.id.0) rows) (λ row. row.routine ≡ found)) so.2.1)
      put_fits service routine Limit (Rows n) so = (so.0, so.1, saw_rows (its_events d desk) refl stamp (omega (arith, next)) whole on (λ rows. (length rows ≡ n) × (row_of service (queue_by d.setup d.clients w.id.0) rows ≡ None)) (so.3.0 ∙ sym so.2, so.3.1))
      put_fits service routine _ _ so = absurd so

      withdrawal_fits : (service : List ℕ) (its : Fault) (shows : Evidence) → UnadvertiseRefusedBy d desk service its shows → UnadvertiseRefusedOwn d.setup d.clients (entries_of whole) stamp w.id service its shows (its_events d desk)
      withdrawal_fits service Proto Role so = so
      withdrawal_fits service Inval Argument so = so
      withdrawal_fits service NoEnt NoRow so = (so.0, so.1, saw_rows (its_events d desk) refl stamp (omega (arith, next)) whole on (λ rows. row_of service (queue_by d.setup d.clients w.id.0) rows ≡ None) so.2)
      withdrawal_fits service _ _ so = absurd so

      tick_fits : (n : ℕ) (its : Fault) (shows : Evidence) → TickRefusedBy d desk n its shows → TickRefused d.clients w.id.0 n its shows
      tick_fits n Proto Role so = so
      tick_fits n Limit (Clock tick) so = (so.0, so.1)
      tick_fits n _ _ so = absurd so

      own_fits : (change : Op) → ChangeRefusedBy d desk change fault evidence → FitsOwn d.setup d.clients (entries_of whole) stamp change (refused op fault evidence desk.caller) (its_events d desk)
      own_fits (Advertise service routine) so = put_fits service routine fault evidence so
      own_fits (Unadvertise service) so = withdrawal_fits service fault evidence so
      own_fits _ so = absurd so

    refused_fits : (change : Op) → ChangeRefusedBy d desk change fault evidence → FitsOp d op change desk Next
    refused_fits change so = fits_so change (λ whole on. own_fits whole on change so)

    refused_tick_fits : (n : ℕ) → TickRefusedBy d desk n fault evidence → FitsOp d op (Tick n) desk Next
    refused_tick_fits n so = fits_so (Tick n) (λ whole on. tick_fits whole on n fault evidence so)

  -- a tick is refused, or nothing was noted
  pub refuse_tick_goes : (op n : ℕ) (fault : Fault) (evidence : Evidence) → TickRefusedBy d desk n fault evidence → 0 < op → just_in desk.caller.phase ≡ None → (new : CallerState) (r : Result Stamp Halt) → IfOk r (λ stamp. Refuses op fault evidence stamp new desk.caller) → OnErr r (new ≡ desk.caller)
      → Leads d desk (record desk { caller = new }) × FitsOp d op (Tick n) desk (record desk { caller = new }) × OnErr r (record desk { caller = new } ≡ desk)
  refuse_tick_goes op n fault evidence so above none new (Ok stamp) refuses kept =
      let backed = tick_backed n fault evidence so in
      (refused_leads op fault evidence backed above none stamp new refuses, refused_tick_fits op fault evidence backed above none stamp new refuses n so, tt)
  refuse_tick_goes op n fault evidence so above none new (Err halt) refuses kept =
      let still = ap (λ (c : CallerState). record desk { caller = c }) kept in
      (subst (Leads d desk) (sym still) (same_leads d desk is), subst (FitsOp d op (Tick n) desk) (sym still) (λ ops its fits. fits), still)

  -- a call is refused, or nothing was noted
  pub refuse_goes : (op : ℕ) (fault : Fault) (evidence : Evidence) → IsBacked fault evidence → 0 < op → just_in desk.caller.phase ≡ None → (new : CallerState) (r : Result Stamp Halt) → IfOk r (λ stamp. Refuses op fault evidence stamp new desk.caller) → OnErr r (new ≡ desk.caller)
      → Leads d desk (record desk { caller = new }) × ((change : Op) → ChangeRefusedBy d desk change fault evidence → FitsOp d op change desk (record desk { caller = new })) × OnErr r (record desk { caller = new } ≡ desk)
  refuse_goes op fault evidence backed above none new (Ok stamp) refuses kept = (refused_leads op fault evidence backed above none stamp new refuses, refused_fits op fault evidence backed above none stamp new refuses, tt)
  refuse_goes op fault evidence backed above none new (Err halt) refuses kept =
      let still = ap (λ (c : CallerState). record desk { caller = c }) kept in
      (subst (Leads d desk) (sym still) (same_leads d desk is), λ change so. subst (FitsOp d op change desk) (sym still) (λ ops its fits. fits), still)

-- such a refusal is one of a change, or of a tick
pub is_change_refusal : (d : Domain) (desk : Desk) (change : Op) (fault : Fault) (evidence : Evidence) → ChangeRefusedBy d desk change fault evidence → IsChangeRefusal fault evidence
is_change_refusal d desk (Advertise service routine) Proto Role so = tt
is_change_refusal d desk (Advertise service routine) Inval Argument so = tt
is_change_refusal d desk (Advertise service routine) Match (Routine found) so = tt
is_change_refusal d desk (Advertise service routine) Limit (Rows n) so = tt
is_change_refusal d desk (Advertise service routine) _ _ so = absurd so
is_change_refusal d desk (Unadvertise service) Proto Role so = tt
is_change_refusal d desk (Unadvertise service) Inval Argument so = tt
is_change_refusal d desk (Unadvertise service) NoEnt NoRow so = tt
is_change_refusal d desk (Unadvertise service) _ _ so = absurd so
is_change_refusal d desk _ fault evidence so = absurd so

pub is_tick_refusal : (d : Domain) (desk : Desk) → IsDesk d desk → (n : ℕ) (fault : Fault) (evidence : Evidence) → TickRefusedBy d desk n fault evidence → IsTickRefusal desk.caller fault evidence
is_tick_refusal d desk is n Proto Role so = ap (λ (k : ℕ). is_client k desk.caller.work.id.0) is.clients ∙ so
is_tick_refusal d desk is n Limit (Clock tick) so = ap (λ (k : ℕ). is_client k desk.caller.work.id.0) is.clients ∙ so.0
is_tick_refusal d desk is n _ _ so = absurd so

-- what shows that a tick is refused rightly its caller knows itself
pub tick_shows : (d : Domain) (desk : Desk) → IsDesk d desk → (n : ℕ) (fault : Fault) (evidence : Evidence) → TickRefusedBy d desk n fault evidence → ShowsItself desk.caller.work.setup desk.caller.work.clients desk.caller.work.id.0 fault evidence (theirs desk.caller.work)
tick_shows d desk is n Proto Role so = tt
tick_shows d desk is n Limit (Clock tick) so = let floor = floor_there d desk.caller.work desk.clock is.clock in let same = so.2 in omega (arith, floor, same)
tick_shows d desk is n _ _ so = absurd so

pub tick_owns : (d : Domain) (desk : Desk) (n : ℕ) (fault : Fault) (evidence : Evidence) → TickRefusedBy d desk n fault evidence → IsOwnEvidence desk.caller.work.clients desk.caller.work.id evidence (theirs desk.caller.work)
tick_owns d desk n Proto Role so = tt
tick_owns d desk n Limit (Clock tick) so = tt
tick_owns d desk n _ _ so = absurd so

pub tick_versions : (d : Domain) (desk : Desk) (n : ℕ) (fault : Fault) (evidence : Evidence) → TickRefusedBy d desk n fault evidence → version_in evidence ≡ None
tick_versions d desk n Proto Role so = refl
tick_versions d desk n Limit (Clock tick) so = refl
tick_versions d desk n _ _ so = absurd so

-- which calls aren't the caller's to make
pub client_refused : (d : Domain) (desk : Desk) (change : Op) → IsChange change → is_client d.clients desk.caller.work.id.0 ≡ true → ChangeRefusedBy d desk change Proto Role
client_refused d desk (Advertise service routine) kind client = client
client_refused d desk (Unadvertise service) kind client = client
client_refused d desk change kind client = absurd kind

-- ---- a worker that visited nothing but the board

pub moves_alone : (d : Domain) (old new : Desk) → Leads d old new → new ≡ record old { caller = new.caller } → MovesAtBoard d old new
moves_alone d old new leads rest = record {
  leads = leads;
  board = subst (λ (desk : Desk). StartsWith (board_page desk).seen (board_page old).seen) (sym rest) (starts_same (board_page old).seen);
  queues = ap (λ (desk : Desk). desk.queues) rest;
  reader = ap (λ (desk : Desk). desk.reader) rest;
}

pub moves_trans : (d : Domain) (a b c : Desk) → MovesAtBoard d a b → MovesAtBoard d b c → MovesAtBoard d a c
moves_trans d a b c ab bc = record {
  leads = leads_trans d a b c ab.leads bc.leads;
  board = starts_trans (board_page c).seen (board_page b).seen (board_page a).seen bc.board ab.board;
  queues = bc.queues ∙ ab.queues;
  reader = bc.reader ∙ ab.reader;
}

-- ---- how a change that the board refused is told

-- a row that is barred
pub refused_put : (d : Domain) (desk : Desk) (service routine : List ℕ) (queue : ℕ) → is_client d.clients desk.caller.work.id.0 ≡ false → (is_name service && is_name routine) ≡ true → queue_by d.setup d.clients desk.caller.work.id.0 ≡ queue → (why : BoardRefused) → BarsPut service queue routine why (rows_seen d desk) → RefusedBy d desk (Advertise service routine) why
refused_put d desk service routine queue server named is (refusals.Match found) bar = (server, named, subst (λ (q : ℕ). BarsPut service q routine (refusals.Match found) (rows_seen d desk)) (sym is) bar)
refused_put d desk service routine queue server named is refusals.Full bar = (server, named, refl, subst (λ (q : ℕ). BarsPut service q routine refusals.Full (rows_seen d desk)) (sym is) bar)
refused_put d desk service routine queue server named is refusals.NoEnt bar = absurd bar
refused_put d desk service routine queue server named is (refusals.Worn stamp) bar = tt
refused_put d desk service routine queue server named is refusals.NoMemory bar = tt

-- one that can't be withdrawn
pub refused_withdrawal : (d : Domain) (desk : Desk) (service : List ℕ) (queue : ℕ) → is_client d.clients desk.caller.work.id.0 ≡ false → is_name service ≡ true → queue_by d.setup d.clients desk.caller.work.id.0 ≡ queue → (why : BoardRefused) → BarsWithdrawal service queue why (rows_seen d desk) → RefusedBy d desk (Unadvertise service) why
refused_withdrawal d desk service queue server named is refusals.NoEnt bar = (server, named, subst (λ (q : ℕ). BarsWithdrawal service q refusals.NoEnt (rows_seen d desk)) (sym is) bar)
refused_withdrawal d desk service queue server named is (refusals.Match found) bar = absurd bar
refused_withdrawal d desk service queue server named is refusals.Full bar = absurd bar
refused_withdrawal d desk service queue server named is (refusals.Worn stamp) bar = tt
refused_withdrawal d desk service queue server named is refusals.NoMemory bar = tt

pub bars_named : {service service' routine routine' : List ℕ} → service ≡ service' → routine ≡ routine' → (queue : ℕ) (why : BoardRefused) (rows : List Row) → BarsPut service queue routine why rows → BarsPut service' queue routine' why rows
bars_named {service} {service'} {routine} {routine'} one other queue why rows bar = subst (λ (r : List ℕ). BarsPut service' queue r why rows) other (subst (λ (n : List ℕ). BarsPut n queue routine why rows) one bar)

-- a caller that only saw a stamp fits the calls that it fitted
pub seen_fits : (d : Domain) (old new : Desk) → Leads d old new → (seen : Stamp) → new.caller ≡ record old.caller { work = seeing seen old.caller.work } → (ops : List Op) → FitsCalls d ops old → FitsCalls d ops new
seen_fits d old new leads stamp same ops fits = record {
  each = λ whole on. subst (λ (c : CallerState). FitEach d.setup d.clients (entries_of whole) c.work.id.0 ops c.work.own) (sym same) (fits.each whole (leads.before whole on));
  over = subst (λ (c : CallerState). IsOver c.phase ops (newest_call c.work.id.0 (worker_events d.clients c.work.id.0 (past_in c.work.own)))) (sym same) fits.over;
}

pub ok_both : {A E : Type 0} (P : A → Type 0) (Q : Type 0) → Q → (r : Result A E) → IfOk r P → IfOk r (λ a. P a × Q)
ok_both P Q also (Ok a) is = (is, also)
ok_both P Q also (Err e) is = tt
