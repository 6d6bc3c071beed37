-- What a request that is prepared leaves, and a call that is refused before.
use Rattle.std.proofs.Common.{◌≡◌, ◌≤◌, ◌<◌, ℕ, ◌+◌, ◌||◌, max, Bool, true, false, if◌then◌else◌, length, List, [], ◌∷◌, Some, None, Result, Ok, Err, inl, inr, refl, sym, ◌∙◌, ap, subst, arith}
use Rattle.std.specs.Prelude.{IfOk, IfErr, OnOk}
use Rattle.std.specs.List.{Contains, find, list_any}
use Rattle.std.proofs.lemmas.Bool.{cases_Bool}
use Rattle.std.proofs.lemmas.List.Elements.{All-contains_itself}
use Rattle.xa_server.specs.xa_types.declared.call.Ask.{Ask}
use Rattle.xa_server.specs.xa_types.declared.fault.Fault.{Fault}
use Rattle.xa_server.specs.xa_types.declared.fault.Fault.TheVariants.{NoEnt, IType, Limit, Inval}
use Rattle.xa_server.specs.xa_types.declared.ids.RequestId.{RequestId}
use Rattle.xa_server.specs.xa_types.declared.row.Row.{Row}
use Rattle.xa_server.specs.xa_types.declared.stamp.Stamp.{Stamp}
use Rattle.xa_server.specs.xa_types.Found.{FoundRows}
use Rattle.xa_server.specs.xa_types.Kind.{is_accepted, kind_of}
use Rattle.xa_server.specs.xa_events.declared.event.Event.{Event}
use Rattle.xa_server.specs.xa_events.declared.event.Event.TheVariants.{Accept}
use Rattle.xa_server.specs.xa_events.declared.event.Evidence.TheVariants.{Version, Cells, Argument}
use Rattle.xa_server.specs.xa_events.Board.{published, listed_in}
use Rattle.xa_server.specs.xa_events.Calls.{as_call, is_invalid_call, is_accepted_by}
use Rattle.xa_server.specs.xa_events.Homes.Home.{BoardHome}
use Rattle.xa_server.specs.xa_stamp.declared.home.Stamped.{Stamped}
use Rattle.xa_server.specs.xa_worker.Calls.{AskRefusedOwn, SawListed}
use Rattle.xa_server.specs.xa_worker.Seen.{past_in, SawFront}
use Rattle.xa_server.specs.xa_cell.Known.{known, IsSeatOf}
use Rattle.xa_server.specs.xa_held.Kept.{IsRight}
use Rattle.xa_server.specs.xa_caller.declared.outcomes.Prepared.{Prepared as Made}
use Rattle.xa_server.specs.xa_caller.declared.outcomes.Stop.{Stop}
use Rattle.xa_server.specs.xa_caller.declared.outcomes.Stop.TheVariants as stops
use Rattle.xa_server.specs.xa_caller.declared.phase.Draft.{Draft}
use Rattle.xa_server.specs.xa_caller.Caller.{CallerState, room_to_send}
use Rattle.xa_server.specs.xa_cell.Calls.{AllTaken}
use Rattle.xa_server.specs.xa_caller.Changes.{Prepares, Refuses, StopsAs, Limits, LooksOver}
use Rattle.xa_server.specs.xa_caller.Drafts.{accepted_by, entry_by}
use Rattle.xa_server.specs.xa_caller.Phases.{just_in}
use Rattle.xa_server.specs.xa_caller.Unsent.{ChecksAs}
use Rattle.xa_server.proofs.xa_caller.Next.{found-all, sound_ask}
use Rattle.xa_server.proofs.Calls.{began_keeps, full_keeps}
use Rattle.xa_desk.specs.Made.{IsRefusal}
use Rattle.xa_desk.specs.declared.domain.Domain.{Domain}
use Rattle.xa_desk.specs.declared.desk.Desk.{Desk}
use Rattle.xa_desk.specs.Whole.{Whole, entries_of}
use Rattle.xa_desk.specs.Desks.{GoesOn, IsDesk}
use Rattle.xa_desk.specs.Found.{HasFound, IsAimed, next_request}
use Rattle.xa_desk.proofs.Fitting.{its_events, GoesFor, kept_goes, quiet_goes}
use Rattle.xa_desk.proofs.Leading.{grew_none, IsQuiet}
use Rattle.xa_desk.proofs.Seating.{keeps_on}
use Rattle.xa_desk.proofs.Refusing.{IsSame, same_as, refuse_goes}
use Rattle.xa_desk.proofs.Staying.{found_stays}

-- what was found passes the test, and where nothing was, none does
pub passes_found : {X : Type 0} (p : X → Bool) (xs : List X) (x : X) → find p xs ≡ Some x → p x ≡ true
passes_found p [] x is = absurd (cc is)
passes_found p (y ∷ rest) x is = elim (cases_Bool (p y)) [
  | inl here ↦ subst (λ r. p r ≡ true) (cc (sym (ap (λ b. if b then Some y else find p rest) here) ∙ is)) here
  | inr n ↦ passes_found p rest x (sym (ap (λ b. if b then Some y else find p rest) n) ∙ is)
]

pub none_passes : {X : Type 0} (p : X → Bool) (xs : List X) → find p xs ≡ None → list_any p xs ≡ false
none_passes p [] is = refl
none_passes p (y ∷ rest) is = elim (cases_Bool (p y)) [
  | inl here ↦ absurd (cc (sym (ap (λ b. if b then Some y else find p rest) here) ∙ is))
  | inr n ↦ ap (λ b. b || list_any p rest) n ∙ none_passes p rest (sym (ap (λ b. if b then Some y else find p rest) n) ∙ is)
]

pub weaker_front : (entries : List Stamped) (stamp : Stamp) (P Q : List Event → Type 0) → ((past : List Event) → P past → Q past) → SawFront entries stamp P → SawFront entries stamp Q
weaker_front entries stamp P Q less saw = record { front = saw.front; stands = saw.stands; before = saw.before; shows = less (past_in saw.front) saw.shows }

-- the rows that the version lists were seen, and show P
pub listed_shows : (d : Domain) (found : FoundRows) (service : List ℕ) (desk : Desk) (P : List Row → Type 0) → HasFound d service found desk → P found.rows → (whole : Whole) → GoesOn d whole desk → (stamp : Stamp) → desk.caller.work.stamp.0 < stamp.0
    → SawListed d.setup d.clients (entries_of whole) stamp found.version service false P
listed_shows d found service desk P has holds whole on stamp less =
    weaker_front (entries_of whole BoardHome) stamp (λ past. (found.version ≤ published past) × (listed_in d.setup past found.version service false ≡ found.rows)) (λ past. (found.version ≤ published past) × P (listed_in d.setup past found.version service false))
    (λ past shows. (shows.0, subst P (sym {A = List Row} shows.1) holds)) (has.listed whole on stamp less)

module _ (d : Domain) (desk : Desk) (found : FoundRows) (op : ℕ) (ask : Ask) (is : IsDesk d desk) (idle : just_in desk.caller.phase ≡ None) (turn : op ≡ desk.caller.op + 1) (has : HasFound d ask.service found desk) (valid : is_invalid_call d.setup ask ≡ false) (new : CallerState)
    (seat : IsSeatOf d.cells new.seat) where
  abbrev Next : Desk
  Next = record desk { caller = new }

  -- ---- a request that was prepared

  module _ (prepared : Made) (makes : Prepares d.setup d.cells op ask.payload found prepared new desk.caller) where
    abbrev request : RequestId
    request = record { caller = desk.caller.work.id; number = desk.caller.sent + 1 }

    quiet : IsQuiet d desk new
    quiet =
        let made = makes.made in
        record {
          grew = grew_none desk.caller.work new.work (max desk.caller.work.room (length desk.caller.out + room_to_send)) desk.caller.work.stamp (ap (λ (c : CallerState). c.work) made) (omega arith);
          seat = seat;
          takes = keeps_on (known desk.caller.seat) (known new.seat) (began_keeps d.cells _ desk.caller.seat new.seat makes.draft.asked.place prepared.entry.cargo.ticket makes.began);
          least = ap (λ (c : CallerState). c.least) made;
        }

    prepare_goes : GoesFor d op ask desk Next
    prepare_goes = quiet_goes d desk new quiet is (ap (λ (c : CallerState). c.work.stamp) makes.made) (λ over. idle) op ask

    prepare_aims : IsRight d.cells prepared.entry → IsAimed d found ask.payload prepared.entry prepared.event Next
    prepare_aims right =
        let its : makes.draft.asked.request ≡ request = ap (λ (t : Draft). t.asked.request) makes.drawn in
        let p : Row → Bool = λ row. is_accepted d.setup row.accepts (kind_of ask.payload) in
        let set = desk.caller.priority in
        let still : new.priority ≡ set = ap (λ (c : CallerState). c.priority) makes.made in
        let its_op : makes.draft.op ≡ op = ap (λ (t : Draft). t.op) makes.drawn in
        record {
          draft = makes.draft;
          prepared = ap (λ (c : CallerState). c.phase) makes.made;
          drafted = makes.drafted;
          mine = its ∙ sym (ap next_request makes.made);
          turn = its_op ∙ turn ∙ ap (λ (c : CallerState). c.op + 1) (sym makes.made);
          version = ap (λ (t : Draft). t.version) makes.drawn;
          sound = sound_ask d.setup ask valid;
          row = makes.row;
          among = found-all p (Contains found.rows) found.rows makes.row makes.chosen (All-contains_itself found.rows);
          accepts = passes_found p found.rows makes.row makes.chosen;
          entry_is = makes.entry ∙ ap (λ (r : RequestId). entry_by r makes.row set ask.payload prepared.entry.cargo.ticket) (sym its) ∙ ap (λ asked. entry_by makes.draft.asked.request makes.row asked ask.payload prepared.entry.cargo.ticket) (sym still);
          event_is = makes.event ∙ ap (λ (n : ℕ). Accept (accepted_by n request found.version makes.row set ask.payload)) (sym its_op) ∙ ap (λ (r : RequestId). Accept (accepted_by makes.draft.op r found.version makes.row set ask.payload)) (sym its)
              ∙ ap (λ asked. Accept (accepted_by makes.draft.op makes.draft.asked.request found.version makes.row asked ask.payload)) (sym still);
          right = right;
          cell = sym makes.began.ticket_cell;
        }

  -- ---- a call that was refused

  -- by the version that was found
  by_version : (fault : Fault) (stamp : Stamp) → IsRefusal fault (Version found.version) → Refuses op fault (Version found.version) stamp new desk.caller → (P : List Row → Type 0) → P found.rows
      → ((whole : Whole) → SawListed d.setup d.clients (entries_of whole) stamp found.version ask.service false P → AskRefusedOwn d.setup d.clients (entries_of whole) stamp desk.caller.work.id.0 (as_call d.setup ask) ask fault (Version found.version) (its_events d desk)) → GoesFor d op ask desk Next
  by_version fault stamp kind refuses P holds fits =
      let next = refuses.next in
      let goes = refuse_goes d desk desk.caller new op fault (Version found.version) stamp is (same_as d desk is) refuses has.seen kind tt (λ whole on.
      weaker_front (entries_of whole BoardHome) stamp (λ past. (found.version ≤ published past) × (listed_in d.setup past found.version ask.service false ≡ found.rows)) (λ past. found.version ≤ published past) (λ past shows. shows.0) (has.listed whole on stamp (omega (arith, next)))) (λ whole on. tt) (omega (arith, turn)) idle in
      (goes.0, goes.1 ask (λ whole on. fits whole (listed_shows d found ask.service desk P has holds whole on stamp (omega (arith, next)))))

  -- with all cells in use
  by_limit : (stamp : Stamp) → Limits op stamp new desk.caller → GoesFor d op ask desk Next
  by_limit stamp limits =
      let left : CallerState = record desk.caller { work = record desk.caller.work { room = max desk.caller.work.room (length desk.caller.out + room_to_send) }; seat = limits.seat } in
      let same : IsSame d desk left = record { work = refl; seat = subst (IsSeatOf d.cells) (ap (λ (c : CallerState). c.seat) limits.refuses.made) seat; takes = keeps_on (known desk.caller.seat) (known limits.seat) (full_keeps desk.caller.seat limits.seat limits.taken); least = refl } in
      let goes = refuse_goes d desk left new op Limit (Cells desk.caller.seat.count) stamp is same limits.refuses tt tt tt (λ whole on. tt) (λ whole on. tt) (omega (arith, turn)) idle in
      (goes.0, goes.1 ask (λ whole on. (valid, refl)))

  -- so it is where that can't be noted
  over_goes : LooksOver new desk.caller → GoesFor d op ask desk Next
  over_goes over =
      let made = over.made in
      quiet_goes d desk new (record {
        grew = grew_none desk.caller.work new.work (max desk.caller.work.room (length desk.caller.out + room_to_send)) desk.caller.work.stamp (ap (λ (c : CallerState). c.work) made) (omega arith);
        seat = seat;
        takes = keeps_on (known desk.caller.seat) (known new.seat) (full_keeps desk.caller.seat new.seat (subst (AllTaken desk.caller.seat) (sym (ap (λ (c : CallerState). c.seat) made)) over.taken));
        least = ap (λ (c : CallerState). c.least) made;
      }) is (ap (λ (c : CallerState). c.work.stamp) made) (λ none. idle) op ask

  stop_goes : (stop : Stop) → StopsAs d.setup op ask.payload found stop new desk.caller → GoesFor d op ask desk Next
  stop_goes (stops.Refused stamp) (inl (none, inl down)) = by_version NoEnt stamp tt down.1 (λ rows. rows ≡ []) down.0 (λ whole saw. (valid, saw))
  stop_goes (stops.Refused stamp) (inl (none, inr down)) =
      by_version IType stamp tt down.1 (λ rows. (rows ≡ [] → ⊥) × (is_accepted_by d.setup ask.payload rows ≡ false)) (down.0, none_passes (λ (row : Row). is_accepted d.setup row.accepts (kind_of ask.payload)) found.rows none) (λ whole saw. (valid, saw))
  stop_goes (stops.Refused stamp) (inr full) = by_limit stamp full.1
  stop_goes (stops.Halt halt) (halts, inl kept) = kept_goes d desk op ask new is kept
  stop_goes (stops.Halt halt) (halts, inr over) = over_goes over

  pub prepared_goes : (r : Result Made Stop) → IfOk r (λ prepared. Prepares d.setup d.cells op ask.payload found prepared new desk.caller) → IfErr r (λ stop. StopsAs d.setup op ask.payload found stop new desk.caller) → IfOk r (λ prepared. IsRight d.cells prepared.entry)
      → GoesFor d op ask desk Next × IfOk r (λ prepared. IsAimed d found ask.payload prepared.entry prepared.event Next) × OnOk r (HasFound d ask.service found Next)
  prepared_goes (Ok prepared) makes stopped right =
      let goes = prepare_goes prepared makes in
      let recent = has.recent in
      let least = ap (λ (c : CallerState). c.least) makes.made in
      (goes, prepare_aims prepared makes right, found_stays d desk Next goes.0 ask.service found refl (omega (arith, recent, least)) has)
  prepared_goes (Err stop) makes stopped right = (stop_goes stop stopped, tt, tt)

-- ---- a call that is invalid, or isn't

module _ (d : Domain) (desk : Desk) (op : ℕ) (ask : Ask) (is : IsDesk d desk) (above : 0 < op) (idle : just_in desk.caller.phase ≡ None) (new : CallerState) where
  check_goes : (stop : Stop) → is_invalid_call d.setup ask ≡ true → ChecksAs op stop new desk.caller → GoesFor d op ask desk (record desk { caller = new })
  check_goes (stops.Refused stamp) invalid refuses = let goes = refuse_goes d desk desk.caller new op Inval Argument stamp is (same_as d desk is) refuses tt tt tt (λ whole on. tt) (λ whole on. tt) above idle in (goes.0, goes.1 ask (λ whole on. invalid))
  check_goes (stops.Halt halt) invalid kept = kept_goes d desk op ask new is kept.1

  pub checked_goes : (r : Result (List ℕ) Stop) → OnOk r (new ≡ desk.caller) → IfErr r (λ stop. (is_invalid_call desk.caller.work.setup ask ≡ true) × ChecksAs op stop new desk.caller)
      → GoesFor d op ask desk (record desk { caller = new }) × OnOk r (record desk { caller = new } ≡ desk) × IfErr r (λ stop. ChecksAs op stop new desk.caller)
  checked_goes (Ok name) kept refused = (kept_goes d desk op ask new is kept, ap (λ (c : CallerState). record desk { caller = c }) kept, tt)
  checked_goes (Err stop) kept refused = (check_goes stop (subst (λ s. is_invalid_call s ask ≡ true) is.setup refused.0) refused.1, tt, refused.1)
