-- A caller's desk as it goes on.
use Rattle.std.proofs.Common.{◌≡◌, ℕ, ℤ, ◌+◌, Bool, false, length, List, Option, Result, Ok, Err, max, inl, inr, refl, sym, ◌∙◌, ap, subst, append-nil, arith, true, None}
use Rattle.xa_desk.specs.xa_events.Calls.{is_invalid_call}
use Rattle.xa_desk.specs.xa_types.declared.ids.CallerId.{CallerId}
use Rattle.xa_desk.specs.xa_types.declared.setup.Setup.{Setup}
use Rattle.std.specs.Prelude.{IfOk, OnErr}
use Rattle.xa_desk.specs.xa_types.declared.call.Ask.{Ask}
use Rattle.xa_desk.specs.xa_types.declared.call.Op.{Op}
use Rattle.xa_desk.specs.xa_types.declared.call.Op.TheVariants.{Call}
use Rattle.xa_desk.specs.xa_types.declared.data.Data.{Data}
use Rattle.xa_desk.specs.xa_types.declared.data.Kind.{Kind}
use Rattle.xa_desk.specs.xa_types.declared.fault.Fault.{Fault}
use Rattle.xa_desk.specs.xa_types.declared.fault.Fault.TheVariants.{NoEnt, IType, Limit}
use Rattle.xa_desk.specs.xa_types.declared.stamp.Stamp.{Stamp}
use Rattle.xa_desk.specs.xa_types.Found.{FoundRows}
use Rattle.xa_desk.specs.xa_types.Kind.{kind_of}
use Rattle.xa_desk.specs.xa_events.declared.event.Evidence.{Evidence}
use Rattle.xa_desk.specs.xa_events.declared.event.Evidence.TheVariants.{Version, Cells}
use Rattle.xa_desk.specs.xa_worker.declared.work.Halt.{Halt}
use Rattle.xa_desk.specs.xa_caller.declared.outcomes.Prepared.{Prepared}
use Rattle.xa_desk.specs.xa_caller.declared.outcomes.Step.{Step}
use Rattle.xa_desk.specs.xa_caller.declared.outcomes.Stop.{Stop}
use Rattle.xa_desk.specs.xa_caller.declared.outcomes.Stop.TheVariants as stops
use Rattle.xa_desk.specs.xa_caller.Caller.{CallerState, room_to_send}
use Rattle.xa_desk.specs.xa_caller.Changes.{Prepares, Refuses, SetsPriority, StopsAs, StepsAs}
use Rattle.xa_desk.specs.xa_caller.Unsent.{ChecksAs}
use Rattle.xa_desk.proofs.xa_caller.Next.{first_found}
use Rattle.xa_desk.specs.declared.domain.Domain.{Domain}
use Rattle.xa_desk.specs.declared.desk.Desk.{Desk}
use Rattle.xa_desk.specs.Desks.{IsDesk, Leads, board_page}
use Rattle.xa_desk.specs.Found.{HasFound, queue_in}
use Rattle.xa_desk.specs.Serving.{Sees}
use Rattle.xa_desk.specs.xa_events.Caller.{is_client}
use Rattle.xa_desk.specs.xa_caller.Phases.{just_in}
use Rattle.xa_desk.proofs.Sending.{valid_ask}
use Rattle.xa_desk.specs.Steps.{FitsOp, WantsReply, ask_by}
use Rattle.xa_desk.specs.Looks.{LookShowed}
use Rattle.xa_desk.proofs.Fitting.{no_more_fits}
use Rattle.xa_desk.proofs.Leading.{none_made, leads_trans, starts_trans}
use Rattle.xa_desk.proofs.Stopping.{same_leads}
use Rattle.xa_calls.specs.declared.sending.Tried.{Tried}
use Rattle.xa_calls.specs.declared.sending.Tried.TheVariants as attempts
use Rattle.xa_calls.specs.Resting.{SawFull, NotedOn}
use Rattle.xa_calls.specs.Going.{IsReady, IsWaiting, IsSame, FillsNone, PerformsBy, GoesBy, TriesBy, ToldAs, TriedAs}
use Rattle.xa_calls.specs.Sending.{IsBy}
use Rattle.xa_calls.proofs.Resting.{noted_none, noted_trans, noted_weaker, checked_noted, replied_noted, stopped_noted, SameWork, same_work, same_desk, same_by, checked_same, replied_same, board_same, look_grew, look_later, look_earlier, full_later, full_earlier}
use Rattle.xa_calls.proofs.Seating.{seat_fills, prepared_fills, checks_fills, stopped_fills, looks_fills}

pub same_trans : (a b c : Desk) → IsSame a b → IsSame b c → IsSame a c
same_trans a b c ab bc = record {
  id = bc.id ∙ ab.id;
  clients = bc.clients ∙ ab.clients;
  room = λ server had. bc.room (ap (λ (n : ℕ). is_client n b.caller.work.id.0) ab.clients ∙ ap (λ (id : CallerId). is_client a.caller.work.clients id.0) ab.id ∙ server) (ab.room server had);
}

pub same_self : (desk : Desk) → IsSame desk desk
same_self desk = record { id = refl; clients = refl; room = λ server had. had }

module _ (d : Domain) (number : ℕ) (op : Op) where
  -- a step that left the board alone, and noted nothing that rests on what was seen before
  pub performs_by : (old new : Desk) → Leads d old new → FitsOp d number op old new → IsSame old new → FillsNone old new → new.board ≡ old.board → NotedOn (LookShowed old new) (SawFull d old new) old.caller.work.own new.caller.work.own → PerformsBy d number op old new
  performs_by old new leads fits same fills board looked = record { leads = leads; fits = fits; same = same; fills = fills; board = board_same old new board; looked = looked }

  pub stays_put : (desk : Desk) → IsDesk d desk → PerformsBy d number op desk desk
  stays_put desk is = performs_by desk desk (same_leads d desk is) (λ ops numbered fits. fits) (same_self desk) (λ k. refl) refl
      (noted_none (LookShowed desk desk) (SawFull d desk desk) desk.caller.work.own desk.caller.work.own refl)

  pub performs_trans : (a b c : Desk) → PerformsBy d number op a b → PerformsBy d number op b c → PerformsBy d number op a c
  performs_trans a b c ab bc = record {
    leads = leads_trans d a b c ab.leads bc.leads;
    fits = λ ops is fits. bc.fits ops is (ab.fits ops is fits);
    same = same_trans a b c ab.same bc.same;
    fills = λ k. bc.fills k ∙ ab.fills k;
    board = starts_trans (board_page c).seen (board_page b).seen (board_page a).seen bc.board ab.board;
    looked = noted_trans (LookShowed a c) (SawFull d a c) a.caller.work.own b.caller.work.own c.caller.work.own
        (noted_weaker (LookShowed a b) (LookShowed a c) (SawFull d a b) (SawFull d a c) (λ version. look_later a b c version bc.board bc.same.id) (λ one. full_later d a b c one bc.leads.pages) a.caller.work.own a.caller.work.own b.caller.work.own refl ab.looked)
        (noted_weaker (LookShowed b c) (LookShowed a c) (SawFull d b c) (SawFull d a c) (λ version. look_earlier a b c version ab.board) (λ one. full_earlier d a b c one ab.leads.pages) b.caller.work.own b.caller.work.own c.caller.work.own refl bc.looked);
  }

-- a call that set the priority of the next request, or came to a halt
pub set_same : (op : ℕ) (absolute : Bool) (amount : ℤ) (r : Result Stamp Halt) (old new : Desk) → IfOk r (λ stamp. SetsPriority op absolute amount stamp new.caller old.caller) → OnErr r (new ≡ old) → IsSame old new
set_same op absolute amount (Ok stamp) old new sets kept = same_by old new _ (ap (λ (c : CallerState). c.work) sets.made) refl refl refl
set_same op absolute amount (Err halt) old new sets kept = same_by old new _ (ap (λ (desk : Desk). desk.caller.work) kept) refl refl refl

module _ (d : Domain) (apart : Bool) (ask : Ask) (op : ℕ) where
  pub goes_nowhere : (desk : Desk) → IsDesk d desk → GoesBy d op apart ask desk desk
  goes_nowhere desk is = record { leads = same_leads d desk is; fits = λ ops numbered fits. fits; same = same_self desk; fills = λ k. refl }

  pub goes_trans : (a b c : Desk) → GoesBy d op apart ask a b → GoesBy d op apart ask b c → GoesBy d op apart ask a c
  goes_trans a b c ab bc = record {
    leads = leads_trans d a b c ab.leads bc.leads;
    fits = λ ops is fits. bc.fits ops is (ab.fits ops is fits);
    same = same_trans a b c ab.same bc.same;
    fills = λ k. bc.fills k ∙ ab.fills k;
  }

  -- a look for the answer of the call that waits
  pub looks_on : (a b c : Desk) → PerformsBy d op (Call ask) a b → IsWaiting d op b → PerformsBy d b.caller.op (Call ask) b c → PerformsBy d op (Call ask) a c
  looks_on a b c ab waits bc = performs_trans d op (Call ask) a b c ab (subst (λ (n : ℕ). PerformsBy d n (Call ask) b c) waits.made bc)

  pub replied_on : (expect : Option Kind) (step : Step) (old new : Desk) → Leads d old new → FitsOp d op (Call ask) old new → StepsAs expect step new.caller old.caller → new ≡ record old { caller = new.caller } → PerformsBy d op (Call ask) old new
  replied_on expect step old new leads fits is rest =
      performs_by d op (Call ask) old new leads fits (replied_same expect step old new is) (looks_fills expect step old new is) (ap (λ (desk : Desk). desk.board) rest) (replied_noted (LookShowed old new) (SawFull d old new) expect step old.caller new.caller is)

  -- TPEINVAL refused the call, or it came to a halt
  pub checked_on : (stop : Stop) (old new : Desk) → Leads d old new → FitsOp d op (ask_by apart ask) old new → ChecksAs op stop new.caller old.caller → new ≡ record old { caller = new.caller } → PerformsBy d op (ask_by apart ask) old new
  checked_on stop old new leads fits is rest =
      performs_by d op (ask_by apart ask) old new leads fits (checked_same op stop old new is) (checks_fills op stop old new is) (ap (λ (desk : Desk). desk.board) rest) (checked_noted (LookShowed old new) (SawFull d old new) op stop old.caller new.caller is)

  -- a try by what a look had found
  pub tried_on : (old seen end : Desk) → GoesBy d op apart ask old seen → GoesBy d op apart ask seen end → LookShowed old seen seen.reader.found.version → seen.caller.work.own ≡ old.caller.work.own → TriesBy (SawFull d seen end) seen end → PerformsBy d op (ask_by apart ask) old end
  tried_on old seen end first next look own tries =
      let version : ℕ = seen.reader.found.version in
      let goes = goes_trans old seen end first next in
      let grew = board_same seen end tries.board in
      record {
        leads = goes.leads;
        fits = goes.fits;
        same = goes.same;
        fills = goes.fills;
        board = starts_trans (board_page end).seen (board_page seen).seen (board_page old).seen grew (look_grew old seen version look);
        looked = noted_weaker (λ (v : ℕ). v ≡ version) (LookShowed old end) (SawFull d seen end) (SawFull d old end) (λ v is. look_later old seen end v grew next.same.id (subst (LookShowed old seen) (sym is) look))
            (λ one. full_earlier d old seen end one first.leads.pages) seen.caller.work.own old.caller.work.own end.caller.work.own (sym own) tries.found;
      }

  -- behind the making of its request
  pub tries_from : (seen made end : Desk) → made ≡ record seen { caller = made.caller } → made.caller.work.own ≡ seen.caller.work.own → Leads d seen made → TriesBy (SawFull d made end) made end → TriesBy (SawFull d seen end) seen end
  tries_from seen made end rest own leads tries = record {
    board = tries.board ∙ ap (λ (desk : Desk). desk.board) rest;
    found = noted_weaker (λ (v : ℕ). v ≡ made.reader.found.version) (λ (v : ℕ). v ≡ seen.reader.found.version) (SawFull d made end) (SawFull d seen end) (λ v is. is ∙ ap (λ (desk : Desk). desk.reader.found.version) rest)
        (λ one. full_earlier d seen made end one leads.pages) made.caller.work.own seen.caller.work.own end.caller.work.own (sym own) tries.found;
  }

  -- no request was made
  pub stopped_tries : (stop : Stop) (seen end : Desk) → StopsAs d.setup op ask.payload seen.reader.found stop end.caller seen.caller → end ≡ record seen { caller = end.caller } → TriesBy (SawFull d seen end) seen end
  stopped_tries stop seen end stopped rest = record { board = ap (λ (desk : Desk). desk.board) rest; found = stopped_noted (SawFull d seen end) d.setup op ask.payload seen.reader.found stop seen.caller end.caller stopped }

  pub waits_on : (b c : Desk) (told : Bool) → told ≡ false → IsWaiting d op b → ToldAs d b.caller.op (Ok told) c → IsWaiting d op c
  waits_on b c told is waits is_told = subst (λ (n : ℕ). ToldAs d n (Ok false) c) waits.made (subst (λ (t : Bool). ToldAs d b.caller.op (Ok t) c) is is_told)

  -- where nothing was sent, the call isn't made
  pub full_on : (before : ℕ) (desk : Desk) (tried : Tried) → op ≡ before + 1 → tried ≡ attempts.Full → TriedAs apart d op (Ok tried) desk → IsReady d before desk
  full_on before desk tried turn is left =
      let full = subst (λ (t : Tried). TriedAs apart d op (Ok t) desk) is left in
      let made = full.1 in
      subst (λ (n : ℕ). IsReady d n desk) (is_same full.0 before made turn) full.2
    where
      is_same : (a b : ℕ) → a + 1 ≡ op → op ≡ b + 1 → a ≡ b
      is_same a b made turn = omega (arith, made, turn)

  -- ---- by the first steps of a call

  -- the caller saw a stamp
  pub sees_on : (old new : Desk) → Leads d old new → Sees old.caller new.caller → GoesBy d op apart ask old new
  sees_on old new leads sees =
      let id = ap (λ (c : CallerState). c.work.id) sees.1 in
      let clients = ap (λ (c : CallerState). c.work.clients) sees.1 in
      record {
        leads = leads;
        fits = λ ops its. no_more_fits d old new leads (record {
          setup = ap (λ (c : CallerState). c.work.setup) sees.1;
          clients = clients;
          id = id;
          own = ap (λ (c : CallerState). c.work.own) sees.1 ∙ sym (append-nil old.caller.work.own);
          stamp = let higher = ap (λ (c : CallerState). c.work.stamp.0) sees.1 in omega (arith, higher);
          made = none_made;
        }) (λ none. sym (ap (λ (c : CallerState). just_in c.phase) sees.1) ∙ none) ops;
        same = same_by old new _ (ap (λ (c : CallerState). c.work) sees.1) refl refl refl;
        fills = seat_fills old new (ap (λ (c : CallerState). c.seat) sees.1);
      }

  pub prepared_same : (found : FoundRows) (prepared : Prepared) (old new : Desk) → Prepares d.setup d.cells op ask.payload found prepared new.caller old.caller → IsSame old new
  prepared_same found prepared old new made = same_desk old new (same_work old.caller.work new.caller.work _ (ap (λ (c : CallerState). c.work) made.made) refl refl (λ had. omega (arith, had)))

  pub prepared_on : (found : FoundRows) (prepared : Prepared) (old new : Desk) → Leads d old new → FitsOp d op (ask_by apart ask) old new → Prepares d.setup d.cells op ask.payload found prepared new.caller old.caller → GoesBy d op apart ask old new
  prepared_on found prepared old new leads fits made = record { leads = leads; fits = fits; same = prepared_same found prepared old new made; fills = prepared_fills d.setup op ask.payload found prepared old new made }

  refused_same : (fault : Fault) (evidence : Evidence) (stamp : Stamp) (old new : CallerState) → Refuses op fault evidence stamp new old → SameWork old.work new.work
  refused_same fault evidence stamp old new refuses = same_work old.work new.work _ (ap (λ (c : CallerState). c.work) refuses.made) refl refl (λ had. had)

  pub stopped_same : (found : FoundRows) (stop : Stop) (old new : CallerState) → StopsAs d.setup op ask.payload found stop new old → SameWork old.work new.work
  stopped_same found (stops.Refused stamp) old new (inl none) = elim none.1 [ inl rows ↦ refused_same NoEnt (Version found.version) stamp old new rows.1 | inr rows ↦ refused_same IType (Version found.version) stamp old new rows.1 ]
  stopped_same found (stops.Refused stamp) old new (inr full) =
      let same = refused_same Limit (Cells old.seat.count) stamp (record old { work = record old.work { room = max old.work.room (length old.out + room_to_send) }; seat = full.1.seat }) new full.1.refuses in
      (same.0, same.1, λ had. same.2 (omega (arith, had)))
  stopped_same found (stops.Halt halt) old new (halts, inl kept) = same_work old.work new.work _ (ap (λ (c : CallerState). c.work) kept) refl refl (λ had. had)
  stopped_same found (stops.Halt halt) old new (halts, inr over) = same_work old.work new.work _ (ap (λ (c : CallerState). c.work) over.made) refl refl (λ had. omega (arith, had))

  pub stopped_on : (found : FoundRows) (stop : Stop) (old new : Desk) → Leads d old new → FitsOp d op (ask_by apart ask) old new → StopsAs d.setup op ask.payload found stop new.caller old.caller → GoesBy d op apart ask old new
  stopped_on found stop old new leads fits stopped = record { leads = leads; fits = fits; same = same_desk old new (stopped_same found stop old.caller new.caller stopped); fills = stopped_fills d.setup op ask.payload found stop old new stopped }

-- a call that isn't invalid wants a reply
pub wants_of : (setup : Setup) (apart : Bool) (ask : Ask) → is_invalid_call setup ask ≡ false → WantsReply apart ask
wants_of setup true ask valid = (valid_ask setup ask valid).1
wants_of setup false ask valid = tt

-- the request is by the first row that was found
pub first_by : (d : Domain) (service : List ℕ) (payload : Data) (op : ℕ) (prepared : Prepared) (old new : Desk) → new ≡ record old { caller = new.caller } → HasFound d service old.reader.found old
    → Prepares d.setup d.cells op payload old.reader.found prepared new.caller old.caller → IsBy new.reader.found 0 prepared.event
first_by d service payload op prepared old new rest has made =
    subst (λ (f : FoundRows). IsBy f 0 prepared.event) (sym (ap (λ (desk : Desk). desk.reader.found) rest))
    (made.row, first_found d.setup service (kind_of payload) old.reader.found.rows made.row has.rows made.chosen, ap queue_in (sym made.event))
