-- What a request leaves that no queue took.
use Rattle.std.proofs.Common.{◌≡◌, ◌⊎◌, ◌≤◌, ℕ, ◌+◌, ◌==◌, Bool, true, false, List, [], Option, Some, None, inr, refl, sym, ◌∙◌, ap, subst, arith, eq-eqb, inl, ◌<◌}
use Rattle.xa_server.proofs.xa_queue.Waiting.{none_of}
use Rattle.std.proofs.lemmas.Bool.{cases_Bool, false≢true}
use Rattle.std.specs.List.{All, list_any}
use Rattle.std.proofs.lemmas.List.Elements.{All-weaker, All-contains}
use Rattle.xa_server.specs.xa_types.declared.call.Ask.{Ask}
use Rattle.xa_server.specs.xa_types.declared.fault.Fault.{Fault}
use Rattle.xa_server.specs.xa_types.declared.fault.Fault.TheVariants.{System, Block}
use Rattle.xa_server.specs.xa_types.declared.ids.QueueId.{QueueId}
use Rattle.xa_server.specs.xa_types.declared.row.Row.{Row}
use Rattle.xa_server.specs.xa_types.declared.setup.Setup.{Setup}
use Rattle.xa_server.specs.xa_types.declared.stamp.Stamp.{Stamp}
use Rattle.xa_server.specs.xa_types.Setup.{capacity_of}
use Rattle.xa_server.specs.xa_types.Found.{FoundRows}
use Rattle.xa_server.specs.xa_events.declared.event.Event.{Event}
use Rattle.xa_server.specs.xa_events.declared.event.Evidence.{Evidence}
use Rattle.xa_server.specs.xa_events.declared.event.Evidence.TheVariants.{AllDown, Queue}
use Rattle.xa_server.specs.xa_events.Board.{published, listed_in}
use Rattle.xa_server.specs.xa_events.Calls.{is_invalid_call, IsShutOut}
use Rattle.xa_server.specs.xa_events.Homes.{is_own_at}
use Rattle.xa_server.specs.xa_events.Homes.Home.{BoardHome, QueueHome}
use Rattle.xa_server.specs.xa_events.Queue.{is_down, is_closed}
use Rattle.xa_server.specs.xa_events.Words.{count}
use Rattle.xa_server.specs.xa_worker.Calls.{SawNoRoom, SawListed}
use Rattle.xa_server.specs.xa_worker.Seen.{past_in, IfNew, SawQueue, SawSince}
use Rattle.xa_server.specs.xa_cell.declared.tokens.Seat.{Seat}
use Rattle.xa_server.specs.xa_cell.Changes.{withdrawn}
use Rattle.xa_server.specs.xa_cell.Growing.{Keeps}
use Rattle.xa_server.specs.xa_cell.Known.{known, IsSeatOf}
use Rattle.xa_server.proofs.xa_cell.Growing.{withdrawn_keeps}
use Rattle.xa_server.specs.xa_queue.declared.entry.Entry.{Entry}
use Rattle.xa_server.specs.xa_caller.declared.cargo.Filling.{Filling}
use Rattle.xa_server.specs.xa_caller.declared.outcomes.Step.{Step}
use Rattle.xa_server.specs.xa_caller.declared.outcomes.Step.TheVariants as steps
use Rattle.xa_server.specs.xa_caller.declared.outcomes.Why.{Why}
use Rattle.xa_server.specs.xa_caller.declared.outcomes.Why.TheVariants as reasons
use Rattle.xa_server.specs.xa_caller.declared.phase.Draft.{Draft}
use Rattle.xa_server.specs.xa_caller.declared.phase.Phase.TheVariants.{Idle}
use Rattle.xa_server.specs.xa_caller.Drafts.{Cargo}
use Rattle.xa_server.specs.xa_caller.Caller.{CallerState}
use Rattle.xa_server.specs.xa_caller.Changes.{Refuses}
use Rattle.xa_server.specs.xa_caller.Phases.{just_in, IsPreparedAt}
use Rattle.xa_server.specs.xa_caller.Unsent.{MayBe, UnsentAs, EndsAs, refused_for, other_step}
use Rattle.xa_desk.specs.declared.domain.Domain.{Domain}
use Rattle.xa_desk.proofs.Leading.{grew_none, IsQuiet, calm_leads}
use Rattle.xa_desk.specs.declared.desk.Desk.{Desk}
use Rattle.xa_desk.specs.Whole.{Whole, entries_of}
use Rattle.xa_desk.specs.Desks.{GoesOn, IsDesk, Leads}
use Rattle.xa_desk.specs.Found.{HasFound, IsAimed, SawAtQueue, SawItsOwnAt}
use Rattle.xa_desk.specs.Steps.{FitsOn, IsWhy}
use Rattle.xa_desk.proofs.Fitting.{its_events, IsRead, no_more_fits}
use Rattle.xa_desk.proofs.Preparing.{weaker_front, listed_shows}
use Rattle.xa_desk.proofs.Seating.{keeps_on, TakesOn}
use Rattle.xa_desk.proofs.Refusing.{IsSame, refuse_goes}
use Rattle.xa_desk.proofs.Sending.{same_draft}
use Rattle.xa_desk.proofs.Showing.{count_theirs}

module _ (d : Domain) (desk : Desk) (found : FoundRows) (cell : ℕ) (is : IsDesk d desk) (reads : IsRead d desk) (has : (service : List ℕ) × HasFound d service found desk) (draft : Draft) (version : draft.version ≡ found.version) (above : 0 < draft.op) (idle : just_in desk.caller.phase ≡ None) (new : CallerState)
    (seat : Seat Filling) (its : IsSeatOf d.cells seat) (back : known seat ≡ withdrawn cell (known desk.caller.seat)) where
  abbrev Next : Desk
  Next = record desk { caller = new }

  abbrev Left : CallerState
  Left = record desk.caller { seat = seat; phase = Idle }

  -- it goes on, and what it noted fits the call whose request it was
  abbrev Goes : Bool → Type 0
  Goes blocks = Leads d desk Next × ((ask : Ask) → is_invalid_call d.setup ask ≡ false → blocks ≡ ask.flags.no_block → HasFound d ask.service found desk → FitsOn d draft.op ask desk Next)

  takes : TakesOn (known desk.caller.seat) (known seat)
  takes = keeps_on (known desk.caller.seat) (known seat) (subst (Keeps (known desk.caller.seat)) (sym back) (withdrawn_keeps cell (known desk.caller.seat)))

  same : IsSame d desk Left
  same = record { work = refl; seat = its; takes = takes; least = refl }

  -- nothing was noted
  left_goes : (blocks : Bool) → new ≡ Left → Goes blocks
  left_goes blocks left =
      let quiet : IsQuiet d desk new = subst (IsQuiet d desk) (sym left) (record { grew = grew_none desk.caller.work desk.caller.work desk.caller.work.room desk.caller.work.stamp refl (omega arith); seat = its; takes = takes; least = refl }) in
      let leads = calm_leads d desk new quiet is (ap (λ (c : CallerState). c.work.stamp) left) in
      (leads, λ ask valid same_blocks its_found apart wants ops its. no_more_fits d desk Next leads quiet.grew (λ none. idle) ops)

  -- each queue was shut
  down_goes : (blocks : Bool) (stamp : Stamp) → Refuses draft.op System (AllDown draft.version) stamp new Left → IsWhy d found reasons.AllShut desk → Goes blocks
  down_goes blocks stamp refuses why =
      let next = refuses.next in
      let seen = has.1.seen in
      let goes = refuse_goes d desk Left new draft.op System (AllDown draft.version) stamp is same refuses (omega (arith, version, seen)) tt tt (λ whole on.
      weaker_front (entries_of whole BoardHome) stamp (λ past. (found.version ≤ published past) × (listed_in d.setup past found.version has.0 false ≡ found.rows)) (λ past. draft.version ≤ published past) (λ past shows. let le = shows.0 in omega (arith, version, le)) (has.1.listed whole on stamp (omega (arith, next)))) (λ whole on. tt) above idle in (
        goes.0,
        λ ask valid same_blocks its_found. goes.1 ask (λ whole on.
            let Shut : Row → Type 0 = λ row. SawQueue d.setup row.queue.0 (entries_of whole (QueueHome row.queue.0)) stamp (λ past. (is_down row.queue.0 past ≡ true) ⊎ (is_closed row.queue.0 past ≡ true)) in (
              valid,
              subst (λ (v : ℕ). SawListed d.setup d.clients (entries_of whole) stamp v ask.service false (λ rows. (rows ≡ [] → ⊥) × All Shut rows)) (sym version)
                  (listed_shows d found ask.service desk (λ rows. (rows ≡ [] → ⊥) × All Shut rows) its_found (why.some, All-weaker (λ (row : Row). SawAtQueue d row.queue.0 desk (λ past. (is_down row.queue.0 past ≡ true) ⊎ (is_closed row.queue.0 past ≡ true))) Shut (λ row saw. saw whole on stamp (omega (arith, next))) found.rows (why.shut refl))
                  whole on stamp (omega (arith, next))),
            )),
      )

  -- a queue was full, and the call doesn't wait
  full_goes : (queue : QueueId) (n : ℕ) (stamp : Stamp) → Refuses draft.op Block (Queue queue n) stamp new Left → IsWhy d found (reasons.Full queue n) desk → Goes true
  full_goes queue n stamp refuses why =
      let next = refuses.next in
      let goes = refuse_goes d desk Left new draft.op Block (Queue queue n) stamp is same refuses tt tt tt (λ whole on. why.filled.2 whole on stamp (omega (arith, next))) (λ whole on. tt) above idle in
      (goes.0, λ ask valid blocks its_found. goes.1 ask (λ whole on. (valid, sym blocks, no_room ask its_found whole on)))
    where
      no_room : (ask : Ask) → HasFound d ask.service found desk → (whole : Whole) → GoesOn d whole desk → SawNoRoom d.setup d.clients (entries_of whole) stamp desk.caller.work.id.0 ask.service false queue.0 (its_events d desk)
      no_room ask its_found whole on =
          let next = refuses.next in
          let id : ℕ = desk.caller.work.id.0 in
          let is_its : Row → Bool = λ row. row.queue.0 == queue.0 in
          let Out : Row → Type 0 = λ row. (row.queue.0 ≡ queue.0) ⊎ SawSince d.setup d.clients (entries_of whole) stamp id row.queue.0 (IsShutOut d.setup row.queue.0) (its_events d desk) in
          let one = why.filled.3 in
          let listed : list_any is_its found.rows ≡ true = elim (cases_Bool (list_any is_its found.rows)) [
            | inl some ↦ some
            | inr none ↦ absurd (false≢true (sym (All-contains (λ (row : Row). is_its row ≡ false) found.rows one.0 (none_of is_its found.rows none) one.1) ∙ eq-eqb one.0.queue.0 queue.0 (ap (λ (q : QueueId). q.0) one.2)))
          ] in
          let floor = reads.floor in
          let recent = its_found.recent in
          record {
            version = found.version;
            floor = omega (arith, floor, recent);
            listed = listed_shows d found ask.service desk (λ rows. (list_any is_its rows ≡ true) × All Out rows) its_found (
              listed,
              All-weaker (λ (row : Row). SawItsOwnAt d row.queue.0 desk (IsShutOut d.setup row.queue.0)) Out (λ row saw. inr (weaker_front (entries_of whole (QueueHome row.queue.0)) stamp
                  (λ past. IfNew d.setup row.queue.0 (IsShutOut d.setup row.queue.0) past × (count (is_own_at d.setup d.clients id row.queue.0) past ≡ count (is_own_at d.setup d.clients id row.queue.0) (past_in desk.caller.work.own)))
                  (λ past. IfNew d.setup row.queue.0 (IsShutOut d.setup row.queue.0) past × (count (is_own_at d.setup d.clients id row.queue.0) past ≡ count (is_own_at d.setup d.clients id row.queue.0) (its_events d desk)))
                  (λ past shows. (shows.0, shows.1 ∙ sym (count_theirs d.setup d.clients id row.queue.0 (past_in desk.caller.work.own)))) (saw whole on stamp (omega (arith, next))))) found.rows why.out,
            ) whole on stamp (omega (arith, next));
          }

  ends_goes : (why : Why) (blocks : Bool) (step : Step) → IsWhy d found why desk → EndsAs draft.op (refused_for draft why blocks) (other_step why) step new Left → Goes blocks
  ends_goes reasons.AllShut blocks (steps.Told stamp) why ends = down_goes blocks stamp ends why
  ends_goes reasons.AllShut blocks (steps.Halt halt) why ends = left_goes blocks ends.1
  ends_goes reasons.AllShut blocks steps.Wait why ends = absurd ends
  ends_goes reasons.AllShut blocks steps.Halted why ends = absurd ends
  ends_goes (reasons.Full queue n) true (steps.Told stamp) why ends = full_goes queue n stamp ends why
  ends_goes (reasons.Full queue n) true (steps.Halt halt) why ends = left_goes true ends.1
  ends_goes (reasons.Full queue n) true steps.Wait why ends = absurd ends
  ends_goes (reasons.Full queue n) true steps.Halted why ends = absurd ends
  ends_goes (reasons.Full queue n) false step why ends = left_goes false ends.1
  ends_goes (reasons.Halt halt) blocks step why ends = left_goes blocks ends.1

-- ---- by what its caller's contract says

-- the request is at that cell
pub prepared_at : (d : Domain) (desk : Desk) (found : FoundRows) (entry : Entry Cargo) (ask : Ask) (event : Event) → IsAimed d found ask.payload entry event desk → IsPreparedAt entry.cargo.ticket.cell desk.caller.phase
prepared_at d desk found entry ask event aimed = subst (IsPreparedAt entry.cargo.ticket.cell) (sym aimed.prepared) aimed.cell

-- why no queue took it may be so
pub may_be : (d : Domain) (desk : Desk) (found : FoundRows) → IsDesk d desk → (why : Why) → IsWhy d found why desk → MayBe desk.caller.work.setup why
may_be d desk found is reasons.AllShut reason = tt
may_be d desk found is (reasons.Full queue n) reason = (reason.filled.0, subst (λ (s : Setup). n ≡ capacity_of s queue.0) (sym is.setup) reason.filled.1)
may_be d desk found is (reasons.Halt halt) reason = tt

-- the caller has the seat that was left, whatever came then
seat_left : (op : ℕ) (refusal : Option (Fault × Evidence)) (other step : Step) (new left : CallerState) → EndsAs op refusal other step new left → new.seat ≡ left.seat
seat_left op (Some (fault, evidence)) other (steps.Told stamp) new left ends = ap (λ (c : CallerState). c.seat) ends.made
seat_left op (Some (fault, evidence)) other (steps.Halt halt) new left ends = ap (λ (c : CallerState). c.seat) ends.1
seat_left op (Some (fault, evidence)) other steps.Wait new left ends = absurd ends
seat_left op (Some (fault, evidence)) other steps.Halted new left ends = absurd ends
seat_left op None other step new left ends = ap (λ (c : CallerState). c.seat) ends.1

module _ (d : Domain) (desk : Desk) (found : FoundRows) (entry : Entry Cargo) (is : IsDesk d desk) (its_ask : Ask) (event : Event) (has : HasFound d its_ask.service found desk) (aimed : IsAimed d found its_ask.payload entry event desk) (new : CallerState) (its : IsSeatOf d.cells new.seat)
    (why : Why) (no_block : Bool) (step : Step) (reason : IsWhy d found why desk) (unsent : UnsentAs entry.cargo.ticket.cell why no_block step new desk.caller) where
  same_one : unsent.draft ≡ aimed.draft
  same_one = same_draft unsent.draft aimed.draft desk.caller.phase unsent.was aimed.prepared

  version_is : unsent.draft.version ≡ found.version
  version_is = ap (λ (t : Draft). t.version) same_one ∙ aimed.version

  turn_is : unsent.draft.op ≡ desk.caller.op + 1
  turn_is = ap (λ (t : Draft). t.op) same_one ∙ aimed.turn

  seat_is : IsSeatOf d.cells unsent.seat
  seat_is = subst (IsSeatOf d.cells) (seat_left unsent.draft.op (refused_for unsent.draft why no_block) (other_step why) step new (record desk.caller { seat = unsent.seat; phase = Idle }) unsent.ends) its

  pub unsent_goes : IsRead d desk → Leads d desk (record desk { caller = new })
      × ((ask : Ask) → is_invalid_call d.setup ask ≡ false → no_block ≡ ask.flags.no_block → HasFound d ask.service found desk → FitsOn d (desk.caller.op + 1) ask desk (record desk { caller = new }))
  unsent_goes reads =
      let goes = ends_goes d desk found entry.cargo.ticket.cell is reads (its_ask.service, has) unsent.draft version_is (omega (arith, turn_is)) (ap just_in aimed.prepared) new unsent.seat seat_is unsent.back why no_block step reason unsent.ends in
      (goes.0, λ ask valid same_blocks its_found. subst (λ op. FitsOn d op ask desk (record desk { caller = new })) turn_is (goes.1 ask valid same_blocks its_found))
