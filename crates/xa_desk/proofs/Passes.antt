-- A request that its server passes on.
use Rattle.std.proofs.Common.{◌≡◌, ◌⊎◌, ◌≤◌, ◌<◌, ℕ, zero, suc, ◌+◌, ◌&&◌, ◌==◌, max, Bool, true, false, if◌then◌else◌, List, [], ◌∷◌, length, map, Option, Some, None, Result, Ok, Err, inl, inr, refl, sym, ◌∙◌, ap, subst, arith}
use Rattle.std.specs.Prelude.{IfOk, IfErr, IfSome, IsSomeAnd, OnErr, slice_index_or, nat_lt}
use Rattle.std.specs.List.{All, Contains, find}
use Rattle.std.proofs.lemmas.Bool.{cases_Bool}
use Rattle.std.proofs.lemmas.List.Elements.{All-nil, All-cons, All-append, All-contains, All-contains_itself}
use Rattle.xa_server.specs.xa_types.declared.data.Data.{Data}
use Rattle.xa_server.specs.xa_types.declared.ids.CallerId.{CallerId}
use Rattle.xa_server.specs.xa_types.declared.ids.QueueId.{QueueId}
use Rattle.xa_server.specs.xa_types.declared.ids.RequestId.{RequestId}
use Rattle.xa_server.specs.xa_types.declared.ids.ServerId.{ServerId}
use Rattle.xa_server.specs.xa_types.declared.row.Row.{Row}
use Rattle.xa_server.specs.xa_types.declared.setup.Setup.{Setup}
use Rattle.xa_server.specs.xa_types.declared.stamp.Stamp.{Stamp}
use Rattle.xa_server.specs.xa_types.Found.{FoundRows}
use Rattle.xa_server.specs.xa_types.Kind.{is_accepted, is_sound, kind_of}
use Rattle.xa_server.specs.xa_types.Name.{is_name}
use Rattle.xa_server.specs.xa_types.Rows.{row_for}
use Rattle.xa_server.specs.xa_types.Setup.{queue_of, service_named}
use Rattle.xa_server.specs.xa_events.declared.event.Doing.{Doing}
use Rattle.xa_server.specs.xa_events.declared.event.Event.{Event}
use Rattle.xa_server.specs.xa_events.declared.event.Event.TheVariants.{Accept, Forward}
use Rattle.xa_server.specs.xa_events.declared.event.Outcome.TheVariants.{BadForward}
use Rattle.xa_server.specs.xa_events.declared.event.Taken.{Taken}
use Rattle.xa_server.specs.xa_events.Board.{published, listed_in}
use Rattle.xa_server.specs.xa_events.Caller.{is_conversational, version_of}
use Rattle.xa_server.specs.xa_events.Cases.{RowStands, RowAdmits}
use Rattle.xa_server.specs.xa_events.Homes.{home_of}
use Rattle.xa_server.specs.xa_events.Homes.Home.{BoardHome, QueueHome}
use Rattle.xa_server.specs.xa_events.Local.{Forwardable}
use Rattle.xa_server.specs.xa_events.Request.{is_entry_of}
use Rattle.xa_server.specs.xa_events.Words.{latest}
use Rattle.xa_server.specs.xa_stamp.declared.home.Stamped.{Stamped}
use Rattle.xa_server.specs.xa_lock.declared.makers.Made.{Made}
use Rattle.xa_server.specs.xa_lock.Known.{known as page_of}
use Rattle.xa_server.specs.xa_worker.Seen.{past_in, SawFront}
use Rattle.xa_server.specs.xa_queue.declared.entry.Entry.{Entry}
use Rattle.xa_server.specs.xa_queue.Changes.{IsEntry, next_stamp}
use Rattle.xa_server.proofs.xa_cell.Lists.{decided}
use Rattle.xa_server.specs.xa_held.declared.cargo.Invocation.{Invocation}
use Rattle.xa_server.specs.xa_held.declared.kept_queue.QueueNote.{QueueNote}
use Rattle.xa_server.specs.xa_held.declared.kept_queue.QueueNote.TheVariants.{By}
use Rattle.xa_server.specs.xa_held.Joins.{changes_at}
use Rattle.xa_server.specs.xa_held.Kept.{Kept, IsRight, Brings}
use Rattle.xa_server.specs.xa_held.Notes.{IsOther}
use Rattle.xa_server.specs.xa_held.Steps.{PutAs}
use Rattle.xa_server.specs.xa_held.Visits.{Visits}
use Rattle.xa_server.proofs.xa_held.Front.{note}
use Rattle.xa_server.specs.xa_frame.Spelling.{IsData}
use Rattle.xa_server.specs.xa_worker.declared.work.Halt.{Halt}
use Rattle.xa_server.specs.xa_worker.Work.{seeing}
use Rattle.xa_server.specs.xa_caller.declared.cargo.Filling.{Filling}
use Rattle.xa_server.specs.xa_caller.declared.outcomes.Aimed.{Aimed}
use Rattle.xa_server.specs.xa_caller.declared.outcomes.Aimed.TheVariants as aims
use Rattle.xa_server.specs.xa_caller.Caller.{CallerState, AreRowsOf}
use Rattle.xa_server.specs.xa_caller.Drafts.{Cargo, entry_behind}
use Rattle.xa_server.proofs.xa_caller.Next.{found-all, same_kinds, row-service}
use Rattle.xa_server.proofs.xa_caller.Sound.{sound_is_data}
use Rattle.xa_server.proofs.xa_caller.Unsent.{at-all}
use Rattle.xa_server.specs.declared.closing.Closing.{Closing}
use Rattle.xa_server.specs.declared.forwarding.Forwarding.{Forwarding}
use Rattle.xa_server.specs.declared.forwarding.Forwarding.TheVariants.{On, Failed}
use Rattle.xa_server.specs.declared.slot.ServerSlot.{ServerSlot}
use Rattle.xa_server.specs.Doings.{InHand}
use Rattle.xa_server.specs.Forwarding.{way_of, row_or, hop_in, forwarded_by, GoesBy, Passes, Fails, ForwardsAs, IsOnWay, LeftBy, AimsOn, StaysOnWay, GoesOn}
use Rattle.xa_server.specs.Noting.{HaltsWith}
use Rattle.xa_server.specs.Slot.{Tables, Stands}
use Rattle.xa_desk.specs.Made.{IsMade}
use Rattle.xa_desk.specs.declared.domain.Domain.{Domain}
use Rattle.xa_desk.specs.declared.desk.Desk.{Desk}
use Rattle.xa_desk.specs.Whole.{entries_of}
use Rattle.xa_desk.specs.Desks.{HasGrounds, IsDomain, IsDesk, Leads, board_page, queue_page, page_in}
use Rattle.xa_desk.specs.Found.{SawOnBoard, SawInHandAt, HasFound}
use Rattle.xa_desk.specs.Serving.{IsTaken, IsServing, IsToTell}
use Rattle.xa_desk.specs.Passing.{IsPassing, Leaves, StillPassing, forwarded_to, holding}
use Rattle.xa_desk.proofs.Configured.{row_priority, asked_priority}
use Rattle.xa_desk.proofs.Dying.{serving_on, hand_on}
use Rattle.xa_desk.proofs.Ending.{WasSeen, end_leads, ended_told, halted_leads}
use Rattle.xa_desk.proofs.Leading.{Grew, grew_one}
use Rattle.xa_desk.proofs.Preparing.{passes_found, weaker_front}
use Rattle.xa_desk.proofs.Staying.{found_stays, in_hand_still}
use Rattle.xa_desk.proofs.Stopping.{same_leads}
use Rattle.xa_desk.proofs.Taking.{tables_seeing, hand_seen}
use Rattle.xa_desk.specs.Visit.{IsAt}
use Rattle.xa_desk.proofs.Entering.{setting_here}
use Rattle.xa_server.specs.xa_lock.declared.pass.Page.{Page}
use Rattle.xa_desk.proofs.Visiting.{QueuePass, Step, now_has, other_there, later, looked_leads, noted_leads}

-- ---- which way a forward goes

-- by a row that accepts the data, or it fails, with no version or with the one that was found
abbrev GoesSo : Bool → Bool → Option Row → ℕ → Result Row ℕ → Type 0
GoesSo name sound row found (Ok by) = (name ≡ true) × (sound ≡ true) × (row ≡ Some by)
GoesSo name sound row found (Err version) = (version ≡ 0) ⊎ ((name ≡ true) × (version ≡ found))

goes_so : (name sound few : Bool) (row : Option Row) (found : ℕ) → GoesSo name sound row found (if name && sound && few then row_or found row else Err 0)
goes_so true true true (Some row) found = (refl, refl, refl)
goes_so true true true None found = inr (refl, refl)
goes_so true true false row found = inl refl
goes_so true false few row found = inl refl
goes_so false sound few row found = inl refl

-- how a request was sent last says that it may be forwarded once more
may_forward : (request : RequestId) (what : Invocation) (o : Option Event) → IsSomeAnd o (Brings request what) → IsSomeAnd o (Forwardable (what.hop + 1))
may_forward request what None is = is
may_forward request what (Some e) is = by e is
  where
    by : (e : Event) → Brings request what e → Forwardable (what.hop + 1) e
    by (Accept a) is = (ap is_conversational is.3, ap (λ n. n + 1) is.5)
    by (Forward f) is = ap (λ n. n + 1) is.4
    by _ is = absurd is

-- what is weaker was seen too
saw_weaker : (d : Domain) (server : ℕ) (desk : Desk) (P Q : List Event → Type 0) → ((past : List Event) → P past → Q past) → SawInHandAt d server desk P → SawInHandAt d server desk Q
saw_weaker d server desk P Q less saw whole on stamp later = let it = saw whole on stamp later in record { front = it.front; stands = it.stands; before = it.before; shows = (λ news. less (past_in it.front) (it.shows.0 news), it.shows.1) }

-- ---- a request that is out

module _ {d : Domain} {queue : ℕ} {desk : Desk} {slot : ServerSlot} (base : ServerSlot) (serving : IsServing d queue base desk) (server : slot.server ≡ base.server) (gone : slot.gone ≡ base.gone) (service : List ℕ) (has : HasFound d service desk.reader.found desk) where
  passing_by : (row : Row) → Contains desk.reader.found.rows row → (hop : ℕ) (payload : Data) (was entry : Entry Cargo) (event : Event) → GoesBy desk.reader.found.version row desk.caller.priority hop payload was entry event slot → IsOnWay entry event slot desk.caller
      → IsRight d.cells was → IsData payload → is_accepted d.setup row.accepts (kind_of payload) ≡ true → SawInHandAt d base.server.0 desk (λ past. IsSomeAnd (latest (is_entry_of was.request) past) (Forwardable hop)) → IsPassing d queue entry event slot desk
  passing_by row among hop payload was entry event goes way right is_data accepts sent =
      let anew : entry_behind hop was.request row desk.caller.priority payload was.cargo.ticket ≡ entry = sym goes.entered in
      let v : ℕ = desk.reader.found.version in
      record {
        serving = serving_on d queue desk base (holding entry slot) desk.caller serving (record { tables = way.tables; hand = subst (λ (doing : Doing). InHand doing (Some entry)) (sym way.busy) refl }) refl server gone
            (subst (IsRight d.cells) anew (record { table = right.table; opening = right.opening; names = right.names; request = right.request; spelled = is_data }));
        way = way;
        service = service;
        found = has;
        row = row;
        among = among;
        accepts = subst (λ (e : Entry Cargo). is_accepted d.setup row.accepts (kind_of e.cargo.invocation.payload) ≡ true) anew accepts;
        entry_is = subst (λ (e : Entry Cargo). e ≡ entry_behind e.cargo.invocation.hop e.request row desk.caller.priority e.cargo.invocation.payload e.cargo.ticket) anew refl;
        event_is = subst (λ (e : Entry Cargo). event ≡ Forward (forwarded_by slot e.request e.cargo.invocation.hop v row desk.caller.priority e.cargo.invocation.payload)) anew goes.forwards;
        sent = subst (λ (s : ServerId). SawInHandAt d s.0 desk (λ past. IsSomeAnd (latest (is_entry_of entry.request) past) (Forwardable entry.cargo.invocation.hop))) (sym server)
            (subst (λ (e : Entry Cargo). SawInHandAt d base.server.0 desk (λ past. IsSomeAnd (latest (is_entry_of e.request) past) (Forwardable e.cargo.invocation.hop))) anew sent);
      }

-- ---- a forward that failed

-- the version that was found was seen
found_seen : (d : Domain) (service : List ℕ) (found : FoundRows) (desk : Desk) → HasFound d service found desk → (version : ℕ) → version ≡ found.version → WasSeen d desk (BadForward version)
found_seen d service found desk has version is named some =
    let same : found.version ≡ named = sym is ∙ by_version version named some in (
      subst (λ n. n ≤ published (past_in (changes_at (board_page desk).seen))) same has.seen,
      λ whole on stamp less. weaker_front (entries_of whole BoardHome) stamp (λ past. (found.version ≤ published past) × (listed_in d.setup past found.version service false ≡ found.rows)) (λ past. named ≤ published past) (λ past shows. subst (λ n. n ≤ published past) same shows.0) (has.listed whole on stamp less),
    )
  where
    by_version : (version named : ℕ) → version_of (BadForward version) ≡ Some named → version ≡ named
    by_version version named some = elim (cases_Bool (version == 0)) [
      | inl none ↦ absurd (cc (sym (ap (λ b. if b then None else Some version) none) ∙ some))
      | inr above ↦ cc (sym (ap (λ b. if b then None else Some version) above) ∙ some)
    ]

module _ (d : Domain) (queue : ℕ) (desk : Desk) (slot slot' : ServerSlot) (version : ℕ) (closing : Closing) (new : CallerState) (fails : Fails version closing slot' slot new desk.caller) where
  fail_leads : IsDesk d desk → IsServing d queue slot desk → WasSeen d desk (BadForward version) → Leads d desk (record desk { caller = new })
  fail_leads is serving seen = end_leads d queue desk slot fails.finishes.ended (BadForward version) fails.finishes.stamp (max desk.caller.work.room 3) new is serving seen fails.finishes.ends fails.rest

  fail_serves : IsServing d queue slot desk → Stands slot' new.work → IsServing d queue slot' (record desk { caller = new })
  fail_serves serving stands =
      let left = fails.finishes.left in
      let ended = fails.finishes.ends.left in
      serving_on d queue desk slot slot' new serving stands (ap (λ (c : CallerState). c.phase) fails.rest) (ap (λ (s : ServerSlot). s.server) left ∙ ap (λ (s : ServerSlot). s.server) ended) (ap (λ (s : ServerSlot). s.gone) left ∙ ap (λ (s : ServerSlot). s.gone) ended)
      (hand_on d slot.hand slot'.hand (inl (ap (λ (s : ServerSlot). s.hand) left)) serving.hand)

-- at a halt nothing was noted
halt_leads : (d : Domain) (desk : Desk) (halt : Halt) (new : CallerState) → new ≡ record desk.caller { work = new.work } → IsDesk d desk → HaltsWith 3 new.work desk.caller.work halt → Leads d desk (record desk { caller = new })
halt_leads d desk halt new same is halted = subst (λ (c : CallerState). Leads d desk (record desk { caller = c })) (sym same) (halted_leads d desk 3 new.work halt is halted)

-- ---- a step at any queue

module _ {d : Domain} {at k : ℕ} {old new : Desk} {p p' : QueuePass} {last : Stamp} (step : Step d at k old new p p' last) where
  -- what holds of all that the worker noted at a queue does still
  others_still : {more : List Made} {How : Kept Filling → Kept Filling → Type 0} → Visits (page_of p) (page_of p') more How → (P : QueueNote Filling → Type 0) → All P (map (note {A = Filling}) more) → (queue : ℕ) → All P (queue_page old queue).own → All P (queue_page new queue).own
  others_still {more} visits P noted zero all = all
  others_still {more} visits P noted (suc j) all = elim (decided j k) [
    | inl e ↦
        let before : All P (page_of p).own = subst (λ o. All P (page_in o).own) (ap (λ i. slice_index_or old.queues.items i None) e ∙ step.has.there) all in
        subst (λ o. All P (page_in o).own) (sym (ap (λ i. slice_index_or new.queues.items i None) e ∙ (now_has step).there))
        (subst (All P) (sym {A = List (QueueNote Filling)} visits.own) (All-append P (page_of p).own (map (note {A = Filling}) more) before noted))
    | inr apart ↦ subst (λ o. All P (page_in o).own) (sym (other_there step j apart)) all
  ]

-- ---- forward

module _ (d : Domain) (domain : IsDomain d) (desk : Desk) (is : IsDesk d desk) (service : List ℕ) (payload : Data) (found : is_name service ≡ true → HasFound d service desk.reader.found desk) (slot slot' : ServerSlot) (new : CallerState) where
  abbrev Found : FoundRows
  Found = desk.reader.found

  abbrev accepting : Row → Bool
  accepting row = is_accepted d.setup row.accepts (kind_of payload)

  abbrev Way : Result Row ℕ
  Way = way_of d.setup service payload (hop_in slot.hand) Found

  abbrev So : Result Row ℕ → Type 0
  So way = GoesSo (is_name service) (is_sound d.setup payload) (find accepting Found.rows) Found.version way

  so : So Way
  so = goes_so (is_name service) (is_sound d.setup payload) (nat_lt (hop_in slot.hand) 32) (find accepting Found.rows) Found.version

  seen : (version : ℕ) → So (Err version) → WasSeen d desk (BadForward version)
  seen version (inl none) = λ named some. absurd (cc (sym (ap (λ n. version_of (BadForward n)) none) ∙ some))
  seen version (inr its) = found_seen d service Found desk (found its.0) version its.1

  -- the request is out
  module _ (queue : ℕ) (t : Taken) (serving : IsServing d queue slot desk) (taken : IfSome slot.hand (IsTaken d queue t desk)) (row : Row) (by : So (Ok row)) (entry : Entry Cargo) (event : Event) (passes : Passes Found.version row payload entry event slot' slot new desk.caller) where
    passes_on : IsOnWay entry event slot' new → IsPassing d queue entry event slot' (record desk { caller = new })
    passes_on way =
        let held = passes.held in
        let hop : ℕ = held.cargo.invocation.hop + 1 in
        let left = passes.left in
        let goes = passes.goes in
        let right : IsRight d.cells held = subst (λ h. IfSome h (IsRight d.cells)) passes.in_hand serving.hand in
        let its : IsTaken d queue t desk held = subst (λ h. IfSome h (IsTaken d queue t desk)) passes.in_hand taken in
        subst (λ (c : CallerState). IsPassing d queue entry event slot' (record desk { caller = c })) (sym passes.same)
        (passing_by slot serving (ap (λ (s : ServerSlot). s.server) left) (ap (λ (s : ServerSlot). s.gone) left) service (found by.0) row (found-all accepting (Contains Found.rows) Found.rows row by.2 (All-contains_itself Found.rows)) hop payload held entry event
        (record { entered = goes.entered; forwards = goes.forwards ∙ ap (λ (s : ServerSlot). Forward (forwarded_by s held.request hop Found.version row desk.caller.priority payload)) (sym left) }) (subst (IsOnWay entry event slot') passes.same way)
        right (sound_is_data d.setup payload domain.configured by.1) (passes_found accepting Found.rows row by.2)
        (saw_weaker d slot.server.0 desk (λ past. IsSomeAnd (latest (is_entry_of held.request) past) (Brings held.request held.cargo.invocation)) (λ past. IsSomeAnd (latest (is_entry_of held.request) past) (Forwardable hop))
        (λ past. may_forward held.request held.cargo.invocation (latest (is_entry_of held.request) past)) (hand_seen is serving its)))

  ways_lead : (queue : ℕ) → IsServing d queue slot desk → (way : Result Row ℕ) → So way → (forwarding : Forwarding) → ForwardsAs Found.version payload way forwarding slot' slot new desk.caller → Leads d desk (record desk { caller = new })
  ways_lead queue serving (Ok row) by (On entry event) passes = subst (λ (c : CallerState). Leads d desk (record desk { caller = c })) (sym passes.same) (same_leads d desk is)
  ways_lead queue serving (Ok row) by (Failed closing) none = absurd none
  ways_lead queue serving (Err version) by (On entry event) none = absurd none
  ways_lead queue serving (Err version) by (Failed closing) fails = fail_leads d queue desk slot slot' version closing new fails is serving (seen version by)

  ways_leave : (queue : ℕ) → IsServing d queue slot desk → (t : Taken) → IfSome slot.hand (IsTaken d queue t desk) → (way : Result Row ℕ) → So way → (forwarding : Forwarding) → ForwardsAs Found.version payload way forwarding slot' slot new desk.caller → LeftBy (Ok forwarding) slot' new
      → Leaves d queue forwarding slot' (record desk { caller = new })
  ways_leave queue serving t taken (Ok row) by (On entry event) passes way = passes_on queue t serving taken row by entry event passes way
  ways_leave queue serving t taken (Ok row) by (Failed closing) none way = absurd none
  ways_leave queue serving t taken (Err version) by (On entry event) none way = absurd none
  ways_leave queue serving t taken (Err version) by (Failed closing) fails stands = (fail_serves d queue desk slot slot' version closing new fails serving stands, ended_told d desk slot slot' (BadForward version) closing new serving.hand fails.finishes)

  abbrev Stayed : Result Forwarding Halt → Type 0
  Stayed r = OnErr r ((slot' ≡ slot) × (new ≡ record desk.caller { work = new.work }))

  abbrev DidSo : Result Forwarding Halt → Type 0
  DidSo r = IfOk r (λ forwarding. ForwardsAs Found.version payload Way forwarding slot' slot new desk.caller)

  pub forward_leads : (queue : ℕ) → IsServing d queue slot desk → (r : Result Forwarding Halt) → DidSo r → IfErr r (HaltsWith 3 new.work desk.caller.work) → Stayed r → Leads d desk (record desk { caller = new })
  forward_leads queue serving (Ok forwarding) did halted kept = ways_lead queue serving Way so forwarding did
  forward_leads queue serving (Err halt) did halted kept = halt_leads d desk halt new kept.1 is halted

  pub forward_leaves : (queue : ℕ) → IsServing d queue slot desk → (t : Taken) → IfSome slot.hand (IsTaken d queue t desk) → (r : Result Forwarding Halt) → DidSo r → LeftBy r slot' new → IfOk r (λ forwarding. Leaves d queue forwarding slot' (record desk { caller = new }))
  forward_leaves queue serving t taken (Ok forwarding) did left = ways_leave queue serving t taken Way so forwarding did left
  forward_leaves queue serving t taken (Err halt) did left = tt

  -- its seat stays
  pub forward_seat : (r : Result Forwarding Halt) → DidSo r → Stayed r → new.seat ≡ desk.caller.seat
  forward_seat (Ok forwarding) did stayed = by Way forwarding did
    where
      by : (way : Result Row ℕ) (forwarding : Forwarding) → ForwardsAs Found.version payload way forwarding slot' slot new desk.caller → new.seat ≡ desk.caller.seat
      by (Ok row) (On entry event) passes = ap (λ (c : CallerState). c.seat) passes.same
      by (Ok row) (Failed closing) none = absurd none
      by (Err version) (On entry event) none = absurd none
      by (Err version) (Failed closing) fails = ap (λ (c : CallerState). c.seat) fails.rest
  forward_seat (Err halt) did stayed = ap (λ (c : CallerState). c.seat) stayed.1

-- ---- pass

module _ {d : Domain} {queue : ℕ} {entry : Entry Cargo} {event : Event} {slot : ServerSlot} {old : Desk} (passing : IsPassing d queue entry event slot old) where
  abbrev Version : ℕ
  Version = old.reader.found.version

  abbrev Its : Row
  Its = passing.row

  abbrev IsRow : Row → Type 0
  IsRow row = row ≡ row_for d.setup passing.service row.queue.0 row.routine

  its_row : IsRow Its
  its_row = All-contains IsRow old.reader.found.rows Its passing.found.rows passing.among

  to_is : forwarded_to event ≡ Its.queue.0
  to_is = ap forwarded_to passing.event_is

  -- the queue is one of the domain
  pub place_in : (0 < forwarded_to event) × (forwarded_to event < length d.queues.items + 1)
  place_in = let InPlace : ℕ → Type 0 = λ n. (0 < n) × (n < length d.queues.items + 1) in subst InPlace (sym to_is) (All-contains (λ (row : Row). InPlace row.queue.0) old.reader.found.rows Its passing.found.places passing.among)

  pub in_range : IsDomain d → (1 ≤ entry.priority) × (entry.priority ≤ 100)
  in_range domain = subst (λ (e : Entry Cargo). (1 ≤ e.priority) × (e.priority ≤ 100)) (sym passing.entry_is) (asked_priority Its.priority old.caller.priority (row_priority d.setup domain.configured passing.service Its its_row))

  -- at the queue that was found there the entry may be put
  pub put_here : {k : ℕ} {there : Kept Filling} {page : Page (QueueNote Filling)} {passes : List (Option QueuePass)} → IsAt d (forwarded_to event) k old there page passes → IsEntry there.queue.id entry event × IsRight there.cells entry
  put_here {k} {there} at =
      let here = setting_here at in
      let wrap : ℕ → QueueId = λ n. record { 0 = n } in
      let id : Its.queue ≡ there.queue.id = ap wrap (sym to_is ∙ sym here.id) in
      (subst (IsEntry there.queue.id entry) (sym passing.event_is) (refl, id, ap (λ (e : Entry Cargo). e.priority) (sym passing.entry_is)), subst (λ cells. IsRight cells entry) (sym here.cells) passing.serving.hand)

  module _ {k : ℕ} {new : Desk} {p p' : QueuePass} {last : Stamp} (step : Step d (forwarded_to event) k old new p p' last) where
    -- the queue took it
    module _ (seen : Stamp) (saw : seen ≡ old.caller.work.stamp) (maker : CallerId) (stamp : Stamp) (put : PutAs (Visits (page_of p) (page_of p')) seen maker event entry (Ok stamp)) (slot' : ServerSlot) (goes : GoesOn stamp Version event slot' slot new.caller old.caller) where
      next : stamp ≡ next_stamp old.caller.work.stamp put.old.queue
      next = put.how.1.next ∙ ap (λ (s : Stamp). next_stamp s put.old.queue) saw

      pub more : old.caller.work.stamp.0 < stamp.0
      more = later step maker stamp event put next

      pub passed_leads : Leads d old new
      passed_leads =
          let found = passing.found in
          let payload : Data = entry.cargo.invocation.payload in
          let above = more in
          let low = found.seen in
          let least = ap (λ (c : CallerState). c.least) goes.noted in
          let x : Stamped = record { stamp = stamp; event = event } in
          let grew : Grew old.caller.work new.caller.work (x ∷ []) = grew_one old.caller.work new.caller.work old.caller.work.room x (ap (λ (c : CallerState). c.work) goes.noted) above (subst IsMade (sym passing.event_is) tt) in
          noted_leads step maker stamp event put next grew (ap (home_of d.setup d.clients) passing.event_is ∙ ap QueueHome (sym to_is)) (ap (λ (c : CallerState). c.seat) goes.noted) (ap (λ (c : CallerState). c.work.stamp) goes.noted) (omega (arith, least, low))
          (λ whole on. subst (HasGrounds d whole old.caller.work.id.0 old.caller.work.own stamp) (sym passing.event_is) (record {
            saw = record {
              row = subst (λ (name : List ℕ). SawFront (entries_of whole BoardHome) stamp (RowStands d.setup Version name Its.queue.0 (RowAdmits d.setup false Its.routine payload))) (sym (row-service d.setup passing.service Its its_row))
                  (All-contains (λ (row : Row). is_accepted d.setup row.accepts (kind_of payload) ≡ true → SawOnBoard d old (RowStands d.setup Version passing.service row.queue.0 (RowAdmits d.setup false row.routine payload))) old.reader.found.rows Its (found.stand payload) passing.among passing.accepts whole on stamp above);
              sent = passing.sent whole on stamp above;
            };
            told = tt;
            clears = tt;
          }))

      pub passed_serves : Stands slot' new.caller.work → IsServing d queue slot' new
      passed_serves stands =
          let serving = passing.serving in
          let its : QueueNote Filling → Type 0 = IsOther slot.server in
          let server = ap (λ (s : ServerSlot). s.server) goes.left in
          let made : Made = record { maker = maker; noted = record { stamp = stamp; event = event } } in
          record {
            stands = stands;
            idle = ap (λ (c : CallerState). c.phase) goes.noted ∙ serving.idle;
            its = ap (λ s. queue_of d.setup s.0) server ∙ serving.its;
            some = serving.some;
            least = serving.least;
            left = λ left.
                subst (λ s. All (IsOther s) (queue_page new queue).own) (sym server)
                (others_still step put its (All-cons its (By made) [] (subst (λ (e : Event). its (By (record made { noted = record { stamp = stamp; event = e } }))) (sym passing.event_is) refl) (All-nil its)) queue (serving.left (sym (ap (λ (s : ServerSlot). s.gone) goes.left) ∙ left)));
            hand = subst (λ h. IfSome h (IsRight d.cells)) (sym (ap (λ (s : ServerSlot). s.hand) goes.left ∙ passing.way.out)) tt;
          }

    -- it didn't
    module _ {How : Kept Filling → Kept Filling → Type 0} (visits : Visits (page_of p) (page_of p') [] How) (caller : new.caller ≡ record old.caller { work = seeing last old.caller.work }) (reader : new.reader.found ≡ old.reader.found) where
      pub still_passing : IsPassing d queue entry event slot new
      still_passing =
          let leads = looked_leads step visits caller in
          let serving = passing.serving in
          let way = passing.way in
          let priority : new.caller.priority ≡ old.caller.priority = ap (λ (c : CallerState). c.priority) caller in
          let recent = passing.found.recent in
          let least = ap (λ (c : CallerState). c.least) caller in
          let tables : Tables slot (seeing last old.caller.work) = tables_seeing slot last old.caller.work way.tables in
          record {
            serving = record {
              stands = subst (λ (c : CallerState). Stands (holding entry slot) c.work) (sym caller) (record { tables = tables; hand = serving.stands.hand });
              idle = ap (λ (c : CallerState). c.phase) caller ∙ serving.idle;
              its = serving.its;
              some = serving.some;
              least = serving.least;
              left = λ left. others_still step visits (IsOther slot.server) (All-nil (IsOther slot.server)) queue (serving.left left);
              hand = serving.hand;
            };
            way = subst (IsOnWay entry event slot) (sym caller) (record { tables = tables; busy = way.busy; out = way.out; f = way.f; is = way.is; brings = way.brings; server = way.server; generation = way.generation; few = way.few; sound = way.sound; recent = way.recent; priority = way.priority });
            service = passing.service;
            found = subst (λ (found : FoundRows). HasFound d passing.service found new) (sym reader) (found_stays d old new leads passing.service old.reader.found step.board (omega (arith, recent, least)) passing.found);
            row = Its;
            among = subst (λ (found : FoundRows). Contains found.rows Its) (sym reader) passing.among;
            accepts = passing.accepts;
            entry_is = passing.entry_is ∙ ap (λ asked. entry_behind entry.cargo.invocation.hop entry.request Its asked entry.cargo.invocation.payload entry.cargo.ticket) (sym priority);
            event_is = passing.event_is ∙ ap (λ (found : FoundRows). Forward (forwarded_by slot entry.request entry.cargo.invocation.hop found.version Its old.caller.priority entry.cargo.invocation.payload)) (sym reader)
                ∙ ap (λ asked. Forward (forwarded_by slot entry.request entry.cargo.invocation.hop new.reader.found.version Its asked entry.cargo.invocation.payload)) (sym priority);
            sent = in_hand_still d old new leads slot.server.0 (λ past. IsSomeAnd (latest (is_entry_of entry.request) past) (Forwardable entry.cargo.invocation.hop)) (ap (λ (c : CallerState). c.work.own) caller) passing.sent;
          }

  -- ---- pass again

  module _ (is : IsDesk d old) where
    pub rows_are : AreRowsOf old.caller.work.setup passing.service old.reader.found.rows
    rows_are = subst (λ (s : Setup). AreRowsOf s passing.service old.reader.found.rows) (sym is.setup) passing.found.rows

    pub again : (attempt : ℕ) (r : Aimed) → AimsOn Version old.caller.priority entry old.reader.found.rows attempt slot r → StaysOnWay event slot old.caller r → StillPassing d queue event r slot old
    again attempt (aims.At aimed anew) aimed_so way =
        let payload : Data = entry.cargo.invocation.payload in
        let row : Row = aimed_so.0 in
        let among : Contains old.reader.found.rows row = at-all (Contains old.reader.found.rows) old.reader.found.rows attempt row aimed_so.1 (All-contains_itself old.reader.found.rows) in
        let kind : (r : Row) → Contains old.reader.found.rows r → is_accepted d.setup r.accepts (kind_of payload) ≡ is_accepted d.setup (row_for d.setup passing.service 0 []).accepts (kind_of payload) =
        λ r here. same_kinds d.setup passing.service (service_named d.setup passing.service) (kind_of payload) r (All-contains IsRow old.reader.found.rows r passing.found.rows here) in
        passing_by (holding entry slot) passing.serving refl refl passing.service passing.found row among entry.cargo.invocation.hop payload entry aimed anew aimed_so.2 way passing.serving.hand passing.serving.hand.spelled (kind row among ∙ sym (kind Its passing.among) ∙ passing.accepts) passing.sent
    again attempt (aims.Past back) aimed_so way = subst (λ (e : Entry Cargo). IsPassing d queue e event slot old) (sym aimed_so.1) passing
    again attempt (aims.NoMemory back) aimed_so way = subst (λ (e : Entry Cargo). IsPassing d queue e event slot old) (sym aimed_so) passing

    -- ---- fail to pass

    module _ (slot' : ServerSlot) (new : CallerState) where
      abbrev FailsSo : Result Closing Halt → Type 0
      FailsSo r = IfOk r (λ closing. Fails Version closing slot' (holding entry slot) new old.caller)

      abbrev Stays : Result Closing Halt → Type 0
      Stays r = OnErr r ((slot' ≡ holding entry slot) × (new ≡ record old.caller { work = new.work }))

      pub refused_leads : (r : Result Closing Halt) → FailsSo r → IfErr r (HaltsWith 3 new.work old.caller.work) → Stays r → Leads d old (record old { caller = new })
      refused_leads (Ok closing) fails halted stays = fail_leads d queue old (holding entry slot) slot' Version closing new fails is passing.serving (found_seen d passing.service old.reader.found old passing.found Version refl)
      refused_leads (Err halt) fails halted stays = halt_leads d old halt new stays.1 is halted

      pub refused_told : (r : Result Closing Halt) → FailsSo r → IfOk r (IsToTell d (record old { caller = new }))
      refused_told (Ok closing) fails = ended_told d old (holding entry slot) slot' (BadForward Version) closing new passing.serving.hand fails.finishes
      refused_told (Err halt) fails = tt
