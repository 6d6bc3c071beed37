-- A server that is done with its request, or passes it on.
use Rattle.std.proofs.Common.{◌≡◌, ◌<◌, ℕ, ◌+◌, Bool, true, false, if◌then◌else◌, List, [], ◌∷◌, ◌++◌, Option, Some, None, Result, Ok, Err, refl, sym, ◌∙◌, ap, subst, append-nil, arith}
use Rattle.std.specs.Prelude.{IfSome, nat_lt, ◌&&◌}
use Rattle.std.specs.List.{find}
use Rattle.std.proofs.lemmas.List.Elements.{All-contains}
use Rattle.xa_desk.specs.xa_types.declared.data.Data.{Data}
use Rattle.xa_desk.specs.xa_types.declared.ids.Generation.{Generation}
use Rattle.xa_desk.specs.xa_types.declared.row.Row.{Row}
use Rattle.xa_desk.specs.xa_types.declared.stamp.Stamp.{Stamp}
use Rattle.xa_desk.specs.xa_types.declared.setup.Setup.{Setup}
use Rattle.xa_desk.specs.xa_types.Found.{FoundRows}
use Rattle.xa_desk.specs.xa_types.Kind.{is_accepted, kind_of, is_sound}
use Rattle.xa_desk.specs.xa_types.Name.{is_name}
use Rattle.xa_desk.specs.xa_types.Rows.{row_for}
use Rattle.xa_desk.specs.xa_events.declared.event.Event.{Event}
use Rattle.xa_desk.specs.xa_events.declared.event.Event.TheVariants.{Forward, End}
use Rattle.xa_desk.specs.xa_events.declared.event.Ended.{Ended}
use Rattle.xa_desk.specs.xa_events.declared.event.Taken.{Taken}
use Rattle.xa_desk.specs.xa_events.declared.event.Doing.TheVariants.{Idle}
use Rattle.xa_desk.specs.xa_events.declared.event.Outcome.{Outcome}
use Rattle.xa_desk.specs.xa_events.declared.event.Outcome.TheVariants.{BadForward}
use Rattle.xa_desk.specs.xa_events.Server.{after_end}
use Rattle.xa_desk.specs.xa_pipe.Following.{is_of}
use Rattle.xa_desk.specs.xa_pipe.Life.{Reasons, IsForwarded}
use Rattle.xa_desk.specs.xa_stamp.declared.home.Stamped.{Stamped}
use Rattle.xa_desk.specs.xa_board.declared.reader.Reader.{Reader}
use Rattle.xa_desk.specs.xa_queue.declared.entry.Entry.{Entry}
use Rattle.xa_desk.specs.xa_queue.declared.queue.Refusal.{Refusal}
use Rattle.xa_desk.specs.xa_queue.declared.queue.Refusal.TheVariants as refusals
use Rattle.xa_desk.specs.xa_worker.Work.{WorkState}
use Rattle.xa_desk.specs.xa_worker.declared.work.Halt.{Halt}
use Rattle.xa_desk.specs.xa_caller.Caller.{CallerState, AreRowsOf}
use Rattle.xa_desk.specs.xa_caller.Drafts.{Cargo}
use Rattle.xa_desk.proofs.xa_caller.Next.{row-service}
use Rattle.xa_desk.specs.xa_server.declared.closing.Closing.{Closing}
use Rattle.xa_desk.specs.xa_server.declared.slot.ServerSlot.{ServerSlot}
use Rattle.xa_desk.specs.xa_server.Changes.{Finishes}
use Rattle.xa_desk.specs.xa_server.Doings.{life_in}
use Rattle.xa_desk.specs.xa_server.declared.forwarding.Forwarding.TheVariants.{On, Failed}
use Rattle.xa_desk.specs.xa_server.Forwarding.{Fails, GoesOn, ForwardsAs, Passes as PassesOut, forwarded_by, row_or, way_of, hop_in}
use Rattle.xa_desk.specs.xa_server.Noting.{HaltsWith}
use Rattle.xa_desk.specs.declared.domain.Domain.{Domain}
use Rattle.xa_desk.specs.declared.desk.Desk.{Desk}
use Rattle.xa_desk.specs.Desks.{IsDesk, Leads}
use Rattle.xa_desk.specs.Found.{HasFound, ShowsWhy}
use Rattle.xa_desk.specs.Halting.{IsHaltAt}
use Rattle.xa_desk.specs.Passing.{IsPassing, holding}
use Rattle.xa_desk.specs.Serving.{IsServing, IsTaken, IsToTell, Sees}
use Rattle.xa_desk.proofs.Staying.{found_stays}
use Rattle.xa_desk.proofs.Stopping.{same_leads}
use Rattle.xa_desk.proofs.Taking.{hand_seen}
use Rattle.xa_server_worker.specs.declared.passing.Tried.{Tried}
use Rattle.xa_server_worker.specs.declared.passing.Tried.TheVariants as tries
use Rattle.xa_server_worker.specs.Reasons.{ShowsReason}
use Rattle.xa_server_worker.specs.Passing.{TookNothing, IsBack, IsDoneBy, Passes, Keeps, TriedAs, PassesAs, its_queue, halt_by}
use Rattle.xa_server_worker.specs.Steps.{Steps, Serves}
use Rattle.xa_server_worker.proofs.Deaths.{is_its}
use Rattle.xa_server_worker.proofs.Lasting.{number_of}
use Rattle.xa_server_worker.proofs.Reasons.{shows_reason, shut_shown, way_shown}
use Rattle.xa_server_worker.proofs.Stepping.{still_steps, still_serves, one_steps, noted_steps, seen_steps, halted_steps, halted_own, halted_at, steps_trans}

-- ---- an event by which the server is done

module _ {d : Domain} {queue : ℕ} {slot slot' : ServerSlot} {old new : Desk} where
  pub ended_done : (outcome : Outcome) (closing : Closing) → Leads d old new → old.caller.work.clients + slot.server.0 ≡ old.caller.work.id.0 → IsServing d queue slot' new → new.caller.seat ≡ old.caller.seat → ((g : Generation) → after_end outcome g ≡ Idle g)
      → (ends : Finishes outcome closing slot' slot new.caller.work old.caller.work) → (e : Ended) × IsDoneBy d queue (End e) slot slot' old new × (e.outcome ≡ outcome) × (e.server ≡ slot.server) × (e.request ≡ ends.ends.entry.request) × (old.caller.work.stamp.0 < ends.stamp.0)
      × (new.caller.work.own ≡ old.caller.work.own ++ record { stamp = ends.stamp; event = End e } ∷ [])
  ended_done outcome closing leads number serving seat idle finishes =
      let ends = finishes.ends in
      let e : Ended = record { request = ends.entry.request; server = slot.server; generation = life_in slot.doing; outcome = outcome } in (
        e,
        record {
          serves = record {
            steps = noted_steps finishes.stamp (End e) _ leads number ends.noted;
            serving = serving;
            server = ap (λ (s : ServerSlot). s.server) finishes.left ∙ ap (λ (s : ServerSlot). s.server) ends.left;
            made = ap (λ (s : ServerSlot). s.made) finishes.left ∙ ap (λ (s : ServerSlot). s.made) ends.left;
            gone = ap (λ (s : ServerSlot). s.gone) finishes.left ∙ ap (λ (s : ServerSlot). s.gone) ends.left;
          };
          its = is_its slot.server.0 (life_in slot.doing).0 slot.server.0 (life_in slot.doing).0 refl refl;
          idle = ap (λ (s : ServerSlot). s.doing) finishes.left ∙ ap (λ (s : ServerSlot). s.doing) ends.left ∙ idle (life_in slot.doing);
          stamp = finishes.stamp;
          noted = ap (λ (w : WorkState). w.own) ends.noted.made;
          seat = seat;
        },
        refl,
        refl,
        refl,
        (let next = ends.noted.next in omega (arith, next)),
        ap (λ (w : WorkState). w.own) ends.noted.made,
      )

  -- the request went on
  pub forward_done : (entry : Entry Cargo) (event : Event) (stamp : Stamp) (version : ℕ) → IsPassing d queue entry event slot old → Leads d old new → IsServing d queue slot' new → GoesOn stamp version event slot' slot new.caller old.caller → IsDoneBy d queue event slot slot' old new
  forward_done entry event stamp version passing leads serving goes =
      let number = number_of passing.serving in
      let f = forwarded_by slot entry.request entry.cargo.invocation.hop old.reader.found.version passing.row old.caller.priority entry.cargo.invocation.payload in
      let work = ap (λ (c : CallerState). c.work) goes.noted in
      subst (λ (e : Event). IsDoneBy d queue e slot slot' old new) (sym passing.event_is) (record {
        serves = record {
          steps = one_steps stamp (Forward f) old.caller.work.room leads number (work ∙ ap (λ (e : Event). record old.caller.work { stamp = stamp; own = old.caller.work.own ++ record { stamp = stamp; event = e } ∷ [] }) passing.event_is);
          serving = serving;
          server = ap (λ (s : ServerSlot). s.server) goes.left;
          made = ap (λ (s : ServerSlot). s.made) goes.left;
          gone = ap (λ (s : ServerSlot). s.gone) goes.left;
        };
        its = is_its slot.server.0 (life_in slot.doing).0 slot.server.0 (life_in slot.doing).0 refl refl;
        idle = ap (λ (s : ServerSlot). s.doing) goes.left;
        stamp = stamp;
        noted = ap (λ (w : WorkState). w.own) work ∙ ap (λ (e : Event). old.caller.work.own ++ record { stamp = stamp; event = e } ∷ []) passing.event_is;
        seat = ap (λ (c : CallerState). c.seat) goes.noted;
      })

-- as the forward says
pub forward_by : {d : Domain} {queue : ℕ} {slot : ServerSlot} {old : Desk} (Why : Reasons) (own : List Event) (entry : Entry Cargo) (event : Event) (service : List ℕ) → IsPassing d queue entry event slot old → AreRowsOf d.setup service old.reader.found.rows → IsForwarded Why service entry.cargo.invocation.payload event own
forward_by {d} {queue} {slot} {old} Why own entry event service passing rows =
    let row : Row = passing.row in
    subst (λ (e : Event). IsForwarded Why service entry.cargo.invocation.payload e own) (sym passing.event_is)
    (row-service d.setup service row (All-contains (λ (r : Row). r ≡ row_for d.setup service r.queue.0 r.routine) old.reader.found.rows row rows passing.among), refl)

-- ---- nothing was noted

module _ {d : Domain} where
  pub back_none : (desk : Desk) → IsDesk d desk → IsBack d desk desk
  back_none desk is = record { steps = still_steps (same_leads d desk is) refl refl refl; own = refl; seat = refl; reader = refl; found = λ service has. has }

  pub back_seen : {old new : Desk} → Leads d old new → Sees old.caller new.caller → new.board ≡ old.board → new.reader ≡ old.reader → IsBack d old new
  back_seen {old} {new} leads sees board reader = record {
    steps = seen_steps leads sees;
    own = ap (λ (c : CallerState). c.work.own) sees.1;
    seat = ap (λ (c : CallerState). c.seat) sees.1;
    reader = reader;
    found = λ service has.
        let least = ap (λ (c : CallerState). c.least) sees.1 in
        let recent = has.recent in
        subst (λ (f : FoundRows). HasFound d service f new) (sym (ap (λ (r : Reader). r.found) reader)) (found_stays d old new leads service old.reader.found board (omega (arith, least, recent)) has);
  }

  pub back_trans : {a b c : Desk} → IsBack d a b → IsBack d b c → IsBack d a c
  back_trans ab bc = record { steps = steps_trans [] [] ab.steps bc.steps; own = bc.own ∙ ab.own; seat = bc.seat ∙ ab.seat; reader = bc.reader ∙ ab.reader; found = λ service has. bc.found service (ab.found service has) }

same_halt : {a b : Halt} → Some a ≡ Some b → a ≡ b
same_halt same = cc same

-- why a queue refused is how the worker halts, if it does
pub halt_shown : (d : Domain) (queue : ℕ) (desk : Desk) (why : Refusal) (halt : Halt) → halt_by why ≡ Some halt → ShowsWhy d queue why desk → IsHaltAt desk halt
halt_shown d queue desk (refusals.Worn stamp) halt is shows = subst (IsHaltAt desk) (same_halt is) shows
halt_shown d queue desk refusals.NoMemory halt is shows = subst (IsHaltAt desk) (same_halt is) tt
halt_shown d queue desk refusals.Down halt is shows = absurd (cc is)
halt_shown d queue desk refusals.Closed halt is shows = absurd (cc is)
halt_shown d queue desk (refusals.Full n) halt is shows = absurd (cc is)

module _ {d : Domain} {queue : ℕ} {slot : ServerSlot} {old : Desk} where
  -- the request is in hand again, and its worker halts
  pub retaken : (entry : Entry Cargo) (event : Event) (service : List ℕ) (payload : Data) (next : ℕ) (halt : Halt) {slot' : ServerSlot} {new : Desk} → IsPassing d queue entry event slot new → IsBack d old new → IsHaltAt new halt → slot' ≡ holding entry slot → TriedAs d queue service payload next (tries.Halted halt) slot slot' old new
  retaken entry event service payload next halt {slot'} {new} passing back halts is = subst (λ (s : ServerSlot). Keeps d queue halt slot s old new) (sym is) (record {
    serves = record { steps = back.steps; serving = passing.serving; server = refl; made = refl; gone = refl };
    does = refl;
    own = back.own;
    seat = back.seat;
    halts = halts;
  })

  -- the forward failed, as no queue took the request
  pub fails_on : (entry : Entry Cargo) (event : Event) (service : List ℕ) (closing : Closing) {slot' : ServerSlot} {new : Desk} → IsDesk d old → IsPassing d queue entry event slot old → HasFound d service old.reader.found old → TookNothing d old old.reader.found.rows
      → Leads d old new → IsServing d queue slot' new → new.caller.seat ≡ old.caller.seat → Fails old.reader.found.version closing slot' (holding entry slot) new.caller old.caller → IsToTell d new closing
      → Passes d queue service entry.cargo.invocation.payload (Some closing) slot slot' old new
  fails_on entry event service closing {slot'} {new} is passing has none leads serving seat fails to =
      let version = old.reader.found.version in
      let payload = entry.cargo.invocation.payload in
      let number = number_of passing.serving in
      let ended = ended_done {slot = holding entry slot} (BadForward version) closing leads number serving seat (λ g. refl) fails.finishes in
      let done = ended.1 in
      record {
        event = End ended.0;
        done = record {
          serves = record { steps = done.serves.steps; serving = serving; server = done.serves.server; made = done.serves.made; gone = done.serves.gone };
          its = done.its;
          idle = done.idle;
          stamp = done.stamp;
          noted = done.noted;
          seat = done.seat;
        };
        by = ((version, ended.2), shows_reason d old new is leads slot.server number service payload ended.0 (BadForward version) fails.finishes.stamp ended.3 ended.2 ended.5 ended.6 (shut_shown d old new is leads slot.server number service payload ended.0 ended.3 has none));
        to_tell = to;
      }

  pub fails_halted : (entry : Entry Cargo) (service : List ℕ) (payload : Data) (next : ℕ) (halt : Halt) {slot' : ServerSlot} {new : Desk} → Leads d old new → IsServing d queue slot' new → new.caller.seat ≡ old.caller.seat → slot' ≡ holding entry slot → HaltsWith 3 new.caller.work old.caller.work halt
      → TriedAs d queue service payload next (tries.Halted halt) slot slot' old new
  fails_halted entry service payload next halt {slot'} {new} leads serving seat is halts = record {
    serves = record {
      steps = halted_steps 3 halt leads halts;
      serving = serving;
      server = ap (λ (s : ServerSlot). s.server) is;
      made = ap (λ (s : ServerSlot). s.made) is;
      gone = ap (λ (s : ServerSlot). s.gone) is;
    };
    does = ap (λ (s : ServerSlot). s.doing) is;
    own = halted_own old new 3 halt halts;
    seat = seat;
    halts = halted_at old new 3 halt halts;
  }

-- ---- from a desk that went on to it, with a slot that does the same

pub record SameServer (slot slot' : ServerSlot) : Type 0 where
  pub server : slot'.server ≡ slot.server
  pub made : slot'.made ≡ slot.made
  pub gone : slot'.gone ≡ slot.gone
  pub does : slot'.doing ≡ slot.doing

module _ (d : Domain) (queue : ℕ) (slot slot' last : ServerSlot) (a b c : Desk) (same : SameServer slot slot') (steps : Steps d [] a b) (own : b.caller.work.own ≡ a.caller.work.own) (seat : b.caller.seat ≡ a.caller.seat) where
  serves_from : (more : List Event) → Serves d queue more slot' last b c → Serves d queue more slot last a c
  serves_from more serves = record { steps = steps_from more serves.steps; serving = serves.serving; server = serves.server ∙ same.server; made = serves.made ∙ same.made; gone = serves.gone ∙ same.gone }
    where
      steps_from : (es : List Event) → Steps d es b c → Steps d es a c
      steps_from es further = subst (λ (l : List Event). Steps d l a c) (append-nil es) (steps_trans [] es steps further)

  pub passes_from : (service : List ℕ) (payload : Data) (closing : Option Closing) → Passes d queue service payload closing slot' last b c → Passes d queue service payload closing slot last a c
  passes_from service payload closing passes =
      let done = passes.done in
      record {
        event = passes.event;
        done = record {
          serves = serves_from (passes.event ∷ []) done.serves;
          its = its_from passes.event done.its;
          idle = done.idle ∙ ap (λ doing. Idle (life_in doing)) same.does;
          stamp = done.stamp;
          noted = done.noted ∙ ap (λ (l : List Stamped). l ++ record { stamp = done.stamp; event = passes.event } ∷ []) own;
          seat = done.seat ∙ seat;
        };
        by = subst (IsForwarded (ShowsReason d c) service payload passes.event) steps.own passes.by;
        to_tell = passes.to_tell;
      }
    where
      its_from : (e : Event) → is_of slot'.server.0 (life_in slot'.doing).0 e ≡ true → is_of slot.server.0 (life_in slot.doing).0 e ≡ true
      its_from e its = ap (λ s. is_of s.0 (life_in slot.doing).0 e) (sym same.server) ∙ ap (λ doing. is_of slot'.server.0 (life_in doing).0 e) (sym same.does) ∙ its

  pub keeps_from : (halt : Halt) → Keeps d queue halt slot' last b c → Keeps d queue halt slot last a c
  keeps_from halt keeps = record {
    serves = serves_from [] keeps.serves;
    does = keeps.does ∙ same.does;
    own = keeps.own ∙ own;
    seat = keeps.seat ∙ seat;
    halts = keeps.halts;
  }

  pub result_from : (service : List ℕ) (payload : Data) (r : Result (Option Closing) Halt) → PassesAs d queue service payload r slot' last b c → PassesAs d queue service payload r slot last a c
  result_from service payload (Ok closing) passes = passes_from service payload closing passes
  result_from service payload (Err halt) keeps = keeps_from halt keeps

-- ---- one attempt behind another

same_server : {slot slot' : ServerSlot} → slot' ≡ slot → SameServer slot slot'
same_server same = record { server = ap (λ (s : ServerSlot). s.server) same; made = ap (λ (s : ServerSlot). s.made) same; gone = ap (λ (s : ServerSlot). s.gone) same; does = ap (λ (s : ServerSlot). s.doing) same }

module _ (d : Domain) (slot slot' last : ServerSlot) (a b c : Desk) (same : slot' ≡ slot) (back : IsBack d a b) where
  here_from : (service : List ℕ) (payload payload' : Data) (next : ℕ) (tried : Tried) → payload' ≡ payload → TriedAs d (its_queue d slot) service payload' next tried slot' last b c → TriedAs d (its_queue d slot) service payload next tried slot last a c
  here_from service payload payload' next (tries.Passed closing) its_data passes =
      subst (λ (x : Data). Passes d (its_queue d slot) service x closing slot last a c) its_data (passes_from d (its_queue d slot) slot slot' last a b c (same_server same) back.steps back.own back.seat service payload' closing passes)
  here_from service payload payload' next (tries.Halted halt) its_data keeps = keeps_from d (its_queue d slot) slot slot' last a b c (same_server same) back.steps back.own back.seat halt keeps
  here_from service payload payload' next (tries.Again entry event) its_data (passing, still, further, its, by, tried) = (passing, still ∙ same, back_trans back further, its ∙ its_data, by, tried)

  pub tried_from : (service : List ℕ) (payload payload' : Data) (next : ℕ) (tried : Tried) → payload' ≡ payload → TriedAs d (its_queue d slot') service payload' next tried slot' last b c → TriedAs d (its_queue d slot) service payload next tried slot last a c
  tried_from service payload payload' next tried its_data is =
      here_from service payload payload' next tried its_data (subst (λ (s : ServerSlot). TriedAs d (its_queue d s) service payload' next tried slot' last b c) same is)

-- what a queue refused is out still
pub still_out : {d : Domain} (entry back : Entry Cargo) (event : Event) (slot slot' : ServerSlot) (desk : Desk) → slot' ≡ slot → back ≡ entry → IsPassing d (its_queue d slot) entry event slot' desk → IsPassing d (its_queue d slot') back event slot' desk
still_out {d} entry back event slot slot' desk same is passing =
    subst (λ (s : ServerSlot). IsPassing d (its_queue d s) back event slot' desk) (sym same) (subst (λ (x : Entry Cargo). IsPassing d (its_queue d slot) x event slot' desk) (sym is) passing)

-- ---- what a forward of the slot comes to, by the way that it goes

module _ (version : ℕ) (payload : Data) (slot slot' : ServerSlot) (old new : CallerState) where
  pub failed_as : (way : Result Row ℕ) (closing : Closing) → ForwardsAs version payload way (Failed closing) slot' slot new old → (named : ℕ) × (way ≡ Err named) × Fails named closing slot' slot new old
  failed_as (Ok row) closing is = absurd is
  failed_as (Err named) closing is = (named, refl, is)

  pub passed_as : (way : Result Row ℕ) (entry : Entry Cargo) (event : Event) → ForwardsAs version payload way (On entry event) slot' slot new old → (row : Row) × (way ≡ Ok row) × PassesOut version row payload entry event slot' slot new old
  passed_as (Ok row) entry event is = (row, refl, is)
  passed_as (Err named) entry event is = absurd is

-- what goes on goes to a service that is named
pub way_named : (setup : Setup) (service : List ℕ) (payload : Data) (hop : ℕ) (found : FoundRows) (row : Row) → way_of setup service payload hop found ≡ Ok row → is_name service ≡ true
way_named setup service payload hop found row is = by (is_name service) (is_sound setup payload) (nat_lt hop 32) (row_or found.version (find (λ (r : Row). is_accepted setup r.accepts (kind_of payload)) found.rows)) is
  where
    by : (named sound few : Bool) (way : Result Row ℕ) → (if named && sound && few then way else Err 0) ≡ Ok row → named ≡ true
    by true sound few way so = refl
    by false sound few way so = absurd (cc so)

-- by the first row that was found whose service accepts the data
pub way_row : (setup : Setup) (service : List ℕ) (payload : Data) (hop : ℕ) (found : FoundRows) (row : Row) → way_of setup service payload hop found ≡ Ok row → find (λ (r : Row). is_accepted setup r.accepts (kind_of payload)) found.rows ≡ Some row
way_row setup service payload hop found row is = by (is_name service) (is_sound setup payload) (nat_lt hop 32) (find (λ (r : Row). is_accepted setup r.accepts (kind_of payload)) found.rows) is
  where
    by : (named sound few : Bool) (first : Option Row) → (if named && sound && few then row_or found.version first else Err 0) ≡ Ok row → first ≡ Some row
    by true true true (Some one) so = cc so
    by true true true None so = absurd (cc so)
    by false sound few first so = absurd (cc so)
    by true false few first so = absurd (cc so)
    by true true false first so = absurd (cc so)

pub same_desk : (old new : Desk) → new ≡ record old { caller = new.caller } → new.caller ≡ old.caller → old ≡ new
same_desk old new rest same = sym (rest ∙ ap (λ (c : CallerState). record old { caller = c }) same)

-- it is out, with nothing noted
pub out_same : {version : ℕ} {row : Row} {payload : Data} {entry : Entry Cargo} {event : Event} {slot slot' : ServerSlot} {new old : CallerState} → PassesOut version row payload entry event slot' slot new old → SameServer slot slot'
out_same out = record { server = ap (λ (s : ServerSlot). s.server) out.left; made = ap (λ (s : ServerSlot). s.made) out.left; gone = ap (λ (s : ServerSlot). s.gone) out.left; does = ap (λ (s : ServerSlot). s.doing) out.left }

pub out_steps : {d : Domain} {a b : Desk} → Leads d a b → b.caller ≡ a.caller → Steps d [] a b
out_steps leads same = still_steps leads (ap (λ (c : CallerState). c.work.id) same) (ap (λ (c : CallerState). c.work.clients) same) (ap (λ (c : CallerState). c.work.own) same)

module _ {d : Domain} {queue : ℕ} where
  pub if_taken : {t : Taken} {old new : Desk} → ((entry : Entry Cargo) → IsTaken d queue t old entry → IsTaken d queue t new entry) → (hand : Option (Entry Cargo)) → IfSome hand (IsTaken d queue t old) → IfSome hand (IsTaken d queue t new)
  if_taken on None is = tt
  if_taken on (Some entry) is = on entry is

  -- the forward failed by itself, by its request, or by what was found
  pub fails_at_once : (service : List ℕ) (payload : Data) (named : ℕ) (closing : Closing) (t : Taken) {slot slot' : ServerSlot} {old new : Desk} → IsDesk d old → IfSome slot.hand (IsTaken d queue t old) → (is_name service ≡ true → HasFound d service old.reader.found old)
      → way_of d.setup service payload (hop_in slot.hand) old.reader.found ≡ Err named → IsServing d queue slot old → Leads d old new → IsServing d queue slot' new → new.caller.seat ≡ old.caller.seat → Fails named closing slot' slot new.caller old.caller
      → IsToTell d new closing → Passes d queue service payload (Some closing) slot slot' old new
  fails_at_once service payload named closing t {slot} {slot'} {old} {new} desk taken has way was leads serving seat fails to =
      let number = number_of was in
      let ended = ended_done (BadForward named) closing leads number serving seat (λ g. refl) fails.finishes in
      let entry = fails.finishes.ends.entry in
      let hand = fails.finishes.ends.in_hand in
      record {
        event = End ended.0;
        done = ended.1;
        by = (
          (named, ended.2),
          shows_reason d old new desk leads slot.server number service payload ended.0 (BadForward named) fails.finishes.stamp ended.3 ended.2 ended.5 ended.6
              (way_shown d old new desk leads slot.server number service payload ended.0 ended.3 entry named ended.4 (hand_seen desk was (subst (λ h. IfSome h (IsTaken d queue t old)) hand taken)) has (ap (λ h. way_of d.setup service payload (hop_in h) old.reader.found) (sym hand) ∙ way)),
        );
        to_tell = to;
      }

  -- at a halt
  pub keeps_at_once : (halt : Halt) {slot slot' : ServerSlot} {old new : Desk} → Leads d old new → IsServing d queue slot' new → slot' ≡ slot → new.caller.seat ≡ old.caller.seat → HaltsWith 3 new.caller.work old.caller.work halt → Keeps d queue halt slot slot' old new
  keeps_at_once halt {slot} {slot'} {old} {new} leads serving same seat halts = record {
    serves = still_serves (halted_steps 3 halt leads halts) serving same;
    does = ap (λ (s : ServerSlot). s.doing) same;
    own = halted_own old new 3 halt halts;
    seat = seat;
    halts = halted_at old new 3 halt halts;
  }
