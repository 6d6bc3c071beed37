-- A life of a server ends.
use Rattle.std.proofs.Common.{◌≡◌, ◌<◌, ℕ, ◌+◌, ◌-◌, ◌^◌, ◌==◌, ◌&&◌, true, false, List, [], ◌∷◌, ◌++◌, map, length, Option, Some, inl, inr, refl, sym, ◌∙◌, ap, subst, append-nil, arith, eq-eqb}
use Rattle.std.specs.Prelude.{⊤}
use Rattle.std.specs.List.{All}
use Rattle.std.proofs.lemmas.Bool.{false≢true}
use Rattle.std.proofs.lemmas.List.{map_push, append_assoc}
use Rattle.std.proofs.lemmas.List.Elements.{All-nil, All-cons, All-push}
use Rattle.xa_desk.specs.xa_types.declared.ids.Generation.{Generation}
use Rattle.xa_desk.specs.xa_types.declared.ids.RequestId.{RequestId}
use Rattle.xa_desk.specs.xa_types.declared.stamp.Stamp.{Stamp}
use Rattle.xa_desk.specs.xa_types.declared.stamp.Worn.{Worn}
use Rattle.xa_desk.specs.xa_events.declared.event.Event.{Event}
use Rattle.xa_desk.specs.xa_events.declared.event.Event.TheVariants.{End, Stop}
use Rattle.xa_desk.specs.xa_events.declared.event.Ended.{Ended}
use Rattle.xa_desk.specs.xa_events.declared.event.Stopped.{Stopped as StopEvent}
use Rattle.xa_desk.specs.xa_events.declared.event.StopCause.{StopCause}
use Rattle.xa_desk.specs.xa_events.declared.event.StopCause.TheVariants as causes
use Rattle.xa_desk.specs.xa_events.declared.event.Outcome.{Outcome}
use Rattle.xa_desk.specs.xa_events.declared.event.Outcome.TheVariants as outcomes
use Rattle.xa_desk.specs.xa_events.declared.event.Doing.{Doing}
use Rattle.xa_desk.specs.xa_events.declared.event.Doing.TheVariants.{Off, Idle, Busy, Dying}
use Rattle.xa_desk.specs.xa_events.Words.{AtEach, count}
use Rattle.xa_desk.specs.xa_events.State.{caller_of}
use Rattle.xa_desk.specs.xa_events.Caller.{last_op, op_of}
use Rattle.xa_desk.specs.xa_events.Server.{after_end, is_shutdown}
use Rattle.xa_desk.specs.xa_events.Homes.{worker_of}
use Rattle.xa_desk.specs.xa_events.Cases.{IsShut}
use Rattle.xa_desk.specs.xa_stamp.declared.home.Stamped.{Stamped}
use Rattle.xa_desk.specs.xa_worker.Work.{WorkState, theirs}
use Rattle.xa_desk.proofs.xa_worker.Noting.{theirs-more}
use Rattle.xa_desk.specs.xa_pipe.declared.turn.Turn.TheVariants.{AwaitsInvoke, Finishing, Exited}
use Rattle.xa_desk.specs.xa_pipe.declared.turn.Turn.{Turn}
use Rattle.xa_desk.specs.xa_pipe.declared.turn.Written.{Written}
use Rattle.xa_desk.specs.xa_pipe.declared.turn.Written.TheVariants as writes
use Rattle.xa_desk.specs.xa_pipe.Frames.{is_of_life, is_take_in}
use Rattle.xa_desk.specs.xa_pipe.Life.{stops_life, lost_by, may_end, StopsSpent}
use Rattle.xa_desk.specs.xa_pipe.Standing.{LifeState, Ending, IsOver, invokes_of}
use Rattle.xa_desk.specs.xa_pipe.Following.{Settled, HasStopped}
use Rattle.xa_desk.proofs.xa_pipe.Followed.{stops}
use Rattle.xa_desk.proofs.xa_pipe.Dues.{none_counted as counted_none}
use Rattle.xa_desk.specs.xa_server.declared.closing.Closing.{Closing}
use Rattle.xa_desk.specs.xa_server.declared.slot.ServerSlot.{ServerSlot}
use Rattle.xa_desk.specs.xa_server.declared.served.Served.{Served}
use Rattle.xa_desk.specs.xa_server.Served.{StarterShows}
use Rattle.xa_desk.specs.xa_server.Doings.{life_in, is_death, outcome_of}
use Rattle.xa_desk.specs.xa_server.Noting.{IsWorn}
use Rattle.xa_desk.specs.xa_server.Changes.{Stops, DiesBusy, DiesIdle, DiesFrom, DiesWorn}
use Rattle.xa_desk.specs.declared.domain.Domain.{Domain}
use Rattle.xa_desk.specs.declared.desk.Desk.{Desk}
use Rattle.xa_desk.specs.declared.stopped.Stopped.{Stopped}
use Rattle.xa_desk.specs.Desks.{Leads}
use Rattle.xa_desk.specs.Found.{SawAtQueue}
use Rattle.xa_desk.specs.Serving.{IsServing, IsSentFor}
use Rattle.xa_server_worker.specs.declared.working.ServerWorker.{ServerWorker}
use Rattle.xa_desk.specs.Halting.{IsStopAt}
use Rattle.xa_server_worker.specs.Lives.{lives_in, IsHanded, TookEach, HandsOn, IsCut}
use Rattle.xa_server_worker.specs.Working.{cut_in}
use Rattle.xa_server_worker.specs.Steps.{Steps, Serves}
use Rattle.xa_server_worker.specs.Standing.{Goes, SettlesBy, IsLast, IsAtWork, IsOff, HasEnded}
use Rattle.xa_server_worker.specs.Behind.{is_by_exit, TellsLast, ToldBefore}
use Rattle.xa_server_worker.proofs.Behind.{still_behind, more_behind, told_last}
use Rattle.xa_server_worker.proofs.Stepping.{stop_by, still_steps, noted_steps}
use Rattle.xa_server_worker.proofs.Keeping.{OfLife, life_adds, no_calls, newest_same, lives_same, lives_on, skip_count, handed_led}
use Rattle.xa_server_worker.proofs.Lasting.{number_of, at_kept, started_on, failed_on, ends_shut, ends_lived, ends_work, lives_hand, none_cut, none_off, starts_count, idle_out, halts}
use Rattle.xa_desk.proofs.xa_pipe.Followed.{settled_led}
use Rattle.xa_server_worker.specs.Reasons.{ShowsReason}
use Rattle.xa_server_worker.proofs.Reasons.{reason_led}

-- ---- causes and outcomes

pub life_after : (o : Outcome) (g : Generation) → life_in (after_end o g) ≡ g
life_after (outcomes.Returned code payload) g = refl
life_after (outcomes.Failed code payload) g = refl
life_after outcomes.BadReturn g = refl
life_after (outcomes.BadForward version) g = refl
life_after outcomes.Died g = refl
life_after outcomes.Starved g = refl

lost : (cause : StopCause) → outcome_of cause ≡ lost_by cause
lost causes.Starved = refl
lost _ = refl

no_exit : (cause : StopCause) → is_death cause ≡ true → is_by_exit cause ≡ false
no_exit causes.Exit death = absurd (cc death)
no_exit _ death = refl

no_shutdown : (cause : StopCause) → is_death cause ≡ true → is_shutdown cause ≡ false
no_shutdown causes.Shutdown death = absurd (cc death)
no_shutdown _ death = refl

pub shutdown_is : (cause : StopCause) → is_shutdown cause ≡ true → cause ≡ causes.Shutdown
shutdown_is causes.Shutdown is = refl
shutdown_is _ is = absurd (cc is)

pub shutdown_not : (cause same : StopCause) → cause ≡ same → is_shutdown cause ≡ false → same ≡ causes.Shutdown → ⊥
shutdown_not cause same is other shut = cc (sym other ∙ ap is_shutdown (is ∙ shut))

-- where its program wasn't told to end, and didn't leave, it died
pub death_in : (cause : StopCause) (turn : Turn) (written : Written) → (turn ≡ Exited → ⊥) → (turn ≡ AwaitsInvoke → cause ≡ causes.Shutdown → ⊥) → may_end cause turn written ≡ true → is_death cause ≡ true
death_in causes.Shutdown AwaitsInvoke writes.Whole here told may = absurd (told refl refl)
death_in causes.Shutdown turn written here told may = absurd (cc may)
death_in causes.Exit Exited writes.Whole here told may = absurd (here refl)
death_in causes.Exit turn written here told may = absurd (cc may)
death_in _ turn written here told may = refl

pub is_its : (server g s h : ℕ) → s ≡ server → h ≡ g → is_of_life server g s h ≡ true
is_its server g s h is its = ap (λ b. b && (h == g)) (eq-eqb s server is) ∙ eq-eqb h g its

-- where no end of the life is among these
none_spent : (clients server g : ℕ) (own : List Event) → count (stops_life server g) own ≡ 0 → AtEach (StopsSpent clients server g) own
none_spent clients server g [] none = tt
none_spent clients server g (e ∷ own) none =
    let parts = counted_none (stops_life server g) e own none in
    ((λ stops. absurd (false≢true (sym parts.0 ∙ stops))), none_spent clients server g own parts.1)

module _ {L T : Type 0} {d : Domain} {shows : T → StarterShows} (w : ServerWorker L T) (over : Ending) (at : IsAtWork d shows w (over.life ∷ [])) (last : IsLast w.name w.served.slot over.life) (ended : IsOver over)
    (handed : AtEach (IsHanded over.life.server.0 over.life.generation.0 (invokes_of over.life) (IsSentFor d w.queue.0 w.desk)) (theirs w.desk.caller.work))
    (kept : Served L T) (lives : kept.lives.items ≡ w.served.lives.items ++ over ∷ []) (starter : kept.starter ≡ w.served.starter) (slot' : ServerSlot) (desk' : Desk) (leads : Leads d w.desk desk') (seat : desk'.caller.seat ≡ w.desk.caller.seat) (serving : IsServing d w.queue.0 slot' desk') where
  abbrev slot : ServerSlot
  slot = w.served.slot

  abbrev own : List Event
  own = theirs w.desk.caller.work

  abbrev old : WorkState
  old = w.desk.caller.work

  abbrev new : WorkState
  new = desk'.caller.work

  server_of_life : slot.server.0 ≡ over.life.server.0
  server_of_life = ap (λ s. s.0) (sym last.server)

  -- its server's calls had come to their end
  abbrev IsSpent : Type 0
  IsSpent = over.life.turn ≡ Finishing → last_op old.id.0 own ≡ 2 ^ 32 - 1

  its_caller : caller_of d.clients over.life.server.0 ≡ old.id.0
  its_caller = ap (λ n. n + over.life.server.0) (sym at.is.clients) ∙ (ap (λ s. old.clients + s.0) last.server ∙ number_of at.serving)

  spent_before : (more : List Event) → All (OfLife slot.made) more → IsSpent → over.life.turn ≡ Finishing → last_op (caller_of d.clients over.life.server.0) (more ++ own) ≡ 2 ^ 32 - 1
  spent_before more its spent turn = ap (λ n. last_op n (more ++ own)) its_caller ∙ (ap op_of (newest_same old.id.0 more own (no_calls old.id.0 slot.made more its)) ∙ spent turn)

  -- its end is noted behind these
  stops_work : (more : List Event) (e : Event) (x : StopEvent) (rest : List Stamped) → Steps d (Stop x ∷ more) w.desk desk' → All (OfLife slot.made) more → x.server ≡ slot.server → x.generation ≡ over.life.generation → x.cause ≡ over.cause → Settled d.setup d.clients (ShowsReason d desk') over (more ++ own)
      → AtEach (IsHanded over.life.server.0 over.life.generation.0 (invokes_of over.life) (IsSentFor d w.queue.0 desk')) (more ++ own)
      → new.own ≡ old.own ++ rest → All (λ (y : Stamped). old.stamp.0 < y.stamp.0) rest → count (stops_life over.life.server.0 over.life.generation.0) own ≡ 0 → (over.life.turn ≡ AwaitsInvoke → SawAtQueue d w.queue.0 w.desk (IsShut d.setup w.queue.0)) → IsSpent
      → TellsLast desk' → slot'.server ≡ slot.server → slot'.made ≡ slot.made → slot'.gone ≡ slot.gone → IsAtWork d shows (at_kept w kept slot' desk') []
  stops_work more e x rest steps its server generation why settled still grew later alive saw spent told server' made' gone' =
      let all : All (OfLife slot.made) (Stop x ∷ more) = All-cons (OfLife slot.made) (Stop x) more (ap (λ g. g.0) generation ∙ last.number) its in
      let serves : Serves d w.queue.0 (Stop x ∷ more) slot slot' w.desk desk' = record { steps = steps; serving = serving; server = server'; made = made'; gone = gone' } in
      let ours : is_of_life over.life.server.0 over.life.generation.0 x.server.0 x.generation.0 ≡ true = is_its over.life.server.0 over.life.generation.0 x.server.0 x.generation.0 (ap (λ s. s.0) server ∙ server_of_life) (ap (λ g. g.0) generation) in
      ends_work w over at last ended kept lives starter slot' desk' (Stop x ∷ more) serves all told
      (ends_lived w over at last ended kept lives starter slot' desk' (Stop x ∷ more) serves all
      (subst (HasStopped d.setup d.clients (ShowsReason d desk') over) (sym {A = List Event} steps.own) (stops d.setup d.clients over (more ++ own) x ours why settled))
      (λ turn. ends_shut w over at last ended kept lives starter slot' desk' (Stop x ∷ more) serves all rest grew later alive (saw turn))
      (λ turn. subst (AtEach (StopsSpent d.clients over.life.server.0 over.life.generation.0)) (sym {A = List Event} steps.own)
      ((λ stops. spent_before more its spent turn), none_spent d.clients over.life.server.0 over.life.generation.0 (more ++ own) settled.alive))
      (subst (AtEach (IsHanded over.life.server.0 over.life.generation.0 (invokes_of over.life) (IsSentFor d w.queue.0 desk'))) (sym {A = List Event} steps.own) (tt, still)))

  settled_still : (ending : Ending) (events : List Event) → Settled d.setup d.clients (ShowsReason d w.desk) ending events → Settled d.setup d.clients (ShowsReason d desk') ending events
  settled_still ending events settled = settled_led d.setup (ShowsReason d w.desk) (ShowsReason d desk') (reason_led d w.desk desk' leads) d.clients ending events settled

  handed_still : AtEach (IsHanded over.life.server.0 over.life.generation.0 (invokes_of over.life) (IsSentFor d w.queue.0 desk')) own
  handed_still = handed_led over.life.server.0 over.life.generation.0 d w.queue.0 w.desk desk' (invokes_of over.life) own leads handed

  -- with nothing in hand
  pub stops_idle : (cause : StopCause) (stamp : Stamp) → cause ≡ over.cause → life_in slot.doing ≡ over.life.generation → Settled d.setup d.clients (ShowsReason d w.desk) over own → (over.life.turn ≡ AwaitsInvoke → SawAtQueue d w.queue.0 w.desk (IsShut d.setup w.queue.0)) → IsSpent → TellsLast desk' → Stops cause stamp slot' slot new old
      → IsAtWork d shows (at_kept w kept slot' desk') []
  stops_idle cause stamp why does settled saw spent told stopped =
      let x : StopEvent = record { server = slot.server; generation = life_in slot.doing; cause = cause } in
      let next = stopped.noted.next in
      stops_work [] (Stop x) x (record { stamp = stamp; event = Stop x } ∷ []) (noted_steps stamp (Stop x) old.room leads (number_of at.serving) stopped.noted) (All-nil (OfLife slot.made)) refl does why (settled_still over own settled) handed_still
      (ap (λ (v : WorkState). v.own) stopped.noted.made) (All-cons (λ (y : Stamped). old.stamp.0 < y.stamp.0) (record { stamp = stamp; event = Stop x }) [] (omega (arith, next)) (All-nil (λ (y : Stamped). old.stamp.0 < y.stamp.0))) settled.alive saw spent told
      (ap (λ (s : ServerSlot). s.server) stopped.left) (ap (λ (s : ServerSlot). s.made) stopped.left) (ap (λ (s : ServerSlot). s.gone) stopped.left)

  -- it may end so, as nothing else was noted
  pub stop_told : (cause : StopCause) (stamp : Stamp) → is_by_exit cause ≡ false → Stops cause stamp slot' slot new old → ToldBefore desk'
  stop_told cause stamp plain stopped =
      more_behind w.desk desk' ⊥ ⊥ (record { stamp = stamp; event = Stop (record { server = slot.server; generation = life_in slot.doing; cause = cause }) } ∷ []) (ap (λ (v : WorkState). v.own) stopped.noted.made) seat plain at.told.0

  -- ---- by itself

  module _ (cause : StopCause) (why : cause ≡ over.cause) (death : is_death cause ≡ true) (saw : over.life.turn ≡ AwaitsInvoke → SawAtQueue d w.queue.0 w.desk (IsShut d.setup w.queue.0)) (spent : IsSpent) where
    -- its request, as it is lost
    abbrev lost_end : RequestId → Ended
    lost_end request = record { request = request; server = slot.server; generation = life_in slot.doing; outcome = outcome_of cause }

    -- what was noted behind its last event, as it was in hand
    busy_own : (closing : Closing) (dies : DiesBusy cause closing slot' slot new old)
        → new.own ≡ old.own ++ record { stamp = dies.stamp; event = End (lost_end dies.ends.entry.request) } ∷ record { stamp = dies.stop; event = Stop (record { server = dies.ended.server; generation = life_in dies.ended.doing; cause = cause }) } ∷ []
    busy_own closing dies =
        let e : Stamped = record { stamp = dies.stamp; event = End (lost_end dies.ends.entry.request) } in
        let x : Stamped = record { stamp = dies.stop; event = Stop (record { server = dies.ended.server; generation = life_in dies.ended.doing; cause = cause }) } in
        ap (λ (v : WorkState). v.own) dies.stops.noted.made ∙ ap (λ (v : WorkState). v.own ++ x ∷ []) dies.ends.noted.made ∙ append_assoc old.own (e ∷ []) (x ∷ [])

    pub dies_told : (closing : Closing) (doing : Doing) → DiesFrom doing cause closing slot' slot new old → ToldBefore desk'
    dies_told closing (Busy g request) dies = more_behind w.desk desk' ⊥ ⊥ (_ ∷ _ ∷ []) (busy_own closing dies) seat refl at.told.0
    dies_told closing (Idle g) dies = stop_told cause dies.stop (no_exit cause death) dies.stops
    dies_told closing Off dies = stop_told cause dies.stop (no_exit cause death) dies.stops
    dies_told closing (Dying g) dies = stop_told cause dies.stop (no_exit cause death) dies.stops

    -- what the worker is stays
    goes_idle : (closing : Closing) → DiesIdle cause closing slot' slot new old → Goes d w (at_kept w kept slot' desk')
    goes_idle closing dies = record {
      leads = leads;
      id = ap (λ (v : WorkState). v.id) dies.stops.noted.made;
      clients = ap (λ (v : WorkState). v.clients) dies.stops.noted.made;
      server = ap (λ (s : ServerSlot). s.server) dies.stops.left;
      name = refl;
      queue = refl;
    }

    pub dies_goes : (closing : Closing) (doing : Doing) → DiesFrom doing cause closing slot' slot new old → Goes d w (at_kept w kept slot' desk')
    dies_goes closing (Busy g request) dies = record {
      leads = leads;
      id = ap (λ (v : WorkState). v.id) dies.stops.noted.made ∙ ap (λ (v : WorkState). v.id) dies.ends.noted.made;
      clients = ap (λ (v : WorkState). v.clients) dies.stops.noted.made ∙ ap (λ (v : WorkState). v.clients) dies.ends.noted.made;
      server = ap (λ (s : ServerSlot). s.server) dies.stops.left ∙ ap (λ (s : ServerSlot). s.server) dies.ends.left;
      name = refl;
      queue = refl;
    }
    dies_goes closing (Idle g) dies = goes_idle closing dies
    dies_goes closing Off dies = goes_idle closing dies
    dies_goes closing (Dying g) dies = goes_idle closing dies

    dies_busy : (closing : Closing) (g : Generation) (request : RequestId) → slot.doing ≡ Busy g request → SettlesBy d w.desk over own (Busy g request) → DiesFrom (Busy g request) cause closing slot' slot new old → IsOff d shows (at_kept w kept slot' desk')
    dies_busy closing g request does (its, settles) dies =
        let ends = dies.ends in
        let e : Ended = lost_end ends.entry.request in
        let mid : WorkState = dies.between in
        let x : StopEvent = record { server = dies.ended.server; generation = life_in dies.ended.doing; cause = cause } in
        let lived : life_in slot.doing ≡ over.life.generation = ap life_in does ∙ its in
        let server : x.server ≡ slot.server = ap (λ (s : ServerSlot). s.server) ends.left in
        let generation : x.generation ≡ over.life.generation = ap (λ (s : ServerSlot). life_in s.doing) ends.left ∙ life_after (outcome_of cause) (life_in slot.doing) ∙ lived in
        let ours = is_its over.life.server.0 over.life.generation.0 slot.server.0 (life_in slot.doing).0 server_of_life (ap (λ h. h.0) lived) in
        let settled = settles e ours (lost cause ∙ ap lost_by why) in
        let number = number_of at.serving in
        let first : theirs mid ≡ End e ∷ own = ap theirs ends.noted.made ∙ theirs-more old (record { stamp = dies.stamp; event = End e }) number in
        let number' : worker_of mid.clients (Stop x) ≡ mid.id.0 = ap (λ (v : WorkState). v.clients + x.server.0) ends.noted.made ∙ ap (λ s. old.clients + s.0) server ∙ number ∙ ap (λ (v : WorkState). v.id.0) (sym ends.noted.made) in
        let second : theirs new ≡ Stop x ∷ theirs mid = ap theirs dies.stops.noted.made ∙ theirs-more mid (record { stamp = dies.stop; event = Stop x }) number' in
        let next = ends.noted.next in
        let stamp = ap (λ (v : WorkState). v.stamp.0) ends.noted.made in
        let after = dies.stops.noted.next in
        let rest : List Stamped = record { stamp = dies.stamp; event = End e } ∷ record { stamp = dies.stop; event = Stop x } ∷ [] in
        record {
          at = stops_work (End e ∷ []) (Stop x) x rest
              (record {
                leads = leads;
                id = ap (λ (v : WorkState). v.id) dies.stops.noted.made ∙ ap (λ (v : WorkState). v.id) ends.noted.made;
                clients = ap (λ (v : WorkState). v.clients) dies.stops.noted.made ∙ ap (λ (v : WorkState). v.clients) ends.noted.made;
                own = second ∙ ap (λ (l : List Event). Stop x ∷ l) first;
              }) (All-cons (OfLife slot.made) (End e) [] (ap (λ h. h.0) lived ∙ last.number) (All-nil (OfLife slot.made))) server generation why (settled_still over (End e ∷ own) settled) (tt, handed_still)
              (busy_own closing dies)
              (All-cons (λ (y : Stamped). old.stamp.0 < y.stamp.0) (record { stamp = dies.stamp; event = End e }) (record { stamp = dies.stop; event = Stop x } ∷ []) (omega (arith, next))
              (All-cons (λ (y : Stamped). old.stamp.0 < y.stamp.0) (record { stamp = dies.stop; event = Stop x }) [] (omega (arith, next, stamp, after)) (All-nil (λ (y : Stamped). old.stamp.0 < y.stamp.0)))) settled.alive saw spent (told_last ⊥ desk' (dies_told closing (Busy g request) dies))
              (ap (λ (s : ServerSlot). s.server) dies.stops.left ∙ server) (ap (λ (s : ServerSlot). s.made) dies.stops.left ∙ ap (λ (s : ServerSlot). s.made) ends.left) (ap (λ (s : ServerSlot). s.gone) dies.stops.left ∙ ap (λ (s : ServerSlot). s.gone) ends.left);
          off = ap (λ (s : ServerSlot). s.doing) dies.stops.left;
          up = ap (λ (s : ServerSlot). s.shut) dies.stops.left ∙ no_shutdown cause death;
        }

    pub dies_off : (closing : Closing) (doing : Doing) → slot.doing ≡ doing → SettlesBy d w.desk over own doing → DiesFrom doing cause closing slot' slot new old → IsOff d shows (at_kept w kept slot' desk')
    dies_off closing (Busy g request) does settles dies = dies_busy closing g request does settles dies
    dies_off closing (Idle g) does (its, settled) dies = record {
      at = stops_idle cause dies.stop why (ap life_in does ∙ its) settled saw spent (told_last ⊥ desk' (dies_told closing (Idle g) dies)) dies.stops;
      off = ap (λ (s : ServerSlot). s.doing) dies.stops.left;
      up = ap (λ (s : ServerSlot). s.shut) dies.stops.left ∙ no_shutdown cause death;
    }
    dies_off closing Off does settles dies = absurd settles
    dies_off closing (Dying g) does settles dies = absurd settles

  -- ---- at a halt

  -- where stamps came to their end, behind these
  worn_ends : (more : List Event) (worn : Worn) (stopped : Stopped) → stopped ≡ stop_by worn → IsWorn worn new → Steps d more w.desk desk' → All (OfLife slot.made) more → All (λ (e : Event). is_take_in slot.server.0 over.life.generation.0 e ≡ false) more → slot'.server ≡ slot.server → slot'.made ≡ slot.made → TookEach slot.server.0 own over.life
      → AtEach (IsHanded over.life.server.0 over.life.generation.0 (invokes_of over.life) (IsSentFor d w.queue.0 desk')) (more ++ own) → TellsLast desk' → HasEnded d shows (Some stopped) (at_kept w kept slot' desk')
  worn_ends more worn stopped by full steps its plain server made took still told =
      let s : ℕ = slot.server.0 in
      let Hands : LifeState → Type 0 = HandsOn d w.queue.0 s desk' in
      let adds = life_adds steps s slot.made (number_of at.serving) its in
      let on = lives_on adds w.name w.queue.0 w.served.lives.items over.life.generation at.lived in
      let now_hands : Hands over.life = record {
        taken = ap (count (is_take_in s over.life.generation.0)) steps.own ∙ skip_count (is_take_in s over.life.generation.0) more own plain ∙ took;
        handed = subst (λ (n : ℕ). AtEach (IsHanded n over.life.generation.0 (invokes_of over.life) (IsSentFor d w.queue.0 desk')) (theirs new)) (sym server_of_life)
            (subst (AtEach (IsHanded over.life.server.0 over.life.generation.0 (invokes_of over.life) (IsSentFor d w.queue.0 desk'))) (sym {A = List Event} steps.own) still);
      } in
      let same : lives_in slot'.server.0 (theirs new) ≡ lives_in s own = ap (λ x. lives_in x.0 (theirs new)) server ∙ lives_same adds in
      halts (at_kept w kept slot' desk') stopped leads.desk (number_of serving) (idle_out desk' serving.idle) serving.hand (starts_count serving) (ap (λ s. (shows s).name) starter ∙ at.named_so)
      (ap (λ (l : List Ending). map (λ (y : Ending). y.life.generation) l ++ map (λ (life : LifeState). life.generation) (cut_in w.cut)) lives ∙ ap (λ (gs : List Generation). gs ++ map (λ (life : LifeState). life.generation) (cut_in w.cut)) (map_push (λ (y : Ending). y.life.generation) w.served.lives.items over)
      ∙ ap (λ (o : Option LifeState). (map (λ (y : Ending). y.life.generation) w.served.lives.items ++ over.life.generation ∷ []) ++ map (λ (life : LifeState). life.generation) (cut_in o)) at.cut ∙ append-nil _ ∙ at.lived.are ∙ sym same)
      (subst (λ x. All (HandsOn d w.queue.0 x.0 desk') (map (λ (y : Ending). y.life) kept.lives.items ++ cut_in w.cut)) (sym server) (none_cut Hands (map (λ (y : Ending). y.life) kept.lives.items) w.cut at.cut
      (subst (λ (l : List Ending). All Hands (map (λ (y : Ending). y.life) l)) (sym {A = List Ending} lives) (subst (All Hands) (sym (map_push (λ (y : Ending). y.life) w.served.lives.items over)) (All-push Hands (map (λ (y : Ending). y.life) w.served.lives.items) over.life (lives_hand w.served.lives.items on.each) now_hands)))))
      (none_off (IsCut w.name slot'.server.0 (theirs new)) w.cut at.cut)
      (inl (started_on made (failed_on adds slot slot' refl server) (ap shows starter) at.started)) told
      (subst (IsStopAt desk') (sym by) (full.tells, full.at_end))

  pub worn_still : (worn : Worn) (stopped : Stopped) → stopped ≡ stop_by worn → IsWorn worn old → slot' ≡ slot → new ≡ old → TookEach slot.server.0 own over.life → HasEnded d shows (Some stopped) (at_kept w kept slot' desk')
  worn_still worn stopped by full same work took =
      worn_ends [] worn stopped by (subst (IsWorn worn) (sym work) full) (still_steps leads (ap (λ (v : WorkState). v.id) work) (ap (λ (v : WorkState). v.clients) work) (ap (λ (v : WorkState). v.own) work)) (All-nil (OfLife slot.made)) (All-nil (λ (e : Event). is_take_in slot.server.0 over.life.generation.0 e ≡ false)) (ap (λ (s : ServerSlot). s.server) same) (ap (λ (s : ServerSlot). s.made) same) took handed_still
      (still_behind w.desk desk' ⊤ (ap (λ (v : WorkState). v.own) work) seat (told_last ⊤ w.desk at.told.0))

  pub dies_worn : (cause : StopCause) (worn : Worn) (stopped : Stopped) → stopped ≡ stop_by worn → life_in slot.doing ≡ over.life.generation → DiesWorn cause worn slot' slot new old → TookEach slot.server.0 own over.life → HasEnded d shows (Some stopped) (at_kept w kept slot' desk')
  dies_worn cause worn stopped by does (full, inl same) took = worn_still worn stopped by (subst (IsWorn worn) same.1 full) same.0 same.1 took
  dies_worn cause worn stopped by does (full, inr (stamp, ends)) took =
      let e : Ended = record { request = ends.entry.request; server = slot.server; generation = life_in slot.doing; outcome = outcome_of cause } in
      worn_ends (End e ∷ []) worn stopped by full (noted_steps stamp (End e) old.room leads (number_of at.serving) ends.noted) (All-cons (OfLife slot.made) (End e) [] (ap (λ h. h.0) does ∙ last.number) (All-nil (OfLife slot.made)))
      (All-cons (λ (x : Event). is_take_in slot.server.0 over.life.generation.0 x ≡ false) (End e) [] refl (All-nil (λ (x : Event). is_take_in slot.server.0 over.life.generation.0 x ≡ false)))
      (ap (λ (s : ServerSlot). s.server) ends.left) (ap (λ (s : ServerSlot). s.made) ends.left) took (tt, handed_still)
      (more_behind w.desk desk' ⊤ ⊤ (record { stamp = stamp; event = End e } ∷ []) (ap (λ (v : WorkState). v.own) ends.noted.made) seat refl at.told.0)

-- ---- what is asked of a death

pub settles_its : (d : Domain) (desk : Desk) (over : Ending) (past : List Event) (doing : Doing) → SettlesBy d desk over past doing → life_in doing ≡ over.life.generation
settles_its d desk over past (Busy g request) settles = settles.0
settles_its d desk over past (Idle g) settles = settles.0
settles_its d desk over past Off settles = absurd settles
settles_its d desk over past (Dying g) settles = absurd settles

-- and so far there was a take for each INVOKE
pub settles_took : (d : Domain) (desk : Desk) (over : Ending) (past : List Event) (server : ℕ) (doing : Doing) → over.life.server.0 ≡ server → SettlesBy d desk over past doing → TookEach server past over.life
settles_took d desk over past server (Busy g request) its (same, settles) =
    let e : Ended = record { request = request; server = over.life.server; generation = over.life.generation; outcome = lost_by over.cause } in
    let settled = settles e (is_its over.life.server.0 over.life.generation.0 over.life.server.0 over.life.generation.0 refl refl) refl in
    subst (λ (s : ℕ). count (is_take_in s over.life.generation.0) past ≡ length (invokes_of over.life)) its settled.taken
settles_took d desk over past server (Idle g) its (same, settled) = subst (λ (s : ℕ). count (is_take_in s over.life.generation.0) past ≡ length (invokes_of over.life)) its settled.taken
settles_took d desk over past server Off its settles = absurd settles
settles_took d desk over past server (Dying g) its settles = absurd settles
