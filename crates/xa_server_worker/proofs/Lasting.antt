-- Where a server's worker stands, as its desk and its slot go on.
use Rattle.std.proofs.Common.{◌≡◌, ◌<◌, ◌⊎◌, ℕ, ◌+◌, Bool, false, true, List, [], ◌∷◌, ◌++◌, map, length, Option, Some, None, inl, inr, refl, sym, ◌∙◌, ap, subst, append_assoc, arith}
use Rattle.std.specs.Prelude.{IfSome, ⊤}
use Rattle.std.specs.List.{All, flat_map}
use Rattle.std.proofs.lemmas.Bool.{false≢true}
use Rattle.std.proofs.lemmas.List.{append-nil}
use Rattle.std.proofs.lemmas.List.Elements.{All-nil, All-cons, All-append, All-map, All-weaker}
use Rattle.xa_desk.specs.xa_types.declared.ids.Generation.{Generation}
use Rattle.xa_desk.specs.xa_types.declared.call.Op.{Op}
use Rattle.xa_desk.specs.xa_events.declared.event.Event.{Event}
use Rattle.xa_desk.specs.xa_events.declared.event.Doing.{Doing}
use Rattle.xa_desk.specs.xa_events.declared.event.Event.TheVariants.{Take}
use Rattle.xa_desk.specs.xa_events.Words.{AtEach, count}
use Rattle.xa_desk.specs.xa_events.Caller.{is_call_of, last_op, just_accepted}
use Rattle.xa_desk.specs.xa_events.Homes.{of_worker}
use Rattle.xa_desk.specs.xa_events.Homes.Home.{QueueHome}
use Rattle.xa_desk.specs.xa_events.Cases.{IsShut}
use Rattle.xa_desk.specs.xa_events.Server.{starts, is_gone, was_shut_down}
use Rattle.xa_desk.specs.xa_stamp.declared.home.Stamped.{Stamped}
use Rattle.xa_desk.specs.xa_worker.Seen.{past_in, SawQueue}
use Rattle.xa_desk.proofs.xa_worker.Lists.{count_part}
use Rattle.xa_desk.specs.xa_worker.Work.{WorkState, theirs}
use Rattle.xa_desk.specs.xa_pipe.declared.turn.Turn.TheVariants.{AwaitsInvoke, Finishing}
use Rattle.xa_desk.specs.xa_pipe.declared.turn.Turn.{Turn}
use Rattle.xa_desk.specs.xa_pipe.Frames.{is_take_in}
use Rattle.xa_desk.specs.xa_pipe.Life.{stops_life, StopsSpent}
use Rattle.xa_desk.specs.xa_pipe.Standing.{LifeState, Ending, IsOver, cut_short, invokes_of, calls_of}
use Rattle.xa_desk.specs.xa_pipe.Following.{is_of, HasStopped}
use Rattle.xa_desk.specs.xa_server.declared.slot.ServerSlot.{ServerSlot}
use Rattle.xa_desk.specs.xa_server.declared.served.Served.{Served}
use Rattle.xa_desk.specs.xa_server.Served.{StarterShows}
use Rattle.xa_desk.specs.declared.domain.Domain.{Domain}
use Rattle.xa_desk.specs.declared.desk.Desk.{Desk}
use Rattle.xa_desk.specs.declared.stopped.Stopped.{Stopped}
use Rattle.xa_desk.specs.Whole.{entries_of}
use Rattle.xa_desk.specs.Desks.{IsDesk, FitsCalls, shown_to}
use Rattle.xa_desk.specs.xa_caller.Phases.{IsPrepared}
use Rattle.xa_desk.specs.xa_caller.declared.phase.Phase.TheVariants.{Idle}
use Rattle.xa_calls.specs.Going.{IsOut}
use Rattle.xa_desk.specs.Found.{SawAtQueue}
use Rattle.xa_desk.specs.xa_held.Kept.{IsRight}
use Rattle.xa_desk.specs.Serving.{IsServing, IsSentFor, LeftOthers, IsSwept}
use Rattle.xa_desk.proofs.Staying.{queue_stays}
use Rattle.xa_desk.specs.xa_worker.declared.work.Halt.TheVariants.{NoMemory, Worn}
use Rattle.xa_desk.specs.declared.stopped.Stopped.TheVariants.{Here, Elsewhere}
use Rattle.xa_desk.proofs.xa_server.Reading.{last_by_floor}
use Rattle.xa_desk.specs.xa_restart.Rule.{RestartState, IsLast as IsLastTick, may_start_by}
use Rattle.xa_desk.specs.xa_caller.Caller.{CallerState}
use Rattle.xa_desk.specs.Ticking.{ReadsClock}
use Rattle.xa_desk.proofs.Starting.{floor_shown}
use Rattle.xa_desk.proofs.Leading.{leads_trans}
use Rattle.xa_desk.specs.xa_server.declared.closing.Closing.{Closing}
use Rattle.xa_server_worker.specs.Behind.{TellsLast, ToldBefore, IsCalm}
use Rattle.xa_server_worker.proofs.Behind.{still_before, still_behind, tells_last, tells_calm, by_told}
use Rattle.xa_server_worker.proofs.Stepping.{read_steps, told_steps, serving_told}
use Rattle.xa_server_worker.specs.declared.working.ServerWorker.{ServerWorker}
use Rattle.xa_desk.specs.Halting.{IsStopAt}
use Rattle.xa_server_worker.specs.Lives.{failed_starts, lives_in, calls_of_all, HasMadeCalls, HasStarted, HasStartedSoFar, IsDone, IsHanded, IsLived, EndsShut, TookEach, HandsOn, IsCut, ServerShows}
use Rattle.xa_server_worker.specs.Working.{cut_in}
use Rattle.xa_server_worker.specs.Steps.{Steps, Serves, Tells}
use Rattle.xa_server_worker.specs.Standing.{Goes, HasLived, HasCalled, IsLast, IsGoing, IsAtWork, IsOff, IsIn, HasEnded}
use Rattle.xa_server_worker.proofs.Keeping.{OfLife, Adds, life_adds, no_calls, skip_count, failed_same, handed_led, handed_more, lives_on, lives_end, lives_off, lived_one, going_on, called_still, fits_still, none_counted, stops_own}
use Rattle.xa_server_worker.specs.Reasons.{ShowsReason}

-- how a server is done stays, where its worker noted nothing of its own
pub done_on : {d : Domain} {queue : ℕ} (server : ℕ) {old new : Desk} → Steps d [] old new → IsDone d queue server old → IsDone d queue server new
done_on {d} {queue} server {old} {new} steps done = elim done [
  | inl (shut, saw) ↦ inl (subst (λ (own : List Event). was_shut_down server own ≡ true) (sym {A = List Event} steps.own) shut, queue_stays d old new steps.leads queue (IsShut d.setup queue) saw)
  | inr (gone, saw) ↦ inr (
    subst (λ (own : List Event). is_gone server own ≡ true) (sym {A = List Event} steps.own) gone,
    elim saw [
      | inl left ↦ inl (queue_stays d old new steps.leads queue (LeftOthers d queue server) left)
      | inr swept ↦ inr (queue_stays d old new steps.leads queue (IsSwept d queue) swept)
    ],
  )
]

-- ---- what the slot counts

pub number_of : {d : Domain} {queue : ℕ} {slot : ServerSlot} {desk : Desk} → IsServing d queue slot desk → desk.caller.work.clients + slot.server.0 ≡ desk.caller.work.id.0
number_of serving = serving.stands.tables.worker.number

pub starts_count : {d : Domain} {queue : ℕ} {slot : ServerSlot} {desk : Desk} → IsServing d queue slot desk → length (starts slot.server.0 (theirs desk.caller.work)) ≡ slot.made
starts_count serving = ap length serving.stands.tables.reads.started ∙ serving.stands.tables.reads.count

pub lives_moved : {d : Domain} {name : List ℕ} {queue s s' m m' : ℕ} {desk : Desk} {lives : List Ending} {going : List Generation} → s' ≡ s → m' ≡ m → HasLived d name queue s m desk lives going → HasLived d name queue s' m' desk lives going
lives_moved {d} {name} {queue} {s} {s'} {m} {m'} {desk} {lives} {going} server made is =
    subst (λ (n : ℕ). HasLived d name queue n m' desk lives going) (sym server) (subst (λ (n : ℕ). HasLived d name queue s n desk lives going) (sym made) is)

pub failed_on : {d : Domain} {more : List Event} {old new : Desk} {server made : ℕ} → Adds d server made more old new → (slot slot' : ServerSlot) → slot.server.0 ≡ server → slot'.server ≡ slot.server → failed_starts slot'.server.0 (theirs new.caller.work) ≡ failed_starts slot.server.0 (theirs old.caller.work)
failed_on {d} {more} {old} {new} adds slot slot' is server =
    ap (λ s. failed_starts s.0 (theirs new.caller.work)) server ∙ (ap (λ (s : ℕ). failed_starts s (theirs new.caller.work)) is ∙ (failed_same adds ∙ ap (λ (s : ℕ). failed_starts s (theirs old.caller.work)) (sym is)))

pub started_on : {name : List ℕ} {n n' f f' : ℕ} {shown shown' : StarterShows} → n' ≡ n → f' ≡ f → shown' ≡ shown → HasStarted name n f shown → HasStarted name n' f' shown'
started_on {name} {n} {n'} {f} {f'} {shown} {shown'} made failed shows is =
    subst (λ s. HasStarted name n' f' s) (sym shows) (subst (λ (m : ℕ). HasStarted name m f' shown) (sym made) (subst (λ (m : ℕ). HasStarted name n m shown) (sym failed) is))

pub last_on : (name : List ℕ) (slot slot' : ServerSlot) (life : LifeState) → slot'.server ≡ slot.server → slot'.made ≡ slot.made → IsLast name slot life → IsLast name slot' life
last_on name slot slot' life server made last = record { server = last.server ∙ sym server; named = last.named; number = last.number ∙ sym made }

-- ---- an INVOKE for each take

pub lives_hand : {d : Domain} {name : List ℕ} {queue server : ℕ} {desk : Desk} (lives : List Ending) → All (IsLived d name queue server desk) lives → All (HandsOn d queue server desk) (map (λ (over : Ending). over.life) lives)
lives_hand {d} {name} {queue} {server} {desk} lives each =
    All-map (HandsOn d queue server desk) (λ (over : Ending). over.life) lives
    (All-weaker (IsLived d name queue server desk) (λ (over : Ending). HandsOn d queue server desk over.life)
    (λ over is. record { taken = subst (λ (s : ℕ). TookEach s (theirs desk.caller.work) over.life) is.its is.stopped.taken; handed = is.handed }) lives each)

takes_none : (server g : ℕ) (e : Event) → is_of server g e ≡ false → is_take_in server g e ≡ false
takes_none server g (Take t) other = other
takes_none server g _ other = refl

-- so it stays where the worker noted no event of the life
pub hands_beside : {d : Domain} {queue server : ℕ} {old new : Desk} {life : LifeState} {more : List Event} → Steps d more old new → All (λ (e : Event). is_of server life.generation.0 e ≡ false) more → HandsOn d queue server old life → HandsOn d queue server new life
hands_beside {d} {queue} {server} {old} {new} {life} {more} steps others is = record {
  taken = ap (count (is_take_in server life.generation.0)) steps.own
      ∙ (skip_count (is_take_in server life.generation.0) more (theirs old.caller.work) (All-weaker (λ (e : Event). is_of server life.generation.0 e ≡ false) (λ (e : Event). is_take_in server life.generation.0 e ≡ false) (takes_none server life.generation.0) more others) ∙ is.taken);
  handed = subst (AtEach (IsHanded server life.generation.0 (invokes_of life) (IsSentFor d queue new))) (sym {A = List Event} steps.own)
      (handed_more server life.generation.0 (invokes_of life) (IsSentFor d queue new) more (theirs old.caller.work) others (handed_led server life.generation.0 d queue old new (invokes_of life) (theirs old.caller.work) steps.leads is.handed));
}

-- or none at all
pub hands_led : {d : Domain} {queue server : ℕ} {old new : Desk} {life : LifeState} → Steps d [] old new → HandsOn d queue server old life → HandsOn d queue server new life
hands_led {d} {queue} {server} {old} {new} {life} steps is = hands_beside {d = d} {queue = queue} {server = server} {old = old} {new = new} {life = life} steps (All-nil (λ (e : Event). is_of server life.generation.0 e ≡ false)) is

-- the calls of these lives and of one more
pub calls_more : (lives : List Ending) (over : Ending) → calls_of_all (lives ++ over ∷ []) ++ [] ≡ calls_of_all lives ++ flat_map calls_of (over.life ∷ [])
calls_more [] over = append-nil (calls_of over.life ++ [])
calls_more (x ∷ lives) over = append_assoc (calls_of x.life) (calls_of_all (lives ++ over ∷ [])) [] ∙ (ap (λ (ops : List Op). calls_of x.life ++ ops) (calls_more lives over) ∙ sym (append_assoc (calls_of x.life) (calls_of_all lives) (flat_map calls_of (over.life ∷ []))))

-- with none that was cut
pub none_cut : (P : LifeState → Type 0) (lives : List LifeState) (cut : Option LifeState) → cut ≡ None → All P lives → All P (lives ++ cut_in cut)
none_cut P lives cut none all = subst (λ (o : Option LifeState). All P (lives ++ cut_in o)) (sym none) (subst (All P) (sym (append-nil lives)) all)

pub none_off : (P : LifeState → Type 0) (cut : Option LifeState) → cut ≡ None → All P (cut_in cut)
none_off P cut none = subst (λ (o : Option LifeState). All P (cut_in o)) (sym none) (All-nil P)

-- the worker with another slot at another desk
abbrev pub at_desk : {L T : Type 0} → ServerWorker L T → ServerSlot → Desk → ServerWorker L T
at_desk w slot desk = record w { desk = desk; served = record w.served { slot = slot } }

-- or with that desk alone
abbrev pub at_read : {L T : Type 0} → ServerWorker L T → Desk → ServerWorker L T
at_read w desk = at_desk w w.served.slot desk

-- and with a life more that is kept
abbrev pub at_kept : {L T : Type 0} → ServerWorker L T → Served L T → ServerSlot → Desk → ServerWorker L T
at_kept w kept slot desk = record w { desk = desk; served = record kept { slot = slot } }

-- its calls stay what they were, where the worker noted nothing of its own
made_still : {d : Domain} {old new : Desk} → Steps d [] old new → (ops : List Op) → HasMadeCalls d ops old → HasMadeCalls d ops new
made_still {d} {old} {new} steps ops is =
    let over = ap (λ i. just_accepted i.0 (theirs new.caller.work)) steps.id ∙ (ap (just_accepted old.caller.work.id.0) steps.own ∙ is.over) in
    let so : FitsCalls d ops new = fits_still steps ops (All-nil (λ (e : Event). is_call_of old.caller.work.id.0 e ≡ false)) over is.fits in
    record {
      last = ap (λ i. last_op i.0 (theirs new.caller.work)) steps.id ∙ (ap (last_op old.caller.work.id.0) steps.own ∙ is.last);
      over = over;
      fits = so;
    }

-- with no life that goes on these are all
pub made_all : {d : Domain} {desk : Desk} (ops : List Op) → HasCalled d (ops ++ []) desk → HasMadeCalls d ops desk
made_all {d} {desk} ops is = record {
  last = is.last ∙ ap length (append-nil ops);
  over = is.over;
  fits = subst (λ (all : List Op). FitsCalls d all desk) (append-nil (ops ++ []) ∙ append-nil ops) (is.fits []);
}

-- with nothing out to be put on a queue it may be given up
pub idle_out : (desk : Desk) → desk.caller.phase ≡ Idle → IsOut desk
idle_out desk idle prepared = subst IsPrepared idle prepared

-- as the clock is read, nobody is told of the end of a life
pub before_read : {d : Domain} {old new : Desk} {tick : ℕ} → ReadsClock d tick old new → ToldBefore old → ToldBefore new
before_read {d} {old} {new} reads told = still_before old new (ap (λ (c : CallerState). c.work.own) reads.sees.1) (ap (λ (c : CallerState). c.seat) reads.sees.1) told

-- a server that was never started may be started
pub first_may : (r : RestartState) (tick : ℕ) → r.starts ≡ [] → may_start_by r tick ≡ true
first_may r tick none = ap (λ (s : List ℕ). may_start_by (record r { starts = s }) tick) none

module _ {L T : Type 0} {d : Domain} {shows : T → StarterShows} where
  -- ---- in a life

  -- what it noted is of the life that goes on, or of a call that was made in it; where no call was made its calls are the same
  pub work_adds : (w : ServerWorker L T) (slot' : ServerSlot) (desk' : Desk) (more : List Event) (going : LifeState) → Serves d w.queue.0 more w.served.slot slot' w.desk desk' → Adds d w.served.slot.server.0 w.served.slot.made more w.desk desk' → (IsCalm w.desk → IsCalm desk')
      → (life : LifeState) → life.generation ≡ going.generation → HasCalled d (calls_of_all w.served.lives.items ++ flat_map calls_of (life ∷ [])) desk' → IsAtWork d shows w (going ∷ []) → IsAtWork d shows (at_desk w slot' desk') (life ∷ [])
  work_adds w slot' desk' more going serves adds calm life same called at = record {
    is = serves.steps.leads.desk;
    serving = serves.serving;
    named_so = at.named_so;
    started = started_on serves.made (failed_on adds w.served.slot slot' refl serves.server) refl at.started;
    lived = lives_moved (ap (λ s. s.0) serves.server) serves.made
        (subst (λ (g : Generation). HasLived d w.name w.queue.0 w.served.slot.server.0 w.served.slot.made desk' w.served.lives.items (g ∷ [])) (sym same) (lives_on adds w.name w.queue.0 w.served.lives.items going.generation at.lived));
    called = called;
    left = serves.gone ∙ at.left;
    cut = at.cut;
    told = calm at.told;
  }

  -- what it noted is of the life
  pub adds_on : (w : ServerWorker L T) (slot' : ServerSlot) (desk' : Desk) (more : List Event) {going : List LifeState} → Serves d w.queue.0 more w.served.slot slot' w.desk desk' → All (OfLife w.served.slot.made) more → IsAtWork d shows w going
      → Adds d w.served.slot.server.0 w.served.slot.made more w.desk desk'
  adds_on w slot' desk' more serves its at = life_adds serves.steps w.served.slot.server.0 w.served.slot.made (number_of at.serving) its

  pub work_on : (w : ServerWorker L T) (slot' : ServerSlot) (desk' : Desk) (more : List Event) (life : LifeState) → Serves d w.queue.0 more w.served.slot slot' w.desk desk' → All (OfLife w.served.slot.made) more → (IsCalm w.desk → IsCalm desk') → IsAtWork d shows w (life ∷ [])
      → IsAtWork d shows (at_desk w slot' desk') (life ∷ [])
  work_on w slot' desk' more life serves its calm at =
      work_adds w slot' desk' more life serves (adds_on w slot' desk' more serves its at) calm life refl (called_still serves.steps _ (no_calls w.desk.caller.work.id.0 w.served.slot.made more its) at.called) at

  -- where nothing was noted it is in it still
  pub in_on : (w : ServerWorker L T) (slot' : ServerSlot) (desk' : Desk) (doing : Doing) (turn : Turn) (n : ℕ) (life : LifeState) → Serves d w.queue.0 [] w.served.slot slot' w.desk desk' → slot' ≡ w.served.slot → (IsCalm w.desk → IsCalm desk') → IsIn d shows doing turn n life w
      → IsIn d shows doing turn n life (at_desk w slot' desk')
  in_on w slot' desk' doing turn n life serves same calm is = record {
    at = work_on w slot' desk' [] life serves (All-none w.served.slot.made) calm is.at;
    last = last_on w.name w.served.slot slot' life serves.server serves.made is.last;
    going = subst (λ (own : List Event). IsGoing d w.queue.0 desk' own life) (sym {A = List Event} serves.steps.own) (going_on serves.steps w.queue.0 (theirs w.desk.caller.work) life is.going);
    does = ap (λ (s : ServerSlot). s.doing) same ∙ is.does;
    turns = is.turns;
    asked = is.asked;
    room = is.room;
  }
    where
      All-none : (g : ℕ) → All (OfLife g) []
      All-none g = All-nil (OfLife g)

  -- ---- as a life ended, and is kept

  module _ (w : ServerWorker L T) (over : Ending) (at : IsAtWork d shows w (over.life ∷ [])) (last : IsLast w.name w.served.slot over.life) (ended : IsOver over) (kept : Served L T) (lives : kept.lives.items ≡ w.served.lives.items ++ over ∷ []) (starter : kept.starter ≡ w.served.starter)
      (slot' : ServerSlot) (desk' : Desk) (more : List Event) (serves : Serves d w.queue.0 more w.served.slot slot' w.desk desk') (its : All (OfLife w.served.slot.made) more) where
    -- its queue was shut, where its end came behind that
    pub ends_shut : (rest : List Stamped) → desk'.caller.work.own ≡ w.desk.caller.work.own ++ rest → All (λ (x : Stamped). w.desk.caller.work.stamp.0 < x.stamp.0) rest → count (stops_life over.life.server.0 over.life.generation.0) (theirs w.desk.caller.work) ≡ 0
        → SawAtQueue d w.queue.0 w.desk (IsShut d.setup w.queue.0) → EndsShut d w.queue.0 desk' over
    ends_shut rest own later alive saw whole on =
        let p : Event → Bool = stops_life over.life.server.0 over.life.generation.0 in
        let old : WorkState = w.desk.caller.work in
        let P : Stamped → Type 0 = λ x. p x.event ≡ true → SawQueue d.setup w.queue.0 (entries_of whole (QueueHome w.queue.0)) x.stamp (IsShut d.setup w.queue.0) in
        let number = ap (λ s. old.clients + s.0) last.server ∙ number_of at.serving in
        let none : count p (past_in old.own) ≡ 0 = sym (count_part p (of_worker old.clients old.id.0) (stops_own old.clients old.id.0 over.life.server.0 over.life.generation.0 number) (past_in old.own)) ∙ alive in
        subst (All P) (sym {A = List Stamped} own)
        (All-append P old.own rest (All-weaker (λ (x : Stamped). p x.event ≡ false) P (λ x off is. absurd (false≢true (sym off ∙ is))) old.own (none_counted p old.own none))
        (All-weaker (λ (x : Stamped). old.stamp.0 < x.stamp.0) P (λ x less is. saw whole (serves.steps.leads.before whole on) x.stamp less) rest later))

    pub ends_lived : HasStopped d.setup d.clients (ShowsReason d desk') over (theirs desk'.caller.work) → (over.life.turn ≡ AwaitsInvoke → EndsShut d w.queue.0 desk' over)
        → (over.life.turn ≡ Finishing → AtEach (StopsSpent d.clients over.life.server.0 over.life.generation.0) (theirs desk'.caller.work)) → AtEach (IsHanded over.life.server.0 over.life.generation.0 (invokes_of over.life) (IsSentFor d w.queue.0 desk')) (theirs desk'.caller.work)
        → IsLived d w.name w.queue.0 w.served.slot.server.0 desk' over
    ends_lived stopped shut spent handed =
        let server : over.life.server.0 ≡ w.served.slot.server.0 = ap (λ s. s.0) last.server in
        record {
          over_is = ended;
          its = server;
          named = last.named;
          stopped = stopped;
          shut = shut;
          spent = spent;
          handed = subst (λ n. AtEach (IsHanded n over.life.generation.0 (invokes_of over.life) (IsSentFor d w.queue.0 desk')) (theirs desk'.caller.work)) server handed;
        }

    pub ends_work : TellsLast desk' → IsLived d w.name w.queue.0 w.served.slot.server.0 desk' over → IsAtWork d shows (at_kept w kept slot' desk') []
    ends_work told lived = record {
      is = serves.steps.leads.desk;
      serving = serves.serving;
      named_so = ap (λ s. (shows s).name) starter ∙ at.named_so;
      started = started_on serves.made (failed_on (adds_on w slot' desk' more serves its at) w.served.slot slot' refl serves.server) (ap shows starter) at.started;
      lived = lives_moved (ap (λ s. s.0) serves.server) serves.made
          (subst (λ (l : List Ending). HasLived d w.name w.queue.0 w.served.slot.server.0 w.served.slot.made desk' l []) (sym {A = List Ending} lives)
          (lives_end (adds_on w slot' desk' more serves its at) w.name w.queue.0 w.served.lives.items over last.number lived at.lived));
      called = subst (λ (l : List Ending). HasCalled d (calls_of_all l ++ []) desk') (sym {A = List Ending} lives)
          (subst (λ (ops : List Op). HasCalled d ops desk') (sym (calls_more w.served.lives.items over)) (called_still serves.steps _ (no_calls w.desk.caller.work.id.0 w.served.slot.made more its) at.called));
      left = serves.gone ∙ at.left;
      cut = at.cut;
      told = told;
    }

  pub in_took : {w : ServerWorker L T} {doing : Doing} {turn : Turn} {n : ℕ} {life : LifeState} → IsIn d shows doing turn n life w → TookEach w.served.slot.server.0 (theirs w.desk.caller.work) life
  in_took {w} {doing} {turn} {n} {life} is = subst (λ s. TookEach s.0 (theirs w.desk.caller.work) life) is.last.server is.going.follows.taken

  pub in_hands : {w : ServerWorker L T} {doing : Doing} {turn : Turn} {n : ℕ} {life : LifeState} → IsIn d shows doing turn n life w → HandsOn d w.queue.0 w.served.slot.server.0 w.desk life
  in_hands {w} {doing} {turn} {n} {life} is = record {
    taken = in_took is;
    handed = subst (λ s. AtEach (IsHanded s.0 life.generation.0 (invokes_of life) (IsSentFor d w.queue.0 w.desk)) (theirs w.desk.caller.work)) is.last.server is.going.handed;
  }

  pub in_alive : {w : ServerWorker L T} {doing : Doing} {turn : Turn} {n : ℕ} {life : LifeState} → IsIn d shows doing turn n life w → count (stops_life w.served.slot.server.0 life.generation.0) (theirs w.desk.caller.work) ≡ 0
  in_alive {w} {doing} {turn} {n} {life} is = subst (λ s. count (stops_life s.0 life.generation.0) (theirs w.desk.caller.work) ≡ 0) is.last.server is.going.follows.alive

  -- ---- where the worker's work is over

  -- at a halt
  pub halts : (w : ServerWorker L T) (stopped : Stopped) → IsDesk d w.desk → w.desk.caller.work.clients + w.served.slot.server.0 ≡ w.desk.caller.work.id.0 → IsOut w.desk → IfSome w.served.slot.hand (IsRight d.cells)
      → length (starts w.served.slot.server.0 (theirs w.desk.caller.work)) ≡ w.served.slot.made → (shows w.served.starter).name ≡ w.name → map (λ (over : Ending). over.life.generation) w.served.lives.items ++ map (λ (life : LifeState). life.generation) (cut_in w.cut) ≡ lives_in w.served.slot.server.0 (theirs w.desk.caller.work)
      → All (HandsOn d w.queue.0 w.served.slot.server.0 w.desk) (map (λ (over : Ending). over.life) w.served.lives.items ++ cut_in w.cut) → All (IsCut w.name w.served.slot.server.0 (theirs w.desk.caller.work)) (cut_in w.cut)
      → HasStartedSoFar w.name w.served.slot.made (failed_starts w.served.slot.server.0 (theirs w.desk.caller.work)) (shows w.served.starter) → TellsLast w.desk → IsStopAt w.desk stopped → HasEnded d shows (Some stopped) w
  halts w stopped is number out hand counted named_so are taken off so_far told at_end = record {
    is = is;
    number = number;
    named_so = named_so;
    idle = λ whole. absurd (cc whole);
    out = out;
    hand = hand;
    shown = record {
      lives_are = are;
      taken = taken;
      cut_off = off;
      so_far = subst (λ (n : ℕ). HasStartedSoFar w.name n (failed_starts w.served.slot.server.0 (theirs w.desk.caller.work)) (shows w.served.starter)) (sym counted) so_far;
      told = told;
      none_cut = λ whole. absurd (cc whole);
      lived = λ whole. absurd (cc whole);
      called = λ whole. absurd (cc whole);
      started = λ whole. absurd (cc whole);
      done = λ whole. absurd (cc whole);
    };
    halts = at_end;
  }

  -- in a life, which is cut off
  pub halts_at : (w : ServerWorker L T) (cut : Option LifeState) (going : List LifeState) (stopped : Stopped) → IsAtWork d shows w going → map (λ (life : LifeState). life.generation) (cut_in cut) ≡ map (λ (life : LifeState). life.generation) going → All (HandsOn d w.queue.0 w.served.slot.server.0 w.desk) (cut_in cut) → All (IsCut w.name w.served.slot.server.0 (theirs w.desk.caller.work)) (cut_in cut)
      → IsStopAt w.desk stopped → HasEnded d shows (Some stopped) (record w { cut = cut })
  halts_at w cut going stopped at is took off at_end =
      halts (record w { cut = cut }) stopped at.is (number_of at.serving) (idle_out w.desk at.serving.idle) at.serving.hand (starts_count at.serving) at.named_so (ap (λ (l : List Generation). map (λ (over : Ending). over.life.generation) w.served.lives.items ++ l) is ∙ at.lived.are)
      (All-append (HandsOn d w.queue.0 w.served.slot.server.0 w.desk) (map (λ (over : Ending). over.life) w.served.lives.items) (cut_in cut) (lives_hand w.served.lives.items at.lived.each) took) off (inl at.started) (by_told going w.desk at.told) at_end

  -- at its end
  pub ends_done : (w : ServerWorker L T) → IsAtWork d shows w [] → w.served.slot.hand ≡ None → IsDone d w.queue.0 w.served.slot.server.0 w.desk → HasEnded d shows None w
  ends_done w at hand done =
      let started : HasStarted w.name (length (starts w.served.slot.server.0 (theirs w.desk.caller.work))) (failed_starts w.served.slot.server.0 (theirs w.desk.caller.work)) (shows w.served.starter) =
      started_on (starts_count at.serving) refl refl at.started in
      record {
        is = at.is;
        number = number_of at.serving;
        named_so = at.named_so;
        idle = λ whole. at.serving.idle;
        out = idle_out w.desk at.serving.idle;
        hand = subst (λ h. IfSome h (IsRight d.cells)) (sym hand) tt;
        shown = record {
          lives_are = ap (λ (o : Option LifeState). map (λ (over : Ending). over.life.generation) w.served.lives.items ++ map (λ (life : LifeState). life.generation) (cut_in o)) at.cut ∙ at.lived.are;
          taken = none_cut (HandsOn d w.queue.0 w.served.slot.server.0 w.desk) (map (λ (over : Ending). over.life) w.served.lives.items) w.cut at.cut (lives_hand w.served.lives.items at.lived.each);
          cut_off = none_off (IsCut w.name w.served.slot.server.0 (theirs w.desk.caller.work)) w.cut at.cut;
          so_far = inl started;
          told = at.told;
          none_cut = λ whole. ap cut_in at.cut;
          lived = λ whole. at.lived.each;
          called = λ whole. made_all (calls_of_all w.served.lives.items) at.called;
          started = λ whole. started;
          done = λ whole. done;
        };
        halts = tt;
      }

  -- and behind that, as somebody is told, with nothing or no more in hand
  pub ended_tells : (w : ServerWorker L T) (slot' : ServerSlot) (desk' : Desk) (why : Option Stopped) → slot'.server ≡ w.served.slot.server → (slot'.hand ≡ None) ⊎ (slot' ≡ w.served.slot) → {closing : Option Closing} → Tells d closing w.desk desk' → HasEnded d shows why w → HasEnded d shows why (at_desk w slot' desk')
  ended_tells w slot' desk' why server hand {closing} tells ended =
      let steps = told_steps tells in
      let s : ℕ = w.served.slot.server.0 in
      let shown = ended.shown in
      let shows_same : ServerShows d w.name w.queue.0 s desk' w.served.lives.items (cut_in w.cut) (shows w.served.starter) (why ≡ None) = record {
        lives_are = shown.lives_are ∙ ap (lives_in s) (sym steps.own);
        taken = All-weaker (HandsOn d w.queue.0 s w.desk) (HandsOn d w.queue.0 s desk') (λ life is. hands_led steps is) (map (λ (over : Ending). over.life) w.served.lives.items ++ cut_in w.cut) shown.taken;
        cut_off = subst (λ (own : List Event). All (IsCut w.name s own) (cut_in w.cut)) (sym {A = List Event} steps.own) shown.cut_off;
        so_far = subst (λ (own : List Event). HasStartedSoFar w.name (length (starts s own)) (failed_starts s own) (shows w.served.starter)) (sym {A = List Event} steps.own) shown.so_far;
        told = tells_last w.desk desk' tells shown.told;
        none_cut = shown.none_cut;
        lived = λ whole. All-weaker (IsLived d w.name w.queue.0 s w.desk) (IsLived d w.name w.queue.0 s desk') (λ over is. lived_one (life_adds {more = []} steps s (over.life.generation.0 + 1) ended.number (All-nil (OfLife (over.life.generation.0 + 1)))).spares w.name w.queue.0 over (λ same. absurd (omega (arith, same))) is) w.served.lives.items (shown.lived whole);
        called = λ whole. made_still steps _ (shown.called whole);
        started = λ whole. subst (λ (own : List Event). HasStarted w.name (length (starts s own)) (failed_starts s own) (shows w.served.starter)) (sym {A = List Event} steps.own) (shown.started whole);
        done = λ whole. done_on s steps (shown.done whole);
      } in
      record {
        is = steps.leads.desk;
        number = ap (λ n. n + slot'.server.0) steps.clients ∙ ap (λ x. w.desk.caller.work.clients + x.0) server ∙ ended.number ∙ ap (λ i. i.0) (sym steps.id);
        named_so = ended.named_so;
        idle = λ whole. ap (λ (desk : Desk). desk.caller.phase) tells.rest ∙ ended.idle whole;
        out = λ prepared. ended.out (subst IsPrepared (ap (λ (desk : Desk). desk.caller.phase) tells.rest) prepared);
        hand = elim hand [
          | inl none ↦ subst (λ h. IfSome h (IsRight d.cells)) (sym none) tt
          | inr same ↦ subst (λ (x : ServerSlot). IfSome x.hand (IsRight d.cells)) (sym same) ended.hand
        ];
        shown = subst (λ (x : ℕ). ServerShows d w.name w.queue.0 x desk' w.served.lives.items (cut_in w.cut) (shows w.served.starter) (why ≡ None)) (ap (λ x. x.0) (sym server)) shows_same;
        halts = halts_on why ended.halts;
      }
    where
      halts_on : (o : Option Stopped) → IfSome o (IsStopAt w.desk) → IfSome o (IsStopAt desk')
      halts_on None is = tt
      halts_on (Some Elsewhere) is = tt
      halts_on (Some (Here NoMemory)) is = tt
      halts_on (Some (Here (Worn stamp))) is = (is.0, ap (λ (desk : Desk). desk.caller.work.stamp.0) tells.rest ∙ is.1)

  -- a life that goes on is cut
  pub cut_ends : (w other : ServerWorker L T) (life : LifeState) (stopped : Stopped) → IsAtWork d shows w (life ∷ []) → other ≡ record w { cut = Some (cut_short life) } → HandsOn d w.queue.0 w.served.slot.server.0 w.desk life → IsCut w.name w.served.slot.server.0 (theirs w.desk.caller.work) (cut_short life) → IsStopAt w.desk stopped
      → HasEnded d shows (Some stopped) other
  cut_ends w other life stopped at rest hands off stop =
      let Hands : LifeState → Type 0 = HandsOn d w.queue.0 w.served.slot.server.0 w.desk in
      let still : Hands (cut_short life) = record { taken = hands.taken; handed = hands.handed } in
      let Off : LifeState → Type 0 = IsCut w.name w.served.slot.server.0 (theirs w.desk.caller.work) in
      subst (HasEnded d shows (Some stopped)) (sym rest) (halts_at w (Some (cut_short life)) (life ∷ []) stopped at refl (All-cons Hands (cut_short life) [] still (All-nil Hands)) (All-cons Off (cut_short life) [] off (All-nil Off)) stop)

  -- somebody is told
  pub in_told : (w : ServerWorker L T) (desk' : Desk) (doing : Doing) (turn : Turn) (n : ℕ) (life : LifeState) {closing : Option Closing} → Tells d closing w.desk desk' → IsIn d shows doing turn n life w → IsIn d shows doing turn n life (at_desk w w.served.slot desk')
  in_told w desk' doing turn n life {closing} tells is = in_on w w.served.slot desk' doing turn n life (record { steps = told_steps tells; serving = serving_told tells is.at.serving; server = refl; made = refl; gone = refl }) refl (tells_calm w.desk desk' tells) is

  -- where nothing was noted it is off still
  off_on : (w : ServerWorker L T) (desk' : Desk) → Steps d [] w.desk desk' → IsServing d w.queue.0 w.served.slot desk' → TellsLast desk' → IsOff d shows w → IsOff d shows (at_desk w w.served.slot desk')
  off_on w desk' steps serving told off =
      let at = off.at in
      let adds : (g : ℕ) → Adds d w.served.slot.server.0 g [] w.desk desk' = λ g. life_adds steps w.served.slot.server.0 g (number_of at.serving) (All-nil (OfLife g)) in
      record {
        at = record {
          is = steps.leads.desk;
          serving = serving;
          named_so = at.named_so;
          started = started_on refl (failed_on (adds 0) w.served.slot w.served.slot refl refl) refl at.started;
          lived = lives_off adds w.name w.queue.0 w.served.slot.made w.served.lives.items at.lived;
          called = called_still steps _ (All-nil (λ (e : Event). is_call_of w.desk.caller.work.id.0 e ≡ false)) at.called;
          left = at.left;
          cut = at.cut;
          told = told;
        };
        off = off.off;
        up = off.up;
      }

  pub off_told : (w : ServerWorker L T) (desk' : Desk) {closing : Option Closing} → Tells d closing w.desk desk' → IsOff d shows w → IsOff d shows (at_desk w w.served.slot desk')
  off_told w desk' {closing} tells off = off_on w desk' (told_steps tells) (serving_told tells off.at.serving) (tells_last w.desk desk' tells off.at.told) off

  -- its worker reads the clock
  pub off_read : (w : ServerWorker L T) (desk' : Desk) {tick : ℕ} → ReadsClock d tick w.desk desk' → IsServing d w.queue.0 w.served.slot desk' → IsOff d shows w → IsOff d shows (at_desk w w.served.slot desk')
  off_read w desk' reads serving off = off_on w desk' (read_steps reads) serving (still_behind w.desk desk' ⊤ (ap (λ (c : CallerState). c.work.own) reads.sees.1) (ap (λ (c : CallerState). c.seat) reads.sees.1) off.at.told) off

  -- no start of its was made after what the clock showed last
  pub last_shown : (w : ServerWorker L T) (tick : ℕ) → IsOff d shows w → tick ≡ shown_to w.desk → IsLastTick tick w.served.slot.restarts.starts
  last_shown w tick off shown = last_by_floor w.served.slot w.desk.caller.work off.at.serving.stands.tables tick (floor_shown off.at.is shown)

  -- its first start is counted
  pub in_counted : {doing : Doing} {turn : Turn} {n : ℕ} {life : LifeState} (w other : ServerWorker L T) → other ≡ record w { counted = other.counted } → IsIn d shows doing turn n life w → IsIn d shows doing turn n life other
  in_counted {doing} {turn} {n} {life} w other rest is = subst (IsIn d shows doing turn n life) (sym rest) (record {
    at = record { is = is.at.is; serving = is.at.serving; named_so = is.at.named_so; started = is.at.started; lived = is.at.lived; called = is.at.called; left = is.at.left; cut = is.at.cut; told = is.at.told };
    last = is.last;
    going = is.going;
    does = is.does;
    turns = is.turns;
    asked = is.asked;
    room = is.room;
  })

-- ---- what the worker is

module _ {L T : Type 0} {d : Domain} where
  pub goes_by : (w w' : ServerWorker L T) (more : List Event) → Steps d more w.desk w'.desk → w'.served.slot.server ≡ w.served.slot.server → w'.name ≡ w.name → w'.queue ≡ w.queue → Goes d w w'
  goes_by w w' more steps server name queue = record { leads = steps.leads; id = steps.id; clients = steps.clients; server = server; name = name; queue = queue }

  -- the clock was read
  pub goes_read : (w : ServerWorker L T) (desk' : Desk) {tick : ℕ} → ReadsClock d tick w.desk desk' → Goes d w (at_read w desk')
  goes_read w desk' reads = goes_by w (at_read w desk') [] (read_steps reads) refl refl refl

  -- or somebody was told
  pub goes_tells : (w : ServerWorker L T) (desk' : Desk) {closing : Option Closing} → Tells d closing w.desk desk' → Goes d w (at_read w desk')
  goes_tells w desk' tells = goes_by w (at_read w desk') [] (told_steps tells) refl refl refl

  pub goes_trans : (a b c : ServerWorker L T) → Goes d a b → Goes d b c → Goes d a c
  goes_trans a b c ab bc = record {
    leads = leads_trans d a.desk b.desk c.desk ab.leads bc.leads;
    id = bc.id ∙ ab.id;
    clients = bc.clients ∙ ab.clients;
    server = bc.server ∙ ab.server;
    name = bc.name ∙ ab.name;
    queue = bc.queue ∙ ab.queue;
  }

  -- a life is cut off
  pub goes_cut : (w old other : ServerWorker L T) {cut : Option LifeState} → other ≡ record w { cut = cut } → Goes d old w → Goes d old other
  goes_cut w old other {cut} rest goes = subst (Goes d old) (sym rest) (record { leads = goes.leads; id = goes.id; clients = goes.clients; server = goes.server; name = goes.name; queue = goes.queue })

  -- its first start is counted
  pub goes_counted : (w old other : ServerWorker L T) → other ≡ record w { counted = other.counted } → Goes d old w → Goes d old other
  goes_counted w old other rest goes = subst (Goes d old) (sym rest) (record { leads = goes.leads; id = goes.id; clients = goes.clients; server = goes.server; name = goes.name; queue = goes.queue })
