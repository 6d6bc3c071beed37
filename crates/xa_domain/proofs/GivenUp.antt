-- A desk that is given up shows the same of its server.
use Rattle.std.proofs.Common.{◌≡◌, ℕ, true, List, [], ◌∷◌, ◌++◌, map, length, None, inl, inr, sym, ◌∙◌, ap, subst}
use Rattle.std.specs.Prelude.{⊤}
use Rattle.std.specs.List.{All}
use Rattle.std.proofs.lemmas.List.Elements.{All-weaker}
use Rattle.xa_boot.specs.xa_types.declared.call.Op.{Op}
use Rattle.xa_boot.specs.xa_types.declared.data.Data.{Data}
use Rattle.xa_boot.specs.xa_events.declared.event.Event.{Event}
use Rattle.xa_boot.specs.xa_events.declared.event.Event.TheVariants.{Take}
use Rattle.xa_boot.specs.xa_events.declared.event.Ended.{Ended}
use Rattle.xa_boot.specs.xa_events.Caller.{just_accepted, last_op}
use Rattle.xa_boot.specs.xa_events.Cases.{IsShut}
use Rattle.xa_boot.specs.xa_events.Homes.Home.{QueueHome}
use Rattle.xa_boot.specs.xa_events.Server.{starts, is_gone, was_shut_down}
use Rattle.xa_boot.specs.xa_events.Words.{AtEach}
use Rattle.xa_boot.specs.xa_stamp.declared.home.Stamped.{Stamped}
use Rattle.xa_boot.specs.xa_cell.Known.{known}
use Rattle.xa_boot.specs.xa_cell.Views.{at}
use Rattle.xa_boot.specs.xa_worker.Seen.{SawQueue}
use Rattle.xa_boot.specs.xa_worker.Work.{WorkState, theirs}
use Rattle.xa_boot.specs.xa_pipe.Following.{HasStopped}
use Rattle.xa_boot.specs.xa_pipe.Life.{StopsSpent, stops_life}
use Rattle.xa_boot.specs.xa_pipe.Standing.{LifeState, Ending, invokes_of}
use Rattle.xa_boot.proofs.xa_pipe.Followed.{stopped_led}
use Rattle.xa_boot.specs.xa_server.Served.{StarterShows}
use Rattle.xa_boot.specs.xa_desk.declared.domain.Domain.{Domain}
use Rattle.xa_boot.specs.xa_desk.declared.desk.Desk.{Desk}
use Rattle.xa_boot.specs.xa_desk.Serving.{IsSentFor, LeftOthers, IsSwept}
use Rattle.xa_boot.specs.xa_desk.Whole.{entries_of}
use Rattle.xa_boot.proofs.xa_desk.Staying.{queue_stays}
use Rattle.xa_boot.proofs.xa_client_worker.Ending.{given_up_fits}
use Rattle.xa_boot.specs.xa_server_worker.Behind.{FilledBehind, TellsLast}
use Rattle.xa_boot.specs.xa_server_worker.Lives.{calls_of_all, HandsOn, HasMadeCalls, HasStarted, HasStartedSoFar, IsCut, IsDone, IsHanded, IsLived, ServerShows, TookEach, failed_starts, lives_in}
use Rattle.xa_boot.specs.xa_server_worker.Reasons.{ShowsReason}
use Rattle.xa_domain.specs.Gathering.{IsGivenUp}

module _ {d : Domain} {old new : Desk} (given : IsGivenUp d old new) where
  -- what holds of the events that the worker noted holds still
  still : (P : List Event → Type 0) → P (theirs old.caller.work) → P (theirs new.caller.work)
  still P holds = subst P (sym (ap theirs given.work)) holds

  told_still : TellsLast old → TellsLast new
  told_still told k =
      subst (λ (own : List Stamped). All (FilledBehind ⊤ ⊤ own) (at k (known new.caller.seat)).filled) (sym (ap (λ (w : WorkState). w.own) given.work))
      (subst (All (FilledBehind ⊤ ⊤ old.caller.work.own)) (sym (given.fills.filled k)) (told k))

  reason_still : (service : List ℕ) (payload : Data) (e : Ended) (own : List Event) → ShowsReason d old service payload e own → ShowsReason d new service payload e own
  reason_still service payload e own why = record {
    front = why.front;
    stamp = why.stamp;
    rest = why.rest;
    noted = ap (λ (w : WorkState). w.own) given.work ∙ why.noted;
    before = why.before;
    shows = λ whole on. why.shows whole (given.leads.before whole on);
  }

  calls_still : (ops : List Op) → HasMadeCalls d ops old → HasMadeCalls d ops new
  calls_still ops made = record {
    last = subst (λ (w : WorkState). last_op w.id.0 (theirs w) ≡ length ops) (sym given.work) made.last;
    over = subst (λ (w : WorkState). just_accepted w.id.0 (theirs w) ≡ None) (sym given.work) made.over;
    fits = given_up_fits d old new given.leads given.work given.phase ops made.fits;
  }

  module _ (queue server : ℕ) where
    -- ---- what was handed on

    handed_one : (g : ℕ) (e : Event) (life : LifeState) (before : List Event) → IsHanded server g (invokes_of life) (IsSentFor d queue old) e before → IsHanded server g (invokes_of life) (IsSentFor d queue new) e before
    handed_one g (Take t) life before handed = λ its. let it = handed its in (it.0, λ whole on. it.1 whole (given.leads.before whole on), it.2)
    handed_one g _ life before handed = tt

    handed_each : (g : ℕ) (life : LifeState) (own : List Event) → AtEach (IsHanded server g (invokes_of life) (IsSentFor d queue old)) own → AtEach (IsHanded server g (invokes_of life) (IsSentFor d queue new)) own
    handed_each g life [] each = tt
    handed_each g life (e ∷ own) each = (handed_one g e life own each.0, handed_each g life own each.1)

    handed_still : (g : ℕ) (life : LifeState) → AtEach (IsHanded server g (invokes_of life) (IsSentFor d queue old)) (theirs old.caller.work) → AtEach (IsHanded server g (invokes_of life) (IsSentFor d queue new)) (theirs new.caller.work)
    handed_still g life each = still (AtEach (IsHanded server g (invokes_of life) (IsSentFor d queue new))) (handed_each g life (theirs old.caller.work) each)

    hands_still : (life : LifeState) → HandsOn d queue server old life → HandsOn d queue server new life
    hands_still life hands = record { taken = still (λ own. TookEach server own life) hands.taken; handed = handed_still life.generation.0 life hands.handed }

    -- ---- how it lived, and how it is done

    lived_still : (name : List ℕ) (over : Ending) → IsLived d name queue server old over → IsLived d name queue server new over
    lived_still name over is = record {
      over_is = is.over_is;
      its = is.its;
      named = is.named;
      stopped = still (HasStopped d.setup d.clients (ShowsReason d new) over) (stopped_led d.setup (ShowsReason d old) (ShowsReason d new) reason_still d.clients over (theirs old.caller.work) is.stopped);
      shut = λ idle whole on.
          subst (All (λ (x : Stamped). stops_life over.life.server.0 over.life.generation.0 x.event ≡ true → SawQueue d.setup queue (entries_of whole (QueueHome queue)) x.stamp (IsShut d.setup queue))) (sym (ap (λ (w : WorkState). w.own) given.work))
          (is.shut idle whole (given.leads.before whole on));
      spent = λ finishing. still (AtEach (StopsSpent d.clients over.life.server.0 over.life.generation.0)) (is.spent finishing);
      handed = handed_still over.life.generation.0 over.life is.handed;
    }

    done_still : IsDone d queue server old → IsDone d queue server new
    done_still done = elim done [
      | inl (shut, saw) ↦ inl (still (λ own. was_shut_down server own ≡ true) shut, queue_stays d old new given.leads queue (IsShut d.setup queue) saw)
      | inr (gone, saw) ↦ inr (
        still (λ own. is_gone server own ≡ true) gone,
        elim saw [
          | inl left ↦ inl (queue_stays d old new given.leads queue (LeftOthers d queue server) left)
          | inr swept ↦ inr (queue_stays d old new given.leads queue (IsSwept d queue) swept)
        ],
      )
    ]

    pub shows_still : {name : List ℕ} {lives : List Ending} {cut : List LifeState} {shown : StarterShows} {Whole : Type 0} → ServerShows d name queue server old lives cut shown Whole → ServerShows d name queue server new lives cut shown Whole
    shows_still {name} {lives} {cut} {shown} {Whole} is = record {
      lives_are = still (λ own. map (λ (over : Ending). over.life.generation) lives ++ map (λ (life : LifeState). life.generation) cut ≡ lives_in server own) is.lives_are;
      taken = All-weaker (HandsOn d queue server old) (HandsOn d queue server new) hands_still (map (λ (over : Ending). over.life) lives ++ cut) is.taken;
      cut_off = still (λ own. All (IsCut name server own) cut) is.cut_off;
      so_far = still (λ own. HasStartedSoFar name (length (starts server own)) (failed_starts server own) shown) is.so_far;
      told = told_still is.told;
      none_cut = is.none_cut;
      lived = λ whole. All-weaker (IsLived d name queue server old) (IsLived d name queue server new) (lived_still name) lives (is.lived whole);
      called = λ whole. calls_still (calls_of_all lives) (is.called whole);
      started = λ whole. still (λ own. HasStarted name (length (starts server own)) (failed_starts server own) shown) (is.started whole);
      done = λ whole. done_still (is.done whole);
    }
