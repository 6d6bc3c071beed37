-- How a server's worker stands between its steps: its server is off, or in a life, or the worker's work is over (this project's own).
use Rattle.std.specs.Prelude.{◌≡◌, ℕ, ◌+◌, ◌-◌, ◌^◌, ◌<◌, ◌≤◌, false, true, List, [], ◌∷◌, ◌++◌, map, length, Option, Some, None, IfSome, Result, Ok, Err, vec_len, vec_capacity}
use Rattle.std.specs.List.{All, flat_map}
use Rattle.xa_desk.specs.xa_types.declared.ids.Generation.{Generation}
use Rattle.xa_desk.specs.xa_types.declared.call.Op.{Op}
use Rattle.xa_desk.specs.xa_events.declared.event.Event.{Event}
use Rattle.xa_desk.specs.xa_events.declared.event.Event.TheVariants.{Take, End}
use Rattle.xa_desk.specs.xa_events.declared.event.Taken.{Taken}
use Rattle.xa_desk.specs.xa_events.declared.event.Ended.{Ended}
use Rattle.xa_desk.specs.xa_events.declared.event.Doing.{Doing}
use Rattle.xa_desk.specs.xa_events.declared.event.Doing.TheVariants as doings
use Rattle.xa_desk.specs.xa_events.Words.{AtEach}
use Rattle.xa_desk.specs.xa_events.Caller.{last_op, just_accepted}
use Rattle.xa_desk.specs.xa_events.Cases.{IsShut}
use Rattle.xa_desk.specs.xa_queue.declared.entry.Entry.{Entry}
use Rattle.xa_desk.specs.xa_held.Kept.{IsRight}
use Rattle.xa_desk.specs.xa_worker.Work.{theirs}
use Rattle.xa_desk.specs.xa_caller.declared.phase.Phase.TheVariants.{Idle}
use Rattle.xa_desk.specs.xa_caller.Drafts.{Cargo}
use Rattle.xa_desk.specs.xa_pipe.declared.turn.Turn.TheVariants.{AwaitsInvoke, Serving, Finishing, Performing}
use Rattle.xa_desk.specs.xa_pipe.Frames.{is_of_life, may_call, finish_frame}
use Rattle.xa_desk.specs.xa_pipe.declared.hearing.Finish.{Finish}
use Rattle.xa_desk.specs.xa_pipe.Changes.{Heard}
use Rattle.xa_desk.specs.xa_pipe.declared.turn.Turn.{Turn}
use Rattle.xa_desk.specs.xa_pipe.Life.{may_end, lost_by, is_acting, calls_in}
use Rattle.xa_desk.specs.xa_pipe.Standing.{LifeState, Ending, returned, tag_of, invokes_of, calls_of}
use Rattle.xa_desk.specs.xa_pipe.Following.{is_of, due_in_life, Follows, Settled}
use Rattle.xa_desk.specs.xa_server.declared.closing.Closing.{Closing}
use Rattle.xa_desk.specs.xa_server.declared.slot.ServerSlot.{ServerSlot}
use Rattle.xa_desk.specs.xa_server.Doings.{is_death}
use Rattle.xa_desk.specs.xa_server.Served.{StarterShows}
use Rattle.xa_desk.specs.xa_restart.Rule.{may_start_by}
use Rattle.xa_desk.specs.declared.domain.Domain.{Domain}
use Rattle.xa_desk.specs.declared.desk.Desk.{Desk}
use Rattle.xa_desk.specs.declared.stopped.Stopped.{Stopped}
use Rattle.xa_desk.specs.Desks.{IsDesk, Leads, FitsCalls, shown_to}
use Rattle.xa_desk.specs.Found.{SawAtQueue}
use Rattle.xa_desk.specs.Serving.{IsServing, IsSentFor, IsTaken, IsToTell}
use Rattle.xa_calls.specs.Going.{IsOut}
use Rattle.xa_server_worker.specs.declared.attending.Attended.{Attended}
use Rattle.xa_server_worker.specs.declared.attending.Attended.TheVariants as attendeds
use Rattle.xa_server_worker.specs.declared.living.Exchanged.{Exchanged}
use Rattle.xa_server_worker.specs.declared.living.Exchanged.TheVariants as exchanges
use Rattle.xa_server_worker.specs.declared.living.Off.{Off}
use Rattle.xa_server_worker.specs.declared.living.Off.TheVariants as offs
use Rattle.xa_server_worker.specs.declared.working.ServerWorker.{ServerWorker}
use Rattle.xa_desk.specs.Halting.{IsStopAt}
use Rattle.xa_server_worker.specs.Lives.{lives_in, failed_starts, calls_of_all, HasStarted, IsHanded, IsLived, ServerShows}
use Rattle.xa_server_worker.specs.Behind.{ToldBefore, ToldBy}
use Rattle.xa_server_worker.specs.Reasons.{ShowsReason}
use Rattle.xa_server_worker.specs.Working.{cut_in}

-- ---- lives

-- these lives ended, and another may go on, which is the server's last; no event is of a later one, or tells anything in it
pub record HasLived (d : Domain) (name : List ℕ) (queue server made : ℕ) (desk : Desk) (lives : List Ending) (going : List Generation) : Type 0 where
  pub are : map (λ (over : Ending). over.life.generation) lives ++ going ≡ lives_in server (theirs desk.caller.work)
  pub each : All (IsLived d name queue server desk) lives
  pub earlier : All (λ (over : Ending). over.life.generation.0 + length going ≤ made) lives
  pub unborn : (g : ℕ) → made < g → All (λ (e : Event). is_of server g e ≡ false) (theirs desk.caller.work)
  pub untold : (g : ℕ) → made < g → due_in_life d.clients server g (theirs desk.caller.work) ≡ []

-- the server made these calls so far, and the last of them is over; whatever calls come behind them, what its worker noted fits
pub record HasCalled (d : Domain) (ops : List Op) (desk : Desk) : Type 0 where
  pub last : last_op desk.caller.work.id.0 (theirs desk.caller.work) ≡ length ops
  pub over : just_accepted desk.caller.work.id.0 (theirs desk.caller.work) ≡ None
  pub fits : (more : List Op) → FitsCalls d (ops ++ more) desk

-- the life is the slot's last one
pub record IsLast (name : List ℕ) (slot : ServerSlot) (life : LifeState) : Type 0 where
  pub server : life.server ≡ slot.server
  pub named : life.name ≡ name
  pub number : life.generation.0 ≡ slot.made

-- it went as these events say, and each request of theirs that it took was handed on
pub record IsGoing (d : Domain) (queue : ℕ) (desk : Desk) (own : List Event) (life : LifeState) : Type 0 where
  pub follows : Follows d.setup d.clients (ShowsReason d desk) life own
  pub handed : AtEach (IsHanded life.server.0 life.generation.0 (invokes_of life) (IsSentFor d queue desk)) own

-- what the end of a life comes to, by what its server does: with a request in hand it is settled behind the end of that
abbrev pub SettlesBy : Domain → Desk → Ending → List Event → Doing → Type 0
SettlesBy d desk over own (doings.Idle g) = (g ≡ over.life.generation) × Settled d.setup d.clients (ShowsReason d desk) over own
SettlesBy d desk over own (doings.Busy g request) = (g ≡ over.life.generation) × ((e : Ended) → is_of_life over.life.server.0 over.life.generation.0 e.server.0 e.generation.0 ≡ true → e.outcome ≡ lost_by over.cause → Settled d.setup d.clients (ShowsReason d desk) over (End e ∷ own))
SettlesBy d desk over own doing = ⊥

-- ---- the worker

abbrev pub why_of : Result Unit Stopped → Option Stopped
why_of (Ok none) = None
why_of (Err stopped) = Some stopped

-- what the worker is stays, and its desk went on
pub record Goes {L T : Type 0} (d : Domain) (old new : ServerWorker L T) : Type 0 where
  pub leads : Leads d old.desk new.desk
  pub id : new.desk.caller.work.id ≡ old.desk.caller.work.id
  pub clients : new.desk.caller.work.clients ≡ old.desk.caller.work.clients
  pub server : new.served.slot.server ≡ old.served.slot.server
  pub name : new.name ≡ old.name
  pub queue : new.queue ≡ old.queue

module _ {L T : Type 0} (d : Domain) (shows : T → StarterShows) where
  -- at its work, with the life that goes on, if one does: the server wasn't given up
  pub record IsAtWork (w : ServerWorker L T) (going : List LifeState) : Type 0 where
    pub is : IsDesk d w.desk
    pub serving : IsServing d w.queue.0 w.served.slot w.desk
    pub named_so : (shows w.served.starter).name ≡ w.name
    pub started : HasStarted w.name w.served.slot.made (failed_starts w.served.slot.server.0 (theirs w.desk.caller.work)) (shows w.served.starter)
    pub lived : HasLived d w.name w.queue.0 w.served.slot.server.0 w.served.slot.made w.desk w.served.lives.items (map (λ (life : LifeState). life.generation) going)
    pub called : HasCalled d (calls_of_all w.served.lives.items ++ flat_map calls_of going) w.desk
    pub left : w.served.slot.gone ≡ false
    pub cut : w.cut ≡ None
    pub told : ToldBy going w.desk

  -- the server is off, and wasn't shut down
  pub record IsOff (w : ServerWorker L T) : Type 0 where
    pub at : IsAtWork w []
    pub off : w.served.slot.doing ≡ doings.Off
    pub up : w.served.slot.shut ≡ false

  -- and was never started
  pub record IsUntried (w : ServerWorker L T) : Type 0 where
    pub off : IsOff w
    pub none : w.served.slot.restarts.starts ≡ []

  -- and may be started at that tick, which the clock showed its worker last
  pub record MayGoOn (tick : ℕ) (w : ServerWorker L T) : Type 0 where
    pub off : IsOff w
    pub shown : tick ≡ shown_to w.desk
    pub may : may_start_by w.served.slot.restarts tick ≡ true

  -- the server is in that life, of which so many requests wait for their RETURN
  pub record IsIn (doing : Doing) (turn : Turn) (waits : ℕ) (life : LifeState) (w : ServerWorker L T) : Type 0 where
    pub at : IsAtWork w (life ∷ [])
    pub last : IsLast w.name w.served.slot life
    pub going : IsGoing d w.queue.0 w.desk (theirs w.desk.caller.work) life
    pub does : w.served.slot.doing ≡ doing
    pub turns : life.turn ≡ turn
    pub asked : length (invokes_of life) ≡ returned life + waits
    pub room : vec_len w.served.lives < vec_capacity w.served.lives

  -- it waits for a request
  abbrev pub IsFree : LifeState → ServerWorker L T → Type 0
  IsFree life w = IsIn (doings.Idle life.generation) AwaitsInvoke 0 life w

  -- the server took a request in that life, which isn't handed on yet
  pub record HasTaken (life : LifeState) (w : ServerWorker L T) : Type 0 where
    pub at : IsAtWork w (life ∷ [])
    pub last : IsLast w.name w.served.slot life
    pub t : Taken
    pub before : List Event
    pub own : theirs w.desk.caller.work ≡ Take t ∷ before
    pub its : is_of_life life.server.0 life.generation.0 t.server.0 t.generation.0 ≡ true
    pub going : IsGoing d w.queue.0 w.desk before life
    pub entry : Entry Cargo
    pub hand : w.served.slot.hand ≡ Some entry
    pub taken : IsTaken d w.queue.0 t w.desk entry
    pub does : w.served.slot.doing ≡ doings.Busy life.generation t.request
    pub turns : life.turn ≡ AwaitsInvoke
    pub asked : length (invokes_of life) ≡ returned life
    pub room : vec_len w.served.lives < vec_capacity w.served.lives

  -- the server is busy with the request of that take, in that life and turn
  pub record IsBusyWith (turn : Turn) (t : Taken) (life : LifeState) (w : ServerWorker L T) : Type 0 where
    pub is : IsIn (doings.Busy life.generation t.request) turn 1 life w
    pub taken : IfSome w.served.slot.hand (IsTaken d w.queue.0 t w.desk)

  -- and its service is to go on with it; it may call no more where the server's calls came to their end
  pub record IsServed (turn : Turn) (t : Taken) (life : LifeState) (w : ServerWorker L T) : Type 0 where
    pub busy : IsBusyWith turn t life w
    pub acts : is_acting turn ≡ true
    pub spent : turn ≡ Finishing → last_op w.desk.caller.work.id.0 (theirs w.desk.caller.work) ≡ 2 ^ 32 - 1

  -- it is done with it so
  pub record HasFinished (t : Taken) (back : Finish) (life : LifeState) (w : ServerWorker L T) : Type 0 where
    pub turn : Turn
    pub old : LifeState
    pub served : IsServed turn t old w
    pub heard : Heard (finish_frame (tag_of old) back) life old

  -- or asked for that call, which is to be made
  pub record IsCalling (op : Op) (t : Taken) (life : LifeState) (w : ServerWorker L T) : Type 0 where
    pub busy : IsBusyWith Performing t life w
    pub asked : calls_in life.said ≡ calls_of life ++ op ∷ []
    pub may : may_call op ≡ true
    pub more : w.desk.caller.op < 2 ^ 32 - 1

  -- the life ended by itself, and that is to be noted
  pub record MayDie (over : Ending) (w : ServerWorker L T) : Type 0 where
    pub at : IsAtWork w (over.life ∷ [])
    pub last : IsLast w.name w.served.slot over.life
    pub handed : AtEach (IsHanded over.life.server.0 over.life.generation.0 (invokes_of over.life) (IsSentFor d w.queue.0 w.desk)) (theirs w.desk.caller.work)
    pub settles : SettlesBy d w.desk over (theirs w.desk.caller.work) w.served.slot.doing
    pub shut : over.life.turn ≡ AwaitsInvoke → SawAtQueue d w.queue.0 w.desk (IsShut d.setup w.queue.0)
    pub spent : over.life.turn ≡ Finishing → last_op w.desk.caller.work.id.0 (theirs w.desk.caller.work) ≡ 2 ^ 32 - 1
    pub dies : may_end over.cause over.life.turn over.written ≡ true → is_death over.cause ≡ true
    pub room : vec_len w.served.lives < vec_capacity w.served.lives

  -- the worker's work is over, for that reason where it isn't done
  pub record HasEnded (why : Option Stopped) (w : ServerWorker L T) : Type 0 where
    pub is : IsDesk d w.desk
    pub number : w.desk.caller.work.clients + w.served.slot.server.0 ≡ w.desk.caller.work.id.0
    pub named_so : (shows w.served.starter).name ≡ w.name
    pub idle : why ≡ None → w.desk.caller.phase ≡ Idle
    pub out : IsOut w.desk
    pub hand : IfSome w.served.slot.hand (IsRight d.cells)
    pub shown : ServerShows d w.name w.queue.0 w.served.slot.server.0 w.desk w.served.lives.items (cut_in w.cut) (shows w.served.starter) (why ≡ None)
    pub halts : IfSome why (IsStopAt w.desk)

  -- ---- what steps of it leave

  -- the service was told what came of its call, its life ended, or it said how it is done with the request of that take
  abbrev pub AttendedAs : Taken → Attended L → ServerWorker L T → Type 0
  AttendedAs t (attendeds.Going life) w = IsServed Serving t life w
  AttendedAs t (attendeds.Died over) w = MayDie over w
  AttendedAs t (attendeds.Done life back) w = HasFinished t back life w

  -- the life is over, and somebody may be to be told; nobody was told of its end yet
  abbrev pub OverWith : Option Closing → ServerWorker L T → Type 0
  OverWith closing w = IsOff w × IfSome closing (IsToTell d w.desk) × ToldBefore w.desk

  abbrev pub ExchangedAs : Exchanged L → ServerWorker L T → Type 0
  ExchangedAs (exchanges.Going life) w = IsFree life w
  ExchangedAs (exchanges.Over closing) w = OverWith (Some closing) w

  -- the life is over, as its queue was closed and empty, or by itself
  abbrev pub OffAs : Off → ServerWorker L T → Type 0
  OffAs offs.Shut w = HasEnded None w
  OffAs (offs.Dead closing) w = OverWith closing w
