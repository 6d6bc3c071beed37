-- The lives of a server beside its worker's own events, and how a server is done (after Tuxedo, UBBCONFIG; that a server's worker notes its events is
-- this project's own). Lists of events have the newest first.
use Rattle.std.specs.Prelude.{◌≡◌, ◌⊎◌, ℕ, zero, suc, ◌+◌, ◌-◌, ◌^◌, ◌==◌, min, if◌then◌else◌, Bool, true, false, List, [], ◌∷◌, ◌++◌, map, reverse, length, take, drop, Option, Some, None, IfSome}
use Rattle.std.specs.List.{All, filter_map, flat_map}
use Rattle.xa_desk.specs.xa_types.declared.ids.Generation.{Generation}
use Rattle.xa_desk.specs.xa_types.declared.call.Op.{Op}
use Rattle.xa_desk.specs.xa_events.declared.event.Event.{Event}
use Rattle.xa_desk.specs.xa_events.declared.event.Event.TheVariants.{Take, Start, StartFailed}
use Rattle.xa_desk.specs.xa_events.declared.event.Taken.{Taken}
use Rattle.xa_desk.specs.xa_events.Words.{AtEach, count}
use Rattle.xa_desk.specs.xa_events.Caller.{last_op, just_accepted}
use Rattle.xa_desk.specs.xa_events.Server.{starts, is_gone, was_shut_down}
use Rattle.xa_desk.specs.xa_events.Cases.{IsShut}
use Rattle.xa_desk.specs.xa_frame.declared.frame.Frame.{Frame}
use Rattle.xa_desk.specs.xa_events.Homes.Home.{QueueHome}
use Rattle.xa_desk.specs.xa_stamp.declared.home.Stamped.{Stamped}
use Rattle.xa_desk.specs.xa_worker.Seen.{SawQueue}
use Rattle.xa_desk.specs.xa_held.declared.cargo.Invocation.{Invocation}
use Rattle.xa_desk.specs.xa_pipe.declared.turn.Turn.TheVariants.{AwaitsInvoke, Finishing}
use Rattle.xa_desk.specs.xa_pipe.Frames.{is_of_life, is_take_in, invocation}
use Rattle.xa_desk.specs.xa_pipe.Following.{HasStopped}
use Rattle.xa_desk.specs.xa_pipe.Life.{stops_life, StopsSpent}
use Rattle.xa_desk.specs.xa_pipe.Pipe.{invoke_frame}
use Rattle.xa_desk.specs.xa_pipe.Standing.{LifeState, IsCutOff, Ending, IsOver, invokes_of, calls_of}
use Rattle.xa_desk.specs.xa_server.Served.{StarterShows}
use Rattle.xa_desk.specs.xa_worker.Work.{theirs}
use Rattle.xa_desk.specs.declared.domain.Domain.{Domain}
use Rattle.xa_desk.specs.declared.desk.Desk.{Desk}
use Rattle.xa_desk.specs.Whole.{Whole, entries_of}
use Rattle.xa_desk.specs.Desks.{GoesOn, FitsCalls}
use Rattle.xa_desk.specs.Found.{SawAtQueue}
use Rattle.xa_desk.specs.Serving.{IsSentFor, LeftOthers, IsSwept}
use Rattle.xa_server_worker.specs.Behind.{TellsLast}
use Rattle.xa_server_worker.specs.Reasons.{ShowsReason}

-- ---- its starts

-- the generation of the life of that server that the event starts, if it starts one
abbrev pub generation_in : ℕ → Event → Option Generation
generation_in server (Start s) = if s.server.0 == server then Some s.generation else None
generation_in server _ = None

-- the generations of the server's lives, the oldest first
abbrev pub lives_in : ℕ → List Event → List Generation
lives_in server past = reverse (filter_map (generation_in server) past)

abbrev pub fails_start : ℕ → Event → Bool
fails_start server (StartFailed s) = s.server.0 == server
fails_start server _ = false

-- how many starts of the server failed
abbrev pub failed_starts : ℕ → List Event → ℕ
failed_starts server past = count (fails_start server) past

-- the first n starts of the server of that name
abbrev pub starts_of : List ℕ → ℕ → List (List ℕ × Generation)
starts_of name zero = []
starts_of name (suc n) = starts_of name n ++ (name, record { 0 = suc n }) ∷ []

-- the starter was asked for the first n starts of the server of that name, where it tells them, and counts so many that failed, up to 2^64 - 1
pub record HasStarted (name : List ℕ) (n failed : ℕ) (shown : StarterShows) : Type 0 where
  pub asked : IfSome shown.asked (λ all. all ≡ starts_of name n)
  pub counts : shown.faults ≡ min failed (2 ^ 64 - 1)

-- so it was, or it was asked for one start more, which failed or not
abbrev pub HasStartedSoFar : List ℕ → ℕ → ℕ → StarterShows → Type 0
HasStartedSoFar name n failed shown = HasStarted name n failed shown ⊎ HasStarted name (n + 1) failed shown ⊎ HasStarted name (n + 1) (failed + 1) shown

-- ---- its INVOKEs, and its calls

-- the server took a request for each INVOKE that was due to its program in that life
abbrev pub TookEach : ℕ → List Event → LifeState → Type 0
TookEach server own life = count (is_take_in server life.generation.0) own ≡ length (invokes_of life)

-- a take of the life was handed on by the INVOKE at its place among these, with what its request was sent for
abbrev pub IsHanded : ℕ → ℕ → List Frame → (Taken → Invocation → Type 0) → Event → List Event → Type 0
IsHanded server g invokes IsSent (Take t) before = is_of_life server g t.server.0 t.generation.0 ≡ true
    → (what : Invocation) × IsSent t what
    × (take 1 (drop (count (is_take_in server g) before) invokes) ≡ invoke_frame what.service what.routine (invocation server g (Take t ∷ before)) what.payload ∷ [])
IsHanded server g invokes IsSent e before = Unit {0}

-- each request that the server took in that life was handed on by an INVOKE, with what it was sent for last, and no other INVOKE was due
pub record HandsOn (d : Domain) (queue server : ℕ) (desk : Desk) (life : LifeState) : Type 0 where
  pub taken : TookEach server (theirs desk.caller.work) life
  pub handed : AtEach (IsHanded server life.generation.0 (invokes_of life) (IsSentFor d queue desk)) (theirs desk.caller.work)

-- a life that went on at a halt, of the server of that name and number, as it stood then: its link took the octets of the INVOKEs and REPLYs that were
-- due, its program spoke in turn and was ended by force, and its end isn't among these events
pub record IsCut (name : List ℕ) (server : ℕ) (own : List Event) (life : LifeState) : Type 0 where
  pub cut_off : IsCutOff life
  pub its : life.server.0 ≡ server
  pub named : life.name ≡ name
  pub alive : count (stops_life server life.generation.0) own ≡ 0

-- ---- a life

-- the calls that the programs of these lives asked for, and that were made, in order
abbrev pub calls_of_all : List Ending → List Op
calls_of_all lives = flat_map (λ (over : Ending). calls_of over.life) lives

-- the server made exactly these calls: each event of a call that its worker noted is one of the call with its number, and the last is over
pub record HasMadeCalls (d : Domain) (ops : List Op) (desk : Desk) : Type 0 where
  pub last : last_op desk.caller.work.id.0 (theirs desk.caller.work) ≡ length ops
  pub over : just_accepted desk.caller.work.id.0 (theirs desk.caller.work) ≡ None
  pub fits : FitsCalls d ops desk

-- the queue was seen closed, with nothing that waits, before the end of the life was noted
abbrev pub EndsShut : Domain → ℕ → Desk → Ending → Type 0
EndsShut d queue desk over = (whole : Whole) → GoesOn d whole desk
    → All (λ (x : Stamped). stops_life over.life.server.0 over.life.generation.0 x.event ≡ true → SawQueue d.setup queue (entries_of whole (QueueHome queue)) x.stamp (IsShut d.setup queue)) desk.caller.work.own

-- a life that ended, of the server of that name and number: it went and ended as its worker noted, each request that it took was handed on, where it
-- waited for one as it ended its queue was shut, and where it could call no more its server's calls had come to their end
pub record IsLived (d : Domain) (name : List ℕ) (queue server : ℕ) (desk : Desk) (over : Ending) : Type 0 where
  pub over_is : IsOver over
  pub its : over.life.server.0 ≡ server
  pub named : over.life.name ≡ name
  pub stopped : HasStopped d.setup d.clients (ShowsReason d desk) over (theirs desk.caller.work)
  pub shut : over.life.turn ≡ AwaitsInvoke → EndsShut d queue desk over
  pub spent : over.life.turn ≡ Finishing → AtEach (StopsSpent d.clients over.life.server.0 over.life.generation.0) (theirs desk.caller.work)
  pub handed : AtEach (IsHanded server over.life.generation.0 (invokes_of over.life) (IsSentFor d queue desk)) (theirs desk.caller.work)

-- ---- its end

-- the server was shut down, behind the close of its queue, where nothing waited; or it was given up, before another server of the queue, or as the
-- queue's last one, and then the queue went down and was swept
abbrev pub IsDone : Domain → ℕ → ℕ → Desk → Type 0
IsDone d queue server desk = ((was_shut_down server (theirs desk.caller.work) ≡ true) × SawAtQueue d queue desk (IsShut d.setup queue))
    ⊎ ((is_gone server (theirs desk.caller.work) ≡ true) × (SawAtQueue d queue desk (LeftOthers d queue server) ⊎ SawAtQueue d queue desk (IsSwept d queue)))

-- all that the worker shows of its server in the end: which lives there were, of which the last may have been cut, that in each it handed on the requests
-- that it took, how often its starter was asked, and that whoever was told was told behind the end of a life; where it came to its end, also how each life went, that
-- it made exactly the calls that their programs asked for, and how the server was done
pub record ServerShows (d : Domain) (name : List ℕ) (queue server : ℕ) (desk : Desk) (lives : List Ending) (cut : List LifeState) (shown : StarterShows) (Whole : Type 0) : Type 0 where
  pub lives_are : map (λ (over : Ending). over.life.generation) lives ++ map (λ (life : LifeState). life.generation) cut ≡ lives_in server (theirs desk.caller.work)
  pub taken : All (HandsOn d queue server desk) (map (λ (over : Ending). over.life) lives ++ cut)
  pub cut_off : All (IsCut name server (theirs desk.caller.work)) cut
  pub so_far : HasStartedSoFar name (length (starts server (theirs desk.caller.work))) (failed_starts server (theirs desk.caller.work)) shown
  pub told : TellsLast desk
  pub none_cut : Whole → cut ≡ []
  pub lived : Whole → All (IsLived d name queue server desk) lives
  pub called : Whole → HasMadeCalls d (calls_of_all lives) desk
  pub started : Whole → HasStarted name (length (starts server (theirs desk.caller.work))) (failed_starts server (theirs desk.caller.work)) shown
  pub done : Whole → IsDone d queue server desk
