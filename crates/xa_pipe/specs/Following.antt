-- The events of a life, one by one beside what it did: what its server's worker carries along its own list, and what that comes to at the end (this
-- project's own). Lists of events have the newest first.
use Rattle.std.specs.Prelude.{◌≡◌, ℕ, Bool, true, false, List, [], ◌∷◌, length, take, drop, map, Option, Some, None, if◌then◌else◌}
use Rattle.std.specs.List.{filter}
use Rattle.xa_types.specs.declared.setup.Setup.{Setup}
use Rattle.xa_types.specs.declared.data.Data.{Data}
use Rattle.xa_events.specs.declared.event.Event.{Event}
use Rattle.xa_events.specs.declared.event.Event.TheVariants.{Take, Forward, End, Stop, Accept}
use Rattle.xa_events.specs.Words.{count, from_each, AtEach}
use Rattle.xa_events.specs.State.{caller_of}
use Rattle.xa_events.specs.Server.{moves_server}
use Rattle.xa_events.specs.Caller.{is_call_of}
use Rattle.xa_events.specs.Said.{is_op}
use Rattle.xa_events.specs.Request.{sent_as}
use Rattle.xa_frame.specs.declared.frame.Frame.{Frame}
use Rattle.xa_pipe.specs.declared.turn.Turn.TheVariants.{AwaitsInvoke, Finishing}
use Rattle.xa_pipe.specs.Frames.{is_of_life, is_take_in, is_invoke_body, invocation, invoke_with, replied_at}
use Rattle.xa_pipe.specs.Life.{Reasons, MayFail, EachCame, AllCame, StopsClosed, StopsSpent, stops_life, came_in, cause_of, finishes_in}
use Rattle.xa_pipe.specs.Standing.{LifeState, Ending, invokes_of}

-- the event is one of that life: a take, what became of it, or the life's end
abbrev pub is_of : ℕ → ℕ → Event → Bool
is_of server g (Take t) = is_of_life server g t.server.0 t.generation.0
is_of server g (Forward f) = is_of_life server g f.server.0 f.generation.0
is_of server g (End e) = is_of_life server g e.server.0 e.generation.0
is_of server g (Stop x) = is_of_life server g x.server.0 x.generation.0
is_of server g _ = false

-- the events of one call of the caller, the newest first: one, or the answer or the lapse of a tpcall and its accept
abbrev pub is_accept : Event → Bool
is_accept (Accept a) = true
is_accept e = false

abbrev pub AreCall : ℕ → ℕ → List Event → Type 0
AreCall caller n (e ∷ []) = is_op caller n e ≡ true
AreCall caller n (e ∷ a ∷ []) = (is_op caller n e ≡ true) × (is_accept e ≡ false) × (is_op caller n a ≡ true) × (is_accept a ≡ true)
AreCall caller n events = ⊥

-- ---- what was due

-- these frames, where an INVOKE may be any
abbrev pub shape : List Frame → List (Option Frame)
shape frames = map (λ (f : Frame). if is_invoke_body f.body then None else Some f) frames

abbrev pub due_at : ℕ → ℕ → ℕ → List Event → Event → List Event → List (Option Frame)
due_at clients server g all (Take t) past = if is_of_life server g t.server.0 t.generation.0 then None ∷ [] else []
due_at clients server g all e past = map (λ (f : Frame). Some f) (replied_at clients server g all e past)

-- what was due to the program by these events: an INVOKE for each take, and the REPLY to each call
abbrev pub due_in_life : ℕ → ℕ → ℕ → List Event → List (Option Frame)
due_in_life clients server g own = from_each (due_at clients server g own) own

-- so far there was a take for each INVOKE, and a call for each REPLY, with what it was told; each RETURN and FORWARD came to its event, and no end of the
-- life was noted
pub record Follows (setup : Setup) (clients : ℕ) (Why : Reasons) (life : LifeState) (own : List Event) : Type 0 where
  pub alive : count (stops_life life.server.0 life.generation.0) own ≡ 0
  pub taken : count (is_take_in life.server.0 life.generation.0) own ≡ length (invokes_of life)
  pub told : due_in_life clients life.server.0 life.generation.0 own ≡ shape life.asked
  pub came : EachCame setup Why (finishes_in life.said) (came_in life.server.0 life.generation.0 own)

-- of a life that ended: so it was, and the request in hand was lost with it
pub record Settled (setup : Setup) (clients : ℕ) (Why : Reasons) (over : Ending) (own : List Event) : Type 0 where
  pub alive : count (stops_life over.life.server.0 over.life.generation.0) own ≡ 0
  pub taken : count (is_take_in over.life.server.0 over.life.generation.0) own ≡ length (invokes_of over.life)
  pub told : due_in_life clients over.life.server.0 over.life.generation.0 own ≡ shape over.life.asked
  pub came : AllCame setup Why over.cause over.life.turn (finishes_in over.life.said) (came_in over.life.server.0 over.life.generation.0 own)

-- the newest of these events is the end of the life, and no other is
abbrev pub EndsLast : ℕ → ℕ → List Event → Type 0
EndsLast server g [] = ⊥
EndsLast server g (e ∷ earlier) = (stops_life server g e ≡ true) × (count (stops_life server g) earlier ≡ 0)

-- and that it ended was noted, with its cause, behind its other events
pub record HasStopped (setup : Setup) (clients : ℕ) (Why : Reasons) (over : Ending) (own : List Event) : Type 0 where
  pub taken : count (is_take_in over.life.server.0 over.life.generation.0) own ≡ length (invokes_of over.life)
  pub told : due_in_life clients over.life.server.0 over.life.generation.0 own ≡ shape over.life.asked
  pub came : AllCame setup Why over.cause over.life.turn (finishes_in over.life.said) (came_in over.life.server.0 over.life.generation.0 own)
  pub stopped : cause_of over.life.server.0 over.life.generation.0 own ≡ Some over.cause
  pub last : EndsLast over.life.server.0 over.life.generation.0 (filter (is_of over.life.server.0 over.life.generation.0) own)

-- ---- in a run

-- a take of the life came to the INVOKE at its place among these, by how its request was sent last
abbrev pub IsSent : ℕ → ℕ → List Frame → Event → List Event → Type 0
IsSent server g invokes (Take t) before = is_of_life server g t.server.0 t.generation.0 ≡ true
    → invoke_with (invocation server g (Take t ∷ before)) (sent_as t.request before) ≡ take 1 (drop (count (is_take_in server g) before) invokes)
IsSent server g invokes e before = Unit {0}

-- what the worker showed of a failed forward of the life, behind its own events among those of the run, is a reason there
abbrev pub IsBorneOut : Setup → ℕ → Reasons → (Event → Bool) → ℕ → ℕ → Event → List Event → Type 0
IsBorneOut setup clients Why its server g (End e) before = is_of_life server g e.server.0 e.generation.0 ≡ true
    → (service : List ℕ) (payload : Data) → Why service payload e (filter its before) → MayFail setup clients service payload e before
IsBorneOut setup clients Why its server g e before = Unit {0}

-- the worker's own list among the events of a run, of so many clients: the life's events are among its own, and all calls and moves of the server, each
-- take came to its INVOKE, each forward that failed did so for a reason, a server that waited for a request stopped behind the close of its queue, and
-- one that could call no more stopped behind its last call
pub record StandsIn (setup : Setup) (clients : ℕ) (Why : Reasons) (over : Ending) (own past : List Event) : Type 0 where
  pub its : Event → Bool
  pub are : own ≡ filter its past
  pub among : (e : Event) → is_of over.life.server.0 over.life.generation.0 e ≡ true → its e ≡ true
  pub called : (e : Event) → is_call_of (caller_of clients over.life.server.0) e ≡ true → its e ≡ true
  pub moved : (e : Event) → moves_server over.life.server.0 e ≡ true → its e ≡ true
  pub failed : AtEach (IsBorneOut setup clients Why its over.life.server.0 over.life.generation.0) past
  pub sent : AtEach (IsSent over.life.server.0 over.life.generation.0 (invokes_of over.life)) past
  pub closed : over.life.turn ≡ AwaitsInvoke → AtEach (StopsClosed setup over.life.server.0 over.life.generation.0) past
  pub spent : over.life.turn ≡ Finishing → AtEach (StopsSpent clients over.life.server.0 over.life.generation.0) past
