-- A life of a server: what its program says, what that comes to, how the life ends, and what shows that (after tpreturn of XATMI, and TPEXIT and
-- tpforward of Tuxedo; frames and causes are this project's own).
use Rattle.std.specs.Prelude.{◌≡◌, ◌⊎◌, ℕ, ℤ, ◌+◌, ◌-◌, ◌<◌, ◌^◌, ◌%◌, min, Bool, true, false, List, [], ◌∷◌, ◌++◌, length, take, Option, Some, None, IfSome, if◌then◌else◌}
use Rattle.xa_types.specs.declared.data.Data.{Data}
use Rattle.xa_types.specs.declared.setup.Setup.{Setup}
use Rattle.xa_types.specs.declared.ids.Generation.{Generation}
use Rattle.xa_types.specs.declared.call.Rval.{Rval}
use Rattle.xa_types.specs.declared.call.Rval.TheVariants.{Exit as ExitValue}
use Rattle.xa_types.specs.declared.call.Op.{Op}
use Rattle.xa_types.specs.Setup.{queue_of}
use Rattle.xa_link.specs.Told.{Empty}
pub use Rattle.xa_link.specs.Links.{LinkShows}
use Rattle.xa_frame.specs.declared.frame.Frame.{Frame}
use Rattle.xa_frame.specs.declared.frame.Body.{Body}
use Rattle.xa_frame.specs.declared.frame.Body.TheVariants.{Op as OpBody, Return as ReturnBody, Forward as ForwardBody}
use Rattle.xa_frame.specs.Spelling.{spelled, all_spelled, kind_octet, HasSpelling}
use Rattle.xa_frame.specs.Stream.{IsPartial, IsMalformed, Begins}
use Rattle.xa_events.specs.declared.event.Event.{Event}
use Rattle.xa_events.specs.declared.event.Event.TheVariants.{Forward, End, Stop}
use Rattle.xa_events.specs.declared.event.Ended.{Ended}
use Rattle.xa_events.specs.declared.event.Outcome.{Outcome}
use Rattle.xa_events.specs.declared.event.Outcome.TheVariants.{BadForward, Died, Starved}
use Rattle.xa_events.specs.declared.event.StopCause.{StopCause}
use Rattle.xa_events.specs.declared.event.StopCause.TheVariants.{Shutdown, Exit, EndOfInput, ReadFault, WriteFault, BadBytes, OutOfTurn, Starved as StarvedStop}
use Rattle.xa_events.specs.Words.{latest, from_each}
use Rattle.xa_events.specs.Queue.{is_closed}
use Rattle.xa_events.specs.State.{caller_of}
use Rattle.xa_events.specs.Caller.{last_op}
use Rattle.xa_events.specs.Finishing.{ForwardEnds, return_by}
pub use Rattle.xa_pipe.specs.declared.hearing.Finish.{Finish}
use Rattle.xa_pipe.specs.declared.hearing.Finish.TheVariants.{Returns, Forwards}
pub use Rattle.xa_pipe.specs.declared.turn.Turn.{Turn}
use Rattle.xa_pipe.specs.declared.turn.Turn.TheVariants.{AwaitsReady, AwaitsNext, AwaitsInvoke, Serving, Finishing, Performing, Exited}
pub use Rattle.xa_pipe.specs.declared.turn.Written.{Written}
use Rattle.xa_pipe.specs.declared.turn.Written.TheVariants.{Whole, Cut, Missing}
use Rattle.xa_pipe.specs.Frames.{is_of_life, next_frame, ready_frame, return_frame, forward_frame, op_frame, may_call, ops_in, replies_in, tags_of}

-- ---- what the program says

-- what comes next behind a RETURN
abbrev pub turn_behind : Rval → Turn
turn_behind ExitValue = Exited
turn_behind value = AwaitsNext

-- the number of the invocation after so many that were answered, modulo 2^32
abbrev pub tag_after : ℕ → ℕ
tag_after n = (n + 1) % 2 ^ 32

-- the program has said these frames, n of them RETURNs and FORWARDs, and this comes next: READY and NEXT, and to each INVOKE any number of OPs, one behind
-- the REPLY to the other, then its RETURN or its FORWARD, and NEXT; each has a spelling
pub data Says (name : List ℕ) : ℕ → List Frame → Turn → Type 0 where
  Silent : Says name 0 [] AwaitsReady
  Named : HasSpelling (ready_frame name) → Says name 0 (ready_frame name ∷ []) AwaitsNext
  Free : {n : ℕ} {frames : List Frame} → Says name n frames AwaitsNext → Says name n (frames ++ next_frame ∷ []) AwaitsInvoke
  Invoked : {n : ℕ} {frames : List Frame} → Says name n frames AwaitsInvoke → Says name n frames Serving
  Calls : {n : ℕ} {frames : List Frame} (op : Op) → may_call op ≡ true → Says name n frames Serving → HasSpelling (op_frame (tag_after n) op)
      → Says name n (frames ++ op_frame (tag_after n) op ∷ []) Performing
  Replied : {n : ℕ} {frames : List Frame} → Says name n frames Performing → Says name n frames Serving
  CallsNoMore : {n : ℕ} {frames : List Frame} → Says name n frames Serving → Says name n frames Finishing
  Answers : {n : ℕ} {frames : List Frame} (value : Rval) (code : ℤ) (payload : Data) → Says name n frames Finishing
      → HasSpelling (return_frame (tag_after n) value code payload)
      → Says name (n + 1) (frames ++ return_frame (tag_after n) value code payload ∷ []) (turn_behind value)
  Passes : {n : ℕ} {frames : List Frame} (service : List ℕ) (payload : Data) → Says name n frames Finishing → HasSpelling (forward_frame (tag_after n) service payload)
      → Says name (n + 1) (frames ++ forward_frame (tag_after n) service payload ∷ []) AwaitsNext

-- ---- what that comes to

-- an event, and those before it
pub record Occurrence : Type 0 where
  pub event : Event
  pub before : List Event

-- the event is the end of a request, with that outcome
abbrev pub EndsAs : Outcome → Event → Type 0
EndsAs outcome (End e) = e.outcome ≡ outcome
EndsAs outcome e = ⊥

-- why a forward to that service with that data may have failed, where its request ended so behind these events
abbrev pub Reasons : Type 1
Reasons = List ℕ → Data → Ended → List Event → Type 0

-- as the machine says it
abbrev pub MayFail : Setup → ℕ → Reasons
MayFail setup clients service payload e before = ForwardEnds setup clients service payload e e.outcome before

-- the request is forwarded to that service with that data, or that fails for a reason, and it ends (Tuxedo, tpforward)
abbrev pub IsForwarded : Reasons → List ℕ → Data → Event → List Event → Type 0
IsForwarded Why service payload (Forward f) before = (f.service ≡ service) × (f.payload ≡ payload)
IsForwarded Why service payload (End e) before = ((version : ℕ) × (e.outcome ≡ BadForward version)) × Why service payload e before
IsForwarded Why service payload e before = ⊥

-- what the program said comes to that event: by a RETURN the request ends as it says, since its service began no conversation, and by a FORWARD it is forwarded
abbrev pub ComesTo : Setup → Reasons → Finish → Occurrence → Type 0
ComesTo setup Why (Returns back) came = EndsAs (return_by setup [] back.value back.code back.payload) came.event
ComesTo setup Why (Forwards forward) came = IsForwarded Why forward.service forward.payload came.event came.before

-- each comes to one event, in order
abbrev pub EachCame : Setup → Reasons → List Finish → List Occurrence → Type 0
EachCame setup Why [] [] = Unit {0}
EachCame setup Why (back ∷ finishes) (came ∷ others) = ComesTo setup Why back came × EachCame setup Why finishes others
EachCame setup Why finishes others = ⊥

-- how a service is done with its request by the frame
abbrev pub finish_of : Body → List Finish
finish_of (ReturnBody value code payload) = Returns (record { value = value; code = code; payload = payload }) ∷ []
finish_of (ForwardBody service payload) = Forwards (record { service = service; payload = payload }) ∷ []
finish_of body = []

-- the RETURNs and FORWARDs of these frames
abbrev pub finishes_in : List Frame → List Finish
finishes_in [] = []
finishes_in (f ∷ frames) = finish_of f.body ++ finishes_in frames

-- the event is what a take of the life came to
abbrev pub came_at : ℕ → ℕ → Event → List Event → List Occurrence
came_at server g (End e) before = if is_of_life server g e.server.0 e.generation.0 then (record { event = End e; before = before }) ∷ [] else []
came_at server g (Forward f) before = if is_of_life server g f.server.0 f.generation.0 then (record { event = Forward f; before = before }) ∷ [] else []
came_at server g e before = []

-- what the takes of the life came to, the oldest first: the request ended, or was forwarded
abbrev pub came_in : ℕ → ℕ → List Event → List Occurrence
came_in server g past = from_each (came_at server g) past

-- how the request in hand ends with the life
abbrev pub lost_by : StopCause → Outcome
lost_by StarvedStop = Starved
lost_by cause = Died

-- a request is in hand
abbrev pub is_held : Turn → Bool
is_held Serving = true
is_held Finishing = true
is_held Performing = true
is_held turn = false

-- each RETURN and FORWARD came to its event, and with one more in hand that was lost with the life: no more than one ends as Starved
abbrev pub CameBy : Bool → Setup → Reasons → StopCause → List Finish → List Occurrence → Type 0
CameBy true setup Why cause finishes came =
    (earlier : List Occurrence) × (last : Occurrence) × (came ≡ earlier ++ last ∷ []) × EachCame setup Why finishes earlier × EndsAs (lost_by cause) last.event
CameBy false setup Why cause finishes came = EachCame setup Why finishes came

abbrev pub AllCame : Setup → Reasons → StopCause → Turn → List Finish → List Occurrence → Type 0
AllCame setup Why cause turn finishes came = CameBy (is_held turn) setup Why cause finishes came

-- ---- how the life ends

-- where a life ended: what the program had said, whose turn it was, the tag that a RETURN or a FORWARD had to have, and whether the last frame was written
pub record LastTurn : Type 0 where
  pub name : List ℕ
  pub tag : ℕ
  pub frames : List Frame
  pub turn : Turn
  pub written : Written

-- where a life ended as a frame of the program was to come: all was written
abbrev pub awaiting : List ℕ → ℕ → List Frame → Turn → LastTurn
awaiting name tag frames turn = record { name = name; tag = tag; frames = frames; turn = turn; written = Whole }

-- the frame is the RETURN or the FORWARD of the invocation with that number
abbrev pub IsFinish : ℕ → Frame → Type 0
IsFinish tag f = ((value : Rval) × (code : ℤ) × (payload : Data) × (f ≡ return_frame tag value code payload))
    ⊎ ((service : List ℕ) × (payload : Data) × (f ≡ forward_frame tag service payload))

-- a frame that the program may say in that turn
abbrev pub MaySay : List ℕ → ℕ → Turn → Frame → Type 0
MaySay name tag AwaitsReady f = f ≡ ready_frame name
MaySay name tag AwaitsNext f = f ≡ next_frame
MaySay name tag Serving f = IsFinish tag f ⊎ ((op : Op) × (may_call op ≡ true) × (f ≡ op_frame tag op))
MaySay name tag Finishing f = IsFinish tag f
MaySay name tag turn f = ⊥

-- a frame of the program is to come
abbrev pub is_reading : Turn → Bool
is_reading AwaitsReady = true
is_reading AwaitsNext = true
is_reading Serving = true
is_reading Finishing = true
is_reading turn = false

-- a service is to go on with its request
abbrev pub is_acting : Turn → Bool
is_acting Serving = true
is_acting Finishing = true
is_acting turn = false

-- INVOKE or SHUTDOWN is to be written, or an INVOKE or a REPLY was written last
abbrev pub is_writing : Turn → Bool
is_writing AwaitsInvoke = true
is_writing Serving = true
is_writing turn = false

-- memory may run out as a frame is to come, or as a call is to be made
abbrev pub may_starve : Turn → Bool
may_starve Performing = true
may_starve turn = is_reading turn

-- in which turn a life may end with that cause: as a frame was to come, with all written, or as one was to be written; for want of memory also as a call was
-- to be made
abbrev pub may_end : StopCause → Turn → Written → Bool
may_end Shutdown AwaitsInvoke Whole = true
may_end Exit Exited Whole = true
may_end EndOfInput turn Whole = is_reading turn
may_end ReadFault turn Whole = is_reading turn
may_end (BadBytes place) turn Whole = is_reading turn
may_end (OutOfTurn kind tag) turn Whole = is_reading turn
may_end StarvedStop turn Whole = may_starve turn
may_end StarvedStop turn Missing = is_writing turn
may_end WriteFault turn Cut = is_writing turn
may_end cause turn _ = false

-- one read failed where that ended the life, or one write, and no other did
abbrev pub IsCounted : StopCause → ℕ → ℕ → Type 0
IsCounted ReadFault reads writes = (reads ≡ 1) × (writes ≡ 0)
IsCounted WriteFault reads writes = (reads ≡ 0) × (writes ≡ 1)
IsCounted cause reads writes = (reads ≡ 0) × (writes ≡ 0)

-- the place behind these frames; places end at 2 ^ 64 - 1
abbrev pub place_behind : List Frame → ℕ
place_behind frames = min (length (all_spelled frames)) (2 ^ 64 - 1)

-- what stands behind the frames: less than a frame, and with EndOfInput nothing more in the link; with BadBytes no frame; with OutOfTurn a frame
-- that the program may not say; with Starved some octet that wasn't read as a frame, where one was to come; else nothing is said. That memory
-- had really run out stays free: with Starved the next frame may stand there whole
abbrev pub Shows : LastTurn → StopCause → List ℕ → Option (List ℕ) → Type 0
Shows at EndOfInput rest left = IsPartial rest × Empty left
Shows at ReadFault rest left = IsPartial rest
Shows at (BadBytes place) rest left = (place ≡ place_behind at.frames) × IsMalformed rest
Shows at (OutOfTurn kind number) rest left =
    (f : Frame) × (more : List ℕ) × Begins rest f more × (kind ≡ kind_octet f.body) × (number ≡ f.tag) × (MaySay at.name at.tag at.turn f → ⊥)
Shows at StarvedStop rest left = at.written ≡ Whole → is_reading at.turn ≡ true → rest ≡ [] → ⊥
Shows at cause rest left = Unit {0}

-- where the link tells what it gave, it gave the frames, and what stands behind them shows the cause
abbrev pub Gave : LastTurn → StopCause → Option (List ℕ) → Option (List ℕ) → Type 0
Gave at cause gave left = IfSome gave (λ octets. (rest : List ℕ) × (octets ≡ all_spelled at.frames ++ rest) × Shows at cause rest left)

-- ---- what the link took

-- all of these frames but the last, and of the last a front that isn't all of it
abbrev pub IsCut : List Frame → List ℕ → Type 0
IsCut frames octets = (earlier : List Frame) × (last : Frame) × (n : ℕ) × (frames ≡ earlier ++ last ∷ []) × (n < length (spelled last)) × (octets ≡ all_spelled earlier ++ take n (spelled last))

-- all of these frames but the last
abbrev pub LacksLast : List Frame → List ℕ → Type 0
LacksLast frames octets = (earlier : List Frame) × (last : Frame) × (frames ≡ earlier ++ last ∷ []) × (octets ≡ all_spelled earlier)

-- what the link took of these frames: all; all but an end of the last; or all but the last
abbrev pub Took : Written → List Frame → List ℕ → Type 0
Took Whole frames octets = octets ≡ all_spelled frames
Took Cut frames octets = IsCut frames octets
Took Missing frames octets = LacksLast frames octets

-- ---- the life among the events

-- the event ends the life
abbrev pub stops_life : ℕ → ℕ → Event → Bool
stops_life server g (Stop x) = is_of_life server g x.server.0 x.generation.0
stops_life server g _ = false

-- why a life ended with the event
abbrev pub cause_in : Option Event → Option StopCause
cause_in (Some (Stop x)) = Some x.cause
cause_in _ = None

-- why the life ended
abbrev pub cause_of : ℕ → ℕ → List Event → Option StopCause
cause_of server g past = cause_in (latest (stops_life server g) past)

-- where the event ends the life, the server's queue was closed before it
abbrev pub StopsClosed : Setup → ℕ → ℕ → Event → List Event → Type 0
StopsClosed setup server g e before = stops_life server g e ≡ true → is_closed (queue_of setup server) before ≡ true

-- where the event ends the life, the server's calls had come to their end before it
abbrev pub StopsSpent : ℕ → ℕ → ℕ → Event → List Event → Type 0
StopsSpent clients server g e before = stops_life server g e ≡ true → last_op (caller_of clients server) before ≡ 2 ^ 32 - 1

-- of these, in order, those that were made, if they are OPs or their calls: one whose call was to be made as the life ended was not
abbrev pub replied_of : {X : Type 0} → Turn → List X → List X
replied_of Performing ops = take (length ops - 1) ops
replied_of turn ops = ops

-- the call that the frame asks for, if it is an OP
abbrev pub call_in : Body → List Op
call_in (OpBody op) = op ∷ []
call_in body = []

-- the calls that these frames ask for
abbrev pub calls_in : List Frame → List Op
calls_in [] = []
calls_in (f ∷ frames) = call_in f.body ++ calls_in frames

-- to each of these OPs a REPLY went, in order, with its tag
abbrev pub EachReplied : Turn → List Frame → List Frame → Type 0
EachReplied turn said sent = tags_of (replied_of turn (ops_in said)) ≡ tags_of (replies_in sent)

-- a life: its server's name and number, and its generation
pub record LifeId : Type 0 where
  pub name : List ℕ
  pub server : ℕ
  pub generation : ℕ

-- it is the link of that life
abbrev pub IsOf : LifeId → Option (List ℕ × Generation) → Type 0
IsOf life whose = whose ≡ Some (life.name, record { 0 = life.generation })
