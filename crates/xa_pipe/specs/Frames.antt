-- The frames that the monitor and a server's program say, and what the monitor writes in a life, read off the events of the run (this
-- project's own).
use Rattle.std.specs.Prelude.{ℕ, ℤ, ◌%◌, ◌^◌, ◌==◌, ◌&&◌, not, nat_lt, Bool, true, false, List, [], ◌∷◌, map, Option, Some, None, if◌then◌else◌}
use Rattle.std.specs.List.{filter}
use Rattle.xa_types.specs.declared.data.Data.{Data}
use Rattle.xa_types.specs.declared.call.Rval.{Rval}
use Rattle.xa_types.specs.declared.call.Op.{Op}
use Rattle.xa_types.specs.declared.call.Op.TheVariants.{Call, Priority, Advertise, Unadvertise, Tick}
use Rattle.xa_types.specs.declared.reply.Answer.{Answer}
use Rattle.xa_types.specs.declared.reply.Reply.{Reply as Told}
use Rattle.xa_types.specs.declared.reply.Reply.TheVariants.{Answered}
use Rattle.xa_events.specs.declared.event.Event.{Event}
use Rattle.xa_events.specs.declared.event.Event.TheVariants.{Take, Stop, Accept}
use Rattle.xa_events.specs.declared.event.Doing.{Doing}
use Rattle.xa_events.specs.declared.event.Doing.TheVariants.{Busy}
use Rattle.xa_events.specs.declared.event.StopCause.{StopCause}
use Rattle.xa_events.specs.declared.event.StopCause.TheVariants.{Shutdown}
use Rattle.xa_events.specs.Words.{count, from_each}
use Rattle.xa_events.specs.Request.{SentAs, sent_as}
use Rattle.xa_events.specs.State.{caller_of}
use Rattle.xa_events.specs.Server.{doing}
use Rattle.xa_events.specs.Caller.{is_call_of}
use Rattle.xa_events.specs.Said.{is_op, reply_shown_by}
use Rattle.xa_frame.specs.declared.frame.Body.{Body}
use Rattle.xa_frame.specs.declared.frame.Frame.{Frame}
use Rattle.xa_frame.specs.declared.frame.Body.TheVariants.{Ready, Next, Op as OpBody, Return, Forward, Invoke, Reply as ReplyBody, Shutdown as ShutdownBody}
use Rattle.xa_pipe.specs.declared.hearing.Finish.{Finish}
use Rattle.xa_pipe.specs.declared.hearing.Finish.TheVariants.{Returns, Forwards}
use Rattle.xa_pipe.specs.declared.hearing.Act.{Act}
use Rattle.xa_pipe.specs.declared.hearing.Act.TheVariants.{Calls, Ends}

-- the event is of that life of that server
abbrev pub is_of_life : ℕ → ℕ → ℕ → ℕ → Bool
is_of_life server g s h = (s == server) && (h == g)

abbrev pub is_take_in : ℕ → ℕ → Event → Bool
is_take_in server g (Take t) = is_of_life server g t.server.0 t.generation.0
is_take_in server g _ = false

-- the number of the life's last invocation, modulo 2^32
unfoldable pub invocation : ℕ → ℕ → List Event → ℕ
invocation server g past = count (is_take_in server g) past % 2 ^ 32

-- ---- frames

abbrev pub next_frame : Frame
next_frame = record { tag = 0; body = Next }

abbrev pub ready_frame : List ℕ → Frame
ready_frame name = record { tag = 0; body = Ready name }

abbrev pub shutdown_frame : Frame
shutdown_frame = record { tag = 0; body = ShutdownBody }

-- the RETURN of the invocation with that number
abbrev pub return_frame : ℕ → Rval → ℤ → Data → Frame
return_frame tag value code payload = record { tag = tag; body = Return value code payload }

-- the FORWARD of the invocation with that number
abbrev pub forward_frame : ℕ → List ℕ → Data → Frame
forward_frame tag service payload = record { tag = tag; body = Forward service payload }

-- the frame by which a service is done with the invocation of that number
abbrev pub finish_frame : ℕ → Finish → Frame
finish_frame tag (Returns back) = return_frame tag back.value back.code back.payload
finish_frame tag (Forwards forward) = forward_frame tag forward.service forward.payload

-- the calls that a service may make
abbrev pub may_call : Op → Bool
may_call (Call ask) = true
may_call (Priority absolute amount) = true
may_call (Advertise service routine) = true
may_call (Unadvertise service) = true
may_call (Tick n) = true
may_call op = false

-- the OP of a call that a service makes as it serves the invocation with that number
abbrev pub op_frame : ℕ → Op → Frame
op_frame tag op = record { tag = tag; body = OpBody op }

-- the REPLY to it
abbrev pub reply_frame : ℕ → Told → Frame
reply_frame tag reply = record { tag = tag; body = ReplyBody reply }

-- the REPLY with that answer to the request of that descriptor
abbrev pub answer_frame : ℕ → ℕ → Answer → Frame
answer_frame tag descriptor answer = reply_frame tag (Answered descriptor answer)

-- the frame by which a service goes on with the invocation of that number: it makes a call, or is done
abbrev pub act_frame : ℕ → Act → Frame
act_frame tag (Calls op) = op_frame tag op
act_frame tag (Ends back) = finish_frame tag back

abbrev pub is_op_body : Body → Bool
is_op_body (OpBody op) = true
is_op_body body = false

abbrev pub is_reply_body : Body → Bool
is_reply_body (ReplyBody reply) = true
is_reply_body body = false

abbrev pub is_invoke_body : Body → Bool
is_invoke_body (Invoke service routine mode payload) = true
is_invoke_body body = false

-- the OPs, the REPLYs and the INVOKEs of these frames
abbrev pub ops_in : List Frame → List Frame
ops_in frames = filter (λ (f : Frame). is_op_body f.body) frames

abbrev pub replies_in : List Frame → List Frame
replies_in frames = filter (λ (f : Frame). is_reply_body f.body) frames

abbrev pub invokes_in : List Frame → List Frame
invokes_in frames = filter (λ (f : Frame). is_invoke_body f.body) frames

abbrev pub tags_of : List Frame → List ℕ
tags_of frames = map (λ (f : Frame). f.tag) frames

-- ---- what the monitor writes: an INVOKE for each take, a REPLY to each call, and SHUTDOWN at a shutdown

abbrev pub invoke_with : ℕ → Option SentAs → List Frame
invoke_with tag None = []
invoke_with tag (Some entry) = (record { tag = tag; body = Invoke entry.service entry.routine entry.mode entry.payload }) ∷ []

abbrev pub farewell : StopCause → List Frame
farewell Shutdown = shutdown_frame ∷ []
farewell _ = []

abbrev pub is_busy_in : ℕ → Doing → Bool
is_busy_in g (Busy generation request) = generation.0 == g
is_busy_in g _ = false

-- the event, behind these, is of a call that the server's service made in that life
abbrev pub is_call_in : ℕ → ℕ → ℕ → Event → List Event → Bool
is_call_in clients server g e past = is_call_of (caller_of clients server) e && is_busy_in g (doing server past)

-- the event accepts the request of a tpcall, of which another event, its answer or its lapse, stands among all
abbrev pub is_answered : ℕ → List Event → Event → Bool
is_answered caller all (Accept a) = nat_lt 1 (count (is_op caller a.op) all)
is_answered caller all _ = false

-- the REPLY to the call of the event, where it is the call's last among all: what the caller was told
abbrev pub replied_at : ℕ → ℕ → ℕ → List Event → Event → List Event → List Frame
replied_at clients server g all e past =
    if is_call_in clients server g e past && not (is_answered (caller_of clients server) all e) then reply_frame (invocation server g past) (reply_shown_by e past) ∷ [] else []

-- what it writes at an event among all, with those before it
abbrev pub written_at : ℕ → ℕ → ℕ → List Event → Event → List Event → List Frame
written_at clients server g all (Take t) past =
    if is_of_life server g t.server.0 t.generation.0 then invoke_with (invocation server g (Take t ∷ past)) (sent_as t.request past) else []
written_at clients server g all (Stop x) past = if is_of_life server g x.server.0 x.generation.0 then farewell x.cause else []
written_at clients server g all e past = replied_at clients server g all e past

-- what it writes in the life
abbrev pub frames_out : ℕ → ℕ → ℕ → List Event → List Frame
frames_out clients server g past = from_each (written_at clients server g past) past
