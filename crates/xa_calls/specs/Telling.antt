-- What the worker notes of one call, and what its caller is told (XATMI, tpcall; that a server's program is told by a frame is this project's own).
use Rattle.std.specs.Prelude.{◌≡◌, ◌⊎◌, ℕ, Bool, true, false, List, [], ◌∷◌, ◌++◌, Option, Some, None, Result, Ok, Err}
use Rattle.std.specs.List.{All}
use Rattle.xa_desk.specs.xa_types.declared.call.Mode.TheVariants.{Reply}
use Rattle.xa_desk.specs.xa_types.declared.fault.Fault.{Fault}
use Rattle.xa_desk.specs.xa_types.declared.fault.Fault.TheVariants.{Block}
use Rattle.xa_desk.specs.xa_types.declared.reply.Reply.TheVariants as replies
use Rattle.xa_desk.specs.xa_events.declared.event.Event.{Event}
use Rattle.xa_desk.specs.xa_events.declared.event.Event.TheVariants.{Advertise, Withdraw, Accept, Answer, Cancel, NotYet, Refuse, Priority, Tick}
use Rattle.xa_desk.specs.xa_events.declared.event.Replied.{Replied}
use Rattle.xa_desk.specs.xa_events.Caller.{last_op, is_client}
use Rattle.xa_desk.specs.xa_events.Said.{is_op, reply_at, refusal_reply, descriptor_of}
use Rattle.xa_desk.specs.xa_frame.Spelling.{IsAnswer}
use Rattle.xa_desk.specs.xa_stamp.declared.home.Stamped.{Stamped}
use Rattle.xa_desk.specs.xa_worker.Seen.{past_in}
use Rattle.xa_desk.specs.xa_worker.declared.work.Halt.TheVariants.{NoMemory}
use Rattle.xa_desk.specs.xa_worker.Work.{theirs}
use Rattle.xa_desk.specs.xa_caller.declared.phase.Phase.TheVariants.{Idle}
use Rattle.xa_desk.specs.xa_pipe.Following.{is_accept, AreCall}
use Rattle.xa_desk.specs.declared.desk.Desk.{Desk}
use Rattle.xa_desk.specs.declared.stopped.Stopped.{Stopped}
use Rattle.xa_desk.specs.declared.stopped.Stopped.TheVariants as ends
use Rattle.xa_calls.specs.declared.sending.Tried.{Tried}
use Rattle.xa_calls.specs.declared.sending.Tried.TheVariants as attempts
use Rattle.xa_calls.specs.declared.telling.Told.{Told}
use Rattle.xa_calls.specs.declared.telling.Told.TheVariants as tells
use Rattle.xa_calls.specs.Going.{IsSame}

-- ---- what is noted

-- the worker noted nothing
abbrev pub IsQuiet : Desk → Desk → Type 0
IsQuiet old new = new.caller.work.own ≡ old.caller.work.own

-- the worker noted one event, of its call with that number
pub record NotesOne (number : ℕ) (P : Event → List Event → Type 0) (old new : Desk) : Type 0 where
  pub noted : Stamped
  pub own : new.caller.work.own ≡ old.caller.work.own ++ noted ∷ []
  pub its : is_op old.caller.work.id.0 number noted.event ≡ true
  pub shows : P noted.event (theirs old.caller.work)

-- its request was accepted
abbrev pub Accepts : Event → List Event → Type 0
Accepts e before = is_accept e ≡ true

-- with that number, and wants a reply
abbrev pub AcceptsAs : ℕ → Event → List Event → Type 0
AcceptsAs n (Accept a) before = (a.request.number ≡ n) × (a.mode ≡ Reply)
AcceptsAs n e before = ⊥

-- the call is over: it is refused, or done, or its own request is answered, by what has a spelling
abbrev pub Closes : Event → List Event → Type 0
Closes (Refuse r) before = refusal_reply r.fault r.evidence ≡ replies.Fault r.fault
Closes (Priority p) before = Unit {0}
Closes (Answer a) before = (last_op a.by.0 before ≡ a.op) × IsAnswer a.answer
Closes e before = ⊥

-- a tpgetrply or a tpcancel is over: it is refused, or given an answer that has a spelling, or has none so far; or done
abbrev pub Gives : Event → List Event → Type 0
Gives (Refuse r) before = refusal_reply r.fault r.evidence ≡ replies.Fault r.fault
Gives (Answer a) before = (descriptor_of a before ≡ a.request.number) × IsAnswer a.answer
Gives (NotYet n) before = Unit {0}
Gives (Cancel c) before = Unit {0}
Gives e before = ⊥

-- what an attempt to send notes: the accept, or the refusal, or nothing; and nothing of it stands where it failed
abbrev pub TriedNotes : ℕ → Result Tried Stopped → Desk → Desk → Type 0
TriedNotes op (Ok attempts.Sent) old new = NotesOne op (AcceptsAs new.caller.sent) old new
TriedNotes op (Ok attempts.Refused) old new = NotesOne op Closes old new
TriedNotes op (Ok attempts.Full) old new = IsQuiet old new
TriedNotes op (Err stopped) old new = IsQuiet old new × (new.caller.phase ≡ Idle)

-- so it is with sending
abbrev pub SentNotes : ℕ → Result Bool Stopped → Desk → Desk → Type 0
SentNotes op (Ok true) old new = NotesOne op (AcceptsAs new.caller.sent) old new
SentNotes op (Ok false) old new = NotesOne op Closes old new
SentNotes op (Err stopped) old new = IsQuiet old new × (new.caller.phase ≡ Idle)

-- memory isn't what is wanting
abbrev pub IsNoWant : Stopped → Type 0
IsNoWant (ends.Here NoMemory) = ⊥
IsNoWant stopped = Unit {0}

-- a look for the answer notes that, or nothing, and needs no memory
abbrev pub LookNotes : ℕ → Result Bool Stopped → Desk → Desk → Type 0
LookNotes op (Ok true) old new = NotesOne op Closes old new
LookNotes op (Ok false) old new = IsQuiet old new
LookNotes op (Err stopped) old new = IsQuiet old new × IsNoWant stopped

-- its call changed the board
abbrev pub Changes : Event → List Event → Type 0
Changes (Advertise a) before = Unit {0}
Changes (Withdraw w) before = Unit {0}
Changes e before = ⊥

-- its call moved the clock on to that tick
abbrev pub Ticks : ℕ → Event → List Event → Type 0
Ticks tick (Tick t) before = t.now ≡ tick
Ticks tick e before = ⊥

-- its tick was refused with that error
abbrev pub RefusesWith : Fault → Event → List Event → Type 0
RefusesWith fault (Refuse r) before = refusal_reply r.fault r.evidence ≡ replies.Fault fault
RefusesWith fault e before = ⊥

-- the whole call was noted
abbrev pub NotesCall : ℕ → Desk → Desk → Type 0
NotesCall op old new = NotesOne op Closes old new ⊎ ((mid : Desk) × IsSame old mid × NotesOne op Accepts old mid × NotesOne op Closes mid new)

-- where it stopped, nothing was noted but, maybe, that its request was accepted; where memory ran out nothing at all, and the caller may make the call again
abbrev pub StoppedIn : ℕ → Stopped → Desk → Desk → Type 0
StoppedIn op (ends.Here NoMemory) old new = IsQuiet old new × (new.caller.phase ≡ Idle)
StoppedIn op stopped old new = IsQuiet old new ⊎ NotesOne op Accepts old new

-- a look for the answers of descriptors notes what comes of the call, or nothing
abbrev pub GotNotes : ℕ → Result Bool Stopped → Desk → Desk → Type 0
GotNotes op (Ok true) old new = NotesOne op Gives old new
GotNotes op (Ok false) old new = IsQuiet old new
GotNotes op (Err stopped) old new = StoppedIn op stopped old new

-- ---- what is told

abbrev pub told_of : Event → Told
told_of (Refuse r) = tells.Fault r.fault
told_of (Answer a) = tells.Answered 0
told_of e = tells.Done

-- by a tpgetrply or a tpcancel
abbrev pub given_of : Event → Told
given_of (Refuse r) = tells.Fault r.fault
given_of (NotYet n) = tells.Fault Block
given_of (Answer a) = tells.Answered a.request.number
given_of e = tells.Done

abbrev pub told_by_clock : Result ℕ Fault → Told
told_by_clock (Ok tick) = tells.Now tick
told_by_clock (Err fault) = tells.Fault fault

abbrev pub told_by_error : Option Fault → Told
told_by_error (Some fault) = tells.Fault fault
told_by_error None = tells.Done

-- what the caller is told of its call with that number is what its events say of it; of an answer, that it stands as the newest of them, and has a spelling
abbrev pub Says : Told → ℕ → ℕ → List Event → Type 0
Says tells.Done number caller past = reply_at past caller number ≡ replies.Done
Says (tells.Fault fault) number caller past = reply_at past caller number ≡ replies.Fault fault
Says (tells.Now tick) number caller past = reply_at past caller number ≡ replies.Now tick
Says (tells.Descriptor descriptor) number caller past = reply_at past caller number ≡ replies.Descriptor descriptor
Says (tells.Answered descriptor) number caller past = (a : Replied) × (older : List Event) × (past ≡ Answer a ∷ older) × (reply_at past caller number ≡ replies.Answered descriptor a.answer) × IsAnswer a.answer

-- a client alone is told that
abbrev pub IsForClients : Told → Type 0
IsForClients (tells.Now tick) = Unit {0}
IsForClients (tells.Descriptor descriptor) = Unit {0}
IsForClients told = ⊥

-- all that the worker noted is this one call, and its caller is told what that says; a server isn't told a tick or a descriptor
pub record IsTold (told : Told) (number : ℕ) (old new : Desk) : Type 0 where
  pub more : List Event
  pub noted : theirs new.caller.work ≡ more ++ theirs old.caller.work
  pub added : List Stamped
  pub own : new.caller.work.own ≡ old.caller.work.own ++ added
  pub events : past_in added ≡ more
  pub call : AreCall old.caller.work.id.0 number more
  pub own_kind : is_client old.caller.work.clients old.caller.work.id.0 ≡ false → IsForClients told → ⊥
  pub says : Says told number new.caller.work.id.0 (theirs new.caller.work)
