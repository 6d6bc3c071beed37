-- What each call of a slot asks and leaves (this project's own). A call changes the slot and its worker's work: `new` and `old` are the work.
use Rattle.std.specs.Prelude.{◌≡◌, ◌⊎◌, ℕ, ◌+◌, ◌≤◌, ◌∷◌, true, false, Option, Some, None}
use Rattle.xa_caller.specs.xa_types.declared.ids.RequestId.{RequestId}
use Rattle.xa_caller.specs.xa_types.declared.ids.Generation.{Generation}
use Rattle.xa_caller.specs.xa_types.declared.ids.ServerId.{ServerId}
use Rattle.xa_caller.specs.xa_types.declared.stamp.Stamp.{Stamp}
use Rattle.xa_caller.specs.xa_events.declared.event.Event.{Event}
use Rattle.xa_caller.specs.xa_events.declared.event.Event.TheVariants.{Take, Start, StartFailed, End, Stop}
use Rattle.xa_caller.specs.xa_events.declared.event.Doing.TheVariants.{Off, Idle, Busy}
use Rattle.xa_caller.specs.xa_events.declared.event.Outcome.{Outcome}
use Rattle.xa_caller.specs.xa_events.declared.event.StopCause.{StopCause}
use Rattle.xa_caller.specs.xa_events.Server.{after_end, is_shutdown}
use Rattle.xa_caller.specs.xa_events.Caller.{tick_floor}
use Rattle.xa_caller.specs.xa_events.Answers.{reply_of}
use Rattle.xa_caller.specs.xa_events.Request.Settlement.{EndedBy}
use Rattle.xa_caller.specs.xa_events.declared.event.Doing.{Doing}
use Rattle.xa_caller.specs.xa_types.declared.stamp.Worn.{Worn}
use Rattle.xa_caller.specs.xa_types.declared.reply.Answer.{Answer}
use Rattle.xa_caller.specs.xa_frame.Spelling.{IsAnswer}
use Rattle.xa_caller.specs.xa_queue.declared.entry.Entry.{Entry}
use Rattle.xa_caller.specs.Sound.{IsSoundAnswer}
use Rattle.xa_caller.specs.Drafts.{Cargo}
use Rattle.xa_caller.specs.xa_held.declared.cargo.Invocation.{Invocation}
use Rattle.xa_server.specs.declared.closing.Closing.{Closing}
use Rattle.xa_restart.specs.Rule.{RestartState, may_start_by}
use Rattle.xa_caller.specs.xa_worker.Work.{WorkState, theirs}
use Rattle.xa_server.specs.Noting.{Notes, IsWorn, with_room}
use Rattle.xa_server.specs.declared.slot.ServerSlot.{ServerSlot}
use Rattle.xa_server.specs.declared.slot.Last.TheVariants.{Nothing}
use Rattle.xa_server.specs.Doings.{last_by, life_in, outcome_of}

-- the server may be started at that tick, which is no earlier than what its worker saw
pub record MayStart (tick : ℕ) (slot : ServerSlot) (w : WorkState) : Type 0 where
  pub off : slot.doing ≡ Off
  pub left : slot.gone ≡ false
  pub up : slot.shut ≡ false
  pub floor : tick_floor w.clients w.id.0 (theirs w) ≤ tick
  pub may : may_start_by slot.restarts tick ≡ true

-- the server is off, wasn't shut down, and may not start at that tick, which is no earlier than what its worker saw
pub record MayBeGivenUp (tick : ℕ) (slot : ServerSlot) (w : WorkState) : Type 0 where
  pub off : slot.doing ≡ Off
  pub up : slot.shut ≡ false
  pub floor : tick_floor w.clients w.id.0 (theirs w) ≤ tick
  pub no_restart : may_start_by slot.restarts tick ≡ false

-- the slot of a server that was never started
abbrev pub new_slot : ServerId → RestartState → ServerSlot
new_slot server restarts = record { server = server; restarts = restarts; made = 0; doing = Off; hand = None; last = Nothing; gone = false; shut = false }

-- the slot with one start more
abbrev pub with_start : ℕ → ServerSlot → ServerSlot
with_start tick slot = record slot { restarts = record slot.restarts { starts = tick ∷ slot.restarts.starts }; made = slot.made + 1; last = Nothing }

abbrev pub next_life : ServerSlot → Generation
next_life slot = record { 0 = slot.made + 1 }

-- its next life was started
pub record Starts (tick : ℕ) (life : Generation) (slot' slot : ServerSlot) (new old : WorkState) : Type 0 where
  pub life_is : life ≡ next_life slot
  pub left : slot' ≡ record (with_start tick slot) { doing = Idle life }
  pub stamp : Stamp
  pub noted : Notes stamp (Start (record { server = slot.server; generation = life; tick = tick })) new (with_room 3 old)

-- the start of its next life failed
pub record FailsToStart (tick : ℕ) (life : Generation) (slot' slot : ServerSlot) (new old : WorkState) : Type 0 where
  pub life_is : life ≡ next_life slot
  pub left : slot' ≡ with_start tick slot
  pub stamp : Stamp
  pub noted : Notes stamp (StartFailed (record { server = slot.server; generation = life; tick = tick })) new (with_room 1 old)

-- the event is a take of that request by the server, which is idle
pub record IsTakeOf (request : RequestId) (event : Event) (slot : ServerSlot) : Type 0 where
  pub idle : slot.doing ≡ Idle (life_in slot.doing)
  pub k : ℕ
  pub is : event ≡ Take (record { request = request; server = slot.server; generation = life_in slot.doing; k = k })

-- the service, the routine and the data of the request in hand
pub record Invokes (hand : Option (Entry Cargo)) (invocation : Invocation) : Type 0 where
  pub entry : Entry Cargo
  pub in_hand : hand ≡ Some entry
  pub sent : invocation ≡ entry.cargo.invocation

-- the request in hand ended so, by an event with that stamp, and is in hand still
pub record Ends (outcome : Outcome) (stamp : Stamp) (slot' slot : ServerSlot) (new old : WorkState) : Type 0 where
  pub entry : Entry Cargo
  pub in_hand : slot.hand ≡ Some entry
  pub busy : slot.doing ≡ Busy (life_in slot.doing) entry.request
  pub noted : Notes stamp (End (record { request = entry.request; server = slot.server; generation = life_in slot.doing; outcome = outcome })) new old
  pub left : slot' ≡ record slot { doing = after_end outcome (life_in slot.doing); last = last_by outcome }

-- the request of that entry ended, and its caller is to be told so, by an answer that has a spelling
abbrev pub closing_of : Entry Cargo → (answer : Option Answer) → Stamp → IsSoundAnswer answer → Closing
closing_of entry answer stamp sound = record { request = Some entry.request; ticket = Some entry.cargo.ticket; answer = answer; stamp = stamp; sound = ∣ sound ∣₁ }

-- what the caller of the request in hand is to be told of its end
pub record Closes (answer : Answer) (stamp : Stamp) (hand : Option (Entry Cargo)) (closing : Closing) : Type 0 where
  pub entry : Entry Cargo
  pub in_hand : hand ≡ Some entry
  pub sound : IsAnswer answer
  pub is : closing ≡ closing_of entry (Some answer) stamp sound

-- the caller of the request in hand is to be told that the run halts
pub record Abandons (hand : Option (Entry Cargo)) (closing : Closing) : Type 0 where
  pub entry : Entry Cargo
  pub in_hand : hand ≡ Some entry
  pub is : closing ≡ closing_of entry None (record { 0 = 0 }) tt

-- the request in hand ended so, with room made before, and its caller is to be told
pub record Finishes (outcome : Outcome) (closing : Closing) (slot' slot : ServerSlot) (new old : WorkState) : Type 0 where
  pub stamp : Stamp
  pub ended : ServerSlot
  pub ends : Ends outcome stamp ended slot new (with_room 3 old)
  pub left : slot' ≡ record ended { hand = None }
  pub closes : Closes (reply_of (EndedBy outcome)) stamp slot.hand closing

-- the life ends with that cause
pub record Stops (cause : StopCause) (stamp : Stamp) (slot' slot : ServerSlot) (new old : WorkState) : Type 0 where
  pub noted : Notes stamp (Stop (record { server = slot.server; generation = life_in slot.doing; cause = cause })) new old
  pub left : slot' ≡ record slot { doing = Off; last = Nothing; shut = is_shutdown cause }

-- the life of a server that is busy ends: its request ended, and its life behind that
pub record DiesBusy (cause : StopCause) (closing : Closing) (slot' slot : ServerSlot) (new old : WorkState) : Type 0 where
  pub stamp : Stamp
  pub stop : Stamp
  pub ended : ServerSlot
  pub between : WorkState
  pub ends : Ends (outcome_of cause) stamp ended slot between old
  pub stops : Stops cause stop slot' (record ended { hand = None }) new between
  pub closes : Closes (reply_of (EndedBy (outcome_of cause))) stamp slot.hand closing

-- the life of a server that is idle ends, and nobody is to be told
pub record DiesIdle (cause : StopCause) (closing : Closing) (slot' slot : ServerSlot) (new old : WorkState) : Type 0 where
  pub stop : Stamp
  pub stops : Stops cause stop slot' slot new old
  pub none : closing.request ≡ None
  pub nobody : closing.ticket ≡ None
  pub stamped : closing.stamp ≡ stop

abbrev pub DiesFrom : Doing → StopCause → Closing → ServerSlot → ServerSlot → WorkState → WorkState → Type 0
DiesFrom (Busy generation request) cause closing slot' slot new old = DiesBusy cause closing slot' slot new old
DiesFrom doing cause closing slot' slot new old = DiesIdle cause closing slot' slot new old

abbrev pub Dies : StopCause → Closing → ServerSlot → ServerSlot → WorkState → WorkState → Type 0
Dies cause closing slot' slot new old = DiesFrom slot.doing cause closing slot' slot new old

-- stamps ended before anything was noted, or behind the end of the request, which is in hand still
abbrev pub DiesWorn : StopCause → Worn → ServerSlot → ServerSlot → WorkState → WorkState → Type 0
DiesWorn cause worn slot' slot new old = IsWorn worn new × (((slot' ≡ slot) × (new ≡ old)) ⊎ ((stamp : Stamp) × Ends (outcome_of cause) stamp slot' slot new old))
