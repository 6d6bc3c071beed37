-- What a caller shows of its calls by its own events and by what it saw (this project's own).
use Rattle.std.specs.Prelude.{◌≡◌, ◌⊎◌, ℕ, ◌+◌, ◌-◌, ◌≤◌, ◌==◌, ◌&&◌, Bool, true, false, List, [], length, Option, Some, None, IsSomeAnd, map, reverse}
use Rattle.std.specs.List.{All, list_any}
use Rattle.xa_types.specs.declared.call.Op.{Op}
use Rattle.xa_types.specs.declared.call.Op.TheVariants.{Call, Acall, Get, GetAny, Tick as TickOp, Advertise as AdvertiseOp, Unadvertise, Connect, Send as SendOp, Receive as ReceiveOp}
use Rattle.xa_types.specs.declared.ids.CallerId.{CallerId}
use Rattle.xa_types.specs.declared.ids.RequestId.{RequestId}
use Rattle.xa_events.specs.Conversation.{ControlIs}
use Rattle.xa_types.specs.declared.call.Ask.{Ask}
use Rattle.xa_types.specs.declared.data.Kind.{Kind}
use Rattle.xa_types.specs.declared.fault.Fault.{Fault}
use Rattle.xa_types.specs.declared.fault.Fault.TheVariants.{NoEnt, IType, Limit, Block, System, Match}
use Rattle.xa_types.specs.declared.row.Row.{Row}
use Rattle.xa_types.specs.declared.setup.Setup.{Setup}
use Rattle.xa_types.specs.declared.stamp.Stamp.{Stamp}
use Rattle.xa_types.specs.Setup.{numbered}
use Rattle.xa_events.specs.declared.event.Event.{Event}
use Rattle.xa_events.specs.declared.event.Event.TheVariants.{Accept, Forward, Tick, Answer, Refuse}
use Rattle.xa_events.specs.declared.event.Replied.{Replied}
use Rattle.xa_events.specs.declared.event.Evidence.{Evidence}
use Rattle.xa_events.specs.declared.event.Evidence.TheVariants.{Version, AllDown, Queue, Rows, Routine, NoRow}
use Rattle.xa_events.specs.Answers.{reply_of, answer_to}
use Rattle.xa_events.specs.Board.{published, listed_in}
use Rattle.xa_events.specs.Queue.{is_down, is_closed}
use Rattle.xa_events.specs.Clock.{now}
use Rattle.xa_events.specs.Calls.{FitsEvent, Asking, as_call, as_acall, as_connect, AskRefused, IsShutOut, is_accepted_by, awaits_answer, SendRefused, ReceiveRefused, AdvertiseRefused, UnadvertiseRefused}
use Rattle.xa_events.specs.Caller.{is_call_of, op_in, newest_call, last_op, just_accepted, least_version, is_client, is_conversational}
use Rattle.xa_events.specs.Cases.{queue_by}
use Rattle.xa_types.specs.Name.{is_name}
use Rattle.xa_types.specs.Rows.{row_of}
use Rattle.std.specs.Str.{bytes_eq}
use Rattle.xa_events.specs.Homes.{Home}
use Rattle.xa_events.specs.Homes.Home.{BoardHome, QueueHome, ClockHome}
use Rattle.xa_events.specs.Local.{worker_events}
use Rattle.xa_events.specs.Request.{settlement_in, is_entry_of}
use Rattle.xa_events.specs.Words.{latest, AtEach}
use Rattle.xa_stamp.specs.declared.home.Stamped.{Stamped}
use Rattle.xa_worker.specs.Seen.{past_in, SawFront, SawQueue, SawEntry, SawSince, SawInHand, SawRows, StandsBehind, SawBegan}

-- the request was sent so that it began a conversation, or didn't; what began one isn't forwarded
abbrev pub BeginsSo : Bool → Event → Type 0
BeginsSo conversational (Accept a) = is_conversational a.mode ≡ conversational
BeginsSo conversational (Forward f) = conversational ≡ false
BeginsSo conversational _ = ⊥

-- an event with that stamp, where the homes have these entries
module _ (setup : Setup) (clients : ℕ) (entries : Home → List Stamped) (stamp : Stamp) where
  -- the caller was told what befell the request that this call sent
  pub record AnswersCall (ask : Ask) (b : Replied) (own : List Event) : Type 0 where
    pub same : b.op ≡ last_op b.by.0 own
    pub request : just_accepted b.by.0 own ≡ Some b.request
    pub home : Home
    pub told : SawEntry (entries home) stamp (λ e. IsSomeAnd (settlement_in b.request e) (λ settlement. b.answer ≡ answer_to ask.expect (reply_of settlement)))

  -- the caller was told what befell the request, by a call with that TPNOCHANGE kind
  pub record ToldOf (expect : Option Kind) (b : Replied) : Type 0 where
    pub home : Home
    pub told : SawEntry (entries home) stamp (λ e. IsSomeAnd (settlement_in b.request e) (λ settlement. b.answer ≡ answer_to expect (reply_of settlement)))

  -- P held of the rows that a version lists, which was seen
  abbrev pub SawListed : ℕ → List ℕ → Bool → (List Row → Type 0) → Type 0
  SawListed v service conversational P = SawFront (entries BoardHome) stamp (λ past. (v ≤ published past) × P (listed_in setup past v service conversational))

  -- a version lists the queue, and each other queue that it lists was seen to take no request, since the caller's last event there
  pub record SawNoRoom (caller : ℕ) (service : List ℕ) (conversational : Bool) (queue : ℕ) (own : List Event) : Type 0 where
    pub version : ℕ
    pub floor : least_version setup clients caller own ≤ version
    pub listed : SawListed version service conversational (λ rows. (list_any (λ (row : Row). row.queue.0 == queue) rows ≡ true)
        × All (λ (row : Row). (row.queue.0 ≡ queue) ⊎ SawSince setup clients entries stamp caller row.queue.0 (IsShutOut setup row.queue.0) own) rows)

  -- each queue that the version lists was seen down or closed
  abbrev pub SawAllShut : ℕ → List ℕ → Bool → Type 0
  SawAllShut v service conversational =
      SawListed v service conversational (λ rows. (rows ≡ [] → ⊥) × All (λ (row : Row). SawQueue setup row.queue.0 (entries (QueueHome row.queue.0)) stamp (λ past. (is_down row.queue.0 past ≡ true) ⊎ (is_closed row.queue.0 past ≡ true))) rows)

  -- the call is refused so, by what was seen
  abbrev pub AskRefusedOwn : ℕ → Asking → Ask → Fault → Evidence → List Event → Type 0
  AskRefusedOwn caller how ask NoEnt (Version v) own = (how.invalid ≡ false) × SawListed v ask.service how.conversational (λ rows. rows ≡ [])
  AskRefusedOwn caller how ask IType (Version v) own = (how.invalid ≡ false) × SawListed v ask.service how.conversational (λ rows. (rows ≡ [] → ⊥) × (is_accepted_by setup ask.payload rows ≡ false))
  AskRefusedOwn caller how ask Block (Queue queue n) own = (how.invalid ≡ false) × (ask.flags.no_block ≡ true) × SawNoRoom caller ask.service how.conversational queue.0 own
  AskRefusedOwn caller how ask System (AllDown v) own = (how.invalid ≡ false) × SawAllShut v ask.service how.conversational
  AskRefusedOwn caller how ask fault evidence own = AskRefused setup clients caller how ask fault evidence own

  -- the caller has control, by its own events and by how it saw the conversation begin
  abbrev pub SawControl : CallerId → List Event → Bool → RequestId → Type 0
  SawControl caller own control request = ControlIs control caller.0 request own (SawBegan entries stamp request)

  -- the server saw at its own queue, where it took the request, that this began a conversation, or didn't
  abbrev pub SawBegun : Bool → CallerId → List Event → RequestId → Type 0
  SawBegun conversational caller own request = SawInHand setup clients entries stamp (caller.0 - clients) (λ past. IsSomeAnd (latest (is_entry_of request) past) (BeginsSo conversational)) own

  -- a change of the board is refused so, by a version that was seen
  abbrev pub AdvertiseRefusedOwn : CallerId → List ℕ → List ℕ → Fault → Evidence → List Event → Type 0
  AdvertiseRefusedOwn caller service routine Match (Routine found) own = (is_client clients caller.0 ≡ false) × ((is_name service && is_name routine) ≡ true) × (bytes_eq found routine ≡ false)
      × SawRows setup clients entries stamp caller (λ rows. IsSomeAnd (row_of service (queue_by setup clients caller.0) rows) (λ row. row.routine ≡ found)) own
  AdvertiseRefusedOwn caller service routine Limit (Rows n) own = (is_client clients caller.0 ≡ false) × ((is_name service && is_name routine) ≡ true)
      × SawRows setup clients entries stamp caller (λ rows. (length rows ≡ n) × (row_of service (queue_by setup clients caller.0) rows ≡ None)) own
  AdvertiseRefusedOwn caller service routine fault evidence own = AdvertiseRefused setup clients caller service routine fault evidence own

  abbrev pub UnadvertiseRefusedOwn : CallerId → List ℕ → Fault → Evidence → List Event → Type 0
  UnadvertiseRefusedOwn caller service NoEnt NoRow own = (is_client clients caller.0 ≡ false) × (is_name service ≡ true)
      × SawRows setup clients entries stamp caller (λ rows. row_of service (queue_by setup clients caller.0) rows ≡ None) own
  UnadvertiseRefusedOwn caller service fault evidence own = UnadvertiseRefused setup clients caller service fault evidence own

  -- the event may be one of that call, behind these events of the caller's own: but for what is named, the caller knows it itself
  abbrev pub FitsOwn : Op → Event → List Event → Type 0
  FitsOwn (Call ask) (Answer b) own = AnswersCall ask b own
  FitsOwn (Call ask) (Refuse r) own = AskRefusedOwn r.by.0 (as_call setup ask) ask r.fault r.evidence own
  FitsOwn (Acall ask) (Refuse r) own = AskRefusedOwn r.by.0 (as_acall setup ask) ask r.fault r.evidence own
  FitsOwn (Get d flags expect) (Answer b) own = (b.request.number ≡ d) × ToldOf expect b
  FitsOwn (GetAny flags expect) (Answer b) own = ToldOf expect b
  FitsOwn (TickOp n) (Tick t) own = StandsBehind (entries ClockHome) (record { stamp = stamp; event = Tick t }) (λ past. t.now ≡ now past + n)
  FitsOwn (Connect ask) (Refuse r) own = AskRefusedOwn r.by.0 (as_connect setup ask) ask r.fault r.evidence own
  FitsOwn (SendOp descriptor flags passes payload) (Refuse r) own = SendRefused setup clients r.by descriptor flags payload r.fault r.evidence own (SawControl r.by own) (SawBegun false r.by own)
  FitsOwn (ReceiveOp descriptor flags) (Refuse r) own = ReceiveRefused clients r.by descriptor flags r.fault r.evidence own (SawControl r.by own) (SawBegun false r.by own)
  FitsOwn (AdvertiseOp service routine) (Refuse r) own = AdvertiseRefusedOwn r.by service routine r.fault r.evidence own
  FitsOwn (Unadvertise service) (Refuse r) own = UnadvertiseRefusedOwn r.by service r.fault r.evidence own
  FitsOwn op e own = FitsEvent setup clients op e own

  -- it fits the call of its number, and where it begins that call, the one before is over
  pub record FitsTurn (caller : ℕ) (ops : List Op) (e : Event) (own : List Event) : Type 0 where
    pub fits : IsSomeAnd (numbered (op_in e) ops) (λ op. FitsOwn op e own)
    pub turn : op_in e ≡ last_op caller own + 1 → awaits_answer ops (newest_call caller own) ≡ false

-- the caller made exactly these calls, in this order, each became what it may, and the last is over; noted is what it noted
pub record MadeOwn (setup : Setup) (clients : ℕ) (entries : Home → List Stamped) (caller : ℕ) (ops : List Op) (noted : List Stamped) : Type 0 where
  pub all : last_op caller (worker_events clients caller (past_in noted)) ≡ length ops
  pub each : AtEach (λ x older. is_call_of caller x.event ≡ true → FitsTurn setup clients entries x.stamp caller ops x.event (worker_events clients caller (map (λ y. y.event) older))) (reverse noted)
  pub over : awaits_answer ops (newest_call caller (worker_events clients caller (past_in noted))) ≡ false
