-- A request, read off the events: where it was sent last, and how it was settled (XATMI, tpreturn; tpforward and tpsprio after Tuxedo).
use Rattle.std.specs.Prelude.{ℕ, Bool, false, List, [], ◌∷◌, Option, Some, None, option_map, IsSomeAnd, ◌⊎◌, if◌then◌else◌}
use Rattle.xa_types.specs.declared.ids.RequestId.{RequestId}
use Rattle.xa_types.specs.declared.ids.QueueId.{QueueId}
use Rattle.xa_types.specs.declared.call.Mode.{Mode}
use Rattle.xa_types.specs.declared.data.Data.{Data}
use Rattle.xa_events.specs.declared.event.Event.{Event}
use Rattle.xa_events.specs.declared.event.Event.TheVariants.{Accept, Take, Forward, Sweep, End}
use Rattle.xa_events.specs.declared.event.Outcome.{Outcome}
use Rattle.xa_events.specs.Words.{latest, same_request}

abbrev pub is_accept_of : RequestId → Event → Bool
is_accept_of request (Accept a) = same_request a.request request
is_accept_of request _ = false

abbrev pub is_take_of : RequestId → Event → Bool
is_take_of request (Take t) = same_request t.request request
is_take_of request _ = false

abbrev pub is_forward_of : RequestId → Event → Bool
is_forward_of request (Forward f) = same_request f.request request
is_forward_of request _ = false

abbrev pub is_end_of : RequestId → Event → Bool
is_end_of request (End e) = same_request e.request request
is_end_of request _ = false

abbrev pub is_sweep_of : RequestId → Event → Bool
is_sweep_of request (Sweep x) = same_request x.request request
is_sweep_of request _ = false

-- ---- where it was sent

-- how a request was sent: to which service and queue, by which routine, with which priority, mode and data, and how often it was forwarded
pub record SentAs : Type 0 where
  pub service : List ℕ
  pub queue : QueueId
  pub routine : List ℕ
  pub priority : ℕ
  pub mode : Mode
  pub payload : Data
  pub hop : ℕ

-- a forward changes all but the mode
abbrev pub sent_after : RequestId → Event → Option SentAs → Option SentAs
sent_after request (Accept a) before = if same_request a.request request
    then Some (record { service = a.service; queue = a.queue; routine = a.routine; priority = a.priority; mode = a.mode; payload = a.payload; hop = 0 }) else before
sent_after request (Forward f) before = if same_request f.request request
    then option_map (λ (sent : SentAs). record { service = f.service; queue = f.queue; routine = f.routine; priority = f.priority; mode = sent.mode; payload = f.payload; hop = f.hop }) before else before
sent_after request _ before = before

-- how the request was accepted or forwarded last
unfoldable pub sent_as : RequestId → List Event → Option SentAs
sent_as request [] = None
sent_as request (e ∷ past) = sent_after request e (sent_as request past)

-- the event sends the request to a queue
abbrev pub is_entry_of : RequestId → Event → Bool
is_entry_of request (Accept a) = same_request a.request request
is_entry_of request (Forward f) = same_request f.request request
is_entry_of request _ = false

abbrev pub priority_in : Option Event → ℕ
priority_in (Some (Accept a)) = a.priority
priority_in (Some (Forward f)) = f.priority
priority_in _ = 0

-- the priority with which the request waits
unfoldable pub priority_at : List Event → RequestId → ℕ
priority_at past request = priority_in (latest (is_entry_of request) past)

-- ---- how it was settled

-- its last server ended it, or it was swept from a queue that went down
pub data Settlement : Type 0 where
  EndedBy : (outcome : Outcome) → Settlement
  SweptAway : Settlement

abbrev pub settlement_in : RequestId → Event → Option Settlement
settlement_in request (End e) = if same_request e.request request then Some (EndedBy e.outcome) else None
settlement_in request (Sweep x) = if same_request x.request request then Some SweptAway else None
settlement_in request _ = None

abbrev pub is_settled_by : RequestId → Event → Bool
is_settled_by request (End e) = same_request e.request request
is_settled_by request (Sweep x) = same_request x.request request
is_settled_by request _ = false

-- the request was settled so that P holds
abbrev pub WasSettled : RequestId → (Settlement → Type 0) → List Event → Type 0
WasSettled request P [] = ⊥
WasSettled request P (e ∷ past) = IsSomeAnd (settlement_in request e) P ⊎ WasSettled request P past
