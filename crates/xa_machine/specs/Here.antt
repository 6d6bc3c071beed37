-- What an event of a queue changes there.
use Rattle.std.specs.Prelude.{ℕ, ◌-◌, nat_lt, Bool, true, false, List, Option, Some, None, option_map}
use Rattle.xa_types.specs.declared.call.Mode.{Mode}
use Rattle.xa_types.specs.declared.ids.RequestId.{RequestId}
use Rattle.xa_events.specs.declared.event.Event.{Event}
use Rattle.xa_events.specs.declared.event.Event.TheVariants.{Accept, Forward, Take, Sweep, Down, Close}
use Rattle.xa_events.specs.Request.{SentAs, sent_as}

abbrev pub enters_here : Event → Option RequestId
enters_here (Accept a) = Some a.request
enters_here (Forward f) = Some f.request
enters_here _ = None

abbrev pub leaves_here : Event → Option RequestId
leaves_here (Take t) = Some t.request
leaves_here (Sweep x) = Some x.request
leaves_here _ = None

abbrev pub takes_here : Event → ℕ → ℕ
takes_here (Take t) before = t.k
takes_here _ before = before

abbrev pub is_down_here : Event → Bool
is_down_here (Down q) = true
is_down_here _ = false

abbrev pub is_closed_here : Event → Bool
is_closed_here (Close q) = true
is_closed_here _ = false

abbrev pub mode_in : Event → Option Mode
mode_in (Accept a) = Some a.mode
mode_in _ = None

-- the mode in which the request was accepted
abbrev pub mode_at : RequestId → List Event → Option Mode
mode_at request past = option_map (λ (sent : SentAs). sent.mode) (sent_as request past)

-- the start lies within GRACE
abbrev pub is_recent : ℕ → ℕ → ℕ → Bool
is_recent now grace tick = nat_lt (now - tick) grace
