-- How many waited at a queue, at each event there.
use Rattle.std.specs.Prelude.{ℕ, ◌==◌, ◌&&◌, ◌||◌, not, Bool, if◌then◌else◌, List, [], ◌∷◌, length, Option, Some, None}
use Rattle.std.specs.List.{cons_option}
use Rattle.xa_types.specs.declared.setup.Setup.{Setup}
use Rattle.xa_events.specs.declared.event.Event.{Event}
use Rattle.xa_events.specs.Homes.{worker_of}
use Rattle.xa_events.specs.Queue.{waiting}
use Rattle.xa_machine.specs.declared.holding.Held.{Held}
use Rattle.xa_machine.specs.Shown.{queue_home}

abbrev pub held_by : Setup → ℕ → Event → List Event → Option ℕ → Option Held
held_by setup clients e past None = None
held_by setup clients e past (Some queue) = Some (record { queue = queue; worker = worker_of clients e; waiting = length (waiting setup queue (e ∷ past)) })

-- each event at a queue, the newest first
abbrev pub log_of : Setup → ℕ → List Event → List Held
log_of setup clients [] = []
log_of setup clients (e ∷ past) = cons_option (held_by setup clients e past (queue_home setup e)) (log_of setup clients past)

abbrev pub held_after : ℕ → ℕ → ℕ → Held → Bool → Bool
held_after queue worker n entry before = if entry.queue == queue then (not (entry.worker == worker) && before) || (entry.waiting == n) else before

-- whether n waited at the queue at a moment not before the worker's last event there; at first none waits
abbrev pub held : ℕ → ℕ → ℕ → List Held → Bool
held queue worker n [] = n == 0
held queue worker n (entry ∷ log) = held_after queue worker n entry (held queue worker n log)
