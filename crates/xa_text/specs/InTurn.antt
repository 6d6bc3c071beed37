-- When a history has a transcript: each client's calls are numbered one by one (this project's own).
-- No public contract of the program rests on this file.
use Rattle.std.specs.Prelude.{◌≡◌, ◌⊎◌, ℕ, ◌+◌, ◌<◌, true, List}
use Rattle.xa_events.specs.declared.event.Event.{Event}
use Rattle.xa_events.specs.Caller.{is_call_of, op_in, last_op}
use Rattle.xa_events.specs.Words.{AtEach}

-- an event of a call of the client is of its last call, as the answer to a tpcall is, or of the next
abbrev pub IsInTurn : ℕ → Event → List Event → Type 0
IsInTurn client e before = is_call_of client e ≡ true → (op_in e ≡ last_op client before) ⊎ (op_in e ≡ last_op client before + 1)

-- the client's calls are numbered one by one
abbrev pub CallsInTurn : ℕ → List Event → Type 0
CallsInTurn client past = AtEach (IsInTurn client) past

-- the calls of each of so many clients are
abbrev pub AllInTurn : ℕ → List Event → Type 0
AllInTurn clients past = (client : ℕ) → 0 < client → client < clients + 1 → CallsInTurn client past
