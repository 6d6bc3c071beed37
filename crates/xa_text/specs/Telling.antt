-- What is known between two events, as the lines of clients are made.
-- No public contract rests on this file.
use Rattle.std.specs.Prelude.{◌≡◌, ℕ, suc, ◌+◌, ◌≤◌, ◌<◌, List, [], ◌++◌, length, take, get_or}
use Rattle.xa_events.specs.declared.event.Event.{Event}
use Rattle.xa_events.specs.Caller.{last_op}
use Rattle.xa_text.specs.declared.transcribing.Told.{Told}
use Rattle.xa_text.specs.Transcript.{lines_up_to}

-- the client's lines by these events stand behind the front, the last is that of the call with that number, and it begins at that place
pub record IsTold (front name : List ℕ) (client : ℕ) (past : List Event) (op start : ℕ) (text : List ℕ) : Type 0 where
  pub last : op ≡ last_op client past
  pub whole : text ≡ front ++ lines_up_to name client past op
  pub before : (k : ℕ) → op ≡ suc k → take start text ≡ front ++ lines_up_to name client past k
  pub within : start ≤ length text

-- nothing is told yet
abbrev pub IsFresh : Told → Type 0
IsFresh own = (own.place.op ≡ 0) × (own.place.start ≡ 0) × (own.text.items ≡ [])

-- there are the lines of each of these clients by these events; the first is client 1
pub record AreTold (names : List (List ℕ)) (past : List Event) (told : List Told) : Type 0 where
  pub len : length told ≡ length names
  pub each : (k : ℕ) → k < length names → (name : List ℕ) (own : Told) → name ≡ get_or names k name → own ≡ get_or told k own
      → IsTold [] name (k + 1) past own.place.op own.place.start own.text.items
