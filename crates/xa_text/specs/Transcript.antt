-- The transcript of a run (this project's own): each client's lines, one for each of its calls, in script order of clients.
use Rattle.std.specs.Prelude.{ℕ, zero, suc, ◌+◌, List, [], ◌∷◌, ◌++◌}
use Rattle.xa_events.specs.declared.event.Event.{Event}
use Rattle.xa_events.specs.Caller.{last_op}
use Rattle.xa_events.specs.Said.{reply_at}
use Rattle.xa_text.specs.Line.{line_text}

-- the lines of a client's first calls, so many of them
abbrev pub lines_up_to : List ℕ → ℕ → List Event → ℕ → List ℕ
lines_up_to name client past zero = []
lines_up_to name client past (suc n) = lines_up_to name client past n ++ line_text name (suc n) (reply_at past client (suc n))

-- the lines of these clients, of which the first has that number
abbrev pub transcript_from : ℕ → List (List ℕ) → List Event → List ℕ
transcript_from client [] past = []
transcript_from client (name ∷ names) past = lines_up_to name client past (last_op client past) ++ transcript_from (client + 1) names past

-- the lines of the clients with these names
abbrev pub transcript : List (List ℕ) → List Event → List ℕ
transcript names past = transcript_from 1 names past
