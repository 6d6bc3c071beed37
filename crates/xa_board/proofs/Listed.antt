-- The rows that stand, where each has what is configured, are those that the changes leave.
use Rattle.std.proofs.Common.{◌≡◌, ℕ, Bool, List, [], ◌∷◌, map, Option, Some, None, refl, sym, ◌∙◌, ap}
use Rattle.std.specs.List.{All}
use Rattle.std.proofs.lemmas.List.Elements.{All-nil, All-cons, All-head, All-tail, All-append, All-filter}
use Rattle.xa_types.specs.declared.row.Row.{Row}
use Rattle.xa_types.specs.declared.setup.Setup.{Setup}
use Rattle.xa_types.specs.declared.setup.ServiceSetup.{ServiceSetup}
use Rattle.xa_types.specs.Setup.{service_named}
use Rattle.xa_types.specs.Rows.{Change, rows, row_with, row_for}
use Rattle.xa_types.specs.Rows.Change.{Put, Remove}
use Rattle.xa_events.specs.Board.{changes, rows_of_version, listed_in}
use Rattle.xa_board.specs.Board.{BoardState, ReadsAsNoted, IsAsConfigured, past_of, version_of, put_of, rows_seen}
use Rattle.xa_board.proofs.Noted.{rows_of_version-last}

-- the row that a change puts, by the setup
abbrev row_put : Setup → Change → Row
row_put setup (Put service queue routine) = row_for setup service queue routine
row_put setup (Remove service queue) = row_for setup service queue []

from_puts : (setup : Setup) (standing : List Row) → All (IsAsConfigured setup) standing → standing ≡ map (row_put setup) (map put_of standing)
from_puts setup [] all = refl
from_puts setup (row ∷ standing) all =
    ap (λ r. r ∷ standing) (All-head (IsAsConfigured setup) row standing all) ∙ ap (λ rest. row_put setup (put_of row) ∷ rest) (from_puts setup standing (All-tail (IsAsConfigured setup) row standing all))

row_with-configured : (setup : Setup) (service : List ℕ) (queue : ℕ) (routine : List ℕ) (configured : Option ServiceSetup) → configured ≡ service_named setup service → IsAsConfigured setup (row_with configured service queue routine)
row_with-configured setup service queue routine None is = ap (λ c. row_with c service queue routine) is
row_with-configured setup service queue routine (Some configured) is = ap (λ c. row_with c service queue routine) is

pub rows-configured : (setup : Setup) (made : List Change) → All (IsAsConfigured setup) (rows setup made)
rows-configured setup [] = All-nil (IsAsConfigured setup)
rows-configured setup (Put service queue routine ∷ made) =
    All-append (IsAsConfigured setup) _ _ (All-filter _ (IsAsConfigured setup) (rows setup made) (rows-configured setup made)) (All-cons (IsAsConfigured setup) _ [] (row_with-configured setup service queue routine (service_named setup service) refl) (All-nil (IsAsConfigured setup)))
rows-configured setup (Remove service queue ∷ made) = All-filter _ (IsAsConfigured setup) (rows setup made) (rows-configured setup made)

-- the rows are those of the last version
pub rows-listed : (setup : Setup) (board : BoardState) → ReadsAsNoted board → All (IsAsConfigured setup) board.rows → board.rows ≡ rows_of_version setup (past_of board) (version_of board)
rows-listed setup board reads all =
    let last = rows_of_version-last setup (past_of board) in
    let made = changes (past_of board) in
    from_puts setup board.rows all ∙ ap (map (row_put setup)) (reads.standing setup ∙ ap (map put_of) last) ∙ sym (from_puts setup (rows setup made) (rows-configured setup made)) ∙ sym last

pub rows_seen-listed : (setup : Setup) (board : BoardState) → ReadsAsNoted board → All (IsAsConfigured setup) board.rows → (service : List ℕ) (conversational : Bool) → rows_seen service conversational board.rows ≡ listed_in setup (past_of board) (version_of board) service conversational
unfolding rows_of_version listed_in
rows_seen-listed setup board reads all service conversational = ap (rows_seen service conversational) (rows-listed setup board reads all)
