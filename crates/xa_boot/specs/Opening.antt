-- The board as the domain advertises what is configured, and what it noted of that (this project's own).
use Rattle.std.specs.Prelude.{◌≡◌, ℕ, ◌+◌, ◌≤◌, ◌^◌, List, ◌∷◌, ◌++◌, length, map, reverse, drop}
use Rattle.xa_client_worker.specs.xa_types.declared.setup.Setup.{Setup}
use Rattle.xa_client_worker.specs.xa_types.declared.setup.ServiceSetup.{ServiceSetup}
use Rattle.xa_client_worker.specs.xa_types.Rows.{Change, Put, configured}
use Rattle.xa_client_worker.specs.xa_types.Setup.{queue_named}
use Rattle.xa_client_worker.specs.xa_events.Board.{boot, published}
use Rattle.xa_client_worker.specs.xa_events.Cases.{HomePart}
use Rattle.xa_client_worker.specs.xa_events.Words.{AtEach}
use Rattle.xa_client_worker.specs.xa_stamp.declared.home.Stamped.{Stamped}
use Rattle.xa_client_worker.specs.xa_lock.Makers.{made_by}
use Rattle.xa_client_worker.specs.xa_worker.Seen.{past_in}
use Rattle.xa_client_worker.specs.xa_board.Board.{stamp_of}
use Rattle.xa_client_worker.specs.xa_held.declared.kept_board.BoardNote.{BoardNote}
use Rattle.xa_client_worker.specs.xa_held.declared.kept_board.BoardNote.TheVariants.{Opened, By}
use Rattle.xa_boot.specs.declared.advertising.Opening.{Opening}
use Rattle.xa_boot.specs.Booting.{IsBoots}

-- the event is the boot's, and the next one behind these that it noted, the newest first
pub record IsNextNote (setup : Setup) (x : Stamped) (older : List Stamped) : Type 0 where
  pub boots : IsBoots x.event
  pub next : x.stamp.0 ≡ length older + 1
  pub met : HomePart setup x.event (map (λ (y : Stamped). y.event) older)

-- the home of a board on which the domain noted these
abbrev pub opening : Setup → List Stamped → List BoardNote
opening setup own = Opened setup ∷ map By (made_by (record { 0 = 0 }) own)

-- the service advertised on the queues of these names
abbrev pub puts : Setup → ServiceSetup → List (List ℕ) → List Change
puts setup service names = map (λ name. Put service.name (queue_named setup name) service.routine) names

-- the domain noted all that is configured but for these, which are the last, and nothing else stands on the board
pub record Remain (setup : Setup) (rest : List Change) (o : Opening) : Type 0 where
  pub boots : AtEach (IsNextNote setup) (reverse o.own)
  pub notes : o.board.notes ≡ opening setup o.own
  pub by : o.board.setup ≡ setup
  pub entries : o.board.board.entries ≡ o.own
  pub version : published (past_in o.own) ≡ length o.own
  pub stamp : stamp_of o.board.board ≡ length o.own
  pub last : o.board.last.0 ≡ length o.own
  pub rest_is : drop (length o.own) (configured setup) ≡ rest

-- these remain, and further ones
abbrev pub Begin : Setup → List Change → Opening → Type 0
Begin setup next o = (rest : List Change) × Remain setup (next ++ rest) o

-- of these that began the rest remains
abbrev pub Passed : Setup → List Change → Opening → Opening → Type 0
Passed setup next old new = (rest : List Change) → Remain setup (next ++ rest) old → Remain setup rest new

-- what the domain noted of the boot is the whole of it
pub record IsBoot (setup : Setup) (own : List Stamped) : Type 0 where
  pub boots : AtEach (IsNextNote setup) (reverse own)
  pub version : published (past_in own) ≡ length own
  pub whole : boot setup ≤ length own
  pub bound : length own ≤ 2 ^ 63
