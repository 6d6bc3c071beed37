-- What passes saw, as the law of workers asks it (this project's own).
use Rattle.std.specs.Prelude.{◌≡◌, ℕ, ◌≤◌, ◌==◌, true, List}
use Rattle.std.specs.List.{All, flat_map, list_any}
use Rattle.xa_types.specs.declared.ids.ServerId.{ServerId}
use Rattle.xa_types.specs.declared.setup.Setup.{Setup}
use Rattle.xa_types.specs.declared.stamp.Stamp.{Stamp}
use Rattle.xa_types.specs.Setup.{queue_of}
use Rattle.xa_stamp.specs.declared.home.Stamped.{Stamped}
use Rattle.xa_lock.specs.declared.pass.Page.{Page}
use Rattle.xa_lock.specs.declared.makers.Made.{Made}
use Rattle.xa_lock.specs.Pages.{page}
use Rattle.xa_lock.specs.Makers.{noted_in}
use Rattle.xa_queue.specs.Queue.{all_gone}
use Rattle.xa_held.specs.declared.kept_board.BoardNote.{BoardNote}
use Rattle.xa_held.specs.declared.kept_queue.QueueNote.{QueueNote}
use Rattle.xa_held.specs.declared.kept_queue.Setting.{Setting}
use Rattle.xa_held.specs.Board.{made_in}
use Rattle.xa_held.specs.Notes.{made_of, gone_in}
use Rattle.xa_held.specs.Visits.{Sees}

-- the changes of a pass's page of the board with their makers
abbrev pub changes_page : Page BoardNote → Page Made
changes_page p = page p.maker (made_in p.own) (made_in p.seen)

-- the changes of the board that stand among these entries of its home
abbrev pub changes_at : List BoardNote → List Stamped
changes_at notes = noted_in (made_in notes)

-- the events of a queue that stand among these entries of its home
abbrev pub events_at : {A : Type 0} → List (QueueNote A) → List Stamped
events_at notes = noted_in (flat_map made_of notes)

-- the setup has these servers at the queue
abbrev pub HasServers : Setup → ℕ → List ServerId → Type 0
HasServers setup queue servers = (server : ℕ) → (queue_of setup server == queue) ≡ list_any (λ own. server == own.0) servers

-- the pass saw each server of the queue given up, and nothing behind that stamp
pub record SawLeft {A : Type 0} (setup : Setup) (queue : ℕ) (seen : Stamp) (p : Page (QueueNote A)) : Type 0 where
  pub its : Setting A
  pub sees : Sees its p
  pub is : its.id.0 ≡ queue
  pub servers : HasServers setup queue its.servers
  pub gone : all_gone (gone_in p.seen) its.servers ≡ true
  pub reached : All (λ noted. noted.stamp.0 ≤ seen.0) (events_at p.seen)
