-- How the board under a lock is kept. No public contract rests on this file.
use Rattle.std.specs.Prelude.{◌∷◌, map}
use Rattle.std.specs.declared.snapshot.Snapshot.{Snapshot}
use Rattle.xa_events.specs.declared.event.Event.{Event}
use Rattle.xa_held.specs.declared.kept_board.Mark.{Mark}
use Rattle.xa_held.specs.declared.kept_board.Mark.TheVariants.{Changed, Looked as LookedAt}
use Rattle.xa_held.specs.declared.kept_board.BoardNote.{BoardNote}
use Rattle.xa_held.specs.declared.kept_board.BoardNote.TheVariants.{Opened, By, Looked}
use Rattle.xa_held.specs.declared.kept_board.KeptBoard.TheInside.{Inside}
use Rattle.xa_held.specs.Board.{Held, IsSoundBoard}

abbrev pub note_of : Mark × Snapshot Event → BoardNote
note_of (Changed maker stamp, event) = By (record { maker = maker; noted = record { stamp = stamp; event = event.value } })
note_of (LookedAt look, event) = Looked look

abbrev pub held_of : Inside → Held
held_of b = record { board = b.board; setup = b.setup.value; last = b.last; notes = Opened b.setup.value ∷ map note_of b.notes.items }

abbrev pub IsHeld : Inside → Type 0
IsHeld b = IsSoundBoard (held_of b)
