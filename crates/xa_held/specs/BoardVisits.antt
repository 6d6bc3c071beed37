-- What a worker's pass knows of the board, and what a step there makes of it (this project's own).
use Rattle.std.specs.Prelude.{◌≡◌, ◌⊎◌, ◌≤◌, ◌^◌, List, ◌∷◌, ◌++◌}
use Rattle.std.specs.List.{All, Contains}
use Rattle.xa_types.specs.declared.setup.Setup.{Setup}
use Rattle.xa_types.specs.declared.stamp.Stamp.{Stamp}
use Rattle.xa_lock.specs.declared.makers.Made.{Made}
use Rattle.xa_lock.specs.declared.pass.Page.{Page}
use Rattle.xa_lock.specs.Pages.{Knows}
use Rattle.xa_board.specs.Board.{ReadsAsNoted}
use Rattle.xa_held.specs.declared.kept_board.BoardNote.{BoardNote}
use Rattle.xa_held.specs.declared.kept_board.BoardNote.TheVariants.{Opened, By, Looked}
use Rattle.xa_held.specs.declared.kept_board.Look.{Look}
use Rattle.xa_held.specs.Board.{Held, IsSoundBoard, maker_of}
use Rattle.xa_held.specs.Joins.{changes_at}

-- the board of the pass has its rows by this setup
pub record SeesBoard (s : Setup) (p : Page BoardNote) : Type 0 where
  pub rest : List BoardNote
  pub seen : p.seen ≡ Opened s ∷ rest

-- the pass found the board as `old`, of which it knew this much, noted this behind all that stood there, and left it as `new`, which it has seen
pub record BoardVisits (p p' : Page BoardNote) (more : List BoardNote) (How : Held → Held → Type 0) : Type 0 where
  pub old : Held
  pub new : Held
  pub knew : Knows maker_of p old.notes
  pub was : IsSoundBoard old
  pub read : ReadsAsNoted old.board
  pub setup : (s : Setup) → SeesBoard s p → old.setup ≡ s
  pub same : new.setup ≡ old.setup
  pub first : new.board.first ≡ old.board.first
  pub grew : new.notes ≡ old.notes ++ more
  pub maker : p'.maker ≡ p.maker
  pub own : p'.own ≡ p.own ++ more
  pub saw : p'.seen ≡ new.notes
  pub sound : IsSoundBoard new
  pub reads : ReadsAsNoted new.board
  pub how : How old new

-- a change or a look among these has that stamp
abbrev pub HasStampIn : List BoardNote → Stamp → Type 0
HasStampIn notes stamp = ((made : Made) × Contains notes (By made) × (made.noted.stamp.0 ≡ stamp.0)) ⊎ ((look : Look) × Contains notes (Looked look) × (look.stamp.0 ≡ stamp.0))

-- no change that the pass has seen has a greater stamp than that, which is at most 2^63, and is 0 or that of a change or a look that it has seen
pub record ReachesBoard (p : Page BoardNote) (last : Stamp) : Type 0 where
  pub each : All (λ noted. noted.stamp.0 ≤ last.0) (changes_at p.seen)
  pub bound : last.0 ≤ 2 ^ 63
  pub is : (last.0 ≡ 0) ⊎ HasStampIn p.seen last
