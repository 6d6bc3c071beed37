-- What a worker's pass knows of a queue, and what a step there makes of it (this project's own).
use Rattle.std.specs.Prelude.{◌≡◌, ◌≤◌, ◌^◌, List, ◌∷◌, ◌++◌, map}
use Rattle.std.specs.List.{All, flat_map}
use Rattle.xa_types.specs.declared.stamp.Stamp.{Stamp}
use Rattle.xa_lock.specs.declared.makers.Made.{Made}
use Rattle.xa_lock.specs.declared.pass.Page.{Page}
use Rattle.xa_lock.specs.Pages.{Knows}
use Rattle.xa_lock.specs.Makers.{noted_in}
use Rattle.xa_stamp.specs.Home.{last_stamp}
use Rattle.xa_queue.specs.Queue.{IsSound}
use Rattle.xa_queue.specs.Reading.{ReadsAsNoted}
use Rattle.xa_held.specs.declared.kept_queue.Setting.{Setting}
use Rattle.xa_held.specs.declared.kept_queue.QueueNote.{QueueNote}
use Rattle.xa_held.specs.declared.kept_queue.QueueNote.TheVariants.{Opened, By}
use Rattle.xa_held.specs.Notes.{maker_of, made_of}
use Rattle.xa_held.specs.Kept.{Kept, setting_of, notes_of}

-- the queue of the pass is this
pub record Sees {A : Type 0} (s : Setting A) (p : Page (QueueNote A)) : Type 0 where
  pub rest : List (QueueNote A)
  pub seen : p.seen ≡ Opened s ∷ rest

-- the pass found the queue as `old`, of which it knew this much, noted these events behind all that stood there, and left it as `new`, which it
-- has seen
pub record Visits {A : Type 0} (p p' : Page (QueueNote A)) (more : List Made) (How : Kept A → Kept A → Type 0) : Type 0 where
  pub old : Kept A
  pub new : Kept A
  pub knew : Knows maker_of p (notes_of old)
  pub setting : (s : Setting A) → Sees s p → setting_of old ≡ s
  pub same : setting_of new ≡ setting_of old
  pub grew : notes_of new ≡ notes_of old ++ map By more
  pub maker : p'.maker ≡ p.maker
  pub own : p'.own ≡ p.own ++ map By more
  pub saw : p'.seen ≡ notes_of new
  pub sound : IsSound new.queue
  pub reads : ReadsAsNoted new.queue
  pub how : How old new

-- no event that the pass has seen has a greater stamp than that, which is at most 2^63, and is that of the last of them, or 0 where it saw none
pub record Reaches {A : Type 0} (p : Page (QueueNote A)) (last : Stamp) : Type 0 where
  pub each : All (λ noted. noted.stamp.0 ≤ last.0) (noted_in (flat_map made_of p.seen))
  pub bound : last.0 ≤ 2 ^ 63
  pub is : last.0 ≡ last_stamp (record { 0 = 0 }) (noted_in (flat_map made_of p.seen))
