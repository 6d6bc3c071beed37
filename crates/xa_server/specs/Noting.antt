-- An event at a worker's own home (this project's own).
use Rattle.std.specs.Prelude.{◌≡◌, ℕ, ◌+◌, ◌≤◌, ◌^◌, max}
use Rattle.xa_caller.specs.xa_types.declared.stamp.Stamp.{Stamp}
use Rattle.xa_caller.specs.xa_types.declared.stamp.Worn.{Worn as Last}
use Rattle.xa_caller.specs.xa_events.declared.event.Event.{Event}
use Rattle.xa_caller.specs.xa_worker.declared.work.Halt.{Halt}
use Rattle.xa_caller.specs.xa_worker.declared.work.Halt.TheVariants.{NoMemory, Worn}
use Rattle.xa_caller.specs.xa_worker.Work.{WorkState, noted_here}

-- the work with room for so many events at least
abbrev pub with_room : ℕ → WorkState → WorkState
with_room n w = record w { room = max w.room n }

-- the event is noted at the worker's own home, with its next stamp
pub record Notes (stamp : Stamp) (event : Event) (new old : WorkState) : Type 0 where
  pub next : stamp.0 ≡ old.stamp.0 + 1
  pub bound : stamp.0 ≤ 2 ^ 63
  pub made : new ≡ noted_here (record { stamp = stamp; event = event }) old

-- at a halt nothing was noted; where room was made before, it stays
abbrev pub HaltsWith : ℕ → WorkState → WorkState → Halt → Type 0
HaltsWith n new old NoMemory = new ≡ old
HaltsWith n new old (Worn last) = (new ≡ with_room n old) × (old.stamp.0 ≡ 2 ^ 63) × (last.0 ≡ 2 ^ 63)

-- the stamp is the last one, and the event that would be next isn't noted
pub record IsWorn (worn : Last) (old : WorkState) : Type 0 where
  pub at_end : old.stamp.0 ≡ 2 ^ 63
  pub tells : worn.0.0 ≡ 2 ^ 63
