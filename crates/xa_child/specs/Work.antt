-- What a server's program reads and writes.
use Rattle.std.specs.Prelude.{ℕ, ◌≡◌, ◌≤◌, ◌<◌, ◌+◌, ◌-◌, ◌^◌, min, ◌⊎◌, true, false, List, [], ◌++◌, length, take, Option, Result, Ok, Err}
use Rattle.std.specs.List.{All}
use Rattle.xa_frame.specs.declared.frame.Frame.{Frame}
use Rattle.xa_frame.specs.Spelling.{all_spelled, HasSpelling}
use Rattle.xa_frame.specs.Stream.{IsPartial, IsMalformed, Begins}
use Rattle.xa_link.specs.Told.{Rose, Grew, Shrank, Empty}
use Rattle.xa_child.specs.declared.working.WorkRefused.{WorkRefused}
use Rattle.xa_child.specs.declared.working.WorkRefused.TheVariants.{ReadFault, WriteFault, BadFrame, NoMemory}
use Rattle.xa_child.specs.Child.{ChildState, begun, admits, admits_all, after_all, child_run}

-- what stands first is no frame, or none that the child admits
abbrev pub IsBad : ChildState → List ℕ → Type 0
IsBad s rest = IsMalformed rest ⊎ ((f : Frame) × (more : List ℕ) × Begins rest f more × (admits s f ≡ false))

-- the place behind these octets; places end at 2 ^ 64 - 1
abbrev pub place_after : ℕ → List ℕ → ℕ
place_after place octets = min (place + length octets) (2 ^ 64 - 1)

-- so much of what was due was written, from its front on: all of it, or less
abbrev pub IsBegun : List ℕ → List ℕ → Type 0
IsBegun written due = (n : ℕ) × (n ≤ length due) × (written ≡ take n due)

-- so much of what was due was written, from its front on, and not all of it
abbrev pub IsPart : List ℕ → List ℕ → Type 0
IsPart written due = (n : ℕ) × (n < length due) × (written ≡ take n due)

-- How the child ended that is in that state at that place, where the rest stands, and which wrote that of what was due:
-- it ended of itself, or its input ended; the input failed; the output failed; what stands there is bad, or the input ended within it; memory ran out.
abbrev pub CameTo : ChildState → ℕ → List ℕ → Type 0 → List ℕ → List ℕ → Result (Unit {0}) WorkRefused → Type 0
CameTo s place rest end written due (Ok x) = (written ≡ due) × ((s.ended ≡ true) ⊎ ((rest ≡ []) × end))
CameTo s place rest end written due (Err ReadFault) = (written ≡ due) × (s.ended ≡ false) × IsPartial rest
CameTo s place rest end written due (Err WriteFault) = IsPart written due
CameTo s place rest end written due (Err (BadFrame at)) =
    (written ≡ due) × (s.ended ≡ false) × (at ≡ place) × (IsBad s rest ⊎ (IsPartial rest × (rest ≡ [] → ⊥) × end))
CameTo s place rest end written due (Err NoMemory) = IsBegun written due

-- what was read, as frames that the child admits and the rest, what was written, and how it ended
pub record Worked (name : List ℕ) (left left_now gave gave_now took took_now : Option (List ℕ)) (result : Result (Unit {0}) WorkRefused) : Type 0 where
  pub frames : List Frame
  pub rest : List ℕ
  pub written : List ℕ
  pub spelling : All HasSpelling frames
  pub admitted : admits_all begun frames ≡ true
  pub off : Shrank left left_now (all_spelled frames ++ rest)
  pub given : Grew gave gave_now (all_spelled frames ++ rest)
  pub grew : Grew took took_now written
  pub came : CameTo (after_all begun frames) (place_after 0 (all_spelled frames)) rest (Empty left_now) written (all_spelled (child_run name frames)) result

-- the count of reads that failed rises with ReadFault alone, and that of writes with WriteFault alone
abbrev pub Counts : {A : Type 0} → Result A WorkRefused → ℕ → ℕ → ℕ → ℕ → Type 0
Counts (Err ReadFault) reads reads_now writes writes_now = Rose reads reads_now × (writes_now ≡ writes)
Counts (Err WriteFault) reads reads_now writes writes_now = (reads_now ≡ reads) × Rose writes writes_now
Counts result reads reads_now writes writes_now = (reads_now ≡ reads) × (writes_now ≡ writes)
