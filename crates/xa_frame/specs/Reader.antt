-- What a reader of frames holds, and what it answers. It is of the contract of the reader alone.
use Rattle.std.specs.Prelude.{ℕ, ◌≡◌, ◌+◌, ◌-◌, ◌^◌, min, Option, Some, None, Result, Ok, Err, List, length}
use Rattle.xa_frame.specs.declared.frame.Frame.{Frame}
use Rattle.xa_frame.specs.declared.reader.NextRefused.{NextRefused}
use Rattle.xa_frame.specs.declared.reader.NextRefused.TheVariants.{BadFrame, NoMemory}
use Rattle.xa_frame.specs.Spelling.{spelled}
use Rattle.xa_frame.specs.Stream.{IsPartial, IsMalformed, Begins}

-- how many octets were taken as frames, and what was fed and is not taken
pub record Incoming : Type 0 where
  pub place : ℕ
  pub rest : List ℕ

-- that frame is taken from the front; the place ends at 2 ^ 64 - 1
pub record Took (old new : Incoming) (f : Frame) : Type 0 where
  pub begins : Begins old.rest f new.rest
  pub place : new.place ≡ min (old.place + length (spelled f)) (2 ^ 64 - 1)

-- What a reader answers, and what it holds then. Memory runs out only where a frame stands first.
abbrev pub Refused : Incoming → Incoming → NextRefused → Type 0
Refused old new (BadFrame place) = (new ≡ old) × (place ≡ old.place) × IsMalformed old.rest
Refused old new NoMemory = (new ≡ old) × ((f : Frame) × (more : List ℕ) × Begins old.rest f more)

abbrev pub Found : Incoming → Incoming → Option Frame → Type 0
Found old new None = (new ≡ old) × IsPartial old.rest
Found old new (Some f) = Took old new f

abbrev pub Answered : Incoming → Incoming → Result (Option Frame) NextRefused → Type 0
Answered old new (Ok found) = Found old new found
Answered old new (Err why) = Refused old new why
