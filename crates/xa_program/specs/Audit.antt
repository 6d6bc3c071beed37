-- What a run of `audit` comes to (this project's own).
use Rattle.std.specs.Prelude.{◌≡◌, ◌⊎◌, ◌≤◌, ◌<◌, ℕ, ⊤, List, length, Option, Result, Ok, Err}
use Rattle.xa_domain.specs.xa_link.Links.{SinkShows}
use Rattle.xa_domain.specs.xa_link.Told.{Rose, Grew, GrewByPart}
use Rattle.xa_domain.specs.xa_link.Reads.{Holds, HoldsMore}
use Rattle.xa_audit.specs.Audit.{IsAudited, IsLawfulRun, Refuses, Answers}
use Rattle.xa_audit.specs.Verdict.{verdict_line}
use Rattle.xa_audit.specs.declared.judging.Verdict.{Verdict}
use Rattle.xa_audit.specs.declared.judging.Verdict.TheVariants as verdicts
use Rattle.xa_audit.specs.declared.auditing.AuditRefused.{AuditRefused}
use Rattle.xa_audit.specs.declared.auditing.AuditRefused.TheVariants as refusals
use Rattle.xa_program.specs.declared.status.Status.{Status}
use Rattle.xa_program.specs.declared.status.Status.TheVariants.{Done, ConfigRead, ConfigFault, TooLong, WriteFault, NoMemory, BadRecord, NotARun}
use Rattle.xa_program.specs.declared.status.Input.TheVariants as inputs
use Rattle.xa_program.specs.Configuration.{ShelfTells}

-- how long a record may be, in octets
abbrev pub longest_record : ℕ
longest_record = 67_108_864

-- ---- the file

-- the file holds a record that isn't too long, of so many events, which are a run that is over, and all laws hold of them
abbrev pub HoldsRun : Option (Option (List ℕ)) → ℕ → Type 0
HoldsRun told many = (octets : List ℕ) × Holds told octets × (length octets ≤ longest_record) × IsLawfulRun octets many

-- the file holds a record that isn't too long, and its events come to that
abbrev pub HoldsJudged : Option (Option (List ℕ)) → Verdict → Type 0
HoldsJudged told verdict = (octets : List ℕ) × Holds told octets × (length octets ≤ longest_record) × IsAudited octets verdict

-- the file holds octets that aren't too long, and that is why they are no record
abbrev pub HoldsNone : Option (Option (List ℕ)) → AuditRefused → Type 0
HoldsNone told why = (octets : List ℕ) × Holds told octets × (length octets ≤ longest_record) × Refuses octets why

-- the events are no run, or none that is over
abbrev pub IsNoRun : Verdict → Type 0
IsNoRun (verdicts.Run many) = ⊥
IsNoRun verdict = ⊤

-- ---- the output

-- it was left alone
pub record IsLeft (out out_after : SinkShows) : Type 0 where
  pub took : out_after.took ≡ out.took
  pub writes : out_after.faults ≡ out.faults

-- it took these octets, and no write failed
pub record Took (out out_after : SinkShows) (octets : List ℕ) : Type 0 where
  pub took : Grew out.took out_after.took octets
  pub writes : out_after.faults ≡ out.faults

-- it took a front of these octets, which isn't all of them, and then a write failed
pub record TookPart (out out_after : SinkShows) (octets : List ℕ) : Type 0 where
  pub took : GrewByPart out.took out_after.took octets
  pub writes : Rose out.faults out_after.faults

-- ---- how it ends

-- how `audit` of the file of that name ends, and what that shows
abbrev pub AuditEnds : ShelfTells → List ℕ → SinkShows → SinkShows → Status → Type 0
AuditEnds shelf name out out_after ConfigRead = Rose shelf.faults shelf.faults_after × IsLeft out out_after
AuditEnds shelf name out out_after (TooLong inputs.Record) = HoldsMore (shelf.file name) longest_record × IsLeft out out_after
AuditEnds shelf name out out_after (ConfigFault number key) = HoldsNone (shelf.file name) (refusals.Config number key) × IsLeft out out_after
AuditEnds shelf name out out_after (BadRecord line) = HoldsNone (shelf.file name) (refusals.BadRecord line) × IsLeft out out_after
AuditEnds shelf name out out_after NotARun =
    (verdict : Verdict) × IsNoRun verdict × HoldsJudged (shelf.file name) verdict × (Took out out_after (verdict_line verdict) ⊎ TookPart out out_after (verdict_line verdict))
AuditEnds shelf name out out_after Done = (many : ℕ) × HoldsRun (shelf.file name) many × Took out out_after (verdict_line (verdicts.Run many))
AuditEnds shelf name out out_after WriteFault = (many : ℕ) × HoldsRun (shelf.file name) many × TookPart out out_after (verdict_line (verdicts.Run many))
AuditEnds shelf name out out_after NoMemory = IsLeft out out_after
AuditEnds shelf name out out_after status = ⊥

-- the status that stands for what a record is answered
abbrev pub status_by : Result Verdict AuditRefused → Status
status_by (Ok (verdicts.Run many)) = Done
status_by (Ok (verdicts.At place)) = NotARun
status_by (Ok (verdicts.Unfinished many)) = NotARun
status_by (Err (refusals.Config number key)) = ConfigFault number key
status_by (Err (refusals.BadRecord line)) = BadRecord line
status_by (Err refusals.NoMemory) = NoMemory

-- these octets are judged by their own condition, but that memory may run out: they are too long, or the status is that of whatever may be
-- answered of them, of which there is one
pub record IsJudged (octets : List ℕ) (status : Status) : Type 0 where
  pub long : longest_record < length octets → (status ≡ TooLong inputs.Record) ⊎ (status ≡ NoMemory)
  pub short : length octets ≤ longest_record → (answer : Result Verdict AuditRefused) → Answers octets answer → (answer ≡ Err refusals.NoMemory → ⊥)
      → (status ≡ status_by answer) ⊎ (status ≡ NoMemory)

-- ---- for contracts within this crate

-- how telling a verdict ends
abbrev pub IsToldAs : Verdict → SinkShows → SinkShows → Status → Type 0
IsToldAs (verdicts.Run many) out out_after Done = Took out out_after (verdict_line (verdicts.Run many))
IsToldAs (verdicts.Run many) out out_after WriteFault = TookPart out out_after (verdict_line (verdicts.Run many))
IsToldAs (verdicts.Run many) out out_after NotARun = ⊥
IsToldAs verdict out out_after NotARun = Took out out_after (verdict_line verdict) ⊎ TookPart out out_after (verdict_line verdict)
IsToldAs verdict out out_after NoMemory = IsLeft out out_after
IsToldAs verdict out out_after status = ⊥
