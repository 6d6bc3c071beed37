-- What octets come to that are taken for a record.
use Rattle.std.specs.Prelude.{ℕ, ◌≡◌, ◌<◌, ◌^◌, ⊤, List, ◌++◌, length, Result, Err, MatchResult}
use Rattle.xa_types.specs.declared.setup.Setup.{Setup}
use Rattle.xa_events.specs.declared.event.Event.{Event}
use Rattle.xa_events.specs.State.{State, opening}
use Rattle.xa_events.specs.Order.{TakesInOrder}
use Rattle.xa_events.specs.Run.{Run, IsFinal}
use Rattle.xa_machine.specs.Runs.{IsLawful}
use Rattle.xa_config.specs.Document.{IsConfiguration, IsFirstFault}
use Rattle.xa_config.specs.Faults.{fault}
use Rattle.xa_config.specs.declared.refusal.ConfigRefused.{ConfigRefused}
use Rattle.xa_config.specs.declared.refusal.ConfigRefused.TheVariants as faults
use Rattle.xa_audit.specs.Record.{config_text, IsRecord, Begins}
use Rattle.xa_audit.specs.Verdict.{IsVerdict}
use Rattle.xa_audit.specs.declared.judging.Verdict.{Verdict}
use Rattle.xa_audit.specs.declared.judging.Verdict.TheVariants as verdicts
use Rattle.xa_audit.specs.declared.reading.RecordRefused.{RecordRefused}
use Rattle.xa_audit.specs.declared.reading.RecordRefused.TheVariants as records
use Rattle.xa_audit.specs.declared.auditing.AuditRefused.{AuditRefused}
use Rattle.xa_audit.specs.declared.auditing.AuditRefused.TheVariants as refusals

-- ---- octets that are a record

-- under the setup that the configuration says, the events come to that
pub record IsVerdictBy (config : List ℕ) (names : List (List ℕ)) (history : List Event) (verdict : Verdict) : Type 0 where
  pub setup : Setup
  pub says : IsConfiguration config setup
  pub judged : IsVerdict setup (length names) history verdict

-- the octets are a record whose events come to that
pub record IsAudited (octets : List ℕ) (verdict : Verdict) : Type 0 where
  pub config : List ℕ
  pub names : List (List ℕ)
  pub history : List Event
  pub spelled : IsRecord octets config names history
  pub judged : IsVerdictBy config names history verdict

-- the octets are a record of so many events, which are a run that is over, each take in order, and all laws hold of them
pub record IsLawfulRun (octets : List ℕ) (many : ℕ) : Type 0 where
  pub config : List ℕ
  pub names : List (List ℕ)
  pub history : List Event
  pub spelled : IsRecord octets config names history
  pub counted : many ≡ length history
  pub setup : Setup
  pub says : IsConfiguration config setup
  pub new : State
  pub runs : Run (opening setup (length names)) history new
  pub in_order : TakesInOrder setup new.past
  pub over : IsFinal new
  pub lawful : IsLawful (length names) new.past

abbrev pub LawfulWhereRun : List ℕ → Verdict → Type 0
LawfulWhereRun octets (verdicts.Run many) = IsLawfulRun octets many
LawfulWhereRun octets (verdicts.At place) = ⊤
LawfulWhereRun octets (verdicts.Unfinished many) = ⊤

-- ---- octets that are refused

-- a configuration stands in front, with that first fault
pub record HasFault (octets : List ℕ) (number : ℕ) (key : List ℕ) : Type 0 where
  pub config : List ℕ
  pub rest : List ℕ
  pub stands : octets ≡ config_text config ++ rest
  pub told : IsFirstFault config (fault key number)

-- the octets are no record, and no configuration with a fault stands in front; that is the least line, from 1, with which they don't begin as a record does
pub record IsBad (octets : List ℕ) (at : ℕ) : Type 0 where
  pub no_record : (config : List ℕ) (names : List (List ℕ)) (history : List Event) → IsRecord octets config names history → ⊥
  pub faultless : (number : ℕ) (key : List ℕ) → HasFault octets number key → ⊥
  pub counted : 0 < at
  pub before : (many : ℕ) → 0 < many → many < at → Begins octets many
  pub here : Begins octets at → ⊥

abbrev pub Refuses : List ℕ → AuditRefused → Type 0
Refuses octets (refusals.Config number key) = HasFault octets number key
Refuses octets (refusals.BadRecord at) = IsBad octets at
Refuses octets refusals.NoMemory = ⊤

-- ---- what is answered of a record that was written

abbrev pub RefusesOnly : List ℕ → AuditRefused → Type 0
RefusesOnly config (refusals.Config number key) = IsFirstFault config (fault key number)
RefusesOnly config (refusals.BadRecord at) = ⊥
RefusesOnly config refusals.NoMemory = ⊤

-- of the record of these parts the answer is what they come to, or the configuration's own first fault
abbrev pub IsOfWritten : List ℕ → Result Verdict AuditRefused → Type 0
IsOfWritten octets result = (config : List ℕ) (names : List (List ℕ)) (history : List Event) → IsRecord octets config names history
    → MatchResult result (IsVerdictBy config names history) (RefusesOnly config)

-- ---- all answers

-- octets may be answered so
abbrev pub Answers : List ℕ → Result Verdict AuditRefused → Type 0
Answers octets result = MatchResult result (IsAudited octets) (Refuses octets)

-- what octets are answered but for want of memory is determined
abbrev pub OneAnswer : Type 0
OneAnswer = (octets : List ℕ) (one other : Result Verdict AuditRefused) → length octets < 2 ^ 64 → Answers octets one → Answers octets other → (one ≡ Err refusals.NoMemory → ⊥) → (other ≡ Err refusals.NoMemory → ⊥) → one ≡ other

-- ---- one refusal for another

-- a fault stays that fault, and want of memory stays that
abbrev pub IsSameFault : ConfigRefused → AuditRefused → Type 0
IsSameFault (faults.Fault number key) e = e ≡ refusals.Config number key
IsSameFault faults.NoMemory e = e ≡ refusals.NoMemory

-- a line stays that line, and want of memory stays that
abbrev pub IsSameRefusal : RecordRefused → AuditRefused → Type 0
IsSameRefusal (records.BadRecord at) e = e ≡ refusals.BadRecord at
IsSameRefusal records.NoMemory e = e ≡ refusals.NoMemory
