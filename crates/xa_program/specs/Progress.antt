-- How the parts of a run end.
-- Contracts inside this crate rest on this file, and no public one.
use Rattle.std.specs.Prelude.{◌≡◌, ◌⊎◌, ◌<◌, ◌^◌, ⊤, ℕ, List, [], length, reverse, Option, Some, None}
use Rattle.xa_domain.specs.xa_types.declared.setup.Setup.{Setup}
use Rattle.xa_domain.specs.xa_link.Told.{Rose, Grew, GrewByPart}
use Rattle.xa_domain.specs.xa_link.Reads.{HoldsMore}
use Rattle.xa_domain.specs.xa_link.Starts.{AsksStarters}
use Rattle.xa_domain.specs.xa_events.declared.event.Event.{Event}
use Rattle.xa_domain.specs.xa_stamp.Home.{Notes}
use Rattle.xa_domain.specs.xa_stamp.Merge.{IsMerged}
use Rattle.xa_domain.specs.xa_script.declared.script.Client.{Client}
use Rattle.xa_config.specs.Document.{IsConfiguration}
use Rattle.xa_text.specs.Transcript.{transcript}
use Rattle.xa_audit.specs.Record.{IsRecord}
use Rattle.xa_domain.specs.xa_worker.declared.work.Halt.{Halt}
use Rattle.xa_domain.specs.xa_worker.declared.work.Halt.TheVariants as halts
use Rattle.xa_program.specs.declared.words.Command.{Command}
use Rattle.xa_program.specs.declared.words.Command.TheVariants.{Run, Record}
use Rattle.xa_program.specs.declared.telling.Form.{Form}
use Rattle.xa_program.specs.declared.telling.Form.TheVariants as forms
use Rattle.xa_program.specs.declared.status.Status.{Status}
use Rattle.xa_program.specs.declared.status.Status.TheVariants.{Done, ConfigRead, ConfigFault, ScriptRead, TooLong, BadLine, WriteFault, NoMemory, Worn}
use Rattle.xa_program.specs.declared.status.Input.TheVariants as inputs
use Rattle.xa_program.specs.Input.{InputTells, CameOver}
use Rattle.xa_program.specs.Configuration.{ShelfTells, HasFault, longest_configuration}
use Rattle.xa_program.specs.Headline.{HasFirstFault, longest_script, names_of}

-- why the file of that name gives no setup
abbrev pub SetupRefusedAs : ShelfTells → List ℕ → Status → Type 0
SetupRefusedAs shelf name ConfigRead = Rose shelf.faults shelf.faults_after
SetupRefusedAs shelf name (TooLong inputs.Configuration) = HoldsMore (shelf.file name) longest_configuration × (shelf.faults_after ≡ shelf.faults)
SetupRefusedAs shelf name (ConfigFault number key) = HasFault (shelf.file name) number key × (shelf.faults_after ≡ shelf.faults)
SetupRefusedAs shelf name NoMemory = shelf.faults_after ≡ shelf.faults
SetupRefusedAs shelf name status = ⊥

-- why the command has no setup: by its file, or for want of memory
abbrev pub CommandRefusedAs : ShelfTells → Command → Status → Type 0
CommandRefusedAs shelf (Run name) status = SetupRefusedAs shelf name status
CommandRefusedAs shelf (Record name) status = SetupRefusedAs shelf name status
CommandRefusedAs shelf command NoMemory = shelf.faults_after ≡ shelf.faults
CommandRefusedAs shelf command status = ⊥

-- why there is no script of so many clients for the setup
abbrev pub ScriptRefusedAs : Setup → ℕ → InputTells → ℕ → ℕ → Status → Type 0
ScriptRefusedAs setup most input reads reads_after ScriptRead = Rose reads reads_after
ScriptRefusedAs setup most input reads reads_after (TooLong inputs.Script) = CameOver input longest_script × (reads_after ≡ reads)
ScriptRefusedAs setup most input reads reads_after (BadLine line cause) = HasFirstFault setup most input line cause × (reads_after ≡ reads)
ScriptRefusedAs setup most input reads reads_after NoMemory = reads_after ≡ reads
ScriptRefusedAs setup most input reads reads_after status = ⊥

-- the octets are the lines of the history's transcript, or its record
abbrev pub IsWritten : Form → List Client → List Event → List ℕ → Type 0
IsWritten forms.Transcript clients history octets = octets ≡ transcript (names_of clients) (reverse history)
IsWritten (forms.Record config) clients history octets = IsRecord octets config (names_of clients) history × (length octets < 2 ^ 64)

-- a record has the configuration that says the setup
abbrev pub Says : Setup → Form → Type 0
Says setup forms.Transcript = ⊤
Says setup (forms.Record config) = IsConfiguration config setup

-- the history was written whole, or in part and the output failed, or nothing was written and memory ran out
abbrev pub Printed : Option (List ℕ) → Option (List ℕ) → ℕ → ℕ → Form → List Client → List Event → Status → Type 0
Printed before after writes writes_after form clients history Done = ((octets : List ℕ) × IsWritten form clients history octets × Grew before after octets) × (writes_after ≡ writes)
Printed before after writes writes_after form clients history WriteFault = ((octets : List ℕ) × IsWritten form clients history octets × GrewByPart before after octets) × Rose writes writes_after
Printed before after writes writes_after form clients history NoMemory = (after ≡ before) × (writes_after ≡ writes)
Printed before after writes writes_after form clients history status = ⊥

-- nothing was written, and the history is the merge of the homes, or there is none
pub record IsUntold (homes : List Notes) (before after : Option (List ℕ)) (writes writes_after : ℕ) (history : List Event) : Type 0 where
  pub merged : (history ≡ []) ⊎ IsMerged homes history
  pub took : after ≡ before
  pub wrote : writes_after ≡ writes

-- how telling a run ends, by how serving it ended: where that came to its end, its history is written, whole or in part, unless memory runs
-- out; else nothing is
abbrev pub TellingEnds : Option Halt → List Notes → Form → List Client → Option (List ℕ) → Option (List ℕ) → ℕ → ℕ → Status → List Event → Type 0
TellingEnds None homes form clients before after writes writes_after Done history =
    IsMerged homes history × ((octets : List ℕ) × IsWritten form clients history octets × Grew before after octets) × (writes_after ≡ writes)
TellingEnds None homes form clients before after writes writes_after WriteFault history =
    IsMerged homes history × ((octets : List ℕ) × IsWritten form clients history octets × GrewByPart before after octets) × Rose writes writes_after
TellingEnds (Some (halts.Worn stamp)) homes form clients before after writes writes_after (Worn last) history = (last ≡ stamp) × IsUntold homes before after writes writes_after history
TellingEnds None homes form clients before after writes writes_after NoMemory history = IsUntold homes before after writes writes_after history
TellingEnds (Some halts.NoMemory) homes form clients before after writes writes_after NoMemory history = IsUntold homes before after writes writes_after history
TellingEnds halt homes form clients before after writes writes_after status history = ⊥

-- whether the yard was asked for the starters of that setup, by how serving the script ended
abbrev pub AsksBy : Setup → Status → Option (List Setup) → Option (List Setup) → Type 0
AsksBy setup Done before after = AsksStarters before after setup
AsksBy setup WriteFault before after = AsksStarters before after setup
AsksBy setup (Worn stamp) before after = AsksStarters before after setup
AsksBy setup NoMemory before after = (after ≡ before) ⊎ AsksStarters before after setup
AsksBy setup status before after = after ≡ before
