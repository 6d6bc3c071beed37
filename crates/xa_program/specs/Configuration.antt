-- The setup of a run: what a configuration says, or the setup of `play` (this project's own).
use Rattle.std.specs.Prelude.{◌≡◌, ◌⊎◌, ◌≤◌, ℕ, List, length, Option, Some, None}
use Rattle.xa_domain.specs.xa_types.declared.setup.Setup.{Setup}
use Rattle.xa_domain.specs.xa_link.Told.{Rose}
use Rattle.xa_domain.specs.xa_link.Reads.{Holds, HoldsMore}
use Rattle.xa_domain.specs.xa_link.Starts.{ShelfShows, AsksFile}
use Rattle.xa_config.specs.Faults.{fault}
use Rattle.xa_config.specs.Document.{IsConfiguration, IsFirstFault}
use Rattle.xa_program.specs.declared.words.Command.{Command}
use Rattle.xa_program.specs.declared.words.Command.TheVariants.{Run, Record, Audit, Play, Server}
use Rattle.xa_program.specs.declared.status.Status.{Status}
use Rattle.xa_program.specs.declared.status.Status.TheVariants.{ConfigRead, ConfigFault, TooLong, NoMemory}
use Rattle.xa_program.specs.declared.status.Input.TheVariants as inputs
use Rattle.xa_program.specs.PlaySetup.{play_setup}

-- how long a configuration may be, in octets
abbrev pub longest_configuration : ℕ
longest_configuration = 262_144

-- the file of each name, where the shelf tells it, and how often a read of one failed, before and after
pub record ShelfTells : Type 0 where
  pub file : List ℕ → Option (Option (List ℕ))
  pub faults : ℕ
  pub faults_after : ℕ

-- what it tells, by what it shows
abbrev pub shelf_by : {S : Type 0} → (S → ShelfShows) → S → S → ShelfTells
shelf_by shows shelf shelf_after = record { file = (shows shelf).file; faults = (shows shelf).faults; faults_after = (shows shelf_after).faults }

-- the file holds a configuration that isn't too long, and it says that setup
abbrev pub SaysSetup : Option (Option (List ℕ)) → Setup → Type 0
SaysSetup told setup = (octets : List ℕ) × Holds told octets × (length octets ≤ longest_configuration) × IsConfiguration octets setup

-- the setup of the command: that of a configuration that the file holds and that isn't too long, or that of the service
abbrev pub IsSetup : (List ℕ → Option (Option (List ℕ))) → Command → Setup → Type 0
IsSetup file (Run name) setup = SaysSetup (file name) setup
IsSetup file (Record name) setup = SaysSetup (file name) setup
IsSetup file (Play service) setup = setup ≡ play_setup service
IsSetup file command setup = ⊥

-- the file tells a configuration that isn't too long, and it says that setup
abbrev pub TellsConfiguration : Option (Option (List ℕ)) → Setup → Type 0
TellsConfiguration told setup = (octets : List ℕ) × (told ≡ Some (Some octets)) × (length octets ≤ longest_configuration) × IsConfiguration octets setup

-- the setup of the command, where a file that it names tells its configuration, which isn't too long
abbrev pub TellsSetup : (List ℕ → Option (Option (List ℕ))) → Command → Setup → Type 0
TellsSetup file (Run name) setup = TellsConfiguration (file name) setup
TellsSetup file (Record name) setup = TellsConfiguration (file name) setup
TellsSetup file command setup = IsSetup file command setup

-- the file holds octets that aren't too long and are no configuration, and of what they say that is the first fault
abbrev pub HasFault : Option (Option (List ℕ)) → ℕ → List ℕ → Type 0
HasFault told number key = (octets : List ℕ) × Holds told octets × (length octets ≤ longest_configuration) × IsFirstFault octets (fault key number)

-- why the file of that name gives no setup: a read of it failed, or it is too long, or has a fault
abbrev pub LacksConfiguration : ShelfTells → List ℕ → Status → Type 0
LacksConfiguration shelf name ConfigRead = Rose shelf.faults shelf.faults_after
LacksConfiguration shelf name (TooLong inputs.Configuration) = HoldsMore (shelf.file name) longest_configuration
LacksConfiguration shelf name (ConfigFault number key) = HasFault (shelf.file name) number key
LacksConfiguration shelf name status = ⊥

-- why the command has no setup: by its configuration
abbrev pub LacksSetup : ShelfTells → Command → Status → Type 0
LacksSetup shelf (Run name) status = LacksConfiguration shelf name status
LacksSetup shelf (Record name) status = LacksConfiguration shelf name status
LacksSetup shelf command status = ⊥

-- the file that the command names, if it names one
abbrev pub file_named : Command → Option (List ℕ)
file_named (Run name) = Some name
file_named (Record name) = Some name
file_named (Audit name) = Some name
file_named command = None

-- how often a read of a file failed, before and after: once more where a command that names a file couldn't read it, and else as often
abbrev pub CountsFile : Option (List ℕ) → Status → ℕ → ℕ → Type 0
CountsFile (Some name) ConfigRead before after = Rose before after
CountsFile named status before after = after ≡ before

abbrev pub CountsShelf : Option Command → Status → ℕ → ℕ → Type 0
CountsShelf (Some command) status before after = CountsFile (file_named command) status before after
CountsShelf None status before after = after ≡ before

-- the files that the command asks for: that which it names, once, and else none
abbrev pub AsksNamed : Option (List ℕ) → Option (List (List ℕ)) → Option (List (List ℕ)) → Type 0
AsksNamed (Some name) before after = AsksFile before after name
AsksNamed None before after = after ≡ before

abbrev pub AsksFiles : Command → Option (List (List ℕ)) → Option (List (List ℕ)) → Type 0
AsksFiles command before after = AsksNamed (file_named command) before after

-- which files were asked for, before and after: those that the command asks for, or none where memory ran out, as where there is no command
abbrev pub AsksShelf : Option Command → Status → Option (List (List ℕ)) → Option (List (List ℕ)) → Type 0
AsksShelf (Some command) NoMemory before after = (after ≡ before) ⊎ AsksFiles command before after
AsksShelf (Some command) status before after = AsksFiles command before after
AsksShelf None status before after = after ≡ before

-- what the shelf shows of a run: how often a read failed, and which files were asked for
pub record KeepsShelf (command : Option Command) (status : Status) (before after : ShelfShows) : Type 0 where
  pub counts : CountsShelf command status before.faults after.faults
  pub asks : AsksShelf command status before.asked after.asked
