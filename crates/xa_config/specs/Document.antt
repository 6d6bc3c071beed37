-- What is read of the octets of a configuration, and what is told where they are none.
use Rattle.std.specs.Prelude.{ℕ, ◌≡◌, IsUtf8, List, [], ◌∷◌, Option, Some, None, Result, MatchResult, ⊤}
use Rattle.toml.specs.Data.{Data, table}
use Rattle.toml.specs.Parse.{parse_document}
use Rattle.xa_types.specs.declared.setup.Setup.{Setup}
use Rattle.xa_config.specs.declared.refusal.ConfigRefused.{ConfigRefused}
use Rattle.xa_config.specs.declared.refusal.ConfigRefused.TheVariants.{Fault as Told, NoMemory}
use Rattle.xa_config.specs.Faults.{Fault, fault, not_toml}
use Rattle.xa_config.specs.Tables.{faults_of}
use Rattle.xa_config.specs.Meaning.{setup_of}

-- the octets are text in UTF-8 that is this TOML document, or they are none
abbrev pub Says : List ℕ → Option Data → Type 0
Says octets (Some (table members)) = IsUtf8 octets × (parse_document octets ≡ Some members)
Says octets (Some _) = ⊥
Says octets None = IsUtf8 octets → parse_document octets ≡ None

abbrev pub all_faults : Option Data → List Fault
all_faults (Some document) = faults_of document
all_faults None = fault [] not_toml ∷ []

abbrev pub first : {A : Type 0} → List A → Option A
first [] = None
first (told ∷ later) = Some told

-- the octets are a configuration without a fault, which says that setup
pub record IsConfiguration (octets : List ℕ) (setup : Setup) : Type 0 where
  pub document : Data
  pub is_said : Says octets (Some document)
  pub faultless : faults_of document ≡ []
  pub says : setup ≡ setup_of document

-- of what the octets say, this is the first fault
pub record IsFirstFault (octets : List ℕ) (told : Fault) : Type 0 where
  pub document : Option Data
  pub is_said : Says octets document
  pub is_first : first (all_faults document) ≡ Some told

abbrev pub NamesFirstFault : List ℕ → ConfigRefused → Type 0
NamesFirstFault octets (Told number key) = IsFirstFault octets (fault key number)
NamesFirstFault octets NoMemory = ⊤

-- a refusal other than for want of memory tells the first of these faults
abbrev pub TellsFirst : List Fault → ConfigRefused → Type 0
TellsFirst faults (Told number key) = first faults ≡ Some (fault key number)
TellsFirst faults NoMemory = ⊤

-- a reading finds this value and no fault, or tells the first of these faults
abbrev pub Reads : {A : Type 0} → List Fault → A → Result A ConfigRefused → Type 0
Reads faults value result = MatchResult result (λ found. (faults ≡ []) × (found ≡ value)) (TellsFirst faults)

-- the same where a fault is a number alone
abbrev pub Judges : {A : Type 0} → List ℕ → A → Result A ℕ → Type 0
Judges numbers value result = MatchResult result (λ found. (numbers ≡ []) × (found ≡ value)) (λ number. first numbers ≡ Some number)
