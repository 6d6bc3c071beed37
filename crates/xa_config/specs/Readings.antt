-- That octets have one reading as a configuration at most: one setup, or else one first fault.
use Rattle.std.specs.Prelude.{ℕ, ◌≡◌, List}
use Rattle.xa_types.specs.declared.setup.Setup.{Setup}
use Rattle.xa_config.specs.Document.{IsConfiguration, IsFirstFault}
use Rattle.xa_config.specs.Faults.{Fault}

-- the octets are one configuration at most
abbrev pub OneSetup : Type 0
OneSetup = (octets : List ℕ) (setup other : Setup) → IsConfiguration octets setup → IsConfiguration octets other → setup ≡ other

-- octets with a first fault are no configuration
abbrev pub NoFaultyConfiguration : Type 0
NoFaultyConfiguration = (octets : List ℕ) (told : Fault) (setup : Setup) → IsFirstFault octets told → IsConfiguration octets setup → ⊥

-- one fault at most is the first
abbrev pub OneFirstFault : Type 0
OneFirstFault = (octets : List ℕ) (told other : Fault) → IsFirstFault octets told → IsFirstFault octets other → told ≡ other
