-- What the reader of scripts tells, and that octets have one reading, or else one first fault.
use Rattle.std.specs.Prelude.{ℕ, ◌≡◌, List, ⊤}
use Rattle.xa_types.specs.declared.setup.Setup.{Setup}
use Rattle.xa_script.specs.declared.script.Script.{Script}
use Rattle.xa_script.specs.declared.script.ScriptRefused.{ScriptRefused}
use Rattle.xa_script.specs.declared.script.ScriptRefused.TheVariants.{BadLine, NoMemory}
use Rattle.xa_script.specs.Script.{IsScript, IsFirstFault}

-- a refusal other than for want of memory names the first line that is at fault, and its least cause
abbrev pub NamesFirstFault : Setup → ℕ → List ℕ → ScriptRefused → Type 0
NamesFirstFault setup most octets (BadLine line cause) = IsFirstFault setup most octets line cause
NamesFirstFault setup most octets NoMemory = ⊤

-- the octets are one script at most
abbrev pub OneScript : Type 0
OneScript = (setup : Setup) (most : ℕ) (octets : List ℕ) (a b : Script) → IsScript setup most octets a → IsScript setup most octets b → a ≡ b

-- octets with a faulty line are no script
abbrev pub NoFaultyScript : Type 0
NoFaultyScript = (setup : Setup) (most : ℕ) (octets : List ℕ) (line cause : ℕ) (script : Script) → IsFirstFault setup most octets line cause → IsScript setup most octets script → ⊥

-- one line at most is the first fault, with one cause
abbrev pub OneFirstFault : Type 0
OneFirstFault = (setup : Setup) (most : ℕ) (octets : List ℕ) (line other cause reason : ℕ) → IsFirstFault setup most octets line cause → IsFirstFault setup most octets other reason
    → (line ≡ other) × (cause ≡ reason)

-- octets without a faulty line are a script
abbrev pub SoundIsScript : Type 0
SoundIsScript = (setup : Setup) (most : ℕ) (octets : List ℕ) → ((line cause : ℕ) → IsFirstFault setup most octets line cause → ⊥) → (script : Script) × IsScript setup most octets script
