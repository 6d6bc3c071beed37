-- The numbers that the program ends with (this project's own).
use Rattle.std.specs.Prelude.{ℕ}
use Rattle.xa_program.specs.declared.status.Status.{Status}
use Rattle.xa_program.specs.declared.status.Status.TheVariants.{Done, Usage, ConfigRead, ConfigFault, ScriptRead, TooLong, BadLine, WriteFault, BadFrame, NoMemory, Worn, BadRecord, NotARun}

-- the number of each status
abbrev pub number_of : Status → ℕ
number_of Done = 0
number_of Usage = 1
number_of (ConfigFault number key) = 2
number_of (BadLine line cause) = 3
number_of ConfigRead = 4
number_of ScriptRead = 4
number_of WriteFault = 5
number_of NoMemory = 6
number_of (TooLong which) = 7
number_of (Worn stamp) = 9
number_of (BadFrame place) = 10
number_of (BadRecord line) = 11
number_of NotARun = 12
