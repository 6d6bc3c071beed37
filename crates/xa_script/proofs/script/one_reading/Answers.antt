use Rattle.std.proofs.Common.{ap, List}
use Rattle.std.specs.Str.Lines.{lines}
use Rattle.xa_script.specs.declared.script.Client.{Client}
use Rattle.xa_script.specs.declared.script.Script.{Script}
use Rattle.xa_script.proofs.ScriptSays.{script_again}
use Rattle.xa_script.proofs.ReadLines.{one_script, no_fault, one_fault, sound}
use Rattle.xa_script.proofs.script.one_reading.Goals as goal

abbrev script_of : List Client → Script
script_of clients = record { clients = clients }

pub returns-clause-script : goal.returns-clause-script
returns-clause-script c = λ setup most octets a b left right. ap script_of (one_script setup most (lines octets) a.clients b.clients (script_again setup most (lines octets) a.clients left) (script_again setup most (lines octets) b.clients right))

pub returns-clause-fault : goal.returns-clause-fault
returns-clause-fault c = λ setup most octets line cause script fault read. no_fault setup most octets line cause script.clients read fault

pub returns-clause-line : goal.returns-clause-line
returns-clause-line c = λ setup most octets line other cause reason first second. one_fault setup most octets line other cause reason first second

pub returns-clause-sound : goal.returns-clause-sound
returns-clause-sound c = λ setup most octets none. let found = sound setup most octets none in (script_of found.0, found.1)
