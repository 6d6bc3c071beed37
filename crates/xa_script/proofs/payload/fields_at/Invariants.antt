use Rattle.std.proofs.Common.{◌≡◌, ◌-◌, [], length}
use Rattle.xa_script.specs.Payload.{fields_from}
use Rattle.xa_script.proofs.FieldsRead.{Names}
use Rattle.xa_script.proofs.payload.fields_at.Given as goal

abbrev pub invariant-loop-turn : goal.invariant-loop-turn
invariant-loop-turn l = (fields_from (length l.octets - l.turn) l.given.items l.rest ≡ fields_from (length l.octets) [] l.octets) × Names l.given.items l.names
