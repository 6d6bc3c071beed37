use Rattle.std.proofs.Common.{arith, codes}
use Rattle.xa_audit.specs.Record.{counted}
use Rattle.xa_audit.specs.Reading.{NoClients, HasClients}
use Rattle.xa_audit.proofs.Lines.{none_is}
use Rattle.xa_audit.proofs.Records.{no_clients_counted, no_clients_few}
use Rattle.xa_audit.proofs.reading.clients_of.Goals as goal

pub returns-in_err-text : goal.returns-in_err-text
returns-in_err-text c = none_is c.from_residual.result (NoClients c.args.octets.now) (λ x. HasClients c.args.octets.now x.0 x.1.now) c.from_residual.ensures (λ many rest has. c.in_err-text.ensures (counted (codes "clients") many) rest has.opens)

pub returns-in_err-many : goal.returns-in_err-many
returns-in_err-many c =
    none_is c.from_residual-in_err-many.result (NoClients c.args.octets.now) (λ x. HasClients c.args.octets.now x.0 x.1.now) c.from_residual-in_err-many.ensures (no_clients_counted c.args.octets.now c.in_ok-text.text.now c.in_ok-text.rest.now c.in_ok-text.ensures c.in_err-many.ensures)

pub returns-then-many-gt64 : goal.returns-then-many-gt64
returns-then-many-gt64 c = no_clients_few c.args.octets.now c.in_ok-text.text.now c.in_ok-text.rest.now c.in_ok-many.many c.in_ok-text.ensures (omega arith) c.in_ok-many.ensures c.if-many-gt64.true
