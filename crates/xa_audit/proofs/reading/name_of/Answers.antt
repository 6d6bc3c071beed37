use Rattle.xa_audit.proofs.Records.{no_name_read}
use Rattle.xa_audit.proofs.reading.name_of.Goals as goal

pub returns-in_default : goal.returns-in_default
returns-in_default c = no_name_read c.args.octets.now c.in_ok-text.text.now c.in_ok-text.rest.now c.in_ok-text.ensures (λ named. cc (c.in_default.ensures.valid.1 named))
