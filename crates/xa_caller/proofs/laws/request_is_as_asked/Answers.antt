use Rattle.std.proofs.Common.{refl}
use Rattle.xa_caller.proofs.Next.{row-service}
use Rattle.xa_caller.proofs.laws.request_is_as_asked.Goals as goal

pub returns : goal.returns
returns c setup ask op version request row asked valid is = record { valid = valid; service = row-service setup ask.service row is; payload = refl; mode = refl }
