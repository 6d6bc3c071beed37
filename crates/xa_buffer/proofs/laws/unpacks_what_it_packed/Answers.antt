use Rattle.xa_buffer.proofs.Whole.{unpacked-packed, packed-unpacked}
use Rattle.xa_buffer.proofs.laws.unpacks_what_it_packed.Goals as goal

pub returns-clause-back : goal.returns-clause-back
returns-clause-back c = unpacked-packed

pub returns-clause-forth : goal.returns-clause-forth
returns-clause-forth c = packed-unpacked
