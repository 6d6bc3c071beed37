use Rattle.xa_buffer.proofs.Whole.{allocated_of, unpacked_of, field_stays_of}
use Rattle.xa_buffer.proofs.laws.stays_of_its_shape.Goals as goal

pub returns-clause-allocated : goal.returns-clause-allocated
returns-clause-allocated c = allocated_of

pub returns-clause-unpacked : goal.returns-clause-unpacked
returns-clause-unpacked c = unpacked_of

pub returns-clause-field : goal.returns-clause-field
returns-clause-field c = field_stays_of
