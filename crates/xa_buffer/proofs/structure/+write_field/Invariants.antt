use Rattle.std.proofs.Common.{length}
use Rattle.xa_buffer.proofs.structure.+write_field.Given as goal

abbrev pub decreases-write_field : goal.decreases-write_field
decreases-write_field l = length l.fields.now
