use Rattle.std.proofs.Common.{length}
use Rattle.xa_buffer.proofs.structure.+read_field.Given as goal

abbrev pub decreases-read_field : goal.decreases-read_field
decreases-read_field l = length l.fields.now
