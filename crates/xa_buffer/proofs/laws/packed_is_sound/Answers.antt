use Rattle.xa_buffer.proofs.Whole.{packed_sound}
use Rattle.xa_buffer.proofs.laws.packed_is_sound.Goals as goal

pub returns : goal.returns
returns c = packed_sound
