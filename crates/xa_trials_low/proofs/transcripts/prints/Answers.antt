use Rattle.std.proofs.Common.{rules}
use Rattle.xa_trials_low.proofs.transcripts.prints.Goals as goal

pub transcript-requires : goal.transcript-requires
transcript-requires c = c.if-not-calls_in_turn.ensures.0 (search rules)
