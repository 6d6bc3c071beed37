use Rattle.std.proofs.Common.{◌≡◌, ◌≤◌, ◌++◌, ◌+◌, length, vec_capacity, reverse, drop}
use Rattle.std.specs.List.{flat_map}
use Rattle.xa_text.specs.Transcript.{transcript, transcript_from}
use Rattle.xa_text.proofs.transcribing.transcript.Given as goal

abbrev pub invariant-loop-text : goal.invariant-loop-text
invariant-loop-text l = record {
  lines : flat_map (λ piece. piece) l.pieces.items ++ transcript_from (length l.yielded + 1) (drop (length l.yielded) l.names) (reverse l.history) ≡ transcript l.names (reverse l.history);
  left : l.yielded ++ l.text-iterator.rest.items ≡ l.initial.text-iterator.rest.items;
  count : length l.pieces.items ≡ length l.yielded;
  room : length l.initial.text-iterator.rest.items ≤ vec_capacity l.pieces;
}
