-- The first words, as text.
use Rattle.std.proofs.Common.{◌≡◌, take, map, string_bytes}
use Rattle.xa_program.proofs.words.texts_of.Given as goal

abbrev pub invariant-loop-word : goal.invariant-loop-word
invariant-loop-word l = map string_bytes l.texts.items ≡ take l.word-index l.words
