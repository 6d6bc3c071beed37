-- The words that a program was started with.
use Rattle.std.specs.Prelude.{ℕ, List, Option}
use Rattle.std.specs.List.{slice_get}
use Rattle.xa_link.specs.declared.arguments.MemoryArguments.{MemoryArguments}

-- the word at that place, counted from 0
abbrev pub word_at : List (List ℕ) → ℕ → Option (List ℕ)
word_at words place = slice_get words place

-- the words of the form in memory
abbrev pub arguments_words : MemoryArguments → List (List ℕ)
arguments_words a = a.words.items
