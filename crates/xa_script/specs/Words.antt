-- How the code reads the parts of a line, each with the octets behind it. No public contract rests on these.
use Rattle.std.specs.Prelude.{ℕ, ◌+◌, ◌*◌, ◌≡◌, ◌==◌, ◌&&◌, Bool, true, false, if◌then◌else◌, List, [], ◌∷◌, ◌++◌, length, drop, Option, Some, None, Result, Ok, Err}
use Rattle.std.specs.List.{before_first, position_or_len}
pub use Rattle.xa_script.specs.Parts.{is_printed, is_space, is_end, is_marked, decimal_from, decimal, is_decimal, number_of, hex_digit}
pub use Rattle.xa_script.specs.Structures.{◌>>=◌, name_of}
use Rattle.xa_script.specs.declared.words.NoForm.{NoForm}
use Rattle.xa_script.specs.declared.words.ReadError.{ReadError}
use Rattle.xa_script.specs.declared.words.ReadError.TheVariants as errors
use Rattle.xa_buffer.specs.declared.refusal.BufferRefused.{BufferRefused}
use Rattle.xa_buffer.specs.declared.refusal.BufferRefused.TheVariants as refusals

-- what a function returned, seen by view, is what the octets say
abbrev pub Reads : {X Y : Type 0} → (X → Y) → Result X NoForm → Option Y → Type 0
Reads view (Ok x) said = said ≡ Some (view x)
Reads view (Err e) said = said ≡ None

-- the same, but that memory may run out
abbrev pub Fails : {Y : Type 0} → ReadError → Option Y → Type 0
Fails errors.NoForm said = said ≡ None
Fails errors.NoMemory said = Unit {0}

abbrev pub Makes : {X Y : Type 0} → (X → Y) → Result X ReadError → Option Y → Type 0
Makes view (Ok x) said = said ≡ Some (view x)
Makes view (Err e) said = Fails e said

-- why nothing is read where a buffer refuses
abbrev pub reason_of : BufferRefused → ReadError
reason_of refusals.NoEntry = errors.NoForm
reason_of refusals.BadSize = errors.NoForm
reason_of refusals.NoField = errors.NoForm
reason_of refusals.WrongKind = errors.NoForm
reason_of refusals.TooLong = errors.NoForm
reason_of refusals.WrongLength = errors.NoForm
reason_of refusals.NoMemory = errors.NoMemory

abbrev pub skip_spaces : List ℕ → List ℕ
skip_spaces [] = []
skip_spaces (octet ∷ rest) = if octet == 32 then skip_spaces rest else octet ∷ rest

abbrev pub is_blank : List ℕ → Bool
is_blank octets = length (skip_spaces octets) == 0

-- a line of spaces, or one whose first octet is `#`
abbrev pub is_skipped : List ℕ → Bool
is_skipped [] = true
is_skipped (octet ∷ rest) = if octet == 35 then true else is_blank (octet ∷ rest)

-- the octets before the first space, and those from it on
unfoldable pub cut_word : List ℕ → List ℕ × List ℕ
cut_word octets = (before_first is_space octets, drop (position_or_len is_space octets) octets)

-- the word behind the spaces, and what stands behind it; an empty one where there is none
abbrev pub next_word : List ℕ → List ℕ × List ℕ
next_word octets = cut_word (skip_spaces octets)

unfoldable pub word_at : List ℕ → Option (List ℕ × List ℕ)
word_at octets = if length (next_word octets).0 == 0 then None else Some (next_word octets)

-- nothing more stands in the line
abbrev pub no_more : {A : Type 0} → A → List ℕ → Option A
no_more x octets = if is_blank octets then Some x else None

-- ---- quoted texts

-- an octet of a quoted text: a double quote and a backslash have a backslash before them
abbrev pub next_octet : List ℕ → Option (ℕ × List ℕ)
next_octet [] = None
next_octet (x ∷ []) = if is_marked x then None else Some (x, [])
next_octet (x ∷ y ∷ rest) = if x == 34 then None else (if x == 92 then (if is_marked y then Some (y, rest) else None) else Some (x, y ∷ rest))

abbrev pub put : List ℕ → List ℕ × List ℕ → List ℕ × List ℕ
put front x = (front ++ x.0, x.1)

-- the octets of a quoted text, as far as they go, and what stands behind them
unfoldable pub text_in_front : List ℕ → List ℕ × List ℕ
text_in_front [] = ([], [])
text_in_front (x ∷ []) = if is_marked x then ([], x ∷ []) else (x ∷ [], [])
text_in_front (x ∷ y ∷ rest) = if x == 34 then ([], x ∷ y ∷ rest)
    else (if x == 92 then (if is_marked y then put (y ∷ []) (text_in_front rest) else ([], x ∷ y ∷ rest)) else put (x ∷ []) (text_in_front (y ∷ rest)))

-- the second double quote stands there, and it ends a word
abbrev pub ended : List ℕ → List ℕ → Option (List ℕ × List ℕ)
ended text [] = None
ended text (octet ∷ rest) = if octet == 34 && is_end rest then Some (text, rest) else None

abbrev pub is_quoted : List ℕ → Bool
is_quoted [] = false
is_quoted (octet ∷ rest) = octet == 34

-- the text in double quotes that begins there
unfoldable pub quoted_at : List ℕ → Option (List ℕ × List ℕ)
quoted_at octets = if is_quoted octets then ended (text_in_front (drop 1 octets)).0 (text_in_front (drop 1 octets)).1 else None

-- ---- numbers

unfoldable pub hex_octet : ℕ → ℕ → Option ℕ
hex_octet first second = do
  high ← hex_digit first
  low ← hex_digit second
  Some (high * 16 + low)

-- the octets that an even number of digits says, behind those
abbrev pub hex_from : List ℕ → List ℕ → Option (List ℕ)
hex_from front [] = Some front
hex_from front (digit ∷ []) = None
hex_from front (digit ∷ other ∷ rest) = hex_octet digit other >>= λ octet. hex_from (front ++ octet ∷ []) rest
