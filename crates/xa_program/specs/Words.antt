-- The words of a command line (this project's own).
use Rattle.std.specs.Prelude.{ℕ, drop, ⊤, Bool, false, not, ◌&&◌, ◌||◌, ◌==◌, List, [], ◌∷◌, Option, Some, None, option_and_then, codes, if◌then◌else◌}
use Rattle.std.specs.Str.{bytes_eq}
use Rattle.xa_domain.specs.xa_types.Name.{is_name}
use Rattle.xa_program.specs.declared.words.Command.{Command}
use Rattle.xa_program.specs.declared.words.Command.TheVariants.{Run, Record, Audit, Play, Server}

-- the program's own word, and the words behind it
abbrev pub own_word : List (List ℕ) → List ℕ
own_word [] = []
own_word (own ∷ behind) = own

abbrev pub words_behind : List (List ℕ) → List (List ℕ)
words_behind all = drop 1 all

abbrev pub begins_with_dash : List ℕ → Bool
begins_with_dash [] = false
begins_with_dash (first ∷ rest) = first == 45

-- the file that a word names; none where it begins with a dash
abbrev pub file_in : List ℕ → Option (List ℕ)
file_in word = if begins_with_dash word then None else Some word

-- the name that a word is; none where it begins with a dash
abbrev pub name_in : List ℕ → Option (List ℕ)
name_in word = if not (begins_with_dash word) && is_name word then Some word else None

-- whether the command's argument is the name of a file
abbrev pub takes_file : List ℕ → Bool
takes_file command = bytes_eq command (codes "run") || (bytes_eq command (codes "record") || bytes_eq command (codes "audit"))

-- `run FILE`, `record FILE` or `audit FILE`
abbrev pub filed_command : List ℕ → List ℕ → Option Command
filed_command command file =
    if bytes_eq command (codes "run") then Some (Run file)
    else (if bytes_eq command (codes "record") then Some (Record file) else (if bytes_eq command (codes "audit") then Some (Audit file) else None))

-- `play SERVICE` or `server NAME`
abbrev pub named_command : List ℕ → List ℕ → Option Command
named_command command name = if bytes_eq command (codes "play") then Some (Play name) else (if bytes_eq command (codes "server") then Some (Server name) else None)

-- `run CONFIG`, `record CONFIG`, `audit FILE`, `play SERVICE` or `server NAME`
abbrev pub command_of : List ℕ → List ℕ → Option Command
command_of command argument = if takes_file command then option_and_then (filed_command command) (file_in argument) else option_and_then (named_command command) (name_in argument)

-- a command has exactly two words
abbrev pub command_in : List (List ℕ) → Option Command
command_in (command ∷ argument ∷ []) = command_of command argument
command_in words = None

-- the command names a file
abbrev pub NamesFile : Option Command → Type 0
NamesFile (Some (Run file)) = ⊤
NamesFile (Some (Record file)) = ⊤
NamesFile (Some (Audit file)) = ⊤
NamesFile command = ⊥
