-- What is read so far, as the code keeps it, and what comes of the next line. No public contract rests on these.
use Rattle.std.specs.Prelude.{ℕ, ◌≡◌, ◌==◌, not, nat_le, Bool, if◌then◌else◌, List, [], ◌∷◌, ◌++◌, length, codes, Option, Some, None, Result, Ok, Err}
use Rattle.std.specs.List.{list_all}
use Rattle.std.specs.Str.{bytes_eq}
use Rattle.xa_types.specs.Name.{is_name}
use Rattle.xa_types.specs.Configured.{is_among}
use Rattle.xa_types.specs.declared.setup.Setup.{Setup}
use Rattle.xa_types.specs.declared.call.Op.{Op}
use Rattle.xa_script.specs.declared.calls.Verb.{Verb}
use Rattle.xa_script.specs.declared.script.Client.{Client}
use Rattle.xa_script.specs.declared.draft.Cause.{Cause}
use Rattle.xa_script.specs.declared.draft.Cause.TheVariants.{Unprinted, Unknown, BeforeClients, Misshapen, NoName, Doubled, OneTooMany, NotTaken, NotServed}
use Rattle.xa_script.specs.Parts.{is_printed}
use Rattle.xa_script.specs.Words.{is_skipped, word_at, next_word, no_more, ◌>>=◌}
use Rattle.xa_script.specs.Calls.{verb_of, op_of}
use Rattle.xa_script.specs.Served.{is_served}
use Rattle.xa_script.specs.Script.{client_names}

abbrev pub is_line_end : ℕ → Bool
is_line_end octet = octet == 10

abbrev pub cause_number : Cause → ℕ
cause_number Unprinted = 1
cause_number Unknown = 2
cause_number BeforeClients = 3
cause_number Misshapen = 4
cause_number NoName = 5
cause_number Doubled = 6
cause_number OneTooMany = 7
cause_number NotTaken = 8
cause_number NotServed = 9

abbrev pub client_with : List ℕ → List Op → Client
client_with name ops = record { name = name; ops = ops }

-- the clients that are read so far: those that are done, and the last one
abbrev pub drafted : List Client → Option (List ℕ) → List Op → List Client
drafted done None ops = done
drafted done (Some name) ops = done ++ client_with name ops ∷ []

-- a client is done, and calls stand, only where a last one was begun
abbrev pub IsBegun : List Client → Option (List ℕ) → List Op → Type 0
IsBegun done None ops = (done ≡ []) × (ops ≡ [])
IsBegun done (Some name) ops = Unit {0}

-- the clients that are read, or what is wrong
abbrev pub Taken : Type 0
Taken = Result (List Client) Cause

abbrev pub kept : Option Cause → List Client → Taken
kept None clients = Ok clients
kept (Some cause) clients = Err cause

-- the last client makes this call too
abbrev pub with_call : List Client → Op → List Client
with_call [] op = []
with_call (client ∷ []) op = client_with client.name (client.ops ++ op ∷ []) ∷ []
with_call (client ∷ other ∷ clients) op = client ∷ with_call (other ∷ clients) op

-- a client of that name begins, of whom there may be so many
abbrev pub begun : ℕ → List Client → List ℕ → Taken
begun most clients name = if not (is_name name) then Err NoName
    else (if is_among (client_names clients) name then Err Doubled
    else (if nat_le most (length clients) then Err OneTooMany
    else Ok (clients ++ client_with name [] ∷ [])))

-- the one word behind `client`
unfoldable pub client_of : List ℕ → Option (List ℕ)
client_of octets = do
  word ← word_at octets
  no_more word.0 word.1

abbrev pub with_client : ℕ → List Client → Option (List ℕ) → Taken
with_client most clients None = Err Misshapen
with_client most clients (Some name) = begun most clients name

-- a call that is read, if the setup takes each part and it is served
abbrev pub with_op : List Client → Option (Option Op) → Taken
with_op clients None = Err Misshapen
with_op clients (Some None) = Err NotTaken
with_op clients (Some (Some op)) = if is_served op then Ok (with_call clients op) else Err NotServed

abbrev pub called : Setup → List Client → Option Verb → List ℕ → Taken
called setup clients None octets = Err Unknown
called setup [] (Some verb) octets = Err BeforeClients
called setup (client ∷ clients) (Some verb) octets = with_op (client ∷ clients) (op_of setup verb octets)

-- what comes of the next line
unfoldable pub with_line : Setup → ℕ → List Client → List ℕ → Taken
with_line setup most clients line = let word = next_word line in
    if not (list_all is_printed line) then Err Unprinted
    else (if is_skipped line then Ok clients
    else (if bytes_eq word.0 (codes "client") then with_client most clients (client_of word.1)
    else called setup clients (verb_of word.0) word.1))

abbrev pub and_then : (List Client → Taken) → Taken → Taken
and_then next (Ok clients) = next clients
and_then next (Err cause) = Err cause

-- what comes of the lines behind those of these clients
unfoldable pub read_all : Setup → ℕ → List Client → List (List ℕ) → Taken
read_all setup most clients [] = Ok clients
read_all setup most clients (line ∷ lines) = and_then (λ more. read_all setup most more lines) (with_line setup most clients line)
