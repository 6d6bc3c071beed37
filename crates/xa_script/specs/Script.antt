-- What a script says: the clients that its lines begin and the calls that they make, or the first line at fault (this project's own). `lines` cuts
-- the octets at each 0x0A and drops a 0x0D before it; the last line may lack its end, and where nothing stands behind the last 0x0A no line begins.
use Rattle.std.specs.Prelude.{ℕ, ◌+◌, ◌≡◌, ◌≤◌, Bool, true, false, List, [], ◌∷◌, ◌++◌, length, map, filter, flat_map, codes, Option, Some, None}
use Rattle.std.specs.List.{list_all, AllZip}
use Rattle.std.specs.Str.Lines.{lines}
use Rattle.xa_types.specs.Name.{is_name}
use Rattle.xa_types.specs.Configured.{is_among, are_distinct}
use Rattle.xa_types.specs.declared.setup.Setup.{Setup}
use Rattle.xa_types.specs.declared.call.Op.{Op}
use Rattle.xa_script.specs.declared.script.Client.{Client}
use Rattle.xa_script.specs.declared.script.Script.{Script}
use Rattle.xa_script.specs.Parts.{is_printed, is_space, is_comment, IsWord, IsSpaced, IsFirstWord}
use Rattle.xa_script.specs.Asked.{call_words, IsCall}
use Rattle.xa_script.specs.Served.{is_served}

-- ---- lines

-- `client` and one word
abbrev pub IsClientLine : List ℕ → List ℕ → Type 0
IsClientLine line name = IsWord name × IsSpaced (codes "client" ∷ name ∷ []) line

-- a line of the form of a call, and the call, or none where the setup doesn't take a part of it
abbrev pub IsCallLine : Setup → List ℕ → Option Op → Type 0
IsCallLine setup line op = (parts : List (List ℕ)) × IsSpaced parts line × IsCall setup parts op

-- what a line says: nothing, that a client begins, or a call of it
pub data Saying : Type 0 where
  Nothing : Saying
  Begins : (name : List ℕ) → Saying
  Makes : (op : Op) → Saying

-- a line without a fault, but that its octets may be any
pub data Says (setup : Setup) (line : List ℕ) : Saying → Type 0 where
  blank : list_all is_space line ≡ true → Says setup line Nothing
  comment : is_comment line ≡ true → Says setup line Nothing
  begins : (name : List ℕ) → IsClientLine line name → is_name name ≡ true → Says setup line (Begins name)
  makes : (op : Op) → IsCallLine setup line (Some op) → is_served op ≡ true → Says setup line (Makes op)

-- a line without a fault
abbrev pub SaysPrinted : Setup → List ℕ → Saying → Type 0
SaysPrinted setup line saying = (list_all is_printed line ≡ true) × Says setup line saying

-- ---- scripts

-- whether a line says something
abbrev pub is_said : Saying → Bool
is_said Nothing = false
is_said (Begins name) = true
is_said (Makes op) = true

-- what the lines of a client say
abbrev pub said_of : Client → List Saying
said_of client = Begins client.name ∷ map (λ op. Makes op) client.ops

abbrev pub client_names : List Client → List (List ℕ)
client_names clients = map (λ (client : Client). client.name) clients

-- each line has no fault, and they say these clients, of whom there may be so many and no two have one name
pub record IsScriptOf (setup : Setup) (most : ℕ) (lines : List (List ℕ)) (clients : List Client) : Type 0 where
  pub sayings : List Saying
  pub each : AllZip (SaysPrinted setup) lines sayings
  pub said : filter is_said sayings ≡ flat_map said_of clients
  pub few : length clients ≤ most
  pub distinct : are_distinct (client_names clients) ≡ true

-- the octets are a script of at most so many clients
abbrev pub IsScript : Setup → ℕ → List ℕ → Script → Type 0
IsScript setup most octets script = IsScriptOf setup most (lines octets) script.clients

-- ---- faults

-- what is wrong with a line behind these clients, each cause with its number
pub data IsAtFault (setup : Setup) (most : ℕ) (clients : List Client) (line : List ℕ) : ℕ → Type 0 where
  unprinted : list_all is_printed line ≡ false → IsAtFault setup most clients line 1
  unknown : (word : List ℕ) → IsFirstWord word line → is_among (codes "client" ∷ call_words) word ≡ false → IsAtFault setup most clients line 2
  before_clients : (word : List ℕ) → IsFirstWord word line → is_among call_words word ≡ true → clients ≡ [] → IsAtFault setup most clients line 3
  no_client : IsFirstWord (codes "client") line → ((name : List ℕ) → IsClientLine line name → ⊥) → IsAtFault setup most clients line 4
  no_call : (word : List ℕ) → IsFirstWord word line → is_among call_words word ≡ true → ((op : Option Op) → IsCallLine setup line op → ⊥) → IsAtFault setup most clients line 4
  no_name : (name : List ℕ) → IsClientLine line name → is_name name ≡ false → IsAtFault setup most clients line 5
  doubled : (name : List ℕ) → IsClientLine line name → is_among (client_names clients) name ≡ true → IsAtFault setup most clients line 6
  one_too_many : (name : List ℕ) → IsClientLine line name → most ≤ length clients → IsAtFault setup most clients line 7
  not_taken : IsCallLine setup line None → IsAtFault setup most clients line 8
  not_served : (op : Op) → IsCallLine setup line (Some op) → is_served op ≡ false → IsAtFault setup most clients line 9

-- the least of its causes has that number
abbrev pub HasLeastCause : Setup → ℕ → List Client → List ℕ → ℕ → Type 0
HasLeastCause setup most clients line cause = IsAtFault setup most clients line cause × ((other : ℕ) → IsAtFault setup most clients line other → cause ≤ other)

-- the lines before that one, counted from 1, are a script, and that line is at fault behind its clients, by that cause as its least
pub record IsFirstFault (setup : Setup) (most : ℕ) (octets : List ℕ) (line cause : ℕ) : Type 0 where
  pub before : List (List ℕ)
  pub clients : List Client
  pub text : List ℕ
  pub after : List (List ℕ)
  pub cut : lines octets ≡ before ++ text ∷ after
  pub counted : line ≡ length before + 1
  pub script : IsScriptOf setup most before clients
  pub fault : HasLeastCause setup most clients text cause
