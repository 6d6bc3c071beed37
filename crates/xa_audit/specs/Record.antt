-- The record of a run (this project's own): the configuration, the names of the clients, and the events in merged order.
use Rattle.std.specs.Prelude.{ℕ, Bool, ◌==◌, ◌≡◌, ◌+◌, ◌^◌, ◌<◌, ◌≤◌, List, [], ◌∷◌, ◌++◌, length, map, codes, decimal}
use Rattle.std.specs.List.{All, flat_map}
use Rattle.xa_events.specs.declared.event.Event.{Event}
use Rattle.xa_types.specs.Name.{IsName}
use Rattle.xa_lines.specs.Line.{line_of, IsEvent}

-- a line, with the octet that ends it
abbrev pub line : List ℕ → List ℕ
line text = text ++ 10 ∷ []

-- a word and a number
abbrev pub counted : List ℕ → ℕ → List ℕ
counted word number = word ++ 32 ∷ decimal number

-- `config N`, and N octets, counted as one line
abbrev pub config_text : List ℕ → List ℕ
config_text config = line (counted (codes "config") (length config)) ++ line config

-- `clients N`, N names, the events, and `end N` with the number of events
abbrev pub record_lines : List (List ℕ) → List Event → List (List ℕ)
record_lines names history = counted (codes "clients") (length names) ∷ names ++ map line_of history ++ counted (codes "end") (length history) ∷ []

abbrev pub record_of : List ℕ → List (List ℕ) → List Event → List ℕ
record_of config names history = config_text config ++ flat_map line (record_lines names history)

abbrev pub is_feed : ℕ → Bool
is_feed octet = octet == 10

-- what a record is made of: names, at most 64, events, and of these a number that fits
pub record AreParts (names : List (List ℕ)) (history : List Event) : Type 0 where
  pub few : length names ≤ 64
  pub named : All IsName names
  pub fits : All IsEvent history
  pub many : length history < 2 ^ 64

-- the octets are the record of that configuration, these clients and events
pub record IsRecord (octets config : List ℕ) (names : List (List ℕ)) (history : List Event) : Type 0 where
  pub spelled : octets ≡ record_of config names history
  pub parts : AreParts names history

-- the octets begin as a record does: with a configuration and so many lines in all, of which the configuration is one
pub record Begins (octets : List ℕ) (many : ℕ) : Type 0 where
  pub config : List ℕ
  pub names : List (List ℕ)
  pub history : List Event
  pub parts : AreParts names history
  pub front : List (List ℕ)
  pub back : List (List ℕ)
  pub cut : record_lines names history ≡ front ++ back
  pub counted : many ≡ length front + 1
  pub rest : List ℕ
  pub stands : octets ≡ config_text config ++ (flat_map line front ++ rest)
