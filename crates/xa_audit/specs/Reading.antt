-- How the code reads a record, line by line. No public contract rests on these.
use Rattle.std.specs.Prelude.{ℕ, ◌≡◌, ◌+◌, ◌^◌, ◌<◌, ◌≤◌, ⊤, List, [], ◌∷◌, ◌++◌, length, map, codes}
use Rattle.std.specs.List.{All, flat_map}
use Rattle.xa_types.specs.Name.{IsName}
use Rattle.xa_events.specs.declared.event.Event.{Event}
use Rattle.xa_lines.specs.Line.{line_of, IsEvent}
use Rattle.xa_audit.specs.Record.{line, counted, config_text, record_lines, AreParts}
use Rattle.xa_audit.specs.declared.reading.RecordRefused.{RecordRefused}
use Rattle.xa_audit.specs.declared.reading.RecordRefused.TheVariants as refusals

-- no octet ends a line
abbrev pub IsPlain : List ℕ → Type 0
IsPlain [] = ⊤
IsPlain (octet ∷ octets) = (octet ≡ 10 → ⊥) × IsPlain octets

-- the line stands in front, and that behind it
abbrev pub Opens : List ℕ → List ℕ → List ℕ → Type 0
Opens octets text rest = octets ≡ line text ++ rest

-- the first line, and what stands behind it
pub record IsCut (octets text rest : List ℕ) : Type 0 where
  pub opens : Opens octets text rest
  pub plain : IsPlain text

abbrev pub NoLine : List ℕ → Type 0
NoLine octets = (text rest : List ℕ) → Opens octets text rest → ⊥

abbrev pub IsNotCounted : List ℕ → List ℕ → Type 0
IsNotCounted text word = (number : ℕ) → number < 2 ^ 64 → text ≡ counted word number → ⊥

-- ---- the configuration

abbrev pub NoConfig : List ℕ → Type 0
NoConfig octets = (config rest : List ℕ) → octets ≡ config_text config ++ rest → ⊥

-- ---- the number of clients

pub record HasClients (octets : List ℕ) (many : ℕ) (rest : List ℕ) : Type 0 where
  pub few : many ≤ 64
  pub opens : Opens octets (counted (codes "clients") many) rest

abbrev pub NoClients : List ℕ → Type 0
NoClients octets = (many : ℕ) (rest : List ℕ) → HasClients octets many rest → ⊥

-- ---- the names

pub record HasName (octets name rest : List ℕ) : Type 0 where
  pub named : IsName name
  pub opens : Opens octets name rest

abbrev pub NoName : List ℕ → Type 0
NoName octets = (name rest : List ℕ) → HasName octets name rest → ⊥

pub record HasNames (octets : List ℕ) (names : List (List ℕ)) (rest : List ℕ) : Type 0 where
  pub named : All IsName names
  pub opens : octets ≡ flat_map line names ++ rest

-- fewer names than that stand there, and no name behind them; the first has line 3
pub record StopsAtName (many : ℕ) (octets : List ℕ) (at : ℕ) : Type 0 where
  pub names : List (List ℕ)
  pub rest : List ℕ
  pub has : HasNames octets names rest
  pub fewer : length names < many
  pub counted : at ≡ length names + 3
  pub none : NoName rest

-- ---- the events

pub record HasEvents (octets : List ℕ) (history : List Event) (rest : List ℕ) : Type 0 where
  pub fits : All IsEvent history
  pub many : length history < 2 ^ 64
  pub opens : octets ≡ flat_map line (map line_of history) ++ rest

abbrev pub NoEvent : List ℕ → Type 0
NoEvent octets = (event : Event) (rest : List ℕ) → IsEvent event → Opens octets (line_of event) rest → ⊥

abbrev pub NoEnd : List ℕ → ℕ → Type 0
NoEnd octets many = (rest : List ℕ) → Opens octets (counted (codes "end") many) rest → ⊥

-- events stand there, and behind them neither an event nor their number; the first has that line
pub record StopsAtEvent (first : ℕ) (octets : List ℕ) (at : ℕ) : Type 0 where
  pub history : List Event
  pub rest : List ℕ
  pub has : HasEvents octets history rest
  pub counted : at ≡ first + length history
  pub none : NoEvent rest
  pub no_end : NoEnd rest (length history)

-- events and their number
pub record HasHistory (octets : List ℕ) (history : List Event) (rest : List ℕ) : Type 0 where
  pub behind : List ℕ
  pub has : HasEvents octets history behind
  pub ends : Opens behind (counted (codes "end") (length history)) rest

-- ---- the lines behind the configuration

pub record AreLines (octets : List ℕ) (names : List (List ℕ)) (history : List Event) : Type 0 where
  pub spelled : octets ≡ flat_map line (record_lines names history)
  pub parts : AreParts names history

-- the octets go on with the first of these lines, or end where there is none
abbrev pub GoesOn : List (List ℕ) → List ℕ → Type 0
GoesOn [] octets = octets ≡ []
GoesOn (text ∷ lines) octets = (rest : List ℕ) × Opens octets text rest

-- the lines begin a record's
pub record BeginLines (lines : List (List ℕ)) : Type 0 where
  pub names : List (List ℕ)
  pub history : List Event
  pub parts : AreParts names history
  pub back : List (List ℕ)
  pub cut : record_lines names history ≡ lines ++ back

-- lines of a record stand there, and what stands behind them goes on as no record does; the first has line 2
pub record StopsAtLine (octets : List ℕ) (at : ℕ) : Type 0 where
  pub lines : List (List ℕ)
  pub rest : List ℕ
  pub opens : octets ≡ flat_map line lines ++ rest
  pub counted : at ≡ length lines + 2
  pub begins : BeginLines lines
  pub none : (names : List (List ℕ)) (history : List Event) (back : List (List ℕ)) → AreParts names history → record_lines names history ≡ lines ++ back → GoesOn back rest → ⊥

-- a refusal other than for want of memory tells such a line
abbrev pub Tells : (ℕ → Type 0) → RecordRefused → Type 0
Tells Stops (refusals.BadRecord at) = Stops at
Tells Stops refusals.NoMemory = ⊤
