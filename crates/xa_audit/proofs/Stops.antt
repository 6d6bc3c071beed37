-- Where the lines of octets stop being a record's.
use Rattle.std.proofs.Common.{◌≡◌, ◌⊎◌, inl, inr, ℕ, ◌+◌, ◌-◌, ◌^◌, ◌<◌, ◌≤◌, List, [], ◌∷◌, ◌++◌, length, map, take, drop, refl, sym, ap, subst, ◌∙◌, arith, codes, append_assoc, replicate}
use Rattle.std.specs.List.{All, AllByRecursion, flat_map}
use Rattle.std.proofs.lemmas.List.{append-nil, length-append, length-map, length-take-le, length-replicate, take-append-drop}
use Rattle.std.proofs.lemmas.List.Elements.{recursion_from_All, All-append, All-replicate, All-nil}
use Rattle.std.proofs.lemmas.Grind.{flat_map-append}
use Rattle.xa_types.specs.Name.{IsName}
use Rattle.xa_types.specs.declared.setup.Setup.{Setup}
use Rattle.xa_events.specs.declared.event.Event.{Event}
use Rattle.xa_lines.specs.Line.{line_of, IsEvent}
use Rattle.xa_config.specs.Document.{IsConfiguration}
use Rattle.xa_config.specs.Faults.{fault}
use Rattle.xa_config.proofs.OneReading.{no_fault}
use Rattle.xa_audit.specs.Record.{line, counted, config_text, record_lines, AreParts, Begins}
use Rattle.xa_audit.specs.Reading.{Opens, NoConfig, HasClients, NoClients, HasNames, StopsAtName, HasHistory, StopsAtEvent, AreLines, GoesOn, BeginLines, StopsAtLine, Tells}
use Rattle.xa_audit.specs.declared.reading.RecordRefused.{RecordRefused}
use Rattle.xa_audit.specs.declared.reading.RecordRefused.TheVariants as refusals
use Rattle.xa_audit.specs.Audit.{IsBad}
use Rattle.xa_audit.proofs.Lines.{ArePlain, plain_left, one_cut, Front, Longer}
use Rattle.xa_audit.proofs.Records.{plain_record, one_config, no_end_event, same_clients, same_front, no_line_left}

abbrev Lines : Type 0
Lines = List (List ℕ)

abbrev end_line : List Event → List ℕ
end_line history = counted (codes "end") (length history)

no_parts : AreParts [] []
no_parts = record { few = omega arith; named = All-nil IsName; fits = All-nil IsEvent; many = omega arith }

-- ---- at the number of clients

pub stops_at_clients : (octets : List ℕ) → NoClients octets → StopsAtLine octets 2
stops_at_clients octets none = record {
  lines = [];
  rest = octets;
  opens = refl;
  counted = refl;
  begins = record { names = []; history = []; parts = no_parts; back = record_lines [] []; cut = refl };
  none = λ names history back parts cut goes.
      let first : GoesOn (record_lines names history) octets = subst (λ (ls : Lines). GoesOn ls octets) (sym cut) goes in
      none (length names) first.0 (record { few = parts.few; opens = first.1 });
}

-- ---- at a name

-- what stands behind so many of a longer list is the next of it
next_of : {X : Type 0} (P : X → Type 0) (xs ys zs ws : List X) → length ys < length xs → AllByRecursion P xs → xs ++ zs ≡ ys ++ ws → (x : X) × (more : List X) × (ws ≡ x ∷ more) × P x
next_of P [] ys zs ws h all e = absurd (omega (arith, h))
next_of P (x ∷ xs) [] zs ws h all e = (x, xs ++ zs, sym e, all.0)
next_of P (x ∷ xs) (y ∷ ys) zs ws h all e =
    let tails : xs ++ zs ≡ ys ++ ws = cc in
    next_of P xs ys zs ws (omega (arith, h)) all.1 tails

goes_to : (back more : Lines) (text octets : List ℕ) → back ≡ text ∷ more → GoesOn back octets → GoesOn (text ∷ more) octets
goes_to back more text octets e goes = subst (λ (ls : Lines). GoesOn ls octets) e goes

abbrev a_name : List ℕ
a_name = codes "a"

-- names, and as many more as are wanted
abbrev padded : (names : Lines) (many : ℕ) → Lines
padded names many = names ++ replicate (many - length names) a_name

padded_many : (names : Lines) (many : ℕ) → length names < many → length (padded names many) ≡ many
padded_many names many fewer =
    let all = length-append names (replicate (many - length names) a_name) in
    let more = length-replicate (many - length names) a_name in
    omega (arith, all, more, fewer)

padded_parts : (names : Lines) (many : ℕ) → length names < many → many ≤ 64 → All IsName names → AreParts (padded names many) []
padded_parts names many fewer few named = record {
  few = omega (arith, padded_many names many fewer, few);
  named = All-append IsName names (replicate (many - length names) a_name) named (All-replicate IsName (many - length names) a_name refl);
  fits = All-nil IsEvent;
  many = omega arith;
}

begin_names : (names : Lines) (many : ℕ) → length names < many → many ≤ 64 → All IsName names → BeginLines (counted (codes "clients") many ∷ names)
begin_names names many fewer few named =
    let more = replicate (many - length names) a_name in
    let last = end_line [] ∷ [] in
    record {
      names = padded names many;
      history = [];
      parts = padded_parts names many fewer few named;
      back = more ++ last;
      cut = ap (λ n. (counted (codes "clients") n ∷ padded names many ++ []) ++ last) (padded_many names many fewer)
          ∙ ap (λ (ls : Lines). counted (codes "clients") many ∷ (ls ++ last)) (append-nil (padded names many))
          ∙ ap (λ (ls : Lines). counted (codes "clients") many ∷ ls) (append_assoc names more last);
    }

pub stops_at_name : (octets : List ℕ) (many : ℕ) (behind : List ℕ) (at : ℕ) → HasClients octets many behind → StopsAtName many behind at → StopsAtLine octets at
stops_at_name octets many behind at clients stops = record {
  lines = counted (codes "clients") many ∷ names;
  rest = stops.rest;
  opens = clients.opens ∙ ap (λ (os : List ℕ). line (counted (codes "clients") many) ++ os) stops.has.opens ∙ sym (append_assoc (line (counted (codes "clients") many)) (flat_map line names) stops.rest);
  counted = let is = stops.counted in omega (arith, is);
  begins = begin_names names many fewer clients.few stops.has.named;
  none = never;
} where
  names : Lines
  names = stops.names

  fewer : length stops.names < many
  fewer = stops.fewer

  never : (others : Lines) (history : List Event) (back : Lines) → AreParts others history → record_lines others history ≡ (counted (codes "clients") many ∷ stops.names) ++ back → GoesOn back stops.rest → ⊥
  never others history back parts cut goes =
      let firsts = same_clients others history (stops.names ++ back) many parts.few clients.few cut in
      let same = firsts.0 in
      let next = next_of IsName others stops.names (map line_of history ++ end_line history ∷ []) back (omega (arith, same, fewer)) (recursion_from_All IsName others parts.named)
      (sym (append_assoc others (map line_of history) (end_line history ∷ [])) ∙ firsts.1) in
      let goes_on = goes_to back next.1 next.0 stops.rest next.2 goes in
      stops.none next.0 goes_on.0 (record { named = next.3; opens = goes_on.1 })

-- ---- at an event

-- what stands behind so many events is another event's line, or the last line
abbrev NextLine : List Event → List Event → Lines → Type 0
NextLine all history back = ((event : Event) × (more : Lines) × (back ≡ line_of event ∷ more) × IsEvent event) ⊎ ((length all ≡ length history) × (back ≡ end_line all ∷ []))

next_line : (all history : List Event) (last : List ℕ) (back : Lines) → ((event : Event) → line_of event ≡ last → ⊥) → AllByRecursion IsEvent all → map line_of all ++ last ∷ [] ≡ map line_of history ++ back
    → ((event : Event) × (more : Lines) × (back ≡ line_of event ∷ more) × IsEvent event) ⊎ ((length all ≡ length history) × (back ≡ last ∷ []))
next_line [] [] last back never fits e = inr (refl, sym e)
next_line [] (h ∷ history) last back never fits e = let same : line_of h ≡ last = cc in absurd (never h same)
next_line (x ∷ all) [] last back never fits e = inl (x, map line_of all ++ last ∷ [], sym e, fits.0)
next_line (x ∷ all) (h ∷ history) last back never fits e =
    let tails : map line_of all ++ last ∷ [] ≡ map line_of history ++ back = cc in
    elim (next_line all history last back never fits.1 tails) [ inl found ↦ inl found | inr ends ↦ inr (let same = ends.0 in omega (arith, same), ends.1) ]

-- the lines of a record behind those of its names
behind_names : (names others : Lines) (history all : List Event) (back : Lines) → length names ≤ 64 → AreParts others all
    → record_lines others all ≡ (counted (codes "clients") (length names) ∷ names ++ map line_of history) ++ back → NextLine all history back
behind_names names others history all back few parts cut =
    let firsts = same_clients others all ((names ++ map line_of history) ++ back) (length names) parts.few few cut in
    let rest = same_front others names (map line_of all ++ end_line all ∷ []) (map line_of history ++ back) firsts.0
    (sym (append_assoc others (map line_of all) (end_line all ∷ [])) ∙ firsts.1 ∙ append_assoc names (map line_of history) back) in
    next_line all history (end_line all) back (λ event. no_end_event event (length all)) (recursion_from_All IsEvent all parts.fits) rest.1

-- the lines so far: of the number of clients, of the names, and of the events
lines_to : (octets behind rest : List ℕ) (names : Lines) (history : List Event) → Opens octets (counted (codes "clients") (length names)) behind → behind ≡ flat_map line names ++ rest → (end : List ℕ) → rest ≡ flat_map line (map line_of history) ++ end
    → octets ≡ flat_map line (counted (codes "clients") (length names) ∷ names ++ map line_of history) ++ end
lines_to octets behind rest names history first second end third =
    let head = line (counted (codes "clients") (length names)) in
    first
    ∙ ap (λ (os : List ℕ). head ++ os) (second ∙ ap (λ (os : List ℕ). flat_map line names ++ os) third ∙ sym (append_assoc (flat_map line names) (flat_map line (map line_of history)) end)
    ∙ ap (λ (os : List ℕ). os ++ end) (sym (flat_map-append line names (map line_of history))))
    ∙ sym (append_assoc head (flat_map line (names ++ map line_of history)) end)

lines_many : (names : Lines) (history : List Event) → length (names ++ map line_of history) ≡ length names + length history
lines_many names history = length-append names (map line_of history) ∙ ap (λ n. length names + n) (length-map history line_of)

at_event : (octets behind rest : List ℕ) (names : Lines) (at : ℕ) → HasClients octets (length names) behind → HasNames behind names rest → StopsAtEvent (length names + 3) rest at → StopsAtLine octets at
at_event octets behind rest names at clients has stops = record {
  lines = counted (codes "clients") (length names) ∷ names ++ map line_of stops.history;
  rest = stops.rest;
  opens = lines_to octets behind rest names stops.history clients.opens has.opens stops.rest stops.has.opens;
  counted = let is = stops.counted in let many = lines_many names stops.history in omega (arith, is, many);
  begins = record {
    names = names;
    history = stops.history;
    parts = record { few = clients.few; named = has.named; fits = stops.has.fits; many = stops.has.many };
    back = end_line stops.history ∷ [];
    cut = refl;
  };
  none = never;
} where
  never : (others : Lines) (all : List Event) (back : Lines) → AreParts others all → record_lines others all ≡ (counted (codes "clients") (length names) ∷ names ++ map line_of stops.history) ++ back → GoesOn back stops.rest → ⊥
  never others all back parts cut goes = elim (behind_names names others stops.history all back clients.few parts cut) [
    | inl found ↦ (let on = goes_to back found.1 (line_of found.0) stops.rest found.2 goes in stops.none found.0 on.0 found.3 on.1)
    | inr ends ↦ (let on = goes_to back [] (end_line all) stops.rest ends.1 goes in stops.no_end on.0 (subst (λ n. Opens stops.rest (counted (codes "end") n) on.0) ends.0 on.1))
  ]

pub stops_at_event : (octets behind rest : List ℕ) (names : Lines) (many at : ℕ) → length names ≡ many → HasClients octets many behind → HasNames behind names rest → StopsAtEvent (many + 3) rest at → StopsAtLine octets at
stops_at_event octets behind rest names many at same clients has stops =
    at_event octets behind rest names at (subst (λ n. HasClients octets n behind) (sym same) clients) has (subst (λ n. StopsAtEvent (n + 3) rest at) (sym same) stops)

-- ---- behind the last line

whole_lines : (names : Lines) (history : List Event) (back : Lines) → record_lines names history ++ back ≡ (counted (codes "clients") (length names) ∷ names ++ map line_of history) ++ (end_line history ∷ back)
whole_lines names history back = append_assoc (counted (codes "clients") (length names) ∷ names ++ map line_of history) (end_line history ∷ []) back

whole_opens : (octets behind rest end : List ℕ) (names : Lines) (history : List Event) → HasClients octets (length names) behind → HasNames behind names rest → HasHistory rest history end
    → octets ≡ flat_map line (record_lines names history) ++ end
whole_opens octets behind rest end names history clients has ends =
    let lines = counted (codes "clients") (length names) ∷ names ++ map line_of history in
    lines_to octets behind rest names history clients.opens has.opens ends.behind ends.has.opens
    ∙ ap (λ (os : List ℕ). flat_map line lines ++ os) (ends.ends ∙ ap (λ (os : List ℕ). os ++ end) (sym (append-nil (line (end_line history)))))
    ∙ sym (append_assoc (flat_map line lines) (flat_map line (end_line history ∷ [])) end)
    ∙ ap (λ (os : List ℕ). os ++ end) (sym (flat_map-append line lines (end_line history ∷ [])))

whole_parts : (octets behind rest end : List ℕ) (names : Lines) (history : List Event) → HasClients octets (length names) behind → HasNames behind names rest → HasHistory rest history end → AreParts names history
whole_parts octets behind rest end names history clients has ends = record { few = clients.few; named = has.named; fits = ends.has.fits; many = ends.has.many }

at_rest : (octets behind rest end : List ℕ) (names : Lines) (history : List Event) (at : ℕ) → HasClients octets (length names) behind → HasNames behind names rest → HasHistory rest history end
    → at ≡ length names + 4 + length history → (end ≡ [] → ⊥) → StopsAtLine octets at
at_rest octets behind rest end names history at clients has ends is more = record {
  lines = record_lines names history;
  rest = end;
  opens = whole_opens octets behind rest end names history clients has ends;
  counted = (
      let first = length-append (counted (codes "clients") (length names) ∷ names ++ map line_of history) (end_line history ∷ []) in
      let second = lines_many names history in
      omega (arith, is, first, second));
  begins = record { names = names; history = history; parts = whole_parts octets behind rest end names history clients has ends; back = []; cut = sym (append-nil (record_lines names history)) };
  none = never;
} where
  never : (others : Lines) (all : List Event) (back : Lines) → AreParts others all → record_lines others all ≡ record_lines names history ++ back → GoesOn back end → ⊥
  never others all back parts cut goes = elim (behind_names names others history all (end_line history ∷ back) clients.few parts (cut ∙ whole_lines names history back)) [
    | inl found ↦ (let both = found.2 in no_end_event found.0 (length history) cc)
    | inr ends_too ↦ (let both = ends_too.1 in let none : back ≡ [] = cc in more (subst (λ (ls : Lines). GoesOn ls end) none goes))
  ]

pub stops_behind : (octets behind rest end : List ℕ) (names : Lines) (history : List Event) (many at : ℕ) → length names ≡ many → HasClients octets many behind → HasNames behind names rest → HasHistory rest history end
    → at ≡ many + 4 + length history → (end ≡ [] → ⊥) → StopsAtLine octets at
stops_behind octets behind rest end names history many at same clients has ends is more =
    at_rest octets behind rest end names history at (subst (λ n. HasClients octets n behind) (sym same) clients) has ends (omega (arith, same, is)) more

-- no more stands there
pub are_lines : (octets behind rest end : List ℕ) (names : Lines) (history : List Event) (many : ℕ) → length names ≡ many → HasClients octets many behind → HasNames behind names rest → HasHistory rest history end
    → end ≡ [] → AreLines octets names history
are_lines octets behind rest end names history many same clients has ends none =
    let first = subst (λ n. HasClients octets n behind) (sym same) clients in
    record {
      spelled = whole_opens octets behind rest end names history first has ends ∙ ap (λ (os : List ℕ). flat_map line (record_lines names history) ++ os) none ∙ append-nil (flat_map line (record_lines names history));
      parts = whole_parts octets behind rest end names history first has ends;
    }

-- ---- the whole octets

-- with a line more, or at once
goes_on : (more back : Lines) (octets rest : List ℕ) → octets ≡ flat_map line more ++ rest → (more ≡ [] → GoesOn back octets) → GoesOn (more ++ back) octets
goes_on [] back octets rest e at_once = at_once refl
goes_on (text ∷ more) back octets rest e at_once = (flat_map line more ++ rest, e ∙ append_assoc (line text) (flat_map line more) rest)

-- no record has the lines that stand there, and goes on as the octets do
never_on : (octets : List ℕ) (at : ℕ) (stops : StopsAtLine octets at) (names : Lines) (history : List Event) (front back : Lines) (rest : List ℕ) → AreParts names history → record_lines names history ≡ front ++ back
    → octets ≡ flat_map line front ++ rest → (length front ≡ length stops.lines → GoesOn back rest) → (Longer stops.lines front stops.rest rest → ⊥) → ⊥
never_on octets at stops names history front back rest parts cut stands at_once longer =
    elim (one_cut stops.lines front stops.rest rest plain plain_too (sym stops.opens ∙ stands)) [ inl f ↦ on f | inr l ↦ longer l ] where
      plain : ArePlain stops.lines
      plain = plain_left stops.lines stops.begins.back (subst ArePlain stops.begins.cut (plain_record stops.begins.names stops.begins.history stops.begins.parts))

      plain_too : ArePlain front
      plain_too = plain_left front back (subst ArePlain cut (plain_record names history parts))

      same : (f : Front stops.lines front stops.rest rest) → f.0 ≡ [] → GoesOn back stops.rest
      same f none =
          let sizes = ap length (f.1 ∙ ap (λ (ls : Lines). stops.lines ++ ls) none ∙ append-nil stops.lines) in
          let ends : stops.rest ≡ rest = f.2 ∙ ap (λ (ls : Lines). flat_map line ls ++ rest) none in
          subst (λ (os : List ℕ). GoesOn back os) (sym ends) (at_once sizes)

      on : Front stops.lines front stops.rest rest → ⊥
      on f = stops.none names history (f.0 ++ back) parts
          (cut ∙ ap (λ (ls : Lines). ls ++ back) f.1 ∙ append_assoc stops.lines f.0 back)
          (goes_on f.0 back stops.rest rest f.2 (same f))

begin_less : (octets config behind : List ℕ) (lines : Lines) (rest : List ℕ) → octets ≡ config_text config ++ behind → behind ≡ flat_map line lines ++ rest → BeginLines lines → (many : ℕ) → 0 < many → many < length lines + 2 → Begins octets many
begin_less octets config behind lines rest stands opens begins many some less =
    let n = many - 1 in
    let front = take n lines in
    let more = drop n lines in
    let within : n ≤ length lines = omega (arith, some, less) in
    let size = length-take-le n lines within in
    record {
      config = config;
      names = begins.names;
      history = begins.history;
      parts = begins.parts;
      front = front;
      back = more ++ begins.back;
      cut = begins.cut ∙ ap (λ (ls : Lines). ls ++ begins.back) (sym (take-append-drop n lines)) ∙ append_assoc front more begins.back;
      counted = omega (arith, size, some);
      rest = flat_map line more ++ rest;
      stands = stands ∙ ap (λ (os : List ℕ). config_text config ++ os) (opens
          ∙ ap (λ (ls : Lines). flat_map line ls ++ rest) (sym (take-append-drop n lines))
          ∙ ap (λ (os : List ℕ). os ++ rest) (flat_map-append line front more)
          ∙ append_assoc (flat_map line front) (flat_map line more) rest);
    }

-- octets that stop being a record's behind their configuration
pub bad_behind : (octets config behind : List ℕ) (setup : Setup) (at : ℕ) → length octets < 2 ^ 64 → octets ≡ config_text config ++ behind → IsConfiguration config setup → StopsAtLine behind at → IsBad octets at
bad_behind octets config behind setup at small stands says stops = record {
  no_record = λ other names history is.
      let front = one_config octets config behind other (flat_map line (record_lines names history)) small stands is.spelled in
      never_on behind at stops names history (record_lines names history) [] [] is.parts (sym (append-nil (record_lines names history)))
      (front.1 ∙ sym (append-nil (flat_map line (record_lines names history)))) (λ same. refl) (λ l. no_line_left l.0 (flat_map line l.1 ++ stops.rest) l.3);
  faultless = λ number key has.
      let front = one_config octets config behind has.config has.rest small stands has.stands in
      no_fault has.config (fault key number) setup has.told (subst (λ (os : List ℕ). IsConfiguration os setup) front.0 says);
  counted = let is = stops.counted in omega (arith, is);
  before = λ many some less. begin_less octets config behind stops.lines stops.rest stands stops.opens stops.begins many some (let is = stops.counted in omega (arith, is, less));
  here = λ b.
      let front = one_config octets config behind b.config (flat_map line b.front ++ b.rest) small stands b.stands in
      let size = b.counted in
      let is = stops.counted in
      never_on behind at stops b.names b.history b.front b.back b.rest b.parts b.cut front.1 (λ same. absurd (omega (arith, size, is, same)))
      (λ l. let many = ap length l.2 in let sum = length-append b.front (l.0 ∷ l.1) in absurd (omega (arith, many, sum, size, is)));
}

-- octets with no configuration in front
pub bad_at_once : (octets : List ℕ) → NoConfig octets → IsBad octets 1
bad_at_once octets none = record {
  no_record = λ config names history is. none config (flat_map line (record_lines names history)) is.spelled;
  faultless = λ number key has. none has.config has.rest has.stands;
  counted = omega arith;
  before = λ many some less. absurd (omega (arith, some, less));
  here = λ b. none b.config (flat_map line b.front ++ b.rest) b.stands;
}

-- ---- what is told

-- one refusal for another
pub tells_so : (P Q : ℕ → Type 0) (why : RecordRefused) → ((at : ℕ) → P at → Q at) → Tells P why → Tells Q why
tells_so P Q (refusals.BadRecord at) so told = so at told
tells_so P Q refusals.NoMemory so told = tt
