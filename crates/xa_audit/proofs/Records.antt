-- Records: one configuration stands in front, and octets are one record at most.
use Rattle.std.proofs.Common.{◌≡◌, inl, inr, ℕ, ◌^◌, ◌<◌, ◌≤◌, true, false, nat_lt, None, take, drop, List, [], ◌∷◌, ◌++◌, length, map, get_or, refl, sym, ap, subst, ◌∙◌, arith, decimal, codes, append_assoc}
use Rattle.std.specs.List.{AllByRecursion, flat_map, list_all}
use Rattle.std.specs.Str.{bytes_eq}
use Rattle.std.proofs.lemmas.Bool.{and_parts}
use Rattle.std.proofs.lemmas.Fmt.{decimal_injective}
use Rattle.std.proofs.lemmas.List.{append-nil, append_cancel_left, length-append, same_from_push, take_at, drop_at, get_or_at}
use Rattle.std.proofs.lemmas.List.Elements.{recursion_from_All}
use Rattle.xa_types.specs.Name.{IsName}
use Rattle.xa_events.specs.declared.event.Event.{Event}
use Rattle.xa_events.specs.declared.event.Event.TheVariants as events
use Rattle.xa_lines.specs.Line.{line_of, joined, spaced, event_words, IsEvent}
use Rattle.xa_lines.proofs.Cutting.{is_word}
use Rattle.xa_lines.specs.Reading.{number_of}
use Rattle.xa_lines.proofs.Combining.{bytes_refl}
use Rattle.xa_lines.proofs.Leaves.{decimal_inner, name_is, number_again}
use Rattle.xa_lines.proofs.Events.{event_inner, one_event}
use Rattle.xa_audit.specs.Record.{line, counted, config_text, record_lines, AreParts, IsRecord}
use Rattle.xa_audit.specs.Reading.{IsPlain, Opens, IsCut, IsNotCounted, NoConfig, NoClients, NoName, NoEvent, NoEnd}
use Rattle.xa_audit.proofs.Lines.{ArePlain, plain_append, plain_word, plain_both, same_line, one_cut}

-- ---- the lines of a record have no feed

plain_spaced : (words : List (List ℕ)) → list_all is_word words ≡ true → IsPlain (flat_map spaced words)
plain_spaced [] h = tt
plain_spaced (word ∷ words) h =
    let parts = and_parts (is_word word) (list_all is_word words) h in
    (λ e. absurd (omega (arith, e)), plain_append word (flat_map spaced words) (plain_word word parts.0) (plain_spaced words parts.1))

plain_joined : (words : List (List ℕ)) → list_all is_word words ≡ true → IsPlain (joined words)
plain_joined [] h = tt
plain_joined (word ∷ words) h =
    let parts = and_parts (is_word word) (list_all is_word words) h in
    plain_append word (flat_map spaced words) (plain_word word parts.0) (plain_spaced words parts.1)

pub plain_event : (event : Event) → IsEvent event → IsPlain (line_of event)
plain_event event h = plain_joined (event_words event) (event_inner event h)

pub plain_name : (name : List ℕ) → IsName name → IsPlain name
plain_name name h = plain_word name (name_is.inner name h)

pub plain_counted : (word : List ℕ) (number : ℕ) → is_word word ≡ true → number < 2 ^ 64 → IsPlain (counted word number)
plain_counted word number h small =
    plain_append word (32 ∷ decimal number) (plain_word word h) (λ e. absurd (omega (arith, e)), plain_word (decimal number) (decimal_inner number small))

plain_names : (names : List (List ℕ)) → AllByRecursion IsName names → ArePlain names
plain_names [] h = tt
plain_names (name ∷ names) h = (plain_name name h.0, plain_names names h.1)

plain_events : (history : List Event) → AllByRecursion IsEvent history → ArePlain (map line_of history)
plain_events [] h = tt
plain_events (event ∷ history) h = (plain_event event h.0, plain_events history h.1)

pub plain_record : (names : List (List ℕ)) (history : List Event) → AreParts names history → ArePlain (record_lines names history)
plain_record names history parts =
    let few = parts.few in
    let small : length names < 2 ^ 64 = omega (arith, few) in
    plain_both (counted (codes "clients") (length names) ∷ names ++ map line_of history) (counted (codes "end") (length history) ∷ [])
    (plain_both (counted (codes "clients") (length names) ∷ names) (map line_of history)
    (plain_counted (codes "clients") (length names) refl small, plain_names names (recursion_from_All IsName names parts.named))
    (plain_events history (recursion_from_All IsEvent history parts.fits)))
    (plain_counted (codes "end") (length history) refl parts.many, tt)

-- ---- numbers

-- the number behind a word
pub one_number : (word : List ℕ) (one other : ℕ) → one < 2 ^ 64 → other < 2 ^ 64 → counted word one ≡ counted word other → one ≡ other
one_number word one other h k e =
    let behind = append_cancel_left word (32 ∷ decimal one) (32 ∷ decimal other) e in
    decimal_injective one other h k cc

-- ---- the configuration

pub config_within : (octets config rest : List ℕ) → octets ≡ config_text config ++ rest → length config < length octets
config_within octets config rest e =
    let head = line (counted (codes "config") (length config)) in
    let all = ap length e in
    let outer = length-append (head ++ line config) rest in
    let inner = length-append head (line config) in
    let last = length-append config (10 ∷ []) in
    omega (arith, all, outer, inner, last)

cut_config : (one r other s : List ℕ) → length one ≡ length other → line one ++ r ≡ line other ++ s → (one ≡ other) × (r ≡ s)
cut_config [] r [] s h e = (refl, cc)
cut_config [] r (o ∷ other) s h e = absurd (omega (arith, h))
cut_config (o ∷ one) r [] s h e = absurd (omega (arith, h))
cut_config (o ∷ one) r (p ∷ other) s h e =
    let tails : line one ++ r ≡ line other ++ s = cc in
    let rest = cut_config one r other s (omega (arith, h)) tails in
    let tail = rest.0 in
    (cc, rest.1)

-- one configuration at most stands in front
pub one_config : (octets one r other s : List ℕ) → length octets < 2 ^ 64 → octets ≡ config_text one ++ r → octets ≡ config_text other ++ s → (one ≡ other) × (r ≡ s)
one_config octets one r other s small e f =
    let left = config_within octets one r e in
    let right = config_within octets other s f in
    let low : length one < 2 ^ 64 = omega (arith, small, left) in
    let high : length other < 2 ^ 64 = omega (arith, small, right) in
    let both = same_line (counted (codes "config") (length one)) (counted (codes "config") (length other)) (line one ++ r) (line other ++ s)
    (plain_counted (codes "config") (length one) refl low) (plain_counted (codes "config") (length other) refl high)
    (sym (append_assoc (line (counted (codes "config") (length one))) (line one) r) ∙ sym e ∙ f ∙ append_assoc (line (counted (codes "config") (length other))) (line other) s) in
    cut_config one r other s (one_number (codes "config") (length one) (length other) low high both.0) both.1

-- ---- the last line

low_first : (text more : List ℕ) → text ≡ 101 ∷ more → nat_lt (get_or text 0 0) 91 ≡ true → ⊥
low_first text more e low = cc (sym low ∙ ap (λ (os : List ℕ). nat_lt (get_or os 0 0) 91) e)

-- no event has it
pub no_end_event : (event : Event) (many : ℕ) → line_of event ≡ counted (codes "end") many → ⊥
no_end_event (events.Advertise e) many same = low_first (line_of (events.Advertise e)) _ same refl
no_end_event (events.Withdraw e) many same = low_first (line_of (events.Withdraw e)) _ same refl
no_end_event (events.Accept e) many same = low_first (line_of (events.Accept e)) _ same refl
no_end_event (events.Take e) many same = low_first (line_of (events.Take e)) _ same refl
no_end_event (events.Forward e) many same = low_first (line_of (events.Forward e)) _ same refl
no_end_event (events.Sweep e) many same = low_first (line_of (events.Sweep e)) _ same refl
no_end_event (events.Gone server) many same = low_first (line_of (events.Gone server)) _ same refl
no_end_event (events.Down queue) many same = low_first (line_of (events.Down queue)) _ same refl
no_end_event (events.Close queue) many same = low_first (line_of (events.Close queue)) _ same refl
no_end_event (events.Tick e) many same = low_first (line_of (events.Tick e)) _ same refl
no_end_event (events.Start e) many same = low_first (line_of (events.Start e)) _ same refl
no_end_event (events.StartFailed e) many same = low_first (line_of (events.StartFailed e)) _ same refl
no_end_event (events.End e) many same = low_first (line_of (events.End e)) _ same refl
no_end_event (events.Stop e) many same = low_first (line_of (events.Stop e)) _ same refl
no_end_event (events.Answer e) many same = low_first (line_of (events.Answer e)) _ same refl
no_end_event (events.Cancel e) many same = low_first (line_of (events.Cancel e)) _ same refl
no_end_event (events.Lapse e) many same = low_first (line_of (events.Lapse e)) _ same refl
no_end_event (events.Refuse e) many same = low_first (line_of (events.Refuse e)) _ same refl
no_end_event (events.NotYet e) many same = low_first (line_of (events.NotYet e)) _ same refl
no_end_event (events.Leave client) many same = low_first (line_of (events.Leave client)) _ same refl
no_end_event (events.Send e) many same = low_first (line_of (events.Send e)) _ same refl
no_end_event (events.Receive e) many same = low_first (line_of (events.Receive e)) _ same refl
no_end_event (events.Break e) many same = low_first (line_of (events.Break e)) _ same refl
no_end_event (events.Priority e) many same = low_first (line_of (events.Priority e)) _ same refl

-- ---- one record

-- the lines behind the number of clients
pub same_clients : (names : List (List ℕ)) (history : List Event) (more : List (List ℕ)) (many : ℕ) → length names ≤ 64 → many ≤ 64
    → record_lines names history ≡ counted (codes "clients") many ∷ more → (length names ≡ many) × ((names ++ map line_of history) ++ counted (codes "end") (length history) ∷ [] ≡ more)
same_clients names history more many few small e =
    let head : counted (codes "clients") (length names) ≡ counted (codes "clients") many = cc in
    (one_number (codes "clients") (length names) many (omega (arith, few)) (omega (arith, small)) head, cc)

pub same_front : (xs ys zs ws : List (List ℕ)) → length xs ≡ length ys → xs ++ zs ≡ ys ++ ws → (xs ≡ ys) × (zs ≡ ws)
same_front [] [] zs ws h e = (refl, e)
same_front [] (y ∷ ys) zs ws h e = absurd (omega (arith, h))
same_front (x ∷ xs) [] zs ws h e = absurd (omega (arith, h))
same_front (x ∷ xs) (y ∷ ys) zs ws h e =
    let tails : xs ++ zs ≡ ys ++ ws = cc in
    let rest = same_front xs ys zs ws (omega (arith, h)) tails in
    let tail = rest.0 in
    (cc, rest.1)

same_events : (history other : List Event) → AllByRecursion IsEvent history → AllByRecursion IsEvent other → map line_of history ≡ map line_of other → history ≡ other
same_events [] [] h k e = refl
same_events [] (o ∷ other) h k e = absurd cc
same_events (x ∷ history) [] h k e = absurd cc
same_events (x ∷ history) (o ∷ other) h k e =
    let head : line_of x ≡ line_of o = cc in
    let tails : map line_of history ≡ map line_of other = cc in
    let first = one_event x o h.0 k.0 head in
    let rest = same_events history other h.1 k.1 tails in
    cc

same_lines : (names other : List (List ℕ)) (history behind : List Event) → AreParts names history → AreParts other behind → record_lines names history ≡ record_lines other behind → (names ≡ other) × (history ≡ behind)
same_lines names other history behind p q e =
    let firsts = same_clients names history _ (length other) p.few q.few e in
    let rest = same_front names other (map line_of history ++ counted (codes "end") (length history) ∷ []) (map line_of behind ++ counted (codes "end") (length behind) ∷ []) firsts.0
    (sym (append_assoc names (map line_of history) (counted (codes "end") (length history) ∷ [])) ∙ firsts.1 ∙ append_assoc other (map line_of behind) (counted (codes "end") (length behind) ∷ [])) in
    let last = same_from_push (map line_of history) (map line_of behind) _ _ rest.1 in
    (rest.0, same_events history behind (recursion_from_All IsEvent history p.fits) (recursion_from_All IsEvent behind q.fits) last.0)

pub no_line_left : (text rest : List ℕ) → [] ≡ line text ++ rest → ⊥
no_line_left [] rest e = cc
no_line_left (octet ∷ text) rest e = cc

-- no more lines, no octets
nothing_more : (lines : List (List ℕ)) → [] ≡ flat_map line lines ++ [] → lines ≡ []
nothing_more [] e = refl
nothing_more (text ∷ lines) e = absurd (no_line_left text (flat_map line lines ++ []) (e ∙ append_assoc (line text) (flat_map line lines) []))

-- octets are one record at most
pub one_record : (octets config other : List ℕ) (names others : List (List ℕ)) (history behind : List Event) → length octets < 2 ^ 64 → IsRecord octets config names history → IsRecord octets other others behind
    → (config ≡ other) × (names ≡ others) × (history ≡ behind)
one_record octets config other names others history behind small p q =
    let front = one_config octets config (flat_map line (record_lines names history)) other (flat_map line (record_lines others behind)) small p.spelled q.spelled in
    let xs = record_lines names history in
    let ys = record_lines others behind in
    let ends : flat_map line xs ++ [] ≡ flat_map line ys ++ [] = ap (λ (os : List ℕ). os ++ []) front.1 in
    let lines : xs ≡ ys = elim (one_cut xs ys [] [] (plain_record names history p.parts) (plain_record others behind q.parts) ends) [
      | inl f ↦ sym (f.1 ∙ ap (λ (more : List (List ℕ)). xs ++ more) (nothing_more f.0 f.2) ∙ append-nil xs)
      | inr l ↦ absurd (no_line_left l.0 (flat_map line l.1 ++ []) l.3)
    ] in
    let rest = same_lines names others history behind p.parts q.parts lines in
    (front.0, rest.0, rest.1)

-- ---- what the code reads in front

-- nothing of the word stands in front
pub not_by_word : (text word : List ℕ) → bytes_eq (take (length word) text) word ≡ false → IsNotCounted text word
not_by_word text word differs number small e =
    let front : take (length word) text ≡ word = ap (λ (os : List ℕ). take (length word) os) e ∙ take_at word (32 ∷ decimal number) (length word) refl in
    cc (sym differs ∙ ap (λ (os : List ℕ). bytes_eq os word) front ∙ bytes_refl word)

behind_word : (text word behind : List ℕ) (number : ℕ) → behind ≡ drop (length word) text → text ≡ counted word number → behind ≡ 32 ∷ decimal number
behind_word text word behind number is e = is ∙ ap (λ (os : List ℕ). drop (length word) os) e ∙ drop_at word (32 ∷ decimal number) (length word) refl

-- no space stands behind the word
pub not_by_space : (text word behind space : List ℕ) → behind ≡ drop (length word) text → space ≡ 32 ∷ [] → bytes_eq (take (length space) behind) space ≡ false → IsNotCounted text word
not_by_space text word behind space is one differs number small e =
    let all = behind_word text word behind number is e in
    let front : bytes_eq (take (length space) behind) space ≡ true = ap (λ (os : List ℕ). bytes_eq (take (length os) behind) os) one ∙ ap (λ (os : List ℕ). bytes_eq (take 1 os) (32 ∷ [])) all in
    cc (sym differs ∙ front)

-- no number stands behind the space
pub not_by_number : (text word behind space digits : List ℕ) → behind ≡ drop (length word) text → space ≡ 32 ∷ [] → digits ≡ drop (length space) behind → number_of 18446744073709551615 digits ≡ None → IsNotCounted text word
not_by_number text word behind space digits is one more none number small e =
    let all = behind_word text word behind number is e in
    let spelled : digits ≡ decimal number = more ∙ ap (λ (os : List ℕ). drop (length os) behind) one ∙ ap (λ (os : List ℕ). drop 1 os) all in
    let read = number_again 18446744073709551615 number (omega (arith, small)) small in
    cc (sym none ∙ ap (number_of 18446744073709551615) spelled ∙ read)

-- the first line is that one
first_line : (octets text rest other behind : List ℕ) → IsCut octets text rest → IsPlain other → Opens octets other behind → (text ≡ other) × (rest ≡ behind)
first_line octets text rest other behind cut plain opens = same_line text other rest behind cut.plain plain (sym cut.opens ∙ opens)

pub no_clients_counted : (octets text rest : List ℕ) → IsCut octets text rest → IsNotCounted text (codes "clients") → NoClients octets
no_clients_counted octets text rest cut none many behind has =
    let few = has.few in
    let small : many < 2 ^ 64 = omega (arith, few) in
    none many small (first_line octets text rest (counted (codes "clients") many) behind cut (plain_counted (codes "clients") many refl small) has.opens).0

pub no_clients_few : (octets text rest : List ℕ) (number : ℕ) → IsCut octets text rest → number < 2 ^ 64 → text ≡ counted (codes "clients") number → 64 < number → NoClients octets
no_clients_few octets text rest number cut fits is over many behind has =
    let few = has.few in
    let small : many < 2 ^ 64 = omega (arith, few) in
    let same = (first_line octets text rest (counted (codes "clients") many) behind cut (plain_counted (codes "clients") many refl small) has.opens).0 in
    let one = one_number (codes "clients") number many fits small (sym is ∙ same) in
    absurd (omega (arith, one, over, few))

config_line : (octets text rest config behind : List ℕ) → length octets < 2 ^ 64 → IsCut octets text rest → octets ≡ config_text config ++ behind → (text ≡ counted (codes "config") (length config)) × (rest ≡ line config ++ behind)
config_line octets text rest config behind small cut stands =
    let within = config_within octets config behind stands in
    first_line octets text rest (counted (codes "config") (length config)) (line config ++ behind) cut (plain_counted (codes "config") (length config) refl (omega (arith, small, within)))
    (stands ∙ append_assoc (line (counted (codes "config") (length config))) (line config) behind)

pub no_config_counted : (octets text rest : List ℕ) → length octets < 2 ^ 64 → IsCut octets text rest → IsNotCounted text (codes "config") → NoConfig octets
no_config_counted octets text rest small cut none config behind stands =
    let within = config_within octets config behind stands in
    none (length config) (omega (arith, small, within)) (config_line octets text rest config behind small cut stands).0

config_size : (octets text rest : List ℕ) (size : ℕ) (config behind : List ℕ) → length octets < 2 ^ 64 → IsCut octets text rest → size < 2 ^ 64 → text ≡ counted (codes "config") size → octets ≡ config_text config ++ behind
    → (size ≡ length config) × (rest ≡ line config ++ behind)
config_size octets text rest size config behind small cut fits is stands =
    let within = config_within octets config behind stands in
    let same = config_line octets text rest config behind small cut stands in
    (one_number (codes "config") size (length config) fits (omega (arith, small, within)) (sym is ∙ same.0), same.1)

pub no_config_short : (octets text rest : List ℕ) (size : ℕ) → length octets < 2 ^ 64 → IsCut octets text rest → size < 2 ^ 64 → text ≡ counted (codes "config") size → length rest ≤ size → NoConfig octets
no_config_short octets text rest size small cut fits is short config behind stands =
    let same = config_size octets text rest size config behind small cut fits is stands in
    let one = same.0 in
    let all = ap length same.1 in
    let outer = length-append (line config) behind in
    let inner = length-append config (10 ∷ []) in
    absurd (omega (arith, one, all, outer, inner, short))

pub no_config_feed : (octets text rest : List ℕ) (size : ℕ) → length octets < 2 ^ 64 → IsCut octets text rest → size < 2 ^ 64 → text ≡ counted (codes "config") size → (get_or rest size 0 ≡ 10 → ⊥) → NoConfig octets
no_config_feed octets text rest size small cut fits is other config behind stands =
    let same = config_size octets text rest size config behind small cut fits is stands in
    other (ap (λ (os : List ℕ). get_or os size 0) (same.1 ∙ append_assoc config (10 ∷ []) behind) ∙ get_or_at config 10 behind 0 size (sym same.0))

pub no_name_read : (octets text rest : List ℕ) → IsCut octets text rest → (IsName text → ⊥) → NoName octets
no_name_read octets text rest cut none name behind has =
    none (subst IsName (sym (first_line octets text rest name behind cut (plain_name name has.named) has.opens).0) has.named)

pub no_event_read : (octets text rest : List ℕ) → IsCut octets text rest → ((event : Event) → IsEvent event → line_of event ≡ text → ⊥) → NoEvent octets
no_event_read octets text rest cut none event behind fits opens =
    none event fits (sym (first_line octets text rest (line_of event) behind cut (plain_event event fits) opens).0)

pub no_end_read : (octets text rest : List ℕ) (many : ℕ) → IsCut octets text rest → many < 2 ^ 64 → (text ≡ counted (codes "end") many → ⊥) → NoEnd octets many
no_end_read octets text rest many cut small none behind opens =
    none (first_line octets text rest (counted (codes "end") many) behind cut (plain_counted (codes "end") many refl small) opens).0
