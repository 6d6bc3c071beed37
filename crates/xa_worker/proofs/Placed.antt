-- The merge of homes as a list of their entries: its stamps don't fall, and its entries at each home are that home's, in order.
use Rattle.std.proofs.Common.{◌≡◌, ℕ, ◌+◌, ◌<◌, ◌≤◌, ◌==◌, Bool, true, false, cond, List, [], ◌∷◌, ◌++◌, map, Option, Some, None, option_map, option_and_then, inl, inr, refl, sym, ◌∙◌, ap, subst, arith, eqb-true, ne_eqb, le-ltb, is_lt, Less, Equal, Greater}
use Rattle.std.specs.Prelude.{slice_get}
use Rattle.std.specs.List.{All, filter, filter_map, cons_option}
use Rattle.std.specs.Ordering.{nat_cmp, ordering_then}
use Rattle.std.proofs.lemmas.Bool.{cases_Bool}
use Rattle.std.proofs.lemmas.List.{append-nil}
use Rattle.std.proofs.lemmas.List.Elements.{All-nil, All-cons, All-head, All-tail, All-append, filter-append}
use Rattle.std.proofs.lemmas.List.Sorted.{ranks_by, All-permutation}
use Rattle.xa_types.specs.declared.setup.Setup.{Setup}
use Rattle.xa_types.specs.declared.stamp.Stamp.{Stamp}
use Rattle.xa_events.specs.declared.event.Event.{Event}
use Rattle.xa_events.specs.Words.{count}
use Rattle.xa_events.specs.Homes.{Home, same_home, home_of}
use Rattle.xa_events.proofs.WordsLemmas.{count_yes, count_no}
use Rattle.xa_stamp.specs.declared.home.Stamped.{Stamped}
use Rattle.xa_stamp.specs.declared.merging.Place.{Place}
use Rattle.xa_stamp.specs.Home.{Notes, Rises}
use Rattle.xa_stamp.specs.Merge.{places_in, places_from, place_cmp, event_at, IsMerged}
use Rattle.xa_stamp.proofs.Sorted.{Up, Up-sorted, same_filtered}
use Rattle.xa_stamp.proofs.Places.{From, From-next, From-here, place_cmp-total, same_place}
use Rattle.xa_worker.specs.Crew.{stands_at}
use Rattle.xa_worker.proofs.Lists.{same_home-is, same_home-sym}

-- no stamp is less than the one before it
abbrev pub Climbs : ℕ → List Stamped → Type 0
Climbs low [] = Unit {0}
Climbs low (x ∷ xs) = (low ≤ x.stamp.0) × Climbs x.stamp.0 xs

-- the merge as a list of entries
pub record IsMergeOf (setup : Setup) (clients : ℕ) (held : Home → List Stamped) (merged : List Stamped) (all : List Event) : Type 0 where
  pub events : map (λ (x : Stamped). x.event) merged ≡ all
  pub climbs : Climbs 0 merged
  pub theirs : (home : Home) → filter (stands_at setup clients home) merged ≡ held home

-- the entries of a home stand there, and their stamps rise
pub record IsHeld (setup : Setup) (clients : ℕ) (home : Home) (entries : List Stamped) : Type 0 where
  pub first : Stamp
  pub rises : Rises first entries
  pub stand : All (λ (e : Stamped). home_of setup clients e.event ≡ home) entries

pub exactly_one : (n : ℕ) → n ≤ 1 → (n == 0) ≡ false → n ≡ 1
exactly_one n most some = grind arith

-- ---- places in order

above : (a b : ℕ) (rest : _) → is_lt (ordering_then (nat_cmp b a) rest) ≡ false → a ≤ b
above a b rest h = grind arith

-- a place with a greater stamp comes later
later_place : (a b : Place) → b.stamp.0 < a.stamp.0 → is_lt (place_cmp a b) ≡ false
later_place a b more =
    let rest = ordering_then (nat_cmp a.home b.home) (nat_cmp a.index b.index) in
    ap (λ t. is_lt (ordering_then (cond t Less (cond (a.stamp.0 == b.stamp.0) Equal Greater)) rest)) (le-ltb a.stamp.0 b.stamp.0 (omega (arith, more)))
    ∙ ap (λ t. is_lt (ordering_then (cond t Equal Greater) rest)) (ne_eqb a.stamp.0 b.stamp.0 (λ same. omega (arith, same, more)))

abbrev is_before : Place → Place → Bool
is_before a b = is_lt (place_cmp a b)

up_places : (first : Stamp) (number index : ℕ) (entries : List Stamped) → Rises first entries → Up is_before (places_in number index entries)
up_places first number index [] rises = tt
up_places first number index (e ∷ []) rises = tt
up_places first number index (e ∷ f ∷ entries) rises = (later_place (record { stamp = f.stamp; home = number; index = index + 1 }) (record { stamp = e.stamp; home = number; index = index }) rises.1.0, up_places e.stamp number (index + 1) (f ∷ entries) rises.1)

module _ (setup : Setup) (clients : ℕ) (names : List Home) (held : Home → List Stamped) (homes : List Notes) where
  -- the entry that stands there
  abbrev entry_at : Place → Option Stamped
  entry_at place = option_and_then (λ (h : Notes). slice_get h.entries place.index) (slice_get homes place.home)

  abbrev is_some_home : Home → Option Home → Bool
  is_some_home home None = false
  is_some_home home (Some name) = same_home home name

  -- the place is at that home
  abbrev is_placed : Home → Place → Bool
  is_placed home place = is_some_home home (slice_get names place.home)

  -- an entry stands there, with that stamp, at the home of its event
  record IsFilled (place : Place) : Type 0 where
    pub entry : Stamped
    pub is : entry_at place ≡ Some entry
    pub stamp : entry.stamp.0 ≡ place.stamp.0
    pub home : (home : Home) → stands_at setup clients home entry ≡ is_placed home place

  filled_here : (number index : ℕ) (h : Notes) (name : Home) (e : Stamped) → slice_get homes number ≡ Some h → slice_get names number ≡ Some name → slice_get h.entries index ≡ Some e → home_of setup clients e.event ≡ name
      → IsFilled (record { stamp = e.stamp; home = number; index = index })
  filled_here number index h name e at named entry stands = record {
    entry = e;
    is = ap (option_and_then (λ (h : Notes). slice_get h.entries index)) at ∙ entry;
    stamp = refl;
    home = λ home. ap (λ x. same_home x home) stands ∙ (same_home-sym name home ∙ sym (ap (is_some_home home) named));
  }

  filled_in : (number : ℕ) (h : Notes) (name : Home) → slice_get homes number ≡ Some h → slice_get names number ≡ Some name → (index : ℕ) (rest : List Stamped) → From h.entries index rest
      → All (λ (e : Stamped). home_of setup clients e.event ≡ name) rest → All IsFilled (places_in number index rest)
  filled_in number h name at named index [] from stand = All-nil IsFilled
  filled_in number h name at named index (e ∷ rest) from stand =
      All-cons IsFilled _ _ (filled_here number index h name e at named (From-here h.entries index e rest from) (All-head (λ (e : Stamped). home_of setup clients e.event ≡ name) e rest stand))
      (filled_in number h name at named (index + 1) rest (From-next h.entries index e rest from) (All-tail (λ (e : Stamped). home_of setup clients e.event ≡ name) e rest stand))

  abbrev Are : List Notes → List Home → Type 0
  Are hs ns = map (λ (h : Notes). h.entries) hs ≡ map held ns

  module _ (each : (home : Home) → IsHeld setup clients home (held home)) where
    filled_from : (number : ℕ) (hs : List Notes) (ns : List Home) → From homes number hs → From names number ns → Are hs ns → All IsFilled (places_from number hs)
    filled_from number [] ns from names are = All-nil IsFilled
    filled_from number (h ∷ hs) [] from names are = absurd (cc are)
    filled_from number (h ∷ hs) (n ∷ ns) from named are =
        let same : h.entries ≡ held n = cc are in
        let rest : Are hs ns = cc are in
        All-append IsFilled _ _
        (filled_in number h n (From-here homes number h hs from) (From-here names number n ns named) 0 h.entries (λ k. ap (slice_get h.entries) (omega arith)) (subst (All (λ (e : Stamped). home_of setup clients e.event ≡ n)) (sym same) (each n).stand))
        (filled_from (number + 1) hs ns (From-next homes number h hs from) (From-next names number n ns named) rest)

    -- ---- the places of one home

    placed_in : (home : Home) (number : ℕ) (b : Bool) → is_some_home home (slice_get names number) ≡ b → (index : ℕ) (entries : List Stamped) → filter (is_placed home) (places_in number index entries) ≡ cond b (places_in number index entries) []
    placed_in home number true is index [] = refl
    placed_in home number false is index [] = refl
    placed_in home number true is index (e ∷ entries) =
        let place : Place = record { stamp = e.stamp; home = number; index = index } in
        let rest = filter (is_placed home) (places_in number (index + 1) entries) in
        ap (λ b. cond b (place ∷ rest) rest) is ∙ ap (λ ps. place ∷ ps) (placed_in home number true is (index + 1) entries)
    placed_in home number false is index (e ∷ entries) =
        let place : Place = record { stamp = e.stamp; home = number; index = index } in
        let rest = filter (is_placed home) (places_in number (index + 1) entries) in
        ap (λ b. cond b (place ∷ rest) rest) is ∙ placed_in home number false is (index + 1) entries

    split : (home : Home) (number : ℕ) (h : Notes) (hs : List Notes) (n : Home) (b : Bool) → slice_get names number ≡ Some n → same_home home n ≡ b
        → filter (is_placed home) (places_from number (h ∷ hs)) ≡ cond b (places_in number 0 h.entries) [] ++ filter (is_placed home) (places_from (number + 1) hs)
    split home number h hs n b named is =
        filter-append (is_placed home) (places_in number 0 h.entries) (places_from (number + 1) hs)
        ∙ ap (λ ps. ps ++ filter (is_placed home) (places_from (number + 1) hs)) (placed_in home number b (ap (is_some_home home) named ∙ is) 0 h.entries)

    none_placed : (home : Home) (number : ℕ) (hs : List Notes) (ns : List Home) → From names number ns → Are hs ns → count (same_home home) ns ≡ 0 → filter (is_placed home) (places_from number hs) ≡ []
    none_placed home number [] ns named are none = refl
    none_placed home number (h ∷ hs) [] named are none = absurd (cc are)
    none_placed home number (h ∷ hs) (n ∷ ns) named are none =
        elim (cases_Bool (same_home home n)) [
          | inl y ↦ absurd (omega (arith, none, count_yes (same_home home) n ns y))
          | inr apart ↦
              let rest : Are hs ns = cc are in
              split home number h hs n false (From-here names number n ns named) apart
              ∙ none_placed home (number + 1) hs ns (From-next names number n ns named) rest (sym (count_no (same_home home) n ns apart) ∙ none)
        ]

    -- the number of the home, and what it holds
    record IsFound (home : Home) (places : List Place) : Type 0 where
      pub number : ℕ
      pub notes : Notes
      pub at : slice_get homes number ≡ Some notes
      pub entries : notes.entries ≡ held home
      pub placed : places ≡ places_in number 0 notes.entries

    found : (home : Home) (number : ℕ) (hs : List Notes) (ns : List Home) → From homes number hs → From names number ns → Are hs ns → count (same_home home) ns ≡ 1 → IsFound home (filter (is_placed home) (places_from number hs))
    found home number [] [] from named are one = absurd (omega (arith, one))
    found home number [] (n ∷ ns) from named are one = absurd (cc are)
    found home number (h ∷ hs) [] from named are one = absurd (cc are)
    found home number (h ∷ hs) (n ∷ ns) from named are one =
        let same : h.entries ≡ held n = cc are in
        let rest : Are hs ns = cc are in
        let next = From-next names number n ns named in
        elim (cases_Bool (same_home home n)) [
          | inl y ↦
              let none : count (same_home home) ns ≡ 0 = omega (arith, one, count_yes (same_home home) n ns y) in
              record {
                number = number;
                notes = h;
                at = From-here homes number h hs from;
                entries = same ∙ ap held (sym (same_home-is home n y));
                placed = split home number h hs n true (From-here names number n ns named) y
                    ∙ (ap (λ ps. places_in number 0 h.entries ++ ps) (none_placed home (number + 1) hs ns next rest none) ∙ append-nil (places_in number 0 h.entries));
              }
          | inr apart ↦
              let more = found home (number + 1) hs ns (From-next homes number h hs from) next rest (sym (count_no (same_home home) n ns apart) ∙ one) in
              record {
                number = more.number;
                notes = more.notes;
                at = more.at;
                entries = more.entries;
                placed = split home number h hs n false (From-here names number n ns named) apart ∙ more.placed;
              }
        ]

    -- ---- the entries at places

    read : (number : ℕ) (h : Notes) → slice_get homes number ≡ Some h → (index : ℕ) (rest : List Stamped) → From h.entries index rest → filter_map entry_at (places_in number index rest) ≡ rest
    read number h at index [] from = refl
    read number h at index (e ∷ rest) from =
        let here : entry_at (record { stamp = e.stamp; home = number; index = index }) ≡ Some e = ap (option_and_then (λ (h : Notes). slice_get h.entries index)) at ∙ From-here h.entries index e rest from in
        ap (λ o. cons_option o (filter_map entry_at (places_in number (index + 1) rest))) here
        ∙ ap (λ es. e ∷ es) (read number h at (index + 1) rest (From-next h.entries index e rest from))

    kept_here : (home : Home) (p : Place) (ps : List Place) (b : Bool) (e : Stamped) → entry_at p ≡ Some e → cond b (e ∷ filter_map entry_at ps) (filter_map entry_at ps) ≡ filter_map entry_at (cond b (p ∷ ps) ps)
    kept_here home p ps true e is = sym (ap (λ o. cons_option o (filter_map entry_at ps)) is)
    kept_here home p ps false e is = refl

    entries_at : (home : Home) (ps : List Place) → All IsFilled ps → filter (stands_at setup clients home) (filter_map entry_at ps) ≡ filter_map entry_at (filter (is_placed home) ps)
    entries_at home [] filled = refl
    entries_at home (p ∷ ps) filled =
        let here = All-head IsFilled p ps filled in
        let rest = entries_at home ps (All-tail IsFilled p ps filled) in
        ap (λ o. filter (stands_at setup clients home) (cons_option o (filter_map entry_at ps))) here.is
        ∙ (ap (λ b. cond b (here.entry ∷ filter (stands_at setup clients home) (filter_map entry_at ps)) (filter (stands_at setup clients home) (filter_map entry_at ps))) (here.home home)
        ∙ (ap (λ es. cond (is_placed home p) (here.entry ∷ es) es) rest
        ∙ kept_here home p (filter (is_placed home) ps) (is_placed home p) here.entry here.is))

    climbs_from : (low : ℕ) (ps : List Place) → Up is_before ps → All IsFilled ps → ((p : Place) (rest : List Place) → ps ≡ p ∷ rest → low ≤ p.stamp.0) → Climbs low (filter_map entry_at ps)
    climbs_from low [] up filled first = tt
    climbs_from low (p ∷ ps) up filled first =
        let here = All-head IsFilled p ps filled in
        subst (Climbs low) (sym (ap (λ o. cons_option o (filter_map entry_at ps)) here.is))
        (subst (λ n. low ≤ n) (sym here.stamp) (first p ps refl), subst (λ n. Climbs n (filter_map entry_at ps)) (sym here.stamp) (climbs_from p.stamp.0 ps (up_rest p ps up) (All-tail IsFilled p ps filled) (up_next p ps up)))
      where
        up_rest : (p : Place) (ps : List Place) → Up is_before (p ∷ ps) → Up is_before ps
        up_rest p [] up = tt
        up_rest p (q ∷ ps) up = up.1

        up_next : (p : Place) (ps : List Place) → Up is_before (p ∷ ps) → (q : Place) (rest : List Place) → ps ≡ q ∷ rest → p.stamp.0 ≤ q.stamp.0
        up_next p [] up q rest is = absurd (cc is)
        up_next p (x ∷ ps) up q rest is = let same : x ≡ q = cc is in subst (λ (z : Place). p.stamp.0 ≤ z.stamp.0) same (above p.stamp.0 x.stamp.0 _ up.0)

    the_event : (e : Event) (o : Option Notes) (index : ℕ) → option_and_then (λ (h : Notes). option_map (λ (x : Stamped). x.event) (slice_get h.entries index)) o ≡ option_map (λ (x : Stamped). x.event) (option_and_then (λ (h : Notes). slice_get h.entries index) o)
    the_event e None index = refl
    the_event e (Some h) index = refl

    events_read : (ps : List Place) (events : List Event) → All IsFilled ps → map (event_at homes) ps ≡ map Some events → map (λ (x : Stamped). x.event) (filter_map entry_at ps) ≡ events
    events_read [] [] filled same = refl
    events_read [] (e ∷ events) filled same = absurd (cc same)
    events_read (p ∷ ps) [] filled same = absurd (cc same)
    events_read (p ∷ ps) (e ∷ events) filled same =
        let here = All-head IsFilled p ps filled in
        let head : event_at homes p ≡ Some e = cc same in
        let rest : map (event_at homes) ps ≡ map Some events = cc same in
        let its : Some here.entry.event ≡ Some e = sym (ap (option_map (λ (x : Stamped). x.event)) here.is) ∙ (sym (the_event e (slice_get homes p.home) p.index) ∙ head) in
        let event : here.entry.event ≡ e = cc its in
        ap (λ o. map (λ (x : Stamped). x.event) (cons_option o (filter_map entry_at ps))) here.is
        ∙ (ap (λ z. z ∷ map (λ (x : Stamped). x.event) (filter_map entry_at ps)) event
        ∙ ap (λ es. e ∷ es) (events_read ps events (All-tail IsFilled p ps filled) rest))

    -- ---- the merge

    module _ (events : List Event) (once : (home : Home) → count (same_home home) names ≤ 1) (rest : (home : Home) → count (same_home home) names ≡ 0 → held home ≡ []) (are : Are homes names) (m : IsMerged homes events) where
      start : {X : Type 0} (xs : List X) → From xs 0 xs
      start xs k = ap (slice_get xs) (omega arith)

      filled : All IsFilled m.places
      filled = All-permutation IsFilled (places_from 0 homes) m.places m.all (filled_from 0 homes names (start homes) (start names) are)

      in_order : (home : Home) → Up is_before (filter (is_placed home) (places_from 0 homes)) → filter (is_placed home) m.places ≡ filter (is_placed home) (places_from 0 homes)
      in_order home up = same_filtered is_before (ranks_by place_cmp-total (λ p. p)) same_place (is_placed home) (places_from 0 homes) m.places m.all up m.ordered

      its_own : (home : Home) → filter_map entry_at (filter (is_placed home) m.places) ≡ held home
      its_own home =
          elim (cases_Bool (count (same_home home) names == 0)) [
            | inl y ↦
                let none : count (same_home home) names ≡ 0 = eqb-true (count (same_home home) names) 0 y in
                let empty = none_placed home 0 homes names (start names) are none in
                ap (filter_map entry_at) (in_order home (subst (Up is_before) (sym empty) tt) ∙ empty) ∙ sym (rest home none)
            | inr n ↦
                let one : count (same_home home) names ≡ 1 = exactly_one (count (same_home home) names) (once home) n in
                let f = found home 0 homes names (start homes) (start names) are one in
                let up : Up is_before (places_in f.number 0 f.notes.entries) = up_places (each home).first f.number 0 f.notes.entries (subst (Rises (each home).first) (sym f.entries) (each home).rises) in
                ap (filter_map entry_at) (in_order home (subst (Up is_before) (sym f.placed) up) ∙ f.placed) ∙ (read f.number f.notes f.at 0 f.notes.entries (start f.notes.entries) ∙ f.entries)
          ]

      pub merge_of : IsMergeOf setup clients held (filter_map entry_at m.places) events
      merge_of = record {
        events = events_read m.places events filled m.theirs;
        climbs = climbs_from 0 m.places (Up-sorted is_before m.places m.ordered) filled (λ p ps is. omega arith);
        theirs = λ home. entries_at home m.places filled ∙ its_own home;
      }
