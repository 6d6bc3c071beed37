-- A board under a lock stays as it is kept.
use Rattle.std.proofs.Common.{◌≡◌, ℕ, ◌+◌, ◌<◌, ◌≤◌, ◌^◌, max, List, [], ◌∷◌, ◌++◌, map, refl, sym, ap, ◌∙◌, subst, arith, append-nil, Some, None, inl, inr, reverse}
use Rattle.std.specs.Prelude.{◌⊎◌, option_map, slice_get}
use Rattle.std.specs.declared.snapshot.Snapshot.{Snapshot}
use Rattle.std.specs.List.{All, Contains}
use Rattle.std.proofs.lemmas.Grind.{flat_map-append}
use Rattle.std.proofs.lemmas.List.{map-append}
use Rattle.std.proofs.lemmas.List.Elements.{All-nil, All-cons, Contains-append_left, Contains-append_right, Contains-push}
use Rattle.xa_types.specs.declared.setup.Setup.{Setup}
use Rattle.xa_types.specs.declared.ids.CallerId.{CallerId}
use Rattle.xa_types.specs.declared.stamp.Stamp.{Stamp}
use Rattle.xa_types.specs.declared.row.Row.{Row}
use Rattle.xa_events.specs.declared.event.Event.{Event}
use Rattle.xa_events.specs.Board.{published, rows_of_version}
use Rattle.xa_stamp.specs.declared.home.Stamped.{Stamped}
use Rattle.xa_stamp.specs.declared.told.Noted.{Noted}
use Rattle.xa_stamp.specs.Home.{last_stamp}
use Rattle.xa_stamp.proofs.Stamps.{last_stamp-push}
use Rattle.xa_lock.specs.declared.makers.Made.{Made}
use Rattle.xa_lock.specs.Makers.{noted_in}
use Rattle.xa_lock.specs.Pages.{StartsWith}
use Rattle.xa_board.specs.Board.{BoardState, ReadsAsNoted, stamp_of, put_of}
use Rattle.xa_board.specs.Changes.{larger, rows_on}
use Rattle.xa_board.proofs.Noted.{new-noted}
use Rattle.xa_held.specs.declared.kept_board.Mark.{Mark}
use Rattle.xa_held.specs.declared.kept_board.Look.{Look}
use Rattle.xa_held.specs.declared.kept_board.BoardNote.{BoardNote}
use Rattle.xa_held.specs.declared.kept_board.BoardNote.TheVariants.{Opened, By, Looked}
use Rattle.xa_held.specs.Board.{Held, IsPlaced, IsSoundBoard, Climbs, top, made_of, made_in, raised}
use Rattle.xa_held.specs.BoardSteps.{change, Makes}
use Rattle.xa_held.specs.BoardVisits.{HasStampIn}
use Rattle.xa_held.specs.InnerBoard.{note_of}

Climbs-append : (least : ℕ) (notes more : List BoardNote) → Climbs least notes → Climbs (top least notes) more → Climbs least (notes ++ more)
Climbs-append least [] more climbs on = on
Climbs-append least (Opened s ∷ rest) more climbs on = Climbs-append least rest more climbs on
Climbs-append least (By m ∷ rest) more climbs on = (climbs.0, Climbs-append m.noted.stamp.0 rest more climbs.1 on)
Climbs-append least (Looked l ∷ rest) more climbs on = (climbs.0, Climbs-append l.stamp.0 rest more climbs.1 on, climbs.2)

Climbs-behind : (least : ℕ) (notes more : List BoardNote) → Climbs least (notes ++ more) → Climbs (top least notes) more
Climbs-behind least [] more climbs = climbs
Climbs-behind least (Opened s ∷ rest) more climbs = Climbs-behind least rest more climbs
Climbs-behind least (By m ∷ rest) more climbs = Climbs-behind m.noted.stamp.0 rest more climbs.1
Climbs-behind least (Looked l ∷ rest) more climbs = Climbs-behind l.stamp.0 rest more climbs.1

top-append : (least : ℕ) (notes more : List BoardNote) → top least (notes ++ more) ≡ top (top least notes) more
top-append least [] more = refl
top-append least (Opened s ∷ rest) more = top-append least rest more
top-append least (By m ∷ rest) more = top-append m.noted.stamp.0 rest more
top-append least (Looked l ∷ rest) more = top-append l.stamp.0 rest more

-- all changes have greater stamps
above : (least bound : ℕ) (notes : List BoardNote) → bound ≤ least → Climbs least notes → All (λ (m : Made). bound < m.noted.stamp.0) (made_in notes)
above least bound [] low climbs = All-nil (λ (m : Made). bound < m.noted.stamp.0)
above least bound (Opened s ∷ rest) low climbs = above least bound rest low climbs
above least bound (By m ∷ rest) low climbs = All-cons (λ (m : Made). bound < m.noted.stamp.0) m (made_in rest) (omega (arith, climbs.0, low)) (above m.noted.stamp.0 bound rest (omega (arith, climbs.0, low)) climbs.1)
above least bound (Looked l ∷ rest) low climbs = above l.stamp.0 bound rest (omega (arith, climbs.0, low)) climbs.1

-- no change has a greater stamp than the last change or look
pub below : (least : ℕ) (notes : List BoardNote) → Climbs least notes → (least ≤ top least notes) × All (λ (m : Made). m.noted.stamp.0 ≤ top least notes) (made_in notes)
below least [] climbs = (omega arith, All-nil (λ (m : Made). m.noted.stamp.0 ≤ least))
below least (Opened s ∷ rest) climbs = below least rest climbs
below least (By m ∷ rest) climbs =
    let later = below m.noted.stamp.0 rest climbs.1 in
    (omega (arith, climbs.0, later.0), All-cons (λ (z : Made). z.noted.stamp.0 ≤ top m.noted.stamp.0 rest) m (made_in rest) later.0 later.1)
below least (Looked l ∷ rest) climbs = let later = below l.stamp.0 rest climbs.1 in (omega (arith, climbs.0, later.0), later.1)

first_in : (x : BoardNote) (rest : List BoardNote) → Contains (x ∷ rest) x
first_in x rest = Contains-append_left (x ∷ []) rest x (Contains-push [] x)

further : (x : BoardNote) (rest : List BoardNote) (last : Stamp) → HasStampIn rest last → HasStampIn (x ∷ rest) last
further x rest last (inl (m, stands, is)) = inl (m, Contains-append_right (x ∷ []) rest (By m) stands, is)
further x rest last (inr (l, stands, is)) = inr (l, Contains-append_right (x ∷ []) rest (Looked l) stands, is)

-- which is one of them, where there is a change
pub topped : (least : ℕ) (notes : List BoardNote) (last : Stamp) → top least notes ≡ last.0 → ((top least notes ≡ least) × (made_in notes ≡ [])) ⊎ HasStampIn notes last
topped least [] last is = inl (refl, refl)
topped least (Opened s ∷ rest) last is = elim (topped least rest last is) [ inl none ↦ inl none | inr some ↦ inr (further (Opened s) rest last some) ]
topped least (By m ∷ rest) last is = inr (elim (topped m.noted.stamp.0 rest last is) [ inl none ↦ inl (m, first_in (By m) rest, sym none.0 ∙ is) | inr some ↦ further (By m) rest last some ])
topped least (Looked l ∷ rest) last is = inr (elim (topped l.stamp.0 rest last is) [ inl none ↦ inr (l, first_in (Looked l) rest, sym none.0 ∙ is) | inr some ↦ further (Looked l) rest last some ])

-- behind a look all changes have greater stamps
pub behind-look : (least : ℕ) (front rest : List BoardNote) (look : Look) → Climbs least (front ++ Looked look ∷ rest) → All (λ (m : Made). look.stamp.0 < m.noted.stamp.0) (made_in rest)
behind-look least front rest look climbs =
    let on = Climbs-behind least front (Looked look ∷ rest) climbs in
    above look.stamp.0 look.stamp.0 rest (omega arith) on.1

-- no first one is there
pub no_row : (rows : List Row) → None ≡ option_map (λ (row : Row). row.service) (slice_get rows 0) → rows ≡ []
no_row [] none = refl
no_row (row ∷ rest) none = absurd (cc none)

-- a board without a change has no row
none_put : (P : Row → Type 0) (rows : List Row) → map put_of rows ≡ [] → All P rows
none_put P [] none = All-nil P
none_put P (row ∷ rows) none = absurd (cc none)

pub sound_new : (setup : Setup) (board : BoardState) (items : List (Mark × Snapshot Event)) → items ≡ [] → board.entries ≡ [] → board.first.0 ≡ 0 → ReadsAsNoted board → IsSoundBoard (record { board = board; setup = setup; last = record { 0 = 0 }; notes = Opened setup ∷ map note_of items })
sound_new setup board items none entries begins reads =
    let changed : List Stamped → List Event = λ l. reverse (map (λ (x : Stamped). x.event) l) in
    let bare : stamp_of board ≡ board.first.0 = ap (last_stamp board.first) entries in
    subst (λ (l : List (Mark × Snapshot Event)). IsSoundBoard (record { board = board; setup = setup; last = record { 0 = 0 }; notes = Opened setup ∷ map note_of l })) (sym none) (record {
      opened = ([], refl);
      placed = none_put (IsPlaced setup) board.rows (reads.standing setup ∙ ap (λ (l : List Stamped). map put_of (rows_of_version setup (changed l) (published (changed l)))) entries ∙ sym ((new-noted board.first).standing setup));
      noted = sym entries;
      begins = begins;
      climbs = tt;
      latest = begins;
      bound = omega arith;
      behind = omega (arith, bare, begins);
    })

made_in-append : (notes more : List BoardNote) → made_in (notes ++ more) ≡ made_in notes ++ made_in more
made_in-append notes more = flat_map-append made_of notes more

bare_rows : (rows : List Row) → map put_of rows ≡ [] → rows ≡ []
bare_rows [] none = refl
bare_rows (row ∷ rows) none = absurd (cc none)

-- the last stamp is that of a change or a look, or 0
pub ended : (held : Held) → IsSoundBoard held → (held.last.0 ≡ 0) ⊎ HasStampIn held.notes held.last
ended held sound = elim (topped held.board.first.0 held.notes held.last sound.latest) [ inl bare ↦ inl (sym sound.latest ∙ (bare.0 ∙ sound.begins)) | inr stands ↦ inr stands ]

-- where a row stands the last stamp is that of a change or a look
pub stamped : (queue : ℕ) (held : Held) → IsSoundBoard held → ReadsAsNoted held.board → (row : Row) → slice_get (rows_on queue held.board.rows) 0 ≡ Some row → HasStampIn held.notes held.last
stamped queue held sound reads row first = elim (topped held.board.first.0 held.notes held.last sound.latest) [
  | inl bare ↦
      let changed : List Stamped → List Event = λ l. reverse (map (λ (x : Stamped). x.event) l) in
      let none : held.board.entries ≡ [] = sym sound.noted ∙ ap noted_in bare.1 in
      let rows : held.board.rows ≡ [] = bare_rows held.board.rows (reads.standing held.setup ∙ ap (λ (l : List Stamped). map put_of (rows_of_version held.setup (changed l) (published (changed l)))) none ∙ sym ((new-noted held.board.first).standing held.setup)) in
      absurd (cc (first, ap (λ (l : List Row). slice_get (rows_on queue l) 0) rows))
  | inr stands ↦ stands
]

-- what is kept is noted behind the others
pub kept_behind : (setup : Setup) (old new : List (Mark × Snapshot Event)) (x : Mark × Snapshot Event) → new ≡ old ++ x ∷ [] → Opened setup ∷ map note_of new ≡ (Opened setup ∷ map note_of old) ++ note_of x ∷ []
kept_behind setup old new x is = ap (λ (l : List BoardNote). Opened setup ∷ l) (ap (map note_of) is ∙ map-append note_of old (x ∷ []))

-- what stands first still does behind more
opened_more : (old new : Held) (more : List BoardNote) → new.setup ≡ old.setup → new.notes ≡ old.notes ++ more → StartsWith old.notes (Opened old.setup ∷ []) → StartsWith new.notes (Opened new.setup ∷ [])
opened_more old new more same notes opened =
    (opened.0 ++ more, notes ∙ ap (λ (l : List BoardNote). l ++ more) opened.1 ∙ ap (λ (s : Setup). Opened s ∷ opened.0 ++ more) (sym same))

module _ (seen : Stamp) (old new : Held) (sound : IsSoundBoard old) (same : new.setup ≡ old.setup) where
  -- a change is made
  pub sound_change : (version : ℕ) (maker : CallerId) (noted : Noted) (event : Event) (rows : List Row) → Makes seen version noted event rows old new → noted.stamp.0 ≤ 2 ^ 63 → new.notes ≡ old.notes ++ change maker noted → All (IsPlaced old.setup) rows → IsSoundBoard new
  sound_change version maker noted event rows makes bound notes placed =
      let m : Made = record { maker = maker; noted = record { stamp = noted.stamp; event = noted.event.value } } in
      let bare : Made → Stamped = λ (z : Made). z.noted in
      let later : noted.stamp.0 ≡ larger (raised seen old) old.board + 1 = ap (λ (d : ℕ × Stamp). d.1.0) makes.next in
      let first : new.board.first ≡ old.board.first = ap (λ (s : BoardState). s.first) makes.board in
      let entries : new.board.entries ≡ old.board.entries ++ record { stamp = noted.stamp; event = event } ∷ [] = ap (λ (s : BoardState). s.entries) makes.board in
      let above' : old.last.0 < noted.stamp.0 = omega (arith, later) in
      let last : new.last.0 ≡ noted.stamp.0 = ap (λ (s : Stamp). s.0) makes.last in
      record {
        opened = opened_more old new (change maker noted) same notes sound.opened;
        placed = subst (λ (s : Setup). All (IsPlaced s) new.board.rows) (sym same) (subst (All (IsPlaced old.setup)) (sym (ap (λ (s : BoardState). s.rows) makes.board)) placed);
        noted = ap (λ l. noted_in (made_in l)) notes ∙ ap noted_in (made_in-append old.notes (change maker noted)) ∙ map-append bare (made_in old.notes) (m ∷ [])
            ∙ ap (λ l. l ++ m.noted ∷ []) sound.noted ∙ ap (λ (e : Event). old.board.entries ++ record { stamp = noted.stamp; event = e } ∷ []) makes.event_is ∙ sym entries;
        begins = ap (λ (f : Stamp). f.0) first ∙ sound.begins;
        climbs = subst (λ (f : Stamp). Climbs f.0 new.notes) (sym first) (subst (Climbs old.board.first.0) (sym notes)
            (Climbs-append old.board.first.0 old.notes (By m ∷ []) sound.climbs (omega (arith, sound.latest, above'), tt)));
        latest = ap (λ (f : Stamp). top f.0 new.notes) first ∙ ap (top old.board.first.0) notes ∙ top-append old.board.first.0 old.notes (By m ∷ []) ∙ sym last;
        bound = omega (arith, last, bound);
        behind = let is : stamp_of new.board ≡ noted.stamp.0 = ap (λ (s : BoardState). stamp_of s) makes.board ∙ last_stamp-push old.board.first old.board.entries (record { stamp = noted.stamp; event = event }) in omega (arith, is, last);
      }

  -- no row stands
  pub sound_look : (its : Look) → its.stamp ≡ raised seen old → its.before ≡ old.last → seen.0 ≤ 2 ^ 63 → new.board ≡ old.board → new.last ≡ its.stamp → new.notes ≡ old.notes ++ Looked its ∷ [] → IsSoundBoard new
  sound_look its is before low board last' notes =
      let look : List BoardNote = Looked its ∷ [] in
      let stamp : Stamp = its.stamp in
      let at : its.before.0 ≡ old.last.0 = ap (λ (s : Stamp). s.0) before in
      let first : new.board.first ≡ old.board.first = ap (λ (s : BoardState). s.first) board in
      let high : stamp.0 ≡ max seen.0 old.last.0 = ap (λ (s : Stamp). s.0) is in
      let last : new.last.0 ≡ stamp.0 = ap (λ (s : Stamp). s.0) last' in
      record {
        opened = opened_more old new look same notes sound.opened;
        placed = subst (λ (s : Setup). All (IsPlaced s) new.board.rows) (sym same) (subst (All (IsPlaced old.setup)) (sym (ap (λ (s : BoardState). s.rows) board)) sound.placed);
        noted = ap (λ l. noted_in (made_in l)) notes ∙ ap noted_in (made_in-append old.notes look ∙ append-nil (made_in old.notes)) ∙ sound.noted ∙ sym (ap (λ (s : BoardState). s.entries) board);
        begins = ap (λ (f : Stamp). f.0) first ∙ sound.begins;
        climbs = subst (λ (f : Stamp). Climbs f.0 new.notes) (sym first) (subst (Climbs old.board.first.0) (sym notes)
            (Climbs-append old.board.first.0 old.notes look sound.climbs (omega (arith, sound.latest, high), tt, omega (arith, sound.latest, at))));
        latest = ap (λ (f : Stamp). top f.0 new.notes) first ∙ ap (top old.board.first.0) notes ∙ top-append old.board.first.0 old.notes look ∙ sym last;
        bound = omega (arith, last, high, low, sound.bound);
        behind = let same : stamp_of new.board ≡ stamp_of old.board = ap (λ (s : BoardState). stamp_of s) board in omega (arith, same, last, high, sound.behind);
      }
