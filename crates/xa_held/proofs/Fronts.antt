-- What passes saw of the board stands first among its changes.
use Rattle.std.proofs.Common.{◌≡◌, ℕ, ◌+◌, ◌==◌, ◌&&◌, ◌<◌, ◌≤◌, Bool, true, false, cond, max, List, [], ◌∷◌, ◌++◌, map, length, inl, inr, Some, None, Ok, refl, sym, ap, ◌∙◌, subst, arith, append_assoc, length-append}
use Rattle.std.specs.List.{All, filter, find, Contains}
use Rattle.std.specs.Str.{bytes_eq}
use Rattle.std.proofs.lemmas.Bool.{cases_Bool}
use Rattle.std.proofs.lemmas.Grind.{flat_map-append}
use Rattle.std.proofs.lemmas.List.{map-append}
use Rattle.std.proofs.lemmas.List.Elements.{All-nil, All-cons, All-weaker, All-map, filter_map-append, All-contains, Contains-push, Contains-append_left, Contains-append_right}
use Rattle.xa_types.specs.declared.ids.CallerId.{CallerId}
use Rattle.xa_types.specs.declared.ids.QueueId.{QueueId}
use Rattle.xa_types.specs.declared.row.Row.{Row}
use Rattle.xa_types.specs.declared.setup.Setup.{Setup}
use Rattle.xa_types.specs.declared.stamp.Stamp.{Stamp}
use Rattle.xa_types.specs.Rows.{is_row_of}
use Rattle.xa_events.specs.Board.{boot, published, changes, change_in, rows_of_version}
use Rattle.xa_events.specs.Cases.{NoRows}
use Rattle.xa_stamp.specs.declared.home.Stamped.{Stamped}
use Rattle.xa_lock.specs.declared.makers.Made.{Made}
use Rattle.xa_lock.specs.declared.pass.Page.{Page}
use Rattle.xa_lock.specs.Makers.{noted_in, maker_of as made_maker}
use Rattle.xa_lock.specs.Pages.{StartsWith, Knows, entries_by}
use Rattle.xa_worker.specs.Seen.{past_in, SawDeserted}
use Rattle.xa_worker.proofs.Lists.{past_in-append}
use Rattle.xa_board.specs.Board.{BoardState, ReadsAsNoted, past_of, version_of, put_of}
use Rattle.xa_board.specs.Changes.{is_on, rows_on}
use Rattle.xa_held.specs.declared.kept_board.BoardNote.{BoardNote}
use Rattle.xa_held.specs.declared.kept_board.BoardNote.TheVariants.{Opened, By, Looked}
use Rattle.xa_held.specs.declared.kept_board.Look.{Look}
use Rattle.xa_held.specs.declared.kept_board.Clearing.TheVariants.{Clear}
use Rattle.xa_held.specs.declared.kept_queue.QueueNote.{QueueNote}
use Rattle.xa_held.specs.Board.{Held, IsSoundBoard, Climbs, top, made_of, made_in, maker_of}
use Rattle.xa_held.specs.BoardSteps.{ClearedAs}
use Rattle.xa_held.specs.BoardVisits.{SeesBoard, BoardVisits}
use Rattle.xa_held.specs.Kept.{Kept, notes_of}
use Rattle.xa_held.specs.Joins.{changes_page, changes_at, events_at, SawLeft}
use Rattle.xa_held.proofs.Climbing.{behind-look}
use Rattle.xa_held.proofs.Front.{made_in-notes}
use Rattle.xa_held.proofs.Lefts.{seen_gone, events_front}

cond-made : (b : Bool) (m : Made) (notes : List BoardNote) → made_in (cond b (By m ∷ notes) notes) ≡ cond b (m ∷ made_in notes) (made_in notes)
cond-made true m notes = refl
cond-made false m notes = refl

cond-other : (b : Bool) (other : BoardNote) (notes : List BoardNote) → made_of other ≡ [] → made_in (cond b (other ∷ notes) notes) ≡ made_in notes
cond-other true other notes none = ap (λ (l : List Made). l ++ made_in notes) none
cond-other false other notes none = refl

made_in-by : (maker : ℕ) (notes : List BoardNote) → made_in (entries_by maker_of maker notes) ≡ entries_by made_maker maker (made_in notes)
made_in-by maker [] = refl
made_in-by maker (Opened setup ∷ notes) = cond-other (0 == maker) (Opened setup) (entries_by maker_of maker notes) refl ∙ made_in-by maker notes
made_in-by maker (By m ∷ notes) = cond-made (m.maker.0 == maker) m (entries_by maker_of maker notes) ∙ ap (λ (l : List Made). cond (m.maker.0 == maker) (m ∷ l) l) (made_in-by maker notes)
made_in-by maker (Looked look ∷ notes) = cond-other (look.maker.0 == maker) (Looked look) (entries_by maker_of maker notes) refl ∙ made_in-by maker notes

made_in-front : (now seen : List BoardNote) → StartsWith now seen → StartsWith (made_in now) (made_in seen)
made_in-front now seen begins = (made_in begins.0, ap made_in begins.1 ∙ flat_map-append made_of seen begins.0)

pub knows_changes : (p : Page BoardNote) (board : Held) → Knows maker_of p board.notes → Knows made_maker (changes_page p) (made_in board.notes)
knows_changes p board knows = (sym (made_in-by p.maker board.notes) ∙ ap made_in knows.0, made_in-front board.notes p.seen knows.1)

pub changes_front : (now seen : List BoardNote) → StartsWith now seen → StartsWith (changes_at now) (changes_at seen)
changes_front now seen begins =
    let made = made_in-front now seen begins in
    (noted_in made.0, ap noted_in made.1 ∙ map-append (λ (z : Made). z.noted) (made_in seen) made.0)

-- no stamp is greater than the last one
pub below_top : (least : ℕ) (notes : List BoardNote) → Climbs least notes → (least ≤ top least notes) × All (λ (x : Stamped). x.stamp.0 ≤ top least notes) (changes_at notes)
below_top least [] climbs = (omega arith, All-nil (λ (x : Stamped). x.stamp.0 ≤ least))
below_top least (Opened s ∷ notes) climbs = below_top least notes climbs
below_top least (By m ∷ notes) climbs =
    let rest = below_top m.noted.stamp.0 notes climbs.1 in
    (omega (arith, climbs.0, rest.0), All-cons (λ (x : Stamped). x.stamp.0 ≤ top m.noted.stamp.0 notes) m.noted (changes_at notes) rest.0 rest.1)
below_top least (Looked l ∷ notes) climbs = let rest = below_top l.stamp.0 notes climbs.1 in (omega (arith, climbs.0, rest.0), rest.1)

-- no change that was seen has a greater stamp than the last change or look
pub reached_last : (seen : List BoardNote) (held : Held) → seen ≡ held.notes → IsSoundBoard held → (stamp : Stamp) → held.last ≡ stamp → All (λ (x : Stamped). x.stamp.0 ≤ stamp.0) (changes_at seen)
reached_last seen held saw sound stamp last =
    let same = ap (λ (s : Stamp). s.0) last in
    let at : ℕ = top held.board.first.0 held.notes in
    let latest = sound.latest in
    All-weaker (λ (x : Stamped). x.stamp.0 ≤ at) (λ (x : Stamped). x.stamp.0 ≤ stamp.0) (λ x le. omega (arith, le, latest, same)) (changes_at seen)
    (subst (λ (l : List BoardNote). All (λ (x : Stamped). x.stamp.0 ≤ at) (changes_at l)) (sym saw) (below_top held.board.first.0 held.notes sound.climbs).1)

-- a change that stands among the notes stands among the changes
each_change : (notes : List BoardNote) → All (λ (n : BoardNote). (m : Made) → n ≡ By m → Contains (changes_at notes) m.noted) notes
each_change [] = All-nil (λ (n : BoardNote). (m : Made) → n ≡ By m → Contains (changes_at []) m.noted)
each_change (Opened setup ∷ rest) = All-cons (λ (n : BoardNote). (m : Made) → n ≡ By m → Contains (changes_at rest) m.noted) (Opened setup) rest (λ m is. absurd (cc is)) (each_change rest)
each_change (Looked look ∷ rest) = All-cons (λ (n : BoardNote). (m : Made) → n ≡ By m → Contains (changes_at rest) m.noted) (Looked look) rest (λ m is. absurd (cc is)) (each_change rest)
each_change (By made ∷ rest) =
    let one : List Stamped = made.noted ∷ [] in
    All-cons (λ (n : BoardNote). (m : Made) → n ≡ By m → Contains (made.noted ∷ changes_at rest) m.noted) (By made) rest
    (λ m is. let same : made ≡ m = cc is in subst (λ (x : Made). Contains (made.noted ∷ changes_at rest) x.noted) same (Contains-append_left one (changes_at rest) made.noted (Contains-push [] made.noted)))
    (All-weaker (λ (n : BoardNote). (m : Made) → n ≡ By m → Contains (changes_at rest) m.noted) (λ (n : BoardNote). (m : Made) → n ≡ By m → Contains (made.noted ∷ changes_at rest) m.noted)
    (λ n there m is. Contains-append_right one (changes_at rest) m.noted (there m is)) rest (each_change rest))

pub change_stands : (seen : List BoardNote) (m : Made) → Contains seen (By m) → Contains (changes_at seen) m.noted
change_stands seen m here = All-contains (λ (n : BoardNote). (m : Made) → n ≡ By m → Contains (changes_at seen) m.noted) seen (By m) (each_change seen) here m refl

-- more changes make no lower version
pub published-front : (now seen : List Stamped) → StartsWith now seen → published (past_in seen) ≤ published (past_in now)
unfolding published changes
published-front now seen begins =
    let parts : changes (past_in now) ≡ changes (past_in begins.0) ++ changes (past_in seen) = ap (λ l. changes (past_in l)) begins.1 ∙ ap changes (past_in-append seen begins.0) ∙ filter_map-append change_in (past_in begins.0) (past_in seen) in
    let count : published (past_in now) ≡ published (past_in begins.0) + published (past_in seen) = ap length parts ∙ length-append (changes (past_in begins.0)) (changes (past_in seen)) in
    omega (arith, count)

-- the version is no lower than that of what was seen
pub version_grows : (seen : List BoardNote) (board : Held) → StartsWith board.notes seen → IsSoundBoard board → published (past_in (changes_at seen)) ≤ version_of board.board
version_grows seen board begins sound =
    let least = published-front (changes_at board.notes) (changes_at seen) (changes_front board.notes seen begins) in
    let whole : published (past_in (changes_at board.notes)) ≡ version_of board.board = ap (λ (l : List Stamped). published (past_in l)) sound.noted in
    omega (arith, least, whole)

-- who saw by what setup the rows are sees it behind more, and so a pass that has left
pub sees_on : (setup : Setup) (p p' : Page BoardNote) → StartsWith p'.seen p.seen → SeesBoard setup p → SeesBoard setup p'
sees_on setup p p' begins sees = record { rest = sees.rest ++ begins.0; seen = begins.1 ∙ ap (λ (l : List BoardNote). l ++ begins.0) sees.seen }

pub seen_more : (p p' : Page BoardNote) (more : List BoardNote) {How : Held → Held → Type 0} → BoardVisits p p' more How → StartsWith p'.seen p.seen
seen_more p p' more v = (v.knew.1.0 ++ more, v.saw ∙ v.grew ∙ ap (λ (l : List BoardNote). l ++ more) v.knew.1.1 ∙ append_assoc p.seen v.knew.1.0 more)

pub sees_still : (setup : Setup) (p p' : Page BoardNote) (more : List BoardNote) {How : Held → Held → Type 0} → BoardVisits p p' more How → SeesBoard setup p → SeesBoard setup p'
sees_still setup p p' more v sees = sees_on setup p p' (seen_more p p' more v) sees

other_queue : (service : List ℕ) (queue : ℕ) (row : Row) (b : Bool) → (row.queue.0 == queue) ≡ false → (b && (row.queue.0 == queue)) ≡ false
other_queue service queue row true apart = apart
other_queue service queue row false apart = refl

-- where no row of the queue stands, none is found by what the changes leave
none_on : (service : List ℕ) (queue : ℕ) (rows others : List Row) → map put_of rows ≡ map put_of others → filter (is_on queue) rows ≡ [] → find (is_row_of service queue) others ≡ None
none_on service queue [] [] same none = refl
none_on service queue [] (y ∷ others) same none = absurd (cc same)
none_on service queue (x ∷ rows) [] same none = absurd (cc same)
none_on service queue (x ∷ rows) (y ∷ others) same none =
    elim (cases_Bool (is_on queue x)) [
      | inl so ↦ let some : x ∷ filter (is_on queue) rows ≡ [] = sym (ap (λ b. cond b (x ∷ filter (is_on queue) rows) (filter (is_on queue) rows)) so) ∙ none in absurd (cc some)
      | inr not_so ↦
          let queues : x.queue.0 ≡ y.queue.0 = cc same in
          let rest : map put_of rows ≡ map put_of others = cc same in
          let apart : is_row_of service queue y ≡ false = other_queue service queue y (bytes_eq y.service service) (ap (λ n. n == queue) (sym queues) ∙ not_so) in
          ap (λ b. cond b (Some y) (find (is_row_of service queue) others)) apart
          ∙ none_on service queue rows others rest (sym (ap (λ b. cond b (x ∷ filter (is_on queue) rows) (filter (is_on queue) rows)) not_so) ∙ none)
    ]

no_rows : (setup : Setup) (board : BoardState) (queue : ℕ) → ReadsAsNoted board → rows_on queue board.rows ≡ [] → NoRows setup queue (past_of board)
no_rows setup board queue reads none = λ service. none_on service queue board.rows (rows_of_version setup (past_of board) (version_of board)) (reads.standing setup) none

pub deserted : {A : Type 0} (setup : Setup) (p p' : Page BoardNote) (q : Page (QueueNote A)) (seen later : Stamp) (maker : CallerId) (queue : QueueId) (its : Look) (board : Held) (k : Kept A)
    → ClearedAs (BoardVisits p p') seen maker queue (Ok (Clear its)) → boot setup ≤ published (past_in (changes_at p.seen)) → SawLeft setup queue.0 seen q → its.stamp.0 < later.0
    → IsSoundBoard board → StartsWith board.notes p'.seen → StartsWith (notes_of k) q.seen → SawDeserted setup queue.0 (noted_in (made_in board.notes)) (noted_in k.queue.entries) later
unfolding changes_front made_in-front
deserted {A} setup p p' q seen later maker queue its board k visits booted left less sound stands begins =
    let look : List BoardNote = Looked its ∷ [] in
    let stamp : Stamp = its.stamp in
    let how = visits.how in
    let saw : p'.seen ≡ visits.new.notes = visits.saw in
    let front : changes_at p'.seen ≡ visits.new.board.entries = ap changes_at saw ∙ visits.sound.noted in
    let none : NoRows setup queue.0 (past_of visits.new.board) = no_rows setup visits.new.board queue.0 visits.reads (ap (λ (b : BoardState). rows_on queue.0 b.rows) how.2 ∙ how.1) in
    let last : top visits.new.board.first.0 visits.new.notes ≡ stamp.0 = visits.sound.latest ∙ ap (λ (s : Stamp). s.0) how.3 in
    let below = below_top visits.new.board.first.0 visits.new.notes visits.sound.climbs in
    let reach : stamp.0 ≡ max seen.0 visits.old.last.0 = ap (λ (s : Stamp). s.0) how.0.raised in
    let whole : board.notes ≡ visits.old.notes ++ Looked its ∷ stands.0 = stands.1 ∙ ap (λ (l : List BoardNote). l ++ stands.0) (saw ∙ visits.grew) ∙ append_assoc visits.old.notes look stands.0 in
    let on = changes_front board.notes p'.seen stands in
    let gone = events_front A (notes_of k) q.seen begins in
    record {
      reach = stamp;
      earlier = less;
      front = changes_at p'.seen;
      rest = on.0;
      stands = on.1;
      reached = subst (λ (n : ℕ). All (λ (x : Stamped). x.stamp.0 ≤ n) (changes_at p'.seen)) last
          (subst (λ (l : List BoardNote). All (λ (x : Stamped). x.stamp.0 ≤ top visits.new.board.first.0 visits.new.notes) (changes_at l)) (sym saw) below.1);
      later = All-map (λ (x : Stamped). stamp.0 < x.stamp.0) (λ (z : Made). z.noted) (made_in stands.0)
          (behind-look board.board.first.0 visits.old.notes stands.0 its (subst (Climbs board.board.first.0) whole sound.climbs));
      booted = let more = published-front (changes_at p'.seen) (changes_at p.seen) (changes_front p'.seen p.seen (seen_more p p' look visits)) in omega (arith, more, booted);
      none = subst (λ (l : List Stamped). NoRows setup queue.0 (past_in l)) (sym front) none;
      gone = events_at q.seen;
      left = (gone.0, ap noted_in (sym (made_in-notes A k.queue.entries)) ∙ gone.1);
      in_reach = All-weaker (λ (x : Stamped). x.stamp.0 ≤ seen.0) (λ (x : Stamped). x.stamp.0 ≤ stamp.0) (λ x low. omega (arith, low, reach)) (events_at q.seen) left.reached;
      all = seen_gone setup queue.0 seen q left;
    }
