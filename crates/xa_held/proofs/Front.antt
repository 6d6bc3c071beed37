-- What was seen of a queue's events holds of all of them.
use Rattle.std.proofs.Common.{◌≡◌, ℕ, ◌==◌, Bool, true, false, cond, List, [], ◌∷◌, ◌++◌, map, reverse, refl, sym, ap, ◌∙◌}
use Rattle.std.specs.List.{flat_map, list_any}
use Rattle.std.specs.Cmp.Derive.{both_true}
use Rattle.std.proofs.lemmas.Bool.{and_parts, or_left}
use Rattle.std.proofs.lemmas.Grind.{flat_map-append}
use Rattle.std.proofs.lemmas.List.Folds.{list_any-append}
use Rattle.xa_types.specs.declared.ids.ServerId.{ServerId}
use Rattle.xa_events.specs.declared.event.Event.{Event}
use Rattle.xa_events.specs.Queue.{is_down, is_down_of}
use Rattle.xa_stamp.specs.declared.home.Stamped.{Stamped}
use Rattle.xa_lock.specs.declared.makers.Made.{Made}
use Rattle.xa_lock.specs.declared.pass.Page.{Page}
use Rattle.xa_lock.specs.Makers.{noted_in, maker_of as made_maker}
use Rattle.xa_lock.specs.Pages.{StartsWith, Knows, entries_by}
use Rattle.xa_queue.specs.Queue.{IsSound, gives_up, has_server, all_gone, none_left}
use Rattle.xa_queue.proofs.Waiting.{list_any-reverse}
use Rattle.xa_held.specs.declared.kept_queue.QueueNote.{QueueNote}
use Rattle.xa_held.specs.declared.kept_queue.QueueNote.TheVariants.{Opened, By}
use Rattle.xa_held.specs.declared.kept_queue.Setting.{Setting}
use Rattle.xa_held.specs.Notes.{event_in, events_in, gone_in, is_down_in, maker_of, made_of, made_page}
use Rattle.xa_held.specs.Kept.{Kept, setting_of, notes_of}

abbrev pub note : {A : Type 0} → Made → QueueNote A
note {A} = λ m. By m

-- servers that are all given up are so once more is
gone_more : (gone more servers : List ServerId) → all_gone gone servers ≡ true → all_gone (gone ++ more) servers ≡ true
gone_more gone more [] all = refl
gone_more gone more (s ∷ servers) all =
    let parts = and_parts (has_server s gone) (all_gone gone servers) all in
    both_true (list_any-append (λ (g : ServerId). s.0 == g.0) gone more ∙ or_left (has_server s gone) (has_server s more) parts.0) (gone_more gone more servers parts.1)

pub events_in-notes : (A : Type 0) (entries : List Made) → events_in (map (note {A = A}) entries) ≡ map (λ (noted : Stamped). noted.event) (noted_in entries)
events_in-notes A [] = refl
events_in-notes A (m ∷ entries) = ap (λ (l : List Event). m.noted.event ∷ l) (events_in-notes A entries)

module _ {A : Type 0} where
  events_in-append : (a b : List (QueueNote A)) → events_in (a ++ b) ≡ events_in a ++ events_in b
  events_in-append a b = flat_map-append (event_in {A = A}) a b

  pub all_gone-whole : (whole front : List (QueueNote A)) (servers : List ServerId) → StartsWith whole front → all_gone (gone_in front) servers ≡ true → all_gone (gone_in whole) servers ≡ true
  all_gone-whole whole front servers begins all =
      let parts : gone_in whole ≡ gone_in front ++ gone_in begins.0 = ap gone_in begins.1 ∙ ap (flat_map gives_up) (events_in-append front begins.0) ∙ flat_map-append gives_up (events_in front) (events_in begins.0) in
      ap (λ l. all_gone l servers) parts ∙ gone_more (gone_in front) (gone_in begins.0) servers all

  pub is_down-whole : (whole front : List (QueueNote A)) (queue : ℕ) → StartsWith whole front → is_down_in queue front ≡ true → is_down_in queue whole ≡ true
  unfolding is_down
  is_down-whole whole front queue begins down =
      let p : Event → Bool = is_down_of queue in
      let here : list_any p (events_in front) ≡ true = sym (list_any-reverse p (events_in front)) ∙ down in
      list_any-reverse p (events_in whole) ∙ ap (list_any p) (ap events_in begins.1 ∙ events_in-append front begins.0) ∙ list_any-append p (events_in front) (events_in begins.0) ∙ or_left (list_any p (events_in front)) (list_any p (events_in begins.0)) here

module _ {A : Type 0} where
  -- so the queue reads
  pub is_deserted : (k : Kept A) → IsSound k.queue → all_gone (gone_in (notes_of k)) k.queue.servers ≡ true → none_left k.queue ≡ true
  is_deserted k sound all = ap (λ l. all_gone l k.queue.servers) (sound.given_up ∙ sym (ap (flat_map gives_up) (events_in-notes A k.queue.entries))) ∙ all

  pub is_fallen : (k : Kept A) → IsSound k.queue → is_down_in k.queue.id.0 (notes_of k) ≡ true → k.queue.down ≡ true
  is_fallen k sound down = sound.fallen ∙ ap (λ l. is_down k.queue.id.0 (reverse l)) (sym (events_in-notes A k.queue.entries)) ∙ down

-- ---- the events with their makers

pub made_in-notes : (A : Type 0) (entries : List Made) → flat_map (made_of {A = A}) (map (note {A = A}) entries) ≡ entries
made_in-notes A [] = refl
made_in-notes A (m ∷ entries) = ap (λ (l : List Made). m ∷ l) (made_in-notes A entries)

-- those of one maker are those of its entries
made_in-by : (A : Type 0) (maker : ℕ) (entries : List Made) → flat_map (made_of {A = A}) (entries_by maker_of maker (map (note {A = A}) entries)) ≡ entries_by made_maker maker entries
made_in-by A maker [] = refl
made_in-by A maker (m ∷ entries) = cond-made (m.maker.0 == maker) m (entries_by maker_of maker (map (note {A = A}) entries)) ∙ ap (λ (l : List Made). cond (m.maker.0 == maker) (m ∷ l) l) (made_in-by A maker entries)
  where
    cond-made : (b : Bool) (m : Made) (notes : List (QueueNote A)) → flat_map (made_of {A = A}) (cond b (note {A = A} m ∷ notes) notes) ≡ cond b (m ∷ flat_map (made_of {A = A}) notes) (flat_map (made_of {A = A}) notes)
    cond-made true m notes = refl
    cond-made false m notes = refl

cond-opened : {A : Type 0} (b : Bool) (s : Setting A) (notes : List (QueueNote A)) → flat_map (made_of {A = A}) (cond b (Opened s ∷ notes) notes) ≡ flat_map (made_of {A = A}) notes
cond-opened true s notes = refl
cond-opened false s notes = refl

pub knows_events : {A : Type 0} (p : Page (QueueNote A)) (k : Kept A) → Knows maker_of p (notes_of k) → Knows made_maker (made_page p) k.queue.entries
knows_events {A} p k knows =
    let made : List (QueueNote A) → List Made = λ notes. flat_map (made_of {A = A}) notes in
    let own : entries_by made_maker p.maker k.queue.entries ≡ made p.own =
    sym (made_in-by A p.maker k.queue.entries) ∙ sym (cond-opened (0 == p.maker) (setting_of k) (entries_by maker_of p.maker (map (note {A = A}) k.queue.entries))) ∙ ap made knows.0 in
    let seen : k.queue.entries ≡ made p.seen ++ made knows.1.0 = sym (made_in-notes A k.queue.entries) ∙ ap made knows.1.1 ∙ flat_map-append (made_of {A = A}) p.seen knows.1.0 in
    (own, (made knows.1.0, seen))
