-- What a pass that left a queue has seen there.
use Rattle.std.proofs.Common.{◌≡◌, List, [], ◌++◌, map, reverse, sym, ◌∙◌, ap, subst, append-nil, append_assoc}
use Rattle.std.specs.List.{Contains, flat_map}
use Rattle.std.proofs.lemmas.Grind.{flat_map-append}
use Rattle.std.proofs.lemmas.List.{map-append}
use Rattle.std.proofs.lemmas.List.Elements.{Contains-append_left}
use Rattle.xa_events.specs.Queue.{is_down}
use Rattle.xa_lock.specs.declared.makers.Made.{Made}
use Rattle.xa_lock.specs.declared.pass.Page.{Page}
use Rattle.xa_lock.specs.Makers.{noted_in}
use Rattle.xa_lock.specs.Pages.{Knows, StartsWith, entries_by}
use Rattle.xa_queue.specs.Queue.{gives_up}
use Rattle.xa_held.specs.declared.kept_queue.QueueNote.{QueueNote}
use Rattle.xa_held.specs.Joins.{events_at}
use Rattle.xa_held.specs.Kept.{Kept, setting_of, notes_of}
use Rattle.xa_held.specs.Notes.{made_of, maker_of, gone_in, is_down_in}
use Rattle.xa_held.specs.Visits.{Sees, Visits}
use Rattle.xa_held.proofs.Front.{note, events_in-notes, made_in-notes}

module _ {A : Type 0} where
  events_append : (front more : List (QueueNote A)) → events_at (front ++ more) ≡ events_at front ++ events_at more
  events_append front more = ap noted_in (flat_map-append (made_of {A = A}) front more) ∙ map-append (λ (z : Made). z.noted) (flat_map (made_of {A = A}) front) (flat_map (made_of {A = A}) more)

  pub events_kept : (kept : Kept A) → events_at (notes_of kept) ≡ noted_in kept.queue.entries
  events_kept kept = ap noted_in (made_in-notes A kept.queue.entries)

  module _ {p p' : Page (QueueNote A)} {more : List Made} {How : Kept A → Kept A → Type 0} (visits : Visits p p' more How) where
    pub sees_more : StartsWith p'.seen p.seen
    sees_more = (visits.knew.1.0 ++ map (note {A = A}) more, visits.saw ∙ visits.grew ∙ ap (λ l. l ++ map (note {A = A}) more) visits.knew.1.1 ∙ append_assoc p.seen visits.knew.1.0 (map (note {A = A}) more))

    pub events_more : events_at p'.seen ≡ noted_in visits.old.queue.entries ++ noted_in more
    events_more =
        ap events_at (visits.saw ∙ visits.grew) ∙ events_append (notes_of visits.old) (map (note {A = A}) more)
        ∙ ap (λ l. l ++ events_at (map (note {A = A}) more)) (events_kept visits.old) ∙ ap (λ l. noted_in visits.old.queue.entries ++ noted_in l) (made_in-notes A more)

    pub sees_left : Sees (setting_of visits.new) p'
    sees_left = record { rest = map (note {A = A}) visits.new.queue.entries; seen = visits.saw }

    -- the servers that were given up, and whether it was left down
    pub gone_seen : gone_in p'.seen ≡ visits.new.queue.gone
    gone_seen = ap gone_in visits.saw ∙ ap (flat_map gives_up) (events_in-notes A visits.new.queue.entries) ∙ sym visits.sound.given_up

    pub down_left : is_down_in visits.new.queue.id.0 p'.seen ≡ visits.new.queue.down
    down_left = ap (is_down_in visits.new.queue.id.0) visits.saw ∙ ap (λ l. is_down visits.new.queue.id.0 (reverse l)) (events_in-notes A visits.new.queue.entries) ∙ sym visits.sound.fallen

    -- what stood there was seen
    pub stood_seen : (made : Made) → Contains visits.old.queue.entries made → Contains (flat_map made_of p'.seen) made
    stood_seen made here =
        subst (λ (l : List (QueueNote A)). Contains (flat_map made_of l) made) (sym {A = List (QueueNote A)} (visits.saw ∙ visits.grew))
        (subst (λ (l : List Made). Contains l made) (sym (flat_map-append (made_of {A = A}) (notes_of visits.old) (map (note {A = A}) more)))
        (Contains-append_left (flat_map made_of (notes_of visits.old)) (flat_map made_of (map (note {A = A}) more)) made (subst (λ (l : List Made). Contains l made) (sym (made_in-notes A visits.old.queue.entries)) here)))

  -- where nothing changed it knows all of it
  pub knows_still : {p p' : Page (QueueNote A)} {How : Kept A → Kept A → Type 0} (visits : Visits p p' [] How) → visits.new ≡ visits.old → Knows maker_of p' (notes_of visits.new)
  knows_still {p} {p'} visits same =
      (ap (λ (k : Kept A). entries_by maker_of p'.maker (notes_of k)) same ∙ ap (λ n. entries_by maker_of n (notes_of visits.old)) visits.maker ∙ visits.knew.0 ∙ sym (visits.own ∙ append-nil p.own), ([], sym visits.saw ∙ sym (append-nil p'.seen)))
