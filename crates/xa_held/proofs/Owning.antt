-- A page's own entries are what its maker noted.
use Rattle.std.proofs.Common.{◌≡◌, ℕ, Bool, true, cond, List, [], ◌∷◌, ◌++◌, map, refl, sym, ap, ◌∙◌}
use Rattle.std.specs.List.{All, filter, flat_map}
use Rattle.std.proofs.lemmas.Grind.{flat_map-append}
use Rattle.std.proofs.lemmas.List.{map-append}
use Rattle.std.proofs.lemmas.List.Elements.{All-head, All-tail, filter-append}
use Rattle.xa_types.specs.declared.setup.Setup.{Setup}
use Rattle.xa_events.specs.Homes.{Home}
use Rattle.xa_stamp.specs.declared.home.Stamped.{Stamped}
use Rattle.xa_lock.specs.declared.makers.Made.{Made}
use Rattle.xa_lock.specs.declared.pass.Page.{Page}
use Rattle.xa_lock.specs.Makers.{noted_in}
use Rattle.xa_worker.specs.Crew.{stands_at}
use Rattle.xa_held.specs.declared.kept_board.BoardNote.{BoardNote}
use Rattle.xa_held.specs.declared.kept_queue.QueueNote.{QueueNote}
use Rattle.xa_held.specs.Board.{made_in, made_of as changes_of}
use Rattle.xa_held.specs.Notes.{made_of, made_page}
use Rattle.xa_held.specs.Joins.{changes_page, changes_at}
use Rattle.xa_held.proofs.Front.{note, made_in-notes}

filter-all : {X : Type 0} (p : X → Bool) (xs : List X) → All (λ x. p x ≡ true) xs → filter p xs ≡ xs
filter-all p [] all = refl
filter-all p (x ∷ xs) all =
    ap (λ b. cond b (x ∷ filter p xs) (filter p xs)) (All-head (λ x. p x ≡ true) x xs all) ∙ ap (λ l. x ∷ l) (filter-all p xs (All-tail (λ x. p x ≡ true) x xs all))

module _ (setup : Setup) (clients : ℕ) (home : Home) (noted : List Stamped) where
  more_own : (own more : List Made) → noted_in own ≡ filter (stands_at setup clients home) noted → All (λ x. stands_at setup clients home x ≡ true) (noted_in more) → noted_in (own ++ more) ≡ filter (stands_at setup clients home) (noted ++ noted_in more)
  more_own own more same stand =
      let test : Stamped → Bool = stands_at setup clients home in
      map-append (λ (z : Made). z.noted) own more ∙ ap (λ l. l ++ noted_in more) same ∙ ap (λ l. filter test noted ++ l) (sym (filter-all test (noted_in more) stand)) ∙ sym (filter-append test noted (noted_in more))

  pub queue_own : {A : Type 0} (p p' : Page (QueueNote A)) (more : List Made) → p'.own ≡ p.own ++ map (note {A = A}) more → noted_in (made_page p).own ≡ filter (stands_at setup clients home) noted
      → All (λ x. stands_at setup clients home x ≡ true) (noted_in more) → noted_in (made_page p').own ≡ filter (stands_at setup clients home) (noted ++ noted_in more)
  queue_own {A} p p' more grew same stand =
      let made : List (QueueNote A) → List Made = λ notes. flat_map (made_of {A = A}) notes in
      ap (λ l. noted_in (made l)) grew ∙ ap noted_in (flat_map-append (made_of {A = A}) p.own (map (note {A = A}) more) ∙ ap (λ l. made p.own ++ l) (made_in-notes A more)) ∙ more_own (made p.own) more same stand

  pub board_own : (p p' : Page BoardNote) (more : List BoardNote) → p'.own ≡ p.own ++ more → noted_in (changes_page p).own ≡ filter (stands_at setup clients home) noted
      → All (λ x. stands_at setup clients home x ≡ true) (changes_at more) → noted_in (changes_page p').own ≡ filter (stands_at setup clients home) (noted ++ changes_at more)
  board_own p p' more grew same stand = ap (λ l. noted_in (made_in l)) grew ∙ ap noted_in (flat_map-append changes_of p.own more) ∙ more_own (made_in p.own) (made_in more) same stand
