-- What a queue is at first and behind each step, and what comes out of it.
use Rattle.std.proofs.Common.{◌≡◌, ◌==◌, ℕ, true, false, List, [], ◌∷◌, ◌++◌, map, reverse, Option, Result, Ok, Err, Some, None, IfOk, IfErr, refl, sym, ap, ◌∙◌, subst}
use Rattle.std.specs.Prelude.{IfSome}
use Rattle.std.specs.List.{All, flat_map}
use Rattle.std.proofs.lemmas.List.{map-append}
use Rattle.std.proofs.lemmas.List.Elements.{All-nil, All-cons, All-append, All-same, All-filter}
use Rattle.xa_types.specs.declared.ids.CallerId.{CallerId}
use Rattle.xa_types.specs.declared.ids.Generation.{Generation}
use Rattle.xa_types.specs.declared.stamp.Stamp.{Stamp}
use Rattle.xa_types.specs.declared.stamp.Worn.{Worn}
use Rattle.xa_events.specs.declared.event.Event.{Event}
use Rattle.xa_events.specs.Queue.{is_down}
use Rattle.xa_stamp.specs.declared.home.Stamped.{Stamped}
use Rattle.xa_stamp.specs.declared.told.Noted.{Noted}
use Rattle.xa_cell.specs.declared.cells.Cells.{Cells}
use Rattle.xa_lock.specs.declared.makers.Made.{Made}
use Rattle.xa_lock.specs.Makers.{noted_in}
use Rattle.xa_lock.specs.Pages.{entries_by}
use Rattle.xa_queue.specs.declared.entry.Entry.{Entry}
use Rattle.xa_queue.specs.declared.told.GivenUp.{GivenUp}
use Rattle.xa_queue.specs.declared.told.Outgoing.{Outgoing}
use Rattle.xa_queue.specs.declared.queue.PutRefused.{PutRefused}
use Rattle.xa_queue.specs.declared.queue.Taken.{Taken}
use Rattle.xa_queue.specs.declared.queue.Taken.TheVariants.{Request, Empty, Closed}
use Rattle.xa_queue.specs.Queue.{QueueState, IsSound, gives_up, has_server, all_gone, past_of}
use Rattle.xa_queue.specs.Changes.{opened}
use Rattle.xa_held.specs.declared.cargo.Cargo.{Cargo}
use Rattle.xa_held.specs.declared.kept_queue.QueueNote.{QueueNote}
use Rattle.xa_held.specs.declared.kept_queue.QueueNote.TheVariants.{Opened, By}
use Rattle.xa_held.specs.declared.kept_queue.Setting.{Setting}
use Rattle.xa_held.specs.Kept.{Kept, IsRight, Becomes, setting_of, notes_of}
use Rattle.xa_held.specs.Notes.{IsOther, gone_in, events_in, told, maker_of}
use Rattle.xa_held.specs.Steps.{PutAs, TookAs, GaveUpAs, WentDownAs, SweptAs, ClosedAs}
use Rattle.xa_held.proofs.Front.{note, all_gone-whole, is_down-whole}
use Rattle.xa_trials_objects.specs.Held.{one, setting, HasTicket, IsFit, HandsOut, IsOf, Serves, IsDown, Keeps}

events_noted : (entries : List Made) → events_in (map (note {A = ℕ}) entries) ≡ map (λ (noted : Stamped). noted.event) (noted_in entries)
events_noted [] = refl
events_noted (m ∷ entries) = ap (λ (l : List Event). m.noted.event ∷ l) (events_noted entries)

-- the queue as it is made
pub made_serves : (cells : Cells ℕ) (n : ℕ) (queue : QueueState (Cargo ℕ)) (kept : Kept ℕ) → queue ≡ opened (record { 0 = n }) 3 (one ∷ []) (record { 0 = 0 }) → kept ≡ record { queue = queue; clients = 1; cells = cells } → Serves cells n kept
made_serves cells n queue kept made is =
    let fresh : QueueState (Cargo ℕ) → Kept ℕ = λ q. record { queue = q; clients = 1; cells = cells } in
    subst (Serves cells n) (sym (is ∙ ap fresh made)) (record { is = refl; others = All-cons (IsOther one) (Opened (setting cells n)) [] tt (All-nil (IsOther one)) })

none : All (IsOther {A = ℕ} one) []
none = All-nil (IsOther {A = ℕ} one)

-- an event that gives no server up
other : (made : Made) (event : Event) → made.noted.event ≡ event → has_server one (gives_up event) ≡ false → All (IsOther {A = ℕ} one) (note {A = ℕ} made ∷ [])
other made event its gives = All-cons (IsOther {A = ℕ} one) (By made) [] (ap (λ e. has_server one (gives_up e)) its ∙ gives) none

-- so none of a maker's entries gives it up
pub none_by : (maker : ℕ) (kept : Kept ℕ) → All (IsOther one) (notes_of kept) → All (IsOther one) (entries_by maker_of maker (notes_of kept))
none_by maker kept all = All-filter (λ (z : QueueNote ℕ). maker_of z == maker) (IsOther one) (notes_of kept) all

-- a step at that queue
module _ (cells : Cells ℕ) (n : ℕ) (old new : Kept ℕ) (of : IsOf cells n old) where
  module _ {more : List Made} {How : Kept ℕ → Kept ℕ → Type 0} (b : Becomes old new more How) where
    is : IsOf cells n new
    is = b.setting ∙ of

    grew : notes_of new ≡ notes_of old ++ map (note {A = ℕ}) more
    grew =
        ap (λ (s : Setting ℕ). Opened s ∷ map (note {A = ℕ}) new.queue.entries) b.setting
        ∙ ap (λ (l : List (QueueNote ℕ)). Opened (setting_of old) ∷ l) (ap (map (note {A = ℕ})) b.entries ∙ map-append (note {A = ℕ}) old.queue.entries more)

    keeps : All (IsOther one) (map (note {A = ℕ}) more) → Keeps cells n old new
    keeps these = record {
      is = is;
      up = λ serves. record { is = is; others = All-same (IsOther one) (notes_of new) (notes_of old ++ map (note {A = ℕ}) more) grew (All-append (IsOther one) (notes_of old) (map (note {A = ℕ}) more) serves.others these) };
      down = λ fallen. record {
        is = is;
        deserted = all_gone-whole (notes_of new) (notes_of old) (setting cells n).servers (map (note {A = ℕ}) more, grew) fallen.deserted;
        down = is_down-whole (notes_of new) (notes_of old) n (map (note {A = ℕ}) more, grew) fallen.down;
      };
    }

    events : events_in (notes_of new) ≡ map (λ (noted : Stamped). noted.event) (noted_in new.queue.entries)
    events = events_noted new.queue.entries

  has_ticket : (entry : Entry (Cargo ℕ)) → IsRight old.cells entry → HasTicket cells entry
  has_ticket entry right = right.table ∙ ap (λ (s : Setting ℕ). s.cells.table.shared.table_id) of

  module _ (seen : Stamp) (by : CallerId) where
    pub put_keeps : (event : Event) (entry : Entry (Cargo ℕ)) (answer : Result Stamp (PutRefused (Cargo ℕ))) → gives_up event ≡ [] → PutAs (Becomes old new) seen by event entry answer → Keeps cells n old new
    put_keeps event entry (Ok stamp) left b = keeps b (other _ event refl (ap (has_server one) left))
    put_keeps event entry (Err back) left b = keeps b.1 none

    pub take_keeps : (generation : Generation) (answer : Result (Taken (Cargo ℕ)) Worn) → TookAs (Becomes old new) seen by one generation answer → Keeps cells n old new
    take_keeps generation (Ok (Request out)) b = keeps b (other _ _ b.how.0.noted.event_is refl)
    take_keeps generation (Ok Empty) b = keeps b none
    take_keeps generation (Ok Closed) b = keeps b none
    take_keeps generation (Err worn) b = keeps b none

    pub close_keeps : (answer : Result (Option Noted) Worn) → ClosedAs (Becomes old new) seen by answer → Keeps cells n old new
    close_keeps (Ok None) b = keeps b none
    close_keeps (Ok (Some noted)) b = keeps b (other _ _ b.how.1.event_is refl)
    close_keeps (Err worn) b = keeps b none

    pub sweep_keeps : (answer : Result (Option (Outgoing (Cargo ℕ))) Worn) → SweptAs (Becomes old new) seen by answer → Keeps cells n old new
    sweep_keeps (Ok None) b = keeps b none
    sweep_keeps (Ok (Some out)) b = keeps b (other _ _ b.how.0.noted.event_is refl)
    sweep_keeps (Err worn) b = keeps b none

    pub down_keeps : (answer : Result (Option Noted) Worn) → WentDownAs (Becomes old new) seen by answer → Keeps cells n old new
    down_keeps (Ok None) b = keeps b none
    down_keeps (Ok (Some noted)) b = keeps b (other _ _ b.how.1.event_is refl)
    down_keeps (Err worn) b = keeps b none

    -- what comes out has a ticket of these cells
    pub take_hands_out : (generation : Generation) (answer : Result (Taken (Cargo ℕ)) Worn) → TookAs (Becomes old new) seen by one generation answer → IfOk answer (HandsOut cells)
    take_hands_out generation (Ok (Request out)) b = has_ticket out.entry b.how.1
    take_hands_out generation (Ok Empty) b = tt
    take_hands_out generation (Ok Closed) b = tt
    take_hands_out generation (Err worn) b = tt

    pub sweep_hands_out : (answer : Result (Option (Outgoing (Cargo ℕ))) Worn) → SweptAs (Becomes old new) seen by answer → IfOk answer (λ swept. IfSome swept (λ (out : Outgoing (Cargo ℕ)). HasTicket cells out.entry))
    sweep_hands_out (Ok None) b = tt
    sweep_hands_out (Ok (Some out)) b = has_ticket out.entry b.how.1
    sweep_hands_out (Err worn) b = tt

    -- it is the same queue when its server gave itself up, and when it went down
    pub gone_is : (answer : Result GivenUp Worn) → GaveUpAs (Becomes old new) seen by one answer → IsOf cells n new
    gone_is (Ok done) b = is b
    gone_is (Err worn) b = is b

    pub down_is : (answer : Result (Option Noted) Worn) → WentDownAs (Becomes old new) seen by answer → IsOf cells n new
    down_is (Ok None) b = is b
    down_is (Ok (Some noted)) b = is b
    down_is (Err worn) b = is b

    -- its only server gave itself up
    pub all_left : (answer : Result GivenUp Worn) (done : GivenUp) → answer ≡ Ok done → done.last ≡ true → IsSound new.queue → GaveUpAs (Becomes old new) seen by one answer → all_gone (gone_in (notes_of new)) (setting cells n).servers ≡ true
    all_left answer done ok last sound gone =
        let b : GaveUpAs (Becomes old new) seen by one (Ok done) = subst (GaveUpAs (Becomes old new) seen by one) ok gone in
        ap (λ l. all_gone (flat_map gives_up l) (setting cells n).servers) (events b) ∙ ap (λ gone. all_gone gone (setting cells n).servers) (sym sound.given_up)
        ∙ ap (λ (s : Setting ℕ). all_gone new.queue.gone s.servers) (sym (is b)) ∙ sym b.how.1 ∙ last

    -- it went down, where all had left
    pub went_down : (answer : Result (Option Noted) Worn) (noted : Noted) → answer ≡ Ok (Some noted) → all_gone (gone_in (notes_of old)) (setting cells n).servers ≡ true → IsSound new.queue → WentDownAs (Becomes old new) seen by answer → IsDown cells n new
    went_down answer noted ok deserted sound down =
        let b : WentDownAs (Becomes old new) seen by (Ok (Some noted)) = subst (WentDownAs (Becomes old new) seen by) ok down in record {
          is = is b;
          deserted = all_gone-whole (notes_of new) (notes_of old) (setting cells n).servers (map (note {A = ℕ}) (told by noted), grew b) deserted;
          down = ap (λ l. is_down n (reverse l)) (events b) ∙ ap (λ (s : Setting ℕ). is_down s.id.0 (past_of new.queue)) (sym (is b)) ∙ sym sound.fallen ∙ ap (λ q. q.down) b.how.1.notes.made;
        }

-- what is refused comes back as it was
pub fits_back : (Change : List Made → (Kept ℕ → Kept ℕ → Type 0) → Type 0) (cells : Cells ℕ) (seen : Stamp) (by : CallerId) (event : Event) (entry : Entry (Cargo ℕ)) (answer : Result Stamp (PutRefused (Cargo ℕ))) → PutAs Change seen by event entry answer → IsFit cells entry
    → IfErr answer (λ (back : PutRefused (Cargo ℕ)). IsFit cells back.entry)
fits_back Change cells seen by event entry (Ok stamp) v fit = tt
fits_back Change cells seen by event entry (Err back) v fit = subst (IsFit cells) (sym v.0) fit
