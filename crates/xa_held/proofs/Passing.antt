-- What a pass knows of a queue once it has left.
use Rattle.std.proofs.Common.{◌≡◌, ℕ, ◌≤◌, ◌^◌, List, [], ◌∷◌, ◌++◌, map, Result, Ok, Err, Option, Some, None, sym, ap, ◌∙◌, subst, arith}
use Rattle.std.specs.List.{All, flat_map}
use Rattle.std.proofs.lemmas.List.{map-append}
use Rattle.std.proofs.lemmas.List.Elements.{All-nil, All-cons, All-head, All-tail}
use Rattle.xa_types.specs.declared.ids.CallerId.{CallerId}
use Rattle.xa_types.specs.declared.stamp.Stamp.{Stamp}
use Rattle.xa_types.specs.declared.stamp.Worn.{Worn}
use Rattle.xa_events.specs.declared.event.Event.{Event}
use Rattle.xa_stamp.specs.declared.home.Stamped.{Stamped}
use Rattle.xa_stamp.specs.Home.{Rises, last_stamp}
use Rattle.xa_lock.specs.declared.makers.Made.{Made}
use Rattle.xa_lock.specs.declared.pass.Page.{Page}
use Rattle.xa_lock.specs.Makers.{noted_in}
use Rattle.xa_lock.specs.Pages.{GrewBy, Knows, page_seeing, page_leaving}
use Rattle.xa_stamp.specs.declared.told.Noted.{Noted}
use Rattle.xa_queue.specs.Queue.{IsSound}
use Rattle.xa_queue.specs.Reading.{ReadsAsNoted}
use Rattle.xa_held.specs.declared.kept_queue.Setting.{Setting}
use Rattle.xa_held.specs.declared.kept_queue.QueueNote.{QueueNote}
use Rattle.xa_held.specs.declared.kept_queue.QueueNote.TheVariants.{Opened, By}
use Rattle.xa_held.specs.Notes.{one, maker_of, made_of}
use Rattle.xa_held.specs.Kept.{Kept, setting_of, notes_of, Becomes}
use Rattle.xa_held.specs.Steps.{ClosedAs}
use Rattle.xa_held.specs.Visits.{Sees, Visits, Reaches}
use Rattle.xa_held.proofs.Pages.{grown_by, same_maker, own_more}
use Rattle.xa_held.proofs.Front.{note, made_in-notes}

abbrev head_of : {A : Type 0} → Setting A → List (QueueNote A) → Setting A
head_of d [] = d
head_of d (Opened s ∷ rest) = s
head_of d (By m ∷ rest) = d

by_one : {A : Type 0} (maker : ℕ) (more : List Made) → All (λ (m : Made). m.maker.0 ≡ maker) more → All (λ (z : QueueNote A). maker_of z ≡ maker) (map (note {A = A}) more)
by_one {A} maker [] all = All-nil (λ (z : QueueNote A). maker_of z ≡ maker)
by_one {A} maker (m ∷ more) all = All-cons (λ (z : QueueNote A). maker_of z ≡ maker) (By m) (map (note {A = A}) more) (All-head (λ (m : Made). m.maker.0 ≡ maker) m more all) (by_one {A = A} maker more (All-tail (λ (m : Made). m.maker.0 ≡ maker) m more all))

-- no stamp is greater than the last one
below_last : (first : Stamp) (entries : List Stamped) → Rises first entries → (first.0 ≤ last_stamp first entries) × All (λ noted. noted.stamp.0 ≤ last_stamp first entries) entries
below_last first [] rises = (omega arith, All-nil (λ (x : Stamped). x.stamp.0 ≤ first.0))
below_last first (x ∷ entries) rises =
    let rest = below_last x.stamp entries rises.1 in
    (omega (arith, rises.0, rest.0), All-cons (λ (y : Stamped). y.stamp.0 ≤ last_stamp x.stamp entries) x entries rest.0 rest.1)

abbrev none : Stamp
none = record { 0 = 0 }

from_none : (first : Stamp) (entries : List Stamped) → Rises first entries → Rises none entries
from_none first [] rises = omega arith
from_none first (x ∷ entries) rises = (omega (arith, rises.0), rises.1)

module _ {A : Type 0} where
  -- the pass p entered, was q there, and found `old`
  pub record Entered (p q : Page (QueueNote A)) (old : Kept A) : Type 0 where
    pub found : q ≡ page_seeing p (notes_of old)
    pub knows : Knows maker_of p (notes_of old)

  pub entered : (p q : Page (QueueNote A)) (old there : Kept A) → old ≡ there → q ≡ page_seeing p (notes_of there) → Knows maker_of p (notes_of there) → Entered p q old
  entered p q old there same found knows = record {
    found = found ∙ ap (λ (k : Kept A). page_seeing p (notes_of k)) (sym same);
    knows = subst (λ (k : Kept A). Knows maker_of p (notes_of k)) (sym same) knows;
  }

  -- the pass q left `new`, and was q' then
  pub record Left (q q' : Page (QueueNote A)) (new : Kept A) : Type 0 where
    pub after : q' ≡ page_leaving q (notes_of new)
    pub sound : IsSound new.queue
    pub reads : ReadsAsNoted new.queue

  pub left : (q q' : Page (QueueNote A)) (new there : Kept A) → there ≡ new → q' ≡ page_leaving q (notes_of new) → IsSound there.queue → ReadsAsNoted there.queue → Left q q' new
  left q q' new there same after sound reads = record {
    after = after;
    sound = subst (λ (k : Kept A). IsSound k.queue) same sound;
    reads = subst (λ (k : Kept A). ReadsAsNoted k.queue) same reads;
  }

  -- so it has seen no stamp that is greater than the last one
  pub reaches : (q q' : Page (QueueNote A)) (new there : Kept A) (last : Stamp) → there ≡ new → q' ≡ page_leaving q (notes_of new) → IsSound there.queue → last.0 ≡ last_stamp none (noted_in there.queue.entries) → last.0 ≤ 2 ^ 63 → Reaches q' last
  reaches q q' new there last same after sound is bound =
      let seen : noted_in (flat_map made_of q'.seen) ≡ noted_in there.queue.entries =
      ap (λ (z : Page (QueueNote A)). noted_in (flat_map made_of z.seen)) after ∙ ap (λ (k : Kept A). noted_in (flat_map made_of (notes_of k))) (sym same) ∙ ap noted_in (made_in-notes A there.queue.entries) in
      let below = below_last none (noted_in there.queue.entries) (from_none there.queue.first (noted_in there.queue.entries) sound.rises) in
      record {
        each = subst (λ (l : List Stamped). All (λ x. x.stamp.0 ≤ last.0) l) (sym seen) (subst (λ (n : ℕ). All (λ (x : Stamped). x.stamp.0 ≤ n) (noted_in there.queue.entries)) (sym is) below.1);
        bound = bound;
        is = is ∙ ap (last_stamp none) (sym {A = List Stamped} seen);
      }

module _ {A : Type 0} {p q : Page (QueueNote A)} {old : Kept A} (at : Entered p q old) where
  pub setting_is : (s : Setting A) → Sees s p → setting_of old ≡ s
  setting_is s sees = ap (head_of s) (at.knows.1.1 ∙ ap (λ (l : List (QueueNote A)). l ++ at.knows.1.0) sees.seen)

  -- it left `new`
  module _ (new : Kept A) where
    grew : (more : List Made) (How : Kept A → Kept A → Type 0) → Becomes old new more How → notes_of new ≡ notes_of old ++ map (note {A = A}) more
    grew more How b =
        ap (λ (s : Setting A). Opened s ∷ map (note {A = A}) new.queue.entries) b.setting ∙ ap (λ (l : List (QueueNote A)). Opened (setting_of old) ∷ l) (ap (map (note {A = A})) b.entries ∙ map-append (note {A = A}) old.queue.entries more)

    pub grown : (more : List Made) (How : Kept A → Kept A → Type 0) → All (λ (m : Made). m.maker.0 ≡ p.maker) more → Becomes old new more How → GrewBy maker_of q.maker q.seen (notes_of new)
    grown more How ours b = grown_by p q (notes_of old) (notes_of new) (map (note {A = A}) more) at.found (grew more How b) maker_of (by_one p.maker more ours)

    -- whose events these are
    module _ (seen : Stamp) (maker : CallerId) (ours : p.maker ≡ maker.0) where
      abbrev Its : Made → Type 0
      Its m = m.maker.0 ≡ p.maker

      mine : (stamp : Stamp) (event : Event) → All Its (one maker stamp event)
      mine stamp event = All-cons Its (record { maker = maker; noted = record { stamp = stamp; event = event } }) [] (sym ours) (All-nil Its)

      pub close_grown : (r : Result (Option Noted) Worn) → ClosedAs (Becomes old new) seen maker r → GrewBy maker_of q.maker q.seen (notes_of new)
      close_grown (Ok None) b = grown _ _ (All-nil Its) b
      close_grown (Ok (Some noted)) b = grown _ _ (mine noted.stamp noted.event.value) b
      close_grown (Err worn) b = grown _ _ (All-nil Its) b

  -- it is q' then
  module _ {new : Kept A} {q' : Page (QueueNote A)} (on : Left q q' new) where
    pub visits : (more : List Made) (How : Kept A → Kept A → Type 0) → Becomes old new more How → Visits p q' more How
    visits more How b =
        let further : List (QueueNote A) = map (note {A = A}) more in
        record {
          old = old;
          new = new;
          knew = at.knows;
          setting = setting_is;
          same = b.setting;
          grew = grew new more How b;
          maker = same_maker p q (notes_of old) (notes_of new) further at.found (grew new more How b) q' on.after;
          own = own_more p q (notes_of old) (notes_of new) further at.found (grew new more How b) q' on.after;
          saw = ap (λ (z : Page (QueueNote A)). z.seen) on.after;
          sound = on.sound;
          reads = on.reads;
          how = b.how;
        }

    module _ (seen : Stamp) (maker : CallerId) where
      pub close_visits : (r : Result (Option Noted) Worn) → ClosedAs (Becomes old new) seen maker r → ClosedAs (Visits {A = A} p q') seen maker r
      close_visits (Ok None) b = visits _ _ b
      close_visits (Ok (Some noted)) b = visits _ _ b
      close_visits (Err worn) b = visits _ _ b
