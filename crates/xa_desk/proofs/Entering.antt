-- A worker goes to a queue, and leaves it.
use Rattle.std.proofs.Common.{◌≡◌, ℕ, ◌+◌, List, [], Option, Some, None, Result, Ok, Err, refl, sym, ◌∙◌, ap, subst}
use Rattle.std.specs.List.{All}
use Rattle.std.proofs.lemmas.List.Elements.{All-nil, All-cons}
use Rattle.xa_server.specs.xa_types.declared.ids.CallerId.{CallerId}
use Rattle.xa_server.specs.xa_types.declared.ids.ServerId.{ServerId}
use Rattle.xa_server.specs.xa_types.declared.ids.Generation.{Generation}
use Rattle.xa_server.specs.xa_types.declared.stamp.Stamp.{Stamp}
use Rattle.xa_server.specs.xa_types.declared.stamp.Worn.{Worn}
use Rattle.xa_server.specs.xa_queue.declared.entry.Entry.{Entry}
use Rattle.xa_server.specs.xa_queue.declared.queue.PutRefused.{PutRefused}
use Rattle.xa_server.specs.xa_queue.declared.queue.Taken.{Taken}
use Rattle.xa_server.specs.xa_queue.declared.queue.Taken.TheVariants.{Request, Empty, Closed}
use Rattle.xa_server.specs.xa_held.Steps.{PutAs, TookAs, GaveUpAs, WentDownAs, SweptAs}
use Rattle.xa_server.specs.xa_queue.declared.told.GivenUp.{GivenUp}
use Rattle.xa_server.specs.xa_queue.declared.told.Outgoing.{Outgoing}
use Rattle.xa_server.specs.xa_stamp.declared.told.Noted.{Noted}
use Rattle.xa_server.specs.xa_caller.Drafts.{Cargo}
use Rattle.xa_server.specs.xa_events.declared.event.Event.{Event}
use Rattle.xa_server.specs.xa_lock.declared.makers.Made.{Made}
use Rattle.xa_server.specs.xa_lock.declared.pass.Page.{Page}
use Rattle.xa_server.specs.xa_lock.Known.{known as page_of}
use Rattle.xa_server.specs.xa_lock.Pages.{GrewBy, page_leaving}
use Rattle.xa_server.specs.xa_queue.Queue.{IsSound}
use Rattle.xa_server.specs.xa_queue.Reading.{ReadsAsNoted}
use Rattle.xa_server.specs.xa_held.declared.kept_queue.QueueNote.{QueueNote}
use Rattle.xa_server.specs.xa_held.declared.kept_queue.Setting.{Setting}
use Rattle.xa_server.specs.xa_held.Kept.{Kept, setting_of, notes_of, Becomes}
use Rattle.xa_server.specs.xa_held.Notes.{maker_of, one, told}
use Rattle.xa_server.specs.xa_held.Visits.{Sees, Visits}
use Rattle.xa_server.proofs.xa_held.Passing.{Entered, setting_is, grown as queue_grown, visits as queue_visits}
use Rattle.xa_server.specs.xa_caller.declared.cargo.Filling.{Filling}
use Rattle.xa_desk.specs.declared.domain.Domain.{Domain}
use Rattle.xa_desk.specs.declared.desk.Desk.{Desk}
use Rattle.xa_desk.specs.Desks.{IsSettingOf}
use Rattle.xa_desk.specs.Visit.{QueuePass, IsAt, Adds, Leaves}
use Rattle.xa_desk.proofs.Visiting.{Step, its_pass}

module _ {d : Domain} {queue k : ℕ} {old : Desk} {there : Kept Filling} {page : Page (QueueNote Filling)} {passes : List (Option QueuePass)} (at : IsAt d queue k old there page passes) where
  here : Entered (page_of at.pass) page there
  here = record { found = at.sees; knows = at.knows }

  pub same_here : (s : Setting Filling) → Sees s (page_of at.pass) → setting_of there ≡ s
  same_here = setting_is here

  -- it is the queue with that number
  pub setting_here : IsSettingOf d queue (setting_of there)
  setting_here =
      let pass = its_pass at.has at.is in
      subst (λ n. IsSettingOf d n (setting_of there)) (sym at.has.at) (subst (IsSettingOf d (k + 1)) (sym (same_here pass.its pass.sees)) pass.is)

  module _ (now : Kept Filling) (more : List Made) (adds : Adds old there now more) where
    pub grown : GrewBy maker_of page.maker page.seen (notes_of now)
    grown = queue_grown here now more (λ o n. (o ≡ there) × (n ≡ now)) (subst (λ n. All (λ (m : Made). m.maker.0 ≡ n) more) (sym (its_pass at.has at.is).maker) adds.ours) adds.becomes

    pub visits : (back : Page (QueueNote Filling)) → back ≡ page_leaving page (notes_of now) → IsSound now.queue → ReadsAsNoted now.queue → Visits (page_of at.pass) back more (λ o n. (o ≡ there) × (n ≡ now))
    visits back left sound reads = queue_visits here (record { after = left; sound = sound; reads = reads }) more (λ o n. (o ≡ there) × (n ≡ now)) adds.becomes

-- what is found by the lent value is what was found
pub lent : {d : Domain} {n queue k : ℕ} {old : Desk} {held there : Kept Filling} {page : Page (QueueNote Filling)} {passes : List (Option QueuePass)} → IsAt d n k old held page passes → n ≡ queue → there ≡ held → IsAt d queue k old there page passes
lent {d} {n} {queue} {k} {old} {held} {there} {page} {passes} at number same = subst (λ m. IsAt d m k old there page passes) number (subst (λ q. IsAt d n k old q page passes) (sym same) at)

-- these are events of the desk's worker: none, or one
abbrev pub AreOurs : Desk → List Made → Type 0
AreOurs old more = All (λ (m : Made). m.maker.0 ≡ old.caller.work.id.0) more

pub none_ours : (old : Desk) → AreOurs old []
none_ours old = All-nil (λ (m : Made). m.maker.0 ≡ old.caller.work.id.0)

pub one_ours : (old : Desk) (maker : CallerId) (stamp : Stamp) (event : Event) → maker ≡ old.caller.work.id → AreOurs old (one maker stamp event)
one_ours old maker stamp event is = let Its : Made → Type 0 = λ m. m.maker.0 ≡ old.caller.work.id.0 in All-cons Its (record { maker = maker; noted = record { stamp = stamp; event = event } }) [] (ap (λ (id : CallerId). id.0) is) (All-nil Its)

-- what a call of the queue answers says what was added
adds : {old : Desk} {there now : Kept Filling} {more : List Made} {How : Kept Filling → Kept Filling → Type 0} → AreOurs old more → Becomes there now more How → Adds old there now more
adds ours b = record { becomes = record { setting = b.setting; entries = b.entries; how = (refl, refl) }; ours = ours }

module _ {there now : Kept Filling} (old : Desk) (seen : Stamp) (maker : CallerId) (is : maker ≡ old.caller.work.id) where
  by_it : (noted : Noted) {How : Kept Filling → Kept Filling → Type 0} → Becomes there now (told maker noted) How → (more : List Made) × Adds old there now more
  by_it noted b = (told maker noted, adds (one_ours old maker noted.stamp noted.event.value is) b)

  by_none : {How : Kept Filling → Kept Filling → Type 0} → Becomes there now [] How → (more : List Made) × Adds old there now more
  by_none b = ([], adds (none_ours old) b)

  pub put_adds : (event : Event) (entry : Entry Cargo) (r : Result Stamp (PutRefused Cargo)) → PutAs (Becomes there now) seen maker event entry r → (more : List Made) × Adds old there now more
  put_adds event entry (Ok stamp) b = (one maker stamp event, adds (one_ours old maker stamp event is) b)
  put_adds event entry (Err back) b = by_none b.1

  pub take_adds : (server : ServerId) (generation : Generation) (r : Result (Taken Cargo) Worn) → TookAs (Becomes there now) seen maker server generation r → (more : List Made) × Adds old there now more
  take_adds server generation (Ok (Request out)) b = by_it out.noted b
  take_adds server generation (Ok Empty) b = by_none b
  take_adds server generation (Ok Closed) b = by_none b
  take_adds server generation (Err worn) b = by_none b

  pub gone_adds : (server : ServerId) (r : Result GivenUp Worn) → GaveUpAs (Becomes there now) seen maker server r → (more : List Made) × Adds old there now more
  gone_adds server (Ok done) b = by_it done.noted b
  gone_adds server (Err worn) b = by_none b

  pub down_adds : (r : Result (Option Noted) Worn) → WentDownAs (Becomes there now) seen maker r → (more : List Made) × Adds old there now more
  down_adds (Ok None) b = by_none b
  down_adds (Ok (Some noted)) b = by_it noted b
  down_adds (Err worn) b = by_none b

  pub sweep_adds : (r : Result (Option (Outgoing Cargo)) Worn) → SweptAs (Becomes there now) seen maker r → (more : List Made) × Adds old there now more
  sweep_adds (Ok None) b = by_none b
  sweep_adds (Ok (Some out)) b = by_it out.noted b
  sweep_adds (Err worn) b = by_none b

module _ {d : Domain} {queue k : ℕ} {old : Desk} {there now : Kept Filling} {put : List (Option QueuePass)} {last : Stamp} (left : Leaves d queue k old there now put last) where
  -- it is a step of the desk, whatever becomes of its caller behind it
  pub step_by : (new : Desk) → new.queues.items ≡ put → new.board ≡ old.board → new.clock ≡ old.clock → Step d queue k old new left.pass left.back last
  step_by new queues board clock = record { is = left.is; has = left.has; passes = queues ∙ left.passes; board = board; clock = clock; lock = left.lock; reaches = left.reaches }

  -- at which the queue changed as the call there says
  pub visits_by : {more : List Made} {How : Kept Filling → Kept Filling → Type 0} → Adds old there now more → How there now → Visits (page_of left.pass) (page_of left.back) more How
  visits_by {more} {How} adds how = let v = left.visits more adds in record {
    old = v.old;
    new = v.new;
    knew = v.knew;
    setting = v.setting;
    same = v.same;
    grew = v.grew;
    maker = v.maker;
    own = v.own;
    saw = v.saw;
    sound = v.sound;
    reads = v.reads;
    how = subst (λ o. How o v.new) (sym v.how.0) (subst (How there) (sym v.how.1) how);
  }

-- a visit behind it: it was a step of the desk, and the queue changed so
pub record Visited (d : Domain) (queue : ℕ) (old new : Desk) (last : Stamp) (more : List Made) (How : Kept Filling → Kept Filling → Type 0) : Type 0 where
  pub k : ℕ
  pub pass : QueuePass
  pub back : QueuePass
  pub step : Step d queue k old new pass back last
  pub came : Visits (page_of pass) (page_of back) more How

module _ {d : Domain} {n queue k : ℕ} {old : Desk} {held there now : Kept Filling} {page : Page (QueueNote Filling)} {passes : List (Option QueuePass)} (at : IsAt d n k old held page passes) (number : n ≡ queue) (same : there ≡ held) where
  pub may_leave : (more : List Made) × Adds old there now more → (queue : ℕ) × (old : Desk) × (there : Kept Filling) × (more : List Made) × IsAt d queue k old there page passes × Adds old there now more
  may_leave did = (queue, old, there, did.0, lent at number same, did.1)

  pub visited : {put : List (Option QueuePass)} {last : Stamp} → ((queue : ℕ) (old : Desk) (there : Kept Filling) → IsAt d queue k old there page passes → Leaves d queue k old there now put last)
      → (new : Desk) → new.queues.items ≡ put → new.board ≡ old.board → new.clock ≡ old.clock → {more : List Made} {How : Kept Filling → Kept Filling → Type 0} → AreOurs old more → Becomes there now more How → Visited d queue old new last more How
  visited leaves new queues board clock {more} ours b =
      let left = leaves queue old there (lent at number same) in
      record { k = k; pass = left.pass; back = left.back; step = step_by left new queues board clock; came = visits_by left (adds ours b) b.how }
