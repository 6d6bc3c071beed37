-- A server's worker at its queue: what its pass gives, and what goes on as it visits.
use Rattle.std.proofs.Common.{◌≡◌, ◌<◌, ℕ, zero, suc, ◌+◌, true, false, List, [], map, Option, refl, sym, ◌∙◌, ap, subst, arith, eq-eqb}
use Rattle.std.specs.Prelude.{IfSome, IsSomeAnd}
use Rattle.std.specs.List.{All}
use Rattle.std.proofs.lemmas.List.Elements.{All-nil, All-cons, All-append}
use Rattle.xa_server.specs.xa_types.declared.ids.CallerId.{CallerId}
use Rattle.xa_server.specs.xa_types.declared.ids.ServerId.{ServerId}
use Rattle.xa_server.specs.xa_types.declared.setup.Setup.{Setup}
use Rattle.xa_server.specs.xa_types.declared.stamp.Stamp.{Stamp}
use Rattle.xa_server.specs.xa_types.Setup.{queue_of}
use Rattle.xa_server.specs.xa_events.declared.event.Event.{Event}
use Rattle.xa_server.specs.xa_events.declared.event.Taken.{Taken}
use Rattle.xa_server.specs.xa_events.Cases.{IsShut}
use Rattle.xa_server.specs.xa_events.Request.{is_entry_of}
use Rattle.xa_server.specs.xa_events.State.{caller_of}
use Rattle.xa_server.specs.xa_events.Words.{latest}
use Rattle.xa_server.specs.xa_stamp.declared.told.Noted.{Noted}
use Rattle.xa_server.specs.xa_lock.declared.makers.Made.{Made}
use Rattle.xa_server.specs.xa_lock.Known.{known as page_of}
use Rattle.xa_server.specs.xa_queue.declared.entry.Entry.{Entry}
use Rattle.xa_server.specs.xa_queue.Queue.{has_server, gives_up}
use Rattle.xa_server.specs.xa_held.declared.kept_queue.QueueNote.{QueueNote}
use Rattle.xa_server.specs.xa_held.declared.kept_queue.QueueNote.TheVariants.{By}
use Rattle.xa_server.specs.xa_held.Notes.{IsOther, told, maker_of}
use Rattle.xa_server.specs.xa_held.Kept.{Kept, IsRight, Brings, notes_of}
use Rattle.xa_server.specs.xa_lock.declared.pass.Page.{Page}
use Rattle.xa_server.specs.xa_lock.Pages.{entries_by}
use Rattle.xa_desk.specs.Visit.{IsAt}
use Rattle.xa_desk.proofs.Entering.{setting_here}
use Rattle.xa_server.specs.xa_held.Visits.{Visits}
use Rattle.xa_server.proofs.xa_held.Front.{note}
use Rattle.xa_server.specs.xa_worker.Work.{WorkState, seeing}
use Rattle.xa_server.specs.xa_caller.Caller.{CallerState}
use Rattle.xa_server.specs.xa_caller.declared.cargo.Filling.{Filling}
use Rattle.xa_server.specs.xa_caller.Drafts.{Cargo}
use Rattle.xa_server.specs.xa_caller.Serving.{noted_off}
use Rattle.xa_server.specs.declared.slot.ServerSlot.{ServerSlot}
use Rattle.xa_server.specs.Slot.{Tables, Stands}
use Rattle.xa_desk.specs.declared.domain.Domain.{Domain}
use Rattle.xa_desk.specs.declared.desk.Desk.{Desk}
use Rattle.xa_desk.specs.Desks.{IsDesk, page_at}
use Rattle.xa_desk.proofs.Visiting.{QueuePass, HasPass, Step, its_pass, page_is, now_has, looked_leads}
use Rattle.xa_desk.proofs.Showing.{saw_there, closed_seen, waits}
use Rattle.xa_desk.specs.Found.{SawAtQueue, SawInHandAt}
use Rattle.xa_desk.specs.Serving.{IsServing, IsTaken, HasNothing, Sees as SeesStamp}

-- a server of a queue has a number
has_number : (setup : Setup) (server queue : ℕ) → queue_of setup server ≡ queue → 0 < queue → 0 < server
has_number setup zero queue is some = absurd (omega (arith, is, some))
has_number setup (suc n) queue is some = omega arith

-- and so its worker
pub its_some : {d : Domain} {queue : ℕ} {desk : Desk} {slot : ServerSlot} → IsServing d queue slot desk → 0 < desk.caller.work.id.0
its_some {d} {queue} {desk} {slot} serving = let number = serving.stands.tables.worker.number in let some = has_number d.setup slot.server.0 queue serving.its serving.some in omega (arith, number, some)

-- how the request that the server took was sent last, as it saw that at its take or later
pub hand_seen : {d : Domain} {queue : ℕ} {desk : Desk} {slot : ServerSlot} {t : Taken} {entry : Entry Cargo} → IsDesk d desk → IsServing d queue slot desk → IsTaken d queue t desk entry
    → SawInHandAt d slot.server.0 desk (λ past. IsSomeAnd (latest (is_entry_of entry.request) past) (Brings entry.request entry.cargo.invocation))
hand_seen {d} {queue} {desk} {slot} {t} {entry} is serving taken =
    let clients = is.clients in
    let number = serving.stands.tables.worker.number in
    let took = taken.server in
    let same : t.server.0 ≡ slot.server.0 = omega (arith, clients, number, took) in
    subst (λ n. SawInHandAt d n desk (λ past. IsSomeAnd (latest (is_entry_of entry.request) past) (Brings entry.request entry.cargo.invocation))) same taken.last

-- the slot's tables stand also where its worker saw a stamp
pub tables_seeing : (slot : ServerSlot) (last : Stamp) (w : WorkState) → Tables slot w → Tables slot (seeing last w)
tables_seeing slot last w tables = let few = tables.few in record {
  worker = record { number = tables.worker.number; rule = tables.worker.rule; none = tables.worker.none; unconnected = tables.worker.unconnected };
  reads = tables.reads;
  few = omega (arith, few);
  ready = tables.ready;
}

pub stands_seeing : (slot : ServerSlot) (last : Stamp) (w : WorkState) → Stands slot w → Stands slot (seeing last w)
stands_seeing slot last w stands = record { tables = tables_seeing slot last w stands.tables; hand = stands.hand }

-- a look at the board leaves what its worker has
pub looked_serves : (d : Domain) (queue : ℕ) (slot : ServerSlot) (old new : Desk) → SeesStamp old.caller new.caller → new.queues.items ≡ old.queues.items → IsServing d queue slot old → IsServing d queue slot new
looked_serves d queue slot old new sees queues serving = record {
  stands = subst (λ (c : CallerState). Stands slot c.work) (sym sees.1) (stands_seeing slot sees.0 old.caller.work serving.stands);
  idle = ap (λ (c : CallerState). c.phase) sees.1 ∙ serving.idle;
  its = serving.its;
  some = serving.some;
  least = serving.least;
  left = λ left. subst (λ (l : List (Option QueuePass)). All (IsOther slot.server) (page_at l queue).own) (sym {A = List (Option QueuePass)} queues) (serving.left left);
  hand = serving.hand;
}

module _ {d : Domain} {queue k : ℕ} {desk : Desk} {slot : ServerSlot} {p : QueuePass} (is : IsDesk d desk) (serving : IsServing d queue slot desk) (has : HasPass d queue k desk p) where
  -- the pass hasn't given the server up
  pub its_left : (server : ServerId) → server ≡ slot.server → slot.gone ≡ false → All (IsOther server) (page_of p).own
  its_left server serves left = subst (λ s. All (IsOther s) (page_of p).own) (sym serves) (subst (λ page. All (IsOther slot.server) page.own) (page_is has) (serving.left left))

-- at the queue that was found, of which the server is one, and where its worker hasn't given it up
module _ {d : Domain} {queue k : ℕ} {desk : Desk} {slot : ServerSlot} {there : Kept Filling} {page : Page (QueueNote Filling)} {passes : List (Option QueuePass)} (at : IsAt d queue k desk there page passes) (serving : IsServing d queue slot desk)
    (maker : CallerId) (server : ServerId) (makes : maker ≡ desk.caller.work.id) (serves : server ≡ slot.server) where
  pub own_here : has_server server there.queue.servers ≡ true
  own_here = sym ((setting_here at).servers server.0) ∙ eq-eqb (queue_of d.setup server.0) queue (ap (λ s. queue_of d.setup s.0) serves ∙ serving.its)

  pub maker_here : maker.0 ≡ there.clients + server.0
  maker_here = ap (λ id. id.0) makes ∙ sym serving.stands.tables.worker.number ∙ ap (λ n. caller_of n slot.server.0) (at.is.clients ∙ sym (setting_here at).clients) ∙ ap (λ s. caller_of there.clients s.0) (sym serves)

  pub left_here : slot.gone ≡ false → All (IsOther server) (entries_by maker_of maker.0 (notes_of there))
  left_here left =
      let page_maker : maker.0 ≡ (page_of at.pass).maker = ap (λ id. id.0) makes ∙ sym (its_pass at.has at.is).maker in
      subst (All (IsOther server)) (sym (ap (λ n. entries_by maker_of n (notes_of there)) page_maker ∙ at.knows.0)) (its_left at.is serving at.has server serves left)

-- a step of a server's worker at its queue
module _ {d : Domain} {queue k : ℕ} {desk new : Desk} {p p' : QueuePass} {last : Stamp} {slot : ServerSlot} (step : Step d queue k desk new p p' last) (serving : IsServing d queue slot desk) where
  module _ {more : List Made} {How : Kept Filling → Kept Filling → Type 0} (visits : Visits (page_of p) (page_of p') more How) where
    -- it serves still, where it noted that no server but, it may be, its own is given up
    pub serving_visits : (slot' : ServerSlot) → (slot'.gone ≡ false → (slot.gone ≡ false) × All (IsOther slot.server) (map (note {A = Filling}) more)) → Stands slot' new.caller.work → new.caller.phase ≡ desk.caller.phase → slot'.server ≡ slot.server → IfSome slot'.hand (IsRight d.cells) → IsServing d queue slot' new
    serving_visits slot' others stands phase server hand = record {
      stands = stands;
      idle = phase ∙ serving.idle;
      its = ap (λ s. queue_of d.setup s.0) server ∙ serving.its;
      some = serving.some;
      least = serving.least;
      left = λ left.
          let other = others left in
          subst (λ page. All (IsOther slot'.server) page.own) (sym (page_is (now_has step)))
          (subst (λ s. All (IsOther s) (page_of p').own) (sym server) (subst (All (IsOther slot.server)) (sym {A = List (QueueNote Filling)} visits.own)
          (All-append (IsOther slot.server) (page_of p).own (map (note {A = Filling}) more) (subst (λ page. All (IsOther slot.server) page.own) (page_is step.has) (serving.left other.0)) other.1)));
      hand = hand;
    }

  -- it saw the queue's last stamp, and noted nothing
  module _ {How : Kept Filling → Kept Filling → Type 0} (visits : Visits (page_of p) (page_of p') [] How) (caller : new.caller ≡ record desk.caller { work = seeing last desk.caller.work }) where
    pub looks_serve : IsServing d queue slot new
    looks_serve = serving_visits visits slot (λ left. (left, All-nil (IsOther slot.server))) (subst (λ (c : CallerState). Stands slot c.work) (sym caller) (stands_seeing slot last desk.caller.work serving.stands)) (ap (λ (c : CallerState). c.phase) caller) refl serving.hand

    -- a queue that was found closed, with none that waits, was seen so
    pub looks_shut : visits.new.queue.waiting ≡ [] → visits.new.queue.closed ≡ true → SawAtQueue d queue new (IsShut d.setup queue)
    looks_shut none closed =
        let is = (looked_leads step visits caller).desk in
        let has = now_has step in
        saw_there is has (IsShut d.setup queue) (λ news. record {
          closed = closed_seen is has visits closed;
          empty = sym (waits is has visits news) ∙ ap (map (λ (entry : Entry Cargo). entry.request)) none;
        })

    -- one that was found open, with none that waits, was seen so
    pub looks_empty : visits.new.queue.waiting ≡ [] → visits.new.queue.closed ≡ false → SawAtQueue d queue new (HasNothing d.setup queue)
    looks_empty none up =
        let is = (looked_leads step visits caller).desk in
        let has = now_has step in
        saw_there is has (HasNothing d.setup queue) (λ news. (sym (waits is has visits news) ∙ ap (map (λ (entry : Entry Cargo). entry.request)) none, closed_seen is has visits up))

  -- it noted an event there, which gives up no server but, it may be, this one
  pub notes_serve : (maker : CallerId) (out : Noted) {How : Kept Filling → Kept Filling → Type 0} → Visits (page_of p) (page_of p') (told maker out) How → new.caller ≡ noted_off out.stamp out.event.value desk.caller → (e : Event) → out.event.value ≡ e
      → (slot' : ServerSlot) → (slot'.gone ≡ false → (slot.gone ≡ false) × (has_server slot.server (gives_up e) ≡ false)) → Stands slot' new.caller.work → slot'.server ≡ slot.server → IfSome slot'.hand (IsRight d.cells) → IsServing d queue slot' new
  notes_serve maker out visits caller e event slot' others stands server hand =
      let made : Made = record { maker = maker; noted = record { stamp = out.stamp; event = out.event.value } } in
      serving_visits visits slot'
      (λ left. let other = others left in (other.0, All-cons (IsOther slot.server) (By made) [] (subst (λ (x : Event). has_server slot.server (gives_up x) ≡ false) (sym event) other.1) (All-nil (IsOther slot.server))))
      stands (ap (λ (c : CallerState). c.phase) caller) server hand
