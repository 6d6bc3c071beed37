-- A request that a server took.
use Rattle.std.proofs.Common.{◌≡◌, ◌<◌, ℕ, ◌+◌, ◌==◌, Bool, cond, List, [], ◌∷◌, ◌++◌, Some, Ok, refl, sym, ◌∙◌, ap, subst, append-nil, arith, eq-eqb}
use Rattle.std.specs.Prelude.{IfSome, IsSomeAnd}
use Rattle.std.proofs.lemmas.List.{append_assoc}
use Rattle.std.proofs.lemmas.List.Elements.{filter-append}
use Rattle.xa_server.specs.xa_types.declared.ids.CallerId.{CallerId}
use Rattle.xa_server.specs.xa_types.declared.ids.Generation.{Generation}
use Rattle.xa_server.specs.xa_types.declared.ids.ServerId.{ServerId}
use Rattle.xa_server.specs.xa_types.declared.stamp.Stamp.{Stamp}
use Rattle.xa_server.specs.xa_types.Setup.{queue_of, capacity_of}
use Rattle.xa_server.specs.xa_events.declared.event.Doing.TheVariants.{Busy}
use Rattle.xa_server.specs.xa_events.declared.event.Event.{Event}
use Rattle.xa_server.specs.xa_events.declared.event.Event.TheVariants.{Take}
use Rattle.xa_server.specs.xa_events.declared.event.Taken.{Taken}
use Rattle.xa_server.specs.xa_events.Homes.{is_take_by}
use Rattle.xa_server.specs.xa_events.Homes.Home.{QueueHome}
use Rattle.xa_server.specs.xa_events.Request.{is_entry_of}
use Rattle.xa_server.specs.xa_events.State.{caller_of}
use Rattle.xa_server.specs.xa_events.Words.{count, latest}
use Rattle.xa_server.specs.xa_stamp.declared.home.Stamped.{Stamped}
use Rattle.xa_server.specs.xa_lock.declared.makers.Made.{Made}
use Rattle.xa_server.specs.xa_lock.declared.pass.Page.{Page}
use Rattle.xa_server.specs.xa_lock.Known.{known as page_of}
use Rattle.xa_server.specs.xa_lock.Makers.{noted_in}
use Rattle.xa_server.specs.xa_lock.Pages.{Knows, entries_by}
use Rattle.xa_server.specs.xa_worker.Seen.{past_in, SawFront, IfNew}
use Rattle.xa_server.proofs.xa_worker.Lists.{past_in-append}
use Rattle.xa_server.specs.xa_queue.declared.told.Outgoing.{Outgoing}
use Rattle.xa_server.specs.xa_queue.declared.queue.Taken.TheVariants as takes
use Rattle.xa_server.specs.xa_queue.Changes.{taken, next_stamp}
use Rattle.xa_server.specs.xa_queue.Reading.{AllNew}
use Rattle.xa_server.specs.xa_held.declared.kept_queue.QueueNote.{QueueNote}
use Rattle.xa_server.specs.xa_held.declared.kept_queue.QueueNote.TheVariants.{By}
use Rattle.xa_server.specs.xa_held.Joins.{events_at}
use Rattle.xa_server.specs.xa_held.Kept.{Kept, IsRight, Brings, notes_of}
use Rattle.xa_server.specs.xa_held.Notes.{maker_of}
use Rattle.xa_server.specs.xa_held.Steps.{TookAs}
use Rattle.xa_server.specs.xa_held.Visits.{Visits}
use Rattle.xa_server.proofs.xa_held.Front.{knows_events}
use Rattle.xa_server.proofs.xa_held.Seen.{events_more}
use Rattle.xa_server.specs.xa_caller.declared.cargo.Filling.{Filling}
use Rattle.xa_server.specs.xa_caller.Caller.{CallerState}
use Rattle.xa_server.specs.xa_caller.Drafts.{Cargo}
use Rattle.xa_server.specs.xa_caller.Serving.{noted_off}
use Rattle.xa_server.specs.declared.slot.Last.TheVariants.{Nothing as NoLast}
use Rattle.xa_server.specs.declared.slot.ServerSlot.{ServerSlot}
use Rattle.xa_server.specs.Doings.{life_in}
use Rattle.xa_server.specs.Slot.{Stands}
use Rattle.xa_desk.specs.declared.domain.Domain.{Domain}
use Rattle.xa_desk.specs.declared.desk.Desk.{Desk}
use Rattle.xa_desk.specs.declared.serving.Took.TheVariants as tooks
use Rattle.xa_desk.specs.Whole.{Whole, entries_of}
use Rattle.xa_desk.specs.Desks.{GoesOn, Leads}
use Rattle.xa_desk.specs.Found.{SawInHandAt}
use Rattle.xa_desk.specs.Serving.{IsSentLast, IsTaken, IsServing, TakesAs}
use Rattle.xa_desk.proofs.Showing.{front_there, takes_seen}
use Rattle.xa_desk.proofs.Taking.{its_some, notes_serve}
use Rattle.xa_desk.proofs.Visiting.{QueuePass, Step, its_pass, now_has, seen_front, setting_found, later, event_leads}

-- behind an event that its maker noted a pass knows all of the queue
knows_one : {p p' : Page (QueueNote Filling)} {made : Made} {How : Kept Filling → Kept Filling → Type 0} (visits : Visits p p' (made ∷ []) How) → made.maker.0 ≡ p.maker → Knows maker_of p' (notes_of visits.new)
knows_one {p} {p'} {made} visits its =
    let by : ℕ → List (QueueNote Filling) → List (QueueNote Filling) = λ n l. entries_by maker_of n l in
    let more : List (QueueNote Filling) = By made ∷ [] in (
      ap (by p'.maker) visits.grew ∙ ap (λ n. by n (notes_of visits.old ++ more)) visits.maker ∙ filter-append (λ (note : QueueNote Filling). maker_of note == p.maker) (notes_of visits.old) more ∙ ap (λ l. l ++ by p.maker more) visits.knew.0
          ∙ ap (λ b. p.own ++ cond b more []) (eq-eqb made.maker.0 p.maker its) ∙ sym visits.own,
      ([], sym visits.saw ∙ sym (append-nil p'.seen)),
    )

module _ {d : Domain} {queue k : ℕ} {desk new : Desk} {p p' : QueuePass} {last : Stamp} {slot : ServerSlot} (step : Step d queue k desk new p p' last) (serving : IsServing d queue slot desk) (seen : Stamp) (maker : CallerId) (server : ServerId) (generation : Generation) (out : Outgoing Cargo)
    (saw : seen ≡ desk.caller.work.stamp) (makes : maker ≡ desk.caller.work.id) (serves : server ≡ slot.server) (took : TookAs (Visits (page_of p) (page_of p')) seen maker server generation (Ok (takes.Request out))) (caller : new.caller ≡ noted_off out.noted.stamp out.noted.event.value desk.caller)
    (lives : generation ≡ life_in slot.doing) where
  abbrev Its : Taken
  Its = record { request = out.entry.request; server = slot.server; generation = life_in slot.doing; k = took.old.queue.takes + 1 }

  -- what stood there before
  abbrev Front : List Stamped
  Front = noted_in took.old.queue.entries

  abbrev Sent : List Event → Type 0
  Sent past = IsSomeAnd (latest (is_entry_of out.entry.request) past) (Brings out.entry.request out.entry.cargo.invocation)

  event : out.noted.event.value ≡ Take Its
  event = took.how.0.noted.event_is ∙ ap (λ (s : ServerId). taken out.entry s generation took.old.queue) serves ∙ ap (λ (g : Generation). taken out.entry slot.server g took.old.queue) lives

  next : out.noted.stamp ≡ next_stamp desk.caller.work.stamp took.old.queue
  next = took.how.0.noted.notes.next ∙ ap (λ s. next_stamp s took.old.queue) saw

  rises : desk.caller.work.stamp.0 < out.noted.stamp.0
  rises = later step maker out.noted.stamp out.noted.event.value took next

  took_leads : Leads d desk new
  took_leads = event_leads step maker out.noted.stamp out.noted.event.value took next caller (Take Its) event (ap QueueHome serving.its) tt (λ whole on. record { saw = tt; told = tt; clears = tt })

  -- the take stands behind that
  stands_at_end : events_at (page_of p').seen ≡ Front ++ record { stamp = out.noted.stamp; event = Take Its } ∷ []
  stands_at_end = events_more took ∙ ap (λ (e : Event). Front ++ record { stamp = out.noted.stamp; event = e } ∷ []) event

  sent_last : IsSentLast d.setup queue out.entry.request out.entry.cargo.invocation (past_in Front)
  sent_last news =
      let its = setting_found step took in
      took.how.3 d.setup (record { capacity = ap (capacity_of d.setup) its.id ∙ sym its.capacity; servers = λ server. ap (λ n. queue_of d.setup server == n) its.id ∙ its.servers server }) (subst (λ n. AllNew d.setup n (past_in Front)) (sym its.id) news)

  number : caller_of d.clients slot.server.0 ≡ new.caller.work.id.0
  number = ap (λ n. caller_of n slot.server.0) (sym step.is.clients) ∙ serving.stands.tables.worker.number ∙ sym (ap (λ (c : CallerState). c.work.id.0) caller)

  saw_last : SawInHandAt d slot.server.0 new Sent
  saw_last =
      let is = took_leads.desk in
      let now = now_has step in
      let takes : Event → Bool = is_take_by slot.server.0 in
      let past : past_in (events_at (page_of p').seen) ≡ Take Its ∷ past_in Front = ap past_in stands_at_end ∙ past_in-append Front (record { stamp = out.noted.stamp; event = Take Its } ∷ []) in
      let some = its_some serving in
      let same = ap (λ (c : CallerState). c.work.id.0) caller in
      let knows = knows_one took (ap (λ (i : CallerId). i.0) makes ∙ sym (its_pass step.has step.is).maker) in
      let Saw : ℕ → Type 0 = λ n. (whole : Whole) → GoesOn d whole new → (stamp : Stamp) → new.caller.work.stamp.0 < stamp.0
      → SawFront (entries_of whole (QueueHome n)) stamp (λ past. IfNew d.setup n Sent past × (count takes past ≡ count takes (past_in new.caller.work.own))) in
      subst Saw (sym serving.its) (front_there is now (λ past. IfNew d.setup queue Sent past × (count takes past ≡ count takes (past_in new.caller.work.own)))
      (λ whole on. (subst (IfNew d.setup queue Sent) (sym {A = List Event} past) (λ news. sent_last news.1), takes_seen is now took slot.server.0 serving.its number (omega (arith, some, same)) (knows_events (page_of p') took.new knows) whole on)))

  took_taken : IsTaken d queue Its new out.entry
  took_taken = record {
    its = refl;
    server = number;
    sent = λ whole on.
        let begins = seen_front (now_has step) whole on in
        let x : Stamped = record { stamp = out.noted.stamp; event = Take Its } in
        record { front = Front; stamp = out.noted.stamp; rest = begins.0; parts = begins.1 ∙ ap (λ l. l ++ begins.0) stands_at_end ∙ append_assoc Front (x ∷ []) begins.0; sent = sent_last };
    last = saw_last;
  }

  pub took_goes : (slot' : ServerSlot) → Stands slot' new.caller.work → slot' ≡ record slot { doing = Busy (life_in slot.doing) out.entry.request; hand = Some out.entry; last = NoLast } → Leads d desk new × IsServing d queue slot' new × TakesAs d queue (Ok tooks.Request) slot slot' desk new
  took_goes slot' stands is = (
    took_leads,
    notes_serve step serving maker out.noted took caller (Take Its) event slot' (λ left. (sym (ap (λ (x : ServerSlot). x.gone) is) ∙ left, refl)) stands (ap (λ (x : ServerSlot). x.server) is)
        (subst (λ h. IfSome h (IsRight d.cells)) (sym (ap (λ (x : ServerSlot). x.hand) is)) (subst (λ cells. IsRight cells out.entry) (setting_found step took).cells took.how.1)),
    (out.entry, out.noted.stamp, took.old.queue.takes + 1, is, rises, caller ∙ ap (λ (e : Event). noted_off out.noted.stamp e desk.caller) event, took_taken),
  )
