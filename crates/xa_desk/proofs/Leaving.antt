-- A server that is given up at its queue.
use Rattle.std.proofs.Common.{◌≡◌, ℕ, ◌≤◌, true, false, List, [], ◌∷◌, ◌++◌, Ok, sym, ◌∙◌, ap, subst, arith}
use Rattle.std.specs.Prelude.{IfSome}
use Rattle.std.specs.List.{All, Contains}
use Rattle.std.proofs.lemmas.List.Elements.{Contains-push}
use Rattle.xa_server.specs.xa_types.declared.ids.CallerId.{CallerId}
use Rattle.xa_server.specs.xa_types.declared.ids.ServerId.{ServerId}
use Rattle.xa_server.specs.xa_types.declared.stamp.Stamp.{Stamp}
use Rattle.xa_server.specs.xa_events.declared.event.Event.{Event}
use Rattle.xa_server.specs.xa_events.declared.event.Event.TheVariants.{Gone}
use Rattle.xa_server.specs.xa_events.Homes.Home.{QueueHome}
use Rattle.xa_server.specs.xa_stamp.declared.home.Stamped.{Stamped}
use Rattle.xa_server.specs.xa_lock.Known.{known as page_of}
use Rattle.xa_server.specs.xa_lock.Pages.{StartsWith}
use Rattle.xa_server.specs.xa_worker.Seen.{past_in}
use Rattle.xa_server.specs.xa_queue.declared.told.GivenUp.{GivenUp}
use Rattle.xa_server.specs.xa_queue.Changes.{next_stamp}
use Rattle.xa_server.specs.xa_held.Joins.{SawLeft, events_at}
use Rattle.xa_server.specs.xa_held.Kept.{notes_of, IsRight}
use Rattle.xa_server.specs.xa_held.Steps.{GaveUpAs}
use Rattle.xa_server.specs.xa_held.Visits.{Visits}
use Rattle.xa_server.proofs.xa_held.Lefts.{events_front, saw_left, saw_others, seen_gone}
use Rattle.xa_server.proofs.xa_held.Seen.{events_kept}
use Rattle.xa_server.specs.xa_caller.Caller.{CallerState}
use Rattle.xa_server.specs.xa_caller.declared.cargo.Filling.{Filling}
use Rattle.xa_server.specs.xa_caller.Serving.{noted_off}
use Rattle.xa_server.specs.declared.slot.ServerSlot.{ServerSlot}
use Rattle.xa_server.specs.Slot.{Stands}
use Rattle.xa_desk.specs.declared.domain.Domain.{Domain}
use Rattle.xa_desk.specs.declared.desk.Desk.{Desk}
use Rattle.xa_desk.specs.Desks.{Leads, queue_page}
use Rattle.xa_desk.specs.Found.{SawAtQueue}
use Rattle.xa_desk.specs.Serving.{GaveUp, IsServing, IsDeserted, LeftOthers, LeavesAs}
use Rattle.xa_desk.proofs.Showing.{setting, saw_there}
use Rattle.xa_desk.proofs.Visiting.{QueuePass, Step, its_pass, page_is, now_has, later, event_leads}
use Rattle.xa_desk.proofs.Taking.{notes_serve}

module _ {d : Domain} {queue k : ℕ} {desk new : Desk} {p p' : QueuePass} {last : Stamp} {slot : ServerSlot} (step : Step d queue k desk new p p' last) (serving : IsServing d queue slot desk) (seen : Stamp) (maker : CallerId) (server : ServerId) (done : GivenUp)
    (saw : seen ≡ desk.caller.work.stamp) (serves : server ≡ slot.server) (left : GaveUpAs (Visits (page_of p) (page_of p')) seen maker server (Ok done)) (caller : new.caller ≡ noted_off done.noted.stamp done.noted.event.value desk.caller) where
  next : done.noted.stamp ≡ next_stamp desk.caller.work.stamp left.old.queue
  next = left.how.0.notes.next ∙ ap (λ s. next_stamp s left.old.queue) saw

  event : done.noted.event.value ≡ Gone slot.server
  event = left.how.0.event_is ∙ ap Gone serves

  left_leads : Leads d desk new
  left_leads = event_leads step maker done.noted.stamp done.noted.event.value left next caller (Gone slot.server) event (ap QueueHome serving.its) tt (λ whole on. record { saw = tt; told = tt; clears = tt })

  left_serves : (slot' : ServerSlot) → Stands slot' new.caller.work → slot' ≡ record slot { gone = true } → IsServing d queue slot' new
  left_serves slot' stands slot_is =
      notes_serve step serving maker done.noted left caller (Gone slot.server) event slot' (λ stays. absurd (cc (stays, ap (λ (s : ServerSlot). s.gone) slot_is))) stands (ap (λ (s : ServerSlot). s.server) slot_is)
      (subst (λ h. IfSome h (IsRight d.cells)) (sym (ap (λ (s : ServerSlot). s.hand) slot_is)) serving.hand)

  -- where it was the last there
  left_gave : SawLeft d.setup queue new.caller.work.stamp (queue_page new queue) → GaveUp d queue new
  left_gave saw_last whole on stamp less =
      let entry : Stamped = record { stamp = done.noted.stamp; event = Gone slot.server } in
      let own : new.caller.work.own ≡ desk.caller.work.own ++ entry ∷ [] = ap (λ (c : CallerState). c.work.own) caller ∙ ap (λ (e : Event). desk.caller.work.own ++ record { stamp = done.noted.stamp; event = e } ∷ []) event in
      let now : new.caller.work.stamp ≡ done.noted.stamp = ap (λ (c : CallerState). c.work.stamp) caller in
      let reached = ap (λ (s : Stamp). s.0) now in
      record {
        server = slot.server;
        its = serving.its;
        reach = done.noted.stamp;
        stands = subst (λ (l : List Stamped). Contains l entry) (sym {A = List Stamped} own) (Contains-push desk.caller.work.own entry);
        before = omega (arith, less, reached);
        front = events_at (queue_page new queue).seen;
        begins = subst (λ (l : List Stamped). StartsWith l (events_at (queue_page new queue).seen)) (events_kept (whole.queues queue)) (events_front Filling (notes_of (whole.queues queue)) (queue_page new queue).seen (on.queues queue));
        until = subst (λ (s : Stamp). All (λ (x : Stamped). x.stamp.0 ≤ s.0) (events_at (queue_page new queue).seen)) now saw_last.reached;
        all = seen_gone d.setup queue new.caller.work.stamp (queue_page new queue) saw_last;
      }

  -- it was the last there, or another is left
  left_last : (done.last ≡ true → IsDeserted d queue new) × (done.last ≡ false → SawAtQueue d queue new (LeftOthers d queue slot.server.0))
  left_last =
      let is = left_leads.desk in
      let has = now_has step in
      let its = setting is has left in (
        λ last_one.
            let saw_last : SawLeft d.setup queue new.caller.work.stamp (queue_page new queue) = subst (λ page. SawLeft d.setup queue new.caller.work.stamp page) (sym (page_is has)) (saw_left seen maker server done left d.setup queue its.id its.servers new.caller.work.stamp (its_pass has is).reached last_one) in
            record { left = saw_last; last = left_gave saw_last },
        λ not_last. saw_there is has (LeftOthers d queue slot.server.0) (λ news. subst (λ s. LeftOthers d queue s.0 (past_in (events_at (page_of p').seen))) serves (saw_others seen maker server done left d.setup queue its.id its.servers serving.some not_last)),
      )

  pub leaves : (slot' : ServerSlot) → Stands slot' new.caller.work → slot' ≡ record slot { gone = true } → Leads d desk new × IsServing d queue slot' new × LeavesAs d queue (Ok done.last) slot slot' desk new
  leaves slot' stands slot_is = (
    left_leads,
    left_serves slot' stands slot_is,
    (slot_is, (done.noted.stamp, later step maker done.noted.stamp done.noted.event.value left next, caller ∙ ap (λ (e : Event). noted_off done.noted.stamp e desk.caller) event), left_last.0, left_last.1),
  )
